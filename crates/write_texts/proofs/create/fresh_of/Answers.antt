use Rattle.std.proofs.Common.{◌≡◌, List, ℕ, Some, None, pos, true, ap, sym, subst, ◌∙◌}
use Rattle.kube_meta.specs.Names.{is_name}
use Rattle.kube_meta.specs.View.{ObjectView, object_of}
use Rattle.api_calls.specs.Versions.{request_of}
use Rattle.write_texts.specs.Readying.{IsFresh}
use Rattle.write_texts.proofs.Ascii.{name_fits, namespace_fits}
use Rattle.write_texts.proofs.Preparing.{admitted_name, fresh}
use Rattle.write_texts.proofs.create.fresh_of.Goals as goal

pub of-requires-clause-ns_fits : goal.of-requires-clause-ns_fits
of-requires-clause-ns_fits g c = namespace_fits c.args.input.now.ns.now c.requires.request.ns

pub of-requires-clause-name_fits : goal.of-requires-clause-name_fits
of-requires-clause-name_fits g c =
    let it = c.args.lent.now.versions.now in
    let m = g.V.Versions.meaning it in
    name_fits c.as_str.result.now
    (subst (λ (n : List ℕ). is_name n ≡ true) (sym (c.as_str.ensures ∙ ap (λ (o : ObjectView). o.meta.name) c.new_value-hub.ensures))
    (admitted_name m (g.met.V.Versions.stand it) (g.met.V.Versions.admitted it) (request_of c.args.input.now) (object_of c.args.admitted.hub) c.args.admitted.expected c.requires.admits))

pub returns-clause-value : goal.returns-clause-value
returns-clause-value g c =
    let it = c.args.lent.now.versions.now in
    let m = g.V.Versions.meaning it in
    let old = object_of c.args.admitted.hub in
    let weight = c.args.admitted.weight in
    subst (λ (o : ObjectView). IsFresh m c.in-Ok.key o weight) (sym c.new_value-hub.ensures)
    (fresh m (g.met.V.Versions.stand it) (g.met.V.Versions.unstamped it) (g.met.V.Versions.admitted it) (request_of c.args.input.now) c.in-Ok.key old c.args.admitted.expected weight
    c.args.stamp.text c.requires.stamp c.requires.admits
    (λ honest. c.one_weight.ensures.unstamped it old weight (Some c.args.stamp.text) None (pos 1) (c.requires.weighs honest)) c.requires.some
    c.in-Ok.ensures.ns (c.in-Ok.ensures.name ∙ c.as_str.ensures ∙ ap (λ (o : ObjectView). o.meta.name) c.new_value-hub.ensures))
