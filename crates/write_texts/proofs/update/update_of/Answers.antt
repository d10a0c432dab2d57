use Rattle.std.proofs.Common.{ap, sym, subst, ◌∙◌}
use Rattle.std.proofs.Math.Facts.{to_z-of_z}
use Rattle.std.specs.Prelude.{ℤ, pos, ◌≡◌, ◌↔◌, ◌+ℤ◌, if◌then◌else◌, FitsSigned, IsTrue}
use Rattle.std.specs.Int.{w64}
use Rattle.kj_value.specs.Fields.{Pairs}
use Rattle.kube_meta.specs.View.{ObjectView, object_of}
use Rattle.api_calls.specs.Meaning.{stamped}
use Rattle.api_calls.specs.Values.{is_forbidden, is_release}
use Rattle.api_calls.specs.Versions.{IsBody}
use Rattle.write_texts.proofs.Updating.{made-update, one-body}
use Rattle.write_texts.proofs.update.update_of.Goals as goal

pub same_if-requires-clause-bodies : goal.same_if-requires-clause-bodies
same_if-requires-clause-bodies c = λ equal.
    one-body c.compared-bodies.result.0 (object_of c.args.old) (object_of c.args.new) (object_of c.compared-bodies.result.2) (object_of c.compared-bodies.result.1) (object_of c.updated-hub.result) c.in-Some.generation
    c.compared-bodies.ensures.same c.compared-bodies.ensures.first c.compared-bodies.ensures.second
    (c.updated-hub.ensures ∙ ap (λ (z : ℤ). stamped (object_of c.compared-bodies.result.1) (object_of c.compared-bodies.result.2).meta.created (object_of c.compared-bodies.result.2).meta.deleted z) (to_z-of_z c.in-Some.ensures.fits)) equal

pub same_if-requires-clause-apart : goal.same_if-requires-clause-apart
same_if-requires-clause-apart c = (
  subst (λ (f : Pairs). IsBody f) (sym (ap (λ (o : ObjectView). o.body) c.updated-hub.ensures ∙ ap (λ (o : ObjectView). o.body) c.compared-bodies.ensures.first)) c.requires.new_body,
  subst (λ (o : ObjectView). IsBody o.body) (sym c.compared-bodies.ensures.second) c.requires.old_body,
)

pub returns-clause-update : goal.returns-clause-update
returns-clause-update c =
    let old = object_of c.compared-bodies.result.2 in
    let new = object_of c.compared-bodies.result.1 in
    let bodies = c.compared-bodies.result.0 in
    let fits = subst (λ (o : ObjectView). FitsSigned w64 o.meta.generation) (sym c.compared-bodies.ensures.second) c.requires.old_fits in
    made-update bodies (object_of c.args.old) (object_of c.args.new) old new (object_of c.updated-hub.result) c.in-Some.generation
    c.compared-bodies.ensures.same c.compared-bodies.ensures.first c.compared-bodies.ensures.second
    (c.updated-hub.ensures ∙ ap (λ (z : ℤ). stamped new old.meta.created old.meta.deleted z) (to_z-of_z c.in-Some.ensures.fits))
    (c.in-Some.ensures.next ∙ ap (λ (z : ℤ). if bodies then z else z +ℤ pos 1) (to_z-of_z fits))

pub returns-clause-fits : goal.returns-clause-fits
returns-clause-fits c = subst (FitsSigned w64) (sym (ap (λ (o : ObjectView). o.meta.generation)
    (c.updated-hub.ensures ∙ ap (λ (z : ℤ). stamped (object_of c.compared-bodies.result.1) (object_of c.compared-bodies.result.2).meta.created (object_of c.compared-bodies.result.2).meta.deleted z) (to_z-of_z c.in-Some.ensures.fits)))) c.in-Some.ensures.fits

pub returns-clause-equal : goal.returns-clause-equal
returns-clause-equal c =
    subst (λ (o : ObjectView). IsTrue c.in-Ok.equal ↔ (object_of c.updated-hub.result ≡ o)) c.compared-bodies.ensures.second c.in-Ok.ensures

pub returns-clause-forbidden : goal.returns-clause-forbidden
returns-clause-forbidden c = c.adds-forbidden.ensures ∙ ap (λ (o : ObjectView). is_forbidden o (object_of c.updated-hub.result)) c.compared-bodies.ensures.second

pub returns-clause-release : goal.returns-clause-release
returns-clause-release c = c.ends-release.ensures ∙ ap (λ (o : ObjectView). is_release o (object_of c.updated-hub.result)) c.compared-bodies.ensures.second
