use Rattle.std.proofs.Common.{List, ℕ, subst, sym, ◌∙◌}
use Rattle.kube_meta.specs.View.{object_of}
use Rattle.api_calls.specs.Versions.{IsStored}
use Rattle.write_texts.proofs.change.updated.Goals as goal

pub hub_of-requires : goal.hub_of-requires
hub_of-requires g c =
    let m = g.V.Versions.meaning c.args.lent.now.versions.now in
    (c.requires.stored.0, subst (λ (bs : List ℕ). IsStored m c.args.seen.now.at c.requires.stored.0 bs) (sym (c.as_bytes-bytes.ensures.value ∙ c.as_str.ensures)) c.requires.stored.1)

pub update_of-requires-clause-new_body : goal.update_of-requires-clause-new_body
update_of-requires-clause-new_body g c =
    let it = c.args.lent.now.versions.now in
    ((g.met.V.Versions.stand it).whole (object_of c.args.new) c.requires.whole).body

pub update_of-requires-clause-old_body : goal.update_of-requires-clause-old_body
update_of-requires-clause-old_body g c =
    let it = c.args.lent.now.versions.now in
    ((g.met.V.Versions.stand it).whole (object_of c.in-Ok.old) c.in-Ok.ensures.ok.whole).body

pub update_of-requires-clause-old_fits : goal.update_of-requires-clause-old_fits
update_of-requires-clause-old_fits g c =
    let it = c.args.lent.now.versions.now in
    ((g.met.V.Versions.stand it).whole (object_of c.in-Ok.old) c.in-Ok.ensures.ok.whole).stamps.generation

pub returns-clause-updates : goal.returns-clause-updates
returns-clause-updates g c =
    let m = g.V.Versions.meaning c.args.lent.now.versions.now in
    record {
      old = object_of c.in-Ok.old;
      stored = subst (λ (bs : List ℕ). IsStored m c.args.seen.now.at (object_of c.in-Ok.old) bs) (c.as_bytes-bytes.ensures.value ∙ c.as_str.ensures) c.in-Ok.ensures.ok;
      update = c.in_ok-update.ensures.update;
      fits = c.in_ok-update.ensures.fits;
      equals = c.in_ok-update.ensures.equal;
      forbidden = c.in_ok-update.ensures.forbidden;
      ends = c.in_ok-update.ensures.release;
    }
