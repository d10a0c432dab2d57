use Rattle.std.proofs.Common.{Some, subst, sym}
use Rattle.kube_meta.specs.View.{ObjectView, object_of}
use Rattle.api_calls.specs.Meaning.{Weighs}
use Rattle.write_texts.proofs.Stamps.{whole-marked}
use Rattle.write_texts.proofs.mark.prepare_mark.Goals as goal

pub prepare_write-requires-clause-whole : goal.prepare_write-requires-clause-whole
prepare_write-requires-clause-whole g c =
    let it = c.args.lent.now.versions.now in
    subst (λ (x : ObjectView). (g.V.Versions.meaning it).whole x) (sym c.stamped-hub.ensures)
    (whole-marked (g.V.Versions.meaning it) (object_of c.args.old) c.args.stamp.text (g.met.V.Versions.stand it) (g.met.V.Versions.unstamped it) c.requires.whole c.requires.stamp)

pub prepare_write-requires-clause-weighs : goal.prepare_write-requires-clause-weighs
prepare_write-requires-clause-weighs g c = λ honest.
    let it = c.args.lent.now.versions.now in
    let h = object_of c.args.old in
    subst (λ (x : ObjectView). Weighs (g.V.Versions.meaning it) x c.args.weight) (sym c.stamped-hub.ensures)
    (c.one_weight.ensures.unstamped it h c.args.weight h.meta.created (Some c.args.stamp.text) h.meta.generation (c.requires.weighs honest))
