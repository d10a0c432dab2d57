use Rattle.std.proofs.Common.{Option, ap, sym, subst}
use Rattle.kj_value.specs.Fields.{field}
use Rattle.kube_meta.specs.View.{object_of}
use Rattle.hub_cells.specs.Level.{Name}
use Rattle.keep_laws.specs.Notes.{Spells}
use Rattle.keep_laws.proofs.Made.{form_reads}
use Rattle.spoke_keep.specs.Fault.{IsBadAt}
use Rattle.spoke_keep.proofs.Steps.{no_fault}
use Rattle.spoke_keep.proofs.form.own_kept.Goals as goal

pub unreachable-requires : goal.unreachable-requires
unreachable-requires c =
    let reads = form_reads c.given.ensures c.args.all.now c.requires.place.0 c.args.s.now c.items.ensures.definition c.requires.place.1 (object_of c.args.h.now) c.requires.whole in
    let found = ap (λ (k : Name). field k c.args.h.now.meta.annotations) c.key.ensures in
    no_fault (field c.key.result.now c.args.h.now.meta.annotations) reads.0 _ _ (subst (λ (o : Option Name). Spells o reads.0) (sym found) reads.1) (subst (IsBadAt c.key.result.now (field c.key.result.now c.args.h.now.meta.annotations)) c.in-Err-BadKept.field-0-is c.in-Err-BadKept.ensures.err)
