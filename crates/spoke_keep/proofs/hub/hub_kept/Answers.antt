use Rattle.std.proofs.Common.{Option, ap, sym, subst, ◌∙◌}
use Rattle.kj_value.specs.Fields.{field}
use Rattle.hub_cells.specs.Level.{Name}
use Rattle.keep_laws.specs.Keys.{hub_key}
use Rattle.keep_laws.specs.Notes.{Spells}
use Rattle.spoke_keep.specs.Fault.{IsBadAt}
use Rattle.spoke_keep.proofs.Alive.{settled_reads}
use Rattle.spoke_keep.proofs.Steps.{no_fault}
use Rattle.spoke_keep.proofs.hub.hub_kept.Goals as goal

pub unreachable-requires : goal.unreachable-requires
unreachable-requires c =
    let reads = settled_reads c.requires.0 c.requires.1 c.requires.2 c.requires.4 in
    let found = ap (λ (k : Name). field k c.args.annotations.now) c.hub_key.ensures ∙ ap (field hub_key) (sym c.requires.3) in
    no_fault (field c.hub_key.result.now c.args.annotations.now) reads.0 _ _ (subst (λ (o : Option Name). Spells o reads.0) (sym found) reads.1) (subst (IsBadAt c.hub_key.result.now (field c.hub_key.result.now c.args.annotations.now)) c.in-Err-BadKept.field-0-is c.in-Err-BadKept.ensures.err)
