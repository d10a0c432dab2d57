-- What a link tells over which one call was made.
use Rattle.std.proofs.Common.{◌≡◌, ◌∙◌, ◌<◌, ℕ, List, [], ◌++◌, Option, None, Some, refl, ap, sym, subst, arith}
use Rattle.std.specs.Prelude.{IfSome, option_map, ⊤}
use Rattle.edge_io.specs.Causes.{Rose}
use Rattle.edge_io.specs.Exchanges.{Exchange}
use Rattle.record_dump.specs.Dumps as dumping
use Rattle.record_dump.specs.Restores as restoring
use Rattle.record_dump.specs.declared.ends.DumpEnd.{DumpEnd}
use Rattle.record_dump.specs.declared.ends.DumpEnd.TheVariants as dumps
use Rattle.record_dump.specs.declared.ends.RestoreEnd.{RestoreEnd}
use Rattle.record_dump.specs.declared.ends.RestoreEnd.TheVariants as restores

-- a link that had made no exchange made these
pub these : (before now : Option (List Exchange)) (es : List Exchange) → IfSome before (λ made. made ≡ []) → now ≡ option_map (λ made. made ++ es) before → IfSome now (λ made. made ≡ es)
these None now es none grown = subst (λ (o : Option (List Exchange)). IfSome o (λ made. made ≡ es)) (sym grown) tt
these (Some made) now es none grown =
    let is : now ≡ Some es = grown ∙ ap (λ (l : List Exchange). Some (l ++ es)) none in
    subst (λ (o : Option (List Exchange)). IfSome o (λ made. made ≡ es)) (sym is) refl

-- a link that hadn't failed, and over which a dump broke, has failed
pub dump_failed : (d : DumpEnd) (Q : Type 0) (before now : ℕ) → before ≡ 0 → dumping.OnFaults (Rose before now) Q d → d ≡ dumps.LinkFault → 0 < now
dump_failed d Q before now none cause is =
    let rose : Rose before now = subst (λ (x : DumpEnd). dumping.OnFaults (Rose before now) Q x) is cause in omega (arith, none, rose)

pub restore_failed : (d : RestoreEnd) (Q : Type 0) (before now : ℕ) → before ≡ 0 → restoring.OnFaults (Rose before now) Q d → d ≡ restores.LinkFault → 0 < now
restore_failed d Q before now none cause is =
    let rose : Rose before now = subst (λ (x : RestoreEnd). restoring.OnFaults (Rose before now) Q x) is cause in omega (arith, none, rose)

-- what is told of the output, or of the input, alone
pub dump_blames : (P Q : Type 0) (d : DumpEnd) → dumping.OnFaults P Q d → dumping.OnFaults ⊤ Q d
dump_blames P Q (dumps.Done lines) cause = tt
dump_blames P Q dumps.LinkFault cause = tt
dump_blames P Q dumps.WriteFault cause = cause
dump_blames P Q (dumps.Answer code) cause = tt
dump_blames P Q dumps.Expired cause = tt
dump_blames P Q dumps.NoMemory cause = tt

pub restore_blames : (P Q : Type 0) (d : RestoreEnd) → restoring.OnFaults P Q d → restoring.OnFaults ⊤ Q d
restore_blames P Q (restores.Done created present) cause = tt
restore_blames P Q restores.LinkFault cause = tt
restore_blames P Q restores.ReadFault cause = cause
restore_blames P Q (restores.BadLine number) cause = tt
restore_blames P Q (restores.Cut number) cause = tt
restore_blames P Q restores.TooMany cause = tt
restore_blames P Q (restores.Answer number code) cause = tt
restore_blames P Q restores.NoMemory cause = tt
