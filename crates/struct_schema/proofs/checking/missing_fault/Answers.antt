use Rattle.std.proofs.Common.{List, ℕ, Option, Some, subst}
use Rattle.kj_value.specs.declared.rule.Rule.TheVariants.{Required}
use Rattle.struct_schema.specs.Fault.{here, missing_fault}
use Rattle.struct_schema.specs.Told.{StopsCheck}
use Rattle.struct_schema.proofs.checking.missing_fault.Goals as goal

pub returns-in-Some : goal.returns-in-Some
returns-in-Some c =
    let e = c.under_name.result in
    subst (λ (o : Option (List ℕ)). StopsCheck (missing_fault o) e) c.in-Some.ensures (subst (λ (n : List ℕ). StopsCheck (missing_fault (Some n)) e) c.as_str.ensures (c.under_name.ensures (Some (here Required)) c.broken_here.ensures))
