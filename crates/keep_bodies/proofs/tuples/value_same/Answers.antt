use Rattle.std.proofs.Common.{Option, option_map, ap₂, sym, ◌∙◌}
use Rattle.kj_value.specs.Seen.{json}
use Rattle.kj_value.specs.declared.value.JVal.{JVal}
use Rattle.keep_laws.specs.Settle.{value_same}
use Rattle.keep_bodies.proofs.Tests.{same_test}
use Rattle.keep_bodies.proofs.tuples.value_same.Goals as goal

pub returns-in-Some-Some : goal.returns-in-Some-Some
returns-in-Some-Some c =
    same_test c.same.result (json c.in-Some-Some.v) (json c.in-Some-Some.w) c.same.ensures ∙ ap₂ (λ (o p : Option JVal). value_same (option_map json o) (option_map json p)) (sym c.in-Some-Some.is-0) (sym c.in-Some-Some.is-1)
