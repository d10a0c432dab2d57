use Rattle.std.proofs.Common.{arith}
use Rattle.rule_reading.proofs.Places.{not_two}
use Rattle.rule_reading.proofs.texts.two_items.Goals as goal

pub returns-in-len1 : goal.returns-in-len1
returns-in-len1 c =
    rw c.in-List.is (not_two c.as_slice.result.now _ c.as_slice.ensures.value (λ q. absurd (omega (arith, c.in-len1.len_below))))

pub returns-in-len3-up : goal.returns-in-len3-up
returns-in-len3-up c =
    rw c.in-List.is (not_two c.as_slice.result.now _ c.as_slice.ensures.value (λ q. absurd (omega (arith, c.in-len3-up.len_at_least))))
