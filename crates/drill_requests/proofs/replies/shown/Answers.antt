use Rattle.std.proofs.Common.{◌≡◌, []}
use Rattle.drill_requests.specs.Replies.{items_in, version_in}
use Rattle.drill_requests.proofs.Reading.{shown_value}
use Rattle.drill_requests.proofs.replies.shown.Goals as goal

pub returns-in-Some : goal.returns-in-Some
returns-in-Some c =
    shown_value c.args.list.now c.in_ok-list.field-0 c.in-Some.list c.parts_of.result (λ s j. (s.0 ≡ items_in j) × (s.1.bytes ≡ version_in j)) (λ s. (s.0 ≡ 0) × (s.1.bytes ≡ []))
    c.in-Some.is c.in_ok-list.ensures.value c.parts_of.ensures
