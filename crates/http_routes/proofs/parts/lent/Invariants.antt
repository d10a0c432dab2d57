use Rattle.std.proofs.Common.{◌≡◌, map, take}
use Rattle.std.specs.Cow.{cow_slice_items}
use Rattle.http_routes.specs.Views.{now_of}
use Rattle.http_routes.proofs.parts.lent.Given as goal

-- those so far
abbrev pub invariant-loop-part : goal.invariant-loop-part
invariant-loop-part l = map now_of l.lent.items ≡ map cow_slice_items (take l.part-index l.parts)
