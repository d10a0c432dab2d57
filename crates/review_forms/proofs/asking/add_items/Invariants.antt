use Rattle.std.proofs.Common.{◌≡◌, ◌++◌, take, map}
use Rattle.kj_value.specs.Json.{items_of}
use Rattle.kj_value.specs.Seen.{json}
use Rattle.kj_value.specs.Text.{items_text}
use Rattle.review_forms.proofs.asking.add_items.Given as goal

-- those before stand there
abbrev pub invariant-loop-i : goal.invariant-loop-i
invariant-loop-i l = l.page ≡ record l.fn.page { text = l.fn.page.text ++ items_text (items_of (take l.i (map json l.values))) }
