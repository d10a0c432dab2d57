use Rattle.std.proofs.Common.{◌≡◌, ℕ, ◌+◌, ◌*◌, ◌≤◌, length}
use Rattle.json.specs.Json.{items, members, value, parse_map}
use Rattle.serde_json.specs.Data.{no_members}
use Rattle.serde_json.specs.Read.{of_items, of_members, converted}
use Rattle.kj_value.specs.Json.{items_of, members_of, items_depth, members_depth}
use Rattle.kj_value.specs.Data.{members_data}
use Rattle.kj_value.proofs.Tokens.{items_before}
use Rattle.kj_value.proofs.quick.+quick.Given as goal

abbrev pub decreases-quick : goal.decreases-quick
decreases-quick l = 2 * l.levels

abbrev pub decreases-quick_items : goal.decreases-quick_items
decreases-quick_items l = 2 * l.levels + 1

abbrev pub decreases-quick_members : goal.decreases-quick_members
decreases-quick_members l = 2 * l.levels + 1

abbrev pub invariant-quick_items-items : goal.invariant-quick_items-items
invariant-quick_items-items l =
    (n : ℕ) × (length l.reader ≤ n)
    × (converted of_items (items (value l.nested) (length l.initial.reader) l.initial.reader) ≡ parse_map (items_before l.found) (converted of_items (items (value l.nested) n l.reader)))
    × (length l.reader ≤ length l.initial.reader)
    × (items_depth (items_of l.found) ≤ l.levels)

abbrev pub decreases-quick_items-items : goal.decreases-quick_items-items
decreases-quick_items-items l = length l.reader

abbrev pub invariant-quick_members-members : goal.invariant-quick_members-members
invariant-quick_members-members l =
    (n : ℕ) × (length l.reader ≤ n)
    × (converted (λ ms. of_members ms no_members) (members (value l.nested) (length l.initial.reader) l.initial.reader) ≡ converted (λ ms. of_members ms (members_data (members_of l.found))) (members (value l.nested) n l.reader))
    × (length l.reader ≤ length l.initial.reader)
    × (members_depth (members_of l.found) ≤ l.levels)

abbrev pub decreases-quick_members-members : goal.decreases-quick_members-members
decreases-quick_members-members l = length l.reader
