use Rattle.std.proofs.Common.{◌≡◌, ℕ, List, [], drop, map, nat_cmp}
use Rattle.std.specs.Prelude.{is_some}
use Rattle.std.specs.List.{list_any}
use Rattle.std.specs.Str.{bytes_eq}
use Rattle.std.specs.Cmp.Lexicographic.{slice_cmp}
use Rattle.std.specs.BTreeMap.{get_by}
use Rattle.kj_value.specs.Json.{items_of}
use Rattle.kj_value.specs.Seen.{json}
use Rattle.schema_reading.specs.Allowed.{are_new}
use Rattle.schema_reading.proofs.keywords.are_new.Given as goal

abbrev pub invariant-loop-v : goal.invariant-loop-v
invariant-loop-v l =
    (done : List (List ℕ)) × ((q : List ℕ) → is_some (get_by (λ k. slice_cmp nat_cmp q k.now) l.seen) ≡ list_any (λ k. bytes_eq q k) done) × (are_new done (items_of (map json (drop l.v-index l.items))) ≡ are_new [] (items_of (map json l.items)))
