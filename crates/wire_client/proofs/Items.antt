-- The items of a page, judged one after the other.
use Rattle.std.proofs.Common.{◌≡◌, ℕ, zero, suc, ◌+◌, ◌<◌, ◌≤◌, List, [], ◌∷◌, Option, None, Some, option_map, map, drop, length, get_or, refl, ap, sym, ◌∙◌, arith, drop-cons, add-one}
use Rattle.std.proofs.lemmas.List.{drop_all, length-map}
use Rattle.std.specs.Option.{option_or}
use Rattle.kj_value.specs.Json.{Json}
use Rattle.kj_value.specs.Seen.{json}
use Rattle.kj_value.specs.declared.value.JVal.{JVal}
use Rattle.wire_client.specs.Forms.{Path, anything, object_fault, item_path, items_fault}

-- the items from a place on
front_is : (vs : List JVal) (i : ℕ) (v : JVal) → i < length vs → v ≡ get_or vs i v → drop i (map json vs) ≡ json v ∷ drop (suc i) (map json vs)
front_is [] i v within at = absurd (omega arith)
front_is (w ∷ vs) zero v within at = ap (λ (u : JVal). json u ∷ map json vs) (sym at)
front_is (w ∷ vs) (suc i) v within at = front_is vs i v (omega arith) at

stepped : (version : List ℕ) (vs : List JVal) (i : ℕ) (v : JVal) → i < length vs → v ≡ get_or vs i v
    → items_fault version i (drop i (map json vs)) ≡ option_or (option_map (item_path i) (object_fault version anything (json v))) (items_fault version (i + 1) (drop (i + 1) (map json vs)))
stepped version vs i v within at =
    ap (λ (js : List Json). items_fault version i js) (front_is vs i v within at)
    ∙ ap (λ (k : ℕ). option_or (option_map (item_path i) (object_fault version anything (json v))) (items_fault version k (drop k (map json vs)))) (sym (add-one i))

-- this item has another form
pub item_other : (version : List ℕ) (vs : List JVal) (i : ℕ) (v : JVal) (path : Path) → i < length vs → v ≡ get_or vs i v
    → items_fault version 0 (map json vs) ≡ items_fault version i (drop i (map json vs)) → object_fault version anything (json v) ≡ Some path
    → items_fault version 0 (map json vs) ≡ Some (item_path i path)
item_other version vs i v path within at so_far other =
    so_far ∙ stepped version vs i v within at ∙ ap (λ (o : Option Path). option_or (option_map (item_path i) o) (items_fault version (i + 1) (drop (i + 1) (map json vs)))) other

-- this one has its form
pub item_fine : (version : List ℕ) (vs : List JVal) (i : ℕ) (v : JVal) → i < length vs → v ≡ get_or vs i v
    → items_fault version 0 (map json vs) ≡ items_fault version i (drop i (map json vs)) → object_fault version anything (json v) ≡ None
    → items_fault version 0 (map json vs) ≡ items_fault version (i + 1) (drop (i + 1) (map json vs))
item_fine version vs i v within at so_far fine =
    so_far ∙ stepped version vs i v within at ∙ ap (λ (o : Option Path). option_or (option_map (item_path i) o) (items_fault version (i + 1) (drop (i + 1) (map json vs)))) fine

-- all have their form
pub items_fine : (version : List ℕ) (vs : List JVal) (i : ℕ) → length vs ≤ i
    → items_fault version 0 (map json vs) ≡ items_fault version i (drop i (map json vs)) → items_fault version 0 (map json vs) ≡ None
items_fine version vs i past so_far =
    let n : length (map json vs) ≡ length vs = length-map vs json in
    so_far ∙ ap (λ (js : List Json). items_fault version i js) (drop_all i (map json vs) (omega arith))
