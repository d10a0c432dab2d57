-- How long the texts of lists and objects are.
use Rattle.std.proofs.Common.{◌≡◌, ℕ, ◌+◌, List, [], ◌∷◌, ◌++◌, length, length-append, arith}
use Rattle.std.specs.Prelude.{flat_map}
use Rattle.kj_value.specs.Json.{Json, list, object, items_of, members_of}
use Rattle.kj_value.specs.Fields.{Pairs}
use Rattle.kj_value.specs.Text.{escaped_byte, quoted, text_of, more_items, members_text, more_members}
use Rattle.crd_admission.specs.inner.Count.{field_bytes, total}

pub length-quoted : (s : List ℕ) → length (quoted s) ≡ 2 + length (flat_map escaped_byte s)
length-quoted s = omega (arith, length-append (flat_map escaped_byte s) (34 ∷ []))

-- ---- lists

pub more_items-cons : (j : Json) (js : List Json) → length (more_items (items_of (j ∷ js))) ≡ 1 + length (text_of j) + length (more_items (items_of js))
more_items-cons j js = omega (arith, length-append (text_of j) (more_items (items_of js)))

pub length-list_none : (js : List Json) → length js ≡ 0 → length (text_of (list (items_of js))) ≡ 2
length-list_none [] h = omega arith
length-list_none (j ∷ js) h = absurd (omega arith)

-- nothing stands before the first item, and a bracket behind the last
pub length-list_some : (js : List Json) → (length js ≡ 0 → ⊥) → length (text_of (list (items_of js))) ≡ 1 + length (more_items (items_of js))
length-list_some [] h = absurd (h (omega arith))
length-list_some (j ∷ js) h =
    let a = length-append (text_of j) (more_items (items_of js)) in
    let b = length-append (text_of j ++ more_items (items_of js)) (93 ∷ []) in
    omega (arith, a, b)

-- ---- objects

pub more_members-total : (ps : Pairs) → length (more_members (members_of ps)) ≡ total field_bytes ps
more_members-total [] = omega arith
more_members-total (p ∷ ps) =
    let a = length-append (quoted p.0) (58 ∷ (text_of p.1 ++ more_members (members_of ps))) in
    let b = length-append (text_of p.1) (more_members (members_of ps)) in
    omega (arith, a, b, more_members-total ps)

pub length-object_none : (ps : Pairs) → length ps ≡ 0 → length (text_of (object (members_of ps))) ≡ 2
length-object_none [] h = omega arith
length-object_none (p ∷ ps) h = absurd (omega arith)

-- nothing stands before the first field, and a brace behind the last
pub length-object_some : (ps : Pairs) → (length ps ≡ 0 → ⊥) → length (text_of (object (members_of ps))) ≡ 1 + total field_bytes ps
length-object_some [] h = absurd (h (omega arith))
length-object_some (p ∷ ps) h =
    let a = length-append (quoted p.0) (58 ∷ (text_of p.1 ++ more_members (members_of ps))) in
    let b = length-append (text_of p.1) (more_members (members_of ps)) in
    let c = length-append (members_text (members_of (p ∷ ps))) (125 ∷ []) in
    omega (arith, a, b, c, more_members-total ps)
