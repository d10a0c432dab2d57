-- The objects of a page whose text is UTF-8 have texts that are.
use Rattle.std.proofs.Common.{◌≡◌, refl, subst, ℕ, ◌<◌, nat_eq, List, [], ◌∷◌, ◌++◌, append_assoc, append-nil, length, length-append, get_or, None, Some, pos, codes, decimal, arith}
use Rattle.std.specs.Prelude.{IsUtf8, if◌then◌else◌}
use Rattle.std.specs.Str.{IsCharBoundary}
use Rattle.std.proofs.Math.Seq.{drop-append_seam, take-append_seam}
use Rattle.std.proofs.lemmas.Str.{IsCharBoundary-after_ascii, IsCharBoundary-before_ascii, IsUtf8-drop, IsUtf8-take}
use Rattle.kj_value.specs.Json.{Json, whole, text, object, items_of, members_of}
use Rattle.kj_value.specs.KindLaws.{list_items}
use Rattle.kj_value.specs.Text.{items_text, more_items, more_members, quoted, text_of}
use Rattle.kube_meta.specs.Document.{optional}
use Rattle.api_calls.specs.Documents.{group_version, object_list}
use Rattle.api_calls.specs.Legal.{Each}
use Rattle.api_calls.specs.Meaning.{Meaning}
use Rattle.wire_client.specs.Answers.{Reply, broken, code, given, gone, long, shape}
use Rattle.far_migrate.specs.Pages.{objects_of}

-- the text of what is given is UTF-8
abbrev pub IsSpelled : Reply → Type 0
IsSpelled (given j) = IsUtf8 (text_of j)
IsSpelled broken = Unit {0}
IsSpelled long = Unit {0}
IsSpelled gone = Unit {0}
IsSpelled (code c) = Unit {0}
IsSpelled (shape path) = Unit {0}

abbrev pub AreTexts : List Json → Type 0
AreTexts js = Each (λ j. IsUtf8 (text_of j)) js

-- the texts of the objects of the page that is given are
abbrev pub AreSpelled : Reply → Type 0
AreSpelled (given j) = AreTexts (objects_of j)
AreSpelled broken = Unit {0}
AreSpelled long = Unit {0}
AreSpelled gone = Unit {0}
AreSpelled (code c) = Unit {0}
AreSpelled (shape path) = Unit {0}

-- ---- texts that are cut at a byte of ASCII

seam : (xs ys : List ℕ) (b : ℕ) → get_or (xs ++ b ∷ ys) (length xs) 0 ≡ b
seam [] ys b = refl
seam (x ∷ xs) ys b = seam xs ys b

past : (b : ℕ) (xs : List ℕ) → b < 128 → IsUtf8 (b ∷ xs) → IsUtf8 xs
past b xs small utf8 = IsUtf8-drop (b ∷ xs) 1 utf8 (IsCharBoundary-after_ascii (b ∷ xs) 0 utf8 (omega arith) small)

boundary : (xs ys : List ℕ) (b : ℕ) → b < 128 → IsCharBoundary (xs ++ b ∷ ys) (length xs)
boundary xs ys b small =
    let at : get_or (xs ++ b ∷ ys) (length xs) 0 ≡ b = seam xs ys b in
    let long = length-append xs (b ∷ ys) in
    IsCharBoundary-before_ascii (xs ++ b ∷ ys) (length xs) (omega (arith, long)) (omega (arith, at, small))

before : (xs ys : List ℕ) (b : ℕ) → b < 128 → IsUtf8 (xs ++ b ∷ ys) → IsUtf8 xs
before xs ys b small utf8 =
    subst (λ (zs : List ℕ). IsUtf8 zs) (take-append_seam xs (b ∷ ys)) (IsUtf8-take (xs ++ b ∷ ys) (length xs) utf8 (boundary xs ys b small))

behind : (xs ys : List ℕ) (b : ℕ) → b < 128 → IsUtf8 (xs ++ b ∷ ys) → IsUtf8 ys
behind xs ys b small utf8 =
    past b ys small (subst (λ (zs : List ℕ). IsUtf8 zs) (drop-append_seam xs (b ∷ ys)) (IsUtf8-drop (xs ++ b ∷ ys) (length xs) utf8 (boundary xs ys b small)))

-- ---- items

some_texts : (j : Json) (js : List Json) → IsUtf8 (text_of j ++ more_items (items_of js)) → AreTexts (j ∷ js)
some_texts j [] utf8 = (subst (λ (b : List ℕ). IsUtf8 b) (append-nil (text_of j)) utf8, tt)
some_texts j (i ∷ js) utf8 =
    (before (text_of j) (text_of i ++ more_items (items_of js)) 44 (omega arith) utf8, some_texts i js (behind (text_of j) (text_of i ++ more_items (items_of js)) 44 (omega arith) utf8))

all_texts : (js : List Json) → IsUtf8 (items_text (items_of js)) → AreTexts js
all_texts [] utf8 = tt
all_texts (j ∷ js) utf8 = some_texts j js utf8

-- ---- a page

parted : (a b c items more : List ℕ)
    → 123 ∷ ((a ++ 58 ∷ (b ++ 44 ∷ (c ++ 58 ∷ ((91 ∷ (items ++ 93 ∷ [])) ++ more)))) ++ 125 ∷ [])
    ≡ (123 ∷ (a ++ 58 ∷ (b ++ 44 ∷ (c ++ 58 ∷ [])))) ++ 91 ∷ (items ++ 93 ∷ (more ++ 125 ∷ []))
parted a b c items more = simp append_assoc refl

page_parts : (m : Meaning) (v : ℕ) (js : List Json) (token : List ℕ) (number left : ℕ)
    → (front : List ℕ) × (back : List ℕ) × (text_of (object_list m v js token number left) ≡ front ++ 91 ∷ (items_text (items_of js) ++ 93 ∷ back))
unfolding object_list
page_parts m v js token number left =
    let more : List ℕ = more_members (members_of (
    (codes "kind", text m.list_kind)
    ∷ (
      codes "metadata",
      object (members_of (
          (codes "continue", text token)
          ∷ optional (codes "remainingItemCount") (if nat_eq left 0 then None else Some (whole (pos left)))
          ++ (codes "resourceVersion", text (decimal number))
          ∷ [])),
    )
    ∷ [])) in (
      123 ∷ (quoted (codes "apiVersion") ++ 58 ∷ (quoted (group_version m v) ++ 44 ∷ (quoted (codes "items") ++ 58 ∷ []))),
      more ++ 125 ∷ [],
      parted (quoted (codes "apiVersion")) (quoted (group_version m v)) (quoted (codes "items")) (items_text (items_of js)) more,
    )

pub page_texts : (m : Meaning) (v : ℕ) (js : List Json) (token : List ℕ) (number left : ℕ) → IsUtf8 (text_of (object_list m v js token number left)) → AreTexts js
page_texts m v js token number left utf8 =
    let parts = page_parts m v js token number left in
    let items = behind parts.0 (items_text (items_of js) ++ 93 ∷ parts.1) 91 (omega arith) (subst (λ (b : List ℕ). IsUtf8 b) parts.2 utf8) in
    all_texts js (before (items_text (items_of js)) parts.1 93 (omega arith) items)

pub page_objects : (m : Meaning) (v : ℕ) (js : List Json) (token : List ℕ) (number left : ℕ) → objects_of (object_list m v js token number left) ≡ js
unfolding object_list
page_objects m v js token number left = list_items js
