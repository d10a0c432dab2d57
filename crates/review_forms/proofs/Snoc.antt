-- One item more.
use Rattle.std.proofs.Common.{◌≡◌, ℕ, zero, suc, ◌<◌, ◌≤◌, map, get_or, ap₂, List, [], ◌∷◌, ◌++◌, length, take, drop, Some, refl, ap, sym, ◌∙◌, append_assoc, arith}
use Rattle.std.specs.Prelude.{slice_get, slice_set}
use Rattle.std.proofs.lemmas.List.{append-nil, length-take-le}
use Rattle.kj_value.specs.Json.{Json, items_of}
use Rattle.kj_value.specs.Text.{text_of, items_text, more_items}
use Rattle.kj_value.specs.Characters.{comma}
use Rattle.kj_value.specs.Seen.{json}
use Rattle.kj_value.specs.declared.value.JVal.{JVal}
use Rattle.review_forms.specs.Page.{PageView}
use Rattle.review_forms.specs.Spelling.{comma_before}

more-snoc : (js : List Json) (j : Json) → more_items (items_of (js ++ j ∷ [])) ≡ more_items (items_of js) ++ comma ∷ text_of j
more-snoc [] j = ap (λ (t : List ℕ). comma ∷ t) (append-nil (text_of j))
more-snoc (x ∷ js) j =
    ap (λ (t : List ℕ). comma ∷ (text_of x ++ t)) (more-snoc js j)
    ∙ ap (λ (t : List ℕ). comma ∷ t) (sym (append_assoc (text_of x) (more_items (items_of js)) (comma ∷ text_of j)))

pub items-snoc : (js : List Json) (j : Json) → items_text (items_of (js ++ j ∷ [])) ≡ items_text (items_of js) ++ (comma_before (length js) ++ text_of j)
items-snoc [] j = append-nil (text_of j)
items-snoc (x ∷ js) j =
    ap (λ (t : List ℕ). text_of x ++ t) (more-snoc js j)
    ∙ sym (append_assoc (text_of x) (more_items (items_of js)) (comma ∷ text_of j))

-- ---- the item at a place, between those before it and those behind it

pub take-snoc : {A : Type 0} (xs : List A) (i : ℕ) (x : A) → slice_get xs i ≡ Some x → take (suc i) xs ≡ take i xs ++ x ∷ []
take-snoc [] i x e = absurd (cc)
take-snoc (y ∷ xs) zero x e =
    let same : y ≡ x = cc in
    ap (λ z. z ∷ []) same
take-snoc (y ∷ xs) (suc i) x e = ap (λ ys. y ∷ ys) (take-snoc xs i x e)

pub split_at : {A : Type 0} (xs : List A) (i : ℕ) (x : A) → slice_get xs i ≡ Some x → xs ≡ take i xs ++ x ∷ drop (suc i) xs
split_at [] i x e = absurd (cc)
split_at (y ∷ xs) zero x e =
    let same : y ≡ x = cc in
    ap (λ z. z ∷ xs) same
split_at (y ∷ xs) (suc i) x e = ap (λ ys. y ∷ ys) (split_at xs i x e)

-- what stands at a place is the same in two lists that are the same from that place on
pub same_item : {A : Type 0} (xs ys : List A) (i : ℕ) (x : A) → drop i xs ≡ drop i ys → slice_get xs i ≡ Some x → slice_get ys i ≡ Some x
same_item xs ys zero x e h = subst_get xs ys x e h
  where
    subst_get : {A : Type 0} (xs ys : List A) (x : A) → xs ≡ ys → slice_get xs zero ≡ Some x → slice_get ys zero ≡ Some x
    subst_get xs ys x e h = ap (λ zs. slice_get zs zero) (sym e) ∙ h
same_item [] [] (suc i) x e h = h
same_item [] (y ∷ ys) (suc i) x e h = absurd (cc)
same_item (z ∷ xs) [] (suc i) x e h = later xs i x e h
  where
    later : {A : Type 0} (xs : List A) (i : ℕ) (x : A) → drop i xs ≡ [] → slice_get xs i ≡ Some x → slice_get [] (suc i) ≡ Some x
    later [] i x e h = absurd (cc)
    later (w ∷ xs) zero x e h = absurd (cc)
    later (w ∷ xs) (suc i) x e h = later xs i x e h
same_item (z ∷ xs) (y ∷ ys) (suc i) x e h = same_item xs ys i x e h

-- where another item is put, those behind it stay
pub drop-put : {A : Type 0} (xs : List A) (i : ℕ) (x : A) → drop (suc i) (slice_set xs i x) ≡ drop (suc i) xs
drop-put [] i x = refl
drop-put (y ∷ xs) zero x = refl
drop-put (y ∷ xs) (suc i) x = drop-put xs i x

pub drop-more : {A : Type 0} (xs ys : List A) (i : ℕ) → drop i xs ≡ drop i ys → drop (suc i) xs ≡ drop (suc i) ys
drop-more xs ys zero e = ap (drop 1) e
drop-more [] [] (suc i) e = refl
drop-more [] (y ∷ ys) (suc i) e = rest_empty ys i e
  where
    rest_empty : {A : Type 0} (ys : List A) (i : ℕ) → [] ≡ drop i ys → [] ≡ drop (suc i) ys
    rest_empty [] zero e = refl
    rest_empty [] (suc i) e = refl
    rest_empty (y ∷ ys) zero e = absurd (cc)
    rest_empty (y ∷ ys) (suc i) e = rest_empty ys i e
drop-more (x ∷ xs) [] (suc i) e = rest_empty xs i e
  where
    rest_empty : {A : Type 0} (ys : List A) (i : ℕ) → drop i ys ≡ [] → drop (suc i) ys ≡ []
    rest_empty [] zero e = refl
    rest_empty [] (suc i) e = refl
    rest_empty (y ∷ ys) zero e = absurd (cc)
    rest_empty (y ∷ ys) (suc i) e = rest_empty ys i e
drop-more (x ∷ xs) (y ∷ ys) (suc i) e = drop-more xs ys i e

pub length-put : {A : Type 0} (xs : List A) (i : ℕ) (x : A) → length (slice_set xs i x) ≡ length xs
length-put [] i x = refl
length-put (y ∷ xs) zero x = refl
length-put (y ∷ xs) (suc i) x = ap suc (length-put xs i x)

-- an item read at a place of a list of values
pub read_at : (vs : List JVal) (js : List Json) (i : ℕ) (v : JVal) → map json vs ≡ js → i < length vs → v ≡ get_or vs i v → slice_get js i ≡ Some (json v)
read_at vs js i v e p q = ap (λ (ks : List Json). slice_get ks i) (sym e) ∙ seen vs i v p q
  where
    seen : (vs : List JVal) (i : ℕ) (v : JVal) → i < length vs → v ≡ get_or vs i v → slice_get (map json vs) i ≡ Some (json v)
    seen [] i v p q = absurd (omega arith)
    seen (x ∷ vs) zero v p q = ap (λ (y : JVal). Some (json y)) (sym q)
    seen (x ∷ vs) (suc i) v p q = seen vs i v (omega arith) q

-- ---- one item more on a page

pub item_added : (before now mid after : PageView) (js : List Json) (i : ℕ) (j : Json) (c t : List ℕ) → slice_get js i ≡ Some j → i ≤ length js
    → now ≡ record before { text = before.text ++ items_text (items_of (take i js)) }
    → mid ≡ record now { text = now.text ++ c } → after ≡ record mid { text = mid.text ++ t } → c ≡ comma_before i → t ≡ text_of j
    → after ≡ record before { text = before.text ++ items_text (items_of (take (suc i) js)) }
item_added before now mid after js i j c t there within e f g p q =
    g
    ∙ (ap (λ (m : PageView). record m { text = m.text ++ t }) (f ∙ ap (λ (n : PageView). record n { text = n.text ++ c }) e)
    ∙ ap (λ (s : List ℕ). record before { text = s }) grown)
  where
    grouped : (a b x y : List ℕ) → ((a ++ b) ++ x) ++ y ≡ a ++ (b ++ (x ++ y))
    grouped a b x y = simp append_assoc

    at_place : comma_before i ≡ comma_before (length (take i js))
    at_place = ap comma_before (sym (length-take-le i js within))

    grown : ((before.text ++ items_text (items_of (take i js))) ++ c) ++ t ≡ before.text ++ items_text (items_of (take (suc i) js))
    grown =
        grouped before.text (items_text (items_of (take i js))) c t
        ∙ ap (λ (s : List ℕ). before.text ++ s) (ap₂ (λ (x y : List ℕ). items_text (items_of (take i js)) ++ (x ++ y)) (p ∙ at_place) q
        ∙ (sym (items-snoc (take i js) j) ∙ ap (λ (ks : List Json). items_text (items_of ks)) (sym (take-snoc js i j there))))
