-- The pieces of a path, read from its front.
use Rattle.std.proofs.Common.{◌≡◌, ◌≢◌, ◌==◌, ℕ, ◌+◌, ◌<◌, ◌≤◌, Bool, true, false, cond, List, [], ◌∷◌, ◌++◌, length, map, take, drop, set, get_or, refl, ap, ap₂, sym, ◌∙◌, append_assoc, add-one, arith, drop-cons, length-append}
use Rattle.std.specs.Borrow.{Bor}
use Rattle.std.proofs.lemmas.List.{append-nil, take_more, take_more_set, drop_all, take_all, length-map, map-append}
use Rattle.std.proofs.lemmas.Bool.Decides.{nat_tests}
use Rattle.std.specs.List.{onto_first}
use Rattle.percent_encoding.specs.Percent.{percent_decode}
use Rattle.http_routes.specs.Paths.{pieces, segments, slash}
use Rattle.http_routes.specs.Views.{now_of}

-- a text before the first of some pieces
abbrev pub under_first : List ℕ → List (List ℕ) → List (List ℕ)
under_first xs [] = xs ∷ []
under_first xs (s ∷ ss) = (xs ++ s) ∷ ss

pub under_first-onto_first : (xs : List ℕ) (b : ℕ) (ss : List (List ℕ))
    → under_first xs (onto_first b ss) ≡ under_first (xs ++ b ∷ []) ss
under_first-onto_first xs b [] = refl
under_first-onto_first xs b (s ∷ ss) = ap (λ (t : List ℕ). t ∷ ss) (sym (append_assoc xs (b ∷ []) s))

onto_nothing : (b : Bool) (c : ℕ) (ss : List (List ℕ)) (ts : List (List ℕ))
    → under_first [] (cond b ([] ∷ ts) (onto_first c ss)) ≡ cond b ([] ∷ ts) (onto_first c ss)
onto_nothing true c ss ts = refl
onto_nothing false c [] ts = refl
onto_nothing false c (s ∷ ss) ts = refl

pub under_first-nil : (bs : List ℕ) → under_first [] (pieces bs) ≡ pieces bs
under_first-nil [] = refl
under_first-nil (b ∷ bs) = onto_nothing (b == slash) b (pieces bs) (pieces bs)

pub front_is : (path : List ℕ) (i d : ℕ) → i < length path → drop i path ≡ get_or path i d ∷ drop (i + 1) path
front_is path i d within =
    drop-cons path i d within ∙ ap (λ (n : ℕ). get_or path i d ∷ drop n path) (sym (add-one i))

other_test : (b c : ℕ) → b ≢ c → (b == c) ≡ false
other_test b c other = grind (arith, nat_tests)

same_test : (b c : ℕ) → b ≡ c → (b == c) ≡ true
same_test b c same = grind (arith, nat_tests)

-- the pieces from a place on, where that place has a byte
opened : (path : List ℕ) (i d : ℕ) → i < length path
    → under_first (take i path) (pieces (drop i path))
    ≡ under_first (take i path) (cond (get_or path i d == slash) ([] ∷ pieces (drop (i + 1) path)) (onto_first (get_or path i d) (pieces (drop (i + 1) path))))
opened path i d within = ap (λ (ys : List ℕ). under_first (take i path) (pieces ys)) (front_is path i d within)

-- one more byte that is no slash
pub past_byte : (path : List ℕ) (i d : ℕ) → i < length path → get_or path i d ≢ slash
    → pieces path ≡ under_first (take i path) (pieces (drop i path))
    → pieces path ≡ under_first (take (i + 1) path) (pieces (drop (i + 1) path))
past_byte path i d within other so_far =
    let step : under_first (take i path) (cond (get_or path i d == slash) ([] ∷ pieces (drop (i + 1) path)) (onto_first (get_or path i d) (pieces (drop (i + 1) path))))
    ≡ under_first (take i path ++ get_or path i d ∷ []) (pieces (drop (i + 1) path)) =
    rw (other_test _ _ other) (under_first-onto_first (take i path) (get_or path i d) (pieces (drop (i + 1) path))) in
    so_far ∙ opened path i d within ∙ step
    ∙ ap (λ (ys : List ℕ). under_first ys (pieces (drop (i + 1) path))) (sym (take_more path i d within))

-- the segment before a slash
pub at_slash : (path : List ℕ) (i d : ℕ) → i < length path → get_or path i d ≡ slash
    → pieces path ≡ under_first (take i path) (pieces (drop i path))
    → pieces path ≡ take i path ∷ pieces (drop (i + 1) path)
at_slash path i d within here so_far =
    let step : under_first (take i path) (cond (get_or path i d == slash) ([] ∷ pieces (drop (i + 1) path)) (onto_first (get_or path i d) (pieces (drop (i + 1) path))))
    ≡ (take i path ++ []) ∷ pieces (drop (i + 1) path) =
    rw (same_test _ _ here) refl in
    so_far ∙ opened path i d within ∙ step
    ∙ ap (λ (ys : List ℕ). ys ∷ pieces (drop (i + 1) path)) (append-nil (take i path))

-- a path without a slash
pub at_end : (path : List ℕ) (i : ℕ) → length path ≤ i
    → pieces path ≡ under_first (take i path) (pieces (drop i path))
    → pieces path ≡ path ∷ []
at_end path i past so_far =
    so_far
    ∙ ap (λ (ys : List ℕ). under_first (take i path) (pieces ys)) (drop_all i path past)
    ∙ ap (λ (ys : List ℕ). ys ∷ []) (append-nil (take i path) ∙ take_all i path past)

test_some : (b : Bool) (c : ℕ) (ss ts : List (List ℕ)) → (cond b ([] ∷ ts) (onto_first c ss)) ≡ [] → ⊥
test_some true c ss ts e = cc
test_some false c [] ts e = cc
test_some false c (s ∷ ss) ts e = cc

-- there is a segment
pub piece_some : (bs : List ℕ) → pieces bs ≡ [] → ⊥
piece_some [] e = cc
piece_some (b ∷ bs) e = test_some (b == slash) b (pieces bs) (pieces bs) e

-- the pieces behind two
pub tail_of : (a b : List ℕ) (ss ts : List (List ℕ)) → a ∷ ss ≡ b ∷ ts → ss ≡ ts
tail_of a b ss ts e = cc

pub head_of : (a b : List ℕ) (ss ts : List (List ℕ)) → a ∷ ss ≡ b ∷ ts → a ≡ b
head_of a b ss ts e = cc

length_some : (xs : List (List ℕ)) → (xs ≡ [] → ⊥) → 0 < length xs
length_some [] some = absurd (some refl)
length_some (x ∷ xs) some = omega arith

-- a path whose first segments are as many as any has that names something, and which goes on
pub too_many : (path rest : List ℕ) (done : List (List ℕ)) → segments path ≡ done ++ segments rest → 8 ≤ length done → 8 < length (segments path)
too_many path rest done is many =
    let all : length (segments path) ≡ length (done ++ segments rest) = ap length is in
    let parts : length (done ++ segments rest) ≡ length done + length (segments rest) = length-append done (segments rest) in
    let same : length (segments rest) ≡ length (pieces rest) = length-map (pieces rest) percent_decode in
    let some : 0 < length (pieces rest) = length_some (pieces rest) (piece_some rest) in
    omega arith

-- ---- segments that are lent

-- one more of them, written behind those so far
pub one_more : (parts : List (Bor (List ℕ))) (count : ℕ) (segment : Bor (List ℕ)) (all left rest : List (List ℕ)) → count < length parts
    → all ≡ map now_of (take count parts) ++ left → left ≡ segment.now ∷ rest
    → all ≡ map now_of (take (count + 1) (set parts count segment)) ++ rest
one_more parts count segment all left rest within so_far is =
    let pushed : map now_of (take (count + 1) (set parts count segment)) ≡ map now_of (take count parts) ++ segment.now ∷ [] =
    rw (take_more_set parts count segment within, map-append) refl in
    so_far
    ∙ ap (λ (ss : List (List ℕ)). map now_of (take count parts) ++ ss) is
    ∙ sym (append_assoc (map now_of (take count parts)) (segment.now ∷ []) rest)
    ∙ ap (λ (ss : List (List ℕ)). ss ++ rest) (sym pushed)

-- the last one
pub last_one : (parts : List (Bor (List ℕ))) (count : ℕ) (segment : Bor (List ℕ)) (all left : List (List ℕ)) → count < length parts
    → all ≡ map now_of (take count parts) ++ left → left ≡ segment.now ∷ []
    → all ≡ map now_of (take (count + 1) (set parts count segment))
last_one parts count segment all left within so_far is =
    one_more parts count segment all left [] within so_far is ∙ append-nil (map now_of (take (count + 1) (set parts count segment)))

pub mapped_step : {A B C : Type 0} (f : A → C) (g : B → C) (vs ws : List A) (v : A) (xs : List B) (i : ℕ) (x : B) → i < length xs → x ≡ get_or xs i x → ws ≡ vs ++ v ∷ [] → f v ≡ g x → map f vs ≡ map g (take i xs)
    → map f ws ≡ map g (take (i + 1) xs)
mapped_step f g vs ws v xs i x p e push here h =
    let step = take_more xs i x p ∙ ap (λ y. take i xs ++ y ∷ []) (sym e) in
    ap (map f) push ∙ map-append f vs (v ∷ []) ∙ ap₂ (λ ys y. ys ++ y ∷ []) h here ∙ sym (map-append g (take i xs) (x ∷ [])) ∙ ap (map g) (sym step)
