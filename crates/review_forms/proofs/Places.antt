-- The first place of a list at which a test holds, looked for one place after another.
use Rattle.std.proofs.Common.{◌≡◌, ℕ, zero, suc, ◌+◌, ◌<◌, ◌≤◌, List, [], ◌∷◌, length, map, drop, get_or, Bool, true, false, cond, Some, None, refl, ap, sym, ◌∙◌, arith}
use Rattle.std.proofs.lemmas.List.{length-map}
use Rattle.std.specs.Prelude.{slice_get}
use Rattle.std.specs.List.{position_from, zip}
use Rattle.kj_value.specs.Json.{Json}
use Rattle.kj_value.specs.Seen.{json}
use Rattle.kj_value.specs.declared.value.JVal.{JVal}

pub seek_step : (t : Json → Bool) (vs : List JVal) (i k : ℕ) (v : JVal) → i < length vs → v ≡ get_or vs i v
    → position_from t k (drop i (map json vs)) ≡ cond (t (json v)) (Some k) (position_from t (k + 1) (drop (suc i) (map json vs)))
seek_step t [] i k v p q = absurd (omega arith)
seek_step t (x ∷ vs) zero k v p q = ap (λ (y : JVal). cond (t (json y)) (Some k) (position_from t (k + 1) (map json vs))) (sym q)
seek_step t (x ∷ vs) (suc i) k v p q = seek_step t vs i k v (omega arith) q

pub seek_end : {A : Type 0} (t : A → Bool) (xs : List A) (i k : ℕ) → length xs ≤ i → position_from t k (drop i xs) ≡ None
seek_end t [] zero k p = refl
seek_end t [] (suc i) k p = refl
seek_end t (x ∷ xs) zero k p = absurd (omega arith)
seek_end t (x ∷ xs) (suc i) k p = seek_end t xs i k (omega arith)

pub seek_pair : (t : Json × Json → Bool) (vs ws : List JVal) (i k : ℕ) (v w : JVal) → i < length vs → i < length ws
    → v ≡ get_or vs i v → w ≡ get_or ws i w
    → position_from t k (drop i (zip (map json vs) (map json ws)))
    ≡ cond (t (json v, json w)) (Some k) (position_from t (k + 1) (drop (suc i) (zip (map json vs) (map json ws))))
seek_pair t [] ws i k v w p q e f = absurd (omega arith)
seek_pair t (x ∷ vs) [] i k v w p q e f = absurd (omega arith)
seek_pair t (x ∷ vs) (y ∷ ws) zero k v w p q e f =
    ap (λ (z : JVal). cond (t (json z, json y)) (Some k) (position_from t (k + 1) (zip (map json vs) (map json ws)))) (sym e)
    ∙ ap (λ (z : JVal). cond (t (json v, json z)) (Some k) (position_from t (k + 1) (zip (map json vs) (map json ws)))) (sym f)
seek_pair t (x ∷ vs) (y ∷ ws) (suc i) k v w p q e f = seek_pair t vs ws i k v w (omega arith) (omega arith) e f

pub pairs_end : {A B : Type 0} (t : A × B → Bool) (xs : List A) (ys : List B) (i k : ℕ) → length xs ≤ i → position_from t k (drop i (zip xs ys)) ≡ None
pairs_end t [] ys zero k p = refl
pairs_end t [] ys (suc i) k p = refl
pairs_end t (x ∷ xs) ys zero k p = absurd (omega arith)
pairs_end t (x ∷ xs) [] (suc i) k p = refl
pairs_end t (x ∷ xs) (y ∷ ys) (suc i) k p = pairs_end t xs ys i k (omega arith)

-- where there is none, the test fails at each place
pub none_there : {A : Type 0} (t : A → Bool) (xs : List A) (k i : ℕ) (x : A) → position_from t k xs ≡ None → slice_get xs i ≡ Some x → t x ≡ false
none_there t [] k i x h e = cc
none_there {A} t (y ∷ xs) k zero x h e = by_test (t y) refl h
  where
    by_test : (b : Bool) → t y ≡ b → cond b (Some k) (position_from t (k + 1) xs) ≡ None → t x ≡ false
    by_test true q r = cc
    by_test false q r =
        let same : y ≡ x = cc in
        ap t (sym same) ∙ q
none_there t (y ∷ xs) k (suc i) x h e = by_test (λ r. none_there t xs (k + 1) i x r e) (t y) h
  where
    by_test : (position_from t (k + 1) xs ≡ None → t x ≡ false) → (b : Bool) → cond b (Some k) (position_from t (k + 1) xs) ≡ None → t x ≡ false
    by_test later true r = cc
    by_test later false r = later r

-- ---- in a loop over the places

module _ (t : Json → Bool) (vs : List JVal) (items : List Json) (i : ℕ) (v : JVal) (same : map json vs ≡ items)
    (before : position_from t 0 (map json vs) ≡ position_from t i (drop i (map json vs))) (within : i < length vs) (is : v ≡ get_or vs i v) where
  pub found_here : t (json v) ≡ true → Some i ≡ position_from t 0 items
  found_here h =
      sym (ap (position_from t 0) (sym same)
      ∙ (before
      ∙ (seek_step t vs i i v within is
      ∙ ap (λ (b : Bool). cond b (Some i) (position_from t (i + 1) (drop (suc i) (map json vs)))) h)))

  pub not_here : t (json v) ≡ false → position_from t 0 (map json vs) ≡ position_from t (i + 1) (drop (i + 1) (map json vs))
  not_here h =
      let next : suc i ≡ i + 1 = omega arith in
      before
      ∙ (seek_step t vs i i v within is
      ∙ (ap (λ (b : Bool). cond b (Some i) (position_from t (i + 1) (drop (suc i) (map json vs)))) h
      ∙ ap (λ n. position_from t (i + 1) (drop n (map json vs))) next))

module _ (t : Json × Json → Bool) (vs ws : List JVal) (xs ys : List Json) (i : ℕ) (same : map json vs ≡ xs) (alike : map json ws ≡ ys)
    (before : position_from t 0 (zip (map json vs) (map json ws)) ≡ position_from t i (drop i (zip (map json vs) (map json ws)))) where
  pub no_pair : length vs ≤ i → None ≡ position_from t 0 (zip xs ys)
  no_pair past =
      let there : length (map json vs) ≤ i = omega (arith, length-map vs json) in
      sym (ap (λ (us : List Json). position_from t 0 (zip us ys)) (sym same)
      ∙ (ap (λ (bs : List Json). position_from t 0 (zip (map json vs) bs)) (sym alike) ∙ (before ∙ pairs_end t (map json vs) (map json ws) i i there)))

  module _ (v w : JVal) (within : i < length vs) (inside : i < length ws) (is : v ≡ get_or vs i v) (other : w ≡ get_or ws i w) where
    pub pair_here : t (json v, json w) ≡ true → Some i ≡ position_from t 0 (zip xs ys)
    pair_here h =
        sym (ap (λ (us : List Json). position_from t 0 (zip us ys)) (sym same)
        ∙ (ap (λ (bs : List Json). position_from t 0 (zip (map json vs) bs)) (sym alike)
        ∙ (before
        ∙ (seek_pair t vs ws i i v w within inside is other
        ∙ ap (λ (b : Bool). cond b (Some i) (position_from t (i + 1) (drop (suc i) (zip (map json vs) (map json ws))))) h))))

    pub no_pair_here : t (json v, json w) ≡ false
        → position_from t 0 (zip (map json vs) (map json ws)) ≡ position_from t (i + 1) (drop (i + 1) (zip (map json vs) (map json ws)))
    no_pair_here h =
        let next : suc i ≡ i + 1 = omega arith in
        before
        ∙ (seek_pair t vs ws i i v w within inside is other
        ∙ (ap (λ (b : Bool). cond b (Some i) (position_from t (i + 1) (drop (suc i) (zip (map json vs) (map json ws))))) h
        ∙ ap (λ n. position_from t (i + 1) (drop n (zip (map json vs) (map json ws)))) next))
