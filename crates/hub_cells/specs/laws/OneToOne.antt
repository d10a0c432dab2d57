-- A match is what the two functions compute.
use Rattle.std.proofs.Common.{◌≡◌, ℕ, zero, suc, ℤ, pos, negsuc, ◌*ℤ◌, neg_ℤ, ◌+◌, ◌*◌, ◌/◌, ◌-◌, ◌<◌, ◌==◌, ◌||◌, List, [], ◌∷◌, ◌++◌, Bool, true, false, cond, Option, Some, None, inl, inr, int_eq, refl, ap, sym, ◌∙◌, arith}
use Rattle.std.proofs.Math.Nat.{mul-div_cancel_left}
use Rattle.std.proofs.lemmas.Nat.{div-mul-add}
use Rattle.std.proofs.lemmas.Bool.Decides.{Decides-int_eq}
use Rattle.std.specs.Prelude.{option_map, ◌⊎◌}
use Rattle.kj_value.specs.Same.{json_same}
use Rattle.kj_value.specs.laws.SameLaws.{json_same-Decides}
use Rattle.kj_value.specs.Json.{Json, null, boolean, whole, text, list, object}
use Rattle.hub_cells.specs.Side.{Side, spoke, hub, other}
use Rattle.hub_cells.specs.Colon.{has_colon, before_more, at_colon}
use Rattle.hub_cells.specs.Cell.{Kind, same, spoke_only, hub_only, split, table, scale, Tuple, one, none, IsListed, Matches, MatchesFrom, Unmatched, IsNew, ListsOnce, IsRegular}
use Rattle.hub_cells.specs.Cross.{quotient, parts, joined, divided, partner, by_table, to_hub_tuple, to_spoke_tuple, matched}

-- ---- the last colon

or_left : (a b : Bool) → (a || b) ≡ false → a ≡ false
or_left a b e = grind arith

or_right : (a b : Bool) → (a || b) ≡ false → b ≡ false
or_right a b e = grind arith

pub no_colon : (b : List ℕ) → has_colon b ≡ false → at_colon b ≡ None
no_colon [] e = refl
no_colon (x ∷ xs) e = rw (no_colon xs (or_right (x == 58) (has_colon xs) e), or_left (x == 58) (has_colon xs) e) refl

pub at_last : (a b : List ℕ) → has_colon b ≡ false → at_colon (a ++ 58 ∷ b) ≡ Some (a, b)
at_last [] b e = rw (no_colon b e) refl
at_last (x ∷ a) b e = rw (at_last a b e) refl

-- what the place of the last colon says
abbrev Apart : List ℕ → Option (List ℕ × List ℕ) → Type 0
Apart t None = has_colon t ≡ false
Apart t (Some p) = (t ≡ p.0 ++ 58 ∷ p.1) × (has_colon p.1 ≡ false)

eq_58 : (x : ℕ) → (x == 58) ≡ true → x ≡ 58
eq_58 x e = grind arith

apart : (t : List ℕ) → Apart t (at_colon t)
apart [] = refl
apart (x ∷ xs) = by_rest (at_colon xs) (apart xs)
  where
    by_byte : (b : Bool) → (x == 58) ≡ b → has_colon xs ≡ false → Apart (x ∷ xs) (cond b (Some ([], xs)) None)
    by_byte true e h = (ap (λ (y : ℕ). y ∷ xs) (eq_58 x e), h)
    by_byte false e h = rw e h

    by_rest : (o : Option (List ℕ × List ℕ)) → Apart xs o → Apart (x ∷ xs) (before_more x xs o)
    by_rest None h = by_byte (x == 58) refl h
    by_rest (Some p) h = (ap (λ (ys : List ℕ). x ∷ ys) h.0, h.1)

-- ---- products

neg_suc : (m : ℕ) → 0 < m → neg_ℤ (pos m) ≡ negsuc (m - 1)
neg_suc zero p = absurd (omega arith)
neg_suc (suc m) p = ap negsuc (omega arith)

quotient_below : (k n : ℕ) → 0 < k → (k * suc n - 1) / k ≡ n
quotient_below k n p =
    let e : k * suc n - 1 ≡ n * k + (k - 1) = omega arith in
    ap (λ (x : ℕ). x / k) e ∙ div-mul-add n k (k - 1) (omega arith)

pub quotient_times : (k : ℕ) (z : ℤ) → 0 < k → quotient k (pos k *ℤ z) ≡ z
quotient_times k (pos n) p = ap pos (mul-div_cancel_left n p)
quotient_times k (negsuc n) p =
    rw (neg_suc (k * suc n) (omega arith)) (ap negsuc (quotient_below k n p))

int_eq_same : (x y : ℤ) → x ≡ y → int_eq x y ≡ true
int_eq_same x y e = grind (arith, Decides-int_eq x y)

same_int_eq : (x y : ℤ) → int_eq x y ≡ true → x ≡ y
same_int_eq x y e = grind (arith, Decides-int_eq x y)

-- ---- the two functions

some_some : {A : Type 0} (x y : A) → Some x ≡ Some y → x ≡ y
some_some x y e = cc

none_some : {A : Type 0} (x : A) → None ≡ Some x → ⊥
none_some x e = cc

-- ---- a table

same_listed : (i j : Json) → json_same i j ≡ true → i ≡ j
same_listed i j e = (json_same-Decides i j).0 e

listed_same : (i : Json) → json_same i i ≡ true
listed_same i = (json_same-Decides i i).1 refl

other_listed : (i j : Json) → (i ≡ j → ⊥) → json_same i j ≡ false
other_listed i j h = by_test (json_same i j) refl
  where
    by_test : (b : Bool) → json_same i j ≡ b → b ≡ false
    by_test true e = absurd (h (same_listed i j e))
    by_test false e = refl

-- a pair as the side sees it
abbrev IsListedFrom : Side → Json → Json → List (Json × Json) → Type 0
IsListedFrom spoke i j ps = IsListed i j ps
IsListedFrom hub i j ps = IsListed j i ps

-- the value of a listed pair stands in the list
new_not : (d : Side) (i j k : Json) (ps : List (Json × Json)) → IsNew d k ps → IsListedFrom d i j ps → k ≡ i → ⊥
new_not spoke i j k [] h m e = m
new_not spoke i j k (p ∷ ps) h (inl m) e = h.0 (m.0 ∙ sym e)
new_not spoke i j k (p ∷ ps) h (inr m) e = new_not spoke i j k ps h.1 m e
new_not hub i j k [] h m e = m
new_not hub i j k (p ∷ ps) h (inl m) e = h.0 (m.1 ∙ sym e)
new_not hub i j k (p ∷ ps) h (inr m) e = new_not hub i j k ps h.1 m e

partner_here : (d : Side) (i j k l : Json) (ps : List (Json × Json)) → k ≡ i → l ≡ j → cond (json_same k i) (Some l) (partner d i ps) ≡ Some j
partner_here d i j k l ps e f = rw (e, f, listed_same i) refl

partner_later : (d : Side) (i j k l : Json) (ps : List (Json × Json)) → (k ≡ i → ⊥) → partner d i ps ≡ Some j → cond (json_same k i) (Some l) (partner d i ps) ≡ Some j
partner_later d i j k l ps h e = rw (other_listed k i h) e

pub listed_partner : (d : Side) (i j : Json) (ps : List (Json × Json)) → ListsOnce d ps → IsListedFrom d i j ps → partner d i ps ≡ Some j
listed_partner spoke i j [] once m = absurd m
listed_partner spoke i j (p ∷ ps) once (inl m) = partner_here spoke i j p.0 p.1 ps m.0 m.1
listed_partner spoke i j (p ∷ ps) once (inr m) =
    partner_later spoke i j p.0 p.1 ps (new_not spoke i j p.0 ps once.0 m) (listed_partner spoke i j ps once.1 m)
listed_partner hub i j [] once m = absurd m
listed_partner hub i j (p ∷ ps) once (inl m) = partner_here hub i j p.1 p.0 ps m.1 m.0
listed_partner hub i j (p ∷ ps) once (inr m) =
    partner_later hub i j p.1 p.0 ps (new_not hub i j p.1 ps once.0 m) (listed_partner hub i j ps once.1 m)

pub partner_listed : (d : Side) (i j : Json) (ps : List (Json × Json)) → partner d i ps ≡ Some j → IsListedFrom d i j ps
partner_listed d i j [] e = absurd (cc)
partner_listed spoke i j (p ∷ ps) e = by_test (json_same p.0 i) refl e (λ q. partner_listed spoke i j ps q)
  where
    by_test : (b : Bool) → json_same p.0 i ≡ b → cond b (Some p.1) (partner spoke i ps) ≡ Some j → (partner spoke i ps ≡ Some j → IsListed i j ps) → IsListed i j (p ∷ ps)
    by_test true q f later = inl (same_listed p.0 i q, cc)
    by_test false q f later = inr (later f)
partner_listed hub i j (p ∷ ps) e = by_test (json_same p.1 i) refl e (λ q. partner_listed hub i j ps q)
  where
    by_test : (b : Bool) → json_same p.1 i ≡ b → cond b (Some p.0) (partner hub i ps) ≡ Some j → (partner hub i ps ≡ Some j → IsListed j i ps) → IsListed j i (p ∷ ps)
    by_test true q f later = inl (cc, same_listed p.1 i q)
    by_test false q f later = inr (later f)

-- one value, or none, from a table
abbrev Paired : Side → List (Json × Json) → Tuple → Tuple → Type 0
Paired d ps t u =
    ((t ≡ none) × (u ≡ none)) ⊎ ((i : Json) × (j : Json) × IsListedFrom d i j ps × (t ≡ one i) × (u ≡ one j))

paired_is : (d : Side) (ps : List (Json × Json)) (t u : Tuple) → ListsOnce d ps → Paired d ps t u → by_table d ps t ≡ Some u
paired_is d ps t u once (inl m) = rw (m.0, m.1) refl
paired_is d ps t u once (inr m) =
    rw (m.3, m.4) (ap (option_map one) (listed_partner d m.0 m.1 ps once m.2))

is_paired : (d : Side) (ps : List (Json × Json)) (t u : Tuple) → by_table d ps t ≡ Some u → Paired d ps t u
is_paired d ps [] u e = absurd (none_some u e)
is_paired d ps (None ∷ []) u e = inl (refl, sym (some_some none u e))
is_paired d ps (Some i ∷ []) u e = by_partner (partner d i ps) refl e
  where
    by_partner : (o : Option Json) → partner d i ps ≡ o → option_map one o ≡ Some u → Paired d ps (one i) u
    by_partner None q f = absurd (none_some u f)
    by_partner (Some j) q f = inr (i, j, partner_listed d i j ps q, refl, sym (some_some (one j) u f))
is_paired d ps (None ∷ o ∷ os) u e = absurd (none_some u e)
is_paired d ps (Some i ∷ o ∷ os) u e = absurd (none_some u e)

-- the hub's pairs are the spoke's turned
to_hub_paired : (ps : List (Json × Json)) (x y : Json) (s h : Tuple) → Matches (table ps x y) s h → Paired hub ps h s
to_hub_paired ps x y s h (inl m) = inl (m.1, m.0)
to_hub_paired ps x y s h (inr m) = inr (m.1, m.0, m.2, m.4, m.3)

of_hub_paired : (ps : List (Json × Json)) (x y : Json) (s h : Tuple) → Paired hub ps h s → Matches (table ps x y) s h
of_hub_paired ps x y s h (inl m) = inl (m.1, m.0)
of_hub_paired ps x y s h (inr m) = inr (m.1, m.0, m.2, m.4, m.3)

-- ---- both functions

pub is_hub : (k : Kind) (s h : Tuple) → IsRegular k → Matches k s h → to_hub_tuple k s ≡ Some h
is_hub same s h f m = ap Some m
is_hub spoke_only s h f m = rw (m.0, m.1) refl
is_hub hub_only s h f m = rw (m.0, m.1) refl
is_hub split s h f (inl m) = rw (m.0, m.1) refl
is_hub split s h f (inr m) = rw (m.3, m.4) (ap parts (at_last m.0 m.1 m.2))
is_hub (table ps x y) s h f m = paired_is spoke ps s h f.0 m
is_hub (scale k) s h f (inl m) = rw (m.0, m.1) refl
is_hub (scale k) s h f (inr m) = rw (m.1, m.2) refl

pub is_spoke : (k : Kind) (s h : Tuple) → IsRegular k → Matches k s h → to_spoke_tuple k h ≡ Some s
is_spoke same s h f m = ap Some (sym m)
is_spoke spoke_only s h f m = rw (m.0, m.1) refl
is_spoke hub_only s h f m = rw (m.0, m.1) refl
is_spoke split s h f (inl m) = rw (m.0, m.1) refl
is_spoke split s h f (inr m) = rw (m.3, m.4, m.2) refl
is_spoke (table ps x y) s h f m = paired_is hub ps h s f.1 (to_hub_paired ps x y s h m)
is_spoke (scale k) s h f (inl m) = rw (m.0, m.1) refl
is_spoke (scale k) s h f (inr m) =
    rw (m.1, m.2, quotient_times k m.0 f, int_eq_same (pos k *ℤ m.0) (pos k *ℤ m.0) refl) refl

pub hub_is : (k : Kind) (s h : Tuple) → to_hub_tuple k s ≡ Some h → Matches k s h
hub_is same s h e = some_some s h e
hub_is spoke_only [] h e = absurd (none_some h e)
hub_is spoke_only (None ∷ []) h e = (refl, sym (some_some [] h e))
hub_is spoke_only (None ∷ o ∷ os) h e = absurd (none_some h e)
hub_is spoke_only (Some j ∷ os) h e = absurd (none_some h e)
hub_is hub_only [] h e = (refl, sym (some_some none h e))
hub_is hub_only (o ∷ os) h e = absurd (none_some h e)
hub_is split [] h e = absurd (none_some h e)
hub_is split (None ∷ []) h e = inl (refl, sym (some_some (None ∷ None ∷ []) h e))
hub_is split (Some (text t) ∷ []) h e = by_place (at_colon t) (apart t) e
  where
    by_place : (o : Option (List ℕ × List ℕ)) → Apart t o → parts o ≡ Some h → Matches split (one (text t)) h
    by_place None a e = absurd (none_some h e)
    by_place (Some p) a e = inr (p.0, p.1, a.1, ap (λ (u : List ℕ). one (text u)) a.0, sym (some_some (Some (text p.0) ∷ Some (text p.1) ∷ []) h e))
hub_is split (Some null ∷ []) h e = absurd (none_some h e)
hub_is split (Some (boolean b) ∷ []) h e = absurd (none_some h e)
hub_is split (Some (whole z) ∷ []) h e = absurd (none_some h e)
hub_is split (Some (list js) ∷ []) h e = absurd (none_some h e)
hub_is split (Some (object ms) ∷ []) h e = absurd (none_some h e)
hub_is split (None ∷ o ∷ os) h e = absurd (none_some h e)
hub_is split (Some j ∷ o ∷ os) h e = absurd (none_some h e)
hub_is (table ps x y) s h e = is_paired spoke ps s h e
hub_is (scale k) [] h e = absurd (none_some h e)
hub_is (scale k) (None ∷ []) h e = inl (refl, sym (some_some none h e))
hub_is (scale k) (Some (whole z) ∷ []) h e = inr (z, refl, sym (some_some (one (whole (pos k *ℤ z))) h e))
hub_is (scale k) (Some (text t) ∷ []) h e = absurd (none_some h e)
hub_is (scale k) (Some null ∷ []) h e = absurd (none_some h e)
hub_is (scale k) (Some (boolean b) ∷ []) h e = absurd (none_some h e)
hub_is (scale k) (Some (list js) ∷ []) h e = absurd (none_some h e)
hub_is (scale k) (Some (object ms) ∷ []) h e = absurd (none_some h e)
hub_is (scale k) (None ∷ o ∷ os) h e = absurd (none_some h e)
hub_is (scale k) (Some j ∷ o ∷ os) h e = absurd (none_some h e)

joined_is : (a b : Json) (s : Tuple) → joined a b ≡ Some s → Matches split s (Some a ∷ Some b ∷ [])
joined_is (text a) (text b) s e = by_colon (has_colon b) refl e
  where
    by_colon : (c : Bool) → has_colon b ≡ c → cond c None (Some (one (text (a ++ 58 ∷ b)))) ≡ Some s → Matches split s (Some (text a) ∷ Some (text b) ∷ [])
    by_colon true q e = absurd (none_some s e)
    by_colon false q e = inr (a, b, q, sym (some_some (one (text (a ++ 58 ∷ b))) s e), refl)
joined_is (text a) _ s e = absurd (none_some s e)
joined_is _ b s e = absurd (none_some s e)

divided_is : (k : ℕ) (j : Json) (s : Tuple) → divided k j ≡ Some s → Matches (scale k) s (one j)
divided_is k (whole z) s e = by_test (int_eq (pos k *ℤ quotient k z) z) refl e
  where
    by_test : (c : Bool) → int_eq (pos k *ℤ quotient k z) z ≡ c → cond c (Some (one (whole (quotient k z)))) None ≡ Some s → Matches (scale k) s (one (whole z))
    by_test true q e = inr (quotient k z, sym (some_some (one (whole (quotient k z))) s e), ap (λ (y : ℤ). one (whole y)) (sym (same_int_eq (pos k *ℤ quotient k z) z q)))
    by_test false q e = absurd (none_some s e)
divided_is k _ s e = absurd (none_some s e)

pub spoke_is : (k : Kind) (s h : Tuple) → to_spoke_tuple k h ≡ Some s → Matches k s h
spoke_is same s h e = sym (some_some h s e)
spoke_is spoke_only s [] e = (sym (some_some none s e), refl)
spoke_is spoke_only s (o ∷ os) e = absurd (none_some s e)
spoke_is hub_only s [] e = absurd (none_some s e)
spoke_is hub_only s (None ∷ []) e = (sym (some_some [] s e), refl)
spoke_is hub_only s (None ∷ o ∷ os) e = absurd (none_some s e)
spoke_is hub_only s (Some j ∷ os) e = absurd (none_some s e)
spoke_is split s [] e = absurd (none_some s e)
spoke_is split s (None ∷ []) e = absurd (none_some s e)
spoke_is split s (Some a ∷ []) e = absurd (none_some s e)
spoke_is split s (None ∷ None ∷ []) e = inl (sym (some_some none s e), refl)
spoke_is split s (Some a ∷ Some b ∷ []) e = joined_is a b s e
spoke_is split s (None ∷ Some b ∷ []) e = absurd (none_some s e)
spoke_is split s (Some a ∷ None ∷ []) e = absurd (none_some s e)
spoke_is split s (None ∷ None ∷ q ∷ os) e = absurd (none_some s e)
spoke_is split s (None ∷ Some b ∷ q ∷ os) e = absurd (none_some s e)
spoke_is split s (Some a ∷ None ∷ q ∷ os) e = absurd (none_some s e)
spoke_is split s (Some a ∷ Some b ∷ q ∷ os) e = absurd (none_some s e)
spoke_is (table ps x y) s h e = of_hub_paired ps x y s h (is_paired hub ps h s e)
spoke_is (scale k) s [] e = absurd (none_some s e)
spoke_is (scale k) s (None ∷ []) e = inl (sym (some_some none s e), refl)
spoke_is (scale k) s (Some j ∷ []) e = divided_is k j s e
spoke_is (scale k) s (None ∷ o ∷ os) e = absurd (none_some s e)
spoke_is (scale k) s (Some j ∷ o ∷ os) e = absurd (none_some s e)

-- ---- a side's function, of the side that is the variable

pub matched_is : (d : Side) (k : Kind) (t u : Tuple) → matched d k t ≡ Some u → MatchesFrom d k t u
matched_is spoke k t u e = hub_is k t u e
matched_is hub k t u e = spoke_is k u t e

pub is_matched_from : (d : Side) (k : Kind) (t u : Tuple) → IsRegular k → MatchesFrom d k t u → matched d k t ≡ Some u
is_matched_from spoke k t u f m = is_hub k t u f m
is_matched_from hub k t u f m = is_spoke k u t f m

turned : (d : Side) (k : Kind) (t u : Tuple) → MatchesFrom d k t u → MatchesFrom (other d) k u t
turned spoke k t u m = m
turned hub k t u m = m

pub one_to_one : (d : Side) (k : Kind) (t u : Tuple) → IsRegular k → matched d k t ≡ Some u → matched (other d) k u ≡ Some t
one_to_one d k t u f e = is_matched_from (other d) k u t f (turned d k t u (matched_is d k t u e))

pub none_unmatched : (d : Side) (k : Kind) (t : Tuple) → IsRegular k → matched d k t ≡ None → Unmatched d k t
none_unmatched d k t f e u m = none_some u (sym e ∙ is_matched_from d k t u f m)

pub unmatched_none : (d : Side) (k : Kind) (t : Tuple) → Unmatched d k t → matched d k t ≡ None
unmatched_none d k t never = by_answer (matched d k t) refl
  where
    by_answer : (o : Option Tuple) → matched d k t ≡ o → o ≡ None
    by_answer None q = refl
    by_answer (Some u) q = absurd (never u (matched_is d k t u q))
