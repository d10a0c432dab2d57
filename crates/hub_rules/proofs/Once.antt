-- A table of which the end lists a value twice lists it twice.
use Rattle.std.proofs.Common.{◌≡◌, ℕ, zero, suc, ◌-◌, ◌<◌, ◌≤◌, List, [], ◌∷◌, length, get_or, take, drop, map, Bool, true, false, ◌&&◌, Option, Some, None, refl, subst, ap, sym, ◌∙◌, arith, drop-cons}
use Rattle.std.proofs.Math.Seq.{drop-length}
use Rattle.std.proofs.lemmas.List.{take_all, length-drop}
use Rattle.std.specs.Prelude.{is_some, is_none}
use Rattle.kj_value.specs.Json.{Json}
use Rattle.struct_schema.specs.Places.{ArePlaces}
use Rattle.struct_schema.specs.declared.places.Places.{Places}
use Rattle.hub_cells.specs.Side.{Side}
use Rattle.hub_cells.specs.Cell.{value_on}
use Rattle.hub_cells.specs.Cross.{partner}
use Rattle.hub_cells.specs.Pairs.{values_of}
use Rattle.hub_cells.specs.Sought.{column}
use Rattle.hub_cells.specs.declared.pairs.Pair.{Pair}
use Rattle.hub_rules.specs.Refusal.{once}

either_false : (a b : Bool) → b ≡ false → (a && b) ≡ false
either_false true b h = h
either_false false b h = refl

pub once_front : (d : Side) (ps : List Pair) (i : ℕ) → once d (map values_of (drop i ps)) ≡ false → once d (map values_of ps) ≡ false
once_front d ps zero h = h
once_front d [] (suc i) h = h
once_front d (p ∷ ps) (suc i) h =
    either_false (is_none (partner d (value_on d (values_of p)) (map values_of ps))) (once d (map values_of ps)) (once_front d ps i h)

-- the pairs from a place on, which is behind n - 1
pub once_at : (d : Side) (ps : List Pair) (n : ℕ) (p : Pair) → 0 < n → n ≤ length ps → p ≡ get_or ps (n - 1) p
    → once d (map values_of (drop (n - 1) ps)) ≡ is_none (partner d (value_on d (values_of p)) (map values_of (drop n ps))) && once d (map values_of (drop n ps))
once_at d ps n p more within is =
    let next : suc (n - 1) ≡ n = omega arith in
    let here : n - 1 < length ps = omega arith in
    let whole_is : drop (n - 1) ps ≡ p ∷ drop n ps = drop-cons ps (n - 1) p here ∙ ap (λ (y : Pair). y ∷ drop (suc (n - 1)) ps) (sym is) ∙ ap (λ (k : ℕ). p ∷ drop k ps) next in
    ap (λ (qs : List Pair). once d (map values_of qs)) whole_is

some_not_none : (o : Option Json) → is_some o ≡ true → is_none o ≡ false
some_not_none None h = absurd (cc)
some_not_none (Some j) h = refl

none_not_some : (o : Option Json) → is_some o ≡ false → is_none o ≡ true
none_not_some None h = refl
none_not_some (Some j) h = absurd (cc)

pub once_found : (d : Side) (ps : List Pair) (n : ℕ) (p : Pair) (v : Json) (r : Bool) → 0 < n → n ≤ length ps → p ≡ get_or ps (n - 1) p → v ≡ value_on d (values_of p) → r ≡ is_some (partner d v (map values_of (drop n ps))) → r ≡ true
    → false ≡ once d (map values_of ps)
once_found d ps n p v r more within is value answer found =
    let test : is_some (partner d (value_on d (values_of p)) (map values_of (drop n ps))) ≡ true = ap (λ (j : Json). is_some (partner d j (map values_of (drop n ps)))) (sym value) ∙ sym answer ∙ found in
    sym (once_front d ps (n - 1) (once_at d ps n p more within is ∙ ap (λ (b : Bool). b && once d (map values_of (drop n ps))) (some_not_none (partner d (value_on d (values_of p)) (map values_of (drop n ps))) test)))

pub once_more : (d : Side) (ps : List Pair) (n : ℕ) (p : Pair) (v : Json) (r : Bool) → 0 < n → n ≤ length ps → p ≡ get_or ps (n - 1) p → v ≡ value_on d (values_of p) → r ≡ is_some (partner d v (map values_of (drop n ps))) → r ≡ false
    → once d (map values_of (drop n ps)) ≡ true → once d (map values_of (drop (n - 1) ps)) ≡ true
once_more d ps n p v r more within is value answer new rest =
    let test : is_some (partner d (value_on d (values_of p)) (map values_of (drop n ps))) ≡ false = ap (λ (j : Json). is_some (partner d j (map values_of (drop n ps)))) (sym value) ∙ sym answer ∙ new in
    once_at d ps n p more within is ∙ ap (λ (b : Bool). b && once d (map values_of (drop n ps))) (none_not_some (partner d (value_on d (values_of p)) (map values_of (drop n ps))) test) ∙ rest

pub once_all : (d : Side) (ps : List Pair) (n : ℕ) → n ≤ 0 → once d (map values_of (drop n ps)) ≡ true → true ≡ once d (map values_of ps)
once_all d ps n e h =
    let none : n ≡ 0 = omega arith in
    sym (ap (λ (k : ℕ). once d (map values_of (drop k ps))) (sym none) ∙ h)

pub once_none : (d : Side) (ps : List Pair) → once d (map values_of (drop (length ps) ps)) ≡ true
once_none d ps = ap (λ (qs : List Pair). once d (map values_of qs)) (drop-length ps)

-- the same of the rest as the slice that it is
rest_is : (ps : List Pair) (n : ℕ) → take (length ps - n) (drop n ps) ≡ drop n ps
rest_is ps n = take_all (length ps - n) (drop n ps) (omega (arith, length-drop n ps))

pub again_is : (d : Side) (ps : List Pair) (n : ℕ) (v : Json) (r : Bool) (p : Places) → (ArePlaces p n (column d (map values_of (take (length ps - n) (drop n ps)))) → r ≡ is_some (partner d v (map values_of (take (length ps - n) (drop n ps)))))
    → ArePlaces p n (column d (map values_of (drop n ps))) → r ≡ is_some (partner d v (map values_of (drop n ps)))
again_is d ps n v r p f h =
    let e = rest_is ps n in
    subst (λ (qs : List Pair). r ≡ is_some (partner d v (map values_of qs))) e (f (subst (λ (qs : List Pair). ArePlaces p n (column d (map values_of qs))) (sym e) h))
