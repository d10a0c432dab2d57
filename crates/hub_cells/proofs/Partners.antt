-- What the places of a table's values tell of partners.
use Rattle.std.proofs.Common.{◌≡◌, ℕ, suc, ◌+◌, ◌<◌, List, [], ◌∷◌, length, get_or, map, Bool, true, false, cond, Option, Some, None, refl, ap, sym, ◌∙◌, arith}
use Rattle.std.specs.Prelude.{is_some}
use Rattle.kj_value.specs.Json.{Json}
use Rattle.kj_value.specs.Same.{json_same}
use Rattle.struct_schema.specs.Places.{first_from}
use Rattle.hub_cells.specs.Side.{Side, other}
use Rattle.hub_cells.specs.Cell.{value_on}
use Rattle.hub_cells.specs.Cross.{partner}
use Rattle.hub_cells.specs.Pairs.{values_of}
use Rattle.hub_cells.specs.Sought.{column}
use Rattle.hub_cells.specs.declared.pairs.Pair.{Pair}

-- what stands at a place that is found, so many behind the first place k
pub record Hits (d : Side) (j : Json) (ps : List Pair) (k i : ℕ) : Type 0 where
  pub behind : ℕ
  pub is : i ≡ k + behind
  pub within : behind < length ps
  pub value : (p : Pair) → partner d j (map values_of ps) ≡ Some (value_on (other d) (values_of (get_or ps behind p)))

some_inj : (k i : ℕ) → Some k ≡ Some i → k ≡ i
some_inj k i e = cc

pub hits : (d : Side) (j : Json) (ps : List Pair) (k i : ℕ) → first_from k j (column d (map values_of ps)) ≡ Some i → Hits d j ps k i
hits d j [] k i e = absurd (cc)
hits d j (p ∷ ps) k i e =
    by_test (json_same (value_on d (values_of p)) j) refl e (λ f. hits d j ps (k + 1) i f)
  where
    by_test : (b : Bool) → json_same (value_on d (values_of p)) j ≡ b → cond b (Some k) (first_from (k + 1) j (column d (map values_of ps))) ≡ Some i → (first_from (k + 1) j (column d (map values_of ps)) ≡ Some i → Hits d j ps (k + 1) i) → Hits d j (p ∷ ps) k i
    by_test true q f later =
        let same : k ≡ i = some_inj k i f in record {
          behind = 0;
          is = omega (arith, same);
          within = omega arith;
          value = λ x. ap (λ (b : Bool). cond b (Some (value_on (other d) (values_of p))) (partner d j (map values_of ps))) q;
        }
    by_test false q f later =
        let h = later f in record {
          behind = suc h.behind;
          is = omega (arith, h.is);
          within = omega (arith, h.within);
          value = λ x. ap (λ (b : Bool). cond b (Some (value_on (other d) (values_of p))) (partner d j (map values_of ps))) q ∙ h.value x;
        }

-- a value that has no place has no partner, and one that has a place has one
pub same_some : (d : Side) (j : Json) (ps : List (Json × Json)) (k : ℕ) → is_some (partner d j ps) ≡ is_some (first_from k j (column d ps))
same_some d j [] k = refl
same_some d j (p ∷ ps) k = by_test (json_same (value_on d p) j) (same_some d j ps (k + 1))
  where
    by_test : (b : Bool) → is_some (partner d j ps) ≡ is_some (first_from (k + 1) j (column d ps)) → is_some (cond b (Some (value_on (other d) p)) (partner d j ps)) ≡ is_some (cond b (Some k) (first_from (k + 1) j (column d ps)))
    by_test true h = refl
    by_test false h = h

some_is : (o : Option Json) → is_some o ≡ false → o ≡ None
some_is None h = refl
some_is (Some j) h = absurd (cc)

pub misses : (d : Side) (j : Json) (ps : List (Json × Json)) (k : ℕ) → first_from k j (column d ps) ≡ None → partner d j ps ≡ None
misses d j ps k e =
    some_is (partner d j ps) (same_some d j ps k ∙ ap (λ (o : Option ℕ). is_some o) e)

pub found_within : (d : Side) (j : Json) (ps : List Pair) (i : ℕ) → first_from 0 j (column d (map values_of ps)) ≡ Some i → i < length ps
found_within d j ps i e = let h = hits d j ps 0 i e in omega (arith, h.is, h.within)

pub found_partner : (d : Side) (j : Json) (ps : List Pair) (i : ℕ) (p : Pair) (v : Json) → first_from 0 j (column d (map values_of ps)) ≡ Some i → p ≡ get_or ps i p → v ≡ value_on (other d) (values_of p) → Some v ≡ partner d j (map values_of ps)
found_partner d j ps i p v e is value =
    let h = hits d j ps 0 i e in
    let there : i ≡ h.behind = omega (arith, h.is) in
    let here : v ≡ value_on (other d) (values_of (get_or ps h.behind p)) = value ∙ ap (λ (q : Pair). value_on (other d) (values_of q)) (is ∙ ap (λ (k : ℕ). get_or ps k p) there) in
    ap (λ (j : Json). Some j) here ∙ sym (h.value p)
