-- The objects of a page: each is within the levels of an answer, and tells its key.
use Rattle.std.proofs.Common.{◌≡◌, ◌<◌, ◌≤◌, ◌-◌, ℕ, zero, suc, max, Some, List, [], ◌∷◌, map, length, get_or, sym, subst, arith}
use Rattle.std.specs.Prelude.{slice_get}
use Rattle.kj_value.specs.Json.{depth, items_depth, items_of}
use Rattle.kj_value.specs.Seen.{json}
use Rattle.kj_value.specs.declared.value.JVal.{JVal}
use Rattle.wire_client.specs.Keys.{IsKeyed, AreKeyed}

left_within : (a b m : ℕ) → max a b ≤ m → a ≤ m
left_within a b m p = omega arith

right_within : (a b m : ℕ) → max a b ≤ m → b ≤ m
right_within a b m p = omega arith

pub depth_at : (vs : List JVal) (i : ℕ) (v : JVal) (m : ℕ) → i < length vs → v ≡ get_or vs i v → items_depth (items_of (map json vs)) ≤ m → depth (json v) ≤ m
depth_at [] i v m within at low = absurd (omega arith)
depth_at (w ∷ vs) zero v m within at low =
    subst (λ (u : JVal). depth (json u) ≤ m) (sym at) (left_within (depth (json w)) (items_depth (items_of (map json vs))) m low)
depth_at (w ∷ vs) (suc i) v m within at low = depth_at vs i v m (omega arith) at (right_within (depth (json w)) (items_depth (items_of (map json vs))) m low)

pub keyed_at : (vs : List JVal) (i : ℕ) (v : JVal) → i < length vs → v ≡ get_or vs i v → AreKeyed (map json vs) → IsKeyed (json v)
keyed_at [] i v within at keyed = absurd (omega arith)
keyed_at (w ∷ vs) zero v within at keyed = subst (λ (u : JVal). IsKeyed (json u)) (sym at) keyed.0
keyed_at (w ∷ vs) (suc i) v within at keyed = keyed_at vs i v (omega arith) at keyed.1

pub keyed_last : (vs : List JVal) (v : JVal) → Some v ≡ slice_get vs (length vs - 1) → AreKeyed (map json vs) → IsKeyed (json v)
keyed_last vs v at keyed = by_place vs (length vs - 1) at keyed
  where
    by_place : (vs : List JVal) (i : ℕ) → Some v ≡ slice_get vs i → AreKeyed (map json vs) → IsKeyed (json v)
    by_place [] i at keyed = absurd (cc)
    by_place (w ∷ vs) zero at keyed =
        let same : v ≡ w = cc in
        subst (λ (u : JVal). IsKeyed (json u)) (sym same) keyed.0
    by_place (w ∷ vs) (suc i) at keyed = by_place vs i at keyed.1
