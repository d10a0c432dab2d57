-- Pieces that are added one after another.
use Rattle.std.proofs.Common.{◌≡◌, ℕ, ◌+◌, ◌≤◌, ◌<◌, List, [], ◌∷◌, ◌++◌, length, Bool, true, false, append_assoc, length-append, arith, lit≤}
use Rattle.std.specs.Prelude.{nat_eq, All}
use Rattle.std.specs.List.{IsDistinct}
use Rattle.api_calls.specs.Versions.{AreVersions}
use Rattle.versions_fixture.specs.Definition.{flags_text, before_storage}

pub three_text : (o b1 b2 b3 p1 p2 p3 : List ℕ) → b1 ≡ o ++ p1 → b2 ≡ b1 ++ p2 → b3 ≡ b2 ++ p3 → b3 ≡ o ++ (p1 ++ (p2 ++ p3))
three_text o b1 b2 b3 p1 p2 p3 e1 e2 e3 = rw (e3, e2, e1) (simp append_assoc)

pub three_room : (o r1 r2 r3 : ℕ) (p1 p2 p3 : List ℕ) → r1 + length p1 ≡ o → r2 + length p2 ≡ r1 → r3 + length p3 ≡ r2
    → r3 + length (p1 ++ (p2 ++ p3)) ≡ o
three_room o r1 r2 r3 p1 p2 p3 e1 e2 e3 = omega (arith, length-append p1 (p2 ++ p3), length-append p2 p3)

pub seven_text : (o b1 b2 b3 b4 b5 b6 b7 p1 p2 p3 p4 p5 p6 p7 : List ℕ) → b1 ≡ o ++ p1 → b2 ≡ b1 ++ p2 → b3 ≡ b2 ++ p3 → b4 ≡ b3 ++ p4
    → b5 ≡ b4 ++ p5 → b6 ≡ b5 ++ p6 → b7 ≡ b6 ++ p7 → b7 ≡ o ++ (p1 ++ p2 ++ p3 ++ p4 ++ p5 ++ p6 ++ p7)
seven_text o b1 b2 b3 b4 b5 b6 b7 p1 p2 p3 p4 p5 p6 p7 e1 e2 e3 e4 e5 e6 e7 = rw (e7, e6, e5, e4, e3, e2, e1) (simp append_assoc)

pub seven_room : (o r1 r2 r3 r4 r5 r6 r7 : ℕ) (p1 p2 p3 p4 p5 p6 p7 : List ℕ) → r1 + length p1 ≡ o → r2 + length p2 ≡ r1 → r3 + length p3 ≡ r2 → r4 + length p4 ≡ r3
    → r5 + length p5 ≡ r4 → r6 + length p6 ≡ r5 → r7 + length p7 ≡ r6 → r7 + length (p1 ++ p2 ++ p3 ++ p4 ++ p5 ++ p6 ++ p7) ≡ o
seven_room o r1 r2 r3 r4 r5 r6 r7 p1 p2 p3 p4 p5 p6 p7 e1 e2 e3 e4 e5 e6 e7 = simp length-append (omega arith)

pub short_flags : (served stored : Bool) → length (flags_text served stored) ≤ 24
unfolding before_storage
short_flags true true = lit≤ tt
short_flags true false = lit≤ tt
short_flags false true = lit≤ tt
short_flags false false = lit≤ tt

distinct_one : (v : ℕ) → IsDistinct nat_eq (v ∷ [])
unfolding IsDistinct
distinct_one v = (tt, tt)

only_known : (v : ℕ) → v < 2 → All (λ w. w < 2) (v ∷ [])
only_known v h k d l =
    let first : k ≡ 0 = omega arith in rw first h

pub only_version : (v : ℕ) → v < 2 → AreVersions 2 (v ∷ [])
only_version v h = record { few = lit≤ tt; known = only_known v h; distinct = distinct_one v }
