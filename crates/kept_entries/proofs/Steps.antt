-- Paths compared name by name, where the shorter one ends.
use Rattle.std.proofs.Common.{◌≡◌, ℕ, zero, suc, ◌<◌, ◌≤◌, List, [], ◌∷◌, map, drop, length, Less, Greater, nat_cmp, refl, arith}
use Rattle.std.specs.Cmp.Lexicographic.{slice_cmp}
use Rattle.kj_value.specs.Texts.{bytes_of}
use Rattle.kj_value.specs.declared.txt.Txt.{Txt}

less_nil : (ys : List Txt) (i : ℕ) → i < length ys → slice_cmp (slice_cmp nat_cmp) [] (map bytes_of (drop i ys)) ≡ Less
less_nil [] i q = absurd (omega arith)
less_nil (y ∷ ys) zero q = refl
less_nil (y ∷ ys) (suc i) q = less_nil ys i (omega arith)

nil_greater : (xs : List Txt) (i : ℕ) → i < length xs → slice_cmp (slice_cmp nat_cmp) (map bytes_of (drop i xs)) [] ≡ Greater
nil_greater [] i q = absurd (omega arith)
nil_greater (x ∷ xs) zero q = refl
nil_greater (x ∷ xs) (suc i) q = nil_greater xs i (omega arith)

pub ends_less : (xs ys : List Txt) (i : ℕ) → length xs ≤ i → i < length ys → slice_cmp (slice_cmp nat_cmp) (map bytes_of (drop i xs)) (map bytes_of (drop i ys)) ≡ Less
ends_less [] ys zero p q = less_nil ys zero q
ends_less [] ys (suc i) p q = less_nil ys (suc i) q
ends_less (x ∷ xs) ys zero p q = absurd (omega arith)
ends_less (x ∷ xs) [] (suc i) p q = absurd (omega arith)
ends_less (x ∷ xs) (y ∷ ys) (suc i) p q = ends_less xs ys i (omega arith) (omega arith)

pub ends_greater : (xs ys : List Txt) (i : ℕ) → length ys ≤ i → i < length xs → slice_cmp (slice_cmp nat_cmp) (map bytes_of (drop i xs)) (map bytes_of (drop i ys)) ≡ Greater
ends_greater xs [] zero p q = nil_greater xs zero q
ends_greater xs [] (suc i) p q = nil_greater xs (suc i) q
ends_greater xs (y ∷ ys) zero p q = absurd (omega arith)
ends_greater [] (y ∷ ys) (suc i) p q = absurd (omega arith)
ends_greater (x ∷ xs) (y ∷ ys) (suc i) p q = ends_greater xs ys i (omega arith) (omega arith)
