-- The priority of versions (Kubernetes, "Versions in CustomResourceDefinitions", "Version priority").
use Rattle.std.specs.Prelude.{ℕ, ◌^◌, Bool, not, ◌&&◌, ◌||◌, if◌then◌else◌, List, [], ◌∷◌, ◌++◌, length, drop, nat_eq, nat_le, ◌==◌, codes, decimal, Option, Some, None}
use Rattle.std.specs.Char.{is_ascii_digit}
use Rattle.std.specs.List.{list_all, starts_with, take_while}
use Rattle.std.specs.Ordering.{nat_cmp, on, then_cmp, flip_args}
use Rattle.std.specs.declared.cmp.Ordering.{Ordering}
use Rattle.std.specs.Cmp.Lexicographic.{slice_cmp}
use Rattle.api_calls.specs.declared.ranking.Ranked.{Ranked}

-- a number of at most 9 digits, without leading zeros
abbrev pub is_number : List ℕ → Bool
is_number ds =
    nat_le 1 (length ds) && nat_le (length ds) 9 && list_all is_ascii_digit ds && (nat_le (length ds) 1 || not (starts_with nat_eq ds (codes "0")))

-- of two such numbers the longer is the larger; of one length they stand as their bytes do
abbrev pub number_cmp : List ℕ → List ℕ → Ordering
number_cmp = then_cmp (on length nat_cmp) (slice_cmp nat_cmp)

-- what a name tells: its stage, and the digits of N and M
pub record Version : Type 0 where
  pub stage : ℕ
  pub major : List ℕ
  pub minor : List ℕ

-- `vN`, `vNbetaM`, `vNalphaM`, and every other name
abbrev pub ga : List ℕ → Version
ga n = record { stage = 0; major = n; minor = [] }

abbrev pub beta : List ℕ → List ℕ → Version
beta n m = record { stage = 1; major = n; minor = m }

abbrev pub alpha : List ℕ → List ℕ → Version
alpha n m = record { stage = 2; major = n; minor = m }

abbrev pub other : Version
other = record { stage = 3; major = []; minor = [] }

-- the number behind the word with which a text begins
abbrev pub number_behind : List ℕ → List ℕ → Option (List ℕ)
number_behind word t =
    if starts_with nat_eq t word && is_number (drop (length word) t) then Some (drop (length word) t) else None

-- N, and M behind `beta` or behind `alpha`
abbrev pub either_stage : List ℕ → Option (List ℕ) → Option (List ℕ) → Version
either_stage n (Some m) a = beta n m
either_stage n None (Some m) = alpha n m
either_stage n None None = other

-- N, and what stands behind it
abbrev pub staged : List ℕ → List ℕ → Version
staged n [] = ga n
staged n (b ∷ bs) = either_stage n (number_behind (codes "beta") (b ∷ bs)) (number_behind (codes "alpha") (b ∷ bs))

-- the digits at the front
abbrev pub digits : List ℕ → List ℕ
digits t = take_while is_ascii_digit t

-- what stands behind `v`: its first digits are N
abbrev pub numbered : List ℕ → Version
numbered t = if is_number (digits t) then staged (digits t) (drop (length (digits t)) t) else other

-- `v`
abbrev pub letter_v : ℕ
letter_v = 118

unfoldable pub version_of : List ℕ → Version
version_of [] = other
version_of (b ∷ bs) = if b == letter_v then numbered bs else other

-- the names that tell N and M, which are decimal numbers of at most 9 digits
abbrev pub numbers_end : ℕ
numbers_end = 10 ^ 9

abbrev pub ga_name : ℕ → List ℕ
ga_name n = codes "v" ++ decimal n

abbrev pub beta_name : ℕ → ℕ → List ℕ
beta_name n m = codes "v" ++ (decimal n ++ (codes "beta" ++ decimal m))

abbrev pub alpha_name : ℕ → ℕ → List ℕ
alpha_name n m = codes "v" ++ (decimal n ++ (codes "alpha" ++ decimal m))

-- by stage, then the larger N first, then the larger M first, then by bytes
abbrev pub version_cmp : Version → Version → Ordering
version_cmp = then_cmp (on (λ (v : Version). v.stage) nat_cmp)
    (then_cmp (flip_args (on (λ (v : Version). v.major) number_cmp)) (flip_args (on (λ (v : Version). v.minor) number_cmp)))

abbrev pub priority_cmp : List ℕ → List ℕ → Ordering
priority_cmp = then_cmp (on version_of version_cmp) (slice_cmp nat_cmp)

-- ---- for private clauses

abbrev pub ranked : Ranked → Version
ranked r = record { stage = r.stage; major = r.major.now; minor = r.minor.now }
