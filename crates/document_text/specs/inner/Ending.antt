-- For private clauses: where a value of a compact text ends.
use Rattle.std.specs.Prelude.{ℕ, zero, suc, ◌==◌, Bool, true, false, ◌||◌, ◌&&◌, if◌then◌else◌, List, [], ◌∷◌}
use Rattle.kj_value.specs.Characters.{quote, backslash, begin_list, end_list, begin_object, end_object, comma}

abbrev pub is_opening : ℕ → Bool
is_opening x = (x == begin_object) || (x == begin_list)

abbrev pub is_closing : ℕ → Bool
is_closing x = (x == end_object) || (x == end_list)

abbrev pub is_end : Bool → ℕ → Bool
is_end commas x = is_closing x || (commas && (x == comma))

abbrev pub is_top : ℕ → Bool
is_top zero = true
is_top (suc n) = false

-- one level less
abbrev pub above : ℕ → ℕ
above zero = zero
above (suc n) = n

-- what stands from the place on at which the value ends that the text is inside of, where so many levels inside of it are open; with commas, its item or field
abbrev mutual
  pub ending : Bool → ℕ → List ℕ → List ℕ
  ending commas level [] = []
  ending commas level (x ∷ xs) =
      if x == quote then in_text commas level xs else (
      if is_opening x then ending commas (suc level) xs else (
      if is_top level then (if is_end commas x then x ∷ xs else ending commas 0 xs) else (
      if is_closing x then ending commas (above level) xs else ending commas level xs)))

  -- inside of a text
  pub in_text : Bool → ℕ → List ℕ → List ℕ
  in_text commas level [] = []
  in_text commas level (x ∷ xs) = if x == backslash then escaped commas level xs else (if x == quote then ending commas level xs else in_text commas level xs)

  -- behind a backslash of a text
  pub escaped : Bool → ℕ → List ℕ → List ℕ
  escaped commas level [] = []
  escaped commas level (x ∷ xs) = in_text commas level xs
