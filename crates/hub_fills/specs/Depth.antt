-- How deep fills nest, 1 for those of a level with no object inside; and whether there is one.
use Rattle.std.specs.Prelude.{ℕ, suc, max, List, [], ◌∷◌, Bool, true, false, ◌||◌, Option, None, Some}
use Rattle.kj_value.specs.Json.{Json}
use Rattle.hub_fills.specs.Fills.{Fills, fills, Within, nothing_within, within}

abbrev mutual
  pub fills_depth : Fills → ℕ
  fills_depth (fills vs fs) = suc (within_depth fs)

  pub within_depth : Within → ℕ
  within_depth nothing_within = 0
  within_depth (within f fs) = max (fills_depth f) (within_depth fs)

abbrev pub has_value : List (Option Json) → Bool
has_value [] = false
has_value (None ∷ vs) = has_value vs
has_value (Some j ∷ vs) = true

abbrev mutual
  pub has_fill : Fills → Bool
  has_fill (fills vs fs) = has_value vs || has_within fs

  pub has_within : Within → Bool
  has_within nothing_within = false
  has_within (within f fs) = has_fill f || has_within fs

abbrev pub values_in : Fills → List (Option Json)
values_in (fills vs fs) = vs

abbrev pub within_in : Fills → Within
within_in (fills vs fs) = fs
