-- A path into a value: names joined by points, with items in brackets.
use Rattle.std.specs.Prelude.{ℕ, List, [], ◌∷◌, ◌++◌, Bool, true, false, cond, codes, decimal}

pub data Step : Type 0 where
  named : List ℕ → Step
  at : ℕ → Step

-- a point stands before each name but the first
abbrev pub starts_named : List Step → Bool
starts_named [] = false
starts_named (named n ∷ ps) = true
starts_named (at i ∷ ps) = false

abbrev pub point : Bool → List ℕ
point b = cond b (codes ".") []

abbrev pub path_text : List Step → List ℕ
path_text [] = []
path_text (named n ∷ ps) = n ++ point (starts_named ps) ++ path_text ps
path_text (at i ∷ ps) = codes "[" ++ decimal i ++ codes "]" ++ point (starts_named ps) ++ path_text ps
