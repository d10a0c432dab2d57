-- A line with its end.
use Rattle.std.specs.Prelude.{◌++◌, ℕ, List, codes}

-- a line with its end
abbrev pub ended_line : List ℕ → List ℕ
ended_line text = text ++ codes "\n"
