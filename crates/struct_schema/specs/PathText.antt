-- The path of a value in a document: names joined by points, with items in brackets, built from its end.
use Rattle.std.specs.Prelude.{ℕ, List, [], ◌++◌, Bool, true, false, codes, decimal}
use Rattle.struct_schema.specs.Path.{point}

pub record Path : Type 0 where
  pub text : List ℕ
  pub is_named : Bool

-- the value itself
abbrev pub here : Path
here = record { text = []; is_named = false }

-- one name further out; a point stands before each name but the first
abbrev pub in_name : List ℕ → Path → Path
in_name n p = record { text = n ++ point p.is_named ++ p.text; is_named = true }

-- one list further out
abbrev pub in_item : ℕ → Path → Path
in_item i p = record { text = (codes "[" ++ decimal i ++ codes "]") ++ point p.is_named ++ p.text; is_named = false }
