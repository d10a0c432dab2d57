-- The texts of lists of objects, in pieces.
use Rattle.std.specs.Prelude.{◌≡◌, ℕ, zero, suc, List, [], ◌∷◌, ◌++◌, codes, decimal, nat_eq, if◌then◌else◌}
use Rattle.kj_value.specs.Text.{quoted}
use Rattle.api_calls.specs.Meaning.{Meaning}
use Rattle.api_calls.specs.Documents.{group_version}

-- a text goes on by a piece
pub record Adds (before piece after : List ℕ) : Type 0 where
  pub text : after ≡ before ++ piece

-- what stands before the thing at a place of a list
abbrev pub comma_before : ℕ → List ℕ
comma_before zero = []
comma_before (suc i) = codes ","

-- the texts of things from a place of a list on, each behind the first with a comma before it
abbrev pub joined_from : {X : Type 0} → (X → List ℕ) → ℕ → List X → List ℕ
joined_from f i [] = []
joined_from f i (x ∷ xs) = (comma_before i ++ f x) ++ joined_from f (suc i) xs

-- ---- a list of objects

unfoldable pub before_version : List ℕ
before_version = codes "{\"apiVersion\":"

unfoldable pub before_items : List ℕ
before_items = codes ",\"items\":["

unfoldable pub before_list_kind : List ℕ
before_list_kind = codes "],\"kind\":"

unfoldable pub before_continue : List ℕ
before_continue = codes ",\"metadata\":{\"continue\":"

unfoldable pub before_left : List ℕ
before_left = codes ",\"remainingItemCount\":"

unfoldable pub before_revision : List ℕ
before_revision = codes ",\"resourceVersion\":"

unfoldable pub two_ends : List ℕ
two_ends = codes "}}"

-- what stands before the objects
abbrev pub list_front : Meaning → ℕ → List ℕ
list_front m v = before_version ++ (quoted (group_version m v) ++ before_items)

-- what is left behind the last page isn't told
abbrev pub left_text : ℕ → List ℕ
left_text n = if nat_eq n 0 then [] else before_left ++ decimal n

-- what stands behind the objects
abbrev pub list_back : Meaning → List ℕ → ℕ → ℕ → List ℕ
list_back m token number remaining =
    before_list_kind ++ (quoted m.list_kind ++ (before_continue ++ (quoted token ++ (left_text remaining ++ (before_revision ++ (quoted (decimal number) ++ two_ends))))))
