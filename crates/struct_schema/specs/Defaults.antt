-- Whether one of some schemas has a default.
use Rattle.std.specs.Prelude.{ℕ, List, Bool, is_some}
use Rattle.std.specs.List.{list_any}
use Rattle.struct_schema.specs.Shape.{Shape, own}

abbrev pub have_default : List (List ℕ × Shape) → Bool
have_default es = list_any (λ e. is_some (own e.1).default_value) es
