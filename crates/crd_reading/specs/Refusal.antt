-- What is refused of a document: its path and a word.
use Rattle.std.specs.Prelude.{ℕ, List, Option, None, Some}
use Rattle.struct_schema.specs.PathText.{Path, here, in_name, in_item}

pub record Refusal : Type 0 where
  pub path : Path
  pub why : List ℕ

-- the value itself
abbrev pub refused_here : List ℕ → Refusal
refused_here w = record { path = here; why = w }

-- one name further out
abbrev pub out_of_name : List ℕ → Refusal → Refusal
out_of_name n r = record { path = in_name n r.path; why = r.why }

-- one list further out
abbrev pub out_of_item : ℕ → Refusal → Refusal
out_of_item i r = record { path = in_item i r.path; why = r.why }

-- where something is refused
abbrev pub under_name : List ℕ → Option Refusal → Option Refusal
under_name n None = None
under_name n (Some r) = Some (out_of_name n r)

abbrev pub under_item : ℕ → Option Refusal → Option Refusal
under_item i None = None
under_item i (Some r) = Some (out_of_item i r)
