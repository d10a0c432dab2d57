-- What reading a value gives: what it spells, or the path of the first thing that is refused in it.
use Rattle.std.specs.Prelude.{ℕ, List, ◌∷◌, Result, Ok, Err}
use Rattle.struct_schema.specs.PathText.{Path, in_name, in_item}

abbrev pub Tried : Type 0 → Type 0
Tried A = Result A Path

abbrev pub under_name : {A : Type 0} → List ℕ → Result A Path → Result A Path
under_name n (Ok a) = Ok a
under_name n (Err p) = Err (in_name n p)

abbrev pub under_item : {A : Type 0} → ℕ → Result A Path → Result A Path
under_item i (Ok a) = Ok a
under_item i (Err p) = Err (in_item i p)

abbrev pub as_read : {A B : Type 0} → (A → B) → Result A Path → Result B Path
as_read f (Ok a) = Ok (f a)
as_read f (Err p) = Err p

-- one after the other; the second is tried only where the first is allowed
abbrev pub both : {A B : Type 0} → Result A Path → Result B Path → Result (A × B) Path
both (Err p) r = Err p
both (Ok a) (Err p) = Err p
both (Ok a) (Ok b) = Ok (a, b)

abbrev pub with_first : {A : Type 0} → A → Result (List A) Path → Result (List A) Path
with_first a (Ok bs) = Ok (a ∷ bs)
with_first a (Err p) = Err p

-- what comes after may depend on what was read
abbrev pub more : {A : Type 0} → Result A Path → (A → Result (List A) Path) → Result (List A) Path
more (Err p) f = Err p
more (Ok a) f = with_first a (f a)
