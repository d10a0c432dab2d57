-- The rows that long options leave, and what a use of one comes to.
use Rattle.std.proofs.Common.{◌≡◌, ◌∙◌, ◌<◌, ◌⊎◌, ◌++◌, Bool, cond, true, false, List, [], ◌∷◌, length, map, Some, None, lt-ltb, refl, sym, ap, inl, inr, arith, true≢false, append-nil}
use Rattle.std.specs.Prelude.{option_and_then, slice_get}
use Rattle.std.specs.Str.{bytes_eq}
use Rattle.std.proofs.lemmas.Slice.Eq.{bytes_eq-Decides}
use Rattle.clap.specs.Walk.{Row, Rule, Text, at_row, arg_by_id, arg_by_long, first_of, has_row, more_values, used}
use Rattle.clap.specs.Kinds.{Kinds, or_else}
use Rattle.clap.specs.Faults.{use_fault}
use Rattle.clap.specs.declared.builder.value_parser.ValueParser.TheVariants as vp
use Rattle.clap.specs.declared.builder.value_parser.Reading.TheVariants as reading
use Rattle.clap.specs.declared.builder.action.ArgAction.TheVariants as action
use Rattle.clap.specs.declared.parser.matches.ValueSource.TheVariants as source

-- ---- steps that fail

pub both_none : (a b : Kinds) → a ≡ [] → b ≡ [] → or_else a b ≡ []
both_none a b x y = ap (λ k. or_else k b) x ∙ y

pub then_none : (a : Kinds) → or_else a [] ≡ a
then_none [] = refl
then_none (k ∷ ks) = refl

-- ---- texts

pub same_text : (n : Text) → bytes_eq n n ≡ true
same_text n = (bytes_eq-Decides n n).1 refl

-- the text is one of those
abbrev pub Among : Text → List Text → Type 0
Among n [] = ⊥
Among n (x ∷ xs) = (x ≡ n) ⊎ Among n xs

-- ---- rules

-- a long option that takes one value, which isn't empty
abbrev pub option_rule : Text → Rule
option_rule name = record {
  id = name;
  long = Some name;
  aliases = [];
  short = None;
  short_aliases = [];
  index = None;
  action = Some action.Set;
  range = Some (record { start_inclusive = 1; end_inclusive = 1 });
  value_names = 0;
  defaults = [];
  missing = [];
  trailing_var_arg = false;
  parser = Some vp.NonEmptyString;
  ignore_case = false;
  required = false;
  is_simple = true;
  is_free = true;
}

pub by_long : (xs : List Text) (n : Text) → Among n xs → arg_by_long (map option_rule xs) n ≡ Some (option_rule n)
by_long [] n among = absurd among
by_long (x ∷ xs) n among = go (bytes_eq x n) refl (by_long xs n)
  where
    go : (t : Bool) → bytes_eq x n ≡ t → (Among n xs → arg_by_long (map option_rule xs) n ≡ Some (option_rule n)) → arg_by_long (map option_rule (x ∷ xs)) n ≡ Some (option_rule n)
    go true e later = rw e (ap (λ (y : Text). Some (option_rule y)) ((bytes_eq-Decides x n).0 e))
    go false e later = rw e (later (elim among [
      | inl same ↦ absurd (true≢false (sym ((bytes_eq-Decides x n).1 same) ∙ e))
      | inr more ↦ more
    ]))

pub by_id : (xs : List Text) (n : Text) → Among n xs → arg_by_id (map option_rule xs) n ≡ Some (option_rule n)
by_id [] n among = absurd among
by_id (x ∷ xs) n among = go (bytes_eq x n) refl (by_id xs n)
  where
    go : (t : Bool) → bytes_eq x n ≡ t → (Among n xs → arg_by_id (map option_rule xs) n ≡ Some (option_rule n)) → arg_by_id (map option_rule (x ∷ xs)) n ≡ Some (option_rule n)
    go true e later = rw e (ap (λ (y : Text). Some (option_rule y)) ((bytes_eq-Decides x n).0 e))
    go false e later = rw e (later (elim among [
      | inl same ↦ absurd (true≢false (sym ((bytes_eq-Decides x n).1 same) ∙ e))
      | inr more ↦ more
    ]))

-- ---- rows

abbrev pub row : Text → Text → Row
row n v = record { id = n; values = v ∷ []; count = None; source = Some source.CommandLine; reading = reading.AsWritten }

pub at_missing : (id : Text) (change : Row → List Row) (missing rows : List Row) → has_row id rows ≡ false → at_row id change missing rows ≡ rows ++ missing
at_missing id change missing [] none = refl
at_missing id change missing (r ∷ rs) none = go (bytes_eq r.id id) refl (at_missing id change missing rs)
  where
    go : (t : Bool) → bytes_eq r.id id ≡ t → (has_row id rs ≡ false → at_row id change missing rs ≡ rs ++ missing) → at_row id change missing (r ∷ rs) ≡ (r ∷ rs) ++ missing
    go true e later = absurd (true≢false (rw e at none))
    go false e later = rw e (ap (λ (ys : List Row). r ∷ ys) (later (rw e at none)))

pub used_is : (n v : Text) (rows : List Row) → has_row n rows ≡ false → used (option_rule n) (v ∷ []) rows ≡ rows ++ row n v ∷ []
used_is n v rows none =
    let same = at_missing n (λ _. []) [] rows none ∙ append-nil rows in
    let more = more_values source.CommandLine (v ∷ []) in
    ap (at_row n more (row n v ∷ [])) same ∙ at_missing n more (row n v ∷ []) rows none

pub use_passes : (n v : Text) (rows : List Row) → has_row n rows ≡ false → 0 < length v → use_fault false (option_rule n) (v ∷ []) rows ≡ []
use_passes n [] rows none some = absurd (omega (arith, some))
use_passes n (b ∷ bs) rows none some = rw (none, lt-ltb 0 (length (b ∷ bs)) some) refl

-- where no row is added, the first value of an id stays
pub first_added : (id n v : Text) (rows : List Row) → first_of id (rows ++ row n v ∷ []) ≡ cond (has_row id rows) (first_of id rows) (cond (bytes_eq n id) (Some v) None)
first_added id n v [] = go (bytes_eq n id)
  where
    go : (t : Bool) → option_and_then (λ (r : Row). slice_get r.values 0) (cond t (Some (row n v)) None) ≡ cond t (Some v) None
    go true = refl
    go false = refl
first_added id n v (r ∷ rs) = go (bytes_eq r.id id) refl (first_added id n v rs)
  where
    go : (t : Bool) → bytes_eq r.id id ≡ t → first_of id (rs ++ row n v ∷ []) ≡ cond (has_row id rs) (first_of id rs) (cond (bytes_eq n id) (Some v) None)
        → first_of id ((r ∷ rs) ++ row n v ∷ []) ≡ cond (has_row id (r ∷ rs)) (first_of id (r ∷ rs)) (cond (bytes_eq n id) (Some v) None)
    go true e later = rw e refl
    go false e later = rw e later
