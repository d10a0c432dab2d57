-- A command of long options alone, from its first word to its last check.
use Rattle.std.proofs.Common.{◌≡◌, ◌∙◌, ◌&&◌, Bool, true, false, not, List, [], ◌∷◌, map, refl, ap, fold}
use Rattle.std.specs.List.{list_any}
use Rattle.clap.specs.Walk.{Held, Row, Rule, Text, has_row, nothing_held, rows_after, with_default}
use Rattle.clap.specs.Takes.{is_given}
use Rattle.clap.specs.Faults.{check_fault, default_fault, defaults_fault, level_fault}
use Rattle.command_lines.proofs.Rows.{Among, both_none, option_rule}
use Rattle.command_lines.proofs.Walking.{IsName, IsReady, R, S, Takes, end_of, passes, ready_done}

no_default : (x : Text) (rows : List Row) → default_fault rows (option_rule x) ≡ []
no_default x rows = go (has_row x rows) refl
  where
    go : (t : Bool) → has_row x rows ≡ t → default_fault rows (option_rule x) ≡ []
    go true e = rw e refl
    go false e = rw e refl

no_defaults : (xs : List Text) (rows : List Row) → defaults_fault rows (map option_rule xs) ≡ []
unfolding defaults_fault
no_defaults [] rows = refl
no_defaults (x ∷ xs) rows = both_none _ _ (no_default x rows) (no_defaults xs (with_default rows (option_rule x)))

same_rows : (x : Text) (rows : List Row) → with_default rows (option_rule x) ≡ rows
same_rows x rows = go (has_row x rows) refl
  where
    go : (t : Bool) → has_row x rows ≡ t → with_default rows (option_rule x) ≡ rows
    go true e = rw e refl
    go false e = rw e refl

kept : (xs : List Text) (rows : List Row) → fold with_default rows (map option_rule xs) ≡ rows
kept [] rows = refl
kept (x ∷ xs) rows = ap (λ rs. fold with_default rs (map option_rule xs)) (same_rows x rows) ∙ kept xs rows

no_required : (xs : List Text) (rows : List Row) → list_any (λ (a : Rule). a.required && not (is_given a.id rows)) (map option_rule xs) ≡ false
no_required [] rows = refl
no_required (x ∷ xs) rows = no_required xs rows

module _ (command : Text) (options : List Text) (legal : (n : Text) → Among n options → IsName n) where
  checks : (rows : List Row) → check_fault (S command options) rows false ≡ []
  checks rows = rw (no_required options rows) refl

  ends : (words : List Text) (after : List Row) → IsReady command options (end_of command options nothing_held words) after → rows_after (R command options) [] words ≡ after
  ends words after ready = ap (λ (k : Held). fold with_default k.rows (R command options)) ready.1 ∙ kept options after

  pub level_passes : (words : List Text) (after : List Row) → Takes options words [] after
      → (level_fault (S command options) [] nothing_held words false [] ≡ []) × (rows_after (R command options) [] words ≡ after)
  level_passes words after takes =
      let p = passes command options legal words nothing_held [] after (ready_done command options []) takes in (
        both_none _ _ p.0 (both_none _ _ p.1.0 (both_none _ _ (no_defaults options _) (checks _))),
        ends words after p.1,
      )
