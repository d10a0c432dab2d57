-- Words that are no options, of a command that takes words without names alone.
use Rattle.std.proofs.Common.{◌≡◌, ◌∙◌, ℕ, Bool, false, List, [], None, ap}
use Rattle.std.specs.Prelude.{if◌then◌else◌}
use Rattle.std.specs.Option.{option_map_or}
use Rattle.clap.specs.Lexer.{long_of}
use Rattle.clap.specs.Walk.{Held, Rule, Step, Text, Walk, idle, trailing, value, after_step, long_or_other, short_or_plain, walked, word_met}
use Rattle.clap.specs.Faults.{bundle_fault, flag_word_fault, step_fault, turn_fault}
use Rattle.command_lines.specs.Lines.{IsValue}
use Rattle.command_lines.proofs.Rows.{both_none}
use Rattle.command_lines.proofs.Walking.{value_plain}
use Rattle.command_lines.proofs.Commands.{placed}

abbrev pub stands : Held → ℕ → Walk
stands h position = record { held = h; waiting = idle; position = position; is_trailing = false; stopped = None }

module _ (name : Text) (rules : List Rule) where
  plain_met : (h : Held) (p : ℕ) (w : Text) → IsValue w → word_met rules [] false idle p w h ≡ (h, value)
  plain_met h p w plain =
      let f = value_plain w plain in
      ap (λ (b : Bool). if b then (h, trailing p) else long_or_other rules idle w (long_of w) h) f.0
      ∙ ap (λ o. long_or_other rules idle w o h) f.1 ∙ ap (λ o. short_or_plain rules idle w o h) f.2

  pub plain_walk : (h : Held) (p : ℕ) (w : Text) → IsValue w → walked rules [] (stands h p) w ≡ after_step rules w (stands h p) h value
  unfolding walked
  plain_walk h p w plain = ap (λ (m : Held × Step). after_step rules w (stands h p) m.0 m.1) (plain_met h p w plain)

  -- what a word that is no option comes to
  plain_step : (h : Held) (p : ℕ) (w : Text) → IsValue w
      → step_fault (placed name rules) p (word_met rules [] false idle p w h).0 (word_met rules [] false idle p w h).1 ≡ step_fault (placed name rules) p h value
  plain_step h p w plain = ap (λ (m : Held × Step). step_fault (placed name rules) p m.0 m.1) (plain_met h p w plain)

  pub plain_turn : (h : Held) (p : ℕ) (w : Text) → IsValue w → step_fault (placed name rules) p h value ≡ [] → turn_fault (placed name rules) [] (stands h p) w ≡ []
  plain_turn h p w plain passes =
      let f = value_plain w plain in
      both_none _ _
      (ap (λ (b : Bool). if b then [] else flag_word_fault rules false (long_of w) w h) f.0
      ∙ ap (λ o. flag_word_fault rules false o w h) f.1 ∙ ap (λ o. option_map_or (λ flags. bundle_fault rules false flags h) o []) f.2)
      (plain_step h p w plain ∙ passes)
