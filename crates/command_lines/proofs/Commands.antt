-- The program's commands, and what a parse of words makes of them.
use Rattle.std.proofs.Common.{◌≡◌, ◌∙◌, ◌++◌, ℕ, true, false, List, [], ◌∷◌, Some, None, is_some, refl, sym, ap, fold, append-nil, append_assoc, codes, find}
use Rattle.std.specs.Str.{bytes_eq}
use Rattle.clap.specs.Walk.{Names, Rule, Text, Walk, idle, after_step, answers_to, finished, nothing_held, rows_after, settled, stop_after, subcommand_met, subcommand_or_other, walk, walk_from, walked}
use Rattle.clap.specs.Simple.{App, Shape, built, entered, is_simple, label_of, names_of}
use Rattle.clap.specs.Kinds.{Kinds, or_else}
use Rattle.clap.specs.Faults.{built_fault, check_fault, defaults_fault, entered_fault, is_simple_and_free, level_fault, other_fault, settle_fault, step_fault, turn_fault, walk_fault}
use Rattle.clap.specs.declared.builder.value_parser.ValueParser.TheVariants as vp
use Rattle.clap.specs.declared.builder.action.ArgAction.TheVariants as action
use Rattle.clap.proofs.FaultLemmas.{stopped_fault}
use Rattle.command_lines.specs.inner.Parsing.{long_options, new_top, program}
use Rattle.command_lines.proofs.Rows.{both_none, option_rule, then_none}
use Rattle.command_lines.proofs.Walking.{leaf}

-- ---- the commands, as they are built

abbrev pub place_rule : Text → ℕ → Rule
place_rule name i = record (option_rule name) { long = None; index = Some i; required = true }

-- a command with these arguments alone, which are words without names
abbrev pub placed : Text → List Rule → Shape
placed name rules = record (leaf name []) { rules = rules }

abbrev pub places : List Rule
places = place_rule (codes "url") 1 ∷ []

abbrev pub address_leaf : Text → Shape
address_leaf name = placed name places

abbrev pub numbers : List Rule
numbers = place_rule (codes "start") 1 ∷ place_rule (codes "count") 2 ∷ []

abbrev pub drill_leaf : Shape
drill_leaf = placed (codes "drill") numbers

abbrev pub top : Shape
top = record new_top { is_leaf = false; is_built = true }

abbrev pub whole : App
whole = record {
  top = top;
  subs = leaf (codes "pipe") long_options ∷ leaf (codes "convert") long_options ∷ leaf (codes "review") long_options ∷ leaf (codes "serve") long_options
      ∷ address_leaf (codes "migrate") ∷ address_leaf (codes "dump") ∷ address_leaf (codes "load") ∷ drill_leaf ∷ [];
}

pub is_built : built program ≡ whole
is_built = refl

pub simple_and_free : is_simple_and_free program ≡ true
simple_and_free = refl

pub simple : is_simple program ≡ true
simple = refl

abbrev pub N : Names
N = names_of whole

-- ---- the first word

stopped_walk : (w : Walk) (n : Text) (acc rest : List Text) → fold (walked [] N) (record w { stopped = Some (n, acc) }) rest ≡ record w { stopped = Some (n, acc ++ rest) }
unfolding walked
stopped_walk w n acc [] = ap (λ (l : List Text). record w { stopped = Some (n, l) }) (sym (append-nil acc))
stopped_walk w n acc (x ∷ rest) = stopped_walk w n (acc ++ x ∷ []) rest ∙ ap (λ (l : List Text). record w { stopped = Some (n, l) }) (append_assoc acc (x ∷ []) rest)

abbrev kinds_after : Walk → Kinds
kinds_after k = or_else (entered_fault whole k.stopped) (or_else (settle_fault [] false k.held) (or_else (defaults_fault (settled [] k.held).rows [])
    (check_fault top (finished [] k.held) (is_some (entered whole k.stopped)))))

module _ (w : Text) (s : Shape) (met : subcommand_met N idle w ≡ Some w) (one : find (λ x. answers_to w (label_of x)) whole.subs ≡ Some s) (no_help : bytes_eq w (codes "help") ≡ false) (rest : List Text) where
  first_walk : walked [] N (walk_from nothing_held) w ≡ record (walk_from nothing_held) { stopped = Some (w, []) }
  unfolding walked
  first_walk = ap (λ o. after_step [] w (walk_from nothing_held) (subcommand_or_other [] o idle 1 w nothing_held).0 (subcommand_or_other [] o idle 1 w nothing_held).1) met

  whole_walk : walk [] N nothing_held (w ∷ rest) ≡ record (walk_from nothing_held) { stopped = Some (w, rest) }
  whole_walk = ap (λ k. fold (walked [] N) k rest) first_walk ∙ stopped_walk (walk_from nothing_held) w [] rest

  turn : turn_fault top N (walk_from nothing_held) w ≡ []
  turn = both_none _ _ (ap (λ o. other_fault top o w nothing_held) met ∙ rw no_help refl)
      (ap (λ o. step_fault top 1 (subcommand_or_other [] o idle 1 w nothing_held).0 (subcommand_or_other [] o idle 1 w nothing_held).1) met)

  first_passes : walk_fault top N (walk_from nothing_held) (w ∷ rest) ≡ []
  unfolding walk_fault
  first_passes = both_none _ _ turn (ap (λ k. walk_fault top N k rest) first_walk ∙ stopped_fault top N (walk_from nothing_held) (w, []) rest)

  pub enters_rows : entered whole (stop_after [] N (w ∷ rest)) ≡ Some (s.name, rows_after s.rules [] rest)
  enters_rows = ap (λ (k : Walk). entered whole k.stopped) whole_walk ∙ rw one refl

  pub enters_fault : built_fault whole nothing_held (w ∷ rest) ≡ level_fault s [] nothing_held rest false []
  unfolding defaults_fault
  enters_fault = ap (λ (k : Kinds). or_else k (kinds_after (walk [] N nothing_held (w ∷ rest)))) first_passes ∙ ap kinds_after whole_walk ∙ rw one (then_none _)
