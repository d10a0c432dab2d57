-- The command that `clap` reads the words by, and what it matches.
use Rattle.std.specs.Prelude.{◌≡◌, ℕ, true, List, [], ◌∷◌, map, Option, Some, Result, IfOk, MatchOption, codes, decimal}
use mathlib.Core.Logic.{inl, inr}
use Rattle.clap.specs.Words.{App, Row, Rule, Shape, Text, app_of, first_of, new_rule, with_subcommand}
use Rattle.clap.specs.Simple.{new_shape}
use Rattle.clap.specs.declared.builder.value_parser.ValueParser.TheVariants as vp
use Rattle.clap.specs.declared.builder.action.ArgAction.TheVariants as action
use Rattle.clap.specs.declared.builder.Command.{Command as Builder}
use Rattle.command_lines.specs.declared.words.Command.{Command}
use Rattle.command_lines.specs.Given.{line_of}
use Rattle.command_lines.specs.Lines.{IsLine, Line, Values}

abbrev pub long_options : List Text
long_options = codes "crd" ∷ codes "rules" ∷ codes "hub" ∷ codes "converter" ∷ codes "to" ∷ codes "turns" ∷ codes "listen" ∷ codes "workers" ∷ codes "connections" ∷ []

abbrev pub new_option : Text → Rule
new_option name = record (new_rule name) { long = Some name; action = Some action.Set; parser = Some vp.NonEmptyString }

-- an argument that is a word without a name
abbrev pub new_place : Text → Rule
new_place name = record (new_rule name) { action = Some action.Set; parser = Some vp.NonEmptyString; required = true }

abbrev pub option_command : Text → Shape
option_command name = record (new_shape name) { rules = map new_option long_options }

abbrev pub address_command : Text → Shape
address_command name = record (new_shape name) { rules = new_place (codes "url") ∷ [] }

abbrev pub drill_command : Shape
drill_command = record (new_shape (codes "drill")) { rules = new_place (codes "start") ∷ new_place (codes "count") ∷ [] }

-- a command without subcommands
abbrev pub alone : Shape → App
alone shape = record { top = shape; subs = [] }

abbrev pub new_top : Shape
new_top = record (new_shape (codes "kubeconv")) {
  no_binary_name = true;
  disable_help_flag = true;
  disable_help_subcommand = true;
  subcommand_required = true;
}

-- with the four commands that take options
abbrev pub with_options : App → App
with_options a = with_subcommand (with_subcommand (with_subcommand (with_subcommand a
    (option_command (codes "pipe"))) (option_command (codes "convert"))) (option_command (codes "review"))) (option_command (codes "serve"))

-- with the three that take an address
abbrev pub with_addresses : App → App
with_addresses a = with_subcommand (with_subcommand (with_subcommand a
    (address_command (codes "migrate"))) (address_command (codes "dump"))) (address_command (codes "load"))

abbrev pub program : App
program = with_subcommand (with_addresses (with_options (alone new_top))) drill_command

-- what was built so far, if there was memory for it, stands for that
abbrev pub Builds : {E : Type 0} → App → Result Builder E → Type 0
Builds app built = IfOk built (λ c. app_of c ≡ app)

-- the first value of each option
abbrev pub values_of : List Row → Values
values_of rows = record {
  crd = first_of (codes "crd") rows;
  rules = first_of (codes "rules") rows;
  hub = first_of (codes "hub") rows;
  converter = first_of (codes "converter") rows;
  to = first_of (codes "to") rows;
  turns = first_of (codes "turns") rows;
  listen = first_of (codes "listen") rows;
  workers = first_of (codes "workers") rows;
  connections = first_of (codes "connections") rows;
}

-- the matches have the values that these words have as this line
abbrev pub Fills : (words : List (List ℕ)) (line : Line) → IsLine words line → List Row → Type 0
Fills words line (inl options) rows = values_of rows ≡ options.values
Fills words line (inr (inl numbers)) rows = (first_of (codes "start") rows ≡ Some (decimal numbers.start)) × (first_of (codes "count") rows ≡ Some (decimal numbers.count))
Fills words line (inr (inr address)) rows = first_of (codes "url") rows ≡ Some address.url

-- the line whose command has this name, and whose values the matches have
abbrev pub Finds : Text → List Row → Option Command → Type 0
Finds name rows o = (rest : List (List ℕ)) (line : Line) (is : IsLine (name ∷ rest) line) → Fills (name ∷ rest) line is rows → MatchOption o ⊥ (λ c. line ≡ line_of c)
