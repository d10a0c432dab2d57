-- What the settings of a command make of what a parse reads of it.
use Rattle.std.proofs.Common.{◌≡◌, ◌∙◌, ◌&&◌, not, Bool, true, false, Result, Ok, Err, refl, subst, ap, ap₂}
use Rattle.std.specs.Prelude.{IfOk}
use Rattle.clap.specs.Words.{AddsArg, AddsSubcommand, App, Shape, app_of, rule_of, with_rule, with_subcommand}
use Rattle.clap.specs.declared.builder.Arg.{Arg}
use Rattle.clap.specs.declared.builder.Command.{Command as Builder}
use Rattle.command_lines.specs.inner.Parsing.{Builds, alone}

-- a command so far has one more argument
pub with_argument : {E : Type 0} (app : App) (so_far : Result Builder E) (old : Builder) (a : Arg) (r : Result Builder E) → so_far ≡ Ok old → a.global ≡ false
    → IfOk r (λ new. AddsArg old a new) → Builds app so_far → Builds (with_rule app (rule_of a)) r
with_argument app so_far old a (Ok new) e own adds is = adds.shape own ∙ ap (λ p. with_rule p (rule_of a)) (subst (Builds app) e is)
with_argument app so_far old a (Err f) e own adds is = adds

-- the third of these isn't so
third_is_not : (x y z t : Bool) → (x && (not y && (not z && t))) ≡ true → z ≡ false
third_is_not x y false t e = refl
third_is_not false y true t e = cc
third_is_not true false true t e = cc
third_is_not true true true t e = cc

-- a command has one more subcommand, which has no argument that its own subcommands take over
pub with_one_more : {E : Type 0} (app : App) (shape : Shape) (old : Builder) (added : Result Builder E) (sub : Builder) (r : Result Builder E)
    → added ≡ Ok sub → IfOk r (λ new. AddsSubcommand old sub new) → shape.is_plain ≡ true → app_of old ≡ app → Builds (alone shape) added
    → Builds (with_subcommand app shape) r
with_one_more app shape old added sub (Ok new) e adds plain is one =
    let of = subst (Builds (alone shape)) e one in
    adds.shape (third_is_not _ _ _ _ (ap (λ (p : App). p.top.is_plain) of ∙ plain)) ∙ ap₂ with_subcommand is (ap (λ (p : App). p.top) of)
with_one_more app shape old added sub (Err f) e adds plain is one = adds

abbrev pub named_first : App → App
named_first a = record a { top = record a.top { no_binary_name = true } }

abbrev pub no_help_flag : App → App
no_help_flag a = record a { top = record a.top { disable_help_flag = true } }

abbrev pub no_help_word : App → App
no_help_word a = record a { top = record a.top { disable_help_subcommand = true } }

abbrev pub with_required : App → App
with_required a = record a { top = record a.top { subcommand_required = true } }
