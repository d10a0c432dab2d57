use Rattle.std.proofs.Common.{◌∙◌, map, string_bytes, ap, subst, inl, inr}
use Rattle.clap.specs.Words.{App, HasKind, Kinds, fault_of, is_simple, is_simple_and_free, subcommand_of}
use Rattle.command_lines.proofs.Commands.{simple, simple_and_free}
use Rattle.command_lines.proofs.LineMatches.{reads}
use Rattle.command_lines.proofs.matching.matched.Goals as goal

pub returns-in-Ok : goal.returns-in-Ok
returns-in-Ok c =
    let app = c.in_ok-program.ensures in
    (c.in-Ok.ensures.matches (ap is_simple app ∙ simple)).1 ∙ ap (λ (a : App). subcommand_of a (map string_bytes c.args.words.now)) app

pub unreachable-requires : goal.unreachable-requires
unreachable-requires c =
    let app = c.in_ok-program.ensures in
    let words = map string_bytes c.args.words.now in
    let none = (reads words c.requires.0 c.requires.1).4 in
    let kind = subst (λ (k : Kinds). HasKind k c.in-Err.error) (ap (λ (a : App). fault_of a words) app ∙ none) (c.in-Err.ensures.kinds (ap is_simple_and_free app ∙ simple_and_free)) in
    elim kind [ inl memory ↦ c.in_default.not-OutOfMemory (c.kind.ensures ∙ memory) | inr other ↦ absurd other ]
