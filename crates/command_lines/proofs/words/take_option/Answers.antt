use Rattle.std.proofs.Common.{◌≡◌, ◌∷◌, ◌++◌, ◌∙◌, ◌-◌, length, take, List, ℕ, map, drop, ap, arith}
use Rattle.std.specs.Prelude.{string_bytes}
use Rattle.command_lines.specs.Lines.{flag_text}
use Rattle.command_lines.specs.Given.{flag_in}
use Rattle.command_lines.proofs.LineWords.{first_word, no_flag}
use Rattle.command_lines.proofs.words.take_option.Goals as goal

pub returns-in-Some-clause-first : goal.returns-in-Some-clause-first
returns-in-Some-clause-first c =
    let all = first_word c.args.words.now c.first-item.result c.as_str.result.now (omega (arith, c.in-len1-up.len_at_least)) c.first-item.is c.as_str.ensures.value in
    let is : map string_bytes c.args.words.now ≡ (flag_text (flag_in c.in-Some.flag) ++ c.in-Some.end.now) ∷ map string_bytes (take (length c.args.words.now - 1) (drop 1 c.args.words.now)) =
    all ∙ ap (λ (w : List ℕ). w ∷ map string_bytes (take (length c.args.words.now - 1) (drop 1 c.args.words.now))) c.in-Some.ensures in
    rw is c.take_value.ensures.first

pub returns-in-None-clause-first : goal.returns-in-None-clause-first
returns-in-None-clause-first c =
    let all = first_word c.args.words.now c.first-item.result c.as_str.result.now (omega (arith, c.in-len1-up.len_at_least)) c.first-item.is c.as_str.ensures.value in
    no_flag c.as_str.result.now (map string_bytes (take (length c.args.words.now - 1) (drop 1 c.args.words.now))) (map string_bytes c.args.words.now) all c.in-None.ensures
