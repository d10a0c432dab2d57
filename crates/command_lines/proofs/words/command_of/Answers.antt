use Rattle.std.proofs.Common.{◌∙◌, sym, arith}
use Rattle.command_lines.proofs.LineWords.{first_word, line_is, line_only, no_line}
use Rattle.command_lines.proofs.words.command_of.Goals as goal

pub returns-in-empty-clause-only : goal.returns-in-empty-clause-only
returns-in-empty-clause-only c = λ line l. no_line c.as_slice.result.now c.args.words.now line c.as_slice.ensures c.in-empty.len_below l

pub returns-in-len1-up-clause-is : goal.returns-in-len1-up-clause-is
returns-in-len1-up-clause-is c =
    let all = first_word c.as_slice.result.now c.first-item.result c.as_str.result.now (omega (arith, c.in-len1-up.len_at_least)) c.first-item.is c.as_str.ensures.value in
    line_is c.line_with.result _ _ (sym c.as_slice.ensures ∙ all) c.line_with.ensures.is

pub returns-in-len1-up-clause-only : goal.returns-in-len1-up-clause-only
returns-in-len1-up-clause-only c =
    let all = first_word c.as_slice.result.now c.first-item.result c.as_str.result.now (omega (arith, c.in-len1-up.len_at_least)) c.first-item.is c.as_str.ensures.value in
    line_only c.line_with.result _ _ (sym c.as_slice.ensures ∙ all) c.line_with.ensures.only
