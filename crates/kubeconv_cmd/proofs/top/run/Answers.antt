use Rattle.std.proofs.Common.{◌≡◌, ◌∙◌, refl, sym, subst, arith}
use Rattle.command_lines.specs.Given.{line_of}
use Rattle.kubeconv_cmd.specs.Outcome.{IsPlaceless}
use Rattle.kubeconv_cmd.proofs.Outcomes.{bad_words, no_line, placed_stays, that_is_line, that_line, wanted}
use Rattle.kubeconv_cmd.proofs.top.run.Goals as goal

pub returns-in-Ok-Some-clause-outcome : goal.returns-in-Ok-Some-clause-outcome
returns-in-Ok-Some-clause-outcome g c = λ line is.
    let same = that_line c.in-Ok-Some.field-0 c.in-Ok-Some.command line c.in-Ok-Some.field-0-is (c.in-Ok-Some.ensures.only line is) in
    rw same c.run_command.ensures.outcome

pub returns-in-Ok-Some-clause-is_line : goal.returns-in-Ok-Some-clause-is_line
returns-in-Ok-Some-clause-is_line g c = λ _. (
  line_of c.in-Ok-Some.command,
  that_is_line c.args.words.now c.in-Ok-Some.field-0 c.in-Ok-Some.command c.in-Ok-Some.field-0-is c.in-Ok-Some.ensures.is,
)

pub returns-in-Ok-Some-clause-words_refused : goal.returns-in-Ok-Some-clause-words_refused
returns-in-Ok-Some-clause-words_refused g c =
    let own = that_is_line c.args.words.now c.in-Ok-Some.field-0 c.in-Ok-Some.command c.in-Ok-Some.field-0-is c.in-Ok-Some.ensures.is in (
      λ bad line is.
          let same = that_line c.in-Ok-Some.field-0 c.in-Ok-Some.command line c.in-Ok-Some.field-0-is (c.in-Ok-Some.ensures.only line is) in
          subst IsPlaceless (sym same) (bad_words _ (line_of c.in-Ok-Some.command) c.run_command.result c.run_command.ensures.outcome bad).0,
      λ none. absurd (none (line_of c.in-Ok-Some.command) own),
    )

pub returns-in-Ok-Some-clause-unused : goal.returns-in-Ok-Some-clause-unused
returns-in-Ok-Some-clause-unused g c = λ bad.
    let stays = bad_words _ (line_of c.in-Ok-Some.command) c.run_command.result c.run_command.ensures.outcome bad in
    (stays.1, stays.2, stays.3, stays.4, c.run_command.ensures.unused bad)

pub returns-in-Ok-None-clause-words_refused : goal.returns-in-Ok-None-clause-words_refused
returns-in-Ok-None-clause-words_refused g c = (
  λ bad line is. absurd (no_line c.in-Ok-None.field-0 line c.in-Ok-None.field-0-is (c.in-Ok-None.ensures.only line is)),
  λ none. c.ended.ensures.status,
)

pub returns-in-Ok-None-clause-outcome : goal.returns-in-Ok-None-clause-outcome
returns-in-Ok-None-clause-outcome g c = λ line is. absurd (no_line c.in-Ok-None.field-0 line c.in-Ok-None.field-0-is (c.in-Ok-None.ensures.only line is))

pub returns-in-Ok-None-clause-is_line : goal.returns-in-Ok-None-clause-is_line
returns-in-Ok-None-clause-is_line g c = λ other. absurd (other c.ended.ensures.status)

pub returns-in-Ok-Some-clause-place : goal.returns-in-Ok-Some-clause-place
returns-in-Ok-Some-clause-place g c = λ line is.
    let same = that_line c.in-Ok-Some.field-0 c.in-Ok-Some.command line c.in-Ok-Some.field-0-is (c.in-Ok-Some.ensures.only line is) in
    rw same c.run_command.ensures.place

pub returns-in-Ok-None-clause-place : goal.returns-in-Ok-None-clause-place
returns-in-Ok-None-clause-place g c = λ line is. absurd (no_line c.in-Ok-None.field-0 line c.in-Ok-None.field-0-is (c.in-Ok-None.ensures.only line is))

pub returns-in-Err-clause-outcome : goal.returns-in-Err-clause-outcome
returns-in-Err-clause-outcome g c = λ line is. wanted _ line c.ended-in-Err.result c.ended-in-Err.ensures.status c.ended-in-Err.ensures.line refl refl refl refl refl

pub returns-in-Err-clause-is_line : goal.returns-in-Err-clause-is_line
returns-in-Err-clause-is_line g c = λ _. c.in-Err.ensures.wanting

pub returns-in-Err-clause-words_refused : goal.returns-in-Err-clause-words_refused
returns-in-Err-clause-words_refused g c = (
  λ bad line is. let both : 2 ≡ 7 = sym bad ∙ c.ended-in-Err.ensures.status in absurd (omega (arith, both)),
  λ none. absurd (none c.in-Err.ensures.wanting.0 c.in-Err.ensures.wanting.1),
)

pub returns-in-Err-clause-place : goal.returns-in-Err-clause-place
returns-in-Err-clause-place g c = λ line is. placed_stays line _ _ _ refl
