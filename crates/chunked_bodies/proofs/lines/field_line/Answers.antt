use Rattle.std.proofs.Common.{◌≡◌, ◌∙◌, ℕ, ap, length, arith}
use Rattle.chunked_bodies.specs.inner.Walk.{before_field}
use Rattle.chunked_bodies.proofs.Heads.{first_field, next_field}
use Rattle.chunked_bodies.proofs.lines.field_line.Goals as goal

pub line_end-at-requires-in-loop-passed : goal.line_end-at-requires-in-loop-passed
line_end-at-requires-in-loop-passed c = c.loop-passed.invariant.within

pub returns-clause-within : goal.returns-clause-within
returns-clause-within c = c.loop-passed.invariant.within

pub returns-clause-line : goal.returns-clause-line
returns-clause-line c = λ h after reads begins few.
    let all : c.loop-passed._passed ≡ c.args.place = omega (arith, c.loop-passed-test.false, c.loop-passed.auto._passed-end) in
    c.loop-passed.invariant.line h after reads begins (omega (arith, few, all)) ∙ ap (λ (n : ℕ). length (before_field h n)) all

pub loop-passed-init : goal.loop-passed-init
loop-passed-init c = record {
  within = c.line_end-at.ensures.within.1;
  line = λ h after reads begins few. first_field c.args.bytes.now after h c.line_end-at.result c.line_end-at.ensures.line reads begins;
}

pub loop-passed-preserved : goal.loop-passed-preserved
loop-passed-preserved c = record {
  within = c.line_end-at-in-loop-passed.ensures.within.1;
  line = λ h after reads begins few.
      next_field c.args.bytes.now after h c.loop-passed._passed c.loop-passed.at c.line_end-at-in-loop-passed.result c.line_end-at-in-loop-passed.ensures.line reads begins
      (omega (arith, few)) (c.loop-passed.invariant.line h after reads begins (omega (arith, few)));
}
