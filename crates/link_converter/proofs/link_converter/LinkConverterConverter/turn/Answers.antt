use Rattle.std.proofs.Common.{ap, arith}
use Rattle.link_converter.specs.Asking.{ConverterState}
use Rattle.link_converter.proofs.link_converter.LinkConverterConverter.turn.Goals as goal

pub returns-in-Err-Failed-clause-counts : goal.returns-in-Err-Failed-clause-counts
returns-in-Err-Failed-clause-counts g c =
    let before = ap (λ (s : ConverterState). s.faults) c.self.view_is in
    let more = c.in-Some.ensures in
    omega (arith, before, more)
