use Rattle.std.proofs.Common.{arith, FitsSigned, w16}
use Rattle.std.proofs.lemmas.Int.{to_z-of_z}
use Rattle.jiff.proofs.SpanFacts.{signed_arith}
use Rattle.edge_io.proofs.Days.{year-unsigned}
use Rattle.edge_io.proofs.stamps.year_of.Goals as goal

pub returns-clause-same : goal.returns-clause-same
returns-clause-same c =
    let fits : FitsSigned w16 c.year.result = omega (arith, signed_arith, c.year.ensures, c.args.date.year_in) in
    rw (c.unsigned_abs.ensures.value, to_z-of_z w16 c.year.result fits, c.year.ensures) (year-unsigned c.args.date c.requires)
