use Rattle.std.proofs.Common.{◌≡◌, ◌∙◌, suc, length, ap, lit<, arith}
use Rattle.std.specs.Prelude.{decimal}
use Rattle.std.proofs.lemmas.Fmt.{length-decimal-le}
use Rattle.drill_requests.proofs.bodies.object_key.Goals as goal

pub of-requires-clause-name_fits : goal.of-requires-clause-name_fits
of-requires-clause-name_fits c =
    let fits = c.ranges.object.fits in
    let short = length-decimal-le 20 c.args.object (lit< tt) (omega (arith, fits)) (omega (arith, fits)) in
    let all : length c.as_str.result.now ≡ suc (length (decimal c.args.object)) = ap length (c.as_str.ensures.value ∙ c.in_ok-name.ensures.ok) in
    omega (arith, all, short)
