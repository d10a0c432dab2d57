use Rattle.std.proofs.Common.{◌≡◌, length, arith}
use Rattle.std.proofs.lemmas.Bool.Decides.{nat_tests}
use Rattle.chunked_bodies.proofs.Heads.{first_is, nonempty}
use Rattle.chunked_bodies.proofs.head.chunked_head.Goals as goal

pub returns-then-is_empty : goal.returns-then-is_empty
returns-then-is_empty c = λ h k after reads chunked.
    let some = nonempty c.args.bytes.now (first_is c.args.bytes.now after h reads chunked.begins) in
    let none : length c.args.bytes.now ≡ 0 = (let e = c.if-is_empty.ensures in grind (arith, nat_tests)) in
    omega arith

pub returns-then-bytes-ne-FIRST : goal.returns-then-bytes-ne-FIRST
returns-then-bytes-ne-FIRST c = λ h k after reads chunked. c.if-bytes-ne-FIRST.true (first_is c.args.bytes.now after h reads chunked.begins)
