use Rattle.std.proofs.Common.{◌≡◌, ◌+◌, ◌<◌, ◌++◌, length, drop, ap, subst, arith}
use Rattle.record_store.specs.Blocks.{joined}
use Rattle.record_store.specs.Rows.{Rows}
use Rattle.record_store.proofs.Packed.{inside, run-joined}
use Rattle.record_store.proofs.row_list.RowList.run.Goals as goal

pub run-requires : goal.run-requires
run-requires c =
    let rows = ap (λ (v : Rows). length v.rows) c.self.view_is in
    let within : c.args.place < length (joined c.self.inside.blocks.items) = omega (arith, rows, c.requires.within) in
    record { within = inside c.self.inside.blocks.items c.args.place c.self.invariant.0 within c.index.result.now c.index.ensures }

pub returns-clause-rows : goal.returns-clause-rows
returns-clause-rows c =
    let rows = ap (λ (v : Rows). length v.rows) c.self.view_is in
    let within : c.args.place < length (joined c.self.inside.blocks.items) = omega (arith, rows, c.requires.within) in
    subst (λ (v : Rows). c.run.result.now ++ drop (c.args.place + length c.run.result.now) v.rows ≡ drop c.args.place v.rows) c.self.view_is
    (run-joined c.self.inside.blocks.items c.args.place c.self.invariant.0 within c.index.result.now c.index.ensures c.run.result.now c.run.ensures.rows)
