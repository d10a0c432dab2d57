use Rattle.std.proofs.Common.{◌≡◌, ◌+◌, ◌<◌, ◌∙◌, length, get_or, set, arith, rules}
use Rattle.std.proofs.lemmas.List.{length-set}
use Rattle.record_store.specs.Blocks.{joined}
use Rattle.record_store.proofs.Packed.{closed-empty, closed-last, moved_on, same_there}
use Rattle.record_store.proofs.row_list.close_up.Goals as goal

pub returns-then-is_empty-clause-packed : goal.returns-then-is_empty-clause-packed
returns-then-is_empty-clause-packed c =
    let inside : c.loop-i.i + 1 < length c.loop-i.blocks = omega arith in
    let none : length c.index-blocks-i.result ≡ 0 = search rules in
    closed-empty c.loop-i.blocks c.loop-i.i (joined c.args.blocks.now) c.loop-i.invariant.closes c.index-blocks-i.result inside c.index-blocks-i.is none

pub loop-i-preserved : goal.loop-i-preserved
loop-i-preserved c =
    let bs = c.loop-i.blocks in
    let i = c.loop-i.i in
    let inside : c.loop-i.i + 1 < length c.loop-i.blocks = omega arith in
    let b = get_or bs (i + 1) c.index-blocks-i-in-loop-i.result in
    let is = same_there bs (i + 1) c.index-blocks-i-in-loop-i.result inside in
    record {
      closes = moved_on bs i (joined c.args.blocks.now) c.loop-i.invariant.closes b c.pop_first-row.new.self c.index-blocks-i-in-loop-i-2.result c.push_last.new.self c.pop_first-row.result inside is c.pop_first-row.ensures c.push_last.ensures;
      count = length-set (set bs (i + 1) c.pop_first-row.new.self) i c.push_last.new.self ∙ length-set bs (i + 1) c.pop_first-row.new.self ∙ c.loop-i.invariant.count;
    }

pub returns-clause-packed : goal.returns-clause-packed
returns-clause-packed c = closed-last c.loop-i.blocks c.loop-i.i (joined c.args.blocks.now) c.loop-i.invariant.closes (omega arith) (omega arith)
