use Rattle.std.proofs.Common.{◌<◌, ◌∙◌, refl, length, get_or, arith}
use Rattle.std.proofs.lemmas.List.{length-set}
use Rattle.std.specs.Prelude.{insert}
use Rattle.record_store.specs.Blocks.{joined}
use Rattle.record_store.proofs.Packed.{passing, passed, same_there, settled-rows, settled-packed}
use Rattle.record_store.proofs.row_list.put_in.Goals as goal

pub loop-i-init : goal.loop-i-init
loop-i-init c = record {
  moves = passing c.args.blocks.now c.args.place c.args.row c.requires.packed c.requires.within c.requires.room;
  count = refl;
}

pub returns-in-None-clause-rows : goal.returns-in-None-clause-rows
returns-in-None-clause-rows c =
    let bs = c.loop-i.blocks in
    let i = c.loop-i.i in
    let b = get_or bs i c.index-blocks-i.result in
    let inside : c.loop-i.i < length c.loop-i.blocks = omega arith in
    let is = same_there bs i c.index-blocks-i.result inside in
    settled-rows bs i c.loop-i.at c.loop-i.row (insert (joined c.args.blocks.now) c.args.place c.args.row) b c.put_in.new.self inside is c.loop-i.invariant.moves c.in-None.ensures.rows c.in-None.ensures.room

pub returns-in-None-clause-packed : goal.returns-in-None-clause-packed
returns-in-None-clause-packed c =
    let bs = c.loop-i.blocks in
    let i = c.loop-i.i in
    let b = get_or bs i c.index-blocks-i.result in
    let inside : c.loop-i.i < length c.loop-i.blocks = omega arith in
    let is = same_there bs i c.index-blocks-i.result inside in
    settled-packed bs i c.loop-i.at c.loop-i.row (insert (joined c.args.blocks.now) c.args.place c.args.row) b c.put_in.new.self inside is c.loop-i.invariant.moves c.in-None.ensures.rows c.in-None.ensures.room

pub loop-i-preserved : goal.loop-i-preserved
loop-i-preserved c =
    let bs = c.loop-i.blocks in
    let i = c.loop-i.i in
    let b = get_or bs i c.index-blocks-i.result in
    let inside : c.loop-i.i < length c.loop-i.blocks = omega arith in
    let is = same_there bs i c.index-blocks-i.result inside in
    record {
      moves = passed bs i c.loop-i.at c.loop-i.row (insert (joined c.args.blocks.now) c.args.place c.args.row) b c.put_in.new.self inside is c.loop-i.invariant.moves c.in-Some.last c.in-Some.ensures.rows c.in-Some.ensures.full;
      count = length-set bs i c.put_in.new.self ∙ c.loop-i.invariant.count;
    }
