use Rattle.std.proofs.Common.{◌/◌, ◌∙◌, get_or, arith}
use Rattle.std.proofs.lemmas.List.{length-set}
use Rattle.record_store.proofs.Packed.{below, got, inside, removed-front, removed-gap, removed-rows, same_there}
use Rattle.record_store.proofs.row_list.take_out.Goals as goal

pub bounds-blocks-from : goal.bounds-blocks-from
bounds-blocks-from c = below c.args.blocks.now c.args.place c.requires.packed c.requires.within

pub take_out-row-requires : goal.take_out-row-requires
take_out-row-requires c =
    let bs = c.args.blocks.now in
    let b = get_or bs (c.args.place / 256) c.index-blocks-from.result in
    let is = same_there bs (c.args.place / 256) c.index-blocks-from.result (below bs c.args.place c.requires.packed c.requires.within) in
    record { within = inside bs c.args.place c.requires.packed c.requires.within b is }

pub close_up-requires-clause-within : goal.close_up-requires-clause-within
close_up-requires-clause-within c =
    let found = below c.args.blocks.now c.args.place c.requires.packed c.requires.within in
    omega (arith, found, length-set c.args.blocks.now (c.args.place / 256) c.take_out-row.new.self)

pub close_up-requires-clause-front : goal.close_up-requires-clause-front
close_up-requires-clause-front c =
    let bs = c.args.blocks.now in
    let b = get_or bs (c.args.place / 256) c.index-blocks-from.result in
    let is = same_there bs (c.args.place / 256) c.index-blocks-from.result (below bs c.args.place c.requires.packed c.requires.within) in
    removed-front bs c.args.place c.requires.packed c.requires.within b is c.take_out-row.new.self c.take_out-row.ensures.rows

pub close_up-requires-clause-gap : goal.close_up-requires-clause-gap
close_up-requires-clause-gap c =
    let bs = c.args.blocks.now in
    let b = get_or bs (c.args.place / 256) c.index-blocks-from.result in
    let is = same_there bs (c.args.place / 256) c.index-blocks-from.result (below bs c.args.place c.requires.packed c.requires.within) in
    removed-gap bs c.args.place c.requires.packed c.requires.within b is c.take_out-row.new.self c.take_out-row.ensures.rows

pub returns-clause-row : goal.returns-clause-row
returns-clause-row c =
    let bs = c.args.blocks.now in
    let b = get_or bs (c.args.place / 256) c.index-blocks-from.result in
    let is = same_there bs (c.args.place / 256) c.index-blocks-from.result (below bs c.args.place c.requires.packed c.requires.within) in
    got bs c.args.place c.requires.packed c.requires.within b is ∙ c.take_out-row.ensures.row

pub returns-clause-rows : goal.returns-clause-rows
returns-clause-rows c =
    let bs = c.args.blocks.now in
    let b = get_or bs (c.args.place / 256) c.index-blocks-from.result in
    let is = same_there bs (c.args.place / 256) c.index-blocks-from.result (below bs c.args.place c.requires.packed c.requires.within) in
    c.close_up.ensures.rows ∙ removed-rows bs c.args.place c.requires.packed c.requires.within b is c.take_out-row.new.self c.take_out-row.ensures.rows
