use Rattle.std.proofs.Common.{List, ◌∷◌, length, map, ap, sym, refl, arith}
use Rattle.kj_value.specs.Json.{Json}
use Rattle.kj_value.specs.Seen.{json}
use Rattle.struct_schema.proofs.Placed.{at_end, one_before}
use Rattle.hub_cells.specs.Pairs.{values_of}
use Rattle.hub_cells.specs.Seen.{side}
use Rattle.hub_cells.specs.Sought.{column}
use Rattle.hub_cells.specs.declared.pairs.Pair.{Pair}
use Rattle.hub_rules.proofs.Once.{once_found, once_more, once_all, once_none, again_is}
use Rattle.hub_rules.proofs.doubles.once_by_places.Goals as goal

pub loop-i-init : goal.loop-i-init
loop-i-init c = record {
  within = omega arith;
  places = at_end (λ (ps : List Pair). column (side c.args.on) (map values_of ps)) c.new-places.result c.args.pairs.now (length c.args.pairs.now) refl refl c.new-places.ensures;
  once = once_none (side c.args.on) c.args.pairs.now;
}

pub returns-then-is_again : goal.returns-then-is_again
returns-then-is_again c =
    once_found (side c.args.on) c.args.pairs.now c.loop-i.i c.index-pairs-i.result (json c.own_value-value.result.now) _ c.loop-i-test.true c.loop-i.invariant.within c.index-pairs-i.is c.own_value-value.ensures (again_is (side c.args.on) c.args.pairs.now c.loop-i.i (json c.own_value-value.result.now) _ c.loop-i.places (c.is_again.ensures c.loop-i.i) c.loop-i.invariant.places) c.if-is_again.true

pub loop-i-preserved : goal.loop-i-preserved
loop-i-preserved c = record {
  within = omega arith;
  places = one_before (λ (ps : List Pair). column (side c.args.on) (map values_of ps)) c.loop-i.places c.put.new.self c.args.pairs.now c.loop-i.i c.index-pairs-i.result (json c.own_value-value.result.now) c.loop-i-test.true c.loop-i.invariant.within c.index-pairs-i.is (λ ps. ap (λ (j : Json). j ∷ column (side c.args.on) (map values_of ps)) (sym c.own_value-value.ensures)) c.in_ok-put.ensures c.loop-i.invariant.places;
  once = once_more (side c.args.on) c.args.pairs.now c.loop-i.i c.index-pairs-i.result (json c.own_value-value.result.now) _ c.loop-i-test.true c.loop-i.invariant.within c.index-pairs-i.is c.own_value-value.ensures (again_is (side c.args.on) c.args.pairs.now c.loop-i.i (json c.own_value-value.result.now) _ c.loop-i.places (c.is_again.ensures c.loop-i.i) c.loop-i.invariant.places) c.if-is_again.false c.loop-i.invariant.once;
}

pub returns : goal.returns
returns c =
    once_all (side c.args.on) c.args.pairs.now c.loop-i.i c.loop-i-test.false c.loop-i.invariant.once
