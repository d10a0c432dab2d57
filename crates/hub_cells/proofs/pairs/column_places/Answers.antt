use Rattle.std.proofs.Common.{List, ◌∷◌, length, map, ap, sym, refl, arith}
use Rattle.kj_value.specs.Json.{Json}
use Rattle.kj_value.specs.Seen.{json}
use Rattle.struct_schema.proofs.Placed.{at_end, one_before, from_start}
use Rattle.hub_cells.specs.Pairs.{values_of}
use Rattle.hub_cells.specs.Seen.{side}
use Rattle.hub_cells.specs.Sought.{column}
use Rattle.hub_cells.specs.declared.pairs.Pair.{Pair}
use Rattle.hub_cells.proofs.pairs.column_places.Goals as goal

pub loop-i-init : goal.loop-i-init
loop-i-init c = record {
  within = omega arith;
  places = at_end (λ (ps : List Pair). column (side c.args.on) (map values_of ps)) c.new-places.result c.args.pairs.now (length c.args.pairs.now) refl refl c.new-places.ensures;
}

pub loop-i-preserved : goal.loop-i-preserved
loop-i-preserved c = record {
  within = omega arith;
  places = one_before (λ (ps : List Pair). column (side c.args.on) (map values_of ps)) c.loop-i.places c.put.new.self c.args.pairs.now c.loop-i.i c.index-pairs-i.result (json c.own_value.result.now) c.loop-i-test.true c.loop-i.invariant.within c.index-pairs-i.is (λ ps. ap (λ (j : Json). j ∷ column (side c.args.on) (map values_of ps)) (sym c.own_value.ensures)) c.in_ok-put.ensures c.loop-i.invariant.places;
}

pub returns : goal.returns
returns c =
    from_start (λ (ps : List Pair). column (side c.args.on) (map values_of ps)) c.loop-i.places c.args.pairs.now c.loop-i.i c.loop-i-test.false c.loop-i.invariant.places
