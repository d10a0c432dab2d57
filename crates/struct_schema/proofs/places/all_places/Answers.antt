use Rattle.std.proofs.Common.{List, length, map, refl, arith}
use Rattle.kj_value.specs.Seen.{json}
use Rattle.kj_value.specs.declared.value.JVal.{JVal}
use Rattle.struct_schema.proofs.Placed.{at_end, one_before, from_start}
use Rattle.struct_schema.proofs.places.all_places.Goals as goal

pub loop-i-init : goal.loop-i-init
loop-i-init c = record {
  within = omega arith;
  places = at_end (λ (vs : List JVal). map json vs) c.new-places.result c.args.values.now (length c.args.values.now) refl refl c.new-places.ensures;
}

pub loop-i-preserved : goal.loop-i-preserved
loop-i-preserved c = record {
  within = omega arith;
  places = one_before (λ (vs : List JVal). map json vs) c.loop-i.places c.put.new.self c.args.values.now c.loop-i.i c.index-values-i.result (json c.index-values-i.result) c.loop-i-test.true c.loop-i.invariant.within c.index-values-i.is (λ ys. refl) c.in_ok-put.ensures c.loop-i.invariant.places;
}

pub returns : goal.returns
returns c =
    from_start (λ (vs : List JVal). map json vs) c.loop-i.places c.args.values.now c.loop-i.i c.loop-i-test.false c.loop-i.invariant.places
