use Rattle.std.proofs.Common.{List, length, map, refl, arith}
use Rattle.kj_value.specs.Json.{text}
use Rattle.kj_value.specs.Texts.{bytes_of}
use Rattle.kj_value.specs.declared.txt.Txt.{Txt}
use Rattle.struct_schema.proofs.Placed.{at_end, one_before, from_start}
use Rattle.struct_schema.proofs.places.all_text_places.Goals as goal

pub loop-i-init : goal.loop-i-init
loop-i-init c = record {
  within = omega arith;
  places = at_end (λ (ns : List Txt). map text (map bytes_of ns)) c.new-places.result c.args.names.now (length c.args.names.now) refl refl c.new-places.ensures;
}

pub loop-i-preserved : goal.loop-i-preserved
loop-i-preserved c = record {
  within = omega arith;
  places = one_before (λ (ns : List Txt). map text (map bytes_of ns)) c.loop-i.places c.put_text.new.self c.args.names.now c.loop-i.i c.index-names-i.result (text c.index-names-i.result.bytes) c.loop-i-test.true c.loop-i.invariant.within c.index-names-i.is (λ ys. refl) c.in_ok-put_text.ensures c.loop-i.invariant.places;
}

pub returns : goal.returns
returns c =
    from_start (λ (ns : List Txt). map text (map bytes_of ns)) c.loop-i.places c.args.names.now c.loop-i.i c.loop-i-test.false c.loop-i.invariant.places
