use Rattle.std.proofs.Common.{refl, ap, List, map, drop}
use Rattle.std.proofs.lemmas.List.{drop_all}
use Rattle.kj_value.specs.Json.{members_of}
use Rattle.kj_value.specs.Pair.{pair_of}
use Rattle.kj_value.specs.declared.value.Field.{Field}
use Rattle.crd_settings.specs.Flags.{spec_fields, spec_value}
use Rattle.crd_settings.specs.Pieces.{members_from}
use Rattle.crd_settings.proofs.Texts.{one_more, one_field, all_written}
use Rattle.crd_settings.proofs.cut.with_spec_fields.Goals as goal

pub loop-i-preserved : goal.loop-i-preserved
loop-i-preserved c = λ m.
    let l = c.loop-i in
    one_more m _ c.in_ok-cut.ensures (one_field (spec_fields m) (spec_value m) (λ k j ms. refl) c.args.fields.now l.i c.index-fields-i.result c.loop-i-test.true c.index-fields-i.is) (l.invariant m)

pub returns : goal.returns
returns c = all_written (λ m. members_from c.loop-i.i (spec_fields m (members_of (map pair_of (drop c.loop-i.i c.args.fields.now))))) _ (λ m. ap (λ (t : List Field). members_from c.loop-i.i (spec_fields m (members_of (map pair_of t)))) (drop_all _ c.args.fields.now c.loop-i-test.false)) c.loop-i.invariant
