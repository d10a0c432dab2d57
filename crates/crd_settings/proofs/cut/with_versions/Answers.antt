use Rattle.std.proofs.Common.{ap, List, map, drop}
use Rattle.std.proofs.lemmas.List.{drop_all}
use Rattle.kj_value.specs.Json.{items_of}
use Rattle.kj_value.specs.Seen.{json}
use Rattle.kj_value.specs.declared.value.JVal.{JVal}
use Rattle.crd_settings.specs.Flags.{versions_with}
use Rattle.crd_settings.specs.Pieces.{items_from}
use Rattle.crd_settings.proofs.Texts.{one_more, one_version, all_written}
use Rattle.crd_settings.proofs.cut.with_versions.Goals as goal

pub loop-v-preserved : goal.loop-v-preserved
loop-v-preserved c = λ m.
    let l = c.loop-v in
    one_more m _ c.in_ok-cut.ensures (one_version m c.args.versions.now l.v c.index-versions-v.result c.loop-v-test.true c.index-versions-v.is) (l.invariant m)

pub returns : goal.returns
returns c = all_written (λ m. items_from c.loop-v.v (versions_with m c.loop-v.v (items_of (map json (drop c.loop-v.v c.args.versions.now))))) _ (λ m. ap (λ (t : List JVal). items_from c.loop-v.v (versions_with m c.loop-v.v (items_of (map json t)))) (drop_all _ c.args.versions.now c.loop-v-test.false)) c.loop-v.invariant
