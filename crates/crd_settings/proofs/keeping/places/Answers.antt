use Rattle.std.proofs.Common.{map, ap, sym, ◌∙◌, arith}
use Rattle.kj_value.specs.Seen.{json}
use Rattle.crd_settings.specs.Keeping.{is_among, names_in}
use Rattle.crd_reading.specs.declared.definition.Version.{Version}
use Rattle.crd_settings.proofs.Names.{places-step}
use Rattle.crd_settings.proofs.keeping.places.Goals as goal

pub loop-v-preserved : goal.loop-v-preserved
loop-v-preserved c = record {
  len = omega (arith, c.with_named-list.ensures.len);
  places = places-step (names_in (map json c.args.items.now)) c.args.versions.now c.loop-v.v c.index-versions-v.result _ _ _ c.loop-v-test.true c.index-versions-v.is (c.is_among-named.ensures ∙ (ap (is_among (names_in (map json c.args.items.now))) c.as_str.ensures ∙ ap (λ (x : Version). is_among (names_in (map json c.args.items.now)) x.name.bytes) (sym c.index-versions-v.is))) c.loop-v.invariant.places c.with_named-list.ensures.versions;
}
