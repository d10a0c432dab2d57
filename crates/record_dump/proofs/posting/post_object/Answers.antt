use Rattle.std.proofs.Common.{ap}
use Rattle.kube_meta.specs.Key.{KeyView}
use Rattle.kj_value.specs.Seen.{json}
use Rattle.record_dump.proofs.PostEnds.{post_created, post_ended, post_cause}
use Rattle.record_dump.proofs.posting.post_object.Goals as goal

pub returns-in-Ok-clause-made : goal.returns-in-Ok-clause-made
returns-in-Ok-clause-made g c =
    post_created _ (record { exchanges = g.R.Link.exchanges c.args.far.now; log = g.R.Far.log c.args.far.now }) (record { exchanges = g.R.Link.exchanges c.post_one.new.far; log = g.R.Far.log c.post_one.new.far }) (record { group = c.args.place.now.group.bytes; version = c.args.place.now.version.bytes; plural = c.args.place.now.plural.bytes }) c.key_texts.result.ns.now (json c.args.object.now) (json c.in-Ok._created) (ap (λ (k : KeyView). k.ns) c.key_texts.ensures) c.in-Ok.ensures.given

pub returns-in-Err-clause-made : goal.returns-in-Err-clause-made
returns-in-Err-clause-made g c =
    post_ended _ (record { exchanges = g.R.Link.exchanges c.args.far.now; log = g.R.Far.log c.args.far.now }) (record { exchanges = g.R.Link.exchanges c.post_one.new.far; log = g.R.Far.log c.post_one.new.far }) (record { group = c.args.place.now.group.bytes; version = c.args.place.now.version.bytes; plural = c.args.place.now.plural.bytes }) c.key_texts.result.ns.now (json c.args.object.now) c.in-Err.end c.post_end.result (ap (λ (k : KeyView). k.ns) c.key_texts.ensures) c.in-Err.ensures.end c.post_end.ensures

pub returns-in-Err-clause-cause : goal.returns-in-Err-clause-cause
returns-in-Err-clause-cause g c = post_cause _ c.in-Err.end c.post_end.result c.in-Err.ensures.cause c.post_end.ensures
