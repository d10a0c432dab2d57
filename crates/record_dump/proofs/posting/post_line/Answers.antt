use Rattle.kj_value.specs.Seen.{json}
use Rattle.record_dump.specs.inner.Posted as made
use Rattle.record_dump.proofs.PostEnds.{line_unread, unread_cause}
use Rattle.record_dump.proofs.posting.post_line.Goals as goal

pub returns-in-Ok-clause-made : goal.returns-in-Ok-clause-made
returns-in-Ok-clause-made g c = made.posts (json c.in-Ok.object) c.post_object.result c.in-Ok.ensures.says c.post_object.ensures.made

pub returns-in-Err-clause-made : goal.returns-in-Err-clause-made
returns-in-Err-clause-made g c = line_unread _ (record { exchanges = g.R.Link.exchanges c.args.far.now; log = g.R.Far.log c.args.far.now }) (record { group = c.args.place.now.group.bytes; version = c.args.place.now.version.bytes; plural = c.args.place.now.plural.bytes }) c.args.line.now c.in-Err.unposted c.in-Err.ensures.says

pub returns-in-Err-clause-cause : goal.returns-in-Err-clause-cause
returns-in-Err-clause-cause g c = unread_cause _ (record { group = c.args.place.now.group.bytes; version = c.args.place.now.version.bytes; plural = c.args.place.now.plural.bytes }) c.args.line.now c.in-Err.unposted c.in-Err.ensures.says
