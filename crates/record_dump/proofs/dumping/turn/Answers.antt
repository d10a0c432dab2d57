use Rattle.std.proofs.Common.{inl, refl}
use Rattle.record_dump.specs.inner.Seen.{walk_of}
use Rattle.record_dump.specs.declared.dumping.Unlisted.TheVariants as unlisted
use Rattle.record_dump.proofs.Taking.{blames_more, broken_any}
use Rattle.record_dump.proofs.Listing.{page_turn, list_ended_at, ended_turn, halved_turn, short_turn, list_blames, list_not_done}
use Rattle.record_dump.proofs.dumping.turn.Goals as goal

pub returns-in-Ok-clause-made : goal.returns-in-Ok-clause-made
returns-in-Ok-clause-made g c =
    let page = c.in-Ok.ensures.page in
    page_turn _ (record { exchanges = g.R.Link.exchanges c.args.far.now; log = g.R.Far.log c.args.far.now }) (record { exchanges = g.R.Link.exchanges c.list_page.new.far; log = g.R.Far.log c.list_page.new.far }) (record { group = c.args.place.now.group.bytes; version = c.args.place.now.version.bytes; plural = c.args.place.now.plural.bytes }) c.args.walk.now c.take_page.new.walk (g.K.Sink.written c.args.out.now) (g.K.Sink.written c.take_page.new.out) c.as_str.result.now page.0 c.in-Ok.page c.take_page.result c.as_str.ensures page.1 page.2 c.take_page.ensures.wrote

pub returns-in-Ok-clause-cause : goal.returns-in-Ok-clause-cause
returns-in-Ok-clause-cause g c = blames_more _ _ c.take_page.result c.take_page.ensures.cause

pub returns-then-halve-clause-made : goal.returns-then-halve-clause-made
returns-then-halve-clause-made g c =
    halved_turn _ (record { exchanges = g.R.Link.exchanges c.args.far.now; log = g.R.Far.log c.args.far.now }) (record { exchanges = g.R.Link.exchanges c.list_page.new.far; log = g.R.Far.log c.list_page.new.far }) (record { group = c.args.place.now.group.bytes; version = c.args.place.now.version.bytes; plural = c.args.place.now.plural.bytes }) c.args.walk.now c.halve.new.self (g.K.Sink.written c.args.out.now) (list_ended_at _ (record { exchanges = g.R.Link.exchanges c.args.far.now; log = g.R.Far.log c.args.far.now }) (record { exchanges = g.R.Link.exchanges c.list_page.new.far; log = g.R.Far.log c.list_page.new.far }) (record { group = c.args.place.now.group.bytes; version = c.args.place.now.version.bytes; plural = c.args.place.now.plural.bytes }) (walk_of c.args.walk.now) c.as_str.result.now c.in-Err.end unlisted.TooLong c.as_str.ensures c.in-Err.ensures.end c.in-TooLong.ensures) (c.halve.ensures.yes c.if-halve.true)

pub returns-else-halve-clause-made : goal.returns-else-halve-clause-made
returns-else-halve-clause-made g c =
    short_turn _ (record { exchanges = g.R.Link.exchanges c.args.far.now; log = g.R.Far.log c.args.far.now }) (record { exchanges = g.R.Link.exchanges c.list_page.new.far; log = g.R.Far.log c.list_page.new.far }) (record { group = c.args.place.now.group.bytes; version = c.args.place.now.version.bytes; plural = c.args.place.now.plural.bytes }) c.args.walk.now c.halve.new.self (g.K.Sink.written c.args.out.now) (list_ended_at _ (record { exchanges = g.R.Link.exchanges c.args.far.now; log = g.R.Far.log c.args.far.now }) (record { exchanges = g.R.Link.exchanges c.list_page.new.far; log = g.R.Far.log c.list_page.new.far }) (record { group = c.args.place.now.group.bytes; version = c.args.place.now.version.bytes; plural = c.args.place.now.plural.bytes }) (walk_of c.args.walk.now) c.as_str.result.now c.in-Err.end unlisted.TooLong c.as_str.ensures c.in-Err.ensures.end c.in-TooLong.ensures) (c.halve.ensures.no c.if-halve.false)

pub returns-in-Ended-clause-made : goal.returns-in-Ended-clause-made
returns-in-Ended-clause-made g c =
    ended_turn _ (record { exchanges = g.R.Link.exchanges c.args.far.now; log = g.R.Far.log c.args.far.now }) (record { exchanges = g.R.Link.exchanges c.list_page.new.far; log = g.R.Far.log c.list_page.new.far }) (record { group = c.args.place.now.group.bytes; version = c.args.place.now.version.bytes; plural = c.args.place.now.plural.bytes }) c.args.walk.now c.args.walk.now (g.K.Sink.written c.args.out.now) c.in-Ended.end (list_ended_at _ (record { exchanges = g.R.Link.exchanges c.args.far.now; log = g.R.Far.log c.args.far.now }) (record { exchanges = g.R.Link.exchanges c.list_page.new.far; log = g.R.Far.log c.list_page.new.far }) (record { group = c.args.place.now.group.bytes; version = c.args.place.now.version.bytes; plural = c.args.place.now.plural.bytes }) (walk_of c.args.walk.now) c.as_str.result.now c.in-Err.end (unlisted.Ended c.in-Ended.end) c.as_str.ensures c.in-Err.ensures.end c.in-Ended.ensures)

pub returns-in-Ended-clause-flushed : goal.returns-in-Ended-clause-flushed
returns-in-Ended-clause-flushed g c = list_not_done _ c.in-Err.end c.in-Ended.end c.in-Ended.ensures

pub returns-in-Ended-clause-cause : goal.returns-in-Ended-clause-cause
returns-in-Ended-clause-cause g c = list_blames _ _ c.in-Err.end c.in-Ended.end c.in-Err.ensures.cause c.in-Ended.ensures

pub returns-then-halve-clause-handed_on : goal.returns-then-halve-clause-handed_on
returns-then-halve-clause-handed_on g c = inl refl

pub returns-else-halve-clause-handed_on : goal.returns-else-halve-clause-handed_on
returns-else-halve-clause-handed_on g c = inl refl

pub returns-in-Ended-clause-handed_on : goal.returns-in-Ended-clause-handed_on
returns-in-Ended-clause-handed_on g c = broken_any _ c.in-Ended.end (inl refl)
