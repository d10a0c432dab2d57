use Rattle.record_dump.specs.inner.Posted.{counts_of}
use Rattle.record_dump.proofs.Stepping.{turn_ends, blames_either}
use Rattle.record_dump.proofs.restoring.turn.Goals as goal

pub returns-in-Err-clause-made : goal.returns-in-Err-clause-made
returns-in-Err-clause-made g c =
    turn_ends _ (record { exchanges = g.R.Link.exchanges c.args.far.now; log = g.R.Far.log c.args.far.now }) (record { group = c.args.place.now.group.bytes; version = c.args.place.now.version.bytes; plural = c.args.place.now.plural.bytes }) (counts_of c.args.counts.now) (counts_of c.args.counts.now) (g.S.Source.left c.args.input.now) (g.S.Source.left c.next_line.new.input) c.args.lines.now c.next_line.new.lines c.in-Err.ensures.took.0 c.in-Err.end c.in-Err.ensures.took.1 (c.in-Err.ensures.took.2 (record { group = c.args.place.now.group.bytes; version = c.args.place.now.version.bytes; plural = c.args.place.now.plural.bytes }))

pub returns-in-Err-clause-cause : goal.returns-in-Err-clause-cause
returns-in-Err-clause-cause g c = blames_either _ _ c.in-Err.end c.in-Err.ensures.cause
