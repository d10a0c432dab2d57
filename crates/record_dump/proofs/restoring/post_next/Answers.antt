use Rattle.std.proofs.Common.{◌+◌, ◌∙◌, ℕ, ap, arith}
use Rattle.record_dump.specs.inner.Posted.{counts_of}
use Rattle.record_dump.proofs.Lining.{left_behind, line_is, line_within, line_short}
use Rattle.record_dump.proofs.Stepping.{step_posted, step_ended, post_blames, post_no_end}
use Rattle.record_dump.proofs.restoring.post_next.Goals as goal

pub first-requires : goal.first-requires
first-requires g c = omega (arith, line_within c.args.lines.now c.args.len c.requires.lies)

pub returns-in-Err-clause-made : goal.returns-in-Err-clause-made
returns-in-Err-clause-made g c =
    step_ended _ (record { exchanges = g.R.Link.exchanges c.args.far.now; log = g.R.Far.log c.args.far.now }) (record { exchanges = g.R.Link.exchanges c.post_line.new.far; log = g.R.Far.log c.post_line.new.far }) (record { group = c.args.place.now.group.bytes; version = c.args.place.now.version.bytes; plural = c.args.place.now.plural.bytes }) (counts_of c.args.counts.now) (counts_of c.args.counts.now) c.args.lines.now c.first.result.now c.args.lines.now c.args.len (c.count.result + 1) c.in-Err.unposted c.unposted_end.result c.requires.lies (c.first.ensures ∙ line_is c.args.lines.now c.args.len c.requires.lies) c.requires.few (ap (λ (k : ℕ). k + 1) c.count.ensures) c.unposted_end.ensures c.in-Err.ensures.made

pub returns-in-Err-clause-cause : goal.returns-in-Err-clause-cause
returns-in-Err-clause-cause g c = post_blames _ (c.count.result + 1) c.in-Err.unposted c.unposted_end.result c.unposted_end.ensures c.in-Err.ensures.cause

pub returns-in-Err-clause-end : goal.returns-in-Err-clause-end
returns-in-Err-clause-end g c = post_no_end (c.count.result + 1) c.in-Err.unposted c.unposted_end.result c.unposted_end.ensures

pub overflow_add-len : goal.overflow_add-len
overflow_add-len g c = omega (arith, line_short c.args.lines.now c.args.len c.requires.lies)

pub used-requires : goal.used-requires
used-requires g c = line_within c.args.lines.now c.args.len c.requires.lies

pub returns-clause-made : goal.returns-clause-made
returns-clause-made g c =
    step_posted _ (record { exchanges = g.R.Link.exchanges c.args.far.now; log = g.R.Far.log c.args.far.now }) (record { exchanges = g.R.Link.exchanges c.post_line.new.far; log = g.R.Far.log c.post_line.new.far }) (record { group = c.args.place.now.group.bytes; version = c.args.place.now.version.bytes; plural = c.args.place.now.plural.bytes }) (counts_of c.args.counts.now) (counts_of c.add.new.counts) c.args.lines.now c.first.result.now c.used.new.self c.args.len c.in-Ok.posted c.requires.lies (c.first.ensures ∙ line_is c.args.lines.now c.args.len c.requires.lies) (c.used.ensures ∙ left_behind c.args.lines.now c.args.len c.requires.lies) c.requires.few c.add.ensures.added c.in-Ok.ensures.made
