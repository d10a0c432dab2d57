use Rattle.std.proofs.Common.{◌+◌, ℕ, ap, arith}
use Rattle.record_dump.specs.inner.Posted.{counts_of}
use Rattle.record_dump.proofs.Stepping.{next_unread, next_done, next_many, next_read, next_unlined, unread_blames, unread_no_end, unlined_blames, unlined_later, unlined_ends}
use Rattle.record_dump.proofs.restoring.next_line.Goals as goal

pub returns-in-Err-clause-took : goal.returns-in-Err-clause-took
returns-in-Err-clause-took g c =
    next_unread (counts_of c.args.counts.now) (g.S.Source.left c.args.input.now) (g.S.Source.left c.has_more.new.input) c.args.lines.now c.has_more.new.self c.has_more.ensures.took.0 c.in-Err.unread c.unread_end.result c.has_more.ensures.took.1 c.unread_end.ensures

pub returns-in-Err-clause-cause : goal.returns-in-Err-clause-cause
returns-in-Err-clause-cause g c = unread_blames _ c.in-Err.unread c.unread_end.result c.unread_end.ensures c.in-Err.ensures.cause

pub returns-in-Err-clause-end : goal.returns-in-Err-clause-end
returns-in-Err-clause-end g c = unread_no_end _ c.in-Err.unread c.unread_end.result c.unread_end.ensures

pub returns-then-not-more-clause-took : goal.returns-then-not-more-clause-took
returns-then-not-more-clause-took g c =
    next_done (counts_of c.args.counts.now) (g.S.Source.left c.args.input.now) (g.S.Source.left c.has_more.new.input) c.args.lines.now c.has_more.new.self (c.in-Ok.ensures.took.0, c.in-Ok.ensures.took.1, c.in-Ok.ensures.took.2) (c.in-Ok.ensures.end c.if-not-more.true).0

pub returns-then-count-ge-MOST_LINES-clause-took : goal.returns-then-count-ge-MOST_LINES-clause-took
returns-then-count-ge-MOST_LINES-clause-took g c =
    next_many (counts_of c.args.counts.now) (g.S.Source.left c.args.input.now) (g.S.Source.left c.has_more.new.input) c.args.lines.now c.has_more.new.self (c.in-Ok.ensures.took.0, c.in-Ok.ensures.took.1, c.in-Ok.ensures.took.2) (omega (arith, c.if-count-ge-MOST_LINES.true, c.count-count.ensures)) (c.in-Ok.ensures.more c.if-not-more.false)

pub returns-in-Ok-read_line-clause-took : goal.returns-in-Ok-read_line-clause-took
returns-in-Ok-read_line-clause-took g c =
    next_read (counts_of c.args.counts.now) (g.S.Source.left c.args.input.now) (g.S.Source.left c.has_more.new.input) (g.S.Source.left c.read_line.new.input) c.args.lines.now c.has_more.new.self c.read_line.new.self c.in-Ok-read_line.len (c.in-Ok.ensures.took.0, c.in-Ok.ensures.took.1, c.in-Ok.ensures.took.2) (omega (arith, c.if-count-ge-MOST_LINES.false, c.count-count.ensures)) c.in-Ok-read_line.ensures.took

pub returns-in-Err-read_line-clause-took : goal.returns-in-Err-read_line-clause-took
returns-in-Err-read_line-clause-took g c =
    next_unlined (counts_of c.args.counts.now) (g.S.Source.left c.args.input.now) (g.S.Source.left c.has_more.new.input) (g.S.Source.left c.read_line.new.input) c.args.lines.now c.has_more.new.self c.read_line.new.self c.in-Err-read_line.unlined c.unlined_end.result (c.count-count.result + 1) (c.in-Ok.ensures.took.0, c.in-Ok.ensures.took.1, c.in-Ok.ensures.took.2) (omega (arith, c.if-count-ge-MOST_LINES.false, c.count-count.ensures)) (c.in-Ok.ensures.more c.if-not-more.false) (ap (λ (k : ℕ). k + 1) c.count-count.ensures) c.unlined_end.ensures c.in-Err-read_line.ensures.took

pub returns-in-Err-read_line-clause-cause : goal.returns-in-Err-read_line-clause-cause
returns-in-Err-read_line-clause-cause g c = unlined_blames _ (c.count-count.result + 1) c.in-Err-read_line.unlined c.unlined_end.result c.unlined_end.ensures (unlined_later _ _ c.in-Err-read_line.unlined (λ rose. omega (arith, rose, c.has_more.ensures.later)) c.in-Err-read_line.ensures.cause)

pub returns-in-Err-read_line-clause-end : goal.returns-in-Err-read_line-clause-end
returns-in-Err-read_line-clause-end g c = unlined_ends _ (c.count-count.result + 1) c.in-Err-read_line.unlined c.unlined_end.result c.unlined_end.ensures c.in-Err-read_line.ensures.end
