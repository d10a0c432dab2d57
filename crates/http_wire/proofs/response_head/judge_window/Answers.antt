use Rattle.std.proofs.Common.{subst, sym, List, ℕ, inl}
use Rattle.httparse.specs.Spans.{ResponseOverflows}
use Rattle.http_wire.specs.Received.{IsOpenStatus, FaultyResponse}
use Rattle.http_wire.proofs.HeadLemmas.{window_all}
use Rattle.http_wire.proofs.response_head.judge_window.Goals as goal

pub returns-in-Ok-Partial : goal.returns-in-Ok-Partial
returns-in-Ok-Partial c =
    let e = rw c.in-Ok-Partial.field-0-is at c.in-Ok-Partial.ensures in
    subst (λ (xs : List ℕ). IsOpenStatus xs) (sym (window_all c.args.bytes.now c.requires)) (e.partial, e.unfinished)

pub returns-in-Err : goal.returns-in-Err
unfolding FaultyResponse
returns-in-Err c =
    (inl (subst (λ (xs : List ℕ). ResponseOverflows 64 xs) (sym (window_all c.args.bytes.now c.requires)) c.in-Err.ensures.no_room), tt)
