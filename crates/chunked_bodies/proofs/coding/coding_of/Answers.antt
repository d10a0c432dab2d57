use Rattle.std.proofs.Common.{arith, ap, sym, ◌∙◌, map, subst, Option, ℕ, ◌+◌}
use Rattle.std.proofs.lemmas.List.{length-map}
use Rattle.httparse.specs.Spans.{header_bytes}
use Rattle.chunked_bodies.specs.Response.{frames, is_chunked}
use Rattle.chunked_bodies.specs.inner.Walk.{Found}
use Rattle.chunked_bodies.proofs.Codings.{seen, inside_map, nowhere_second, nowhere_other, found_first, found_more, answer}
use Rattle.chunked_bodies.proofs.coding.coding_of.Goals.{then-frames+else-is_some+else-not-is_chunked, else-frames}
use Rattle.chunked_bodies.proofs.coding.coding_of.Goals as goal

pub returns-then-is_some : goal.returns-then-is_some
returns-then-is_some c =
    nowhere_second (map (header_bytes c.args.bytes.now) c.args.headers.now) c.loop-i.i c.loop-i.found c.loop-i.invariant (sym c.is_some.ensures ∙ c.if-is_some.true) (inside_map c.args.bytes.now c.args.headers.now c.loop-i.i c.loop-i-test.true)
    (ap frames (seen c.args.bytes.now c.args.headers.now c.loop-i.i _ c.of-name.result.now c.of-value.result.now c.loop-i-test.true c.of-name.ensures c.of-value.ensures) ∙ sym c.frames.ensures ∙ c.if-frames.true)

pub returns-then-not-is_chunked : goal.returns-then-not-is_chunked
returns-then-not-is_chunked c =
    nowhere_other (map (header_bytes c.args.bytes.now) c.args.headers.now) c.loop-i.i (inside_map c.args.bytes.now c.args.headers.now c.loop-i.i c.loop-i-test.true)
    (ap frames (seen c.args.bytes.now c.args.headers.now c.loop-i.i _ c.of-name.result.now c.of-value.result.now c.loop-i-test.true c.of-name.ensures c.of-value.ensures) ∙ sym c.frames.ensures ∙ c.if-frames.true)
    (ap is_chunked (seen c.args.bytes.now c.args.headers.now c.loop-i.i _ c.of-name.result.now c.of-value.result.now c.loop-i-test.true c.of-name.ensures c.of-value.ensures) ∙ sym c.is_chunked.ensures ∙ c.if-not-is_chunked.true)

pub loop-i-preserved : goal.loop-i-preserved
loop-i-preserved c =
    let ps = map (header_bytes c.args.bytes.now) c.args.headers.now in
    let is = seen c.args.bytes.now c.args.headers.now c.loop-i.i _ c.of-name.result.now c.of-value.result.now c.loop-i-test.true c.of-name.ensures c.of-value.ensures in
    elim c.if-frames.branch [
      | then-frames+else-is_some+else-not-is_chunked w ↦
          subst (λ (o : Option ℕ). Found ps (c.loop-i.i + 1) o) (sym w.found-is)
          (found_first ps c.loop-i.i c.loop-i.found c.loop-i.invariant (sym w.is_some.ensures ∙ w.if-is_some.false) (ap is_chunked is ∙ sym w.is_chunked.ensures ∙ w.if-not-is_chunked.false))
      | else-frames w ↦
          subst (λ (o : Option ℕ). Found ps (c.loop-i.i + 1) o) (sym w.found-is)
          (found_more ps c.loop-i.i c.loop-i.found c.loop-i.invariant (ap frames is ∙ sym c.frames.ensures ∙ w.if-frames.false))
    ]

pub returns : goal.returns
returns c =
    answer (map (header_bytes c.args.bytes.now) c.args.headers.now) c.loop-i.i c.loop-i.found c.loop-i.invariant (omega (arith, c.loop-i-test.false, c.loop-i.auto.i-end, length-map c.args.headers.now (header_bytes c.args.bytes.now)))
