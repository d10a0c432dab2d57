use Rattle.std.proofs.Common.{◌≡◌, [], ◌∷◌, ◌++◌, List, map, ap, sym, ◌∙◌, append_assoc, arith}
use Rattle.std.specs.Vec.Iter.{into_iter_items}
use Rattle.kj_value.specs.Seen.{json}
use Rattle.kj_value.specs.declared.value.JVal.{JVal}
use Rattle.wire_client.specs.declared.buffer.TheConstants.{ANSWER_LEVELS}
use Rattle.record_dump.proofs.Written.{one_line_more, front_of_lines, first_low, rest_low}
use Rattle.record_dump.proofs.line.send_all.Goals as goal

pub send_object-requires : goal.send_object-requires
send_object-requires g c =
    let l = c.loop-object in
    let left = into_iter_items c.next.new.self in
    let step : into_iter_items l.object-iterator ≡ c.in-Some.object ∷ left = c.in-Some.ensures.steps.0 in
    first_low (map json (into_iter_items l.object-iterator)) (json c.in-Some.object) (map json left) ANSWER_LEVELS (ap (λ (vs : List JVal). map json vs) step) l.invariant.low

pub returns-in-Err-clause-sent : goal.returns-in-Err-clause-sent
returns-in-Err-clause-sent g c =
    let l = c.loop-object in
    let left = into_iter_items c.next.new.self in
    let step : into_iter_items l.object-iterator ≡ c.in-Some.object ∷ left = c.in-Some.ensures.steps.0 in
    front_of_lines (g.K.Sink.written c.args.out.now) (g.K.Sink.written l.out) (g.K.Sink.written c.send_object.new.out) c.args.objects l.invariant.wrote.0 (json c.in-Some.object) (map json left)
    (l.invariant.wrote.1 ∙ ap (λ (vs : List JVal). l.invariant.wrote.0 ++ map json vs) step) l.invariant.wrote.2 c.in-Err.ensures.sent

pub loop-object-preserved : goal.loop-object-preserved
loop-object-preserved g c =
    let l = c.loop-object in
    let left = into_iter_items c.next.new.self in
    let step : into_iter_items l.object-iterator ≡ c.in-Some.object ∷ left = c.in-Some.ensures.steps.0 in
    let done = l.invariant.wrote.0 in
    record {
      wrote = (
        done ++ json c.in-Some.object ∷ [],
        l.invariant.wrote.1 ∙ ap (λ (vs : List JVal). done ++ map json vs) step ∙ sym (append_assoc done (json c.in-Some.object ∷ []) (map json left)),
        one_line_more (g.K.Sink.written c.args.out.now) (g.K.Sink.written l.out) (g.K.Sink.written c.send_object.new.out) done (json c.in-Some.object) l.invariant.wrote.2 c.in-Ok.ensures.sent,
      );
      low = rest_low (map json (into_iter_items l.object-iterator)) (json c.in-Some.object) (map json left) ANSWER_LEVELS (ap (λ (vs : List JVal). map json vs) step) l.invariant.low;
      later = omega (arith, c.send_object.ensures.later, l.invariant.later);
    }
