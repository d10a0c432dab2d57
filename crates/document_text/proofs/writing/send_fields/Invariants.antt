use Rattle.std.proofs.Common.{drop, map}
use Rattle.serde.specs.Event.{Log}
use Rattle.kj_value.specs.Pair.{pair_of}
use Rattle.document_text.specs.Sent.{Grows, fields_events}
use Rattle.document_text.proofs.writing.send_fields.Given as goal

-- whatever they grow by from here, they grow by from the start
abbrev pub invariant-loop-f : goal.invariant-loop-f
invariant-loop-f g l =
    (end : Log) → Grows (fields_events (map pair_of (drop l.f-index l.fields))) (g.S.Serializer.written l.out) end → Grows (fields_events (map pair_of l.fields)) (g.S.Serializer.written l.initial.out) end
