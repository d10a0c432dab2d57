use Rattle.std.proofs.Common.{drop, map}
use Rattle.serde.specs.Event.{Log}
use Rattle.kj_value.specs.Texts.{text_pair}
use Rattle.kube_meta.specs.Document.{text_fields}
use Rattle.document_text.specs.Sent.{Grows, fields_events}
use Rattle.document_text.proofs.writing.send_map.Given as goal

-- whatever they grow by from here, they grow by from the start
abbrev pub invariant-loop-t : goal.invariant-loop-t
invariant-loop-t g l =
    (end : Log) → Grows (fields_events (text_fields (map text_pair (drop l.t-index l.t-items)))) (g.S.Serializer.written l.out) end → Grows (fields_events (text_fields (map text_pair l.t-items))) (g.S.Serializer.written l.initial.out) end
