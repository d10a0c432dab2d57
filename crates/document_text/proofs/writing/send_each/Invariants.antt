use Rattle.std.proofs.Common.{drop, map}
use Rattle.serde.specs.Event.{Log}
use Rattle.kj_value.specs.Json.{text, items_of}
use Rattle.kj_value.specs.Texts.{bytes_of}
use Rattle.kj_value.specs.Data.{items_data}
use Rattle.document_text.specs.Sent.{Grows, items_events}
use Rattle.document_text.proofs.writing.send_each.Given as goal

-- whatever they grow by from here, they grow by from the start
abbrev pub invariant-loop-t : goal.invariant-loop-t
invariant-loop-t g l =
    (end : Log) → Grows (items_events (items_data (items_of (map text (map bytes_of (drop l.t-index l.t-items)))))) (g.S.Serializer.written l.out) end
    → Grows (items_events (items_data (items_of (map text (map bytes_of l.t-items))))) (g.S.Serializer.written l.initial.out) end
