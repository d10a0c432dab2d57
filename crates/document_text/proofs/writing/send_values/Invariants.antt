use Rattle.std.proofs.Common.{drop, map}
use Rattle.serde.specs.Event.{Log}
use Rattle.kj_value.specs.Json.{items_of}
use Rattle.kj_value.specs.Seen.{json}
use Rattle.kj_value.specs.Data.{items_data}
use Rattle.document_text.specs.Sent.{Grows, items_events}
use Rattle.document_text.proofs.writing.send_values.Given as goal

-- whatever they grow by from here, they grow by from the start
abbrev pub invariant-loop-x : goal.invariant-loop-x
invariant-loop-x g l =
    (end : Log) → Grows (items_events (items_data (items_of (map json (drop l.x-index l.x-items))))) (g.S.Serializer.written l.out) end
    → Grows (items_events (items_data (items_of (map json l.x-items)))) (g.S.Serializer.written l.initial.out) end
