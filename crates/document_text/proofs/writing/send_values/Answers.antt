use Rattle.std.proofs.Common.{◌+◌, ◌∷◌, [], List, Some, drop, map, sym, subst, ◌∙◌, arith}
use Rattle.std.proofs.lemmas.List.{drop_all}
use Rattle.std.proofs.lemmas.Result.{on_ok_weaker}
use Rattle.serde.specs.Event as event
use Rattle.serde.specs.Event.{Logs}
use Rattle.serde_json.specs.Events.{items_len}
use Rattle.kj_value.specs.Json.{Json, items_of}
use Rattle.kj_value.specs.Seen.{json}
use Rattle.kj_value.specs.Data.{to_data, items_data}
use Rattle.kj_value.specs.declared.value.JVal.{JVal}
use Rattle.kj_value.proofs.Written.{items_len-data}
use Rattle.document_text.specs.Sent.{Grows, events_of, items_events}
use Rattle.document_text.proofs.Sending.{grows_value, grows_one, grows_then, turn}
use Rattle.document_text.proofs.writing.send_values.Goals as goal

pub loop-x-preserved : goal.loop-x-preserved
loop-x-preserved g c =
    let written = g.S.Serializer.written in
    let x = c.x-item.result in
    let xs = c.as_slice-x-items.result.now in
    let value = events_of (to_data (json x)) in
    let behind = items_events (items_data (items_of (map json (drop (c.loop-x.x-index + 1) xs)))) in
    λ end rest. c.loop-x.invariant end (subst (λ (ys : List JVal). Grows (items_events (items_data (items_of (map json ys)))) (written c.loop-x.out) end) (sym (turn xs c.loop-x.x-index x _ c.loop-x-test.true c.x-item.is))
    (grows_then value behind (written c.loop-x.out) (written c.serialize.new.out) end (grows_value (to_data (json x)) _ _ c.in_ok-serialize.ensures) rest))

pub returns : goal.returns
returns g c =
    let written = g.S.Serializer.written in
    let xs = c.as_slice-x-items.result.now in
    let js : List Json = c.args.items.now in
    let begins = event.seq_begins (Some (items_len (items_data (items_of js)))) in
    let first = written c.begin_seq.new.self in
    let last = written c.loop-x.out in
    let end = written c.end_seq.new.self in
    let begun = subst (λ n. Logs (written c.args.out.now) first (event.seq_begins (Some n))) (c.len.ensures.len ∙ sym (items_len-data c.args.items.now)) c.in_ok-begin_seq.ensures in
    let none = sym (drop_all c.loop-x.x-index xs (omega arith)) in
    on_ok_weaker c.end_seq.result (λ e. grows_then (begins ∷ []) (items_events (items_data (items_of js))) (written c.args.out.now) first end (grows_one begins _ _ begun)
    (subst (λ (ks : List Json). Grows (items_events (items_data (items_of ks))) first end) (c.as_slice-x-items.ensures.value)
    (c.loop-x.invariant end (subst (λ (ys : List JVal). Grows (items_events (items_data (items_of (map json ys)))) last end) none (grows_one event.seq_ends _ _ e))))) c.end_seq.ensures
