use Rattle.std.proofs.Common.{◌+◌, ◌∷◌, [], List, ℕ, Some, drop, map, sym, subst, ap, ◌∙◌, arith}
use Rattle.std.proofs.lemmas.List.{drop_all, length-map}
use Rattle.std.proofs.lemmas.Result.{on_ok_weaker}
use Rattle.serde.specs.Event as event
use Rattle.serde.specs.Event.{Logs}
use Rattle.serde_json.specs.Events.{items_len}
use Rattle.kj_value.specs.Json.{Json, text, items_of}
use Rattle.kj_value.specs.Texts.{bytes_of}
use Rattle.kj_value.specs.Data.{items_data}
use Rattle.kj_value.specs.declared.txt.Txt.{Txt}
use Rattle.kj_value.proofs.Written.{items_len-data}
use Rattle.document_text.specs.Sent.{Grows, items_events}
use Rattle.document_text.proofs.Sending.{grows_one, grows_then, turn}
use Rattle.document_text.proofs.writing.send_each.Goals as goal

pub loop-t-preserved : goal.loop-t-preserved
loop-t-preserved g c =
    let written = g.S.Serializer.written in
    let t = c.t-item.result in
    let ts = c.as_slice-t-items.result.now in
    let value = event.text t.bytes ∷ [] in
    let behind = items_events (items_data (items_of (map text (map bytes_of (drop (c.loop-t.t-index + 1) ts))))) in
    λ end rest. c.loop-t.invariant end (subst (λ (ys : List Txt). Grows (items_events (items_data (items_of (map text (map bytes_of ys))))) (written c.loop-t.out) end) (sym (turn ts c.loop-t.t-index t _ c.loop-t-test.true c.t-item.is))
    (grows_then value behind (written c.loop-t.out) (written c.str.new.self) end (grows_one (event.text t.bytes) _ _ (subst (λ bs. Logs (written c.loop-t.out) (written c.str.new.self) (event.text bs)) c.as_str.ensures c.in_ok-str.ensures)) rest))

pub returns : goal.returns
returns g c =
    let written = g.S.Serializer.written in
    let ts = c.as_slice-t-items.result.now in
    let js : List Json = map text c.args.texts.now in
    let begins = event.seq_begins (Some (items_len (items_data (items_of js)))) in
    let first = written c.begin_seq.new.self in
    let last = written c.loop-t.out in
    let end = written c.end_seq.new.self in
    let begun = subst (λ n. Logs (written c.args.out.now) first (event.seq_begins (Some n))) (c.len.ensures ∙ sym (items_len-data (map text c.args.texts.now) ∙ length-map c.args.texts.now text)) c.in_ok-begin_seq.ensures in
    let none = sym (drop_all c.loop-t.t-index ts (omega arith)) in
    on_ok_weaker c.end_seq.result (λ e. grows_then (begins ∷ []) (items_events (items_data (items_of js))) (written c.args.out.now) first end (grows_one begins _ _ begun)
    (subst (λ (ks : List Json). Grows (items_events (items_data (items_of ks))) first end) (ap (λ (us : List (List ℕ)). map text us) c.as_slice-t-items.ensures)
    (c.loop-t.invariant end (subst (λ (ys : List Txt). Grows (items_events (items_data (items_of (map text (map bytes_of ys))))) last end) none (grows_one event.seq_ends _ _ e))))) c.end_seq.ensures
