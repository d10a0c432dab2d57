use Rattle.std.proofs.Common.{◌+◌, ◌∷◌, [], List, ℕ, Some, drop, map, sym, subst, ◌∙◌, arith}
use Rattle.std.proofs.lemmas.List.{drop_all, length-map}
use Rattle.std.proofs.lemmas.Result.{on_ok_weaker}
use Rattle.serde.specs.Event as event
use Rattle.serde.specs.Event.{Event, Logs}
use Rattle.serde.specs.declared.name.Case.TheVariants.{AsIs}
use Rattle.serde_json.specs.Events.{members_len}
use Rattle.kj_value.specs.Json.{text, members_of}
use Rattle.kj_value.specs.Texts.{text_pair}
use Rattle.kj_value.specs.Data.{members_data}
use Rattle.kj_value.specs.declared.texts.TextField.{TextField}
use Rattle.kj_value.proofs.Written.{members_len-data}
use Rattle.kube_meta.specs.Document.{text_fields}
use Rattle.document_text.specs.Sent.{Grows, fields_events}
use Rattle.document_text.proofs.Sending.{grows_one, grows_none, grows_then, members-fields, turn}
use Rattle.document_text.proofs.writing.send_map.Goals as goal

pub loop-t-preserved : goal.loop-t-preserved
loop-t-preserved g c =
    let written = g.S.Serializer.written in
    let t = c.t-item.result in
    let ts = c.as_slice-t-items.result.now in
    let behind = fields_events (text_fields (map text_pair (drop (c.loop-t.t-index + 1) ts))) in
    let sent = subst (λ (p : List ℕ × List ℕ). Grows (fields_events ((p.0, text p.1) ∷ [])) (written c.loop-t.out) (written c.send_text.new.out)) (λ i. (c.as_str.ensures i, c.as_str-in-loop-t.ensures i)) c.in_ok-send_text.ensures in
    λ end rest. c.loop-t.invariant end (subst (λ (fs : List TextField). Grows (fields_events (text_fields (map text_pair fs))) (written c.loop-t.out) end) (sym (turn ts c.loop-t.t-index t _ c.loop-t-test.true c.t-item.is))
    (grows_then (event.field_key t.name.bytes AsIs ∷ event.text t.value.bytes ∷ []) behind (written c.loop-t.out) (written c.send_text.new.out) end sent rest))

pub returns : goal.returns
returns g c =
    let written = g.S.Serializer.written in
    let ts = c.as_slice-t-items.result.now in
    let ps = text_fields c.args.texts.now in
    let begins = event.map_begins (Some (members_len (members_data (members_of ps)))) in
    let first = written c.begin_map.new.self in
    let end = written c.end_map.new.self in
    let last = written c.loop-t.out in
    let count = c.len.ensures.len ∙ sym (members_len-data ps ∙ length-map c.args.texts.now _) in
    let begun = subst (λ n. Logs (written c.args.out.now) first (event.map_begins (Some n))) count c.in_ok-begin_map.ensures in
    let all : Grows (fields_events ps) first last =
    subst (λ (us : List (List ℕ × List ℕ)). Grows (fields_events (text_fields us)) first last) c.as_slice-t-items.ensures.value
    (c.loop-t.invariant last (subst (λ (fs : List TextField). Grows (fields_events (text_fields (map text_pair fs))) last last) (sym (drop_all c.loop-t.t-index ts (omega arith))) (grows_none last))) in
    on_ok_weaker c.end_map.result (λ e. subst (λ (es : List Event). Grows (begins ∷ es) (written c.args.out.now) end) (sym (members-fields ps))
    (grows_then (begins ∷ []) _ (written c.args.out.now) first end (grows_one begins _ _ begun) (grows_then (fields_events ps) (event.map_ends ∷ []) first last end all (grows_one event.map_ends _ _ e)))) c.end_map.ensures
