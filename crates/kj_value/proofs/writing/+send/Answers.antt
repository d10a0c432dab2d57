use Rattle.std.proofs.Common.{◌≡◌, ℕ, ◌+◌, ◌<◌, ◌∷◌, List, [], length, get_or, drop, map, Some, sym, ◌∙◌, subst, ap, arith}
use Rattle.std.proofs.lemmas.List.{drop_all, drop_more}
use Rattle.std.proofs.lemmas.Result.{on_ok_weaker}
use Rattle.std.specs.Result.{OnOk}
use Rattle.serde.specs.Event.{Logs, seq_begins, map_begins, field_key}
use Rattle.serde_json.specs.Events.{SendsValue, SendsItems, SendsMembers}
use Rattle.kj_value.specs.Json.{Json, text, depth, items_of, members_of}
use Rattle.kj_value.specs.Seen.{json}
use Rattle.kj_value.specs.Pair.{pair_of}
use Rattle.kj_value.specs.Fields.{Pairs}
use Rattle.kj_value.specs.Data.{to_data, items_data, members_data}
use Rattle.kj_value.specs.declared.value.JVal.{JVal}
use Rattle.kj_value.specs.declared.value.Field.{Field}
use Rattle.kj_value.specs.laws.Inside.{item_depth, field_depth}
use Rattle.kj_value.proofs.Written.{items_len-data, members_len-data}
use Rattle.kj_value.proofs.writing.+send.Goals as goal

at_next : {X : Type 0} (xs : List X) (i : ℕ) (x : X) → i < length xs → x ≡ get_or xs i x → drop i xs ≡ x ∷ drop (i + 1) xs
at_next xs i x within is = drop_more xs i x within ∙ ap (λ y. y ∷ drop (i + 1) xs) (sym is)

pub send_items-returns : goal.send_items-returns
send_items-returns g t c =
    let xs = c.as_slice-x-items.result.now in
    let first = g.S.Serializer.written c.begin_seq.new.self in
    let end = g.S.Serializer.written c.end_seq.new.self in
    let begun = subst (λ n. Logs (g.S.Serializer.written c.args.out.now) first (seq_begins (Some n))) (c.len.ensures.len ∙ sym (items_len-data c.args.items.now)) c.in_ok-begin_seq.ensures in
    let none : drop c.loop-x.x-index xs ≡ [] = drop_all c.loop-x.x-index xs (omega arith) in
    on_ok_weaker c.end_seq.result (λ e. (
      first,
      begun,
      subst (λ (js : List Json). SendsItems (items_data (items_of js)) first end) c.as_slice-x-items.ensures.value
          (c.loop-x.invariant end (subst (λ (ys : List JVal). SendsItems (items_data (items_of (map json ys))) (g.S.Serializer.written c.loop-x.out) end) (sym none) e)),
    )) c.end_seq.ensures

pub send_fields-returns : goal.send_fields-returns
send_fields-returns g t c =
    let fs = c.as_slice-f-items.result.now in
    let first = g.S.Serializer.written c.begin_map.new.self in
    let end = g.S.Serializer.written c.end_map.new.self in
    let begun = subst (λ n. Logs (g.S.Serializer.written c.args.out.now) first (map_begins (Some n))) (c.len.ensures.len ∙ sym (members_len-data c.args.fields.now)) c.in_ok-begin_map.ensures in
    let none : drop c.loop-f.f-index fs ≡ [] = drop_all c.loop-f.f-index fs (omega arith) in
    on_ok_weaker c.end_map.result (λ e. (
      first,
      begun,
      subst (λ (ps : Pairs). SendsMembers (members_data (members_of ps)) first end) c.as_slice-f-items.ensures.value
          (c.loop-f.invariant end (subst (λ (gs : List Field). SendsMembers (members_data (members_of (map pair_of gs))) (g.S.Serializer.written c.loop-f.out) end) (sym none) e)),
    )) c.end_map.ensures

pub send-returns-in-Text : goal.send-returns-in-Text
send-returns-in-Text g t c =
    subst (λ (j : Json). OnOk c.str.result (SendsValue (to_data j) (g.S.Serializer.written c.args.out.now) (g.S.Serializer.written c.str.new.self)))
    (ap text c.as_str.ensures ∙ ap json (sym c.in-Text.is)) c.str.ensures

pub send-returns-in-List : goal.send-returns-in-List
send-returns-in-List g t c =
    subst (λ (j : Json). OnOk c.send_items.result (SendsValue (to_data j) (g.S.Serializer.written c.args.out.now) (g.S.Serializer.written c.send_items.new.out)))
    (ap json (sym c.in-List.is)) c.send_items.ensures

pub send-returns-in-Obj : goal.send-returns-in-Obj
send-returns-in-Obj g t c =
    subst (λ (j : Json). OnOk c.send_fields.result (SendsValue (to_data j) (g.S.Serializer.written c.args.out.now) (g.S.Serializer.written c.send_fields.new.out)))
    (ap json (sym c.in-Obj.is)) c.send_fields.ensures

pub send_fields-loop-f-preserved : goal.send_fields-loop-f-preserved
send_fields-loop-f-preserved g t c =
    let fs = c.as_slice-f-items.result.now in
    let l = c.loop-f in
    let f = c.f-item.result in
    let left : drop l.f-index fs ≡ f ∷ drop (l.f-index + 1) fs = at_next fs l.f-index f c.loop-f-test.true c.f-item.is in
    λ end rest. l.invariant end (subst (λ (gs : List Field). SendsMembers (members_data (members_of (map pair_of gs))) (g.S.Serializer.written l.out) end) (sym left)
    (g.S.Serializer.written c.key.new.self, g.S.Serializer.written c.send.new.out, rw (← c.as_str.ensures) c.in_ok-key.ensures, c.in_ok-send.ensures, rest))

pub send_items-loop-x-preserved : goal.send_items-loop-x-preserved
send_items-loop-x-preserved g t c =
    let xs = c.as_slice-x-items.result.now in
    let l = c.loop-x in
    let x = c.x-item.result in
    let left : drop l.x-index xs ≡ x ∷ drop (l.x-index + 1) xs = at_next xs l.x-index x c.loop-x-test.true c.x-item.is in
    λ end rest. l.invariant end (subst (λ (ys : List JVal). SendsItems (items_data (items_of (map json ys))) (g.S.Serializer.written l.out) end) (sym left)
    (g.S.Serializer.written c.send.new.out, c.in_ok-send.ensures, rest))

pub send-send_items-requires : goal.send-send_items-requires
send-send_items-requires g t c κs within =
    (omega (arith, c.decreases, ap depth (ap json c.in-List.is)), within)

pub send-send_fields-requires : goal.send-send_fields-requires
send-send_fields-requires g t c κs within =
    (omega (arith, c.decreases, ap depth (ap json c.in-Obj.is)), within)

pub send_fields-send-requires : goal.send_fields-send-requires
send_fields-send-requires g t c κs within =
    (omega (arith, c.decreases, field_depth _ _ _ _ c.as_slice-f-items.ensures.value c.loop-f-test.true c.f-item.is), within)

pub send_items-send-requires : goal.send_items-send-requires
send_items-send-requires g t c κs within =
    (omega (arith, c.decreases, item_depth _ _ _ _ c.as_slice-x-items.ensures.value c.loop-x-test.true c.x-item.is), within)
