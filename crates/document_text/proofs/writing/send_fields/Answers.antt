use Rattle.std.proofs.Common.{◌+◌, ◌∷◌, ◌++◌, [], List, drop, map, sym, subst, arith}
use Rattle.std.proofs.lemmas.List.{drop_all}
use Rattle.serde.specs.Event as event
use Rattle.serde.specs.declared.name.Case.TheVariants.{AsIs}
use Rattle.kj_value.specs.Seen.{json}
use Rattle.kj_value.specs.Pair.{pair_of}
use Rattle.kj_value.specs.Data.{to_data}
use Rattle.kj_value.specs.declared.value.Field.{Field}
use Rattle.document_text.specs.Sent.{Grows, events_of, fields_events}
use Rattle.document_text.proofs.Sending.{grows_value, grows_one, grows_none, grows_then, turn}
use Rattle.document_text.proofs.writing.send_fields.Goals as goal

pub loop-f-preserved : goal.loop-f-preserved
loop-f-preserved g c =
    let written = g.S.Serializer.written in
    let f = c.f-item.result in
    let behind = fields_events (map pair_of (drop (c.loop-f.f-index + 1) c.args.fields.now)) in
    let key = event.field_key f.name.bytes AsIs in
    let value = events_of (to_data (json f.value)) in
    λ end rest. c.loop-f.invariant end (subst (λ (fs : List Field). Grows (fields_events (map pair_of fs)) (written c.loop-f.out) end) (sym (turn c.args.fields.now c.loop-f.f-index f _ c.loop-f-test.true c.f-item.is))
    (grows_then (key ∷ []) (value ++ behind) (written c.loop-f.out) (written c.key.new.self) end (grows_one key _ _ (subst (λ bs. event.Logs (written c.loop-f.out) (written c.key.new.self) (event.field_key bs AsIs)) c.as_str.ensures c.in_ok-key.ensures))
    (grows_then value behind (written c.key.new.self) (written c.serialize.new.out) end (grows_value (to_data (json f.value)) _ _ c.in_ok-serialize.ensures) rest)))

pub returns : goal.returns
returns g c =
    let written = g.S.Serializer.written in
    c.loop-f.invariant (written c.loop-f.out) (subst (λ (fs : List Field). Grows (fields_events (map pair_of fs)) (written c.loop-f.out) (written c.loop-f.out)) (sym (drop_all c.loop-f.f-index c.args.fields.now (omega arith))) (grows_none (written c.loop-f.out)))
