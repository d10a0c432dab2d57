use Rattle.std.proofs.Common.{Option, sym, subst, arith}
use Rattle.std.proofs.lemmas.Result.{on_ok_weaker}
use Rattle.kj_value.specs.Json.{Json, list, items_of}
use Rattle.kube_meta.specs.Document.{optional}
use Rattle.document_text.specs.Sent.{Grows, fields_events}
use Rattle.document_text.proofs.Sending.{field_grows, some-list}
use Rattle.document_text.proofs.writing.send_items.Goals as goal

pub returns : goal.returns
returns g c =
    let written = g.S.Serializer.written in
    let k = c.args.name.now in
    let j : Json = list (items_of c.args.items.now) in
    let end = written c.send_values.new.out in
    on_ok_weaker c.send_values.result (λ h. subst (λ (o : Option Json). Grows (fields_events (optional k o)) (written c.args.out.now) end) (sym (some-list c.args.items.now (λ none. omega (arith, none))))
    (field_grows k j (written c.args.out.now) (written c.key.new.self) end c.in_ok-key.ensures h)) c.send_values.ensures
