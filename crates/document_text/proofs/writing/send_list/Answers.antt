use Rattle.std.proofs.Common.{Option, map, sym, subst, arith}
use Rattle.std.proofs.lemmas.List.{length-map}
use Rattle.std.proofs.lemmas.Result.{on_ok_weaker}
use Rattle.kj_value.specs.Json.{Json, text, list, items_of}
use Rattle.kube_meta.specs.Document.{optional}
use Rattle.document_text.specs.Sent.{Grows, fields_events}
use Rattle.document_text.proofs.Sending.{field_grows, some-list}
use Rattle.document_text.proofs.writing.send_list.Goals as goal

pub returns : goal.returns
returns g c =
    let written = g.S.Serializer.written in
    let k = c.args.name.now in
    let j : Json = list (items_of (map text c.args.texts.now)) in
    let end = written c.send_each.new.out in
    on_ok_weaker c.send_each.result (λ h. subst (λ (o : Option Json). Grows (fields_events (optional k o)) (written c.args.out.now) end) (sym (some-list (map text c.args.texts.now) (λ none. omega (arith, none, length-map c.args.texts.now text))))
    (field_grows k j (written c.args.out.now) (written c.key.new.self) end c.in_ok-key.ensures h)) c.send_each.ensures
