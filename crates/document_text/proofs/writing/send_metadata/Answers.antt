use Rattle.std.proofs.Common.{◌++◌, ◌∷◌, [], codes, None, option_map}
use Rattle.std.proofs.lemmas.Result.{on_ok_weaker}
use Rattle.serde.specs.Event as event
use Rattle.kj_value.specs.Json.{text}
use Rattle.kj_value.specs.Fields.{Pairs}
use Rattle.kube_meta.specs.Document.{optional, metadata}
use Rattle.document_text.specs.FieldLaws.{others}
use Rattle.document_text.specs.Sent.{fields_events, shown_by}
use Rattle.document_text.proofs.Sending.{grows_one, grows_then, fields_then}
use Rattle.document_text.proofs.writing.send_metadata.Goals as goal

pub returns : goal.returns
unfolding metadata
returns g c =
    let written = g.S.Serializer.written in
    let m = (shown_by c.args.d.now).meta in
    let old = written c.args.out.now in
    let s1 = written c.begin_map.new.self in
    let s2 = written c.send_others.new.out in
    let s3 = written c.send_given.new.out in
    let s4 = written c.send_given-2.new.out in
    let s5 = written c.end_map.new.self in
    let begins = event.map_begins None in
    let p2 : Pairs = others m ++ optional (codes "resourceVersion") (option_map text m.resource_version) in
    let e3 = fields_then (others m) _ s1 s2 s3 c.in_ok-send_others.ensures c.in_ok-send_given.ensures in
    let e4 = fields_then p2 _ s1 s3 s4 e3 c.in_ok-send_given-2.ensures in
    on_ok_weaker c.end_map.result (λ e. grows_then (begins ∷ []) _ old s1 s5 (grows_one begins _ _ c.in_ok-begin_map.ensures)
    (grows_then (fields_events (metadata m)) (event.map_ends ∷ []) s1 s4 s5 e4 (grows_one event.map_ends _ _ e))) c.end_map.ensures
