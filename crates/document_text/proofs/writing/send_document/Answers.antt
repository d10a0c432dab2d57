use Rattle.std.proofs.Common.{◌≡◌, ◌++◌, ◌∷◌, [], List, codes, None, map, sym, subst, ap, ◌∙◌}
use Rattle.std.proofs.lemmas.Result.{on_ok_weaker}
use Rattle.serde.specs.Event as event
use Rattle.serde.specs.Event.{Event}
use Rattle.serde.specs.declared.name.Case.TheVariants.{AsIs}
use Rattle.kj_value.specs.Json.{text}
use Rattle.kj_value.specs.Pair.{pair_of}
use Rattle.kj_value.specs.Fields.{Pairs}
use Rattle.kube_meta.specs.Document.{metadata}
use Rattle.document_text.specs.FieldLaws.{before, after, around_meta}
use Rattle.document_text.specs.Numbered.{metadata_name}
use Rattle.document_text.specs.Sent.{Grows, fields_events, object_events, shown_by}
use Rattle.document_text.proofs.Sending.{grows_one, grows_then, fields_then}
use Rattle.document_text.proofs.Parting.{before_metadata, after_metadata}
use Rattle.document_text.proofs.writing.send_document.Goals as goal

pub returns : goal.returns
returns g c =
    let written = g.S.Serializer.written in
    let x = shown_by c.args.d.now in
    let api = codes "apiVersion" in
    let kind = codes "kind" in
    let old = written c.args.out.now in
    let s1 = written c.begin_map.new.self in
    let s2 = written c.send_fields.new.out in
    let s3 = written c.send_text.new.out in
    let s4 = written c.send_fields-2.new.out in
    let s5 = written c.send_text-2.new.out in
    let s6 = written c.send_fields-3.new.out in
    let s7 = written c.key.new.self in
    let s8 = written c.send_metadata.new.out in
    let s9 = written c.send_fields-4.new.out in
    let end = written c.end_map.new.self in
    let behind_api : map pair_of c.parted.result.1.now ≡ after api x.body = c.parted.ensures.after ∙ ap (after api) c.as_slice.ensures.value in
    let behind_kind : map pair_of c.parted-2.result.1.now ≡ after kind (after api x.body) = c.parted-2.ensures.after ∙ ap (after kind) behind_api in
    let first : map pair_of c.parted.result.0.now ≡ before api x.body = c.parted.ensures.before ∙ ap (before api) c.as_slice.ensures.value in
    let second : map pair_of c.parted-2.result.0.now ≡ before kind (after api x.body) = c.parted-2.ensures.before ∙ ap (before kind) behind_api in
    let third : map pair_of c.parted-3.result.0.now ≡ before metadata_name (after kind (after api x.body)) = c.parted-3.ensures.before ∙ ap (before metadata_name) behind_kind in
    let last : map pair_of c.parted-3.result.1.now ≡ after metadata_name (around_meta x) = c.parted-3.ensures.after ∙ ap (after metadata_name) behind_kind ∙ sym (after_metadata x) in
    let f1 : Pairs = before api x.body in
    let f2 : Pairs = before kind (after api x.body) in
    let f3 : Pairs = before metadata_name (after kind (after api x.body)) in
    let own_api = subst (λ bs. Grows (fields_events ((api, text bs) ∷ [])) s2 s3) c.as_str.ensures c.in_ok-send_text.ensures in
    let own_kind = subst (λ bs. Grows (fields_events ((kind, text bs) ∷ [])) s4 s5) c.as_str-2.ensures c.in_ok-send_text-2.ensures in
    let e1 = subst (λ (ps : Pairs). Grows (fields_events ps) s1 s2) first c.in_ok-send_fields.ensures in
    let e2 = subst (λ (ps : Pairs). Grows (fields_events ps) s3 s4) second c.in_ok-send_fields-2.ensures in
    let e3 = subst (λ (ps : Pairs). Grows (fields_events ps) s5 s6) third c.in_ok-send_fields-3.ensures in
    let e4 = subst (λ (ps : Pairs). Grows (fields_events ps) s8 s9) last c.in_ok-send_fields-4.ensures in
    let front = fields_then (f1 ++ ((api, text x.api_version) ∷ f2)) ((kind, text x.kind) ∷ f3) s1 s4 s6
    (fields_then f1 ((api, text x.api_version) ∷ f2) s1 s2 s4 e1 (fields_then ((api, text x.api_version) ∷ []) f2 s2 s3 s4 own_api e2))
    (fields_then ((kind, text x.kind) ∷ []) f3 s4 s5 s6 own_kind e3) in
    let fronts = subst (λ (ps : Pairs). Grows (fields_events ps) s1 s6) (sym (before_metadata x)) front in
    let begins = event.map_begins None in
    let named = event.field_key metadata_name AsIs in
    let tail : List Event = fields_events (after metadata_name (around_meta x)) ++ event.map_ends ∷ [] in
    let inner : List Event = object_events (metadata x.meta) in
    on_ok_weaker c.end_map.result (λ e. grows_then (begins ∷ []) _ old s1 end (grows_one begins _ _ c.in_ok-begin_map.ensures)
    (grows_then (fields_events (before metadata_name (around_meta x))) (named ∷ (inner ++ tail)) s1 s6 end fronts
    (grows_then (named ∷ []) (inner ++ tail) s6 s7 end (grows_one named _ _ c.in_ok-key.ensures)
    (grows_then inner tail s7 s8 end c.in_ok-send_metadata.ensures
    (grows_then (fields_events (after metadata_name (around_meta x))) (event.map_ends ∷ []) s8 s9 end e4 (grows_one event.map_ends _ _ e)))))) c.end_map.ensures
