use Rattle.std.proofs.Common.{rules, ◌≡◌, ◌∙◌, List, ℕ, [], ◌∷◌, Option, ap, codes, refl, sym, subst, to_z, of_z, w64}
use Rattle.std.specs.Prelude.{option_map, IfSome}
use Rattle.kj_value.specs.Json.{Json}
use Rattle.kj_value.specs.Seen.{json}
use Rattle.kj_value.specs.Fields.{Pairs, field}
use Rattle.kj_value.specs.Texts.{bytes_of}
use Rattle.kube_meta.specs.View.{MetaView, stamp_bytes}
use Rattle.object_reading.specs.Fields.{object_at, list_at, text_at}
use Rattle.object_reading.specs.Parts.{text_or_empty, number_at, texts_in, text_items}
use Rattle.object_reading.specs.Written.{IsMoment}
use Rattle.object_reading.proofs.Left.{left, value_of, next_left}
use Rattle.object_reading.proofs.Agreeing.{Agrees, agrees-submitted, agrees-whole}
use Rattle.object_reading.proofs.parts.meta_of.Goals as goal

-- a part that is read of a value
moved : {A : Type 0} (read : Option Json → A) (made : A) (o p : Option Json) → made ≡ read o → o ≡ p → made ≡ read p
moved read made o p e f = e ∙ ap read f

moment : (made : Option (List ℕ)) (o p : Option Json) → (IfSome (text_at o) IsMoment → made ≡ text_at o) → o ≡ p → IfSome (text_at p) IsMoment → made ≡ text_at p
moment made o p e f h = e (subst (λ (q : Option Json). IfSome (text_at q) IsMoment) (sym f) h) ∙ ap text_at f

pub returns : goal.returns
returns c =
    let es : Pairs = c.args.fields in
    let v1 : option_map json c.remove.result ≡ field (codes "uid") es = value_of (codes "uid") [] es es _ c.remove.ensures.value refl refl in
    let l1 : c.remove.new.self ≡ left (codes "uid" ∷ []) es = next_left (codes "uid") [] es es _ c.remove.ensures.fields refl in
    let v2 : option_map json c.remove-2.result ≡ field (codes "resourceVersion") es = value_of (codes "resourceVersion") (codes "uid" ∷ []) es c.remove.new.self _ c.remove-2.ensures.value l1 refl in
    let l2 : c.remove-2.new.self ≡ left (codes "resourceVersion" ∷ codes "uid" ∷ []) es = next_left (codes "resourceVersion") (codes "uid" ∷ []) es c.remove.new.self _ c.remove-2.ensures.fields l1 in
    let v3 : option_map json c.remove-3.result ≡ field (codes "ownerReferences") es = value_of (codes "ownerReferences") (codes "resourceVersion" ∷ codes "uid" ∷ []) es c.remove-2.new.self _ c.remove-3.ensures.value l2 refl in
    let l3 : c.remove-3.new.self ≡ left (codes "ownerReferences" ∷ codes "resourceVersion" ∷ codes "uid" ∷ []) es = next_left (codes "ownerReferences") (codes "resourceVersion" ∷ codes "uid" ∷ []) es c.remove-2.new.self _ c.remove-3.ensures.fields l2 in
    let v4 : option_map json c.remove-4.result ≡ field (codes "namespace") es = value_of (codes "namespace") (codes "ownerReferences" ∷ codes "resourceVersion" ∷ codes "uid" ∷ []) es c.remove-3.new.self _ c.remove-4.ensures.value l3 refl in
    let l4 : c.remove-4.new.self ≡ left (codes "namespace" ∷ codes "ownerReferences" ∷ codes "resourceVersion" ∷ codes "uid" ∷ []) es = next_left (codes "namespace") (codes "ownerReferences" ∷ codes "resourceVersion" ∷ codes "uid" ∷ []) es c.remove-3.new.self _ c.remove-4.ensures.fields l3 in
    let v5 : option_map json c.remove-5.result ≡ field (codes "name") es = value_of (codes "name") (codes "namespace" ∷ codes "ownerReferences" ∷ codes "resourceVersion" ∷ codes "uid" ∷ []) es c.remove-4.new.self _ c.remove-5.ensures.value l4 refl in
    let l5 : c.remove-5.new.self ≡ left (codes "name" ∷ codes "namespace" ∷ codes "ownerReferences" ∷ codes "resourceVersion" ∷ codes "uid" ∷ []) es = next_left (codes "name") (codes "namespace" ∷ codes "ownerReferences" ∷ codes "resourceVersion" ∷ codes "uid" ∷ []) es c.remove-4.new.self _ c.remove-5.ensures.fields l4 in
    let v6 : option_map json c.remove-6.result ≡ field (codes "labels") es = value_of (codes "labels") (codes "name" ∷ codes "namespace" ∷ codes "ownerReferences" ∷ codes "resourceVersion" ∷ codes "uid" ∷ []) es c.remove-5.new.self _ c.remove-6.ensures.value l5 refl in
    let l6 : c.remove-6.new.self ≡ left (codes "labels" ∷ codes "name" ∷ codes "namespace" ∷ codes "ownerReferences" ∷ codes "resourceVersion" ∷ codes "uid" ∷ []) es = next_left (codes "labels") (codes "name" ∷ codes "namespace" ∷ codes "ownerReferences" ∷ codes "resourceVersion" ∷ codes "uid" ∷ []) es c.remove-5.new.self _ c.remove-6.ensures.fields l5 in
    let v7 : option_map json c.remove-7.result ≡ field (codes "generation") es = value_of (codes "generation") (codes "labels" ∷ codes "name" ∷ codes "namespace" ∷ codes "ownerReferences" ∷ codes "resourceVersion" ∷ codes "uid" ∷ []) es c.remove-6.new.self _ c.remove-7.ensures.value l6 refl in
    let l7 : c.remove-7.new.self ≡ left (codes "generation" ∷ codes "labels" ∷ codes "name" ∷ codes "namespace" ∷ codes "ownerReferences" ∷ codes "resourceVersion" ∷ codes "uid" ∷ []) es = next_left (codes "generation") (codes "labels" ∷ codes "name" ∷ codes "namespace" ∷ codes "ownerReferences" ∷ codes "resourceVersion" ∷ codes "uid" ∷ []) es c.remove-6.new.self _ c.remove-7.ensures.fields l6 in
    let v8 : option_map json c.remove-8.result ≡ field (codes "finalizers") es = value_of (codes "finalizers") (codes "generation" ∷ codes "labels" ∷ codes "name" ∷ codes "namespace" ∷ codes "ownerReferences" ∷ codes "resourceVersion" ∷ codes "uid" ∷ []) es c.remove-7.new.self _ c.remove-8.ensures.value l7 refl in
    let l8 : c.remove-8.new.self ≡ left (codes "finalizers" ∷ codes "generation" ∷ codes "labels" ∷ codes "name" ∷ codes "namespace" ∷ codes "ownerReferences" ∷ codes "resourceVersion" ∷ codes "uid" ∷ []) es = next_left (codes "finalizers") (codes "generation" ∷ codes "labels" ∷ codes "name" ∷ codes "namespace" ∷ codes "ownerReferences" ∷ codes "resourceVersion" ∷ codes "uid" ∷ []) es c.remove-7.new.self _ c.remove-8.ensures.fields l7 in
    let v9 : option_map json c.remove-9.result ≡ field (codes "deletionTimestamp") es = value_of (codes "deletionTimestamp") (codes "finalizers" ∷ codes "generation" ∷ codes "labels" ∷ codes "name" ∷ codes "namespace" ∷ codes "ownerReferences" ∷ codes "resourceVersion" ∷ codes "uid" ∷ []) es c.remove-8.new.self _ c.remove-9.ensures.value l8 refl in
    let l9 : c.remove-9.new.self ≡ left (codes "deletionTimestamp" ∷ codes "finalizers" ∷ codes "generation" ∷ codes "labels" ∷ codes "name" ∷ codes "namespace" ∷ codes "ownerReferences" ∷ codes "resourceVersion" ∷ codes "uid" ∷ []) es = next_left (codes "deletionTimestamp") (codes "finalizers" ∷ codes "generation" ∷ codes "labels" ∷ codes "name" ∷ codes "namespace" ∷ codes "ownerReferences" ∷ codes "resourceVersion" ∷ codes "uid" ∷ []) es c.remove-8.new.self _ c.remove-9.ensures.fields l8 in
    let v10 : option_map json c.remove-10.result ≡ field (codes "creationTimestamp") es = value_of (codes "creationTimestamp") (codes "deletionTimestamp" ∷ codes "finalizers" ∷ codes "generation" ∷ codes "labels" ∷ codes "name" ∷ codes "namespace" ∷ codes "ownerReferences" ∷ codes "resourceVersion" ∷ codes "uid" ∷ []) es c.remove-9.new.self _ c.remove-10.ensures.value l9 refl in
    let l10 : c.remove-10.new.self ≡ left (codes "creationTimestamp" ∷ codes "deletionTimestamp" ∷ codes "finalizers" ∷ codes "generation" ∷ codes "labels" ∷ codes "name" ∷ codes "namespace" ∷ codes "ownerReferences" ∷ codes "resourceVersion" ∷ codes "uid" ∷ []) es = next_left (codes "creationTimestamp") (codes "deletionTimestamp" ∷ codes "finalizers" ∷ codes "generation" ∷ codes "labels" ∷ codes "name" ∷ codes "namespace" ∷ codes "ownerReferences" ∷ codes "resourceVersion" ∷ codes "uid" ∷ []) es c.remove-9.new.self _ c.remove-10.ensures.fields l9 in
    let v11 : option_map json c.remove-11.result ≡ field (codes "annotations") es = value_of (codes "annotations") (codes "creationTimestamp" ∷ codes "deletionTimestamp" ∷ codes "finalizers" ∷ codes "generation" ∷ codes "labels" ∷ codes "name" ∷ codes "namespace" ∷ codes "ownerReferences" ∷ codes "resourceVersion" ∷ codes "uid" ∷ []) es c.remove-10.new.self _ c.remove-11.ensures.value l10 refl in
    let written_back : to_z w64 (of_z w64 c.number_of-generation.result) ≡ c.number_of-generation.result = search rules in
    let m : MetaView = record {
      name = c.text_or_empty-name.result.bytes;
      namespace = c.text_or_empty-namespace.result.bytes;
      labels = c.in_ok-labels.labels;
      annotations = c.in_ok-annotations.annotations;
      finalizers = c.in_ok-finalizers.finalizers;
      owners = c.items_of-owners.result;
      created = option_map stamp_bytes c.stamp_of-created.result;
      deleted = option_map stamp_bytes c.stamp_of-deleted.result;
      generation = to_z w64 (of_z w64 c.number_of-generation.result);
      resource_version = option_map bytes_of c.text_of-resource_version.result;
      uid = option_map bytes_of c.text_of-uid.result;
    } in
    let agrees : Agrees m es = record {
      name = moved text_or_empty _ _ _ c.text_or_empty-name.ensures v5;
      namespace = moved text_or_empty _ _ _ c.text_or_empty-namespace.ensures v4;
      labels = moved (λ (o : Option Json). texts_in (object_at o)) _ _ _ c.in_ok-labels.ensures v6;
      annotations = moved (λ (o : Option Json). texts_in (object_at o)) _ _ _ c.in_ok-annotations.ensures v11;
      finalizers = moved (λ (o : Option Json). text_items (list_at o)) _ _ _ c.in_ok-finalizers.ensures v8;
      owners = moved list_at _ _ _ c.items_of-owners.ensures v3;
      created = moment _ _ _ c.stamp_of-created.ensures v10;
      deleted = moment _ _ _ c.stamp_of-deleted.ensures v9;
      generation = moved number_at _ _ _ (written_back ∙ c.number_of-generation.ensures) v7;
      resource_version = moved text_at _ _ _ c.text_of-resource_version.ensures v2;
      uid = moved text_at _ _ _ c.text_of-uid.ensures v1;
    } in record {
      submitted = agrees-submitted m es agrees;
      whole = agrees-whole m es agrees;
    }
