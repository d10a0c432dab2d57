-- Metadata whose parts are those of fields.
use Rattle.std.proofs.Common.{◌≡◌, codes}
use Rattle.std.specs.Prelude.{IfSome}
use Rattle.kj_value.specs.Fields.{Pairs, field}
use Rattle.kube_meta.specs.View.{MetaView, ObjectView}
use Rattle.object_reading.specs.Fields.{object_at, list_at, text_at}
use Rattle.object_reading.specs.Parts.{text_or_empty, number_at, texts_in, text_items, meta_in, parts_in, body_in, submitted_meta, submitted}
use Rattle.object_reading.specs.Written.{IsMoment}

pub record Agrees (m : MetaView) (ms : Pairs) : Type 0 where
  pub name : m.name ≡ text_or_empty (field (codes "name") ms)
  pub namespace : m.namespace ≡ text_or_empty (field (codes "namespace") ms)
  pub labels : m.labels ≡ texts_in (object_at (field (codes "labels") ms))
  pub annotations : m.annotations ≡ texts_in (object_at (field (codes "annotations") ms))
  pub finalizers : m.finalizers ≡ text_items (list_at (field (codes "finalizers") ms))
  pub owners : m.owners ≡ list_at (field (codes "ownerReferences") ms)
  pub created : IfSome (text_at (field (codes "creationTimestamp") ms)) IsMoment → m.created ≡ text_at (field (codes "creationTimestamp") ms)
  pub deleted : IfSome (text_at (field (codes "deletionTimestamp") ms)) IsMoment → m.deleted ≡ text_at (field (codes "deletionTimestamp") ms)
  pub generation : m.generation ≡ number_at (field (codes "generation") ms)
  pub resource_version : m.resource_version ≡ text_at (field (codes "resourceVersion") ms)
  pub uid : m.uid ≡ text_at (field (codes "uid") ms)

pub agrees-submitted : (m : MetaView) (ms : Pairs) → Agrees m ms → submitted_meta m ≡ submitted_meta (meta_in ms)
unfolding meta_in
agrees-submitted m ms a =
    λ i. submitted_meta (record m {
      name = a.name i;
      namespace = a.namespace i;
      labels = a.labels i;
      annotations = a.annotations i;
      finalizers = a.finalizers i;
      owners = a.owners i;
      resource_version = a.resource_version i;
    })

pub agrees-whole : (m : MetaView) (ms : Pairs) → Agrees m ms → IfSome (meta_in ms).created IsMoment → IfSome (meta_in ms).deleted IsMoment → m ≡ meta_in ms
unfolding meta_in
agrees-whole m ms a c d = λ i. record {
  name = a.name i;
  namespace = a.namespace i;
  labels = a.labels i;
  annotations = a.annotations i;
  finalizers = a.finalizers i;
  owners = a.owners i;
  created = a.created c i;
  deleted = a.deleted d i;
  generation = a.generation i;
  resource_version = a.resource_version i;
  uid = a.uid i;
}

pub record PartsAgree (x : ObjectView) (es : Pairs) : Type 0 where
  pub api_version : x.api_version ≡ text_or_empty (field (codes "apiVersion") es)
  pub kind : x.kind ≡ text_or_empty (field (codes "kind") es)
  pub body : x.body ≡ body_in es

pub parts-submitted : (x : ObjectView) (es : Pairs) → PartsAgree x es → submitted_meta x.meta ≡ submitted_meta (parts_in es).meta → submitted x ≡ submitted (parts_in es)
parts-submitted x es a m = λ i. record { api_version = a.api_version i; kind = a.kind i; meta = m i; body = a.body i }

pub parts-whole : (x : ObjectView) (es : Pairs) → PartsAgree x es → x.meta ≡ (parts_in es).meta → x ≡ parts_in es
parts-whole x es a m = λ i. record { api_version = a.api_version i; kind = a.kind i; meta = m i; body = a.body i }
