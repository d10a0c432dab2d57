-- The object that a document submits.
use Rattle.std.proofs.Common.{◌≡◌, ◌∙◌, ℕ, true, Some, None, refl, ap, sym}
use Rattle.std.specs.Prelude.{codes}
use Rattle.kj_value.specs.Json.{Json, object, members_of}
use Rattle.kj_value.specs.Fields.{Pairs, field, without_field}
use Rattle.kube_meta.specs.View.{MetaView, ObjectView}
use Rattle.object_reading.specs.Fields.{given, object_at}
use Rattle.object_reading.specs.Parts.{text_or_empty, parts_in, submitted, object_in}
use Rattle.object_reading.specs.Refusal.{first_holding}
use Rattle.object_reading.proofs.Left.{field-without_other}
use Rattle.object_reading.proofs.Lists.{pairs_members}
use Rattle.crd_meaning.specs.Definition.{Definition}
use Rattle.crd_meaning.specs.Request.{meta_fields}
use Rattle.crd_meaning.specs.Document.{judged_metadata, numberless, IsGiven}
use Rattle.crd_meaning.specs.Converted.{metadata_in}
use Rattle.crd_admission.specs.Steps.{has_kind}
use Rattle.crd_admission.specs.inner.Documents.{IsNamed, numberless_meta}
use Rattle.crd_admission.proofs.DocumentRows.{nothing_early}

-- the object of these metadata and of what is left of a document
abbrev pub with_meta : MetaView → Pairs → ObjectView
with_meta m rest = record {
  api_version = text_or_empty (field (codes "apiVersion") rest);
  kind = text_or_empty (field (codes "kind") rest);
  meta = m;
  body = without_field (codes "apiVersion") (without_field (codes "kind") rest);
}

module _ (d : Definition) (es : Pairs) (v : ℕ) (j : Json) (x : ObjectView) (m : MetaView) (named : IsNamed d v (field (codes "apiVersion") es)) (kind : has_kind d es ≡ true)
    (o : given (Some j) ≡ given (field (codes "metadata") es)) (ms : object_at (Some j) ≡ meta_fields es) where
  submits : m ≡ numberless_meta (object_at (Some j)) → x ≡ with_meta m (without_field (codes "metadata") es) → x ≡ numberless (object_in (object (members_of es)))
  submits e f =
      let rest = without_field (codes "metadata") es in
      let api_version = ap text_or_empty (field-without_other (codes "apiVersion") (codes "metadata") es refl) in
      let kind_is = ap text_or_empty (field-without_other (codes "kind") (codes "metadata") es refl) in
      let meta = e ∙ ap numberless_meta ms in
      let parts : with_meta m rest ≡ numberless (submitted (parts_in es)) =
      λ i. record { api_version = api_version i; kind = kind_is i; meta = meta i; body = without_field (codes "apiVersion") (without_field (codes "kind") rest) } in
      f ∙ parts ∙ sym (ap (λ (fs : Pairs). numberless (submitted (parts_in fs))) (pairs_members es))

  pub is_given : m ≡ numberless_meta (object_at (Some j)) → x ≡ with_meta m (without_field (codes "metadata") es)
      → first_holding (judged_metadata (given (Some j))) ≡ None → IsGiven d (object (members_of es)) v x
  is_given e f h = record {
    nothing = nothing_early d es j named.given kind o ms h;
    known = named.known;
    version = ap (λ (y : ObjectView). y.api_version) f ∙ ap text_or_empty (field-without_other (codes "apiVersion") (codes "metadata") es refl) ∙ named.text;
    object = submits e f;
  }

pub same_metadata : (es : Pairs) (j : Json) → object_at (Some j) ≡ meta_fields es → object_at (Some j) ≡ metadata_in (object (members_of es))
same_metadata es j e = e ∙ sym (ap meta_fields (pairs_members es))
