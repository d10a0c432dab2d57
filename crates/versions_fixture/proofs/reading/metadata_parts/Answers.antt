use Rattle.std.proofs.Common.{rules, ◌≡◌, ◌∙◌, ap, codes, to_z, of_z, w64}
use Rattle.std.specs.Prelude.{option_map, option_and_then}
use Rattle.kj_value.specs.Fields.{Pairs, field}
use Rattle.kube_meta.specs.View.{stamp_bytes}
use Rattle.versions_fixture.specs.Parts.{text_in, number_in}
use Rattle.versions_fixture.specs.DocumentLaws.{field-created, field-deleted, field-generation, field-name, field-namespace}
use Rattle.versions_fixture.proofs.Found.{text_back, number_back}
use Rattle.versions_fixture.proofs.reading.metadata_parts.Goals as goal

pub returns : goal.returns
returns c = λ p stamps is value.
    let name : c.text_or_empty.result.now ≡ p.name = c.text_or_empty.ensures p.name (ap (field (codes "name")) is ∙ field-name p) in
    let namespace : c.text_or_empty-2.result.now ≡ p.namespace = c.text_or_empty-2.ensures p.namespace (ap (field (codes "namespace")) is ∙ field-namespace p) in
    let created : option_map stamp_bytes c.stamp_at.result ≡ p.created =
    c.stamp_at.ensures p.created stamps.created
    (ap (λ (es : Pairs). option_and_then text_in (field (codes "creationTimestamp") es)) is ∙ ap (option_and_then text_in) (field-created p) ∙ text_back p.created) in
    let deleted : option_map stamp_bytes c.stamp_at-2.result ≡ p.deleted =
    c.stamp_at-2.ensures p.deleted stamps.deleted
    (ap (λ (es : Pairs). option_and_then text_in (field (codes "deletionTimestamp") es)) is ∙ ap (option_and_then text_in) (field-deleted p) ∙ text_back p.deleted) in
    let written_back : to_z w64 (of_z w64 c.generation_in.result) ≡ c.generation_in.result = search rules in
    let generation : to_z w64 (of_z w64 c.generation_in.result) ≡ p.generation =
    written_back
    ∙ c.generation_in.ensures
    ∙ ap (λ (es : Pairs). number_in (field (codes "generation") es)) is
    ∙ ap number_in (field-generation p)
    ∙ number_back p.generation in
    λ i. record {
      name = name i;
      namespace = namespace i;
      created = created i;
      deleted = deleted i;
      generation = generation i;
      value = value i;
    }
