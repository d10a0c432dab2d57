use Rattle.std.proofs.Common.{◌≡◌, ◌∙◌, [], ◌∷◌, ap, codes, refl, sym, subst}
use Rattle.std.specs.Prelude.{option_map, IfSome}
use Rattle.kj_value.specs.Seen.{json}
use Rattle.kj_value.specs.Fields.{Pairs, field}
use Rattle.kube_meta.specs.View.{ObjectView, meta_of}
use Rattle.object_reading.specs.Fields.{object_at}
use Rattle.object_reading.specs.Parts.{text_or_empty, meta_in, submitted_meta}
use Rattle.object_reading.specs.Written.{IsMoment}
use Rattle.object_reading.proofs.Left.{left, value_of, next_left, still_gone}
use Rattle.object_reading.proofs.Agreeing.{PartsAgree, parts-submitted, parts-whole}
use Rattle.object_reading.proofs.parts.object_of.Goals as goal

pub returns : goal.returns
returns c =
    let es : Pairs = c.args.fields in
    let l1 : c.take.new.fields ≡ left (codes "metadata" ∷ []) es = c.take.ensures.rest in
    let v2 : option_map json c.take-2.result ≡ field (codes "kind") es = value_of (codes "kind") (codes "metadata" ∷ []) es c.take.new.fields _ c.take-2.ensures.value l1 refl in
    let l2 : c.take-2.new.fields ≡ left (codes "kind" ∷ codes "metadata" ∷ []) es = next_left (codes "kind") (codes "metadata" ∷ []) es c.take.new.fields _ c.take-2.ensures.rest l1 in
    let v3 : option_map json c.take-3.result ≡ field (codes "apiVersion") es =
    value_of (codes "apiVersion") (codes "kind" ∷ codes "metadata" ∷ []) es c.take-2.new.fields _ c.take-3.ensures.value l2 refl in
    let l3 : c.take-3.new.fields ≡ left (codes "apiVersion" ∷ codes "kind" ∷ codes "metadata" ∷ []) es =
    next_left (codes "apiVersion") (codes "kind" ∷ codes "metadata" ∷ []) es c.take-2.new.fields _ c.take-3.ensures.rest l2 in
    let metadata : c.fields_of-metadata.result ≡ object_at (field (codes "metadata") es) = c.fields_of-metadata.ensures ∙ ap object_at c.take.ensures.value in
    let x : ObjectView = record {
      api_version = c.text_or_empty-api_version.result.bytes;
      kind = c.text_or_empty-kind.result.bytes;
      meta = meta_of c.in_ok-meta.meta;
      body = c.take-3.new.fields;
    } in
    let agree : PartsAgree x es = record {
      api_version = c.text_or_empty-api_version.ensures ∙ ap text_or_empty v3;
      kind = c.text_or_empty-kind.ensures ∙ ap text_or_empty v2;
      body = l3;
    } in record {
      submitted = parts-submitted x es agree (c.in_ok-meta.ensures.submitted ∙ ap (λ (ms : Pairs). submitted_meta (meta_in ms)) metadata);
      whole = λ created deleted. parts-whole x es agree (
          c.in_ok-meta.ensures.whole
          (subst (λ (ms : Pairs). IfSome (meta_in ms).created IsMoment) (sym metadata) created)
          (subst (λ (ms : Pairs). IfSome (meta_in ms).deleted IsMoment) (sym metadata) deleted)
          ∙ ap meta_in metadata
          );
      body = record {
        api_version = c.take-3.ensures.gone;
        kind = still_gone (codes "kind") (codes "apiVersion") c.take-2.new.fields _ refl c.take-3.ensures.rest c.take-2.ensures.gone;
        metadata = still_gone (codes "metadata") (codes "apiVersion") c.take-2.new.fields _ refl c.take-3.ensures.rest
            (still_gone (codes "metadata") (codes "kind") c.take.new.fields _ refl c.take-2.ensures.rest c.take.ensures.gone);
      };
    }
