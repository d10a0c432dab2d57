-- The document of an object that keeps the rules is accepted, and read back.
use Rattle.std.proofs.Common.{◌≡◌, ◌∙◌, Option, Some, None, Bool, not, codes, ap, refl, sym, subst}
use Rattle.std.specs.Str.{bytes_eq}
use Rattle.std.proofs.lemmas.Slice.Eq.{bytes_eq-Decides}
use Rattle.kj_value.specs.Json.{Json, members_of}
use Rattle.kj_value.specs.Fields.{Pairs, field}
use Rattle.kube_meta.specs.View.{ObjectView}
use Rattle.kube_meta.specs.Document.{metadata, document}
use Rattle.object_reading.specs.Fields.{pairs_of, given}
use Rattle.object_reading.specs.Rules.{any_text}
use Rattle.object_reading.specs.Refusal.{first_holding, judged, judged_metadata, judged_fields, is_given_text, refusal}
use Rattle.object_reading.specs.Parts.{parts_in, whole_in}
use Rattle.object_reading.specs.Written.{IsWritable}
use Rattle.object_reading.specs.Keeping.{KeepsRules}
use Rattle.object_reading.proofs.Lists.{pairs_members}
use Rattle.object_reading.proofs.Holding.{NoneHolds, none_first}
use Rattle.object_reading.proofs.Keeping.{metadata_keep}
use Rattle.object_reading.proofs.Documents.{fields, meta_object, document-fields, document_back, found_version, found_kind, found_metadata}

metadata_judged : (x : ObjectView) → KeepsRules x.meta → NoneHolds (judged_metadata (given (field (codes "metadata") (fields x))))
metadata_judged x h =
    let found : given (field (codes "metadata") (fields x)) ≡ Some (meta_object x) = ap given (found_metadata x) in
    let plain : NoneHolds (judged_fields (pairs_of (members_of (metadata x.meta)))) =
    subst (λ (ms : Pairs). NoneHolds (judged_fields ms)) (sym (pairs_members (metadata x.meta))) (metadata_keep x.meta h) in
    subst (λ (o : Option Json). NoneHolds (judged_metadata o)) (sym found) (refl, plain)

none_judged : (x : ObjectView) → KeepsRules x.meta → NoneHolds (judged x.kind (fields x))
none_judged x h =
    let kind : Option Json → Bool = is_given_text (λ s. bytes_eq s x.kind) in (
      ap (λ (o : Option Json). not (is_given_text any_text o)) (found_version x),
      (
        ap (λ (o : Option Json). not (kind o)) (found_kind x) ∙ ap not ((bytes_eq-Decides x.kind x.kind).1 refl),
        metadata_judged x h,
      ),
    )

pub accepted : (x : ObjectView) → KeepsRules x.meta → refusal x.kind (document x) ≡ None
unfolding refusal
accepted x h =
    ap (refusal x.kind) (document-fields x)
    ∙ ap (λ (es : Pairs). first_holding (judged x.kind es)) (pairs_members (fields x))
    ∙ none_first (judged x.kind (fields x)) (none_judged x h)

pub read_back : (x : ObjectView) → IsWritable x → whole_in (document x) ≡ x
read_back x w =
    ap whole_in (document-fields x)
    ∙ ap parts_in (pairs_members (fields x))
    ∙ document_back x (fields x) w (sym (document-fields x))
