use Rattle.std.proofs.Common.{◌≡◌, ◌∙◌, Some, ap}
use Rattle.std.proofs.lemmas.Result.{err_from_is_err_and}
use Rattle.kj_value.specs.Json.{object, members_of}
use Rattle.kj_value.specs.Fields.{Pairs}
use Rattle.kj_value.specs.Seen.{json}
use Rattle.kube_meta.specs.View.{meta_of, object_of}
use Rattle.crd_meaning.specs.Document.{rows, early}
use Rattle.crd_admission.specs.Steps.{IsFirst}
use Rattle.crd_admission.specs.inner.Documents.{IsBadMetadata}
use Rattle.crd_admission.proofs.Refusing.{refused_more}
use Rattle.crd_admission.proofs.DocumentRows.{early_first, bad_metadata}
use Rattle.crd_admission.proofs.SubmittedDocuments.{with_meta, is_given, same_metadata}
use Rattle.crd_admission.proofs.reading.taken.Goals as goal

pub returns-in_err-version-clause-refused : goal.returns-in_err-version-clause-refused
returns-in_err-version-clause-refused c =
    let d = c.args.set.now in
    let es : Pairs = c.args.fields in
    let p = err_from_is_err_and c.from_residual.result c.from_residual.ensures.1 in
    rw (p.1, p.2) (refused_more (IsFirst (rows d es)) (λ f. early d (object (members_of es)) ≡ Some f) c.in_err-version.field-0.0 (λ f h. early_first d es f h) c.in_err-version.ensures.refused)

pub returns-in_err-meta-clause-refused : goal.returns-in_err-meta-clause-refused
returns-in_err-meta-clause-refused c =
    let d = c.args.set.now in
    let es : Pairs = c.args.fields in
    let j = json c.take_metadata-metadata.result in
    let p = err_from_is_err_and c.from_residual-in_err-meta.result c.from_residual-in_err-meta.ensures.1 in
    rw (p.1, p.2) (refused_more (IsBadMetadata j) (λ f. early d (object (members_of es)) ≡ Some f) c.in_err-meta.field-0.0 (λ f h. bad_metadata d es j c.in_ok-version.ensures.named.given c.in_ok-version.ensures.kind c.take_metadata-metadata.ensures.given c.take_metadata-metadata.ensures.fields f h) c.in_err-meta.ensures.refused)

pub returns-clause-given : goal.returns-clause-given
returns-clause-given c =
    let es : Pairs = c.args.fields in
    let m = meta_of c.in_ok-meta.meta in
    is_given c.args.set.now es c.in_ok-version.version (json c.take_metadata-metadata.result) (object_of c.object_with-object.result) m c.in_ok-version.ensures.named c.in_ok-version.ensures.kind c.take_metadata-metadata.ensures.given c.take_metadata-metadata.ensures.fields
    c.in_ok-meta.ensures.meta (c.object_with-object.ensures ∙ ap (with_meta m) c.take_metadata-metadata.ensures.rest) c.in_ok-meta.ensures.nothing

pub returns-clause-metadata : goal.returns-clause-metadata
returns-clause-metadata c = same_metadata c.args.fields (json c.take_metadata-metadata.result) c.take_metadata-metadata.ensures.fields
