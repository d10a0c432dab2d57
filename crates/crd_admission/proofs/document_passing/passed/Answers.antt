use Rattle.std.proofs.Common.{◌≡◌, Some, ap, subst, true}
use Rattle.std.proofs.lemmas.Result.{err_from_is_err_and}
use Rattle.kj_value.specs.Json.{object, members_of}
use Rattle.kj_value.specs.Fields.{Pairs}
use Rattle.kube_meta.specs.View.{ObjectView, object_of}
use Rattle.struct_schema.specs.Shape.{Shape}
use Rattle.struct_schema.specs.ShapeOf.{shape_of}
use Rattle.struct_schema.specs.Valid.{valid}
use Rattle.crd_reading.specs.View.{VersionView}
use Rattle.crd_meaning.specs.Admission.{IsFilling}
use Rattle.crd_meaning.specs.Converted.{schema_at}
use Rattle.crd_meaning.specs.Document.{early}
use Rattle.crd_meaning.specs.Unconverted.{IsUnconverted}
use Rattle.crd_admission.specs.Steps.{BreaksRule}
use Rattle.crd_admission.proofs.PassedDocuments.{passes, of_version, early_refused, broken_refused}
use Rattle.crd_admission.proofs.Refusing.{refused_more}
use Rattle.crd_admission.proofs.document_passing.passed.Goals as goal

pub defaults_of-requires : goal.defaults_of-requires
defaults_of-requires c = c.in_ok-before.ensures.given.known

pub returns-in_err-before-clause-refused : goal.returns-in_err-before-clause-refused
returns-in_err-before-clause-refused c =
    let d = c.args.set.now in
    let j = object (members_of c.args.fields) in
    let p = err_from_is_err_and c.from_residual.result c.from_residual.ensures.1 in
    rw (p.1, p.2) (refused_more (λ f. early d j ≡ Some f) (IsUnconverted d j) c.in_err-before.field-0.0 (λ f h. early_refused d j f h) c.in_err-before.ensures.refused)

pub returns-in_err-object-clause-refused : goal.returns-in_err-object-clause-refused
returns-in_err-object-clause-refused c =
    let d = c.args.set.now in
    let j = object (members_of c.args.fields) in
    let v = c.in_ok-before.before.version in
    let s = shape_of c.version-schema.result.now.schema in
    let same : s ≡ schema_at d v = ap (λ (w : VersionView). w.schema) c.version-schema.ensures in
    let x : ObjectView = object_of c.in_ok-before.before.object in
    let p = err_from_is_err_and c.from_residual-in_err-object.result c.from_residual-in_err-object.ensures.1 in
    rw (p.1, p.2) (refused_more (BreaksRule s x) (IsUnconverted d j) c.in_err-object.field-0.0 (λ f h. broken_refused d j v x s f c.in_ok-before.ensures.given same h) c.in_err-object.ensures.refused)

pub returns : goal.returns
returns c =
    let d = c.args.set.now in
    let es : Pairs = c.args.fields in
    let v = c.in_ok-before.before.version in
    let x : ObjectView = object_of c.in_ok-before.before.object in
    let y : ObjectView = object_of c.in_ok-object.object in
    let same : shape_of c.version-schema.result.now.schema ≡ schema_at d v = ap (λ (w : VersionView). w.schema) c.version-schema.ensures in
    let filling : IsFilling (schema_at d v) x.body y.body = subst (λ (s : Shape). IsFilling s x.body y.body) same c.in_ok-object.ensures.filling in
    let sound : valid (schema_at d v) (object (members_of y.body)) ≡ true = subst (λ (s : Shape). valid s (object (members_of y.body)) ≡ true) same c.in_ok-object.ensures.valid in record {
      passed = passes d es v x y c.in_ok-before.ensures.given filling c.in_ok-object.ensures.rest sound;
      version = of_version d es v x y c.in_ok-before.ensures.given filling c.in_ok-object.ensures.rest sound c.filled_again.ensures c.filled_depth.ensures c.defaults_of.ensures.own c.defaults_of.ensures.low c.requires;
      metadata = c.in_ok-before.ensures.metadata;
      refused = tt;
    }
