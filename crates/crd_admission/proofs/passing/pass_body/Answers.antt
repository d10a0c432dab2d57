use Rattle.std.proofs.Common.{◌≡◌, ℕ, ap, subst, true}
use Rattle.std.proofs.lemmas.Result.{err_from_is_err_and}
use Rattle.kj_value.specs.Json.{object, members_of}
use Rattle.kube_meta.specs.View.{ObjectView, object_of}
use Rattle.struct_schema.specs.Shape.{Shape}
use Rattle.struct_schema.specs.ShapeOf.{shape_of}
use Rattle.struct_schema.specs.Valid.{valid}
use Rattle.api_calls.specs.Versions.{request_of}
use Rattle.keep_laws.specs.Spokes.{Spokes}
use Rattle.crd_reading.specs.View.{VersionView}
use Rattle.crd_meaning.specs.Definition.{version_at}
use Rattle.crd_meaning.specs.Request.{rows}
use Rattle.crd_meaning.specs.Admission.{IsFilling}
use Rattle.crd_admission.specs.Steps.{with_rules, plain, RefusesBody, IsFirst, BreaksRule}
use Rattle.crd_admission.proofs.Ready.{IsReady, taken_of, early_refused, broken_refused, passes, passed}
use Rattle.crd_admission.proofs.Refusing.{refused_more}
use Rattle.crd_admission.proofs.passing.pass_body.Goals as goal

pub returns-in_err-fields-clause-refused : goal.returns-in_err-fields-clause-refused
returns-in_err-fields-clause-refused c = λ hub spokes.
    let p = err_from_is_err_and c.from_residual.result c.from_residual.ensures.1 in
    rw (p.1, p.2) (c.in_err-fields.ensures.refused (with_rules c.args.definition.now hub spokes))

pub returns-in_err-before-clause-refused : goal.returns-in_err-before-clause-refused
returns-in_err-before-clause-refused c = λ hub spokes.
    let d = with_rules c.args.definition.now hub spokes in
    let r = request_of c.args.input.now in
    let es = c.in_ok-fields.fields in
    let p = err_from_is_err_and c.from_residual-in_err-before.result c.from_residual-in_err-before.ensures.1 in
    rw (p.1, p.2) (refused_more (IsFirst (rows d r es)) (RefusesBody d r) c.in_err-before.field-0.0 (λ f h. early_refused d r es f c.in_ok-fields.ensures.reads h) c.in_err-before.ensures.refused)

pub returns-in_err-whole-clause-refused : goal.returns-in_err-whole-clause-refused
returns-in_err-whole-clause-refused c = λ hub spokes.
    let d = with_rules c.args.definition.now hub spokes in
    let r = request_of c.args.input.now in
    let s = shape_of c.version_at-version.result.now.schema in
    let same : s ≡ (version_at d r.version).schema = ap (λ (v : VersionView). v.schema) c.version_at-version.ensures in
    let x : ObjectView = object_of c.in_ok-before.before.object in
    let e = c.in_ok-before.before.expected in
    let t = taken_of d r c.in_ok-fields.fields x e c.in_ok-fields.ensures.reads c.in_ok-before.ensures.nothing c.in_ok-before.ensures.object c.in_ok-before.ensures.number in
    let p = err_from_is_err_and c.from_residual-in_err-whole.result c.from_residual-in_err-whole.ensures.1 in
    rw (p.1, p.2) (refused_more (BreaksRule s x) (RefusesBody d r) c.in_err-whole.field-0.0 (λ f h. broken_refused d r x e s f t same h) c.in_err-whole.ensures.refused)

pub returns : goal.returns
returns c =
    let r = request_of c.args.input.now in
    let es = c.in_ok-fields.fields in
    let x : ObjectView = object_of c.in_ok-before.before.object in
    let y : ObjectView = object_of c.in_ok-whole.whole in
    let e = c.in_ok-before.before.expected in
    let same : shape_of c.version_at-version.result.now.schema ≡ (version_at (plain c.args.definition.now) r.version).schema = ap (λ (v : VersionView). v.schema) c.version_at-version.ensures in
    let ready : (hub : ℕ) (spokes : Spokes) → IsReady (with_rules c.args.definition.now hub spokes) r es x y = λ hub spokes. record {
      nothing = c.in_ok-before.ensures.nothing;
      levels = c.in_ok-fields.ensures.levels;
      before = c.in_ok-before.ensures.object;
      rest = c.in_ok-whole.ensures.rest;
      filling = subst (λ (s : Shape). IsFilling s x.body y.body) same c.in_ok-whole.ensures.filling;
      valid = subst (λ (s : Shape). valid s (object (members_of y.body)) ≡ true) same c.in_ok-whole.ensures.valid;
      rules = c.in_ok-before.ensures.rules;
    } in record {
      passes = λ hub spokes.
          let d = with_rules c.args.definition.now hub spokes in
          passes d r es x y (ready hub spokes) e (taken_of d r es x e c.in_ok-fields.ensures.reads c.in_ok-before.ensures.nothing c.in_ok-before.ensures.object c.in_ok-before.ensures.number);
      passed = λ hub spokes.
          let d = with_rules c.args.definition.now hub spokes in
          passed d r es x y (ready hub spokes) c.defaults_in.ensures.own c.defaults_in.ensures.low c.filled_again.ensures c.order_of.ensures.object c.order_of.ensures.labels c.order_of.ensures.owners;
      refused = λ hub spokes. tt;
    }
