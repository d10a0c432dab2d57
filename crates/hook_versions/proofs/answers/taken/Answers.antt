use Rattle.std.proofs.Common.{◌≡◌, ◌∙◌, ℕ, List, None, ap, sym, subst}
use Rattle.kj_value.specs.Seen.{json}
use Rattle.kube_meta.specs.View.{meta_of, object_of}
use Rattle.kube_meta.specs.declared.object.Object.{Object}
use Rattle.object_reading.specs.Keeping.{KeepsRules}
use Rattle.object_reading.specs.Written.{IsWritable}
use Rattle.object_reading.specs.Parts.{object_in, whole_in}
use Rattle.object_reading.specs.Refusal.{refusal}
use Rattle.crd_reading.specs.View.{DefinitionView}
use Rattle.hook_versions.specs.inner.Steps.{IsTaken, TakesParts}
use Rattle.hook_versions.proofs.Parts.{parts_taken}
use Rattle.hook_versions.proofs.Results.{some_ok, some_of}
use Rattle.hook_versions.proofs.Uids.{not_given}
use Rattle.hook_versions.proofs.answers.taken.Goals as goal

pub returns-in-Some-clause-taken : goal.returns-in-Some-clause-taken
returns-in-Some-clause-taken c =
    let d = c.args.set.now in
    let x = object_of c.args.x.now in
    let j = json c.args.answer in
    let o = object_of c.in-Some.o in
    let read = some_of Object (λ (p : Object). (refusal c.as_str.result.now j ≡ None) × (object_of p ≡ object_in j) × KeepsRules (meta_of p.meta) × IsWritable (object_of p)) _ c.in-Some.o c.in-Some.is c.in_ok-o.ensures.read in
    let kind : c.as_str.result.now ≡ d.view.kind = c.as_str.ensures ∙ c.kind.ensures ∙ ap (λ (v : DefinitionView). v.kind) c.definition.ensures in
    let accepted : refusal d.view.kind j ≡ None = subst (λ (k : List ℕ). refusal k j ≡ None) kind read.0 in
    let uid = not_given (whole_in j).meta.uid (sym c.has_uid.ensures ∙ c.if-has_uid.false) in
    some_ok (λ y. TakesParts d c.args.v x o (object_of y)) (λ y. IsTaken d x c.args.v j (object_of y)) c.with_parts.result
    (λ y t. parts_taken d c.args.v x j c.requires.sent accepted uid o (object_of y) read.1 read.2 read.3 t) c.with_parts.ensures.taken
