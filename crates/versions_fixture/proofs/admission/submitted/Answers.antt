use Rattle.std.proofs.Common.{◌≡◌, ◌∙◌, ap, sym, arith}
use Rattle.std.proofs.lemmas.Bool.{true≢false}
use Rattle.kj_value.specs.Seen.{json}
use Rattle.kube_meta.specs.Document.{document}
use Rattle.versions_fixture.specs.Parts.{PartsView, bare, object_at, parts_of}
use Rattle.versions_fixture.proofs.admission.submitted.Goals as goal

pub returns : goal.returns
returns c = λ name value is.
    let found : parts_of c.in-Some.found ≡ bare name value =
    c.in-Some.ensures (bare name value) (record { created = tt; deleted = tt; generation = omega arith }) is in
    let same : json c.in_ok-document.document ≡ json c.args.v.now =
    c.in_ok-document.ensures.value
    ∙ ap (λ (p : PartsView). document (object_at c.args.version (bare p.name p.value))) found
    ∙ sym is in
    true≢false (sym (c.same.ensures.1 same) ∙ c.if-same.false)

pub returns-in_default : goal.returns-in_default
returns-in_default c = λ name value is.
    c.in_default.ensures (bare name value) (record { created = tt; deleted = tt; generation = omega arith }) is
