use Rattle.std.proofs.Common.{◌≡◌, ◌∙◌, ◌++◌, ◌∷◌, ℕ, List, ap, sym}
use Rattle.keep_laws.specs.Spokes.{slash, api_version}
use Rattle.crd_versions.specs.Set.{definition_of}
use Rattle.review_batch.proofs.Versions.{version_found}
use Rattle.review_batch.proofs.answering.version_of.Goals as goal

pub returns-in-Some-strip_prefix : goal.returns-in-Some-strip_prefix
returns-in-Some-strip_prefix c =
    let o = c.in-Some.ensures.cases in
    let n = c.in-Some-strip_prefix.ensures.cases in
    let name : List ℕ = c.in-Some-strip_prefix.name.now in
    let e : c.as_str.result.now ≡ c.args.set.now.set.view.group = c.as_str.ensures ∙ c.group-group.ensures in
    let rest : c.in-Some.rest.now ≡ slash ∷ name = n.1.1 ∙ ap (λ (x : List ℕ). slash ∷ x) (sym n.2) in
    let is : c.args.text.now ≡ api_version c.args.set.now.set.view.group name =
    o.1.1 ∙ (ap (λ (r : List ℕ). c.as_str.result.now ++ r) (sym o.2 ∙ rest) ∙ ap (λ (g : List ℕ). g ++ slash ∷ name) e) in
    version_found (definition_of c.args.set.now) c.args.text.now name c.find.result is c.find.ensures
