use Rattle.std.proofs.Common.{◌≡◌, ◌∙◌, ℕ, List, ◌∷◌, ◌++◌, Some, None, bytes_eq, ap, sym}
use Rattle.std.proofs.lemmas.Bool.Decides.{Decides-eqb}
use Rattle.std.proofs.lemmas.Slice.Eq.{strip_prefix_is}
use Rattle.keep_laws.specs.Spokes.{slash}
use Rattle.crd_admission.proofs.VersionTexts.{other_front, same_front}
use Rattle.crd_admission.proofs.version_texts.is_version_text.Goals as goal

pub returns-in-Some : goal.returns-in-Some
returns-in-Some c =
    let rest : List ℕ = c.in-Some.rest.now in
    let cut = strip_prefix_is Decides-eqb c.as_bytes.result.now c.as_bytes-2.result.now (Some c.in-Some.rest) c.in-Some.ensures.cases in
    let text : c.args.text.now ≡ c.args.group.now ++ rest = sym c.as_bytes.ensures.value ∙ cut ∙ ap (λ (front : List ℕ). front ++ rest) c.as_bytes-2.ensures.value in
    c.is_behind_slash.ensures
    ∙ ap (λ (version : List ℕ). bytes_eq rest (slash ∷ version)) c.as_bytes-in-Some.ensures.value
    ∙ same_front c.args.text.now c.args.group.now rest (slash ∷ c.args.version.now) text

pub returns-in-None : goal.returns-in-None
returns-in-None c =
    let other = strip_prefix_is Decides-eqb c.as_bytes.result.now c.as_bytes-2.result.now None c.in-None.ensures.cases in
    other_front c.args.text.now c.args.group.now (slash ∷ c.args.version.now) (λ r e. other r (c.as_bytes.ensures.value ∙ e ∙ ap (λ (front : List ℕ). front ++ r) (sym c.as_bytes-2.ensures.value)))
