use Rattle.std.proofs.Common.{◌≡◌, ◌∙◌, ℕ, true, false, codes, sym, subst}
use Rattle.std.specs.Prelude.{option_map, is_some}
use Rattle.kj_value.specs.declared.rule.Rule.TheVariants as rule
use Rattle.kube_meta.specs.Names.{is_name}
use Rattle.kube_meta.specs.View.{ObjectView}
use Rattle.api_calls.specs.Meaning.{Weighs}
use Rattle.api_calls.specs.Versions.{request_of}
use Rattle.versions_fixture.specs.Parts.{object_at}
use Rattle.versions_fixture.specs.Definition.{no_name, no_number, placed, two_names}
use Rattle.versions_fixture.specs.Laws.{weighs}
use Rattle.versions_fixture.specs.declared.parts.Version.TheVariants.{V1}
use Rattle.versions_fixture.proofs.Refusing.{refused_by, some_mapped}
use Rattle.versions_fixture.proofs.admission.entered.Goals as goal

pub returns-then-not-name_ok-clause-refused : goal.returns-then-not-name_ok-clause-refused
returns-then-not-name_ok-clause-refused c =
    let unnamed : is_name c.args.p.now.name.now ≡ false = sym c.name_ok.ensures ∙ c.if-not-name_ok.true in
    refused_by (request_of c.args.input.now) c.args.p.now.name.now (codes "metadata.name") rule.Name c.in_ok-invalid.field-0 c.in_ok-invalid.ensures
    (λ cause is. record { value = option_map (λ s. s.now) c.args.p.now.value; submits = c.requires.submits; breaks = no_name unnamed is })

pub returns-then-is_some-clause-refused : goal.returns-then-is_some-clause-refused
returns-then-is_some-clause-refused c =
    let named : is_name c.args.p.now.name.now ≡ true = sym c.name_ok.ensures ∙ c.if-not-name_ok.false in
    let there : is_some c.args.input.now.name ≡ true = sym c.is_some.ensures ∙ c.if-is_some.true in
    refused_by (request_of c.args.input.now) c.args.p.now.name.now (codes "metadata.resourceVersion") rule.Required c.in_ok-invalid-2.field-0 c.in_ok-invalid-2.ensures
    (λ cause is. record {
      value = option_map (λ s. s.now) c.args.p.now.value;
      submits = c.requires.submits;
      breaks = no_number named (some_mapped c.args.input.now.name there) is;
    })

pub returns-clause-weight : goal.returns-clause-weight
returns-clause-weight c =
    let parts = placed c.args.input.now.ns.now c.args.p.now.name.now (option_map (λ s. s.now) c.args.p.now.value) in
    subst (λ (x : ObjectView). Weighs two_names x c.in_ok-weight.weight) (sym c.in_ok-hub.ensures)
    (subst (λ (w : ℕ). Weighs two_names (object_at V1 parts) w) (sym c.in_ok-weight.ensures) (weighs parts))
