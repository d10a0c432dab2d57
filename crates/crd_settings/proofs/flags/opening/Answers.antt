use Rattle.std.proofs.Common.{Some, ap, sym, subst, length, ◌∙◌}
use Rattle.kj_value.specs.Json.{Json}
use Rattle.api_calls.specs.Versions.{AreFlags}
use Rattle.api_calls.specs.declared.flags.Flags.{Flags}
use Rattle.crd_reading.specs.Spelled.{items_in}
use Rattle.crd_settings.specs.Flags.{at_name, versions_name}
use Rattle.crd_settings.proofs.Compared.{few-loaded, flags-loaded, legal-loaded}
use Rattle.crd_settings.proofs.flags.opening.Goals as goal

pub flags_in-requires : goal.flags_in-requires
flags_in-requires c =
    few-loaded c.args.definition.now c.versions_in.result.now c.kept.ensures
    (c.versions_in.ensures ∙ ap (λ (j : Json). items_in (at_name versions_name (Some j))) c.spec.ensures)

pub returns-clause-flags : goal.returns-clause-flags
returns-clause-flags c =
    c.flags_in.ensures
    ∙ flags-loaded c.args.definition.now c.versions_in.result.now c.kept.ensures
    (c.versions_in.ensures ∙ ap (λ (j : Json). items_in (at_name versions_name (Some j))) c.spec.ensures)

pub returns-clause-legal : goal.returns-clause-legal
returns-clause-legal c =
    subst (λ (f : Flags). AreFlags (length c.args.definition.now.versions) f)
    (sym (c.flags_in.ensures
    ∙ flags-loaded c.args.definition.now c.versions_in.result.now c.kept.ensures
    (c.versions_in.ensures ∙ ap (λ (j : Json). items_in (at_name versions_name (Some j))) c.spec.ensures)))
    (legal-loaded c.args.definition.now c.kept.ensures)
