use Rattle.std.proofs.Common.{List, ℕ, Some, ap, sym, ◌∙◌}
use Rattle.kj_value.specs.Seen.{json}
use Rattle.schema_reading.specs.Kind.{is_yes}
use Rattle.crd_settings.specs.Flags.{at_name}
use Rattle.crd_settings.proofs.Marks.{served_read}
use Rattle.crd_settings.proofs.parts.is_served.Goals as goal

pub returns : goal.returns
returns c =
    c.is_yes.ensures
    ∙ (ap is_yes (c.at_name.ensures ∙ ap (λ (n : List ℕ). at_name n (Some (json c.args.v.now))) c.served_name.ensures) ∙ sym (served_read (json c.args.v.now)))
