use Rattle.std.proofs.Common.{◌∙◌, sym}
use Rattle.run_laws.proofs.tallies.Formed.{object_form}
use Rattle.run_laws.proofs.tallies.shown_has_form.Goals as goal

pub returns : goal.returns
returns g c = λ it n boot number born v h x group version honest kept key pairs few.
    object_form (g.V.Versions.meaning it) (g.met.V.Versions.stand it) (g.met.V.Versions.same_key it (sym (g.met.V.Versions.told it) ∙ honest)) honest n group boot number born v h x version kept key pairs few
