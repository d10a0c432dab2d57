use Rattle.std.proofs.Common.{◌∙◌, sym}
use Rattle.run_laws.proofs.tallies.Formed.{page_form}
use Rattle.run_laws.proofs.tallies.page_has_form.Goals as goal

pub returns : goal.returns
returns g c = λ it n boot number left v es js token group version honest kept shown few.
    page_form (g.V.Versions.meaning it) (g.met.V.Versions.stand it) (g.met.V.Versions.same_key it (sym (g.met.V.Versions.told it) ∙ honest)) honest n group boot number left v es js token version kept shown few
