use Rattle.std.proofs.Common.{◌∙◌, sym}
use Rattle.far_laws.proofs.Again.{dump_is_back}
use Rattle.far_laws.proofs.dump_is_back.Goals as goal

pub returns : goal.returns
returns g c = λ it n names honest gives source boot before after written lines is_legal dump limits start told first last none r again count second.
    let known = sym (g.met.V.Versions.told it) ∙ honest in
    dump_is_back (g.V.Versions.meaning it) n honest (g.met.V.Versions.stand it) (g.met.V.Versions.same_key it known) (g.met.V.Versions.names it) (g.met.V.Versions.unstamped it) c.text_reads.ensures
    c.one_reading.ensures names (g.met.V.Versions.one_to_one it known) gives source boot before after written lines is_legal dump limits start told first last none r again count second
