use Rattle.std.proofs.Common.{◌∙◌, sym}
use Rattle.far_laws.proofs.Again.{dumps_alike}
use Rattle.far_laws.proofs.dumps_alike.Goals as goal

pub returns : goal.returns
returns g c = λ it n honest limits boot before after written lines is_legal dump others start first last again count is_legal_too second same.
    let known = sym (g.met.V.Versions.told it) ∙ honest in
    dumps_alike (g.V.Versions.meaning it) n honest (g.met.V.Versions.stand it) (g.met.V.Versions.same_key it known) (g.met.V.Versions.names it) (g.met.V.Versions.unstamped it) c.text_reads.ensures
    c.one_reading.ensures (g.met.V.Versions.one_to_one it known) limits boot before after written lines is_legal dump others start first last again count is_legal_too second same
