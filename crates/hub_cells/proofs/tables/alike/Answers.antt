use Rattle.kj_value.specs.laws.SameLaws.{json_same-Decides}
use Rattle.kj_value.specs.Seen.{json}
use Rattle.struct_schema.specs.laws.LookupLaws.{one_test}
use Rattle.hub_cells.proofs.tables.alike.Goals as goal

pub returns : goal.returns
returns c =
    let d = json_same-Decides (json c.args.a.now) (json c.args.b.now) in
    one_test _ _ (λ h. d.1 (c.same.ensures.0 h)) (λ h. c.same.ensures.1 (d.0 h))
