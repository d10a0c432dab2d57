use Rattle.std.proofs.Common.{Some, option_map, refl}
use Rattle.kj_value.specs.Seen.{json}
use Rattle.setting_texts.proofs.Starting.{inside-of}
use Rattle.setting_texts.proofs.start_body.value_at.Goals as goal

pub returns-in-Obj : goal.returns-in-Obj
returns-in-Obj c =
    inside-of c.args.name.now (Some (json c.args.v.now)) (option_map (λ w. json w.now) c.get.result) c.args.v.now c.in-Obj.fields refl c.in-Obj.is c.get.ensures
