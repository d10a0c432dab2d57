use Rattle.crd_settings.proofs.Names.{stored-inside}
use Rattle.crd_settings.proofs.keeping.stored_in.Goals as goal

pub returns-in-Some-Obj : goal.returns-in-Some-Obj
returns-in-Some-Obj c =
    stored-inside c.args.fields.now c.in-Some-Obj.status c.in-Some-Obj.field-0.now _ c.in-Some-Obj.ensures c.in-Some-Obj.field-0-is c.get-in-Some-Obj.ensures
