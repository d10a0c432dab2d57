use Rattle.std.proofs.Common.{ap}
use Rattle.kj_value.specs.Seen.{json}
use Rattle.kj_value.specs.declared.reading.TheConstants.{MAX_JSON_LEVELS}
use Rattle.drill_requests.proofs.Reading.{with_port, within}
use Rattle.drill_requests.proofs.replies.edit.Goals as goal

pub returns-in_ok-set_port-in-Obj-clause-edited : goal.returns-in_ok-set_port-in-Obj-clause-edited
returns-in_ok-set_port-in-Obj-clause-edited c =
    with_port c.args.value (json c.args.got) c.in-Obj.fields c.in_ok-set_port-in-Obj.field-0 (ap json c.in-Obj.is) c.in_ok-set_port-in-Obj.ensures

pub returns-in_ok-set_port-in-Obj-clause-depth : goal.returns-in_ok-set_port-in-Obj-clause-depth
returns-in_ok-set_port-in-Obj-clause-depth c =
    within c.args.value MAX_JSON_LEVELS (json c.args.got) c.in-Obj.fields c.in_ok-set_port-in-Obj.field-0 (ap json c.in-Obj.is) c.in_ok-set_port-in-Obj.ensures c.requires
