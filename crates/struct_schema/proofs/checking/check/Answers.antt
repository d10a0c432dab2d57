use Rattle.std.proofs.Common.{Option, sym, ap, ◌∙◌}
use Rattle.std.specs.Prelude.{is_none}
use Rattle.kj_value.specs.Seen.{json}
use Rattle.struct_schema.specs.ShapeOf.{shape_of}
use Rattle.struct_schema.specs.Fault.{Fault}
use Rattle.struct_schema.proofs.Agrees.{agrees}
use Rattle.struct_schema.proofs.Walk.{stops_invalid, starved_names, found_names}
use Rattle.struct_schema.proofs.checking.check.Goals as goal

pub returns-in-Ok-clause-valid : goal.returns-in-Ok-clause-valid
returns-in-Ok-clause-valid c =
    sym (agrees (shape_of c.args.s.now) (json c.args.v.now)) ∙ ap (λ (o : Option Fault). is_none o) c.in-Ok.ensures

pub returns-in-Err-Starved-clause-refused : goal.returns-in-Err-Starved-clause-refused
returns-in-Err-Starved-clause-refused c =
    stops_invalid (shape_of c.args.s.now) (json c.args.v.now) _ c.in-Err-Starved.ensures

pub returns-in-Err-Starved-clause-first : goal.returns-in-Err-Starved-clause-first
returns-in-Err-Starved-clause-first c = starved_names _ (rw c.in-Err-Starved.field-0-is at c.in-Err-Starved.ensures)

pub returns-in-Err-Found-clause-refused : goal.returns-in-Err-Found-clause-refused
returns-in-Err-Found-clause-refused c =
    stops_invalid (shape_of c.args.s.now) (json c.args.v.now) _ c.in-Err-Found.ensures

pub returns-in-Err-Found-clause-first : goal.returns-in-Err-Found-clause-first
returns-in-Err-Found-clause-first c = found_names _ c.in-Err-Found.broken (rw c.in-Err-Found.field-0-is at c.in-Err-Found.ensures)
