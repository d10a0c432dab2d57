use Rattle.std.proofs.Common.{ap}
use Rattle.std.proofs.lemmas.Result.{IfErr-weaker}
use Rattle.kj_value.specs.Seen.{json}
use Rattle.kept_entries.specs.declared.fault.KeptFault.{KeptFault}
use Rattle.kept_entries.specs.Refusal.{AreNoFields, IsNoEntry}
use Rattle.kept_entries.proofs.Refused.{no_entry}
use Rattle.kept_entries.proofs.reading.read_entry.Goals as goal

pub returns-in-Obj-clause-err : goal.returns-in-Obj-clause-err
returns-in-Obj-clause-err c =
    IfErr-weaker c.of_fields.result (AreNoFields c.in-Obj.fields) (IsNoEntry (json c.args.value)) (λ (f : KeptFault) h. no_entry (json c.args.value) c.in-Obj.fields f (ap json c.in-Obj.is) h) c.of_fields.ensures.err
