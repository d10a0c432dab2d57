use Rattle.std.proofs.Common.{map, ap, sym, ◌∙◌}
use Rattle.kj_value.specs.Seen.{json}
use Rattle.rule_reading.specs.SetRead.{set_read}
use Rattle.rule_reading.specs.Told.{set_of}
use Rattle.crd_reading.specs.Seen.{version_of}
use Rattle.crd_loading.proofs.Hub.{known}
use Rattle.crd_loading.proofs.loading.read_set.Goals as goal

pub returns-in-Ok-clause-hub : goal.returns-in-Ok-clause-hub
returns-in-Ok-clause-hub c =
    known (map version_of c.args.versions.now) (json c.args.document) (set_of c.in-Ok.set) (ap set_read (sym c.in_ok-known.ensures) ∙ c.in-Ok.ensures.read)
