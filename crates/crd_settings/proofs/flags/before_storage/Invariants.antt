use Rattle.std.proofs.Common.{◌≡◌, ◌+◌, drop, map}
use Rattle.kj_value.specs.Json.{items_of}
use Rattle.kj_value.specs.Seen.{json}
use Rattle.crd_reading.specs.Spelled.{versions_read}
use Rattle.crd_meaning.specs.Definition.{before_storage}
use Rattle.crd_settings.proofs.flags.before_storage.Given as goal

abbrev pub invariant-loop-i : goal.invariant-loop-i
invariant-loop-i l =
    l.i + before_storage (versions_read (items_of (map json (drop l.i l.items)))) ≡ before_storage (versions_read (items_of (map json l.items)))
