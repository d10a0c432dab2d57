use Rattle.std.proofs.Common.{◌≡◌, ◌≤◌, map}
use Rattle.std.specs.List.{filter, range_with_len}
use Rattle.kj_value.specs.Seen.{json}
use Rattle.api_calls.specs.Versions.{versions_of}
use Rattle.crd_reading.specs.Seen.{version_of}
use Rattle.crd_settings.specs.Flags.{version_in}
use Rattle.crd_settings.specs.Keeping.{is_among, names_in}
use Rattle.crd_settings.proofs.keeping.places.Given as goal

abbrev pub invariant-loop-v : goal.invariant-loop-v
invariant-loop-v l = record {
  len : l.list.len ≤ l.v;
  places : versions_of l.list ≡ filter (λ w. is_among (names_in (map json l.items)) (version_in (map version_of l.versions) w).name) (range_with_len 0 l.v);
}
