-- What is known of a server and its place, with what its versions promise.
use Rattle.std.specs.Prelude.{ℕ, List, Option}
use Rattle.kube_meta.specs.declared.limits.Limits.{Limits}
use Rattle.api_calls.specs.Item.{Item}
use Rattle.api_calls.specs.Meaning.{Meaning}
use Rattle.api_calls.specs.Versions.{IgnoresStamps, IsOneToOne, KeepsKey, Stand}
use Rattle.place.specs.Place.{Names}
use Rattle.far_laws.proofs.PageForms.{OneReading, TextReads}
use Rattle.run_laws.specs.Ending.{IsOpen}
use Rattle.run_laws.specs.Light.{HasShortKind}
use Rattle.run_laws.proofs.tallies.Behind.{known_to_reply}
use Rattle.run_laws.proofs.tallies.Holding.{Facts}

pub facts_of : (m : Meaning) (limits : Limits) (boot : ℕ) (clock : Option (List ℕ)) (n : Names) (last : List Item) → IsOpen m limits n last → HasShortKind m → Stand m → KeepsKey m → IgnoresStamps m → IsOneToOne m
    → TextReads → OneReading → Facts m limits boot clock n last
facts_of m limits boot clock n last is kind stand keeps ignores one text_reads one_reading = record {
  names = is.names;
  place = is.place;
  named = is.named;
  known = known_to_reply m limits boot clock n last is.names is.known stand keeps text_reads one_reading;
  ignores = ignores;
  one = one;
  light = is.light;
  kind = kind;
}
