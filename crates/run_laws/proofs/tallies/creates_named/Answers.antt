use Rattle.std.proofs.Common.{Some}
use Rattle.api_calls.specs.Item.{Create, Delete, Item, Mark, MarkSucceeded, Release, Replace, SetVersions, StartMigration, Touch, Trim, entry, note}
use Rattle.far_laws.specs.Speaking.{front}
use Rattle.run_laws.specs.Replying.{CreatesNamed}
use Rattle.run_laws.proofs.tallies.Creating.{IsSo, replies_so}
use Rattle.run_laws.proofs.tallies.creates_named.Goals as goal

named : (i : Item) → IsSo (λ h. Unit {0}) i → CreatesNamed i
named (entry (Create key h w)) so = so.0
named (entry (Replace key over h w)) so = tt
named (entry (Mark key over stamp)) so = tt
named (entry (Release key over)) so = tt
named (entry (Touch key c)) so = tt
named (entry (Delete key)) so = tt
named (entry (SetVersions f)) so = tt
named (entry (Trim keep)) so = tt
named (entry (StartMigration name)) so = tt
named (entry MarkSucceeded) so = tt
named (note x) so = tt

pub returns : goal.returns
returns g c = λ it limits boot told seen log request reply item replied.
    named item
    (replies_so (front (g.V.Versions.meaning it) limits boot told) (g.met.V.Versions.stand it) (g.met.V.Versions.admitted it) (λ h. Unit {0}) (λ r new e admits created deleted generation. tt)
    (Unit {0}) seen log request reply (Some item) replied)
