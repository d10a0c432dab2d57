use Rattle.std.proofs.Common.{ℕ, List, Option, Some}
use Rattle.std.specs.Prelude.{ℤ}
use Rattle.kube_meta.specs.View.{ObjectView}
use Rattle.api_calls.specs.Item.{Create, Delete, Item, Mark, MarkSucceeded, Release, Replace, SetVersions, StartMigration, Touch, Trim, entry, note}
use Rattle.api_calls.specs.Meaning.{Meaning, stamped}
use Rattle.api_calls.specs.Versions.{IgnoresStamps}
use Rattle.crd_laws.specs.DefinitionLaws.{admits_whole, stand, unstamped}
use Rattle.crd_laws.specs.Loaded.{loaded_meaning}
use Rattle.crd_settings.specs.SettledLaws.{settings_of}
use Rattle.far_laws.specs.TakenBack.{IsLight}
use Rattle.far_laws.specs.Speaking.{front}
use Rattle.run_laws.specs.Light.{EntersLight}
use Rattle.run_laws.proofs.tallies.Creating.{IsSo, replies_so}
use Rattle.run_laws.proofs.tallies.enters_light.Goals as goal

light : (m : Meaning) (i : Item) → IsSo (IsLight m) i → EntersLight m i
light m (entry (Create key h w)) so = so.1
light m (entry (Replace key over h w)) so = so
light m (entry (Mark key over stamp)) so = tt
light m (entry (Release key over)) so = tt
light m (entry (Touch key c)) so = tt
light m (entry (Delete key)) so = tt
light m (entry (SetVersions f)) so = tt
light m (entry (Trim keep)) so = tt
light m (entry (StartMigration name)) so = tt
light m (entry MarkSucceeded) so = tt
light m (note x) so = tt

-- stamps and the generation aren't measured
with_stamps : (m : Meaning) (h : ObjectView) (created deleted : Option (List ℕ)) (generation : ℤ) → IgnoresStamps m → IsLight m h → IsLight m (stamped h created deleted generation)
with_stamps m h created deleted generation ignores small v x known p =
    small v (stamped x h.meta.created h.meta.deleted h.meta.generation) known (ignores.pair v (stamped h created deleted generation) x h.meta.created h.meta.deleted h.meta.generation p)

pub returns : goal.returns
returns c = λ d limits boot told seen log request reply item loaded replied.
    let o = settings_of d.view in
    let m = loaded_meaning d o in
    let one = c.one_list.ensures in
    light m item
    (replies_so (front m limits boot told) (stand d o one (∣ loaded ∣₁)) (admits_whole d o one) (IsLight m)
    (λ r new e admits created deleted generation. with_stamps m new created deleted generation (unstamped d o) admits.1.light) (Unit {0}) seen log request reply (Some item) replied)
