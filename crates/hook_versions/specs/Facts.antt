-- What the laws of a set take of it and of its converter.
use Rattle.std.specs.Prelude.{◌<◌, ◌≤◌, Bool, IsTrue}
use Rattle.crd_reading.specs.Accepted.{AreOffered}
use Rattle.crd_meaning.specs.Definition.{Definition, count_of}
use Rattle.converters.specs.Turned.{Turned, Stays, IgnoresStamps}
use Rattle.crd_laws.specs.Hook.{Hooked, IsHooked}

abbrev pub hooked : Definition → Bool → Turned → Hooked
hooked d honest turned = record { definition = d; honest = honest; turned = turned }

pub facts : (d : Definition) (honest : Bool) (turned : Turned) → (2 ≤ count_of d) × (count_of d ≤ 8) → d.hub < count_of d → AreOffered d.view.versions
    → (IsTrue honest → Stays turned) → (IsTrue honest → IgnoresStamps turned) → IsHooked (hooked d honest turned)
facts d honest turned few known offered stays unstamped =
    record { few = few; hub = known; offered = offered; stays = stays; unstamped = unstamped }
