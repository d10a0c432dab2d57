-- What the laws of a set take of its definition.
use Rattle.std.proofs.Common.{◌≡◌, ◌<◌, ◌≤◌, ℕ, zero, suc, List, [], ◌∷◌, length, Bool, IsTrue, arith}
use Rattle.std.specs.Prelude.{slice_index_or}
use Rattle.prune_default.specs.SoundDefaults.{HasSoundDefaults}
use Rattle.crd_reading.specs.View.{VersionView}
use Rattle.crd_reading.specs.Whole.{IsWholeDefinition, HaveSoundDefaults}
use Rattle.crd_meaning.specs.Definition.{Definition, no_version, count_of, version_at}
use Rattle.converters.specs.Turned.{Turned, Stays, IgnoresStamps}
use Rattle.crd_laws.specs.Hook.{IsHooked}
use Rattle.crd_laws.specs.Hook as hook
use Rattle.hook_versions.specs.Facts.{hooked, facts}

pub is_hooked : (d : Definition) (honest : Bool) (turned : Turned) → IsWholeDefinition d.view → d.hub < count_of d → (IsTrue honest → Stays turned) → (IsTrue honest → IgnoresStamps turned)
    → IsHooked (hooked d honest turned)
is_hooked d honest turned w known stays unstamped = facts d honest turned (w.least, w.most) known w.offered stays unstamped

pub each_sound : (vs : List VersionView) → HaveSoundDefaults vs → (v : ℕ) → v < length vs → HasSoundDefaults (slice_index_or vs v no_version).schema
each_sound [] h v p = (tt, tt, tt, tt)
each_sound (w ∷ vs) h zero p = h.0
each_sound (w ∷ vs) h (suc v) p =
    let more : suc v < suc (length vs) = p in
    each_sound vs h.1 v (omega (arith, more))

pub sound_so : (d : Definition) (honest : Bool) (turned : Turned) → IsWholeDefinition d.view → ∥ hook.HaveSoundDefaults (hooked d honest turned) ∥₁
sound_so d honest turned w = ∣ (λ v p. each_sound d.view.versions w.sound v p) ∣₁
