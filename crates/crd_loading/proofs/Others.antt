-- The place among all versions of the one that has so many others before it.
use Rattle.std.proofs.Common.{◌≡◌, ◌∙◌, ◌+◌, ◌<◌, ◌≤◌, ℕ, List, length, map, get_or, Option, Some, refl, ap, sym, add-one, arith}
use Rattle.std.specs.Prelude.{slice_get, option_map}
use Rattle.std.proofs.lemmas.List.{length-map}
use Rattle.std.proofs.lemmas.Option.{slice_get-get_or, slice_get_read, slice_get_within, slice_get-map}
use Rattle.crd_reading.specs.View.{VersionView}
use Rattle.crd_reading.specs.Seen.{version_of}
use Rattle.crd_reading.specs.declared.definition.Version.{Version}
use Rattle.crd_loading.specs.Fits.{spokes_of}
use Rattle.crd_meaning.specs.Definition.{no_version}
use Rattle.crd_loading.proofs.Without.{get_before, get_behind, spokes_are}

pub before : (hub : ℕ) (us : List VersionView) (i : ℕ) → i < hub → slice_get (spokes_of hub us) i ≡ slice_get us i
before hub us i h = ap (λ (ws : List VersionView). slice_get ws i) (spokes_are hub us) ∙ get_before hub us i h

pub behind : (hub : ℕ) (us : List VersionView) (i : ℕ) → hub ≤ i → slice_get (spokes_of hub us) i ≡ slice_get us (i + 1)
behind hub us i h =
    ap (λ (ws : List VersionView). slice_get ws i) (spokes_are hub us) ∙ get_behind hub us i h ∙ ap (λ (n : ℕ). slice_get us n) (sym (add-one i))

pub is_within : (hub : ℕ) (vs : List Version) (i j : ℕ) → slice_get (spokes_of hub (map version_of vs)) i ≡ slice_get (map version_of vs) j → i < length (spokes_of hub (map version_of vs)) → j < length vs
is_within hub vs i j e h =
    let us : List VersionView = map version_of vs in
    let ws : List VersionView = spokes_of hub us in
    let inside : j < length us = slice_get_within us j (get_or ws i no_version) (sym e ∙ slice_get-get_or ws i no_version h) in
    let same : length us ≡ length vs = length-map vs version_of in
    omega arith

pub read_is : (ws : List VersionView) (vs : List Version) (i j : ℕ) (v : Version) → slice_get ws i ≡ slice_get (map version_of vs) j → j < length vs → v ≡ get_or vs j v → slice_get ws i ≡ Some (version_of v)
read_is ws vs i j v e h r =
    e ∙ slice_get-map version_of vs j ∙ ap (λ (o : Option Version). option_map version_of o) (slice_get_read vs (length vs) j v refl h r)
