-- Versions that a definition may have together: their names differ, one is the storage version, and one at least is served.
use Rattle.std.specs.Prelude.{ℕ, suc, List, [], ◌∷◌, Bool, true, false, ◌&&◌, ◌||◌, not, cond, nat_eq}
use Rattle.std.specs.Str.{bytes_eq}
use Rattle.crd_reading.specs.View.{VersionView}

-- some version has the name
abbrev pub has_version : List ℕ → List VersionView → Bool
has_version n [] = false
has_version n (v ∷ vs) = bytes_eq n v.name || has_version n vs

abbrev pub names_differ : List VersionView → Bool
names_differ [] = true
names_differ (v ∷ vs) = not (has_version v.name vs) && names_differ vs

-- how many are the storage version
abbrev pub storages : List VersionView → ℕ
storages [] = 0
storages (v ∷ vs) = cond v.storage (suc (storages vs)) (storages vs)

abbrev pub some_served : List VersionView → Bool
some_served [] = false
some_served (v ∷ vs) = v.served || some_served vs

abbrev pub are_offered : List VersionView → Bool
are_offered vs = names_differ vs && (nat_eq (storages vs) 1 && some_served vs)
