-- What renaming keeps.
use Rattle.std.proofs.Common.{◌≡◌, ℕ, Bool, true, false, List, Option, Some, None, option_map, bytes_eq, refl, subst, if◌then◌else◌}
use Rattle.std.proofs.lemmas.Slice.Eq.{bytes_eq-Decides}
use Rattle.kube_meta.specs.View.{ObjectView}
use Rattle.object_reading.specs.Keeping.{KeepsRules}
use Rattle.api_calls.specs.Meaning.{stamped}
use Rattle.converters.specs.Turned.{IsSameAt, Stays, IgnoresStamps}
use Rattle.converters.specs.Renaming.{Names, names_for, moved, rename}

some_object : (x y : ObjectView) → Some x ≡ Some y → x ≡ y
some_object x y e = cc

itself : (x : ObjectView) (to : List ℕ) → x.api_version ≡ to → KeepsRules x.meta → IsSameAt x to x
itself x to at rules = record { version = at; kind = refl; meta = refl; rules = rules }

other : (x : ObjectView) (to : List ℕ) (n : Names) → KeepsRules x.meta → IsSameAt x to (moved x to n)
other x to n rules = record { version = refl; kind = refl; meta = refl; rules = rules }

pub rename_stays : Stays rename
unfolding rename
rename_stays x y to levels rules e = by (bytes_eq x.api_version to) refl (names_for x.api_version to) e
  where
    by : (t : Bool) → bytes_eq x.api_version to ≡ t → (o : Option Names) → (if t then Some x else option_map (moved x to) o) ≡ Some y → IsSameAt x to y
    by true same o e = subst (λ (z : ObjectView). IsSameAt x to z) (some_object x y e) (itself x to ((bytes_eq-Decides x.api_version to).0 same) rules)
    by false same (Some n) e = subst (λ (z : ObjectView). IsSameAt x to z) (some_object (moved x to n) y e) (other x to n rules)
    by false same None e = absurd (cc)

pub rename_unstamped : IgnoresStamps rename
unfolding rename
rename_unstamped x to created deleted generation = by (bytes_eq x.api_version to) (names_for x.api_version to)
  where
    by : (t : Bool) (o : Option Names)
        → (if t then Some (stamped x created deleted generation) else option_map (moved (stamped x created deleted generation) to) o)
        ≡ option_map (λ y. stamped y created deleted generation) (if t then Some x else option_map (moved x to) o)
    by true o = refl
    by false (Some n) = refl
    by false None = refl
