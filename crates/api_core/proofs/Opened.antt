-- What a core is at first.
use Rattle.std.proofs.Common.{◌≡◌, ℕ, ◌<◌, [], ◌∷◌, lit≤, sym, subst, arith}
use Rattle.std.proofs.lemmas.List.Elements.{All-nil, All-cons}
use Rattle.std.specs.List.{IsDistinct}
use Rattle.api_calls.specs.Versions.{AreFlags, AreVersions}
use Rattle.api_calls.specs.declared.flags.Flags.{Flags}
use Rattle.api_core.specs.CoreOf.{IsCore}

only : (count v : ℕ) → v < count → AreVersions count (v ∷ [])
unfolding IsDistinct
only count v known = record { few = lit≤ tt; known = All-cons (λ w. w < count) v [] known (All-nil (λ w. w < count)); distinct = (tt, tt) }

pub opened : (count last : ℕ) (f o : Flags) → last ≡ 0 → f ≡ o → AreFlags count o
    → IsCore count last 1 f (record { len = 1; items = f.storage ∷ 0 ∷ 0 ∷ 0 ∷ 0 ∷ 0 ∷ 0 ∷ 0 ∷ [] })
opened count last f o none is flags =
    let its : AreFlags count f = subst (AreFlags count) (sym is) flags in
    record {
      dated = omega (arith, none);
      begun = lit≤ tt;
      are_flags = its;
      is_list = record { len = lit≤ tt; versions = only count f.storage its.storage };
    }
