-- What holds of each object holds of the one under a key.
use Rattle.std.specs.Prelude.{◌≡◌, List, [], ◌∷◌, None, Some}
use Rattle.std.proofs.Common.{subst}
use Rattle.std.specs.Ordering.{match_ordering}
use Rattle.std.specs.declared.cmp.Ordering.{Ordering}
use Rattle.std.specs.declared.cmp.Ordering.TheVariants.{Less, Equal, Greater}
use Rattle.kube_meta.specs.Key.{KeyView, key_cmp}
use Rattle.api_calls.specs.Objects.{Stored, find}
use Rattle.api_calls.specs.Legal.{Each}

pub each-find : (P : Stored → Type 0) (k : KeyView) (es : List Stored) (e : Stored) → Each P es → find k es ≡ Some e → P e
each-find P k [] e h is = cc
each-find P k (f ∷ es) e h is = by (key_cmp k f.key) is (each-find P k es e h.1)
  where
    by : (o : Ordering) → match_ordering o None (Some f) (find k es) ≡ Some e → (find k es ≡ Some e → P e) → P e
    by Less is more = cc
    by Equal is more = let same : f ≡ e = cc in subst P same h.0
    by Greater is more = more is
