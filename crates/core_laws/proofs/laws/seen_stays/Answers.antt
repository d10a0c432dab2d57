use Rattle.std.proofs.Common.{◌≡◌, ◌++◌, List, Some, length, subst, sym}
use Rattle.std.proofs.Math.Seq.{take-append_seam, take-length}
use Rattle.kube_meta.specs.Key.{KeyView}
use Rattle.api_calls.specs.Item.{Item}
use Rattle.api_calls.specs.Objects.{find}
use Rattle.api_calls.specs.State.{state}
use Rattle.api_core.specs.laws.PairLaws.{find-key}
use Rattle.core_laws.proofs.laws.seen_stays.Goals as goal

pub returns : goal.returns
returns g c = λ it limits log more l k e f seen found same.
    c.one_value.ensures it limits (log ++ more) l (length (log ++ more)) (length log) f e
    (subst (λ (xs : List Item). find f.key (state (g.V.Means.meaning it) xs).objects ≡ Some f) (sym (take-length (log ++ more)))
    (subst (λ (q : KeyView). find q (state (g.V.Means.meaning it) (log ++ more)).objects ≡ Some f) (sym (find-key k (state (g.V.Means.meaning it) (log ++ more)).objects f found)) found))
    (subst (λ (xs : List Item). find e.key (state (g.V.Means.meaning it) xs).objects ≡ Some e) (sym (take-append_seam log more))
    (subst (λ (q : KeyView). find q (state (g.V.Means.meaning it) log).objects ≡ Some e) (sym (find-key k (state (g.V.Means.meaning it) log).objects e seen)) seen))
    same
