-- The window and the floor of a list that goes on by one item.
use Rattle.std.proofs.Common.{◌≡◌, ℕ, List, [], ◌∷◌, ◌++◌, Some, ap, sym, subst, refl, ◌∙◌}
use Rattle.kube_meta.specs.Window.{newest, floor_from}
use Rattle.kube_meta.specs.laws.WindowLaws.{newest-more, floor-more}
use Rattle.kube_meta.specs.WindowPairs.{AllPair, newest-pair, floor_from-pair}
use Rattle.kube_meta.specs.declared.limits.Limits.{Limits}
use Rattle.record_store.specs.View.{Item as RecordItem, Old, StoreView, old_by, old_weight}
use Rattle.record_store.specs.Moves.{old}
use Rattle.api_calls.specs.Meaning.{Meaning}
use Rattle.api_calls.specs.Item.{Item}
use Rattle.api_calls.specs.Objects.{Stored}
use Rattle.api_calls.specs.State.{next_number, state}
use Rattle.api_calls.specs.Snap.{Past, past, item_past, superseded, by_number, past_weight, floor, window}
use Rattle.api_calls.specs.laws.GrowthLaws.{superseded-more}
use Rattle.api_core.specs.Keeps.{KeepsObject, KeepsPast}

append-none : (ps : List Past) → ps ++ [] ≡ ps
append-none [] = refl
append-none (p ∷ ps) = ap (λ (qs : List Past). p ∷ qs) (append-none ps)

pairs-append : {X Y : Type 0} (R : X → Y → Type 0) (xs : List X) (ys : List Y) (x : X) (y : Y) → AllPair R xs ys → R x y → AllPair R (xs ++ x ∷ []) (ys ++ y ∷ [])
pairs-append R [] [] x y h r = (r, tt)
pairs-append R [] (b ∷ ys) x y h r = absurd h
pairs-append R (a ∷ xs) [] x y h r = absurd h
pairs-append R (a ∷ xs) (b ∷ ys) x y h r = (h.0, pairs-append R xs ys x y h.1 r)

-- an item that supersedes nothing leaves both
pub window-same : (m : Meaning) (limits : Limits) (log : List Item) (i : Item) → item_past (next_number log) i (state m log) ≡ []
    → (window limits m (log ++ i ∷ []) ≡ window limits m log) × (floor limits m (log ++ i ∷ []) ≡ floor limits m log)
window-same m limits log i none =
    let all : superseded m (log ++ i ∷ []) ≡ superseded m log =
    superseded-more m log i ∙ ap (λ (ps : List Past). superseded m log ++ ps) none ∙ append-none (superseded m log) in
    (ap (newest past_weight limits) all, ap (floor_from by_number past_weight limits 1) all)

-- an item that supersedes an object: the store's record of it goes into the window
pub window-more : (m : Meaning) (limits : Limits) (log : List Item) (i : Item) (s : StoreView) (now : ℕ) (x : RecordItem) (e : Stored)
    → s.limits ≡ limits → AllPair (KeepsPast m) s.window (window limits m log) → s.floor ≡ floor limits m log
    → now ≡ next_number log → KeepsObject m x e → item_past (next_number log) i (state m log) ≡ past (next_number log) (Some e)
    → AllPair (KeepsPast m) (newest old_weight s.limits (s.window ++ old now x ∷ [])) (window limits m (log ++ i ∷ []))
    × (floor_from old_by old_weight s.limits s.floor (s.window ++ old now x ∷ []) ≡ floor limits m (log ++ i ∷ []))
window-more m limits log i s now x e limits_are olds floor_is number keeps past_is = (windows, floors)
  where
    all : superseded m (log ++ i ∷ []) ≡ superseded m log ++ record { by = next_number log; object = e } ∷ []
    all = superseded-more m log i ∙ ap (λ (ps : List Past). superseded m log ++ ps) past_is

    pairs : AllPair (KeepsPast m) (s.window ++ old now x ∷ []) (window limits m log ++ record { by = next_number log; object = e } ∷ [])
    pairs =
        pairs-append (KeepsPast m) s.window (window limits m log) (old now x) (record { by = next_number log; object = e }) olds
        (record { by = number; object = keeps })

    number_of : (o : Old) (p : Past) → KeepsPast m o p → old_by o ≡ by_number p
    number_of o p k = k.by

    weight_of : (o : Old) (p : Past) → KeepsPast m o p → old_weight o ≡ past_weight p
    weight_of o p k = k.object.weight

    windows : AllPair (KeepsPast m) (newest old_weight s.limits (s.window ++ old now x ∷ [])) (window limits m (log ++ i ∷ []))
    windows =
        let kept = newest-pair (KeepsPast m) old_by old_weight by_number past_weight number_of weight_of limits
        (s.window ++ old now x ∷ []) (window limits m log ++ record { by = next_number log; object = e } ∷ []) pairs in
        let same : newest past_weight limits (window limits m log ++ record { by = next_number log; object = e } ∷ []) ≡ window limits m (log ++ i ∷ []) =
        newest-more by_number past_weight limits (superseded m log) (record { by = next_number log; object = e }) ∙ ap (newest past_weight limits) (sym all) in
        let there : AllPair (KeepsPast m) (newest old_weight limits (s.window ++ old now x ∷ [])) (window limits m (log ++ i ∷ [])) =
        subst (λ (ps : List Past). AllPair (KeepsPast m) (newest old_weight limits (s.window ++ old now x ∷ [])) ps) same kept in
        subst (λ (l : Limits). AllPair (KeepsPast m) (newest old_weight l (s.window ++ old now x ∷ [])) (window limits m (log ++ i ∷ []))) (sym limits_are) there

    floors : floor_from old_by old_weight s.limits s.floor (s.window ++ old now x ∷ []) ≡ floor limits m (log ++ i ∷ [])
    floors =
        ap (λ (l : Limits). floor_from old_by old_weight l s.floor (s.window ++ old now x ∷ [])) limits_are
        ∙ floor_from-pair (KeepsPast m) old_by old_weight by_number past_weight number_of weight_of limits s.floor
        (s.window ++ old now x ∷ []) (window limits m log ++ record { by = next_number log; object = e } ∷ []) pairs
        ∙ ap (λ (f : ℕ). floor_from by_number past_weight limits f (window limits m log ++ record { by = next_number log; object = e } ∷ [])) floor_is
        ∙ floor-more by_number past_weight limits 1 (superseded m log) (record { by = next_number log; object = e })
        ∙ ap (floor_from by_number past_weight limits 1) (sym all)
