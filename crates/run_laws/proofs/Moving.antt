-- A worker's item moves only numbers, and a marked migration is of the storage version.
use Rattle.std.proofs.Common.{◌≡◌, ◌∙◌, ◌+◌, ◌<◌, ◌≤◌, arith, refl, sym, ap, subst, inl, inr, ℕ, Bool, true, false, List, [], ◌∷◌, ◌++◌, Option, None, Some, length, append_assoc}
use Rattle.std.specs.Prelude.{◌⊎◌, if◌then◌else◌}
use Rattle.std.specs.Ordering.{match_ordering}
use Rattle.std.specs.declared.cmp.Ordering.{Ordering}
use Rattle.std.specs.declared.cmp.Ordering.TheVariants.{Less, Equal, Greater}
use Rattle.kube_meta.specs.Key.{KeyView, key_cmp}
use Rattle.kube_meta.specs.laws.KeyOrder.{key_cmp_one}
use Rattle.kube_meta.specs.Plan.{Migration, running, may_claim, is_done}
use Rattle.kube_meta.specs.declared.limits.Limits.{Limits}
use Rattle.api_calls.specs.Calls.{Server}
use Rattle.api_calls.specs.Ends.{claimed, enters, finished, grown, idle, says}
use Rattle.api_calls.specs.laws.GrowthLaws.{legal-front, state-more}
use Rattle.api_calls.specs.Item.{Create, Replace, Mark, Release, Touch, Delete, SetVersions, Trim, StartMigration, MarkSucceeded, Claim, RangeDone, GiveBack, Item, Logged, entry, items, note}
use Rattle.api_calls.specs.LegalLists.{KeepsStorage}
use Rattle.api_calls.specs.Legal.{Each, MaySucceed, legal}
use Rattle.api_calls.specs.Meaning.{Meaning}
use Rattle.api_calls.specs.Objects.{Stored, elsewhere, moved, updated}
use Rattle.api_calls.specs.State.{State, effect, next_number, opening, revision, state, target_of}
use Rattle.api_calls.specs.Work.{Turn, Work, idle_turn, whole_turn, work_of, work_turn}
use Rattle.api_calls.proofs.Parts.{legal_from-append}
use Rattle.api_calls.proofs.Standing.{succeeded-all}
use Rattle.serve_spans.specs.Owners.{At, IsOfWorker, IsWork, IsWorkIf, Within}
use Rattle.serve_spans.specs.Spans.{Span}
use Rattle.serve_input.specs.Conversed.{At as Place, TakesTurn, turn_at}
use Rattle.run_laws.specs.Moves.{AreMoved, MovesNumbers}

unmoved : (k : Option KeyView) (es : List Stored) → AreMoved k es es
unmoved k [] = tt
unmoved k (e ∷ es) = (inl refl, unmoved k es)

updated-moved : (n v : ℕ) (k : KeyView) (es : List Stored) → AreMoved (Some k) es (updated (moved n v) k es)
updated-moved n v k [] = tt
updated-moved n v k (e ∷ es) = by (key_cmp k e.key) refl (updated-moved n v k es)
  where
    by : (o : Ordering) → key_cmp k e.key ≡ o → AreMoved (Some k) es (updated (moved n v) k es)
        → AreMoved (Some k) (e ∷ es) (match_ordering o (e ∷ es) (moved n v e ∷ es) (e ∷ updated (moved n v) k es))
    by Less is more = unmoved (Some k) (e ∷ es)
    by Equal is more = (inr (ap (λ (q : KeyView). Some q) (key_cmp_one k e.key is), refl), unmoved (Some k) es)
    by Greater is more = (inl refl, more)

worked : (n : ℕ) (i : Item) (s : State) → IsWork i → MovesNumbers s (effect n i s)
worked n (note (Claim c)) s w = record { key = None; objects = unmoved None s.objects; flags = refl; stored = refl }
worked n (note (RangeDone c)) s w = record { key = None; objects = unmoved None s.objects; flags = refl; stored = refl }
worked n (note (GiveBack c)) s w = record { key = None; objects = unmoved None s.objects; flags = refl; stored = refl }
worked n (entry (Touch k c)) s w = record { key = Some k; objects = updated-moved n (target_of s) k s.objects; flags = refl; stored = refl }
worked n (entry MarkSucceeded) s w = record { key = None; objects = unmoved None s.objects; flags = refl; stored = refl }
worked n (entry (Create k h c)) s w = absurd w
worked n (entry (Replace k over h c)) s w = absurd w
worked n (entry (Mark k over stamp)) s w = absurd w
worked n (entry (Release k over)) s w = absurd w
worked n (entry (Delete k)) s w = absurd w
worked n (entry (SetVersions f)) s w = absurd w
worked n (entry (Trim keep)) s w = absurd w
worked n (entry (StartMigration name)) s w = absurd w

-- an item that is of none of the spans is a worker's
pub moves-in : (m : Meaning) (log before after : List Logged) (spans : List Span) (x : Logged) → log ≡ before ++ x ∷ after → (Within spans (length before) x → ⊥)
    → (number : Option ℕ) (lacking : ℕ) (workers spared : List ℕ) → ((i : ℕ) (y : Logged) → At log i y → Within spans i y ⊎ IsOfWorker number lacking workers spared y)
    → MovesNumbers (state m (items before)) (state m (items before ++ x.item ∷ []))
moves-in m log before after spans x is outside number lacking workers spared owned =
    subst (λ (s : State). MovesNumbers (state m (items before)) s) (sym (state-more m (items before) x.item))
    (worked (next_number (items before)) x.item (state m (items before)) (by (owned (length before) x (before, after, is, refl))))
  where
    by : Within spans (length before) x ⊎ IsOfWorker number lacking workers spared x → IsWork x.item
    by (inl w) = absurd (outside w)
    by (inr w) = w.0

-- where no workers were asked for there is none
pub none-works : (spans : List Span) (number : Option ℕ) (lacking : ℕ) (workers spared : List ℕ) (i : ℕ) (x : Logged) → length workers + lacking ≡ 0 → length spared ≤ lacking
    → Within spans i x ⊎ IsOfWorker number lacking workers spared x → Within spans i x
none-works spans number lacking workers spared i x hired few (inl w) = w
none-works spans number lacking [] [] i x hired few (inr w) = absurd (nobody w.1)
  where
    nobody : ⊥ ⊎ (⊥ ⊎ ((number ≡ Some x.by) × (0 < lacking))) → ⊥
    nobody (inl none) = none
    nobody (inr (inl none)) = none
    nobody (inr (inr none)) = let lt = none.1 in omega (arith, hired)
none-works spans number lacking [] (m ∷ ms) i x hired few (inr w) = absurd (omega (arith, hired, few))
none-works spans number lacking (m ∷ ms) spared i x hired few (inr w) = absurd (omega (arith, hired))

-- the guard of the mark names the migration, and the law of a success holds of the part of the list up to there
pub stands-in : (m : Meaning) (limits : Limits) (log before after later : List Item) → legal m limits log → log ≡ before ++ entry MarkSucceeded ∷ (after ++ later)
    → (g : Migration) × (running (state m before).migrations ≡ Some g) × (g.target ≡ (state m before).flags.storage)
    × (Each (KeepsStorage g.target) after → Each (λ e. e.at ≡ g.target) (state m (before ++ entry MarkSucceeded ∷ after)).objects)
stands-in m limits log before after later l is =
    let whole : legal m limits ((before ++ entry MarkSucceeded ∷ after) ++ later) = subst (λ (xs : List Item). legal m limits xs) (is ∙ sym (append_assoc before (entry MarkSucceeded ∷ after) later)) l in
    let front = legal-front m limits (before ++ entry MarkSucceeded ∷ after) later whole in
    let parts = legal_from-append m limits 2 (opening m) before (entry MarkSucceeded ∷ after) front in
    let may : MaySucceed (state m before) = parts.1.0 in
    (may.migration, may.runs, may.target, λ keeps. succeeded-all m limits before after may.migration front may.runs keeps)

-- ---- a turn between two requests

choose : (a b : Bool) (x y z : Turn) → IsWorkIf x.decision.item → IsWorkIf y.decision.item → IsWorkIf z.decision.item
    → IsWorkIf (if a then x else if b then y else z).decision.item
choose true b x y z p q r = p
choose false true x y z p q r = q
choose false false x y z p q r = r

idle_work : (n : ℕ) (s : State) (m : Option Migration) → IsWorkIf (idle_turn n s m).decision.item
idle_work n s None = tt
idle_work n s (Some m) =
    let x : Turn = record { decision = enters claimed (note (Claim (s.plan.last + 1))); claim = Some (s.plan.last + 1) } in
    let y : Turn = record { decision = enters (finished n) (entry MarkSucceeded); claim = None } in
    let z : Turn = record { decision = says idle; claim = None } in
    choose (may_claim s.plan) (is_done s.plan) x y z tt tt tt

turn_work : (n : ℕ) (w : Work) (o : Option Stored) → IsWorkIf (work_turn n w o).decision.item
turn_work n w None = tt
turn_work n w (Some e) = tt

whole_work : (n : ℕ) (s : State) (o : Option Work) → IsWorkIf (whole_turn n s o).decision.item
whole_work n s None = idle_work n s (running s.migrations)
whole_work n s (Some w) = turn_work n w (elsewhere w.span w.target s.objects)

stays : (s : State) → MovesNumbers s s
stays s = record { key = None; objects = unmoved None s.objects; flags = refl; stored = refl }

grows-moved : (m : Meaning) (log : List Item) (i : Option Item) → IsWorkIf i → MovesNumbers (state m log) (state m (grown log i))
grows-moved m log None w = stays (state m log)
grows-moved m log (Some i) w = subst (λ (s : State). MovesNumbers (state m log) s) (sym (state-more m log i)) (worked (next_number log) i (state m log) w)

-- a turn is as it is decided, or nothing changes
pub turn-moves : (s : Server) (p q : Place) → TakesTurn s p q → MovesNumbers (state s.meaning p.log) (state s.meaning q.log)
turn-moves s p q (inl is) = subst (λ (r : Place). MovesNumbers (state s.meaning p.log) (state s.meaning r.log)) (sym is)
    (grows-moved s.meaning p.log (turn_at s p).decision.item (whole_work (revision p.log + 1) (state s.meaning p.log) (work_of p.claim (state s.meaning p.log))))
turn-moves s p q (inr same) = subst (λ (r : Place). MovesNumbers (state s.meaning p.log) (state s.meaning r.log)) (sym same.1) (stays (state s.meaning p.log))
