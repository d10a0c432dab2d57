-- What a decided turn of a worker enters has its guard, and what it prepares.
use Rattle.std.specs.Prelude.{◌≡◌, ◌≢◌, ℕ, ◌+◌, Bool, true, false, not, ◌&&◌, List, [], ◌∷◌, Option, None, Some, nat_eq, if◌then◌else◌}
use Rattle.std.proofs.Common.{refl, ap, subst, ◌∙◌, eq-eqb}
use Rattle.kube_meta.specs.Key.{KeyView}
use Rattle.kube_meta.specs.Plan.{Span, Migration, in_span, running, span_of, may_claim, is_done}
use Rattle.kube_meta.specs.declared.limits.Limits.{Limits}
use Rattle.api_calls.specs.Meaning.{Meaning}
use Rattle.api_calls.specs.Item.{Item, entry, note, Touch, MarkSucceeded, Claim, RangeDone, GiveBack}
use Rattle.api_calls.specs.Objects.{Stored, find, elsewhere}
use Rattle.api_calls.specs.State.{State}
use Rattle.api_calls.specs.Legal.{IsHeld, MaySucceed, guard}
use Rattle.api_calls.specs.Ends.{TurnEnd, idle, claimed, prepare, touched, missed, says, enters}
use Rattle.api_calls.specs.Work.{Turn, Work, work_in, work_under, work_of, claim_turn, idle_turn, prepare_turn, first_turn, turn_decision, is_ready, ready_turn, touch_decision, work_turn, whole_turn, work_decision, give_back_of, give_back_decision}
use Rattle.api_calls.specs.Ends.{finished}

abbrev item_of : Turn → Option Item
item_of t = t.decision.item

abbrev answer_of : Turn → TurnEnd
answer_of t = t.decision.answer

-- where the plan is done, the running migration may be marked: a law of legal lists
abbrev pub MayFinish : State → Type 0
MayFinish s = (q : Migration) → running s.migrations ≡ Some q → is_done s.plan ≡ true → MaySucceed s

-- a claim that has work is in a held slot of the running migration
pub record IsWork (w : Work) (s : State) : Type 0 where
  pub held : IsHeld w.claim s
  pub span : held.span ≡ w.span
  pub target : held.migration.target ≡ w.target

pub work_of-held : (c : Option ℕ) (s : State) (w : Work) → work_of c s ≡ Some w → IsWork w s
work_of-held None s w is = cc
work_of-held (Some c) s w is = by (running s.migrations) refl is
  where
    with_span : (q : Migration) → running s.migrations ≡ Some q → (o : Option Span) → span_of c s.plan.slots ≡ o → work_in c q.target o ≡ Some w → IsWork w s
    with_span q runs None held is = cc
    with_span q runs (Some r) held is =
        let it : record { claim = c; span = r; target = q.target } ≡ w = cc in
        subst (λ (v : Work). IsWork v s) it (record { held = record { migration = q; runs = runs; span = r; held = held }; span = refl; target = refl })

    by : (o : Option Migration) → running s.migrations ≡ o → work_under o c s.plan.slots ≡ Some w → IsWork w s
    by None runs is = cc
    by (Some q) runs is = with_span q runs (span_of c s.plan.slots) refl is

claim-guard : (m : Meaning) (limits : Limits) (n : ℕ) (s : State) (q : Migration) (i : Item) → running s.migrations ≡ Some q → MayFinish s → (claim_turn n s).decision.item ≡ Some i
    → guard m limits s i
claim-guard m limits n s q i runs finish is = by (may_claim s.plan) refl (is_done s.plan) refl is
  where
    by : (a : Bool) → may_claim s.plan ≡ a → (b : Bool) → is_done s.plan ≡ b
        → item_of (if a then record { decision = enters claimed (note (Claim (s.plan.last + 1))); claim = Some (s.plan.last + 1) }
        else if b then record { decision = enters (finished n) (entry MarkSucceeded); claim = None }
        else record { decision = says idle; claim = None }) ≡ Some i
        → guard m limits s i
    by true may b over is =
        let it : note (Claim (s.plan.last + 1)) ≡ i = cc in
        subst (guard m limits s) it (record { migration = q; runs = runs; next = refl; room = may })
    by false may true over is =
        let it : entry MarkSucceeded ≡ i = cc in
        subst (guard m limits s) it (finish q runs over)
    by false may false over is = cc

idle-guard : (m : Meaning) (limits : Limits) (n : ℕ) (s : State) (i : Item) → MayFinish s → (idle_turn n s (running s.migrations)).decision.item ≡ Some i → guard m limits s i
idle-guard m limits n s i finish is = by (running s.migrations) refl is
  where
    by : (o : Option Migration) → running s.migrations ≡ o → (idle_turn n s o).decision.item ≡ Some i → guard m limits s i
    by None runs is = cc
    by (Some q) runs is = claim-guard m limits n s q i runs finish is

-- nothing of the span stands elsewhere
nothing_left : (w : Work) (s : State) (k : IsWork w s) → elsewhere w.span w.target s.objects ≡ None → elsewhere k.held.span k.held.migration.target s.objects ≡ None
nothing_left w s k is =
    ap (λ (r : Span). elsewhere r k.held.migration.target s.objects) k.span ∙ ap (λ (t : ℕ). elsewhere w.span t s.objects) k.target ∙ is

first_left : (w : Work) (s : State) (e : Stored) (k : IsWork w s) → elsewhere w.span w.target s.objects ≡ Some e → elsewhere k.held.span k.held.migration.target s.objects ≡ Some e
first_left w s e k is =
    ap (λ (r : Span). elsewhere r k.held.migration.target s.objects) k.span ∙ ap (λ (t : ℕ). elsewhere w.span t s.objects) k.target ∙ is

pub turn-guard : (m : Meaning) (limits : Limits) (n : ℕ) (s : State) (c : Option ℕ) (i : Item) → MayFinish s → (turn_decision n s c).decision.item ≡ Some i → guard m limits s i
turn-guard m limits n s c i finish is = by (work_of c s) refl is
  where
    worked : (w : Work) → work_of c s ≡ Some w → (o : Option Stored) → elsewhere w.span w.target s.objects ≡ o → (prepare_turn w o).decision.item ≡ Some i → guard m limits s i
    worked w held None at is =
        let k = work_of-held c s w held in
        let it : note (RangeDone w.claim) ≡ i = cc in
        subst (guard m limits s) it (record { claim = k.held; nothing = nothing_left w s k at })
    worked w held (Some e) at is = cc

    by : (o : Option Work) → work_of c s ≡ o → (first_turn n s o).decision.item ≡ Some i → guard m limits s i
    by None held is = idle-guard m limits n s i finish is
    by (Some w) held is = worked w held (elsewhere w.span w.target s.objects) refl is

pub work-guard : (m : Meaning) (limits : Limits) (n : ℕ) (s : State) (c : Option ℕ) (i : Item) → MayFinish s → (work_decision n s c).decision.item ≡ Some i → guard m limits s i
work-guard m limits n s c i finish is = by (work_of c s) refl is
  where
    worked : (w : Work) → work_of c s ≡ Some w → (o : Option Stored) → elsewhere w.span w.target s.objects ≡ o → (work_turn n w o).decision.item ≡ Some i → guard m limits s i
    worked w held None at is =
        let k = work_of-held c s w held in
        let it : note (RangeDone w.claim) ≡ i = cc in
        subst (guard m limits s) it (record { claim = k.held; nothing = nothing_left w s k at })
    worked w held (Some e) at is =
        let k = work_of-held c s w held in
        let it : entry (Touch e.key w.claim) ≡ i = cc in
        subst (guard m limits s) it (record { claim = k.held; first = e; is_first = first_left w s e k at; under = refl })

    by : (o : Option Work) → work_of c s ≡ o → (whole_turn n s o).decision.item ≡ Some i → guard m limits s i
    by None held is = idle-guard m limits n s i finish is
    by (Some w) held is = worked w held (elsewhere w.span w.target s.objects) refl is

-- a touch of a prepared object, where that is the first of the claim's span that stands elsewhere
pub touch-guard : (m : Meaning) (limits : Limits) (n : ℕ) (s : State) (c : Option ℕ) (k : KeyView) (rv at : ℕ) (i : Item)
    → ((w : Work) → work_of c s ≡ Some w → is_ready w rv at (find k s.objects) ≡ true → (e : Stored) × (elsewhere w.span w.target s.objects ≡ Some e) × (e.key ≡ k))
    → (touch_decision n s c k rv at).decision.item ≡ Some i → guard m limits s i
touch-guard m limits n s c k rv at i first is = by (work_of c s) refl is
  where
    ready : (w : Work) → work_of c s ≡ Some w → (b : Bool) → is_ready w rv at (find k s.objects) ≡ b
        → item_of (if b then record { decision = enters (touched n) (entry (Touch k w.claim)); claim = Some w.claim } else record { decision = says missed; claim = Some w.claim }) ≡ Some i
        → guard m limits s i
    ready w held true is_b is =
        let work = work_of-held c s w held in
        let (e, there, under) = first w held is_b in
        let it : entry (Touch k w.claim) ≡ i = cc in
        subst (guard m limits s) it (record { claim = work.held; first = e; is_first = first_left w s e work there; under = under })
    ready w held false is_b is = cc

    by : (o : Option Work) → work_of c s ≡ o → (ready_turn n s k rv at o).decision.item ≡ Some i → guard m limits s i
    by None held is = cc
    by (Some w) held is = ready w held (is_ready w rv at (find k s.objects)) refl is

pub give_back-guard : (m : Meaning) (limits : Limits) (s : State) (c : Option ℕ) (i : Item) → (give_back_decision s c).item ≡ Some i → guard m limits s i
give_back-guard m limits s c i is = by (work_of c s) refl is
  where
    by : (o : Option Work) → work_of c s ≡ o → (give_back_of o).item ≡ Some i → guard m limits s i
    by None held is = cc
    by (Some w) held is =
        let k = work_of-held c s w held in
        let it : note (GiveBack w.claim) ≡ i = cc in
        subst (guard m limits s) it k.held

-- ---- what is prepared

-- a key and a number are those of the first object of the claim's span that stands elsewhere
pub record IsPrepared (c : Option ℕ) (k : KeyView) (rv : ℕ) (s : State) : Type 0 where
  pub work : Work
  pub held : work_of c s ≡ Some work
  pub object : Stored
  pub first : elsewhere work.span work.target s.objects ≡ Some object
  pub key : object.key ≡ k
  pub number : object.number ≡ rv
  pub inside : in_span work.span k ≡ true
  pub away : object.at ≢ work.target

-- what is found elsewhere is in the span, and elsewhere
pub elsewhere-is : (r : Span) (v : ℕ) (es : List Stored) (e : Stored) → elsewhere r v es ≡ Some e → (in_span r e.key ≡ true) × (e.at ≢ v)
elsewhere-is r v [] e is = cc
elsewhere-is r v (f ∷ es) e is = by (in_span r f.key) refl (nat_eq f.at v) refl is (elsewhere-is r v es e)
  where
    differ : nat_eq f.at v ≡ false → f.at ≢ v
    differ other same = let equal = eq-eqb f.at v same in cc

    by : (a : Bool) → in_span r f.key ≡ a → (b : Bool) → nat_eq f.at v ≡ b → (if a && not b then Some f else elsewhere r v es) ≡ Some e
        → (elsewhere r v es ≡ Some e → (in_span r e.key ≡ true) × (e.at ≢ v)) → (in_span r e.key ≡ true) × (e.at ≢ v)
    by true inside false other is more = let same : f ≡ e = cc in subst (λ (g : Stored). (in_span r g.key ≡ true) × (g.at ≢ v)) same (inside, differ other)
    by true inside true other is more = more is
    by false inside b other is more = more is

idle_prepares : (n : ℕ) (s : State) (o : Option Migration) (k : KeyView) (rv : ℕ) → (idle_turn n s o).decision.answer ≡ prepare k rv → ⊥
idle_prepares n s None k rv is = cc
idle_prepares n s (Some q) k rv is = by (may_claim s.plan) (is_done s.plan) is
  where
    by : (a b : Bool)
        → answer_of (if a then record { decision = enters claimed (note (Claim (s.plan.last + 1))); claim = Some (s.plan.last + 1) }
        else if b then record { decision = enters (finished n) (entry MarkSucceeded); claim = None }
        else record { decision = says idle; claim = None }) ≡ prepare k rv
        → ⊥
    by true b is = cc
    by false true is = cc
    by false false is = cc

pub turn-prepares : (n : ℕ) (s : State) (c : Option ℕ) (k : KeyView) (rv : ℕ) → (turn_decision n s c).decision.answer ≡ prepare k rv → IsPrepared c k rv s
turn-prepares n s c k rv is = by (work_of c s) refl is
  where
    worked : (w : Work) → work_of c s ≡ Some w → (o : Option Stored) → elsewhere w.span w.target s.objects ≡ o → (prepare_turn w o).decision.answer ≡ prepare k rv → IsPrepared c k rv s
    worked w held None at is = cc
    worked w held (Some e) at is =
        let key : e.key ≡ k = cc in
        let number : e.number ≡ rv = cc in
        let there = elsewhere-is w.span w.target s.objects e at in
        record {
          work = w;
          held = held;
          object = e;
          first = at;
          key = key;
          number = number;
          inside = subst (λ (j : KeyView). in_span w.span j ≡ true) key there.0;
          away = there.1;
        }

    by : (o : Option Work) → work_of c s ≡ o → (first_turn n s o).decision.answer ≡ prepare k rv → IsPrepared c k rv s
    by None held is = absurd (idle_prepares n s (running s.migrations) k rv is)
    by (Some w) held is = worked w held (elsewhere w.span w.target s.objects) refl is
