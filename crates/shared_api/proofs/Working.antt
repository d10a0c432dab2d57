-- What the turns of a worker come to.
use Rattle.std.proofs.Common.{◌≡◌, ◌≤◌, ◌<◌, ◌+◌, ◌^◌, ℕ, Bool, true, false, List, [], ◌∷◌, ◌++◌, Option, None, Some, length, ap, sym, subst, refl, ◌∙◌, arith}
use Rattle.std.specs.Prelude.{◌≢◌, ◌⊎◌, ◌&&◌, not, nat_eq, option_map, if◌then◌else◌}
use Rattle.std.proofs.Common.{inl, inr}
use Rattle.kube_meta.specs.Key.{KeyView}
use Rattle.kube_meta.specs.Plan.{Span, Migration, in_span, running, may_claim, is_done}
use Rattle.kube_meta.specs.declared.limits.Limits.{Limits}
use Rattle.api_calls.proofs.Snaps.{in-find}
use Rattle.api_calls.proofs.Sound.{sound-all}
use Rattle.api_calls.specs.Ends.{TurnEnd, idle, claimed, prepare, touched, missed, finished, says, enters}
use Rattle.api_calls.specs.Item.{Claim, Touch, MarkSucceeded, entry}
use Rattle.api_calls.specs.Legal.{In, legal}
use Rattle.api_calls.specs.Objects.{Stored, find, elsewhere}
use Rattle.api_calls.specs.State.{revision}
use Rattle.api_calls.specs.Versions.{AreFlags}
use Rattle.api_calls.specs.Work.{Turn, claim_turn, idle_turn, prepare_turn, first_turn, turn_decision, is_ready, ready_turn, touch_decision}
use Rattle.api_calls.specs.inner.WorkGuards.{IsPrepared, turn-prepares}
use Rattle.api_calls.specs.declared.flags.Flags.{Flags}
use Rattle.api_core.specs.Keeps.{IsFound}
use Rattle.api_core.specs.Prepared.{Sees, seen_item}
use Rattle.api_core.specs.declared.seen.Peeked.{Peeked}
use Rattle.api_core.specs.declared.seen.Seen.{Seen}
use Rattle.shared_api.specs.inner.Working.{item_or, is_entered, first_of, second_of, IsCopy}
use Rattle.api_calls.specs.Calls.{give_back, gave_back, Server}
use Rattle.api_calls.specs.Calls as calls
use Rattle.api_calls.specs.Ends.{EndsAsDecided, bound, grown}
use Rattle.api_calls.specs.Item.{Logged, Item, note, GiveBack, items}
use Rattle.api_calls.specs.Meaning.{Meaning}
use Rattle.api_calls.specs.State.{State, state}
use Rattle.api_calls.specs.Work.{Work, work_of, give_back_of, give_back_decision}
use Rattle.api_core.specs.CoreOf.{CoreOf, StandsFor}
use Rattle.api_core.specs.laws.WorkRows.{work_of-claim}
use Rattle.turn_cell.specs.declared.view.View.{View}
use Rattle.shared_api.specs.Answered.{CallsOn}
use Rattle.shared_api.specs.inner.Turning.{Writes, item_if}
use Rattle.shared_api.specs.inner.Working.{number_of, Tells, BeginsTurn, IsReady, Touches}
use Rattle.shared_api.specs.Steps.{IsStep}
use Rattle.shared_api.specs.declared.step.TurnStep.{TurnStep}
use Rattle.migrate_core.specs.Moves as moves
use Rattle.record_store.specs.ByKey.{find as find_record}
use Rattle.record_store.specs.View.{item_key}
use Rattle.api_core.specs.laws.CoreLaws.{fits-later, known-later, next-later}
use Rattle.api_core.specs.laws.ListLaws.{items-append}
use Rattle.api_core.specs.Prepared.{FitsAt, KnownAt}
use Rattle.api_core.specs.Ready.{IsNext}
use Rattle.api_core.specs.Stands.{Stands}
use Rattle.api_core.specs.View.{CoreView}
use Rattle.api_core.specs.declared.seen.Prepared.{Prepared}
use Rattle.shared_api.specs.Base.{StandsCell, base_of, server_of}
use Rattle.shared_api.specs.declared.cell.CoreBase.{CoreBase}
use Rattle.shared_api.specs.declared.step.Begun.{Begun}
use Rattle.shared_api.proofs.Turns.{few_entries, items-length}
use Rattle.shared_api.proofs.Entering.{writes}
use Rattle.kube_meta.specs.Plan.{Plan}
use Rattle.api_calls.specs.Legal.{IsLegal}
use Rattle.api_core.specs.laws.ClaimLaws.{last-few}
use Rattle.api_core.specs.CoreOf.{SameBase}
use Rattle.api_core.specs.Turned.{WorkerTurned}
use Rattle.turn_cell.specs.declared.view.Stage.TheVariants.{Holds}
use Rattle.turn_cell.specs.Views.{set_stage, Later}
use Rattle.shared_api.specs.inner.Turning.{Closes}

-- ---- giving a claim back

-- the item that is decided is the one that tells the worker's claim
pub given-item : (s : State) (claim : Option ℕ) → (give_back_decision s claim).item ≡ item_if (give_back_decision s claim).answer (note (GiveBack (number_of claim)))
given-item s claim = by (work_of claim s) refl
  where
    by : (o : Option Work) → work_of claim s ≡ o → (give_back_of o).item ≡ item_if (give_back_of o).answer (note (GiveBack (number_of claim)))
    by None held = refl
    by (Some w) held = ap (λ (c : Option ℕ). Some (note (GiveBack (number_of c)))) (sym (work_of-claim claim s w held))

-- the core stands for the list with the item
pub given-stands : (P : List Item → Type 0) (log : List Item) (s : State) (claim : Option ℕ) (held : Bool) → EndsAsDecided bound P log (give_back_decision s claim) held
    → P (grown log (item_if held (note (GiveBack (number_of claim)))))
given-stands P log s claim held e =
    subst (λ (i : Option Item). P (grown log i)) (given-item s claim ∙ ap (λ (b : Bool). item_if b (note (GiveBack (number_of claim)))) (sym e.0)) e.1

-- the call
pub give_back_calls : {B : Type 0} (s : Server) (v z : View B) (log : List Logged) (claim : Option ℕ) (held : Bool)
    → held ≡ (give_back_decision (state s.meaning (items log)) claim).answer
    → Writes s v z log (item_if held (note (GiveBack (number_of claim)))) → CallsOn s ⊥ [] v z (give_back claim) (gave_back held)
give_back_calls s v z log claim held is writes = record {
  log = log;
  item = item_if held (note (GiveBack (number_of claim)));
  turned = writes.turned;
  legal = writes.after;
  comes = calls.decided (give_back claim) (gave_back held) (item_if held (note (GiveBack (number_of claim))))
      (ap gave_back is, ap (λ (b : Bool). item_if b (note (GiveBack (number_of claim)))) is ∙ sym (given-item (state s.meaning (items log)) claim));
}

-- ---- what a turn enters

abbrev IsToldBy : Turn → Type 0
IsToldBy t = item_if (is_entered t.decision.answer) (item_or t.decision.item) ≡ t.decision.item

claim-item : (n : ℕ) (s : State) → IsToldBy (claim_turn n s)
claim-item n s = by (may_claim s.plan) (is_done s.plan)
  where
    by : (a b : Bool)
        → IsToldBy (if a then record { decision = enters claimed (note (Claim (s.plan.last + 1))); claim = Some (s.plan.last + 1) }
        else if b then record { decision = enters (finished n) (entry MarkSucceeded); claim = None }
        else record { decision = says idle; claim = None })
    by true b = refl
    by false true = refl
    by false false = refl

-- the end of a first turn tells whether it entered an item
pub first-item : (n : ℕ) (s : State) (c : Option ℕ) → IsToldBy (turn_decision n s c)
first-item n s c = by (work_of c s)
  where
    worked : (w : Work) (o : Option Stored) → IsToldBy (prepare_turn w o)
    worked w None = refl
    worked w (Some e) = refl

    none : (o : Option Migration) → IsToldBy (idle_turn n s o)
    none None = refl
    none (Some q) = claim-item n s

    by : (o : Option Work) → IsToldBy (first_turn n s o)
    by None = none (running s.migrations)
    by (Some w) = worked w (elsewhere w.span w.target s.objects)

-- so does that of a second one, which tells nothing to prepare
pub second-item : (n : ℕ) (s : State) (c : Option ℕ) (k : KeyView) (rv at : ℕ) → IsToldBy (touch_decision n s c k rv at)
second-item n s c k rv at = by (work_of c s)
  where
    ready : (w : Work) (b : Bool)
        → IsToldBy (if b then record { decision = enters (touched n) (entry (Touch k w.claim)); claim = Some w.claim } else record { decision = says missed; claim = Some w.claim })
    ready w true = refl
    ready w false = refl

    by : (o : Option Work) → IsToldBy (ready_turn n s k rv at o)
    by None = refl
    by (Some w) = ready w (is_ready w rv at (find k s.objects))

abbrev answer_of : Turn → TurnEnd
answer_of t = t.decision.answer

pub second-over : (n : ℕ) (s : State) (c : Option ℕ) (k : KeyView) (rv at : ℕ) (j : KeyView) (q : ℕ) → (touch_decision n s c k rv at).decision.answer ≢ prepare j q
second-over n s c k rv at j q = by (work_of c s)
  where
    ready : (w : Work) (b : Bool)
        → answer_of (if b then record { decision = enters (touched n) (entry (Touch k w.claim)); claim = Some w.claim } else record { decision = says missed; claim = Some w.claim }) ≢ prepare j q
    ready w true is = cc
    ready w false is = cc

    by : (o : Option Work) → (ready_turn n s k rv at o).decision.answer ≢ prepare j q
    by None is = cc
    by (Some w) is = ready w (is_ready w rv at (find k s.objects)) is

-- where something is to be prepared, nothing is entered
pub prepare-none : (n : ℕ) (s : State) (c : Option ℕ) (k : KeyView) (rv : ℕ) → (turn_decision n s c).decision.answer ≡ prepare k rv → (turn_decision n s c).decision.item ≡ None
prepare-none n s c k rv is = sym (first-item n s c) ∙ ap (λ (e : TurnEnd). item_if (is_entered e) (item_or (turn_decision n s c).decision.item)) is

-- the core stands for the list with the item, whose number the end tells
pub told-stands : (P : List Item → Type 0) (log : List Item) (t : Turn) (end : TurnEnd) (entered : Bool)
    → item_if (is_entered t.decision.answer) (item_or t.decision.item) ≡ t.decision.item
    → entered ≡ is_entered end → EndsAsDecided bound P log t.decision end → P (grown log (item_if entered (item_or t.decision.item)))
told-stands P log t end entered told is e =
    subst (λ (i : Option Item). P (grown log i)) (sym told ∙ ap (λ (b : Bool). item_if b (item_or t.decision.item)) (ap is_entered (sym e.0) ∙ sym is)) e.1

-- ---- what is to be prepared

elsewhere-in : (r : Span) (v : ℕ) (es : List Stored) (e : Stored) → elsewhere r v es ≡ Some e → In e es
elsewhere-in r v [] e is = cc
elsewhere-in r v (f ∷ es) e is = by (in_span r f.key && not (nat_eq f.at v)) is (elsewhere-in r v es e)
  where
    by : (b : Bool) → (if b then Some f else elsewhere r v es) ≡ Some e → (elsewhere r v es ≡ Some e → In e es) → (e ≡ f) ⊎ In e es
    by true is more = inl (let same : e ≡ f = cc in same)
    by false is more = inr (more is)

-- the object that is to be prepared stands under its key
pub prepared-there : (m : Meaning) (limits : Limits) (log : List Item) (claim : Option ℕ) (k : KeyView) (rv : ℕ) → legal m limits log → (p : IsPrepared claim k rv (state m log))
    → find k (state m log).objects ≡ Some p.object
prepared-there m limits log claim k rv l p =
    subst (λ (j : KeyView). find j (state m log).objects ≡ Some p.object) p.key
    (in-find (state m log).objects p.object (sound-all m limits log l).rising (elsewhere-in p.work.span p.work.target (state m log).objects p.object p.first))

-- a look at the key of an object that is to be prepared sees it
pub copy-seen : (m : Meaning) (limits : Limits) (log : List Item) (claim : Option ℕ) (k : KeyView) (rv : ℕ) (peeked : Peeked)
    → legal m limits log → (first_of m log claim).decision.answer ≡ prepare k rv → Sees m log k peeked → AreFlags m.count peeked.flags
    → (seen : Seen) → peeked.found ≡ Some seen → IsCopy m log k peeked.flags.storage seen
copy-seen m limits log claim k rv peeked l told sees flags seen found =
    let p = turn-prepares (revision log + 1) (state m log) claim k rv told in
    let there = prepared-there m limits log claim k rv l p in
    record {
      object = p.object;
      there = there;
      keeps = subst (λ (o : Option Stored). IsFound m (Some (seen_item seen)) o) there
          (subst (λ (x : Option Seen). IsFound m (option_map seen_item x) (find k (state m log).objects)) found sees.found);
      storage = ap (λ (f : Flags). f.storage) sees.flags;
      known = flags.storage;
    }

pub none-seen : (m : Meaning) (limits : Limits) (log : List Item) (claim : Option ℕ) (k : KeyView) (rv : ℕ) (peeked : Peeked)
    → legal m limits log → (first_of m log claim).decision.answer ≡ prepare k rv → Sees m log k peeked → peeked.found ≡ None → ⊥
none-seen m limits log claim k rv peeked l told sees found =
    let p = turn-prepares (revision log + 1) (state m log) claim k rv told in
    let there = prepared-there m limits log claim k rv l p in
    subst (λ (o : Option Stored). IsFound m None o) there
    (subst (λ (x : Option Seen). IsFound m (option_map seen_item x) (find k (state m log).objects)) found sees.found)

-- ---- numbers that are few, where items are

pub few-revision : {V : Type 0} (meaning : V → Meaning) (c : CoreOf V) (log : List Logged) → StandsCell meaning c log → length log < 2 ^ 61 → c.view.revision ≤ 2 ^ 61
few-revision meaning c log stands short = let is = stands.0.revision in let few = few_entries log short in omega (arith, is, few)

pub few-claims : {V : Type 0} (meaning : V → Meaning) (c : CoreOf V) (log : List Logged) → StandsCell meaning c log → length log < 2 ^ 61 → c.view.migrations.plan.last < 2 ^ 61
few-claims meaning c log stands short =
    let last = last-few (meaning c.versions) c.view.limits (items log) stands.0.legal in
    let is = ap (λ (p : Plan). p.last) stands.0.present.plan in
    let same = items-length log in
    omega (arith, last, is, same, short)

-- ---- a first turn

-- the core stands for the list with the item that a first turn picks
pub first-stands : {V : Type 0} (meaning : V → Meaning) (c d : CoreOf V) (log : List Item) (claim left : Option ℕ) (end : TurnEnd) (entered : Bool) → SameBase c d
    → WorkerTurned (StandsFor meaning d) log (first_of (meaning c.versions) log claim) end left → entered ≡ is_entered end
    → StandsFor meaning d (grown log (item_if entered (item_or (first_of (meaning d.versions) log claim).decision.item)))
first-stands {V = V} meaning c d log claim left end entered kept turned is =
    subst (λ (x : V). StandsFor meaning d (grown log (item_if entered (item_or (first_of (meaning x) log claim).decision.item)))) (sym kept.versions)
    (told-stands (StandsFor meaning d) log (first_of (meaning c.versions) log claim) end entered
    (first-item (revision log + 1) (state (meaning c.versions) log) claim) is turned.ends)

pub begins : {V : Type 0} (meaning : V → Meaning) (c d : CoreOf V) (b : CoreBase V) (v w z : View (CoreBase V)) (claim left : Option ℕ) (r : Begun) (end : TurnEnd) (entered : Bool)
    → v.base ≡ Some (base_of c) → v.base ≡ Some b → (t : ℕ) × (w ≡ set_stage v w.seen (Holds t 0)) → Later v w.seen
    → StandsCell meaning c w.seen → length w.seen < 2 ^ 61 → SameBase c d
    → WorkerTurned (StandsFor meaning d) (items w.seen) (first_of (meaning c.versions) (items w.seen) claim) end left → entered ≡ is_entered end
    → ((log : List Item) (k : Option ℕ) → StandsFor meaning d (grown log (first_of (meaning d.versions) log k).decision.item)
    → end ≡ (first_of (meaning d.versions) log k).decision.answer → Tells (meaning d.versions) log end r)
    → Closes (item_if entered (item_or (first_of (meaning d.versions) (items w.seen) claim).decision.item)) w z → IsLegal (meaning d.versions) d.view.limits z.seen
    → BeginsTurn (server_of meaning b) v z claim left r
begins {V = V} meaning c d b v w z claim left r end entered based is took later stands short kept turned enters told closed legal =
    let log : List Item = items w.seen in
    let t : Turn = first_of (meaning c.versions) log claim in
    let same : base_of c ≡ b = cc (based, is) in
    let item : item_if entered (item_or (first_of (meaning d.versions) log claim).decision.item) ≡ t.decision.item =
    ap (λ (x : V). item_if entered (item_or (first_of (meaning x) log claim).decision.item)) kept.versions
    ∙ ap (λ (e : Bool). item_if e (item_or t.decision.item)) (enters ∙ ap is_entered turned.ends.0) ∙ first-item (revision log + 1) (state (meaning c.versions) log) claim in
    let tells : Tells (meaning c.versions) log end r =
    subst (λ (x : V). Tells (meaning x) log end r) kept.versions
    (told log claim
    (subst (λ (x : V). StandsFor meaning d (grown log (first_of (meaning x) log claim).decision.item)) (sym kept.versions) turned.ends.1)
    (turned.ends.0 ∙ ap (λ (x : V). (first_of (meaning x) log claim).decision.answer) (sym kept.versions))) in
    subst (λ (x : CoreBase V). BeginsTurn (server_of meaning x) v z claim left r) same (record {
      log = w.seen;
      writes = writes meaning c d (base_of c) v w z t.decision.item based based took later stands short kept
          (subst (λ (i : Option Item). Closes i w z) item closed) legal;
      tells = subst (λ (e : TurnEnd). Tells (meaning c.versions) log e r) turned.ends.0 tells;
      leaves = turned.claim;
    })

-- ---- a second turn

-- what the list says since the pass had seen it
pub later-items : {B : Type 0} (v : View B) (log : List Logged) → Later v log → (more : List Item) × (items log ≡ items v.seen ++ more)
later-items {B = B} v log later = (items later.0.0, ap items (sym later.0.1) ∙ items-append v.seen later.0.0)

-- what a core asks of a prepared value at a later list
module _ (m : Meaning) (c : CoreView) (log more : List Item) (claim : Option ℕ) (rv : ℕ) (p : Prepared) (st : Stands m c (log ++ more)) (r : IsReady m log claim rv p) where
  pub ready-fits : FitsAt p.key rv p (find_record item_key p.key c.store.items)
  ready-fits =
      subst (λ (n : ℕ). FitsAt p.key n p (find_record item_key p.key c.store.items)) r.asked.number
      (fits-later m c log more p.key r.asked.object p st r.there refl r.weight)

  pub ready-next : IsNext (moves.work_of claim c.migrations) p.key c.store.items (find_record item_key p.key c.store.items)
  ready-next = next-later m c log more claim p.key rv st r.asked

  pub ready-known : KnownAt m (log ++ more) p.key rv (λ e. r.asked.object.h ≡ e.h)
  ready-known =
      subst (λ (n : ℕ). KnownAt m (log ++ more) p.key n (λ e. r.asked.object.h ≡ e.h)) r.asked.number
      (known-later m log more p.key r.asked.object (λ e. r.asked.object.h ≡ e.h) r.there (λ honest. refl))

-- the core stands for the list with the item that a second turn picks
pub second-stands : {V : Type 0} (meaning : V → Meaning) (c d : CoreOf V) (log : List Item) (claim left : Option ℕ) (k : KeyView) (rv at : ℕ) (end : TurnEnd) (entered : Bool) → SameBase c d
    → WorkerTurned (StandsFor meaning d) log (second_of (meaning c.versions) log claim k rv at) end left → entered ≡ is_entered end
    → StandsFor meaning d (grown log (item_if entered (item_or (second_of (meaning d.versions) log claim k rv at).decision.item)))
second-stands {V = V} meaning c d log claim left k rv at end entered kept turned is =
    subst (λ (x : V). StandsFor meaning d (grown log (item_if entered (item_or (second_of (meaning x) log claim k rv at).decision.item)))) (sym kept.versions)
    (told-stands (StandsFor meaning d) log (second_of (meaning c.versions) log claim k rv at) end entered
    (second-item (revision log + 1) (state (meaning c.versions) log) claim k rv at) is turned.ends)

pub touches : {V : Type 0} (meaning : V → Meaning) (c d : CoreOf V) (b : CoreBase V) (v w z : View (CoreBase V)) (claim left : Option ℕ) (k : KeyView) (rv at : ℕ) (r : TurnStep) (end : TurnEnd) (entered : Bool)
    → v.base ≡ Some (base_of c) → v.base ≡ Some b → (t : ℕ) × (w ≡ set_stage v w.seen (Holds t 0)) → Later v w.seen
    → StandsCell meaning c w.seen → length w.seen < 2 ^ 61 → SameBase c d
    → WorkerTurned (StandsFor meaning d) (items w.seen) (second_of (meaning c.versions) (items w.seen) claim k rv at) end left → entered ≡ is_entered end
    → (((j : KeyView) (q : ℕ) → end ≢ prepare j q) → IsStep r end)
    → Closes (item_if entered (item_or (second_of (meaning d.versions) (items w.seen) claim k rv at).decision.item)) w z → IsLegal (meaning d.versions) d.view.limits z.seen
    → Touches (server_of meaning b) v z claim left k rv at r
touches {V = V} meaning c d b v w z claim left k rv at r end entered based is took later stands short kept turned enters told closed legal =
    let log : List Item = items w.seen in
    let t : Turn = second_of (meaning c.versions) log claim k rv at in
    let same : base_of c ≡ b = cc (based, is) in
    let item : item_if entered (item_or (second_of (meaning d.versions) log claim k rv at).decision.item) ≡ t.decision.item =
    ap (λ (x : V). item_if entered (item_or (second_of (meaning x) log claim k rv at).decision.item)) kept.versions
    ∙ ap (λ (e : Bool). item_if e (item_or t.decision.item)) (enters ∙ ap is_entered turned.ends.0) ∙ second-item (revision log + 1) (state (meaning c.versions) log) claim k rv at in
    subst (λ (x : CoreBase V). Touches (server_of meaning x) v z claim left k rv at r) same (record {
      log = w.seen;
      writes = writes meaning c d (base_of c) v w z t.decision.item based based took later stands short kept
          (subst (λ (i : Option Item). Closes i w z) item closed) legal;
      step = subst (λ (e : TurnEnd). IsStep r e) turned.ends.0
          (told (λ j q is. second-over (revision log + 1) (state (meaning c.versions) log) claim k rv at j q (sym turned.ends.0 ∙ is)));
      leaves = turned.claim;
    })

-- what was ready at the list that the pass had seen, told of the core that it took
pub ready-here : {V : Type 0} (meaning : V → Meaning) (c : CoreOf V) (v : View (CoreBase V)) (claim : Option ℕ) (rv : ℕ) (p : Prepared) → v.base ≡ Some (base_of c)
    → (b : CoreBase V) × (v.base ≡ Some b) × IsReady (meaning b.versions) (items v.seen) claim rv p → IsReady (meaning c.versions) (items v.seen) claim rv p
ready-here {V = V} meaning c v claim rv p based ready =
    let is = ready.1 in
    let same : ready.0 ≡ base_of c = cc (based, is) in
    subst (λ (x : CoreBase V). IsReady (meaning x.versions) (items v.seen) claim rv p) same ready.2

pub stands-later : {V : Type 0} (meaning : V → Meaning) (c : CoreOf V) (v : View (CoreBase V)) (log : List Logged) (later : Later v log) → StandsCell meaning c log
    → Stands (meaning c.versions) c.view (items v.seen ++ (later-items v log later).0)
stands-later meaning c v log later stands = subst (Stands (meaning c.versions) c.view) (later-items v log later).1 stands.0
