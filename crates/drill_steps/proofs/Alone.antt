-- A call on a pass that no other calls beside, of which memory isn't wanted, has the reply of the one-thread server at what the
-- pass had seen.
use Rattle.std.proofs.Common.{◌≡◌, ◌≢◌, ◌∙◌, ℕ, ◌<◌, ◌+◌, List, [], ◌∷◌, ◌++◌, Option, Some, None, Result, Ok, Err, Bool, true, false, refl, ap, sym, subst, arith, append_assoc}
use Rattle.std.proofs.lemmas.List.{append-nil, append_cancel_left}
use Rattle.std.specs.Prelude.{if◌then◌else◌}
use Rattle.kube_meta.specs.Key.{KeyView}
use Rattle.kube_meta.specs.Plan.{Migration, running, may_claim, is_done}
use Rattle.api_calls.specs.Calls.{Server, Call, get, list, create, replace, delete, group, crd, set_versions, trim, start, migration, migrations, raw, work, give_back, Told, answered, worked, failed, gave_back, Failure, no_memory, converter, IsTurn, Decides, Fails, IsMoved, IsLost, Comes, decided, wants_memory, not_converted, moved, lost}
use Rattle.api_calls.specs.Ends.{TurnEnd, grown, prepare}
use Rattle.api_calls.specs.Item.{Item, Logged, items}
use Rattle.api_calls.specs.Legal.{In}
use Rattle.api_calls.specs.Meaning.{Meaning}
use Rattle.api_calls.specs.Refusal as refusal
use Rattle.api_calls.specs.Replies.{Answer}
use Rattle.api_calls.specs.State.{State, revision, state}
use Rattle.api_calls.specs.Work.{Turn, Work, idle_turn, first_turn, turn_decision, work_decision}
use Rattle.turn_cell.specs.Turns.{Turned, addition}
use Rattle.turn_cell.specs.Views.{IsAlone}
use Rattle.turn_cell.specs.declared.view.View.{View}
use Rattle.shared_api.specs.Answered.{CallsOn}
use Rattle.drill_requests.specs.Bodies.{stamp}
use Rattle.drill_steps.specs.Calling.{Requests}

-- ---- lists of one pass

items_both : (xs ys : List Logged) → items (xs ++ ys) ≡ items xs ++ items ys
items_both [] ys = refl
items_both (x ∷ xs) ys = ap (λ (is : List Item). x.item ∷ is) (items_both xs ys)

grown_addition : {B : Type 0} (v : View B) (log : List Logged) (item : Option Item) → items (log ++ addition v log item) ≡ grown (items log) item
grown_addition v log None = ap (λ (ls : List Logged). items ls) (append-nil log)
grown_addition v log (Some i) = items_both log (addition v log (Some i))

-- what a call leaves
grows : {B : Type 0} (v z : View B) (log : List Logged) (item : Option Item) → log ≡ v.seen → Turned v z log item → items z.seen ≡ grown (items v.seen) item
grows {B = B} v z log item same turned =
    ap (λ (w : View B). items w.seen) turned.3 ∙ ap (λ (l : List Logged). items (l ++ addition v l item)) same ∙ grown_addition v v.seen item

-- a pass stays alone
pub still_alone : {B : Type 0} (v z : View B) (log : List Logged) (item : Option Item) → Turned v z log item → IsAlone v → IsAlone z
still_alone {B = B} v z log item turned alone = subst (λ (w : View B). IsAlone w) (sym turned.3) alone

-- ---- requests

one_answer : (a b : Answer) → answered a ≡ answered b → a ≡ b
one_answer a b is = cc

-- an answer that isn't want of memory
never_fails : (c : Call) (a : Answer) → a ≢ Err refusal.no_memory → Fails no_memory c (answered a) → ⊥
never_fails (get v k) a had is = had (one_answer a (Err refusal.no_memory) is)
never_fails (list v ns limit from) a had is = had (one_answer a (Err refusal.no_memory) is)
never_fails (create r) a had is = had (one_answer a (Err refusal.no_memory) is)
never_fails (replace r k) a had is = had (one_answer a (Err refusal.no_memory) is)
never_fails (delete v k body) a had is = had (one_answer a (Err refusal.no_memory) is)
never_fails group a had is = had (one_answer a (Err refusal.no_memory) is)
never_fails crd a had is = had (one_answer a (Err refusal.no_memory) is)
never_fails (set_versions body) a had is = had (one_answer a (Err refusal.no_memory) is)
never_fails (trim body) a had is = had (one_answer a (Err refusal.no_memory) is)
never_fails (start body) a had is = had (one_answer a (Err refusal.no_memory) is)
never_fails (migration name) a had is = had (one_answer a (Err refusal.no_memory) is)
never_fails migrations a had is = had (one_answer a (Err refusal.no_memory) is)
never_fails (raw k) a had is = had (one_answer a (Err refusal.no_memory) is)
never_fails (work claim) a had is = cc
never_fails (give_back claim) a had is = is

request_decided : (s : Server) (rose : Type 0) (given : List ℕ) (seen log : List Item) (c : Call) (a : Answer) (t : Told) (i : Option Item)
    → ¬ rose → a ≢ Err refusal.no_memory → t ≡ answered a → Comes s rose given seen log c t i → Decides s given log c (answered a) i
request_decided s rose given seen log c a t i never had is (decided d u j how) = subst (λ (x : Told). Decides s given log d x j) is how
request_decided s rose given seen log c a t i never had is (wants_memory d u how) = absurd (never_fails d a had (subst (λ (x : Told). Fails no_memory d x) is how))
request_decided s rose given seen log c a t i never had is (not_converted d u r converts how) = absurd (never r)
request_decided s rose given seen log c a t i never had is (moved claim how) = absurd cc
request_decided s rose given seen log c a t i never had is (lost claim how) = absurd cc

-- `given` is the stamp that the call was given; a call that takes none is decided alike with every one
pub requested : {B : Type 0} (s : Server) (rose : Type 0) (given : List ℕ) (v z : View B) (c : Call) (a : Answer) → ¬ rose → IsAlone v → a ≢ Err refusal.no_memory
    → ((i : Option Item) → Decides s given (items v.seen) c (answered a) i → Decides s stamp (items v.seen) c (answered a) i)
    → CallsOn s rose given v z c (answered a) → Requests s (items v.seen) c a (items z.seen)
requested {B = B} s rose given v z c a never alone had stamped calls = record {
  item = calls.item;
  decides = stamped calls.item (request_decided s rose given (items v.seen) (items v.seen) c a (answered a) calls.item never had refl
      (subst (λ (l : List Logged). Comes s rose given (items v.seen) (items l) c (answered a) calls.item) same calls.comes));
  grows = grows v z calls.log calls.item same calls.turned;
}
  where
    same : calls.log ≡ v.seen
    same = calls.turned.2 alone

-- ---- turns

first_empty : {X : Type 0} (xs ys : List X) → xs ++ ys ≡ [] → xs ≡ []
first_empty [] ys is = refl
first_empty (x ∷ xs) ys is = cc

last_empty : {X : Type 0} (xs ys : List X) → xs ++ ys ≡ [] → ys ≡ []
last_empty [] ys is = is
last_empty (x ∷ xs) ys is = cc

-- while no item came in, none named a key
not_moved : (m : Meaning) (log : List Item) (claim : Option ℕ) → IsMoved m log log claim → ⊥
not_moved m log claim is = subst (λ (since : List Item). In is.named.item since) none is.named.stands
  where
    none : is.since ≡ []
    none = last_empty is.asked.between is.since (append_cancel_left log (is.asked.between ++ is.since) []
        (sym (append_assoc log is.asked.between is.since) ∙ sym is.asked.goes_on ∙ sym (append-nil log)))

-- a worker without a claim is never told to prepare
never_asked : (may done : Bool) (a b c : Turn) (k : KeyView) (number : ℕ) → a.decision.answer ≢ prepare k number → b.decision.answer ≢ prepare k number → c.decision.answer ≢ prepare k number
    → (if may then a else if done then b else c).decision.answer ≢ prepare k number
never_asked true done a b c k number na nb nc = na
never_asked false true a b c k number na nb nc = nb
never_asked false false a b c k number na nb nc = nc

idle_asks_nothing : (n : ℕ) (s : State) (m : Option Migration) (k : KeyView) (number : ℕ) → (idle_turn n s m).decision.answer ≢ prepare k number
idle_asks_nothing n s None k number = λ e. cc
idle_asks_nothing n s (Some m) k number = never_asked (may_claim s.plan) (is_done s.plan) _ _ _ k number (λ e. cc) (λ e. cc) (λ e. cc)

-- nor was its claim lost
not_lost : (m : Meaning) (log : List Item) (claim : Option ℕ) → IsLost m log log claim → ⊥
not_lost m log claim is = idle_asks_nothing (revision log + 1) (state m log) (running (state m log).migrations) is.key is.asked.number
    (subst (λ (w : Option Work). (first_turn (revision log + 1) (state m log) w).decision.answer ≡ prepare is.key is.asked.number) is.lost
    (subst (λ (l : List Item). (turn_decision (revision l + 1) (state m l) claim).decision.answer ≡ prepare is.key is.asked.number) same is.asked.told))
  where
    same : log ++ is.asked.between ≡ log
    same = ap (λ (l : List Item). log ++ l) (first_empty is.asked.between is.since (append_cancel_left log (is.asked.between ++ is.since) []
        (sym (append_assoc log is.asked.between is.since) ∙ sym is.asked.goes_on ∙ sym (append-nil log)))) ∙ append-nil log

-- a turn that is told, as it is decided
pub record IsDecided (s : Server) (log : List Item) (claim : Option ℕ) (e : TurnEnd) (left : Option ℕ) (after : List Item) : Type 0 where
  pub end : e ≡ (work_decision (revision log + 1) (state s.meaning log) claim).decision.answer
  pub leaves : left ≡ (work_decision (revision log + 1) (state s.meaning log) claim).claim
  pub grows : after ≡ grown log (work_decision (revision log + 1) (state s.meaning log) claim).decision.item

turn_of : (s : Server) (given : List ℕ) (log after : List Item) (claim left : Option ℕ) (e : TurnEnd) (c : Call) (t : Told) (i : Option Item) → c ≡ work claim → t ≡ worked e left
    → after ≡ grown log i → Decides s given log c t i → IsDecided s log claim e left after
turn_of s given log after claim left e c t i call told grows how =
    let turn : IsTurn (work_decision (revision log + 1) (state s.meaning log) claim) t i = subst (λ (x : Call). Decides s given log x t i) call how in
    let both : worked e left ≡ worked (work_decision (revision log + 1) (state s.meaning log) claim).decision.answer (work_decision (revision log + 1) (state s.meaning log) claim).claim = sym told ∙ turn.0 in
    record { end = cc; leaves = cc; grows = grows ∙ ap (λ (x : Option Item). grown log x) turn.1 }

turn_decided : (s : Server) (rose : Type 0) (given : List ℕ) (log after : List Item) (claim left : Option ℕ) (e : TurnEnd) (c : Call) (t : Told) (i : Option Item) → ¬ rose
    → c ≡ work claim → t ≡ worked e left → after ≡ grown log i → Comes s rose given log log c t i → IsDecided s log claim e left after
turn_decided s rose given log after claim left e c t i never call told grows (decided d u j how) = turn_of s given log after claim left e d u j call told grows how
turn_decided s rose given log after claim left e c t i never call told grows (wants_memory d u how) =
    let fails : u ≡ failed no_memory claim = subst (λ (x : Call). Fails no_memory x u) call how in
    let both : worked e left ≡ failed no_memory claim = sym told ∙ fails in absurd cc
turn_decided s rose given log after claim left e c t i never call told grows (not_converted d u r converts how) = absurd (never r)
turn_decided s rose given log after claim left e c t i never call told grows (moved k how) = absurd (not_moved s.meaning log k how)
turn_decided s rose given log after claim left e c t i never call told grows (lost k how) = absurd (not_lost s.meaning log k how)

pub worked_alone : {B : Type 0} (s : Server) (rose : Type 0) (v z : View B) (claim left : Option ℕ) (e : TurnEnd) (t : Told) → ¬ rose → IsAlone v → t ≡ worked e left
    → CallsOn s rose [] v z (work claim) t → IsDecided s (items v.seen) claim e left (items z.seen)
worked_alone {B = B} s rose v z claim left e t never alone told calls =
    turn_decided s rose [] (items v.seen) (items z.seen) claim left e (work claim) t calls.item never refl told (grows v z calls.log calls.item same calls.turned)
    (subst (λ (l : List Logged). Comes s rose [] (items v.seen) (items l) (work claim) t calls.item) same calls.comes)
  where
    same : calls.log ≡ v.seen
    same = calls.turned.2 alone

-- a turn of a tool without faults never fails of it
never_converter : (s : Server) (rose : Type 0) (given : List ℕ) (seen log : List Item) (claim left : Option ℕ) (c : Call) (t : Told) (i : Option Item) → ¬ rose
    → c ≡ work claim → t ≡ failed converter left → Comes s rose given seen log c t i → ⊥
never_converter s rose given seen log claim left c t i never call told (decided d u j how) =
    let turn : IsTurn (work_decision (revision log + 1) (state s.meaning log) claim) u j = subst (λ (x : Call). Decides s given log x u j) call how in
    let both : failed converter left ≡ worked (work_decision (revision log + 1) (state s.meaning log) claim).decision.answer (work_decision (revision log + 1) (state s.meaning log) claim).claim = sym told ∙ turn.0 in cc
never_converter s rose given seen log claim left c t i never call told (wants_memory d u how) =
    let fails : u ≡ failed no_memory claim = subst (λ (x : Call). Fails no_memory x u) call how in
    let both : failed converter left ≡ failed no_memory claim = sym told ∙ fails in cc
never_converter s rose given seen log claim left c t i never call told (not_converted d u r converts how) = never r
never_converter s rose given seen log claim left c t i never call told (moved k how) = cc
never_converter s rose given seen log claim left c t i never call told (lost k how) = cc

pub no_converter : {B : Type 0} (s : Server) (rose : Type 0) (v z : View B) (claim left : Option ℕ) (t : Told) → ¬ rose → t ≡ failed converter left → CallsOn s rose [] v z (work claim) t → ⊥
no_converter {B = B} s rose v z claim left t never told calls = never_converter s rose [] (items v.seen) (items calls.log) claim left (work claim) t calls.item never refl told calls.comes
