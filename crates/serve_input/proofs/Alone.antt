-- A pass that no other calls beside answers, and lets a worker take turns, as a server of one thread: nothing stands in its list
-- but what it entered.
use Rattle.std.proofs.Common.{◌≡◌, ◌≢◌, ◌∙◌, ℕ, zero, suc, ◌+◌, ◌<◌, nat_eq, Bool, true, false, List, [], ◌∷◌, ◌++◌, Option, Some, None, Result, Ok, Err, inl, inr, refl, ap, sym, subst, arith, append_assoc}
use Rattle.std.proofs.lemmas.Bool.Decides.{nat_tests}
use Rattle.std.proofs.lemmas.List.{append-nil, append_cancel_left}
use Rattle.std.specs.Prelude.{OnErr, if◌then◌else◌}
use Rattle.kube_meta.specs.Key.{KeyView}
use Rattle.kube_meta.specs.Plan.{Migration, running, may_claim, is_done}
use Rattle.api_calls.specs.Calls.{Server, Call, work, Told, answered, worked, failed, gave_back, no_memory, converter, IsTurn, Decides, Fails, IsMoved, IsLost, Comes, decided, wants_memory, not_converted, moved, lost}
use Rattle.api_calls.specs.Ends.{grown, prepare}
use Rattle.api_calls.specs.Item.{Item, Logged, items, items_of}
use Rattle.api_calls.specs.laws.GrowthLaws.{legal-more}
use Rattle.api_calls.specs.Legal.{In, legal}
use Rattle.api_calls.specs.Meaning.{Meaning}
use Rattle.api_calls.specs.Reply.{ReplyView}
use Rattle.api_calls.specs.State.{State, revision, state}
use Rattle.api_calls.specs.Work.{Turn, Work, idle_turn, first_turn, turn_decision}
use Rattle.api_calls.specs.inner.WorkGuards.{work-guard}
use Rattle.api_calls.proofs.Sound.{sound-all, finished}
use Rattle.turn_cell.specs.laws.Laws.{items_of-append}
use Rattle.turn_cell.specs.Turns.{addition}
use Rattle.turn_cell.specs.Views.{IsAlone}
use Rattle.turn_cell.specs.declared.view.View.{View}
use Rattle.shared_api.specs.Answered.{CallsOn}
use Rattle.shared_api.specs.Steps.{IsTold, IsToPrepare}
use Rattle.shared_api.specs.declared.step.TurnStep.{TurnStep}
use Rattle.shared_api.specs.declared.step.WorkFault.{WorkFault}
use Rattle.http_wire.specs.Head.{Request}
use Rattle.http_wire.specs.Stream.{End as InputEnd}
use Rattle.http_routes.specs.Routes.{Route}
use Rattle.http_routes.specs.Routes as route
use Rattle.http_front.specs.One.{AnswersOne, EndsInput, Did}
use Rattle.request_replies.specs.Replies.{Front, Replies, RoutedReply}
use Rattle.http_front.specs.Steps.{Point, StepAnswers, IsSameBut, added}
use Rattle.http_front.specs.declared.one.OneEnd.TheVariants as steps
use Rattle.serve_input.specs.Conversed.{At, AnswersAlone, AnswersAndWorks, TakesTurn, TakesTurns, no_turn, one_more, turn_at, turned}

-- ---- lists of one pass

-- no item is of another than this pass
abbrev pub IsOwn : ℕ → List Logged → Type 0
IsOwn n log = (m : ℕ) → m ≢ n → items_of m log ≡ []

items_both : (xs ys : List Logged) → items (xs ++ ys) ≡ items xs ++ items ys
items_both [] ys = refl
items_both (x ∷ xs) ys = ap (λ (is : List Item). x.item ∷ is) (items_both xs ys)

first_empty : {X : Type 0} (xs ys : List X) → xs ++ ys ≡ [] → xs ≡ []
first_empty [] ys is = refl
first_empty (x ∷ xs) ys is = cc

last_empty : {X : Type 0} (xs ys : List X) → xs ++ ys ≡ [] → ys ≡ []
last_empty [] ys is = is
last_empty (x ∷ xs) ys is = cc

-- an item is one of its pass
listed : (m : ℕ) (l : Logged) (ls : List Logged) → nat_eq l.by m ≡ true → items_of m (l ∷ ls) ≡ [] → ⊥
listed m l ls is none = let p : l ∷ items_of m ls ≡ [] = rw is at none in cc

itself : (m : ℕ) → nat_eq m m ≡ true
itself m = grind (arith, nat_tests)

differs : (m n : ℕ) → nat_eq m n ≡ false → m ≢ n
differs m n is = λ e. let p : true ≡ false = sym (itself m) ∙ subst (λ (k : ℕ). nat_eq m k ≡ false) (sym e) is in cc

-- a list without items of this pass or of another is empty
nobodys : (n : ℕ) (log : List Logged) → items_of n log ≡ [] → IsOwn n log → log ≡ []
nobodys n [] strangers own = refl
nobodys n (l ∷ ls) strangers own = absurd (by (nat_eq l.by n) refl)
  where
    by : (b : Bool) → nat_eq l.by n ≡ b → ⊥
    by true is = listed n l ls is strangers
    by false is = listed l.by l ls (itself l.by) (own l.by (differs l.by n is))

-- ---- replies by a tool that fails only where it may

failing : (s : Server) (rose fails : Type 0) (stamp : List ℕ) (seen log : List Item) (c : Call) (t : Told) (i : Option Item)
    → (rose → fails) → Comes s rose stamp seen log c t i → Comes s fails stamp seen log c t i
failing s rose fails stamp seen log c t i may (decided d u j is) = decided d u j is
failing s rose fails stamp seen log c t i may (wants_memory d u is) = wants_memory d u is
failing s rose fails stamp seen log c t i may (not_converted d u r converts is) = not_converted d u (may r) converts is
failing s rose fails stamp seen log c t i may (moved claim is) = moved claim is
failing s rose fails stamp seen log c t i may (lost claim is) = lost claim is

failing_route : (f : Front) (rose fails : Type 0) (seen log : List Item) (r : Route) (a : ReplyView) (i : Option Item)
    → (rose → fails) → RoutedReply f rose seen log r a i → RoutedReply f fails seen log r a i
failing_route f rose fails seen log (route.calls c) a i may reply = record {
  stamp = reply.stamp;
  answer = reply.answer;
  may = reply.may;
  told = reply.told;
  comes = failing f.server rose fails reply.stamp seen log c (answered reply.answer) i may reply.comes;
}
failing_route f rose fails seen log route.no_resource a i may reply = reply
failing_route f rose fails seen log route.method_not_allowed a i may reply = reply
failing_route f rose fails seen log (route.bad_request why) a i may reply = reply

failing_reply : (f : Front) (rose fails : Type 0) (seen log : List Item) (r : Request) (a : ReplyView) (i : Option Item)
    → (rose → fails) → Replies f rose seen log r a i → Replies f fails seen log r a i
failing_reply f rose fails seen log r a i may (inl reply) = inl (record {
  route = reply.route;
  routes = reply.routes;
  reply = failing_route f rose fails seen log reply.route a i may reply.reply;
})
failing_reply f rose fails seen log r a i may (inr memory) = inr memory

-- ---- an answer

grown_by : (n : ℕ) (log : List Logged) (item : Option Item) → items (log ++ added n log item) ≡ grown (items log) item
grown_by n log None = ap (λ (ls : List Logged). items ls) (append-nil log)
grown_by n log (Some i) = items_both log (added n log (Some i))

-- of another pass nothing stands behind what had been seen
nothing_behind : (m : ℕ) (seen others more : List Logged) → items_of m ((seen ++ others) ++ more) ≡ items_of m seen → items_of m others ≡ []
nothing_behind m seen others more is =
    let behind : items_of m seen ++ items_of m (others ++ more) ≡ items_of m seen ++ [] =
    sym (items_of-append m seen (others ++ more)) ∙ ap (λ (ls : List Logged). items_of m ls) (sym (append_assoc seen others more)) ∙ is ∙ sym (append-nil (items_of m seen)) in
    first_empty (items_of m others) (items_of m more) (sym (items_of-append m others more) ∙ append_cancel_left (items_of m seen) (items_of m (others ++ more)) [] behind)

-- where a pass is alone, its answer is that of a server of one thread
alone_step : (f : Front) (fails : Type 0) (n : ℕ) (p q : Point) (r : Request) (a : ReplyView) → (p.faults < q.faults → fails)
    → ((m : ℕ) → m ≢ n → items_of m q.seen ≡ items_of m p.seen) → StepAnswers f n p r a q
    → AnswersAlone f fails (items p.seen) r a (items q.seen)
alone_step f fails n p q r a may quiet step = record {
  item = step.item;
  replies = subst (λ (log : List Logged). Replies f fails (items p.seen) (items log) r a step.item) same
      (failing_reply f (p.faults < q.faults) fails (items p.seen) (items (p.seen ++ step.others)) r a step.item may step.replies);
  grows = ap (λ (log : List Logged). items log) step.seen
      ∙ ap (λ (log : List Logged). items (log ++ added n log step.item)) same ∙ grown_by n p.seen step.item;
}
  where
    own : IsOwn n step.others
    own = λ m other. nothing_behind m p.seen step.others (added n (p.seen ++ step.others) step.item)
        (subst (λ (log : List Logged). items_of m log ≡ items_of m p.seen) step.seen (quiet m other))

    same : p.seen ++ step.others ≡ p.seen
    same = ap (λ (log : List Logged). p.seen ++ log) (nobodys n step.others step.strangers own) ∙ append-nil p.seen

-- ---- one request, and then turns

-- where the server stands after these items, with that claim
abbrev at : List Logged → Option ℕ → At
at seen claim = record { log = items seen; claim = claim }

-- what a turn enters in a legal list has its guard
turned_legal : (s : Server) (p : At) → legal s.meaning s.limits p.log → legal s.meaning s.limits (turned s p).log
turned_legal s p l = by (turn_at s p).decision.item refl
  where
    by : (i : Option Item) → (turn_at s p).decision.item ≡ i → legal s.meaning s.limits (grown p.log i)
    by None is = l
    by (Some i) is = legal-more s.meaning s.limits p.log i l
        (work-guard s.meaning s.limits (revision p.log + 1) (state s.meaning p.log) p.claim i
        (λ q runs done. finished q (state s.meaning p.log) (sound-all s.meaning s.limits p.log l) runs done) is)

-- turns that would be taken
would_take : (s : Server) (w : At) (n : ℕ) → legal s.meaning s.limits w.log → (u : At) × legal s.meaning s.limits u.log × TakesTurns s w n u
would_take s w zero l = (w, l, no_turn)
would_take s w (suc n) l =
    let so_far = would_take s w n l in
    let same : n + 1 ≡ suc n = omega arith in (
      turned s so_far.0,
      turned_legal s so_far.0 so_far.1,
      subst (λ (k : ℕ). TakesTurns s w k (turned s so_far.0)) same (one_more n so_far.0 (turned s so_far.0) so_far.2 (inl refl)),
    )

module _ (f : Front) (fails : Type 0) (turns : ℕ) (p q : Point) (claim : Option ℕ) (known left before written : Option (List ℕ)) (may : p.faults < q.faults → fails)
    (quiet : (m : ℕ) → m ≢ 0 → items_of m q.seen ≡ items_of m p.seen) where
  pub answered_and_worked : (closes : Bool) (u : At) → AnswersOne (StepAnswers f 0) closes p q known left before written → TakesTurns f.server (at q.seen claim) turns u
      → AnswersOne (AnswersAndWorks f fails turns) closes (at p.seen claim) u known left before written
  answered_and_worked closes u one works = record {
    exchange = one.exchange;
    step = record {
      mid = items q.seen;
      answers = alone_step f fails 0 p q one.exchange.request one.exchange.answer may quiet one.step;
      works = works;
    };
    reads = one.reads;
    asked = one.asked;
    wrote = one.wrote;
  }

  pub ended_at : (end : InputEnd) → EndsInput p q known before written end → EndsInput (at p.seen claim) (at q.seen claim) known before written end
  ended_at end ends = record {
    same = ap (λ (w : Point). at w.seen claim) ends.same;
    ended = ends.ended;
    wrote = ends.wrote;
  }

  pub unread_at : (q ≡ p) × (written ≡ before) → (at q.seen claim ≡ at p.seen claim) × (written ≡ before)
  unread_at did = (ap (λ (w : Point). at w.seen claim) did.0, did.1)

  pub broke_at : legal f.server.meaning f.server.limits (items q.seen) → Did (StepAnswers f 0) steps.WriteFault p q known left before written
      → (u : At) × legal f.server.meaning f.server.limits u.log × Did (AnswersAndWorks f fails turns) steps.WriteFault (at p.seen claim) u known left before written
  broke_at l did = elim did [
    | inl broke ↦
        let after = would_take f.server (at q.seen claim) turns l in (
          after.0,
          after.1,
          inl (record {
            exchange = broke.exchange;
            step = record {
              mid = items q.seen;
              answers = alone_step f fails 0 p q broke.exchange.request broke.exchange.answer may quiet broke.step;
              works = after.2;
            };
            reads = broke.reads;
            some = broke.some;
          }),
        )
    | inr broke ↦ (
      at q.seen claim,
      l,
      inr (record {
        fault = broke.fault;
        same = ap (λ (w : Point). at w.seen claim) broke.same;
        ended = broke.ended;
        some = broke.some;
      }),
    )
  ]

-- ---- turns

-- the claim that is left, as a worker is told
abbrev Leaves : Told → Option ℕ → Type 0
Leaves (answered a) left = ⊥
Leaves (worked e c) left = left ≡ c
Leaves (failed f c) left = left ≡ c
Leaves (gave_back b) left = ⊥

told_leaves : (came : Result TurnStep WorkFault) (left : Option ℕ) (t : Told) → IsTold came left t → Leaves t left
told_leaves (Ok step) left t is = subst (λ (x : Told). Leaves x left) (sym is.2) refl
told_leaves (Err fault) left t is = subst (λ (x : Told). Leaves x left) (sym is) refl

-- a turn that failed, as a worker is told, did so of this
abbrev FailsOf : Told → Type 0 → Type 0
FailsOf (answered a) P = Unit {0}
FailsOf (worked e c) P = Unit {0}
FailsOf (failed f c) P = P
FailsOf (gave_back b) P = Unit {0}

told_fails : (came : Result TurnStep WorkFault) (left : Option ℕ) (t : Told) (P : Type 0) → IsTold came left t → OnErr came P → FailsOf t P
told_fails (Ok step) left t P is why = subst (λ (x : Told). FailsOf x P) (sym is.2) tt
told_fails (Err fault) left t P is why = subst (λ (x : Told). FailsOf x P) (sym is) why

-- while no item came in, none named a key
not_moved : (m : Meaning) (log : List Item) (claim : Option ℕ) → IsMoved m log log claim → ⊥
not_moved m log claim is = subst (λ (since : List Item). In is.named.item since) none is.named.stands
  where
    none : is.since ≡ []
    none = last_empty is.asked.between is.since (append_cancel_left log (is.asked.between ++ is.since) []
        (sym (append_assoc log is.asked.between is.since) ∙ sym is.asked.goes_on ∙ sym (append-nil log)))

-- a worker without a claim is never told to prepare
never_asked : (may done : Bool) (a b c : Turn) (k : KeyView) (number : ℕ) → a.decision.answer ≢ prepare k number → b.decision.answer ≢ prepare k number → c.decision.answer ≢ prepare k number
    → (if may then a else if done then b else c).decision.answer ≢ prepare k number
never_asked true done a b c k number na nb nc = na
never_asked false true a b c k number na nb nc = nb
never_asked false false a b c k number na nb nc = nc

idle_asks_nothing : (n : ℕ) (s : State) (m : Option Migration) (k : KeyView) (number : ℕ) → (idle_turn n s m).decision.answer ≢ prepare k number
idle_asks_nothing n s None k number = λ e. cc
idle_asks_nothing n s (Some m) k number = never_asked (may_claim s.plan) (is_done s.plan) _ _ _ k number (λ e. cc) (λ e. cc) (λ e. cc)

-- nor was its claim lost
not_lost : (m : Meaning) (log : List Item) (claim : Option ℕ) → IsLost m log log claim → ⊥
not_lost m log claim is = idle_asks_nothing (revision log + 1) (state m log) (running (state m log).migrations) is.key is.asked.number
    (subst (λ (w : Option Work). (first_turn (revision log + 1) (state m log) w).decision.answer ≡ prepare is.key is.asked.number) is.lost
    (subst (λ (l : List Item). (turn_decision (revision l + 1) (state m l) claim).decision.answer ≡ prepare is.key is.asked.number) same is.asked.told))
  where
    same : log ++ is.asked.between ≡ log
    same = ap (λ (l : List Item). log ++ l) (first_empty is.asked.between is.since (append_cancel_left log (is.asked.between ++ is.since) []
        (sym (append_assoc log is.asked.between is.since) ∙ sym is.asked.goes_on ∙ sym (append-nil log)))) ∙ append-nil log

at_both : (p q : At) → p.log ≡ q.log → p.claim ≡ q.claim → p ≡ q
at_both p q logs claims = ap (λ (log : List Item). let w : At = record { log = log; claim = p.claim } in w) logs
    ∙ ap (λ (claim : Option ℕ). let w : At = record { log = q.log; claim = claim } in w) claims

-- how a turn comes out where no other calls
turn_comes : (s : Server) (rose : Type 0) (stamp : List ℕ) (p q : At) (c : Call) (t : Told) (i : Option Item) → c ≡ work p.claim
    → Comes s rose stamp p.log p.log c t i → Leaves t q.claim → FailsOf t (IsToPrepare s.meaning q.log p.claim) → q.log ≡ grown p.log i → TakesTurn s p q
turn_comes s rose stamp p q c t i is (decided d u j how) leaves why grows =
    let turn : IsTurn (turn_at s p) u j = subst (λ (x : Call). Decides s stamp p.log x u j) is how in
    inl (at_both q (turned s p)
    (grows ∙ ap (λ (x : Option Item). grown p.log x) turn.1)
    (subst (λ (x : Told). Leaves x q.claim) turn.0 leaves))
turn_comes s rose stamp p q c t i is (wants_memory d u how) leaves why grows =
    let fails : u ≡ failed no_memory p.claim = subst (λ (x : Call). Fails no_memory x u) is how in
    let asked : IsToPrepare s.meaning q.log p.claim = subst (λ (x : Told). FailsOf x (IsToPrepare s.meaning q.log p.claim)) fails why in
    inr (
      subst (λ (log : List Item). IsToPrepare s.meaning log p.claim) grows asked,
      at_both q p grows (subst (λ (x : Told). Leaves x q.claim) fails leaves),
    )
turn_comes s rose stamp p q c t i is (not_converted d u r converts how) leaves why grows =
    let fails : u ≡ failed converter p.claim = subst (λ (x : Call). Fails converter x u) is how in
    let asked : IsToPrepare s.meaning q.log p.claim = subst (λ (x : Told). FailsOf x (IsToPrepare s.meaning q.log p.claim)) fails why in
    inr (
      subst (λ (log : List Item). IsToPrepare s.meaning log p.claim) grows asked,
      at_both q p grows (subst (λ (x : Told). Leaves x q.claim) fails leaves),
    )
turn_comes s rose stamp p q c t i is (moved claim how) leaves why grows = absurd (not_moved s.meaning p.log claim how)
turn_comes s rose stamp p q c t i is (lost claim how) leaves why grows = absurd (not_lost s.meaning p.log claim how)

grown_addition : {B : Type 0} (v : View B) (log : List Logged) (item : Option Item) → items (log ++ addition v log item) ≡ grown (items log) item
grown_addition v log None = ap (λ (ls : List Logged). items ls) (append-nil log)
grown_addition v log (Some i) = items_both log (addition v log (Some i))

-- a turn on a pass that no other calls beside
pub turn_alone : {B : Type 0} (s : Server) (rose : Type 0) (v z : View B) (claim left : Option ℕ) (came : Result TurnStep WorkFault) (t : Told)
    → IsAlone v → IsTold came left t → OnErr came (IsToPrepare s.meaning (items z.seen) claim) → CallsOn s rose [] v z (work claim) t
    → TakesTurn s (record { log = items v.seen; claim = claim }) (record { log = items z.seen; claim = left })
turn_alone {B = B} s rose v z claim left came t alone told why calls =
    turn_comes s rose [] (record { log = items v.seen; claim = claim }) (record { log = items z.seen; claim = left }) (work claim) t calls.item refl
    (subst (λ (log : List Logged). Comes s rose [] (items v.seen) (items log) (work claim) t calls.item) same calls.comes)
    (told_leaves came left t told)
    (told_fails came left t (IsToPrepare s.meaning (items z.seen) claim) told why)
    (ap (λ (w : View B). items w.seen) calls.turned.3 ∙ ap (λ (log : List Logged). items (log ++ addition v log calls.item)) same ∙ grown_addition v v.seen calls.item)
  where
    same : calls.log ≡ v.seen
    same = calls.turned.2 alone

pub alone_on : {B : Type 0} (v z : View B) → IsSameBut v z → IsAlone v → IsAlone z
alone_on {B = B} v z same alone = subst (λ (w : View B). IsAlone w) (sym same) alone
