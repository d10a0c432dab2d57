-- Connections that go on: each step keeps `Going`, and at the end it is `ServedAll`.
use Rattle.std.proofs.Common.{ℕ, zero, suc, ◌≡◌, ◌<◌, ◌≤◌, ◌+◌, ◌⊎◌, arith, length, List, [], ◌∷◌, ◌++◌, Option, Some, inl, inr, ⊎_elim, refl, ap, sym, ◌∙◌, subst, map, append_assoc, length-append, take, drop, slice_index_or}
use Rattle.std.proofs.lemmas.List.{append-nil}
use mathlib.Core.List.{IsPrefix}
use Rattle.api_calls.specs.Item.{Logged, items_of}
use Rattle.edge_io.specs.Connections.{Origin, Ending, AddsOne, HandsOut}
use Rattle.turn_cell.specs.laws.Laws.{prefix_self}
use Rattle.turn_cell.specs.Turns.{Meets, IsNew}
use Rattle.turn_cell.specs.Views.{numbers_of, numbers_or, halved}
use Rattle.turn_cell.specs.declared.view.View.{View}
use Rattle.serve_spans.specs.Spans.{IsSameBut, Service, Span, Linked, AreNotOf}
use Rattle.turn_cell.specs.Numbers.{In, Differ}
use Rattle.serve_spans.specs.Owners.{IsOfWorker, TakesTurns}
use Rattle.serve_spans.specs.Served.{Among, origins_of, HandsOutAll, AddsAll, AreWorkers, IsOfSpan, AreAll, ServedAll}
use Rattle.serve_spans.specs.inner.Keeping.{ArePast, IsServing, IsShared, Job, out_of, views_of, IsBegun, AllBegun, Going}
use Rattle.serve_spans.proofs.Lists.{map_append, map_snoc, in_left, in_right, differ_apart, number_in}
use Rattle.serve_spans.proofs.Spans.{Grows, numbers_met, linked_grows, span_of, past_of, one_worked, one_joins, one_met, one_begun, one_here}
use Rattle.serve_spans.proofs.Alone.{at_within, within_front, within_last, cover_starts, cover_more, cover_same, cover_met, cover_here, cover_works, cover_all, shared_starts, shared_made, shared_two, shared_met, shared_same, shared_ends, shared_part}

-- ---- lists that are told

some_origin : Origin → Option Origin
some_origin o = Some o

hands_out_more : (h0 handed later : Option (List Origin)) (hs : List (Option Origin)) (o : Option Origin) → HandsOutAll h0 hs handed → HandsOut handed later o → HandsOutAll h0 (hs ++ o ∷ []) later
hands_out_more h0 handed later hs o all one xs is =
    let h = all xs is in
    let r : (p : Origin) × (o ≡ Some p) × (later ≡ Some ((xs ++ h.0) ++ p ∷ [])) = subst (λ (q : Option (List Origin)). HandsOut q later o) h.2 one in (
      h.0 ++ r.0 ∷ [],
      (λ i. h.1 i ++ r.1 i ∷ []) ∙ sym (map_snoc (λ (p : Origin). let q : Option Origin = Some p in q) h.0 r.0),
      r.2 ∙ ap (λ (ys : List Origin). let q : Option (List Origin) = Some ys in q) (append_assoc xs h.0 (r.0 ∷ [])),
    )

adds_more : (g0 given later : Option (List Ending)) (cs : List Ending) (c : Ending) → AddsAll g0 cs given → AddsOne given later c → AddsAll g0 (cs ++ c ∷ []) later
adds_more g0 given later cs c all one xs is =
    let r : later ≡ Some ((xs ++ cs) ++ c ∷ []) = subst (λ (q : Option (List Ending)). AddsOne q later c) (all xs is) one in
    r ∙ ap (λ (ys : List Ending). let q : Option (List Ending) = Some ys in q) (append_assoc xs cs (c ∷ []))

-- ---- workers

in_last : (k m : ℕ) (ns : List ℕ) → k ≡ m → In k (ns ++ m ∷ [])
in_last k m [] e = inl e
in_last k m (n ∷ ns) e = inr (in_last k m ns e)

in_snoc : (k m : ℕ) (ns : List ℕ) → In k (ns ++ m ∷ []) → In k ns ⊎ (k ≡ m)
in_snoc k m [] h = ⊎_elim (λ (e : k ≡ m). inr e) (λ (none : ⊥). absurd none) h
in_snoc k m (n ∷ ns) h =
    ⊎_elim (λ (e : k ≡ n). inl (inl e)) (λ (a : In k (ns ++ m ∷ [])). ⊎_elim (λ (b : In k ns). inl (inr b)) (λ (e : k ≡ m). inr e) (in_snoc k m ns a)) h

differ_snoc : (ns : List ℕ) (m : ℕ) → Differ ns → ¬ In m ns → Differ (ns ++ m ∷ [])
differ_snoc [] m h new = ((λ none. none), tt)
differ_snoc (n ∷ ns) m h new = (
  (λ a. ⊎_elim (λ (b : In n ns). h.0 b) (λ (e : n ≡ m). new (inl (sym e))) (in_snoc n m ns a)),
  differ_snoc ns m h.1 (λ a. new (inr a)),
)

none_snoc : (ns : List ℕ) (ss : List Span) (s : Span) → AreNotOf ns ss → ¬ In s.number ns → AreNotOf ns (ss ++ s ∷ [])
none_snoc ns [] s h one = (one, tt)
none_snoc ns (t ∷ ts) s h one = (h.0, none_snoc ns ts s h.1 one)

-- a number that no span has is none of theirs
none_more : (ns ks : List ℕ) (k m : ℕ) (ss : List Span) → AreNotOf ns ss → ArePast ks k ss → ¬ In m ks → AreNotOf (ns ++ m ∷ []) ss
none_more ns ks k m [] h past new = tt
none_more ns ks k m (t ∷ ts) h past new = (
  (λ a. ⊎_elim (λ (b : In t.number ns). h.0 b) (λ (e : t.number ≡ m). new (subst (λ (j : ℕ). In j ks) e past.0.0)) (in_snoc t.number m ns a)),
  none_more ns ks k m ts h.1 past.1 new,
)

-- one more has no thread
idle_more : (number : Option ℕ) (idle : ℕ) (workers spared : List ℕ) (x : Logged) → IsOfWorker number idle workers spared x → IsOfWorker number (idle + 1) workers spared x
idle_more number idle workers spared x (work, of) = (
  work,
  ⊎_elim (λ (a : In x.by workers). inl a) (λ (b : In x.by spared ⊎ ((number ≡ Some x.by) × (0 < idle))).
      inr (⊎_elim (λ (c : In x.by spared). inl c) (λ (c : (number ≡ Some x.by) × (0 < idle)). inr (c.0, (let lt = c.1 in omega arith))) b)) of,
)

-- one more worked
worked_more : (number : Option ℕ) (idle : ℕ) (workers spared : List ℕ) (m : ℕ) (x : Logged) → IsOfWorker number idle workers spared x → IsOfWorker number idle (workers ++ m ∷ []) spared x
worked_more number idle workers spared m x (work, of) =
    (work, ⊎_elim (λ (a : In x.by workers). inl (in_left x.by workers (m ∷ []) a)) (λ (b : In x.by spared ⊎ ((number ≡ Some x.by) × (0 < idle))). inr b) of)

-- the thread of one more wasn't started
spared_more : (number : Option ℕ) (idle : ℕ) (workers spared : List ℕ) (m : ℕ) (x : Logged) → IsOfWorker number idle workers spared x → IsOfWorker number (idle + 1) workers (spared ++ m ∷ []) x
spared_more number idle workers spared m x (work, of) = (
  work,
  ⊎_elim (λ (a : In x.by workers). inl a) (λ (b : In x.by spared ⊎ ((number ≡ Some x.by) × (0 < idle))).
      inr (⊎_elim (λ (c : In x.by spared). inl (in_left x.by spared (m ∷ []) c)) (λ (c : (number ≡ Some x.by) × (0 < idle)). inr (c.0, (let lt = c.1 in omega arith))) b)) of,
)

-- the same of an equal number
renamed : (idle : ℕ) (workers spared : List ℕ) (a b : Option ℕ) → a ≡ b → (x : Logged) → IsOfWorker a idle workers spared x → IsOfWorker b idle workers spared x
renamed idle workers spared a b e x of = subst (λ (number : Option ℕ). IsOfWorker number idle workers spared x) e of

-- all these numbers stand in those
workers_on : (before now later : List ℕ) (ss : List Span) (ns : List ℕ) → ((m : ℕ) → In m now → In m later) → AreWorkers before now ss ns → AreWorkers before later ss ns
workers_on before now later ss ns on h = record {
  met = λ m a. let b = h.met m a in (on m b.0, b.1);
  differ = h.differ;
  serve_none = h.serve_none;
}

-- one more span, of another number
workers_span : (before now : List ℕ) (ss : List Span) (s : Span) (ns : List ℕ) → AreWorkers before now ss ns → ¬ In s.number ns → AreWorkers before now (ss ++ s ∷ []) ns
workers_span before now ss s ns h one = record {
  met = h.met;
  differ = h.differ;
  serve_none = none_snoc ns ss s h.serve_none one;
}

-- one more, whose number is new
workers_more : (before now later : List ℕ) (k : ℕ) (ss : List Span) (ns : List ℕ) (m : ℕ) → AreWorkers before now ss ns → ((j : ℕ) → In j before → In j now)
    → ((j : ℕ) → In j now → In j later) → ArePast now k ss → In m later → ¬ In m now → AreWorkers before later ss (ns ++ m ∷ [])
workers_more before now later k ss ns m h since on past here new = record {
  met = λ j a. ⊎_elim (λ (b : In j ns). let c = h.met j b in (on j c.0, c.1))
      (λ (e : j ≡ m). (subst (λ (i : ℕ). In i later) (sym e) here, (λ (b : In j before). new (subst (λ (i : ℕ). In i now) e (since j b))))) (in_snoc j m ns a);
  differ = differ_snoc ns m h.differ (λ a. new (h.met m a).0);
  serve_none = none_more ns now k m ss h.serve_none past new;
}

-- ---- all passes

span_left : (m : ℕ) (ss : List Span) (s : Span) → IsOfSpan m ss → IsOfSpan m (ss ++ s ∷ [])
span_left m [] s h = absurd h
span_left m (t ∷ ts) s h = ⊎_elim (λ (e : m ≡ t.number). inl e) (λ (a : IsOfSpan m ts). inr (span_left m ts s a)) h

span_last : (m : ℕ) (ss : List Span) (s : Span) → m ≡ s.number → IsOfSpan m (ss ++ s ∷ [])
span_last m [] s e = inl e
span_last m (t ∷ ts) s e = inr (span_last m ts s e)

-- the same of equal numbers
all_now : (before now later : List ℕ) (ss : List Span) (workers spared : List ℕ) → later ≡ now → AreAll before now ss workers spared → AreAll before later ss workers spared
all_now before now later ss workers spared same h = subst (λ (ns : List ℕ). AreAll before ns ss workers spared) (sym same) h

-- one more span, of one of these passes
all_span : (before now : List ℕ) (ss : List Span) (s : Span) (workers spared : List ℕ) → AreAll before now ss workers spared → AreAll before now (ss ++ s ∷ []) workers spared
all_span before now ss s workers spared h = record {
  passes = h.passes;
  came = h.came;
  differ = h.differ;
  owned = λ m a. ⊎_elim (λ (b : IsOfSpan m ss). inl (span_left m ss s b)) (λ (b : In m workers ⊎ In m spared). inr b) (h.owned m a);
  few = (let few = h.few in let more = length-append ss (s ∷ []) in omega arith);
  spare = h.spare;
}

-- one more pass, which is new
came_more : (before now passes later : List ℕ) (m : ℕ) → now ≡ before ++ passes → later ≡ now ++ m ∷ [] → later ≡ before ++ (passes ++ m ∷ [])
came_more before now passes later m came more = more ∙ (ap (λ (ns : List ℕ). ns ++ m ∷ []) came ∙ append_assoc before passes (m ∷ []))

pass_new : (before now passes : List ℕ) (m : ℕ) → now ≡ before ++ passes → ¬ In m now → ¬ In m passes
pass_new before now passes m came new a = new (subst (λ (ns : List ℕ). In m ns) (sym came) (in_right m before passes a))

all_met_span : (before now later : List ℕ) (ss : List Span) (s : Span) (workers spared : List ℕ) (m : ℕ) → later ≡ now ++ m ∷ [] → ¬ In m now → m ≡ s.number
    → AreAll before now ss workers spared → AreAll before later (ss ++ s ∷ []) workers spared
all_met_span before now later ss s workers spared m more new is h = record {
  passes = h.passes ++ m ∷ [];
  came = came_more before now h.passes later m h.came more;
  differ = differ_snoc h.passes m h.differ (pass_new before now h.passes m h.came new);
  owned = λ k a. ⊎_elim (λ (b : In k h.passes). ⊎_elim (λ (d : IsOfSpan k ss). inl (span_left k ss s d)) (λ (d : In k workers ⊎ In k spared). inr d) (h.owned k b))
      (λ (e : k ≡ m). inl (span_last k ss s (e ∙ is))) (in_snoc k m h.passes a);
  few = (let few = h.few in let more = length-append ss (s ∷ []) in let one = length-append h.passes (m ∷ []) in omega arith);
  spare = λ k a. in_left k h.passes (m ∷ []) (h.spare k a);
}

all_met_worker : (before now later : List ℕ) (ss : List Span) (workers spared : List ℕ) (m : ℕ) → later ≡ now ++ m ∷ [] → ¬ In m now
    → AreAll before now ss workers spared → AreAll before later ss (workers ++ m ∷ []) spared
all_met_worker before now later ss workers spared m more new h = record {
  passes = h.passes ++ m ∷ [];
  came = came_more before now h.passes later m h.came more;
  differ = differ_snoc h.passes m h.differ (pass_new before now h.passes m h.came new);
  owned = λ k a. ⊎_elim (λ (b : In k h.passes). ⊎_elim (λ (d : IsOfSpan k ss). inl d)
      (λ (d : In k workers ⊎ In k spared). inr (⊎_elim (λ (w : In k workers). inl (in_left k workers (m ∷ []) w)) (λ (w : In k spared). inr w) d)) (h.owned k b))
      (λ (e : k ≡ m). inr (inl (in_last k m workers e))) (in_snoc k m h.passes a);
  few = (let few = h.few in let more = length-append workers (m ∷ []) in let one = length-append h.passes (m ∷ []) in omega arith);
  spare = λ k a. in_left k h.passes (m ∷ []) (h.spare k a);
}

all_met_spared : (before now later : List ℕ) (ss : List Span) (workers spared : List ℕ) (m : ℕ) → later ≡ now ++ m ∷ [] → ¬ In m now
    → AreAll before now ss workers spared → AreAll before later ss workers (spared ++ m ∷ [])
all_met_spared before now later ss workers spared m more new h = record {
  passes = h.passes ++ m ∷ [];
  came = came_more before now h.passes later m h.came more;
  differ = differ_snoc h.passes m h.differ (pass_new before now h.passes m h.came new);
  owned = λ k a. ⊎_elim (λ (b : In k h.passes). ⊎_elim (λ (d : IsOfSpan k ss). inl d)
      (λ (d : In k workers ⊎ In k spared). inr (⊎_elim (λ (w : In k workers). inl w) (λ (w : In k spared). inr (in_left k spared (m ∷ []) w)) d)) (h.owned k b))
      (λ (e : k ≡ m). inr (inr (in_last k m spared e))) (in_snoc k m h.passes a);
  few = (let few = h.few in let more = length-append spared (m ∷ []) in let one = length-append h.passes (m ∷ []) in omega arith);
  spare = λ k a. ⊎_elim (λ (b : In k spared). in_left k h.passes (m ∷ []) (h.spare k b)) (λ (e : k ≡ m). in_last k m h.passes e) (in_snoc k m spared a);
}

-- the one number of a pass that no other was met into
alone_number : {B : Type 0} (p w : View B) (m : ℕ) → p.number ≡ Some m → p.met ≡ [] → IsSameBut p w → numbers_of w ≡ m ∷ []
alone_number {B = B} p w m number none same = ap (λ (q : View B). numbers_of q) same ∙ (λ i. numbers_or (number i) (none i))

-- a list in parts, around the element x at i
parts_at : {X : Type 0} (xs : List X) (i : ℕ) (x : X) → i < length xs → x ≡ slice_index_or xs i x → xs ≡ take i xs ++ x ∷ drop (suc i) xs
parts_at [] i x lt e = absurd (omega arith)
parts_at (y ∷ ys) zero x lt e = ap (λ z. z ∷ ys) (sym e)
parts_at (y ∷ ys) (suc i) x lt e = ap (λ zs. y ∷ zs) (parts_at ys i x (omega arith) e)

module _ {B : Type 0} where
  out_append : (js ks : List (Job B)) → out_of (js ++ ks) ≡ out_of js ++ out_of ks
  out_append [] ks = refl
  out_append (j ∷ js) ks = ap (λ (zs : List (Option Origin)). j.1 ∷ zs) (out_append js ks)

  views_append : (js ks : List (Job B)) → views_of (js ++ ks) ≡ views_of js ++ views_of ks
  views_append [] ks = refl
  views_append (j ∷ js) ks = ap (λ (zs : List (View B)). j.0 ∷ zs) (views_append js ks)

  -- the passes that are out, in parts
  outs_parts : (js ks : List (Job B)) (crew : List (View B)) → views_of (js ++ ks) ++ crew ≡ views_of js ++ (views_of ks ++ crew)
  outs_parts js ks crew = ap (λ (zs : List (View B)). zs ++ crew) (views_append js ks) ∙ append_assoc (views_of js) (views_of ks) crew

  begun_drop : (v0 : View B) (front back : List (View B)) (p : View B) → AllBegun v0 (front ++ p ∷ back) → IsBegun v0 p × AllBegun v0 (front ++ back)
  begun_drop v0 [] back p h = h
  begun_drop v0 (q ∷ qs) back p h = let r = begun_drop v0 qs back p h.1 in (r.0, (h.0, r.1))

  begun_put : (v0 : View B) (front back : List (View B)) (p : View B) → IsBegun v0 p → AllBegun v0 (front ++ back) → AllBegun v0 (front ++ p ∷ back)
  begun_put v0 [] back p one h = (one, h)
  begun_put v0 (q ∷ qs) back p one h = (h.0, begun_put v0 qs back p one h.1)

  module _ (Serves : Service) (grows : Grows Serves) (n asked idle : ℕ) (v0 : View B) (h0 : Option (List Origin)) (g0 : Option (List Ending)) (crew : List (View B)) where
    -- a pass that is made now
    is_begun : (spans : List Span) (jobs : List (Job B)) (v p : View B) (hs : List (Option Origin)) (cs : List Ending)
        → IsServing Serves n v0 (out_of jobs) v hs cs spans → IsNew v p → IsBegun v0 p
    is_begun spans jobs v p hs cs s new = (
      (new.0, ap (λ (q : View B). q.number) new.1, ap (λ (q : View B). q.met) new.1, ap (λ (q : View B). items_of new.0 q.seen) new.1 ∙ new.2),
      subst (λ (q : List Logged). IsPrefix v0.seen q) (sym (ap (λ (q : View B). q.seen) new.1)) s.grows,
    )

    -- the numbers of a pass that another was met into
    all_met : (v w u : View B) → v.number ≡ Some n → Meets v w u → (k : ℕ) → In k (numbers_of v) → In k (numbers_of u)
    all_met v w u number met k a =
        subst (λ (ns : List ℕ). In k ns) (sym (ap (λ (q : View B). numbers_of q) met.0 ∙ numbers_met v w n number)) (in_left k (numbers_of v) (numbers_of w) a)

    -- and of one that is the same but for its list or its share
    all_same : (v u : View B) → numbers_of u ≡ numbers_of v → (k : ℕ) → In k (numbers_of v) → In k (numbers_of u)
    all_same v u same k a = subst (λ (ns : List ℕ). In k ns) (sym same) a

    -- a connection was given back, and its pass was met into v
    pub going_met : (front back : List (Job B)) (p : View B) (o : Option Origin) (v w u : View B) (count : ℕ) (handed : Option (List Origin)) (given later : Option (List Ending)) (c : Ending)
        → Going Serves n asked idle v0 h0 g0 crew (front ++ (p, o) ∷ back) v count handed given
        → ((m : ℕ) → p.number ≡ Some m → Linked Serves m p o w c)
        → Meets v w u → AddsOne given later c
        → Going Serves n asked idle v0 h0 g0 crew (front ++ back) u count handed later
    going_met front back p o v w u count handed given later c h linked met adds =
        let left : List (View B) = views_of front in
        let right : List (View B) = views_of back ++ crew in
        let before : views_of (front ++ (p, o) ∷ back) ++ crew ≡ left ++ p ∷ right = outs_parts front ((p, o) ∷ back) crew in
        let after : views_of (front ++ back) ++ crew ≡ left ++ right = outs_parts front back crew in
        let begun : IsBegun v0 p × AllBegun v0 (left ++ right) = begun_drop v0 left right p (subst (λ (vs : List (View B)). AllBegun v0 vs) before h.begun) in
        let own : IsBegun v0 p = begun.0 in
        let m : ℕ = own.0.0 in
        let l : Linked Serves m p o w c = linked m own.0.1 in
        let up = linked_grows Serves grows m p o w c l in
        let s : Span = span_of Serves m p o w c l in
        let on : (k : ℕ) → In k (numbers_of v) → In k (numbers_of u) = all_met v w u h.serving.number met in
        let numbers : numbers_of u ≡ numbers_of v ++ numbers_of w = ap (λ (q : View B). numbers_of q) met.0 ∙ numbers_met v w n h.serving.number in
        let mine : numbers_of w ≡ m ∷ [] = alone_number p w m own.0.1 own.0.2 l.same in
        let serving : IsServing Serves n v0 (out_of front ++ o ∷ out_of back) v h.hs h.cs h.spans =
        subst (λ (zs : List (Option Origin)). IsServing Serves n v0 zs v h.hs h.cs h.spans) (out_append front ((p, o) ∷ back)) h.serving in
        record {
          hs = h.hs;
          cs = h.cs ++ c ∷ [];
          spans = h.spans ++ s ∷ [];
          handed_out = h.handed_out;
          given_back = adds_more g0 given later h.cs c h.given_back adds;
          counted = h.counted;
          serving = subst (λ (zs : List (Option Origin)). IsServing Serves n v0 zs u h.hs (h.cs ++ c ∷ []) (h.spans ++ s ∷ [])) (sym (out_append front back))
              (one_met Serves grows n v0 (out_of front) (out_of back) o v u h.hs h.cs h.spans m p w c serving own.0.1 own.1 l met);
          first = h.first;
          since = λ k a. on k (h.since k a);
          workers = h.workers;
          spared = h.spared;
          are_workers = workers_span (numbers_of v0) (numbers_of u) h.spans s h.workers (workers_on (numbers_of v0) (numbers_of v) (numbers_of u) h.spans h.workers on h.are_workers)
              (λ a. differ_apart (numbers_of v) (numbers_of w) m met.1.2 (h.are_workers.met m a).0 (number_in w m (ap (λ (q : View B). q.number) l.same ∙ own.0.1)));
          hired = h.hired;
          few = h.few;
          all = all_met_span (numbers_of v0) (numbers_of v) (numbers_of u) h.spans s h.workers h.spared m (numbers ∙ ap (λ (ns : List ℕ). numbers_of v ++ ns) mine)
              (λ a. differ_apart (numbers_of v) (numbers_of w) m met.1.2 a (number_in w m (ap (λ (q : View B). q.number) l.same ∙ own.0.1))) refl h.all;
          covering = cover_met _ v0 _ v p w u n m h.spans (h.spans ++ s ∷ []) h.covering h.serving.number h.serving.grows own.0.1 own.0.2 own.0.3 l.same up met
              (within_front h.spans s) (λ x theirs. theirs) (λ i x at ge by. inl (within_last h.spans s i x by ge (at_within w.seen i x at)));
          begun = subst (λ (vs : List (View B)). AllBegun v0 vs) (sym after) begun.1;
          shared = subst (λ (vs : List (View B)). IsShared v0 u vs) (sym after)
              (shared_met v0 left right v u p w (subst (λ (vs : List (View B)). IsShared v0 v vs) before h.shared) (ap (λ (q : View B). q.share) l.same) (ap (λ (q : View B). q.share) met.0));
        }

    -- the last one of all that are being served
    pub going_last : (front : List (Job B)) (p : View B) (o : Option Origin) (v w u : View B) (count : ℕ) (handed : Option (List Origin)) (given later : Option (List Ending)) (c : Ending)
        → Going Serves n asked idle v0 h0 g0 crew (front ++ (p, o) ∷ []) v count handed given
        → ((m : ℕ) → p.number ≡ Some m → Linked Serves m p o w c)
        → Meets v w u → AddsOne given later c
        → Going Serves n asked idle v0 h0 g0 crew front u count handed later
    going_last front p o v w u count handed given later c h linked met adds =
        subst (λ (js : List (Job B)). Going Serves n asked idle v0 h0 g0 crew js u count handed later) (append-nil front) (going_met front [] p o v w u count handed given later c h linked met adds)

    -- the one at this place
    pub going_removed : {X : Type 0} (f : X → Job B) (xs : List X) (at : ℕ) (x : X) (v w u : View B) (count : ℕ) (handed : Option (List Origin)) (given later : Option (List Ending)) (c : Ending)
        → at < length xs → x ≡ slice_index_or xs at x
        → Going Serves n asked idle v0 h0 g0 crew (map f xs) v count handed given
        → ((m : ℕ) → (f x).0.number ≡ Some m → Linked Serves m (f x).0 (f x).1 w c)
        → Meets v w u → AddsOne given later c
        → Going Serves n asked idle v0 h0 g0 crew (map f (take at xs ++ drop (suc at) xs)) u count handed later
    going_removed f xs at x v w u count handed given later c lt is h linked met adds =
        let front : List (Job B) = map f (take at xs) in
        let back : List (Job B) = map f (drop (suc at) xs) in
        let parts : map f xs ≡ front ++ f x ∷ back = ap (map f) (parts_at xs at x lt is) ∙ map_append f (take at xs) (x ∷ drop (suc at) xs) in
        subst (λ (js : List (Job B)). Going Serves n asked idle v0 h0 g0 crew js u count handed later) (sym (map_append f (take at xs) (drop (suc at) xs)))
        (going_met front back (f x).0 (f x).1 v w u count handed given later c (subst (λ (js : List (Job B)). Going Serves n asked idle v0 h0 g0 crew js v count handed given) parts h) linked met adds)

    -- a connection was handed out, with a pass that was made of v
    pub going_begun : (jobs : List (Job B)) (p : View B) (o : Option Origin) (v u : View B) (count : ℕ) (handed later : Option (List Origin)) (given : Option (List Ending))
        → Going Serves n asked idle v0 h0 g0 crew jobs v count handed given → u ≡ halved v → IsNew v p → HandsOut handed later o
        → Going Serves n asked idle v0 h0 g0 crew (jobs ++ (p, o) ∷ []) u (count + 1) later given
    going_begun jobs p o v u count handed later given h left new out =
        let s = h.serving in
        let on : (k : ℕ) → In k (numbers_of v) → In k (numbers_of u) = all_same v u (ap (λ (q : View B). numbers_of q) left) in
        let after : views_of (jobs ++ (p, o) ∷ []) ++ crew ≡ views_of jobs ++ p ∷ crew = outs_parts jobs ((p, o) ∷ []) crew in
        let shared = shared_made v0 (views_of jobs) crew v u p h.shared (ap (λ (q : View B). q.share) left) (ap (λ (q : View B). q.share) new.1) in
        record {
          hs = h.hs ++ o ∷ [];
          cs = h.cs;
          spans = h.spans;
          handed_out = hands_out_more h0 handed later h.hs o h.handed_out out;
          given_back = h.given_back;
          counted = length-append h.hs (o ∷ []) ∙ ap (λ (k : ℕ). k + 1) h.counted;
          serving = subst (λ (zs : List (Option Origin)). IsServing Serves n v0 zs u (h.hs ++ o ∷ []) h.cs h.spans) (sym (out_append jobs ((p, o) ∷ [])))
              (one_begun Serves grows n v0 (out_of jobs) o v u h.hs h.cs h.spans s (ap (λ (q : View B). q.number) left) (ap (λ (q : View B). q.base) left) (ap (λ (q : View B). q.seen) left) (ap (λ (q : View B). q.met) left));
          first = h.first;
          since = λ k a. on k (h.since k a);
          workers = h.workers;
          spared = h.spared;
          are_workers = workers_on (numbers_of v0) (numbers_of v) (numbers_of u) h.spans h.workers on h.are_workers;
          hired = h.hired;
          few = h.few;
          all = all_now (numbers_of v0) (numbers_of v) (numbers_of u) h.spans h.workers h.spared (ap (λ (q : View B). numbers_of q) left) h.all;
          covering = cover_same _ v0 v u h.spans h.covering (ap (λ (q : View B). numbers_of q) left) (ap (λ (q : View B). q.seen) left)
              (shared_two v0 (views_of jobs) crew v u p shared (ap (λ (q : View B). q.share) new.1 ∙ sym (ap (λ (q : View B). q.share) left)));
          begun = subst (λ (vs : List (View B)). AllBegun v0 vs) (sym after) (begun_put v0 (views_of jobs) crew p (is_begun h.spans jobs v p h.hs h.cs s new) h.begun);
          shared = subst (λ (vs : List (View B)). IsShared v0 u vs) (sym after) shared;
        }

    -- the pass v itself served a connection
    pub going_here : (jobs : List (Job B)) (o : Option Origin) (v z : View B) (count : ℕ) (handed handed_later : Option (List Origin)) (given given_later : Option (List Ending)) (c : Ending)
        → Going Serves n asked idle v0 h0 g0 crew jobs v count handed given
        → ((m : ℕ) → v.number ≡ Some m → Linked Serves m v o z c)
        → HandsOut handed handed_later o → AddsOne given given_later c
        → Going Serves n asked idle v0 h0 g0 crew jobs z (count + 1) handed_later given_later
    going_here jobs o v z count handed handed_later given given_later c h linked out adds =
        let s = h.serving in
        let l : Linked Serves n v o z c = linked n s.number in
        let up = linked_grows Serves grows n v o z c l in
        let on : (k : ℕ) → In k (numbers_of v) → In k (numbers_of z) = all_same v z (ap (λ (q : View B). numbers_of q) l.same) in
        let spans : List Span = h.spans ++ span_of Serves n v o z c l ∷ [] in
        record {
          hs = h.hs ++ o ∷ [];
          cs = h.cs ++ c ∷ [];
          spans = spans;
          handed_out = hands_out_more h0 handed handed_later h.hs o h.handed_out out;
          given_back = adds_more g0 given given_later h.cs c h.given_back adds;
          counted = length-append h.hs (o ∷ []) ∙ ap (λ (k : ℕ). k + 1) h.counted;
          serving = subst (λ (zs : List (Option Origin)). IsServing Serves n v0 zs z (h.hs ++ o ∷ []) (h.cs ++ c ∷ []) spans) (append-nil (out_of jobs))
              (one_here Serves grows n v0 (out_of jobs) o v z h.hs h.cs h.spans c s l);
          first = h.first;
          since = λ k a. on k (h.since k a);
          workers = h.workers;
          spared = h.spared;
          are_workers = workers_span (numbers_of v0) (numbers_of z) h.spans (span_of Serves n v o z c l) h.workers (workers_on (numbers_of v0) (numbers_of v) (numbers_of z) h.spans h.workers on h.are_workers)
              (λ a. (h.are_workers.met n a).1 (number_in v0 n h.first));
          hired = h.hired;
          few = h.few;
          all = all_span (numbers_of v0) (numbers_of z) h.spans (span_of Serves n v o z c l) h.workers h.spared (all_now (numbers_of v0) (numbers_of v) (numbers_of z) h.spans h.workers h.spared (ap (λ (q : View B). numbers_of q) l.same) h.all);
          covering = cover_here _ v0 v z n h.spans (span_of Serves n v o z c l) h.covering s.number l.same up l.quiet refl refl refl;
          begun = h.begun;
          shared = shared_same v0 v z (views_of jobs ++ crew) h.shared (ap (λ (q : View B). q.share) l.same);
        }

    -- the pass v itself took a worker's turns
    pub going_worked : (jobs : List (Job B)) (v z : View B) (count : ℕ) (handed : Option (List Origin)) (given : Option (List Ending))
        → Going Serves n asked idle v0 h0 g0 crew jobs v count handed given
        → 0 < idle → ((m : ℕ) → v.number ≡ Some m → TakesTurns m v z)
        → Going Serves n asked idle v0 h0 g0 crew jobs z count handed given
    going_worked jobs v z count handed given h some turns =
        let s = h.serving in
        let l = turns n s.number in
        let on : (k : ℕ) → In k (numbers_of v) → In k (numbers_of z) = all_same v z (ap (λ (q : View B). numbers_of q) l.same) in
        record {
          hs = h.hs;
          cs = h.cs;
          spans = h.spans;
          handed_out = h.handed_out;
          given_back = h.given_back;
          counted = h.counted;
          serving = one_worked Serves grows n v0 (out_of jobs) v z h.hs h.cs h.spans s l.same l.grows;
          first = h.first;
          since = λ k a. on k (h.since k a);
          workers = h.workers;
          spared = h.spared;
          are_workers = workers_on (numbers_of v0) (numbers_of v) (numbers_of z) h.spans h.workers on h.are_workers;
          hired = h.hired;
          few = h.few;
          all = all_now (numbers_of v0) (numbers_of v) (numbers_of z) h.spans h.workers h.spared (ap (λ (q : View B). numbers_of q) l.same) h.all;
          covering = cover_works _ v0 v z n h.spans h.covering s.number l (λ x work by. (work, inr (inr (ap (λ (k : ℕ). let o : Option ℕ = Some k in o) (sym by), some))));
          begun = h.begun;
          shared = shared_same v0 v z (views_of jobs ++ crew) h.shared (ap (λ (q : View B). q.share) l.same);
        }

    -- a worker was hired, with a pass that was made of v
    pub going_hired : (jobs : List (Job B)) (p v u : View B) (count : ℕ) (handed : Option (List Origin)) (given : Option (List Ending))
        → Going Serves n asked idle v0 h0 g0 crew jobs v count handed given → u ≡ halved v → IsNew v p
        → Going Serves n (asked + 1) idle v0 h0 g0 (crew ++ p ∷ []) jobs u count handed given
    going_hired jobs p v u count handed given h left new =
        let s = h.serving in
        let outs : List (View B) = views_of jobs ++ crew in
        let whole : outs ++ [] ≡ outs = append-nil outs in
        let after : views_of jobs ++ (crew ++ p ∷ []) ≡ outs ++ p ∷ [] = sym (append_assoc (views_of jobs) crew (p ∷ [])) in
        let shared = shared_made v0 outs [] v (halved v) p (subst (λ (vs : List (View B)). IsShared v0 v vs) (sym whole) h.shared) refl (ap (λ (q : View B). q.share) new.1) in
        let more = length-append crew (p ∷ []) in
        subst (λ (q : View B). Going Serves n (asked + 1) idle v0 h0 g0 (crew ++ p ∷ []) jobs q count handed given) (sym left) record {
          hs = h.hs;
          cs = h.cs;
          spans = h.spans;
          handed_out = h.handed_out;
          given_back = h.given_back;
          counted = h.counted;
          serving = record {
            number = s.number;
            base = s.base;
            grows = s.grows;
            served = s.served;
            late = s.late;
            past = s.past;
            apart = s.apart;
            count = s.count;
            each = s.each;
          };
          first = h.first;
          since = h.since;
          workers = h.workers;
          spared = h.spared;
          are_workers = workers_on (numbers_of v0) (numbers_of v) (numbers_of (halved v)) h.spans h.workers (λ k a. a) h.are_workers;
          hired = (let hired = h.hired in omega arith);
          few = h.few;
          all = h.all;
          covering = cover_same _ v0 v (halved v) h.spans h.covering refl refl (shared_two v0 outs [] v (halved v) p shared (ap (λ (q : View B). q.share) new.1));
          begun = subst (λ (vs : List (View B)). AllBegun v0 vs) (sym after) (begun_put v0 outs [] p (is_begun h.spans jobs v p h.hs h.cs s new) (subst (λ (vs : List (View B)). AllBegun v0 vs) (sym whole) h.begun));
          shared = subst (λ (vs : List (View B)). IsShared v0 (halved v) vs) (sym after) shared;
        }

    -- a worker that was asked for has no pass
    pub going_idle : (jobs : List (Job B)) (v : View B) (count : ℕ) (handed : Option (List Origin)) (given : Option (List Ending))
        → Going Serves n asked idle v0 h0 g0 crew jobs v count handed given → Going Serves n (asked + 1) (idle + 1) v0 h0 g0 crew jobs v count handed given
    going_idle jobs v count handed given h = record {
      hs = h.hs;
      cs = h.cs;
      spans = h.spans;
      handed_out = h.handed_out;
      given_back = h.given_back;
      counted = h.counted;
      serving = h.serving;
      first = h.first;
      since = h.since;
      workers = h.workers;
      spared = h.spared;
      are_workers = h.are_workers;
      hired = (let hired = h.hired in omega arith);
      few = (let few = h.few in omega arith);
      all = h.all;
      covering = cover_more _ v0 _ v h.spans h.covering (idle_more (Some n) idle h.workers h.spared);
      begun = h.begun;
      shared = h.shared;
    }

    -- the last worker was dismissed, and its pass was met into v
    pub going_dismissed : (jobs : List (Job B)) (p v w u : View B) (count : ℕ) (handed : Option (List Origin)) (given : Option (List Ending))
        → Going Serves n asked idle v0 h0 g0 (crew ++ p ∷ []) jobs v count handed given
        → ((m : ℕ) → p.number ≡ Some m → TakesTurns m p w)
        → Meets v w u
        → Going Serves n asked idle v0 h0 g0 crew jobs u count handed given
    going_dismissed jobs p v w u count handed given h works met =
        let outs : List (View B) = views_of jobs ++ crew in
        let whole : outs ++ [] ≡ outs = append-nil outs in
        let before : views_of jobs ++ (crew ++ p ∷ []) ≡ outs ++ p ∷ [] = sym (append_assoc (views_of jobs) crew (p ∷ [])) in
        let begun = begun_drop v0 outs [] p (subst (λ (vs : List (View B)). AllBegun v0 vs) before h.begun) in
        let own = begun.0 in
        let m : ℕ = own.0.0 in
        let l = works m own.0.1 in
        let on : (k : ℕ) → In k (numbers_of v) → In k (numbers_of u) = all_met v w u h.serving.number met in
        let here : In m (numbers_of w) = number_in w m (ap (λ (q : View B). q.number) l.same ∙ own.0.1) in
        let mine : numbers_of w ≡ m ∷ [] = alone_number p w m own.0.1 own.0.2 l.same in
        let numbers : numbers_of u ≡ numbers_of v ++ numbers_of w = ap (λ (q : View B). numbers_of q) met.0 ∙ numbers_met v w n h.serving.number in
        record {
          hs = h.hs;
          cs = h.cs;
          spans = h.spans;
          handed_out = h.handed_out;
          given_back = h.given_back;
          counted = h.counted;
          serving = one_joins Serves grows n v0 (out_of jobs) v u h.hs h.cs h.spans w h.serving met;
          first = h.first;
          since = λ k a. on k (h.since k a);
          workers = h.workers ++ m ∷ [];
          spared = h.spared;
          are_workers = workers_more (numbers_of v0) (numbers_of v) (numbers_of u) (length v.seen) h.spans h.workers m h.are_workers h.since on h.serving.past
              (subst (λ (ns : List ℕ). In m ns) (sym numbers) (in_right m (numbers_of v) (numbers_of w) here)) (λ a. differ_apart (numbers_of v) (numbers_of w) m met.1.2 a here);
          hired = (let hired = h.hired in let one = length-append crew (p ∷ []) in let other = length-append h.workers (m ∷ []) in omega arith);
          few = h.few;
          all = all_met_worker (numbers_of v0) (numbers_of v) (numbers_of u) h.spans h.workers h.spared m (numbers ∙ ap (λ (ns : List ℕ). numbers_of v ++ ns) mine) (λ a. differ_apart (numbers_of v) (numbers_of w) m met.1.2 a here) h.all;
          covering = cover_met _ v0 _ v p w u n m h.spans h.spans h.covering h.serving.number h.serving.grows own.0.1 own.0.2 own.0.3 l.same l.grows met (λ i x d. d) (worked_more (Some n) idle h.workers h.spared m)
              (λ i x at ge by. inr (l.work i x at ge by, inl (in_last x.by m h.workers by)));
          begun = subst (λ (vs : List (View B)). AllBegun v0 vs) whole begun.1;
          shared = subst (λ (vs : List (View B)). IsShared v0 u vs) whole
              (shared_met v0 outs [] v u p w (subst (λ (vs : List (View B)). IsShared v0 v vs) before h.shared) (ap (λ (q : View B). q.share) l.same) (ap (λ (q : View B). q.share) met.0));
        }

    -- the thread of the last worker wasn't started, and its pass was met into v
    pub going_spared : (jobs : List (Job B)) (p v w u : View B) (count : ℕ) (handed : Option (List Origin)) (given : Option (List Ending))
        → Going Serves n asked idle v0 h0 g0 (crew ++ p ∷ []) jobs v count handed given
        → ((m : ℕ) → p.number ≡ Some m → TakesTurns m p w)
        → Meets v w u
        → Going Serves n asked (idle + 1) v0 h0 g0 crew jobs u count handed given
    going_spared jobs p v w u count handed given h works met =
        let outs : List (View B) = views_of jobs ++ crew in
        let whole : outs ++ [] ≡ outs = append-nil outs in
        let before : views_of jobs ++ (crew ++ p ∷ []) ≡ outs ++ p ∷ [] = sym (append_assoc (views_of jobs) crew (p ∷ [])) in
        let begun = begun_drop v0 outs [] p (subst (λ (vs : List (View B)). AllBegun v0 vs) before h.begun) in
        let own = begun.0 in
        let m : ℕ = own.0.0 in
        let l = works m own.0.1 in
        let on : (k : ℕ) → In k (numbers_of v) → In k (numbers_of u) = all_met v w u h.serving.number met in
        let here : In m (numbers_of w) = number_in w m (ap (λ (q : View B). q.number) l.same ∙ own.0.1) in
        let mine : numbers_of w ≡ m ∷ [] = alone_number p w m own.0.1 own.0.2 l.same in
        let numbers : numbers_of u ≡ numbers_of v ++ numbers_of w = ap (λ (q : View B). numbers_of q) met.0 ∙ numbers_met v w n h.serving.number in
        record {
          hs = h.hs;
          cs = h.cs;
          spans = h.spans;
          handed_out = h.handed_out;
          given_back = h.given_back;
          counted = h.counted;
          serving = one_joins Serves grows n v0 (out_of jobs) v u h.hs h.cs h.spans w h.serving met;
          first = h.first;
          since = λ k a. on k (h.since k a);
          workers = h.workers;
          spared = h.spared ++ m ∷ [];
          are_workers = workers_on (numbers_of v0) (numbers_of v) (numbers_of u) h.spans h.workers on h.are_workers;
          hired = (let hired = h.hired in let one = length-append crew (p ∷ []) in omega arith);
          few = (let few = h.few in let one = length-append h.spared (m ∷ []) in omega arith);
          all = all_met_spared (numbers_of v0) (numbers_of v) (numbers_of u) h.spans h.workers h.spared m (numbers ∙ ap (λ (ns : List ℕ). numbers_of v ++ ns) mine) (λ a. differ_apart (numbers_of v) (numbers_of w) m met.1.2 a here) h.all;
          covering = cover_met _ v0 _ v p w u n m h.spans h.spans h.covering h.serving.number h.serving.grows own.0.1 own.0.2 own.0.3 l.same l.grows met (λ i x d. d) (spared_more (Some n) idle h.workers h.spared m)
              (λ i x at ge by. inr (l.work i x at ge by, inr (inl (in_last x.by m h.spared by))));
          begun = subst (λ (vs : List (View B)). AllBegun v0 vs) whole begun.1;
          shared = subst (λ (vs : List (View B)). IsShared v0 u vs) whole
              (shared_met v0 outs [] v u p w (subst (λ (vs : List (View B)). IsShared v0 v vs) before h.shared) (ap (λ (q : View B). q.share) l.same) (ap (λ (q : View B). q.share) met.0));
        }

  module _ (Serves : Service) (n asked idle : ℕ) (v0 : View B) (h0 : Option (List Origin)) (g0 : Option (List Ending)) where
    pub going_starts : v0.number ≡ Some n → Going Serves n 0 0 v0 h0 g0 [] [] v0 0 h0 g0
    going_starts number = record {
      hs = [];
      cs = [];
      spans = [];
      handed_out = λ xs is. ([], refl, is ∙ ap (λ (ys : List Origin). let q : Option (List Origin) = Some ys in q) (sym (append-nil xs)));
      given_back = λ xs is. is ∙ ap (λ (ys : List Ending). let q : Option (List Ending) = Some ys in q) (sym (append-nil xs));
      counted = refl;
      serving = record {
        number = number;
        base = refl;
        grows = prefix_self v0.seen;
        served = tt;
        late = tt;
        past = tt;
        apart = tt;
        count = refl;
        each = λ x a. absurd a;
      };
      first = number;
      since = λ k a. a;
      workers = [];
      spared = [];
      are_workers = record { met = λ m a. absurd a; differ = tt; serve_none = tt };
      hired = refl;
      few = omega arith;
      all = record {
        passes = [];
        came = sym (append-nil (numbers_of v0));
        differ = tt;
        owned = λ m a. absurd a;
        few = omega arith;
        spare = λ m a. absurd a;
      };
      covering = cover_starts _ v0;
      begun = tt;
      shared = shared_starts v0;
    }

    pub going_ends : (v : View B) (count : ℕ) (handed : Option (List Origin)) (given : Option (List Ending)) → v0.number ≡ Some n
        → Going Serves n asked idle v0 h0 g0 [] [] v count handed given → ServedAll Serves asked idle v0 v count h0 handed g0 given
    going_ends v count handed given number h =
        let s = h.serving in
        let all : length h.hs ≡ length h.cs + 0 = s.count in
        let so_many : length h.hs ≡ count = h.counted in
        record {
          origins = h.hs;
          endings = h.cs;
          spans = h.spans;
          handed_out = h.handed_out;
          given_back = h.given_back;
          counted = (so_many, omega arith);
          each = λ o a. ⊎_elim (λ (d : Among o (origins_of h.cs)). d) (λ (f : ⊥). absurd f) (s.each o a);
          same = (s.number ∙ sym number, s.base, s.grows);
          share = shared_part v0 v h.shared;
          served = s.served;
          late = s.late;
          apart = s.apart;
          met = past_of (numbers_of v) (length v.seen) h.spans s.past;
          workers = h.workers;
          are_workers = h.are_workers;
          hired = (let hired = h.hired in omega arith);
          spared = h.spared;
          few = h.few;
          all = h.all;
          alone = λ a0.
              let a = shared_ends v0 v h.shared a0 in
              (a, cover_all _ v0 v h.spans (cover_more _ v0 (IsOfWorker v0.number idle h.workers h.spared) v h.spans h.covering (renamed idle h.workers h.spared (Some n) v0.number (sym number))) s.grows a0 a);
        }

-- where nothing is known of a handle but a law, it holds of what it may be
pub all_front : {X : Type 0} (P : X → Type 0) (xs ys : List X) → ((k : ℕ) (d : X) → k < length (xs ++ ys) → P (slice_index_or (xs ++ ys) k d)) → (k : ℕ) (d : X) → k < length xs → P (slice_index_or xs k d)
all_front P [] ys h k d lt = absurd (omega arith)
all_front P (x ∷ xs) ys h zero d lt = h zero d (omega arith)
all_front P (x ∷ xs) ys h (suc k) d lt = all_front P xs ys (λ i e below. h (suc i) e (omega arith)) k d (omega arith)
