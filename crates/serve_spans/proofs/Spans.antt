-- Spans of connections.
use Rattle.std.proofs.Common.{ℕ, suc, ◌≡◌, ◌≤◌, ◌+◌, ◌⊎◌, List, [], ◌∷◌, ◌++◌, length, Option, Some, refl, ap, sym, ◌∙◌, subst, arith, inl, inr, ⊎_elim, length-append}
use mathlib.Core.List.{IsPrefix}
use Rattle.api_calls.specs.Item.{Logged}
use Rattle.edge_io.specs.Connections.{Origin, Ending}
use Rattle.turn_cell.specs.laws.Laws.{prefix_self, prefix_trans}
use Rattle.turn_cell.specs.Numbers.{In}
use Rattle.turn_cell.specs.declared.view.View.{View}
use Rattle.turn_cell.specs.Views.{numbers_of, numbers_or, met_with, set_stage}
use Rattle.turn_cell.specs.Turns.{Meets}
use Rattle.serve_spans.specs.Spans.{IsSameBut, Service, Span, Linked, IsServed, AllServed, IsApart, AreApart, AreLate, AreOf}
use Rattle.serve_spans.specs.Served.{Among, origins_of}
use Rattle.serve_spans.specs.inner.Keeping.{ArePast, IsServing}
use Rattle.serve_spans.proofs.Lists.{take_kept, take_prefix, prefix_length, in_left, in_right, differ_apart, number_in}

-- a list only grows while a connection is served
abbrev pub Grows : Service → Type 0
Grows Serves = (n : ℕ) (p q : List Logged) (rose : ℕ) (e : Ending) → Serves n p q rose e → IsPrefix p q

module _ (Serves : Service) where
  -- a longer list keeps what is known of a shorter one
  served_later : (q more : List Logged) (c : Ending) (s : Span) → IsServed Serves q c s → IsServed Serves (q ++ more) c s
  served_later q more c s h =
      let n : length (q ++ more) ≡ length q + length more = length-append q more in
      let a : s.from ≤ length q = (let p = h.0 in let r = h.1 in omega arith) in (
        h.0,
        (let r = h.1 in omega arith),
        subst (λ (k : List Logged × List Logged). Serves s.number k.0 k.1 s.rose c) (λ i. (sym (take_kept s.from q more a) i, sym (take_kept s.to q more h.1) i)) h.2,
      )

  all_later : (q more : List Logged) (cs : List Ending) (ss : List Span) → AllServed Serves q cs ss → AllServed Serves (q ++ more) cs ss
  all_later q more [] [] h = h
  all_later q more [] (s ∷ ss) h = absurd h
  all_later q more (c ∷ cs) [] h = absurd h
  all_later q more (c ∷ cs) (s ∷ ss) h = (served_later q more c s h.0, all_later q more cs ss h.1)

  pub all_on : (q z : List Logged) (cs : List Ending) (ss : List Span) → IsPrefix q z → AllServed Serves q cs ss → AllServed Serves z cs ss
  all_on q z cs ss on h = subst (λ (k : List Logged). AllServed Serves k cs ss) on.1 (all_later q on.0 cs ss h)

  all_snoc : (q : List Logged) (cs : List Ending) (ss : List Span) (c : Ending) (s : Span) → AllServed Serves q cs ss → IsServed Serves q c s → AllServed Serves q (cs ++ c ∷ []) (ss ++ s ∷ [])
  all_snoc q [] [] c s h one = (one, tt)
  all_snoc q [] (t ∷ ts) c s h one = absurd h
  all_snoc q (d ∷ ds) [] c s h one = absurd h
  all_snoc q (d ∷ ds) (t ∷ ts) c s h one = (h.0, all_snoc q ds ts c s h.1 one)

  pub linked_grows : {B : Type 0} → Grows Serves → (n : ℕ) (v : View B) (o : Option Origin) (z : View B) (e : Ending) → Linked Serves n v o z e → IsPrefix v.seen z.seen
  linked_grows grows n v o z e l = grows n v.seen z.seen l.rose e l.served

  -- the span of a pass that went from v to w
  abbrev pub span_of : {B : Type 0} (m : ℕ) (v : View B) (o : Option Origin) (w : View B) (c : Ending) → Linked Serves m v o w c → Span
  span_of m v o w c linked = record { from = length v.seen; to = length w.seen; number = m; rose = linked.rose }

  -- it is one in a list that has all that w has seen
  span_served : {B : Type 0} → Grows Serves → (m : ℕ) (v w : View B) (o : Option Origin) (c : Ending) (q : List Logged) → (l : Linked Serves m v o w c) → IsPrefix w.seen q
      → IsServed Serves q c (span_of m v o w c l)
  span_served grows m v w o c q linked on =
      let up : IsPrefix v.seen w.seen = linked_grows grows m v o w c linked in (
        prefix_length v.seen w.seen up,
        prefix_length w.seen q on,
        subst (λ (k : List Logged × List Logged). Serves m k.0 k.1 linked.rose c)
            (λ i. (sym (take_prefix v.seen q (prefix_trans v.seen w.seen q up on)) i, sym (take_prefix w.seen q on) i)) linked.served,
      )

late_snoc : (k : ℕ) (ss : List Span) (s : Span) → AreLate k ss → k ≤ s.from → AreLate k (ss ++ s ∷ [])
late_snoc k [] s h le = (le, tt)
late_snoc k (t ∷ ts) s h le = (h.0, late_snoc k ts s h.1 le)

-- ---- spans apart

-- each of these spans has another number, or ends before s begins
abbrev Before : List Span → Span → Type 0
Before [] s = Unit {0}
Before (t ∷ ts) s = (t.number ≡ s.number → t.to ≤ s.from) × Before ts s

is_apart_snoc : (t : Span) (ss : List Span) (s : Span) → IsApart t ss → (t.number ≡ s.number → t.to ≤ s.from) → IsApart t (ss ++ s ∷ [])
is_apart_snoc t [] s h one = (one, tt)
is_apart_snoc t (u ∷ us) s h one = (h.0, is_apart_snoc t us s h.1 one)

apart_snoc : (ss : List Span) (s : Span) → AreApart ss → Before ss s → AreApart (ss ++ s ∷ [])
apart_snoc [] s h b = (tt, tt)
apart_snoc (t ∷ ts) s h b = (is_apart_snoc t ts s h.0 b.0, apart_snoc ts s h.1 b.1)

before_new : (ns : List ℕ) (k : ℕ) (ss : List Span) (s : Span) → ArePast ns k ss → (In s.number ns → ⊥) → Before ss s
before_new ns k [] s h new = tt
before_new ns k (t ∷ ts) s h new = (λ e. absurd (new (subst (λ m. In m ns) e h.0.0)), before_new ns k ts s h.1 new)

before_here : (ns : List ℕ) (k : ℕ) (ss : List Span) (s : Span) → ArePast ns k ss → k ≤ s.from → Before ss s
before_here ns k [] s h le = tt
before_here ns k (t ∷ ts) s h le = (λ _. (let a : t.to ≤ k = h.0.1 in omega arith), before_here ns k ts s h.1 le)

past_on : (ns ms : List ℕ) (k l : ℕ) (ss : List Span) → ArePast ns k ss → ((m : ℕ) → In m ns → In m ms) → k ≤ l → ArePast ms l ss
past_on ns ms k l [] h on le = tt
past_on ns ms k l (t ∷ ts) h on le = ((on t.number h.0.0, (let a : t.to ≤ k = h.0.1 in omega arith)), past_on ns ms k l ts h.1 on le)

pub past_of : (ns : List ℕ) (k : ℕ) (ss : List Span) → ArePast ns k ss → AreOf ns ss
past_of ns k [] h = tt
past_of ns k (s ∷ ss) h = (h.0.0, past_of ns k ss h.1)

past_snoc : (ns : List ℕ) (k : ℕ) (ss : List Span) (s : Span) → ArePast ns k ss → In s.number ns → s.to ≤ k → ArePast ns k (ss ++ s ∷ [])
past_snoc ns k [] s h own le = ((own, le), tt)
past_snoc ns k (t ∷ ts) s h own le = (h.0, past_snoc ns k ts s h.1 own le)

-- the numbers of a pass that another was met into
pub numbers_met : {B : Type 0} (v w : View B) (n : ℕ) → v.number ≡ Some n → numbers_of (met_with v w) ≡ numbers_of v ++ numbers_of w
numbers_met v w n e = ap (λ (o : Option ℕ). numbers_or o (v.met ++ numbers_of w)) e ∙ sym (ap (λ (o : Option ℕ). numbers_or o v.met ++ numbers_of w) e)

-- ---- origins

among_left : {X : Type 0} (x : X) (xs ys : List X) → Among x xs → Among x (xs ++ ys)
among_left x [] ys h = absurd h
among_left x (y ∷ xs) ys h = ⊎_elim (λ (e : x ≡ y). inl e) (λ (t : Among x xs). inr (among_left x xs ys t)) h

among_right : {X : Type 0} (x : X) (xs ys : List X) → Among x ys → Among x (xs ++ ys)
among_right x [] ys h = h
among_right x (y ∷ xs) ys h = inr (among_right x xs ys h)

among_cases : {X : Type 0} (x : X) (xs ys : List X) → Among x (xs ++ ys) → Among x xs ⊎ Among x ys
among_cases x [] ys h = inr h
among_cases x (y ∷ xs) ys h = ⊎_elim (λ (e : x ≡ y). inl (inl e)) (λ (t : Among x (xs ++ ys)). ⊎_elim (λ (a : Among x xs). inl (inr a)) (λ (b : Among x ys). inr b) (among_cases x xs ys t)) h

origins_snoc : (cs : List Ending) (c : Ending) → origins_of (cs ++ c ∷ []) ≡ origins_of cs ++ c.origin ∷ []
origins_snoc [] c = refl
origins_snoc (d ∷ ds) c = ap (λ (zs : List (Option Origin)). d.origin ∷ zs) (origins_snoc ds c)

among_drop : {X : Type 0} (x o : X) (front back : List X) → Among x (front ++ o ∷ back) → (x ≡ o) ⊎ Among x (front ++ back)
among_drop x o front back h =
    ⊎_elim (λ (a : Among x front). inr (among_left x front back a))
    (λ (t : Among x (o ∷ back)). ⊎_elim (λ (e : x ≡ o). inl e) (λ (b : Among x back). inr (among_right x front back b)) t) (among_cases x front (o ∷ back) h)

module _ {B : Type 0} (Serves : Service) (grows : Grows Serves) (n : ℕ) (v0 : View B) where
  -- a pass was met into v, which is u
  pub one_joins : (out : List (Option Origin)) (v u : View B) (hs : List (Option Origin)) (cs : List Ending) (ss : List Span) (w : View B)
      → IsServing Serves n v0 out v hs cs ss → Meets v w u → IsServing Serves n v0 out u hs cs ss
  one_joins out v u hs cs ss w h met =
      let numbers : numbers_of u ≡ numbers_of v ++ numbers_of w = ap (λ (q : View B). numbers_of q) met.0 ∙ numbers_met v w n h.number in
      record {
        number = ap (λ (q : View B). q.number) met.0 ∙ h.number;
        base = ap (λ (q : View B). q.base) met.0 ∙ h.base;
        grows = prefix_trans v0.seen v.seen u.seen h.grows met.1.0;
        served = all_on Serves v.seen u.seen cs ss met.1.0 h.served;
        late = h.late;
        past = past_on (numbers_of v) (numbers_of u) (length v.seen) (length u.seen) ss h.past
            (λ m a. subst (λ (ns : List ℕ). In m ns) (sym numbers) (in_left m (numbers_of v) (numbers_of w) a)) (prefix_length v.seen u.seen met.1.0);
        apart = h.apart;
        count = h.count;
        each = h.each;
      }

  -- a connection was given back that was served in this span
  one_back : (front back : List (Option Origin)) (o : Option Origin) (v : View B) (hs : List (Option Origin)) (cs : List Ending) (ss : List Span) (c : Ending) (s : Span)
      → (h : IsServing Serves n v0 (front ++ o ∷ back) v hs cs ss) → c.origin ≡ o → IsServed Serves v.seen c s
      → length v0.seen ≤ s.from → In s.number (numbers_of v) → Before ss s
      → IsServing Serves n v0 (front ++ back) v hs (cs ++ c ∷ []) (ss ++ s ∷ [])
  one_back front back o v hs cs ss c s h is served late own before =
      let a : length (cs ++ c ∷ []) ≡ length cs + 1 = length-append cs (c ∷ []) in
      let k : length (front ++ o ∷ back) ≡ length front + suc (length back) = length-append front (o ∷ back) in
      let l : length (front ++ back) ≡ length front + length back = length-append front back in
      let count : length hs ≡ length cs + length (front ++ o ∷ back) = h.count in
      record {
        number = h.number;
        base = h.base;
        grows = h.grows;
        served = all_snoc Serves v.seen cs ss c s h.served served;
        late = late_snoc (length v0.seen) ss s h.late late;
        past = past_snoc (numbers_of v) (length v.seen) ss s h.past own served.1;
        apart = apart_snoc ss s h.apart before;
        count = omega arith;
        each = λ x b. subst (λ (zs : List (Option Origin)). Among x zs ⊎ Among x (front ++ back)) (sym (origins_snoc cs c))
            (⊎_elim (λ (p : Among x (origins_of cs)). inl (among_left x (origins_of cs) (c.origin ∷ []) p))
            (λ (p : Among x (front ++ o ∷ back)). ⊎_elim (λ (e : x ≡ o). inl (among_right x (origins_of cs) (c.origin ∷ []) (inl (e ∙ sym is))))
            (λ (q : Among x (front ++ back)). inr q) (among_drop x o front back p)) (h.each x b));
      }

  -- a connection that was being served is given back, and its pass was met into v, which is u
  pub one_met : (front back : List (Option Origin)) (o : Option Origin) (v u : View B) (hs : List (Option Origin)) (cs : List Ending) (ss : List Span) (m : ℕ) (p w : View B) (c : Ending)
      → IsServing Serves n v0 (front ++ o ∷ back) v hs cs ss → p.number ≡ Some m → IsPrefix v0.seen p.seen → (l : Linked Serves m p o w c) → Meets v w u
      → IsServing Serves n v0 (front ++ back) u hs (cs ++ c ∷ []) (ss ++ span_of Serves m p o w c l ∷ [])
  one_met front back o v u hs cs ss m p w c h own begun linked met =
      let s : Span = span_of Serves m p o w c linked in
      let here : In m (numbers_of w) = number_in w m (ap (λ (q : View B). q.number) linked.same ∙ own) in
      let numbers : numbers_of u ≡ numbers_of v ++ numbers_of w = ap (λ (q : View B). numbers_of q) met.0 ∙ numbers_met v w n h.number in
      one_back front back o u hs cs ss c s (one_joins (front ++ o ∷ back) v u hs cs ss w h met) linked.of (span_served Serves grows m p w o c u.seen linked met.1.1)
      (prefix_length v0.seen p.seen begun) (subst (λ (ns : List ℕ). In m ns) (sym numbers) (in_right m (numbers_of v) (numbers_of w) here))
      (before_new (numbers_of v) (length v.seen) ss s h.past (λ a. differ_apart (numbers_of v) (numbers_of w) m met.1.2 a here))

  -- a connection was handed out, and the pass v is u, which has seen and entered the same
  pub one_begun : (out : List (Option Origin)) (o : Option Origin) (v u : View B) (hs : List (Option Origin)) (cs : List Ending) (ss : List Span)
      → IsServing Serves n v0 out v hs cs ss → u.number ≡ v.number → u.base ≡ v.base → u.seen ≡ v.seen → u.met ≡ v.met
      → IsServing Serves n v0 (out ++ o ∷ []) u (hs ++ o ∷ []) cs ss
  one_begun out o v u hs cs ss h number base seen met =
      let a : length (hs ++ o ∷ []) ≡ length hs + 1 = length-append hs (o ∷ []) in
      let k : length (out ++ o ∷ []) ≡ length out + 1 = length-append out (o ∷ []) in
      let count : length hs ≡ length cs + length out = h.count in
      let numbers : numbers_of u ≡ numbers_of v = (λ i. numbers_or (number i) (met i)) in
      record {
        number = number ∙ h.number;
        base = base ∙ h.base;
        grows = subst (λ (q : List Logged). IsPrefix v0.seen q) (sym seen) h.grows;
        served = subst (λ (q : List Logged). AllServed Serves q cs ss) (sym seen) h.served;
        late = h.late;
        past = subst (λ (q : List ℕ × List Logged). ArePast q.0 (length q.1) ss) (λ i. (sym numbers i, sym seen i)) h.past;
        apart = h.apart;
        count = omega arith;
        each = λ x b. ⊎_elim (λ (p : Among x hs). ⊎_elim (λ (d : Among x (origins_of cs)). inl d) (λ (d : Among x out). inr (among_left x out (o ∷ []) d)) (h.each x p))
            (λ (p : Among x (o ∷ [])). inr (among_right x out (o ∷ []) p)) (among_cases x hs (o ∷ []) b);
      }

  -- the pass v itself took turns, and is z
  pub one_worked : (out : List (Option Origin)) (v z : View B) (hs : List (Option Origin)) (cs : List Ending) (ss : List Span)
      → IsServing Serves n v0 out v hs cs ss → IsSameBut v z → IsPrefix v.seen z.seen → IsServing Serves n v0 out z hs cs ss
  one_worked out v z hs cs ss h same up =
      let numbers : numbers_of z ≡ numbers_of v = ap (λ (q : View B). numbers_of q) same in
      record {
        number = ap (λ (q : View B). q.number) same ∙ h.number;
        base = ap (λ (q : View B). q.base) same ∙ h.base;
        grows = prefix_trans v0.seen v.seen z.seen h.grows up;
        served = all_on Serves v.seen z.seen cs ss up h.served;
        late = h.late;
        past = past_on (numbers_of v) (numbers_of z) (length v.seen) (length z.seen) ss h.past (λ m a. subst (λ (ns : List ℕ). In m ns) (sym numbers) a) (prefix_length v.seen z.seen up);
        apart = h.apart;
        count = h.count;
        each = h.each;
      }

  -- the pass v itself served a connection, and is z
  pub one_here : (out : List (Option Origin)) (o : Option Origin) (v z : View B) (hs : List (Option Origin)) (cs : List Ending) (ss : List Span) (c : Ending)
      → IsServing Serves n v0 out v hs cs ss → (l : Linked Serves n v o z c)
      → IsServing Serves n v0 (out ++ []) z (hs ++ o ∷ []) (cs ++ c ∷ []) (ss ++ span_of Serves n v o z c l ∷ [])
  one_here out o v z hs cs ss c h linked =
      let s : Span = span_of Serves n v o z c linked in
      let same : z ≡ set_stage v z.seen z.stage = linked.same in
      let up : IsPrefix v.seen z.seen = linked_grows Serves grows n v o z c linked in
      let number : z.number ≡ Some n = ap (λ (q : View B). q.number) same ∙ h.number in
      let numbers : numbers_of z ≡ numbers_of v = ap (λ (q : View B). numbers_of q) same in
      let k : length (hs ++ o ∷ []) ≡ length hs + 1 = length-append hs (o ∷ []) in
      let l : length (out ++ o ∷ []) ≡ length out + 1 = length-append out (o ∷ []) in
      let count : length hs ≡ length cs + length out = h.count in
      let on : IsServing Serves n v0 (out ++ o ∷ []) z (hs ++ o ∷ []) cs ss = record {
        number = number;
        base = ap (λ (q : View B). q.base) same ∙ h.base;
        grows = prefix_trans v0.seen v.seen z.seen h.grows up;
        served = all_on Serves v.seen z.seen cs ss up h.served;
        late = h.late;
        past = past_on (numbers_of v) (numbers_of z) (length v.seen) (length z.seen) ss h.past (λ m a. subst (λ (ns : List ℕ). In m ns) (sym numbers) a) (prefix_length v.seen z.seen up);
        apart = h.apart;
        count = omega arith;
        each = λ x b. ⊎_elim (λ (p : Among x hs). ⊎_elim (λ (d : Among x (origins_of cs)). inl d) (λ (d : Among x out). inr (among_left x out (o ∷ []) d)) (h.each x p))
            (λ (p : Among x (o ∷ [])). inr (among_right x out (o ∷ []) p)) (among_cases x hs (o ∷ []) b);
      } in
      one_back out [] o z (hs ++ o ∷ []) cs ss c s on linked.of (span_served Serves grows n v z o c z.seen linked (prefix_self z.seen))
      (prefix_length v0.seen v.seen h.grows) (number_in z n number) (before_here (numbers_of v) (length v.seen) ss s h.past (omega arith))
