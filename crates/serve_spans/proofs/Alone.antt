-- Which items of a list are of whom, and shares.
use Rattle.std.proofs.Common.{ℕ, suc, ◌≡◌, ◌≢◌, ◌≤◌, ◌<◌, ◌+◌, ◌*◌, ◌-◌, ◌/◌, ◌^◌, ◌⊎◌, List, [], ◌∷◌, ◌++◌, length, Option, None, Some, refl, ap, sym, ◌∙◌, subst, arith, inl, inr, ⊎_elim, length-append}
use Rattle.std.proofs.lemmas.List.{append-nil}
use Rattle.std.proofs.lemmas.Nat.{pow_pos}
use Rattle.std.proofs.Math.Nat.{mul-div_cancel}
use native.Mathlib.Decide.{ℕ_discrete}
use mathlib.Core.List.{IsPrefix}
use Rattle.api_calls.specs.Item.{Logged, Item, items_of}
use Rattle.turn_cell.specs.laws.Laws.{prefix_self, prefix_trans, items_of-append}
use Rattle.turn_cell.specs.Numbers.{In}
use Rattle.turn_cell.specs.Rule.{parts_of}
use Rattle.turn_cell.specs.laws.ShareLaws.{parts_whole, parts_double, parts_half, parts_both, whole-parts}
use Rattle.turn_cell.specs.Turns.{Meets, Turned, addition}
use Rattle.turn_cell.specs.Views.{numbers_of, numbers_or, number_or, IsAlone, half, both_shares, set_stage}
use Rattle.turn_cell.specs.declared.view.View.{View}
use Rattle.serve_spans.specs.Spans.{IsSameBut, Quiet, Span}
use Rattle.serve_spans.specs.Owners.{At, Within, IsWork, IsWorkIf, TakesTurns}
use Rattle.serve_spans.specs.Served.{IsSamePart}
use Rattle.serve_spans.specs.inner.Keeping.{IsCovering, parts_all, AllDeep, IsShared}
use Rattle.serve_spans.proofs.Lists.{lt_or, none_more, nothing_before, items_of-other, own_item, in_cases, number_in}
use Rattle.serve_spans.proofs.Spans.{numbers_met}

-- ---- items at places

parts_cases : (xs ys front back : List Logged) (x : Logged) → xs ++ ys ≡ front ++ x ∷ back
    → ((b : List Logged) × (xs ≡ front ++ x ∷ b)) ⊎ ((length xs ≤ length front) × (f : List Logged) × (ys ≡ f ++ x ∷ back))
parts_cases [] ys front back x e = inr (omega arith, front, e)
parts_cases (z ∷ xs) ys [] back x e = inl (xs, (let h : z ≡ x = cc (e) in ap (λ (k : Logged). k ∷ xs) h))
parts_cases (z ∷ xs) ys (f ∷ front) back x e =
    let heads : z ≡ f = cc (e) in
    let tails : xs ++ ys ≡ front ++ x ∷ back = cc (e) in
    ⊎_elim (λ (l : (b : List Logged) × (xs ≡ front ++ x ∷ b)). inl (l.0, (λ i. heads i ∷ l.1 i)))
    (λ (r : (length xs ≤ length front) × (g : List Logged) × (ys ≡ g ++ x ∷ back)). inr ((let le = r.0 in omega arith), r.1, r.2)) (parts_cases xs ys front back x tails)

pub at_within : (q : List Logged) (i : ℕ) (x : Logged) → At q i x → i < length q
at_within q i x at =
    let a : length q ≡ length at.0 + suc (length at.1) = ap (λ (zs : List Logged). length zs) at.2 ∙ length-append at.0 (x ∷ at.1) in
    let b : length at.0 ≡ i = at.3 in omega arith

at_cases : (xs ys : List Logged) (i : ℕ) (x : Logged) → At (xs ++ ys) i x → At xs i x ⊎ ((length xs ≤ i) × (j : ℕ) × At ys j x)
at_cases xs ys i x at =
    ⊎_elim (λ (l : (b : List Logged) × (xs ≡ at.0 ++ x ∷ b)). inl (at.0, l.0, l.1, at.3))
    (λ (r : (length xs ≤ length at.0) × (f : List Logged) × (ys ≡ f ++ x ∷ at.1)). inr ((let le = r.0 in let e = at.3 in omega arith), length r.1, (r.1, at.1, r.2, refl)))
    (parts_cases xs ys at.0 at.1 x at.2)

at_none : (q : List Logged) (i : ℕ) (x : Logged) → At q i x → items_of x.by q ≡ [] → ⊥
at_none q i x at none_there =
    let e : items_of x.by at.0 ++ (x ∷ items_of x.by at.1) ≡ [] =
    sym (ap (λ (zs : List Logged). items_of x.by at.0 ++ zs) (own_item x at.1)) ∙ (sym (items_of-append x.by at.0 (x ∷ at.1)) ∙ (sym (ap (λ (zs : List Logged). items_of x.by zs) at.2) ∙ none_there)) in
    let l : length (items_of x.by at.0) + suc (length (items_of x.by at.1)) ≡ 0 = sym (length-append (items_of x.by at.0) (x ∷ items_of x.by at.1)) ∙ ap (λ (zs : List Logged). length zs) e in
    absurd (omega arith)

-- an item of a pass that has no more items behind q stands in q
at_old : (q r : List Logged) (i : ℕ) (x : Logged) → IsPrefix q r → items_of x.by r ≡ items_of x.by q → At r i x → At q i x
at_old q r i x on same at =
    let all : items_of x.by (q ++ on.0) ≡ items_of x.by q = ap (λ (zs : List Logged). items_of x.by zs) on.1 ∙ same in
    ⊎_elim (λ (l : At q i x). l) (λ (h : (length q ≤ i) × (j : ℕ) × At on.0 j x). absurd (at_none on.0 h.1 x h.2 (none_more x.by q on.0 all)))
    (at_cases q on.0 i x (subst (λ (k : List Logged). At k i x) (sym on.1) at))

-- what stands in the front of a list
at_front : (q r : List Logged) (i : ℕ) (x : Logged) → IsPrefix q r → i < length q → At r i x → At q i x
at_front q r i x on lt at =
    ⊎_elim (λ (l : At q i x). l) (λ (h : (length q ≤ i) × (j : ℕ) × At on.0 j x). absurd (let le = h.0 in omega arith))
    (at_cases q on.0 i x (subst (λ (k : List Logged). At k i x) (sym on.1) at))

-- ---- workers

at_one : (y : Logged) (j : ℕ) (x : Logged) → At (y ∷ []) j x → y ≡ x
at_one y j x (front, back, e, len) = go front e
  where
    go : (f : List Logged) → y ∷ [] ≡ f ++ x ∷ back → y ≡ x
    go [] k = cc (k)
    go (z ∷ zs) k =
        let t : [] ≡ zs ++ x ∷ back = cc (k) in
        let l : 0 ≡ length zs + suc (length back) = ap (λ (ws : List Logged). length ws) t ∙ length-append zs (x ∷ back) in
        absurd (omega arith)

added_work : {B : Type 0} (u : View B) (log : List Logged) (item : Option Item) (j : ℕ) (x : Logged) → IsWorkIf item → At (addition u log item) j x → IsWork x.item
added_work u log None j x work at = absurd (let lt = at_within [] j x at in omega arith)
added_work {B = B} u log (Some item) j x work at =
    let y : Logged = record { by = number_or u.number; nth = length (items_of (number_or u.number) log); item = item } in
    let e : y ≡ x = at_one y j x at in
    subst (λ (z : Logged). IsWork z.item) e work

added_other : {B : Type 0} (u : View B) (n m : ℕ) (log : List Logged) (item : Option Item) → u.number ≡ Some n → m ≢ n → items_of m (addition u log item) ≡ []
added_other u n m log None named other = refl
added_other u n m log (Some item) named other =
    let y : Logged = record { by = number_or u.number; nth = length (items_of (number_or u.number) log); item = item } in
    items_of-other m y (λ e. other (e ∙ ap (λ (o : Option ℕ). number_or o) named))

pub takes_none : {B : Type 0} (m : ℕ) (v : View B) → TakesTurns m v v
takes_none m v = record {
  same = refl;
  grows = prefix_self v.seen;
  work = λ i x at le by. absurd (let lt = at_within v.seen i x at in omega arith);
  quiet = λ k other known. refl;
}

-- one more turn of a worker
pub takes_more : {B : Type 0} (m : ℕ) (v u z : View B) (log : List Logged) (item : Option Item) → v.number ≡ Some m → TakesTurns m v u → Turned u z log item → IsWorkIf item → TakesTurns m v z
takes_more {B = B} m v u z log item named h t work =
    let number : u.number ≡ Some m = ap (λ (q : View B). q.number) h.same ∙ named in
    let seen : z.seen ≡ log ++ addition u log item = ap (λ (q : View B). q.seen) t.3 in
    let own : In m (numbers_of u) = number_in u m number in
    record {
      same = t.3 ∙ ((λ i. set_stage (h.same i) (sym seen i) (ap (λ (q : View B). q.stage) (sym t.3) i)) ∙ refl);
      grows = prefix_trans v.seen u.seen z.seen h.grows (prefix_trans u.seen log z.seen t.0 (addition u log item, sym seen));
      work = λ i x at le by.
          let no_more : items_of x.by log ≡ items_of x.by u.seen = subst (λ (k : ℕ). items_of k log ≡ items_of k u.seen) (sym by) (t.1 m own) in
          ⊎_elim (λ (l : At log i x). h.work i x (at_old u.seen log i x t.0 no_more l) le by)
          (λ (r : (length log ≤ i) × (j : ℕ) × At (addition u log item) j x). added_work u log item r.1 x work r.2)
          (at_cases log (addition u log item) i x (subst (λ (k : List Logged). At k i x) seen at));
      quiet = λ k other known.
          let now : items_of k log ≡ items_of k u.seen = ⊎_elim (λ (a : In k (numbers_of v)). t.1 k (subst (λ (ns : List ℕ). In k ns) (sym (ap (λ (q : View B). numbers_of q) h.same)) a))
          (λ (a : IsAlone v). ap (λ (zs : List Logged). items_of k zs) (t.2 (subst (λ (q : View B). IsAlone q) (sym h.same) a))) known in
          let none : items_of k (addition u log item) ≡ [] = added_other u m k log item number other in
          ap (λ (zs : List Logged). items_of k zs) seen ∙ (items_of-append k log (addition u log item) ∙ (ap (λ (ys : List Logged). items_of k log ++ ys) none ∙ (append-nil (items_of k log) ∙ (now ∙ h.quiet k other known))));
    }

-- ---- covering

pub within_front : (ss : List Span) (s : Span) (i : ℕ) (x : Logged) → Within ss i x → Within (ss ++ s ∷ []) i x
within_front [] s i x h = absurd h
within_front (t ∷ ts) s i x h = ⊎_elim (λ (a : (x.by ≡ t.number) × (t.from ≤ i) × (i < t.to)). inl a) (λ (b : Within ts i x). inr (within_front ts s i x b)) h

pub within_last : (ss : List Span) (s : Span) (i : ℕ) (x : Logged) → x.by ≡ s.number → s.from ≤ i → i < s.to → Within (ss ++ s ∷ []) i x
within_last [] s i x by from to = inl (by, from, to)
within_last (t ∷ ts) s i x by from to = inr (within_last ts s i x by from to)

in_dec : (n : ℕ) (ns : List ℕ) → In n ns ⊎ (In n ns → ⊥)
in_dec n [] = inr (λ h. h)
in_dec n (m ∷ ms) = go (ℕ_discrete n m) (in_dec n ms)
  where
    go : Dec (n ≡ m) → In n ms ⊎ (In n ms → ⊥) → In n (m ∷ ms) ⊎ (In n (m ∷ ms) → ⊥)
    go (yes e) rest = inl (inl e)
    go (no ne) rest =
        ⊎_elim (λ (a : In n ms). inl (inr a)) (λ (f : In n ms → ⊥). inr (λ (h : In n (m ∷ ms)). ⊎_elim (λ (e : n ≡ m). ne e) (λ (a : In n ms). f a) h)) rest

module _ {B : Type 0} (Works : Logged → Type 0) (v0 : View B) where
  pub cover_starts : IsCovering Works v0 v0 []
  cover_starts = record {
    covered = λ i x at le own. absurd (let lt = at_within v0.seen i x at in omega arith);
    only = λ a0 a m out. refl;
  }

  pub cover_same : (v u : View B) (ss : List Span) → IsCovering Works v0 v ss → numbers_of u ≡ numbers_of v → u.seen ≡ v.seen → (IsAlone v0 → IsAlone u → ⊥) → IsCovering Works v0 u ss
  cover_same v u ss h numbers seen more = record {
    covered = λ i x at le own. h.covered i x (subst (λ (k : List Logged). At k i x) seen at) le (subst (λ (ns : List ℕ). In x.by ns) numbers own);
    only = λ a0 a m out. absurd (more a0 a);
  }

  -- more are workers' items
  pub cover_more : (More : Logged → Type 0) (v : View B) (ss : List Span) → IsCovering Works v0 v ss → ((x : Logged) → Works x → More x) → IsCovering More v0 v ss
  cover_more More v ss h more = record {
    covered = λ i x at le own. ⊎_elim (λ (c : Within ss i x). inl c) (λ (c : Works x). inr (more x c)) (h.covered i x at le own);
    only = h.only;
  }

  -- a pass that was made after v0 was met into v, which is u
  pub cover_met : (More : Logged → Type 0) (v p w u : View B) (n m : ℕ) (ss ss' : List Span) → IsCovering Works v0 v ss → v.number ≡ Some n → IsPrefix v0.seen v.seen
      → p.number ≡ Some m → p.met ≡ [] → items_of m p.seen ≡ [] → IsSameBut p w → IsPrefix p.seen w.seen → Meets v w u
      → ((i : ℕ) (x : Logged) → Within ss i x → Within ss' i x)
      → ((x : Logged) → Works x → More x)
      → ((i : ℕ) (x : Logged) → At w.seen i x → length p.seen ≤ i → x.by ≡ m → Within ss' i x ⊎ More x)
      → IsCovering More v0 u ss'
  cover_met More v p w u n m ss ss' h vn grows named unmet fresh same up met mono more own =
      let numbers_w : numbers_of w ≡ m ∷ [] = ap (λ (q : View B). numbers_of q) same ∙ (λ i. numbers_or (named i) (unmet i)) in
      let numbers : numbers_of u ≡ numbers_of v ++ numbers_of w = ap (λ (q : View B). numbers_of q) met.0 ∙ numbers_met v w n vn in
      record {
        covered = λ i x at le inside.
            ⊎_elim (λ (a : In x.by (numbers_of v)).
            ⊎_elim (λ (c : Within ss i x). inl (mono i x c)) (λ (c : Works x). inr (more x c)) (h.covered i x (at_old v.seen u.seen i x met.1.0 (met.1.3 x.by a) at) le a))
            (λ (a : In x.by (numbers_of w)).
            let by : x.by ≡ m = ⊎_elim (λ (e : x.by ≡ m). e) (λ (f : ⊥). absurd f) (subst (λ (ns : List ℕ). In x.by ns) numbers_w a) in
            let at_w : At w.seen i x = at_old w.seen u.seen i x met.1.1 (met.1.4 x.by a) at in
            ⊎_elim (λ (lt : i < length p.seen). absurd (at_none p.seen i x (at_front p.seen w.seen i x up lt at_w) (subst (λ (k : ℕ). items_of k p.seen ≡ []) (sym by) fresh)))
            (λ (ge : length p.seen ≤ i). own i x at_w ge by) (lt_or i (length p.seen)))
            (in_cases x.by (numbers_of v) (numbers_of w) (subst (λ (ns : List ℕ). In x.by ns) numbers inside));
        only = λ a0 a k out.
            let none_now : items_of k u.seen ≡ [] = met.1.5 a k out in
            none_now ∙ sym (nothing_before k v0.seen u.seen (prefix_trans v0.seen v.seen u.seen grows met.1.0) none_now);
      }

  -- the pass v itself served a connection, in a span s of that, and is z
  pub cover_here : (v z : View B) (n : ℕ) (ss : List Span) (s : Span) → IsCovering Works v0 v ss → v.number ≡ Some n → IsSameBut v z → IsPrefix v.seen z.seen → Quiet n v z
      → s.from ≡ length v.seen → s.to ≡ length z.seen → s.number ≡ n
      → IsCovering Works v0 z (ss ++ s ∷ [])
  cover_here v z n ss s h named same up quiet from to of =
      let numbers : numbers_of z ≡ numbers_of v = ap (λ (q : View B). numbers_of q) same in
      let number : z.number ≡ Some n = ap (λ (q : View B). q.number) same ∙ named in
      record {
        covered = λ i x at le inside.
            ⊎_elim (λ (lt : i < length v.seen).
            ⊎_elim (λ (c : Within ss i x). inl (within_front ss s i x c)) (λ (c : Works x). inr c)
            (h.covered i x (at_front v.seen z.seen i x up lt at) le (subst (λ (ns : List ℕ). In x.by ns) numbers inside)))
            (λ (ge : length v.seen ≤ i). new i x at ge (subst (λ (ns : List ℕ). In x.by ns) numbers inside) (ℕ_discrete x.by n))
            (lt_or i (length v.seen));
        only = λ a0 a m out.
            let alone : IsAlone v = subst (λ (q : View B). IsAlone q) same a in
            quiet m (λ e. out (subst (λ (k : ℕ). In k (numbers_of z)) (sym e) (number_in z n number))) (inr alone) ∙ h.only a0 alone m (λ k. out (subst (λ (ns : List ℕ). In m ns) (sym numbers) k));
      }
    where
      new : (i : ℕ) (x : Logged) → At z.seen i x → length v.seen ≤ i → In x.by (numbers_of v) → Dec (x.by ≡ n)
          → Within (ss ++ s ∷ []) i x ⊎ Works x
      new i x at ge inside (yes e) = let lt = at_within z.seen i x at in inl (within_last ss s i x (e ∙ sym of) (omega arith) (omega arith))
      new i x at ge inside (no ne) = absurd (let lt = at_within v.seen i x (at_old v.seen z.seen i x up (quiet x.by ne (inl inside)) at) in omega arith)

  -- the pass v itself took a worker's turns, and is z
  pub cover_works : (v z : View B) (n : ℕ) (ss : List Span) → IsCovering Works v0 v ss → v.number ≡ Some n → TakesTurns n v z → ((x : Logged) → IsWork x.item → x.by ≡ n → Works x) → IsCovering Works v0 z ss
  cover_works v z n ss h named turns theirs =
      let same = turns.same in
      let numbers : numbers_of z ≡ numbers_of v = ap (λ (q : View B). numbers_of q) same in
      let number : z.number ≡ Some n = ap (λ (q : View B). q.number) same ∙ named in
      record {
        covered = λ i x at le inside.
            ⊎_elim (λ (lt : i < length v.seen). h.covered i x (at_front v.seen z.seen i x turns.grows lt at) le (subst (λ (ns : List ℕ). In x.by ns) numbers inside))
            (λ (ge : length v.seen ≤ i). new i x at ge (subst (λ (ns : List ℕ). In x.by ns) numbers inside) (ℕ_discrete x.by n)) (lt_or i (length v.seen));
        only = λ a0 a m out.
            let alone : IsAlone v = subst (λ (q : View B). IsAlone q) same a in
            turns.quiet m (λ e. out (subst (λ (k : ℕ). In k (numbers_of z)) (sym e) (number_in z n number))) (inr alone) ∙ h.only a0 alone m (λ k. out (subst (λ (ns : List ℕ). In m ns) (sym numbers) k));
      }
    where
      new : (i : ℕ) (x : Logged) → At z.seen i x → length v.seen ≤ i → In x.by (numbers_of v) → Dec (x.by ≡ n) → Within ss i x ⊎ Works x
      new i x at ge inside (yes e) = inr (theirs x (turns.work i x at ge e) e)
      new i x at ge inside (no ne) = absurd (let lt = at_within v.seen i x (at_old v.seen z.seen i x turns.grows (turns.quiet x.by ne (inl inside)) at) in omega arith)

  -- where both are alone, nothing else was added
  pub cover_all : (v : View B) (ss : List Span) → IsCovering Works v0 v ss → IsPrefix v0.seen v.seen → IsAlone v0 → IsAlone v → (i : ℕ) (x : Logged) → At v.seen i x → length v0.seen ≤ i
      → Within ss i x ⊎ Works x
  cover_all v ss h grows a0 a i x at le =
      ⊎_elim (λ (own : In x.by (numbers_of v)). h.covered i x at le own)
      (λ (out : In x.by (numbers_of v) → ⊥). absurd (let lt = at_within v0.seen i x (at_old v0.seen v.seen i x grows (h.only a0 a x.by out) at) in omega arith))
      (in_dec x.by (numbers_of v))

-- ---- shares

-- a of the parts x, and b of the parts y, are the same part of w
same_part : (a b x y p q w : ℕ) → 0 < w → p * x ≡ w → q * y ≡ w → a * x ≡ b * y → a * q ≡ b * p
same_part a b x y p q w some ex ey flat =
    let one : a * q * (p * x) ≡ (a * x) * (q * p) = omega arith in
    let two : (b * y) * (q * p) ≡ b * p * (q * y) = omega arith in
    let e : a * q * w ≡ b * p * w = ap (λ n. a * q * n) (sym ex) ∙ (one ∙ (ap (λ n. n * (q * p)) flat ∙ (two ∙ ap (λ n. b * p * n) ey))) in
    sym (mul-div_cancel (a * q) some) ∙ (ap (λ n. n / w) e ∙ mul-div_cancel (b * p) some)

module _ {B : Type 0} where
  parts_append : (k : ℕ) (xs ys : List (View B)) → parts_all k (xs ++ ys) ≡ parts_all k xs + parts_all k ys
  parts_append k [] ys = let a : ℕ = parts_all k ys in let r : a ≡ 0 + a = omega arith in r
  parts_append k (x ∷ xs) ys = let h = parts_append k xs ys in let p : ℕ = parts_of k x.share in omega arith

  deep_drop : (k : ℕ) (front back : List (View B)) (p : View B) → AllDeep k (front ++ p ∷ back) → (p.share.halves ≤ k) × AllDeep k (front ++ back)
  deep_drop k [] back p h = h
  deep_drop k (x ∷ xs) back p h = let r = deep_drop k xs back p h.1 in (r.0, (h.0, r.1))

  deep_more : (k : ℕ) (front back : List (View B)) (p : View B) → p.share.halves ≤ k + 1 → AllDeep k (front ++ back) → AllDeep (k + 1) (front ++ p ∷ back)
  deep_more k [] back p le h = (le, up back h)
    where
      up : (vs : List (View B)) → AllDeep k vs → AllDeep (k + 1) vs
      up [] d = tt
      up (v ∷ vs) d = ((let a = d.0 in omega arith), up vs d.1)
  deep_more k (x ∷ xs) back p le h = ((let a = h.0 in omega arith), deep_more k xs back p le h.1)

  parts_twice : (k : ℕ) (vs : List (View B)) → AllDeep k vs → parts_all (k + 1) vs ≡ 2 * parts_all k vs
  parts_twice k [] d = refl
  parts_twice k (v ∷ vs) d =
      let h = parts_twice k vs d.1 in
      let e = parts_double v.share k d.0 in
      let a : ℕ = parts_of k v.share in
      let c : ℕ = parts_of (k + 1) v.share in omega arith

  alone_parts : (k : ℕ) (v : View B) → v.share.halves ≤ k → IsAlone v → parts_of k v.share ≡ 2 ^ k
  alone_parts k v le a = ap (λ n. n * 2 ^ (k - v.share.halves)) a ∙ parts_whole v.share.halves k le

  pub shared_starts : (v0 : View B) → IsShared v0 v0 []
  shared_starts v0 = record {
    scale = v0.share.halves;
    deep = (omega arith, omega arith, tt);
    parts = (let a : ℕ = parts_of v0.share.halves v0.share in let r : a + 0 ≡ a = omega arith in r);
  }

  module _ (v0 : View B) (front back : List (View B)) (v u p : View B) where
    -- the pass p was made of v, which is u
    pub shared_made : IsShared v0 v (front ++ back) → u.share ≡ half v.share → p.share ≡ half v.share → IsShared v0 u (front ++ p ∷ back)
    shared_made h left right =
        let k : ℕ = h.scale in
        let le : v.share.halves ≤ k = h.deep.1 in
        let deep_u : u.share.halves ≤ k + 1 = (let e = ap (λ q. q.halves) left in omega arith) in
        let deep_p : p.share.halves ≤ k + 1 = (let e = ap (λ q. q.halves) right in omega arith) in
        let a : parts_of (k + 1) u.share ≡ parts_of k v.share = ap (parts_of (k + 1)) left ∙ parts_half v.share k in
        let b : parts_of (k + 1) p.share ≡ parts_of k v.share = ap (parts_of (k + 1)) right ∙ parts_half v.share k in
        let c = parts_append (k + 1) front (p ∷ back) in
        let d = parts_append (k + 1) front back in
        let e = parts_twice k (front ++ back) h.deep.2 in
        let f = parts_double v0.share k h.deep.0 in
        let g = h.parts in
        record {
          scale = k + 1;
          deep = ((let z = h.deep.0 in omega arith), deep_u, deep_more k front back p deep_p h.deep.2);
          parts = omega arith;
        }

    -- then v is no longer alone, if v0 was
    pub shared_two : IsShared v0 u (front ++ p ∷ back) → p.share ≡ u.share → IsAlone v0 → IsAlone u → ⊥
    shared_two h same a0 a =
        let k : ℕ = h.scale in
        let x : parts_of k v0.share ≡ 2 ^ k = alone_parts k v0 h.deep.0 a0 in
        let y : parts_of k u.share ≡ 2 ^ k = alone_parts k u h.deep.1 a in
        let z : parts_of k p.share ≡ 2 ^ k = ap (parts_of k) same ∙ y in
        let c = parts_append k front (p ∷ back) in
        let g = h.parts in
        let pos = pow_pos k in
        absurd (omega arith)

    -- the pass p, which is w, was met into v, which is u
    pub shared_met : (w : View B) → IsShared v0 v (front ++ p ∷ back) → w.share ≡ p.share → u.share ≡ both_shares v.share w.share → IsShared v0 u (front ++ back)
    shared_met w h same both =
        let k : ℕ = h.scale in
        let d = deep_drop k front back p h.deep.2 in
        let le_v : v.share.halves ≤ k = h.deep.1 in
        let le_w : w.share.halves ≤ k = (let e = ap (λ q. q.halves) same in let l = d.0 in omega arith) in
        let a : parts_of k u.share ≡ parts_of k v.share + parts_of k w.share = ap (parts_of k) both ∙ parts_both v.share w.share k le_v le_w in
        let b : parts_of k w.share ≡ parts_of k p.share = ap (parts_of k) same in
        let c = parts_append k front (p ∷ back) in
        let e = parts_append k front back in
        let g = h.parts in
        record {
          scale = k;
          deep = (h.deep.0, (let m = ap (λ q. q.halves) both in omega arith), d.1);
          parts = omega arith;
        }

  pub shared_same : (v0 v u : View B) (outs : List (View B)) → IsShared v0 v outs → u.share ≡ v.share → IsShared v0 u outs
  shared_same v0 v u outs h same = record {
    scale = h.scale;
    deep = (h.deep.0, (let e = ap (λ q. q.halves) same in let l = h.deep.1 in omega arith), h.deep.2);
    parts = ap (λ q. parts_of h.scale q + parts_all h.scale outs) same ∙ h.parts;
  }

  pub shared_ends : (v0 v : View B) → IsShared v0 v [] → IsAlone v0 → IsAlone v
  shared_ends v0 v h a0 =
      let k : ℕ = h.scale in
      let x : parts_of k v0.share ≡ 2 ^ k = alone_parts k v0 h.deep.0 a0 in
      let g = h.parts in
      whole-parts v.share k h.deep.1 (omega arith)

  pub shared_part : (v0 v : View B) → IsShared v0 v [] → IsSamePart v.share v0.share
  shared_part v0 v h =
      let k : ℕ = h.scale in
      same_part v.share.top v0.share.top (2 ^ (k - v.share.halves)) (2 ^ (k - v0.share.halves)) (2 ^ v.share.halves) (2 ^ v0.share.halves) (2 ^ k) (pow_pos k)
      (parts_whole v.share.halves k h.deep.1) (parts_whole v0.share.halves k h.deep.0) (let g = h.parts in let a : ℕ = parts_of k v.share in let b : ℕ = parts_of k v0.share in let r : a ≡ b = omega arith in r)
