-- The served versions in the order of their priority, and the reply that shows the group.
use Rattle.std.proofs.Common.{◌≡◌, ◌≢◌, ◌⊎◌, inl, inr, ℕ, zero, suc, ◌<◌, List, [], ◌∷◌, length, None, Some, Ok, Bool, true, false, ap, sym, subst, refl, ◌∙◌, arith, is_gt, Ordering, Less, Equal, Greater}
use Rattle.std.specs.Prelude.{nat_eq, if◌then◌else◌, slice_get, slice_index_or}
use Rattle.kj_value.specs.Text.{text_of}
use Rattle.std.specs.Cmp.{IsTotalOrder}
use Rattle.std.specs.Ordering.{ordering_reverse}
use Rattle.std.specs.List.{insert, IsDistinct, AllByRecursion}
use Rattle.std.proofs.lemmas.Bool.Decides.{nat_tests}
use Rattle.api_calls.specs.Documents.{AreOffered, AreRanked, group_document}
use Rattle.api_calls.specs.Legal.{Each, In}
use Rattle.api_calls.specs.Meaning.{Meaning}
use Rattle.api_calls.specs.Priority.{priority_cmp}
use Rattle.api_calls.specs.Replies.{GroupReply, said}
use Rattle.api_calls.specs.State.{State, served}
use Rattle.api_calls.specs.Versions.{AreFlags}
use Rattle.api_calls.specs.declared.flags.Flags.{Flags}
use Rattle.setting_texts.specs.inner.Offered.{rank_of, ranked_below, ranked_with}

-- ---- one more version

pub insert-rank : (m : Meaning) (v : ℕ) (ws : List ℕ) → insert ws (rank_of m v ws) v ≡ ranked_with m v ws
insert-rank m v [] = refl
insert-rank m v (w ∷ ws) = by (is_gt (priority_cmp (m.name v) (m.name w))) (insert-rank m v ws)
  where
    by : (b : Bool) → insert ws (rank_of m v ws) v ≡ ranked_with m v ws → insert (w ∷ ws) (if b then suc (rank_of m v ws) else 0) v ≡ (if b then w ∷ ranked_with m v ws else v ∷ w ∷ ws)
    by true more = ap (λ (xs : List ℕ). w ∷ xs) more
    by false more = refl

each-with : (P : ℕ → Type 0) (m : Meaning) (v : ℕ) (ws : List ℕ) → P v → Each P ws → Each P (ranked_with m v ws)
each-with P m v [] p h = (p, tt)
each-with P m v (w ∷ ws) p h = by (is_gt (priority_cmp (m.name v) (m.name w))) (each-with P m v ws p h.1)
  where
    by : (b : Bool) → Each P (ranked_with m v ws) → Each P (if b then w ∷ ranked_with m v ws else v ∷ w ∷ ws)
    by true more = (h.0, more)
    by false more = (p, h)

in-with : (m : Meaning) (v x : ℕ) (ws : List ℕ) → In x (ranked_with m v ws) → (x ≡ v) ⊎ In x ws
in-with m v x [] (inl is) = inl is
in-with m v x [] (inr none) = absurd none
in-with m v x (w ∷ ws) h = by (is_gt (priority_cmp (m.name v) (m.name w))) h (in-with m v x ws)
  where
    moved : (x ≡ v) ⊎ In x ws → (x ≡ v) ⊎ ((x ≡ w) ⊎ In x ws)
    moved (inl is) = inl is
    moved (inr there) = inr (inr there)

    at : (In x (ranked_with m v ws) → (x ≡ v) ⊎ In x ws) → (x ≡ w) ⊎ In x (ranked_with m v ws) → (x ≡ v) ⊎ ((x ≡ w) ⊎ In x ws)
    at more (inl is) = inr (inl is)
    at more (inr there) = moved (more there)

    by : (b : Bool) → In x (if b then w ∷ ranked_with m v ws else v ∷ w ∷ ws) → (In x (ranked_with m v ws) → (x ≡ v) ⊎ In x ws) → (x ≡ v) ⊎ ((x ≡ w) ⊎ In x ws)
    by true h more = at more h
    by false h more = h

with-in : (m : Meaning) (v x : ℕ) (ws : List ℕ) → (x ≡ v) ⊎ In x ws → In x (ranked_with m v ws)
with-in m v x [] (inl is) = inl is
with-in m v x [] (inr none) = absurd none
with-in m v x (w ∷ ws) h = by (is_gt (priority_cmp (m.name v) (m.name w))) h (with-in m v x ws)
  where
    at : ((x ≡ v) ⊎ In x ws → In x (ranked_with m v ws)) → (x ≡ v) ⊎ ((x ≡ w) ⊎ In x ws) → (x ≡ w) ⊎ In x (ranked_with m v ws)
    at more (inl is) = inr (more (inl is))
    at more (inr (inl is)) = inl is
    at more (inr (inr there)) = inr (more (inr there))

    by : (b : Bool) → (x ≡ v) ⊎ ((x ≡ w) ⊎ In x ws) → ((x ≡ v) ⊎ In x ws → In x (ranked_with m v ws)) → In x (if b then w ∷ ranked_with m v ws else v ∷ w ∷ ws)
    by true h more = at more h
    by false h more = h

-- ---- distinct

apart : (x y : ℕ) → x < y → nat_eq x y ≡ false
apart x y h = grind (arith, nat_tests)

apart-back : (x y : ℕ) → y < x → nat_eq x y ≡ false
apart-back x y h = grind (arith, nat_tests)

all-of : (P Q : ℕ → Type 0) (xs : List ℕ) → ((x : ℕ) → P x → Q x) → Each P xs → AllByRecursion Q xs
all-of P Q [] f h = tt
all-of P Q (x ∷ xs) f h = (f x h.0, all-of P Q xs f h.1)

all-with : (P : ℕ → Type 0) (m : Meaning) (v : ℕ) (ws : List ℕ) → P v → AllByRecursion P ws → AllByRecursion P (ranked_with m v ws)
all-with P m v [] p h = (p, tt)
all-with P m v (w ∷ ws) p h = by (is_gt (priority_cmp (m.name v) (m.name w))) (all-with P m v ws p h.1)
  where
    by : (b : Bool) → AllByRecursion P (ranked_with m v ws) → AllByRecursion P (if b then w ∷ ranked_with m v ws else v ∷ w ∷ ws)
    by true more = (h.0, more)
    by false more = (p, h)

distinct-with : (m : Meaning) (v : ℕ) (ws : List ℕ) → Each (λ w. w < v) ws → IsDistinct nat_eq ws → IsDistinct nat_eq (ranked_with m v ws)
unfolding IsDistinct
distinct-with m v [] below d = (tt, tt)
distinct-with m v (w ∷ ws) below d = by (is_gt (priority_cmp (m.name v) (m.name w))) (distinct-with m v ws below.1 d.1)
  where
    by : (b : Bool) → IsDistinct nat_eq (ranked_with m v ws) → IsDistinct nat_eq (if b then w ∷ ranked_with m v ws else v ∷ w ∷ ws)
    by true more = (all-with (λ y. nat_eq w y ≡ false) m v ws (apart w v below.0) d.0, more)
    by false more = (all-of (λ w. w < v) (λ y. nat_eq v y ≡ false) (w ∷ ws) (λ x h. apart-back v x h) below, d)

-- ---- ranked

module _ (o : IsTotalOrder priority_cmp) where
  turned : (a b : List ℕ) → priority_cmp a b ≡ Greater → priority_cmp b a ≢ Greater
  turned a b h k = clash (sym k ∙ (o.antisymm b a ∙ ap ordering_reverse h))
    where
      clash : Greater ≡ Less → ⊥
      clash e = cc

  -- not greater, and then not greater
  chain : (a b c : List ℕ) → priority_cmp a b ≢ Greater → priority_cmp b c ≢ Greater → priority_cmp a c ≢ Greater
  chain a b c h k = by (priority_cmp a b) refl (priority_cmp b c) refl
    where
      less : priority_cmp a c ≡ Less → priority_cmp a c ≢ Greater
      less e f = lie (sym e ∙ f)
        where
          lie : Less ≡ Greater → ⊥
          lie e = cc

      by : (x : Ordering) → priority_cmp a b ≡ x → (y : Ordering) → priority_cmp b c ≡ y → priority_cmp a c ≢ Greater
      by Greater p y q = absurd (h p)
      by Equal p y q = subst (λ (z : Ordering). z ≢ Greater) (sym (o.congr a b c p)) k
      by Less p Less q = less (o.trans a b c p q)
      by Less p Greater q = absurd (k q)
      by Less p Equal q = less (ordered (o.antisymm a c) (o.congr c b a (o.antisymm c b ∙ ap ordering_reverse q) ∙ (o.antisymm b a ∙ ap ordering_reverse p)))
        where
          ordered : priority_cmp a c ≡ ordering_reverse (priority_cmp c a) → priority_cmp c a ≡ Greater → priority_cmp a c ≡ Less
          ordered e f = e ∙ ap ordering_reverse f

  each-behind : (m : Meaning) (v w : ℕ) (ws : List ℕ) → priority_cmp (m.name v) (m.name w) ≢ Greater → Each (λ x. priority_cmp (m.name w) (m.name x) ≢ Greater) ws
      → Each (λ x. priority_cmp (m.name v) (m.name x) ≢ Greater) ws
  each-behind m v w [] h k = tt
  each-behind m v w (x ∷ ws) h k = (chain (m.name v) (m.name w) (m.name x) h k.0, each-behind m v w ws h k.1)

  greater : (o : Ordering) → is_gt o ≡ true → o ≡ Greater
  greater Less h = cc
  greater Equal h = cc
  greater Greater h = refl

  not-greater : (o : Ordering) → is_gt o ≡ false → o ≢ Greater
  not-greater Less h e = cc
  not-greater Equal h e = cc
  not-greater Greater h e = cc

  ranked-with : (m : Meaning) (v : ℕ) (ws : List ℕ) → AreRanked m ws → AreRanked m (ranked_with m v ws)
  ranked-with m v [] h = (tt, tt)
  ranked-with m v (w ∷ ws) h = by (is_gt (priority_cmp (m.name v) (m.name w))) refl (ranked-with m v ws h.1)
    where
      by : (b : Bool) → is_gt (priority_cmp (m.name v) (m.name w)) ≡ b → AreRanked m (ranked_with m v ws) → AreRanked m (if b then w ∷ ranked_with m v ws else v ∷ w ∷ ws)
      by true is more =
          (each-with (λ x. priority_cmp (m.name w) (m.name x) ≢ Greater) m v ws (turned (m.name v) (m.name w) (greater (priority_cmp (m.name v) (m.name w)) is)) h.0, more)
      by false is more =
          let first = not-greater (priority_cmp (m.name v) (m.name w)) is in
          ((first, each-behind m v w ws first h.0), h)

  -- ---- all of them

  -- the served versions below a place
  record AreBelow (m : Meaning) (f : Flags) (n : ℕ) (vs : List ℕ) : Type 0 where
    to : (v : ℕ) → In v vs → (v < n) × (served f v ≡ true)
    from : (v : ℕ) → v < n → served f v ≡ true → In v vs
    below : Each (λ v. v < n) vs
    once : IsDistinct nat_eq vs
    ranked : AreRanked m vs

  each-more : (n : ℕ) (vs : List ℕ) → Each (λ v. v < n) vs → Each (λ v. v < suc n) vs
  each-more n [] h = tt
  each-more n (v ∷ vs) h = (let a = h.0 in omega (arith, a), each-more n vs h.1)

  below-next : (m : Meaning) (f : Flags) (n : ℕ) (vs : List ℕ) (b : Bool) → served f n ≡ b → AreBelow m f n vs → AreBelow m f (suc n) (if b then ranked_with m n vs else vs)
  below-next m f n vs true is so_far = record {
    to = λ v h. told v (in-with m n v vs h);
    from = λ v h s. with-in m n v vs (place v h s);
    below = each-with (λ v. v < suc n) m n vs (omega arith) (each-more n vs so_far.below);
    once = distinct-with m n vs so_far.below so_far.once;
    ranked = ranked-with m n vs so_far.ranked;
  }
    where
      told : (v : ℕ) → (v ≡ n) ⊎ In v vs → (v < suc n) × (served f v ≡ true)
      told v (inl e) = (omega (arith, e), ap (λ (w : ℕ). served f w) e ∙ is)
      told v (inr there) = let h = so_far.to v there in let a = h.0 in (omega (arith, a), h.1)

      place : (v : ℕ) → v < suc n → served f v ≡ true → (v ≡ n) ⊎ In v vs
      place v h s = by (nat_eq v n) refl
        where
          by : (b : Bool) → nat_eq v n ≡ b → (v ≡ n) ⊎ In v vs
          by true e = inl (grind (arith, nat_tests))
          by false e = inr (so_far.from v (grind (arith, nat_tests)) s)
  below-next m f n vs false is so_far = record {
    to = λ v h. let t = so_far.to v h in let a = t.0 in (omega (arith, a), t.1);
    from = λ v h s. by v h s (nat_eq v n) refl;
    below = each-more n vs so_far.below;
    once = so_far.once;
    ranked = so_far.ranked;
  }
    where
      by : (v : ℕ) → v < suc n → served f v ≡ true → (b : Bool) → nat_eq v n ≡ b → In v vs
      by v h s true e = let same : v ≡ n = grind (arith, nat_tests) in absurd (clash (sym s ∙ (ap (λ (w : ℕ). served f w) same ∙ is)))
        where
          clash : true ≡ false → ⊥
          clash e = cc
      by v h s false e = so_far.from v (grind (arith, nat_tests)) s

  are-below : (m : Meaning) (f : Flags) (n : ℕ) → AreBelow m f n (ranked_below m f n)
  unfolding IsDistinct
  are-below m f zero = record { to = λ v h. absurd h; from = λ v h s. absurd (omega (arith, h)); below = tt; once = tt; ranked = tt }
  are-below m f (suc n) = below-next m f n (ranked_below m f n) (served f n) refl (are-below m f n)

  pub are-offered : (m : Meaning) (f : Flags) (n : ℕ) → n ≡ m.count → AreOffered m f (ranked_below m f n)
  are-offered m f n is =
      let below = are-below m f n in
      record {
        served = λ v. (
          (λ h. let t = below.to v h in let a = t.0 in (omega (arith, a, is), t.1)),
          (λ h. let a = h.0 in below.from v (omega (arith, a, is)) h.1),
        );
        once = below.once;
        ranked = below.ranked;
      }

  pub known-below : (m : Meaning) (f : Flags) (n : ℕ) → Each (λ v. v < n) (ranked_below m f n)
  known-below m f n = (are-below m f n).below

-- what the loop has, as long as it runs and when it ends
pub known-count : IsTotalOrder priority_cmp → (m : Meaning) (f : Flags) (v n : ℕ) (vs : List ℕ) → vs ≡ ranked_below m f v → v < n → n ≡ m.count → Each (λ w. w < m.count) vs
known-count o m f v n vs is short count =
    each-to (λ w. w < v) (λ w. w < m.count) vs (λ w h. omega (arith, h, short, count)) (subst (λ (xs : List ℕ). Each (λ w. w < v) xs) (sym is) (known-below o m f v))
  where
    each-to : (P Q : ℕ → Type 0) (xs : List ℕ) → ((x : ℕ) → P x → Q x) → Each P xs → Each Q xs
    each-to P Q [] g h = tt
    each-to P Q (x ∷ xs) g h = (g x h.0, each-to P Q xs g h.1)

pub offered-end : IsTotalOrder priority_cmp → (m : Meaning) (f : Flags) (v : ℕ) (vs : List ℕ) → vs ≡ ranked_below m f v → v ≡ m.count → AreOffered m f vs
offered-end o m f v vs is count = subst (λ (xs : List ℕ). AreOffered m f xs) (sym is) (are-offered o m f v count)

pub first-known : (m : Meaning) (r : ℕ) (vs : List ℕ) → 0 < length vs → Each (λ v. v < m.count) vs → ((v : ℕ) (ws : List ℕ) → vs ≡ v ∷ ws → r ≡ v) → r < m.count
first-known m r [] some known first = absurd (omega (arith, some))
first-known m r (v ∷ vs) some known first = subst (λ (n : ℕ). n < m.count) (sym (first v vs refl)) known.0

-- ---- the reply

each-in : (P : ℕ → Type 0) (xs : List ℕ) → ((x : ℕ) → In x xs → P x) → Each P xs
each-in P [] f = tt
each-in P (x ∷ xs) f = (f x (inl refl), each-in P xs (λ y h. f y (inr h)))

pub offered-known : (m : Meaning) (f : Flags) (vs : List ℕ) → AreOffered m f vs → Each (λ v. v < m.count) vs
offered-known m f vs offered = each-in (λ v. v < m.count) vs (λ v h. ((offered.served v).0 h).0)

got-served : (xs : List Bool) (v : ℕ) → slice_get xs v ≡ Some true → slice_index_or xs v false ≡ true
got-served [] v h = absurd (cc)
got-served (x ∷ xs) zero h = cc
got-served (x ∷ xs) (suc v) h = got-served xs v h

pub offered-some : (m : Meaning) (f : Flags) (vs : List ℕ) → AreFlags m.count f → AreOffered m f vs → 0 < length vs
offered-some m f vs flags offered = held vs ((offered.served flags.served.0).1 (flags.served.1, got-served f.served flags.served.0 flags.served.2))
  where
    held : (ws : List ℕ) → In flags.served.0 ws → 0 < length ws
    held [] h = absurd h
    held (w ∷ ws) h = omega arith

pub group-reply : (m : Meaning) (f : Flags) (s : State) (vs : List ℕ) (text : List ℕ) → f ≡ s.flags → 0 < length vs → AreOffered m f vs
    → ((v : ℕ) (ws : List ℕ) → vs ≡ v ∷ ws → text ≡ text_of (group_document m v ws)) → GroupReply m s (Ok (record { code = 200; text = text })) None
group-reply m f s [] text same some offered spelled = absurd (omega (arith, some))
group-reply m f s (v ∷ vs) text same some offered spelled = (
  (v, vs, subst (λ (x : Flags). AreOffered m x (v ∷ vs)) same offered, ap (λ (t : List ℕ). said 200 t) (spelled v vs refl)),
  refl,
)
