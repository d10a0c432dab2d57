-- A number names one value.
use Rattle.std.proofs.Common.{◌≡◌, ◌≢◌, ℕ, ◌+◌, ◌<◌, ◌≤◌, zero, suc, List, [], ◌∷◌, None, Some, Bool, true, false, ap, refl, sym, ◌∙◌, subst, arith, take, inl, inr}
use Rattle.std.specs.Prelude.{◌⊎◌, if◌then◌else◌, nat_eq}
use Rattle.std.specs.Ordering.{match_ordering}
use Rattle.std.specs.declared.cmp.Ordering.{Ordering}
use Rattle.std.specs.declared.cmp.Ordering.TheVariants.{Less, Equal, Greater}
use Rattle.kube_meta.specs.Key.{KeyView, key_cmp}
use Rattle.api_calls.specs.Meaning.{Meaning}
use Rattle.api_calls.specs.Item.{Create, Replace, Mark, Release, Touch, Delete, SetVersions, Trim, StartMigration, MarkSucceeded, Claim, RangeDone, GiveBack, Item, entry, note}
use Rattle.api_calls.specs.Objects.{Stored, find, put, without, updated, moved, marked_at, born_or}
use Rattle.api_calls.specs.State.{State, target_of, moved_storage, entry_effect, effect, number_after, number_from, opening, state_from, state}
use Rattle.api_calls.specs.Legal.{Each, In}
use Rattle.api_calls.specs.LegalLists.{Holds}
use Rattle.api_calls.proofs.Lists.{each, each-put, each-without, each-updated}

pub in_each : {X : Type 0} (P : X → Type 0) (x : X) (xs : List X) → Each P xs → In x xs → P x
in_each P x [] h i = absurd i
in_each P x (y ∷ ys) h (inl same) = subst P (sym same) h.0
in_each P x (y ∷ ys) h (inr i) = in_each P x ys h.1 i

pub each_self : {X : Type 0} (xs : List X) → Each (λ x. In x xs) xs
each_self [] = tt
each_self (x ∷ xs) = (inl refl, each (λ y. In y xs) (λ y. In y (x ∷ xs)) xs (each_self xs) (λ y h. inr h))

pub find-in : (k : KeyView) (es : List Stored) (e : Stored) → find k es ≡ Some e → In e es
find-in k [] e h = cc
find-in k (f ∷ es) e h = by (key_cmp k f.key) h (find-in k es e)
  where
    by : (o : Ordering) → match_ordering o None (Some f) (find k es) ≡ Some e → (find k es ≡ Some e → In e es) → (e ≡ f) ⊎ In e es
    by Less h more = cc
    by Equal h more = inl cc
    by Greater h more = inr (more h)

-- ---- every number is below the next one, and no two are the same

abbrev pub Below : ℕ → State → Type 0
Below n s = Each (λ e. e.number < n) s.objects

abbrev pub Differ : List Stored → Type 0
Differ [] = Unit {0}
Differ (e ∷ es) = Each (λ f. e.number ≢ f.number) es × Differ es

differ-put : (x : Stored) (es : List Stored) → Each (λ e. e.number < x.number) es → Differ es → Differ (put x es)
differ-put x [] below d = (tt, tt)
differ-put x (e ∷ es) below d = by (key_cmp x.key e.key) (differ-put x es below.1 d.1)
  where
    all : Each (λ f. x.number ≢ f.number) es
    all = each (λ f. f.number < x.number) (λ f. x.number ≢ f.number) es below.1 (λ f lt. omega arith)

    by : (o : Ordering) → Differ (put x es) → Differ (match_ordering o (x ∷ e ∷ es) (x ∷ es) (e ∷ put x es))
    by Less more = let ne : x.number ≢ e.number = omega (arith, below.0) in ((ne, all), d)
    by Equal more = (all, d.1)
    by Greater more = let ne : e.number ≢ x.number = omega (arith, below.0) in (each-put (λ f. e.number ≢ f.number) x es ne d.0, more)

differ-without : (k : KeyView) (es : List Stored) → Differ es → Differ (without k es)
differ-without k [] d = tt
differ-without k (e ∷ es) d = by (key_cmp k e.key) (differ-without k es d.1)
  where
    by : (o : Ordering) → Differ (without k es) → Differ (match_ordering o (e ∷ es) es (e ∷ without k es))
    by Less more = d
    by Equal more = d.1
    by Greater more = (each-without (λ f. e.number ≢ f.number) k es d.0, more)

-- a change that gives a number
differ-updated : (f : Stored → Stored) (n : ℕ) (k : KeyView) (es : List Stored) → ((e : Stored) → (f e).number ≡ n) → Each (λ e. e.number < n) es → Differ es → Differ (updated f k es)
differ-updated f n k [] numbers below d = tt
differ-updated f n k (e ∷ es) numbers below d = by (key_cmp k e.key) (differ-updated f n k es numbers below.1 d.1)
  where
    new : (g : Stored) → g.number < n → (f e).number ≢ g.number
    new g lt = let is = numbers e in omega (arith, lt, is)

    old : (g : Stored) → e.number ≢ (f g).number
    old g = let is = numbers g in omega (arith, below.0, is)

    by : (o : Ordering) → Differ (updated f k es) → Differ (match_ordering o (e ∷ es) (f e ∷ es) (e ∷ updated f k es))
    by Less more = d
    by Equal more = (each (λ g. g.number < n) (λ g. (f e).number ≢ g.number) es below.1 new, d.1)
    by Greater more = (each-updated (λ g. e.number ≢ g.number) f k es (λ g p. old g) d.0, more)

-- ---- what an entry leaves below its number was there

abbrev pub Old : ℕ → List Stored → Stored → Type 0
Old n es f = f.number < n → In f es

old_self : (n : ℕ) (es : List Stored) → Each (Old n es) es
old_self n es = each (λ f. In f es) (Old n es) es (each_self es) (λ f h lt. h)

old-put : (n : ℕ) (x : Stored) (es : List Stored) → x.number ≡ n → Each (Old n es) (put x es)
old-put n x es is = each-put (Old n es) x es (λ lt. absurd (omega (arith, lt, is))) (old_self n es)

pub old-step : (n : ℕ) (i : Item) (s : State) → Each (Old n s.objects) (effect n i s).objects
old-step n (entry (Create k h w)) s =
    old-put n (record { key = k; h = h; number = n; at = s.flags.storage; born = n; weight = w }) s.objects refl
old-step n (entry (Replace k over h w)) s =
    old-put n (record { key = k; h = h; number = n; at = s.flags.storage; born = born_or (find k s.objects) n; weight = w }) s.objects refl
old-step n (entry (Mark k over stamp)) s =
    each-updated (Old n s.objects) (marked_at n s.flags.storage stamp) k s.objects (λ e h lt. absurd (omega (arith, lt))) (old_self n s.objects)
old-step n (entry (Release k over)) s = each-without (Old n s.objects) k s.objects (old_self n s.objects)
old-step n (entry (Touch k c)) s =
    each-updated (Old n s.objects) (moved n (target_of s)) k s.objects (λ e h lt. absurd (omega (arith, lt))) (old_self n s.objects)
old-step n (entry (Delete k)) s = each-without (Old n s.objects) k s.objects (old_self n s.objects)
old-step n (entry (SetVersions f)) s = by (nat_eq f.storage s.flags.storage)
  where
    by : (b : Bool) → Each (Old n s.objects) (if b then record s { flags = f } else moved_storage f s).objects
    by true = old_self n s.objects
    by false = old_self n s.objects
old-step n (entry (Trim keep)) s = old_self n s.objects
old-step n (entry (StartMigration name)) s = old_self n s.objects
old-step n (entry MarkSucceeded) s = old_self n s.objects
old-step n (note (Claim c)) s = old_self n s.objects
old-step n (note (RangeDone c)) s = old_self n s.objects
old-step n (note (GiveBack c)) s = old_self n s.objects

pub record IsNumbered (n : ℕ) (s : State) : Type 0 where
  pub below : Below n s
  pub differ : Differ s.objects

more_below : (n : ℕ) (es : List Stored) → Each (λ e. e.number < n) es → Each (λ e. e.number < n + 1) es
more_below n es h = each (λ e. e.number < n) (λ e. e.number < n + 1) es h (λ e lt. omega arith)

numbered-put : (n : ℕ) (x : Stored) (es : List Stored) → x.number ≡ n → Each (λ e. e.number < n) es → Differ es → Each (λ e. e.number < n + 1) (put x es) × Differ (put x es)
numbered-put n x es is below d =
    let lt : x.number < n + 1 = omega (arith, is) in
    (each-put (λ e. e.number < n + 1) x es lt (more_below n es below), differ-put x es (subst (λ (k : ℕ). Each (λ e. e.number < k) es) (sym is) below) d)

kept : (n : ℕ) (s : State) → IsNumbered n s → (t : State) → t.objects ≡ s.objects → IsNumbered (n + 1) t
kept n s h t is =
    record {
      below = subst (λ (es : List Stored). Each (λ e. e.number < n + 1) es) (sym is) (more_below n s.objects h.below);
      differ = subst Differ (sym is) h.differ;
    }

numbered-updated : (n : ℕ) (f : Stored → Stored) (k : KeyView) (s : State) → ((e : Stored) → (f e).number ≡ n) → IsNumbered n s → IsNumbered (n + 1) (record s { objects = updated f k s.objects })
numbered-updated n f k s numbers num = record {
  below = each-updated (λ e. e.number < n + 1) f k s.objects (λ e p. let is = numbers e in omega (arith, is)) (more_below n s.objects num.below);
  differ = differ-updated f n k s.objects numbers num.below num.differ;
}

numbered-without : (n : ℕ) (k : KeyView) (s : State) → IsNumbered n s → IsNumbered (n + 1) (record s { objects = without k s.objects })
numbered-without n k s num = record {
  below = each-without (λ e. e.number < n + 1) k s.objects (more_below n s.objects num.below);
  differ = differ-without k s.objects num.differ;
}

pub numbered-step : (n : ℕ) (i : Item) (s : State) → IsNumbered n s → IsNumbered (number_after n i) (effect n i s)
numbered-step n (entry (Create k h w)) s num =
    let r = numbered-put n (record { key = k; h = h; number = n; at = s.flags.storage; born = n; weight = w }) s.objects refl num.below num.differ in
    record { below = r.0; differ = r.1 }
numbered-step n (entry (Replace k over h w)) s num =
    let r = numbered-put n (record { key = k; h = h; number = n; at = s.flags.storage; born = born_or (find k s.objects) n; weight = w }) s.objects refl num.below num.differ in
    record { below = r.0; differ = r.1 }
numbered-step n (entry (Mark k over stamp)) s num = numbered-updated n (marked_at n s.flags.storage stamp) k s (λ e. refl) num
numbered-step n (entry (Release k over)) s num = numbered-without n k s num
numbered-step n (entry (Touch k c)) s num =
    let r = numbered-updated n (moved n (target_of s)) k s (λ e. refl) num in record { below = r.below; differ = r.differ }
numbered-step n (entry (Delete k)) s num = numbered-without n k s num
numbered-step n (entry (SetVersions f)) s num = by (nat_eq f.storage s.flags.storage)
  where
    by : (b : Bool) → IsNumbered (n + 1) (if b then record s { flags = f } else moved_storage f s)
    by true = kept n s num (record s { flags = f }) refl
    by false = kept n s num (moved_storage f s) refl
numbered-step n (entry (Trim keep)) s num = kept n s num (entry_effect n (Trim keep) s) refl
numbered-step n (entry (StartMigration name)) s num = kept n s num (entry_effect n (StartMigration name) s) refl
numbered-step n (entry MarkSucceeded) s num = kept n s num (entry_effect n MarkSucceeded s) refl
numbered-step n (note (Claim c)) s num = record { below = num.below; differ = num.differ }
numbered-step n (note (RangeDone c)) s num = record { below = num.below; differ = num.differ }
numbered-step n (note (GiveBack c)) s num = record { below = num.below; differ = num.differ }

pub numbered-from : (n : ℕ) (s : State) (log : List Item) → IsNumbered n s → IsNumbered (number_from n log) (state_from n s log)
numbered-from n s [] h = h
numbered-from n s (i ∷ log) h = numbered-from (number_after n i) (effect n i s) log (numbered-step n i s h)

pub later : (n : ℕ) (i : Item) → n ≤ number_after n i
later n (entry e) = omega arith
later n (note x) = omega arith

-- an object with a number below the next one was there
pub old-from : (n : ℕ) (s : State) (log : List Item) → Each (Old n s.objects) (state_from n s log).objects
old-from n s [] = old_self n s.objects
old-from n s (i ∷ log) =
    each (Old (number_after n i) (effect n i s).objects) (Old n s.objects) (state_from (number_after n i) (effect n i s) log).objects
    (old-from (number_after n i) (effect n i s) log)
    (λ f h lt. let up = later n i in let lt2 : f.number < number_after n i = omega (arith, lt, up) in
    in_each (Old n s.objects) f (effect n i s).objects (old-step n i s) (h lt2) lt)

same_number : (es : List Stored) (e f : Stored) → Differ es → In e es → In f es → e.number ≡ f.number → e ≡ f
same_number [] e f d a b is = absurd a
same_number (g ∷ es) e f d (inl a) (inl b) is = a ∙ sym b
same_number (g ∷ es) e f d (inl a) (inr b) is = absurd (in_each (λ q. g.number ≢ q.number) f es d.0 b (ap (λ (q : Stored). q.number) (sym a) ∙ is))
same_number (g ∷ es) e f d (inr a) (inl b) is = absurd (in_each (λ q. g.number ≢ q.number) e es d.0 a (ap (λ (q : Stored). q.number) (sym b) ∙ sym is))
same_number (g ∷ es) e f d (inr a) (inr b) is = same_number es e f d.1 a b is

here_and_later : (n : ℕ) (s : State) (log : List Item) (e f : Stored) → IsNumbered n s → In e s.objects → In f (state_from n s log).objects → e.number ≡ f.number → e ≡ f
here_and_later n s log e f num a b is =
    let lt : e.number < n = in_each (λ q. q.number < n) e s.objects num.below a in
    let lt2 : f.number < n = omega (arith, lt, is) in
    same_number s.objects e f num.differ a (in_each (Old n s.objects) f (state_from n s log).objects (old-from n s log) b lt2) is

pub one-from : (n : ℕ) (s : State) (log : List Item) (i j : ℕ) (e f : Stored) → IsNumbered n s → In e (state_from n s (take i log)).objects → In f (state_from n s (take j log)).objects
    → e.number ≡ f.number → e ≡ f
one-from n s log zero j e f num a b is = here_and_later n s (take j log) e f num a b is
one-from n s log (suc i) zero e f num a b is = sym (here_and_later n s (take (suc i) log) f e num b a (sym is))
one-from n s [] (suc i) (suc j) e f num a b is = same_number s.objects e f num.differ a b is
one-from n s (x ∷ log) (suc i) (suc j) e f num a b is = one-from (number_after n x) (effect n x s) log i j e f (numbered-step n x s num) a b is

pub numbered-opening : (m : Meaning) → IsNumbered 2 (opening m)
numbered-opening m = record { below = tt; differ = tt }

pub one-value : (m : Meaning) (log : List Item) (i j : ℕ) (e f : Stored) → Holds (state m (take i log)) e → Holds (state m (take j log)) f → e.number ≡ f.number → e ≡ f
one-value m log i j e f a b is =
    one-from 2 (opening m) log i j e f (numbered-opening m) (find-in e.key (state m (take i log)).objects e a) (find-in f.key (state m (take j log)).objects f b) is
