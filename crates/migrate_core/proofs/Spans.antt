-- The first record of a span that stands elsewhere, and the end of a new span, record by record.
use Rattle.std.proofs.Common.{◌≡◌, ℕ, ◌+◌, ◌-◌, ◌<◌, ◌≤◌, zero, suc, List, [], ◌∷◌, Option, None, Some, Bool, true, false, ap, refl, sym, ◌∙◌, subst, arith, nat_eq, drop, filter}
use Rattle.std.proofs.lemmas.List.{drop-drop}
use Rattle.std.specs.Prelude.{◌&&◌, not, if◌then◌else◌}
use Rattle.std.specs.Ordering.{is_gt, ordering_reverse}
use Rattle.std.specs.declared.cmp.Ordering.{Ordering}
use Rattle.std.specs.declared.cmp.Ordering.TheVariants.{Less, Equal, Greater}
use Rattle.std.proofs.lemmas.Cmp.{alike_right}
use Rattle.kube_meta.specs.Key.{KeyView, key_cmp}
use Rattle.kube_meta.specs.laws.KeyOrder.{key_cmp_total, key_cmp_itself}
use Rattle.kube_meta.specs.Plan.{Bound, Start, After, End, passed, next_bound, end_among}
use Rattle.migrate_core.specs.declared.records.Row.{Row}
use Rattle.migrate_core.specs.Rows.{KeysRise, IsBelowFirst, first_behind, elsewhere, keys}

-- a property of each record
abbrev pub Each : (Row → Type 0) → List Row → Type 0
Each P [] = Unit {0}
Each P (x ∷ xs) = P x × Each P xs

-- each key comes before all later ones
abbrev pub IsRising : List Row → Type 0
IsRising [] = Unit {0}
IsRising (e ∷ es) = Each (λ f. key_cmp e.key f.key ≡ Less) es × IsRising es

each : (P Q : Row → Type 0) (xs : List Row) → Each P xs → ((x : Row) → P x → Q x) → Each Q xs
each P Q [] h f = tt
each P Q (x ∷ xs) h f = (f x h.0, each P Q xs h.1 f)

all_later : (e : Row) (es : List Row) → IsBelowFirst e.key (keys es) → IsRising es → Each (λ f. key_cmp e.key f.key ≡ Less) es
all_later e [] h r = tt
all_later e (f ∷ fs) h r = (h, each (λ g. key_cmp f.key g.key ≡ Less) (λ g. key_cmp e.key g.key ≡ Less) fs r.0 (λ g l. key_cmp_total.trans e.key f.key g.key h l))

pub rising : (es : List Row) → KeysRise (keys es) → IsRising es
rising [] h = tt
rising (e ∷ es) h = let later = rising es h.1 in (all_later e es h.0 later, later)

-- how many records are behind a bound
abbrev pub left : Bound → List Row → ℕ
left m [] = 0
left m (e ∷ es) = (if passed m e.key then 0 else 1) + left m es

pub earlier : (m : Bound) (a b : KeyView) → key_cmp a b ≡ Less → passed m b ≡ true → passed m a ≡ true
earlier Start a b less h = cc
earlier End a b less h = refl
earlier (After k) a b less h = by (key_cmp b k) refl h
  where
    by : (o : Ordering) → key_cmp b k ≡ o → not (is_gt o) ≡ true → not (is_gt (key_cmp a k)) ≡ true
    by Less is h = let l = key_cmp_total.trans a b k less is in rw l refl
    by Equal is h = let l : key_cmp a k ≡ Less = sym (alike_right key_cmp_total b k a is) ∙ less in rw l refl
    by Greater is h = cc

pub later : (m : Bound) (a b : KeyView) → key_cmp a b ≡ Less → passed m a ≡ false → passed m b ≡ false
later m a b less h = by (passed m b) refl
  where
    by : (c : Bool) → passed m b ≡ c → c ≡ false
    by true is = let t = earlier m a b less is in cc
    by false is = refl

first_in : (P : Row → Type 0) (m : Bound) (es : List Row) (f : Row) → Each P es → first_behind m es ≡ Some f → P f
first_in P m [] f h is = cc
first_in P m (e ∷ es) f h is = by (passed m e.key) is (first_in P m es f h.1)
  where
    by : (b : Bool) → (if b then first_behind m es else Some e) ≡ Some f → (first_behind m es ≡ Some f → P f) → P f
    by true is more = more is
    by false is more = let same : e ≡ f = cc in subst P same h.0

pub none_left : (a u : Bound) (t : ℕ) (es : List Row) → first_behind a es ≡ None → elsewhere (record { after = a; upto = u }) t es ≡ None
none_left a u t [] h = refl
none_left a u t (e ∷ es) h = by (passed a e.key) h (none_left a u t es)
  where
    by : (b : Bool) → (if b then first_behind a es else Some e) ≡ None → (first_behind a es ≡ None → elsewhere (record { after = a; upto = u }) t es ≡ None)
        → (if (not b && passed u e.key) && not (nat_eq e.at t) then Some e else elsewhere (record { after = a; upto = u }) t es) ≡ None
    by true h more = more h
    by false h more = cc

all_after : (a u : Bound) (t : ℕ) (es : List Row) → Each (λ g. passed u g.key ≡ false) es → elsewhere (record { after = a; upto = u }) t es ≡ None
all_after a u t [] h = refl
all_after a u t (e ∷ es) h = by (passed a e.key) (passed u e.key) h.0 (all_after a u t es h.1)
  where
    by : (b c : Bool) → c ≡ false → elsewhere (record { after = a; upto = u }) t es ≡ None
        → (if (not b && c) && not (nat_eq e.at t) then Some e else elsewhere (record { after = a; upto = u }) t es) ≡ None
    by true c no_more more = more
    by false true no_more more = cc
    by false false no_more more = more

pub past_end : (a u : Bound) (t : ℕ) (es : List Row) (f : Row) → IsRising es → first_behind a es ≡ Some f → passed u f.key ≡ false
    → elsewhere (record { after = a; upto = u }) t es ≡ None
past_end a u t [] f r is out = refl
past_end a u t (e ∷ es) f r is out = by (passed a e.key) is (past_end a u t es f r.1)
  where
    by : (b : Bool) → (if b then first_behind a es else Some e) ≡ Some f → (first_behind a es ≡ Some f → passed u f.key ≡ false → elsewhere (record { after = a; upto = u }) t es ≡ None)
        → (if (not b && passed u e.key) && not (nat_eq e.at t) then Some e else elsewhere (record { after = a; upto = u }) t es) ≡ None
    by true is more = more is out
    by false is more =
        let same : f ≡ e = cc in
        let no_more : passed u e.key ≡ false = ap (λ (g : Row). passed u g.key) (sym same) ∙ out in
        let rest = all_after a u t es (each (λ g. key_cmp e.key g.key ≡ Less) (λ g. passed u g.key ≡ false) es r.0 (λ g l. later u e.key g.key l no_more)) in
        rw no_more rest

pub found : (a u : Bound) (t : ℕ) (es : List Row) (f : Row) → first_behind a es ≡ Some f → passed u f.key ≡ true → nat_eq f.at t ≡ false
    → elsewhere (record { after = a; upto = u }) t es ≡ Some f
found a u t [] f is inside other = cc
found a u t (e ∷ es) f is inside other = by (passed a e.key) is (found a u t es f)
  where
    by : (b : Bool) → (if b then first_behind a es else Some e) ≡ Some f
        → (first_behind a es ≡ Some f → passed u f.key ≡ true → nat_eq f.at t ≡ false → elsewhere (record { after = a; upto = u }) t es ≡ Some f)
        → (if (not b && passed u e.key) && not (nat_eq e.at t) then Some e else elsewhere (record { after = a; upto = u }) t es) ≡ Some f
    by true is more = more is inside other
    by false is more =
        let same : f ≡ e = cc in
        let i : passed u e.key ≡ true = ap (λ (g : Row). passed u g.key) (sym same) ∙ inside in
        let o : nat_eq e.at t ≡ false = ap (λ (g : Row). nat_eq g.at t) (sym same) ∙ other in rw (i, o) (ap (λ (g : Row). Some g) (sym same))

same_tests : (a b u : Bound) (t : ℕ) (es : List Row) → Each (λ g. passed a g.key ≡ false) es → Each (λ g. passed b g.key ≡ false) es
    → elsewhere (record { after = a; upto = u }) t es ≡ elsewhere (record { after = b; upto = u }) t es
same_tests a b u t [] g h = refl
same_tests a b u t (e ∷ es) g h =
    let x = g.0 in let y = h.0 in
    rw (x, y) (ap (λ (o : Option Row). if passed u e.key && not (nat_eq e.at t) then Some e else o) (same_tests a b u t es g.1 h.1))

same_left : (a b : Bound) (es : List Row) → Each (λ g. passed a g.key ≡ false) es → Each (λ g. passed b g.key ≡ false) es → left a es ≡ left b es
same_left a b [] g h = refl
same_left a b (e ∷ es) g h = let x = g.0 in let y = h.0 in rw (x, y) (ap (λ (n : ℕ). 1 + n) (same_left a b es g.1 h.1))

after_it : (k x : KeyView) → key_cmp k x ≡ Less → passed (After k) x ≡ false
after_it k x l = let g : key_cmp x k ≡ Greater = key_cmp_total.antisymm x k ∙ ap ordering_reverse l in rw g refl

upto_it : (k x : KeyView) → key_cmp x k ≡ Less → passed (After k) x ≡ true
upto_it k x l = rw l refl

-- one that stands there is passed, and nothing else is
pub passes : (a u : Bound) (t : ℕ) (es : List Row) (f : Row) → IsRising es → first_behind a es ≡ Some f → nat_eq f.at t ≡ true
    → elsewhere (record { after = After f.key; upto = u }) t es ≡ elsewhere (record { after = a; upto = u }) t es
passes a u t [] f r is there = refl
passes a u t (e ∷ es) f r is there = by (passed a e.key) refl is (passes a u t es f r.1)
  where
    by : (b : Bool) → passed a e.key ≡ b → (if b then first_behind a es else Some e) ≡ Some f
        → (first_behind a es ≡ Some f → nat_eq f.at t ≡ true → elsewhere (record { after = After f.key; upto = u }) t es ≡ elsewhere (record { after = a; upto = u }) t es)
        → elsewhere (record { after = After f.key; upto = u }) t (e ∷ es)
        ≡ (if (not b && passed u e.key) && not (nat_eq e.at t) then Some e else elsewhere (record { after = a; upto = u }) t es)
    by true is_b is more =
        let l : key_cmp e.key f.key ≡ Less = first_in (λ g. key_cmp e.key g.key ≡ Less) a es f r.0 is in
        let p = upto_it f.key e.key l in rw p (more is there)
    by false is_b is more =
        let same : e ≡ f = cc in
        let one : key_cmp e.key f.key ≡ Equal = ap (λ (g : Row). key_cmp e.key g.key) (sym same) ∙ key_cmp_itself e.key in
        let at : nat_eq e.at t ≡ true = ap (λ (g : Row). nat_eq g.at t) same ∙ there in
        let rest = same_tests (After f.key) a u t es
        (each (λ g. key_cmp e.key g.key ≡ Less) (λ g. passed (After f.key) g.key ≡ false) es r.0 (λ g l. after_it f.key g.key (ap (λ (q : Row). key_cmp q.key g.key) (sym same) ∙ l)))
        (each (λ g. key_cmp e.key g.key ≡ Less) (λ g. passed a g.key ≡ false) es r.0 (λ g l. later a e.key g.key l is_b)) in
        skip e at one (passed u e.key) rest
      where
        skip : (e : Row) → nat_eq e.at t ≡ true → key_cmp e.key f.key ≡ Equal → (c : Bool)
            → elsewhere (record { after = After f.key; upto = u }) t es ≡ elsewhere (record { after = a; upto = u }) t es
            → (if (not (not (is_gt (key_cmp e.key f.key))) && c) && not (nat_eq e.at t) then Some e else elsewhere (record { after = After f.key; upto = u }) t es)
            ≡ (if c && not (nat_eq e.at t) then Some e else elsewhere (record { after = a; upto = u }) t es)
        skip e at one true rest = rw (one, at) rest
        skip e at one false rest = rw one rest

pub fewer_left : (a : Bound) (es : List Row) (f : Row) → IsRising es → first_behind a es ≡ Some f → left (After f.key) es < left a es
fewer_left a [] f r is = cc
fewer_left a (e ∷ es) f r is = by (passed a e.key) refl is (fewer_left a es f r.1)
  where
    by : (b : Bool) → passed a e.key ≡ b → (if b then first_behind a es else Some e) ≡ Some f → (first_behind a es ≡ Some f → left (After f.key) es < left a es)
        → left (After f.key) (e ∷ es) < (if b then 0 else 1) + left a es
    by true is_b is more =
        let l : key_cmp e.key f.key ≡ Less = first_in (λ g. key_cmp e.key g.key ≡ Less) a es f r.0 is in
        let p = upto_it f.key e.key l in let m = more is in rw p (omega (arith, m))
    by false is_b is more =
        let same : e ≡ f = cc in
        let one : key_cmp e.key f.key ≡ Equal = ap (λ (g : Row). key_cmp e.key g.key) (sym same) ∙ key_cmp_itself e.key in
        let rest = same_left (After f.key) a es
        (each (λ g. key_cmp e.key g.key ≡ Less) (λ g. passed (After f.key) g.key ≡ false) es r.0 (λ g l. after_it f.key g.key (ap (λ (q : Row). key_cmp q.key g.key) (sym same) ∙ l)))
        (each (λ g. key_cmp e.key g.key ≡ Less) (λ g. passed a g.key ≡ false) es r.0 (λ g l. later a e.key g.key l is_b)) in
        rw one (omega (arith, rest))

-- ---- the keys behind a bound

abbrev pub rest : Bound → List Row → List KeyView
rest m es = filter (λ k. not (passed m k)) (keys es)

pub rest_none : (a : Bound) (es : List Row) → first_behind a es ≡ None → rest a es ≡ []
rest_none a [] h = refl
rest_none a (e ∷ es) h = by (passed a e.key) h (rest_none a es)
  where
    by : (b : Bool) → (if b then first_behind a es else Some e) ≡ None → (first_behind a es ≡ None → rest a es ≡ []) → (if not b then e.key ∷ rest a es else rest a es) ≡ []
    by true h more = more h
    by false h more = cc

same_rest : (a b : Bound) (es : List Row) → Each (λ g. passed a g.key ≡ false) es → Each (λ g. passed b g.key ≡ false) es → rest a es ≡ rest b es
same_rest a b [] g h = refl
same_rest a b (e ∷ es) g h = let x = g.0 in let y = h.0 in rw (x, y) (ap (λ (ks : List KeyView). e.key ∷ ks) (same_rest a b es g.1 h.1))

pub rest_some : (a : Bound) (es : List Row) (f : Row) → IsRising es → first_behind a es ≡ Some f → rest a es ≡ f.key ∷ rest (After f.key) es
rest_some a [] f r is = cc
rest_some a (e ∷ es) f r is = by (passed a e.key) refl is (rest_some a es f r.1)
  where
    by : (b : Bool) → passed a e.key ≡ b → (if b then first_behind a es else Some e) ≡ Some f → (first_behind a es ≡ Some f → rest a es ≡ f.key ∷ rest (After f.key) es)
        → (if not b then e.key ∷ rest a es else rest a es) ≡ f.key ∷ rest (After f.key) (e ∷ es)
    by true is_b is more =
        let l : key_cmp e.key f.key ≡ Less = first_in (λ g. key_cmp e.key g.key ≡ Less) a es f r.0 is in
        let p = upto_it f.key e.key l in rw p (more is)
    by false is_b is more =
        let same : e ≡ f = cc in
        let one : key_cmp e.key f.key ≡ Equal = ap (λ (g : Row). key_cmp e.key g.key) (sym same) ∙ key_cmp_itself e.key in
        let all = same_rest a (After f.key) es
        (each (λ g. key_cmp e.key g.key ≡ Less) (λ g. passed a g.key ≡ false) es r.0 (λ g l. later a e.key g.key l is_b))
        (each (λ g. key_cmp e.key g.key ≡ Less) (λ g. passed (After f.key) g.key ≡ false) es r.0 (λ g l. after_it f.key g.key (ap (λ (q : Row). key_cmp q.key g.key) (sym same) ∙ l))) in
        let heads : e.key ≡ f.key = ap (λ (g : Row). g.key) same in
        rw one (ap (λ (ks : List KeyView). e.key ∷ ks) all ∙ ap (λ (k : KeyView). k ∷ rest (After f.key) es) heads)

-- the next key behind is one fewer
pub drop_next : (ks ls : List KeyView) (k : KeyView) (i : ℕ) → drop i ks ≡ k ∷ ls → drop (i + 1) ks ≡ ls
drop_next ks ls k i h = sym (drop-drop 1 i ks) ∙ ap (drop 1) h

pub drop_none : (ks : List KeyView) (i j : ℕ) → i ≤ j → drop i ks ≡ [] → drop j ks ≡ []
drop_none ks i j le h =
    let e : i + (j - i) ≡ j = omega arith in
    let d = drop-drop (j - i) i ks in
    sym (ap (λ n. drop n ks) e) ∙ sym d ∙ ap (drop (j - i)) h ∙ drop_nil (j - i)
  where
    drop_nil : (n : ℕ) → drop {A = KeyView} n [] ≡ []
    drop_nil zero = refl
    drop_nil (suc n) = refl

-- the three ways in which a new span's end is found
pub ends_early : (c m : Bound) (es : List Row) (i : ℕ) → i ≤ 31 → drop i (rest c es) ≡ rest m es → first_behind m es ≡ None → End ≡ next_bound c (keys es)
ends_early c m es i le so_far none = sym (ap end_among (drop_none (rest c es) i 31 le (so_far ∙ rest_none m es none)))

pub ends_last : (c m : Bound) (es : List Row) (f : Row) → IsRising es → drop 31 (rest c es) ≡ rest m es → first_behind m es ≡ Some f → first_behind (After f.key) es ≡ None
    → End ≡ next_bound c (keys es)
ends_last c m es f r so_far is none =
    sym (ap end_among (so_far ∙ rest_some m es f r is ∙ ap (λ (ks : List KeyView). f.key ∷ ks) (rest_none (After f.key) es none)))

pub ends_there : (c m : Bound) (es : List Row) (f g : Row) → IsRising es → drop 31 (rest c es) ≡ rest m es → first_behind m es ≡ Some f → first_behind (After f.key) es ≡ Some g
    → After f.key ≡ next_bound c (keys es)
ends_there c m es f g r so_far is more =
    sym (ap end_among (so_far ∙ rest_some m es f r is ∙ ap (λ (ks : List KeyView). f.key ∷ ks) (rest_some (After f.key) es g r more)))

-- nothing is behind the end
pub first_behind-end : (es : List Row) → first_behind End es ≡ None
first_behind-end [] = refl
first_behind-end (e ∷ es) = first_behind-end es
