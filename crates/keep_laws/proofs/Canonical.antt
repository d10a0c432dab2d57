-- A rising list of entries that are all alive is the list that settling writes, and the entries of a whole object are in order.
use Rattle.std.proofs.Common.{◌≡◌, List, [], ◌∷◌, Bool, true, false, cond, ◌&&◌, inl, inr, Ordering, Less, Equal, Greater, is_lt, nat_cmp, refl, ap, ap₂, sym, subst, ◌∙◌, arith}
use Rattle.std.specs.Cmp.{IsTotalOrder}
use Rattle.std.specs.Ordering.{then_cmp, on, ordering_reverse}
use Rattle.std.specs.Cmp.Lexicographic.{slice_cmp}
use Rattle.std.proofs.lemmas.Cmp.{then_total, on_total, lists_total, nat_list_cmp_total}
use Rattle.kj_value.specs.Fields.{Pairs}
use Rattle.hub_cells.specs.Side.{Side, other}
use Rattle.kept_entries.specs.declared.entry.Entry.{Entry}
use Rattle.keep_laws.specs.Entry.{with_entry, in_order}
use Rattle.kept_entries.specs.Entry.{first_name, has_part, is_before, is_before_first, are_in_order}
use Rattle.hub_cells.specs.Level.{Level, NoNameTwice, Fits}
use Rattle.keep_laws.specs.Body.{all_entries, read, entries}
use Rattle.keep_laws.specs.Whole.{Held, Ready, IsWholeOnSide, marks_of}
use Rattle.keep_laws.specs.Settle.{settled_marks, IsAllowed}
use Rattle.keep_laws.proofs.Holds.{order_has, has_order}
use Rattle.keep_laws.proofs.Apart.{Apart, AreApart, level_apart}
use Rattle.keep_laws.proofs.Back.{no_name_twice}
use Rattle.keep_laws.proofs.Dead.{settled_good}
use Rattle.keep_laws.proofs.Living.{level_alive, alive_level}
use Rattle.keep_laws.specs.Words.{AllAlive, Has, Parts}

-- ---- the order of entries

pub entries_total : IsTotalOrder (then_cmp (on (λ (e : Entry). e.at) (slice_cmp (slice_cmp nat_cmp))) (on (λ (e : Entry). first_name e.was) (slice_cmp nat_cmp)))
entries_total =
    then_total (on_total (λ (e : Entry). e.at) (lists_total nat_list_cmp_total)) (on_total (λ (e : Entry). first_name e.was) nat_list_cmp_total)

lt_less : (o : Ordering) → is_lt o ≡ true → o ≡ Less
lt_less Less h = refl
lt_less Equal h = grind (arith, h)
lt_less Greater h = grind (arith, h)

pub before_trans : (e f g : Entry) → is_before e f ≡ true → is_before f g ≡ true → is_before e g ≡ true
before_trans e f g p q = ap is_lt (entries_total.trans e f g (lt_less _ p) (lt_less _ q))

not_reversed : (o : Ordering) → o ≡ ordering_reverse o → is_lt o ≡ true → ⊥
not_reversed Less h p = lies (ap is_lt h)
  where
    lies : true ≡ false → ⊥
    lies e = grind arith
not_reversed Equal h p = grind (arith, p)
not_reversed Greater h p = grind (arith, p)

pub before_self : (e : Entry) → is_before e e ≡ true → ⊥
before_self e p = not_reversed _ (entries_total.antisymm e e) p

-- ---- rising lists

abbrev pub AllAfter : Entry → List Entry → Type 0
AllAfter e [] = Unit {0}
AllAfter e (f ∷ fs) = (is_before e f ≡ true) × AllAfter e fs

abbrev pub EntriesRise : List Entry → Type 0
EntriesRise [] = Unit {0}
EntriesRise (e ∷ es) = AllAfter e es × EntriesRise es

pub has_after : (e f : Entry) (es : List Entry) → AllAfter e es → Has f es → is_before e f ≡ true
has_after e f [] a i = absurd i
has_after e f (g ∷ gs) a (inl s) = subst (λ (h : Entry). is_before e h ≡ true) (sym s) a.0
has_after e f (g ∷ gs) a (inr i) = has_after e f gs a.1 i

pub all_after : (e f : Entry) (es : List Entry) → is_before e f ≡ true → AllAfter f es → AllAfter e es
all_after e f [] p a = tt
all_after e f (g ∷ gs) p a = (before_trans e f g p a.0, all_after e f gs p a.1)

pub same_entries : (xs ys : List Entry) → EntriesRise xs → EntriesRise ys → ((e : Entry) → Has e xs → Has e ys) → ((e : Entry) → Has e ys → Has e xs) → xs ≡ ys
same_entries [] [] r s t b = refl
same_entries [] (y ∷ ys) r s t b = absurd (b y (inl refl))
same_entries (x ∷ xs) [] r s t b = absurd (t x (inl refl))
same_entries (x ∷ xs) (y ∷ ys) r s t b = by_first (same_entries xs ys r.1 s.1) (t x (inl refl)) (b y (inl refl))
  where
    fewer : (u v : Entry) (us vs : List Entry) → u ≡ v → AllAfter u us → ((e : Entry) → Has e (u ∷ us) → Has e (v ∷ vs)) → (e : Entry) → Has e us → Has e vs
    fewer u v us vs q a h e i = by_place (h e (inr i))
      where
        by_place : Has e (v ∷ vs) → Has e vs
        by_place (inl p) = absurd (before_self u (subst (λ (g : Entry). is_before u g ≡ true) (p ∙ sym q) (has_after u e us a i)))
        by_place (inr j) = j

    by_first : (((e : Entry) → Has e xs → Has e ys) → ((e : Entry) → Has e ys → Has e xs) → xs ≡ ys) → Has x (y ∷ ys) → Has y (x ∷ xs) → x ∷ xs ≡ y ∷ ys
    by_first go (inl q) i = ap₂ (λ (e : Entry) (es : List Entry). e ∷ es) q (go (fewer x y xs ys q r.0 t) (fewer y x ys xs (sym q) s.0 b))
    by_first go (inr j) (inl q) = absurd (before_self y (subst (λ (g : Entry). is_before y g ≡ true) (sym q) (has_after y x ys s.0 j)))
    by_first go (inr j) (inr i) = absurd (before_self y (before_trans y x y (has_after y x ys s.0 j) (has_after x y xs r.0 i)))

after_with : (g e : Entry) (es : List Entry) → is_before g e ≡ true → AllAfter g es → AllAfter g (with_entry e es)
after_with g e [] p a = (p, tt)
after_with g e (f ∷ fs) p a = by_answer (after_with g e fs p a.1) (is_before e f)
  where
    by_answer : AllAfter g (with_entry e fs) → (b : Bool) → AllAfter g (cond b (e ∷ f ∷ fs) (f ∷ with_entry e fs))
    by_answer later true = (p, a)
    by_answer later false = (a.0, later)

rise_with : (e : Entry) (es : List Entry) → EntriesRise es → ((f : Entry) → Has f es → Apart e f) → EntriesRise (with_entry e es)
rise_with e [] r h = (tt, tt)
rise_with e (f ∷ fs) r h = by_answer (rise_with e fs r.1 (λ g i. h g (inr i))) (is_before e f) refl (h f (inl refl))
  where
    lies : (b : Bool) → b ≡ true → b ≡ false → ⊥
    lies b x y = grind arith

    by_answer : EntriesRise (with_entry e fs) → (b : Bool) → is_before e f ≡ b → Apart e f → EntriesRise (cond b (e ∷ f ∷ fs) (f ∷ with_entry e fs))
    by_answer later true q a = ((q, all_after e f fs q r.0), r)
    by_answer later false q (inl p) = absurd (lies (is_before e f) p q)
    by_answer later false q (inr p) = (after_with f e fs p r.0, later)

pub in_order_rises : (xs : List Entry) → AreApart xs → EntriesRise (in_order xs)
in_order_rises [] a = tt
in_order_rises (x ∷ xs) a = rise_with x (in_order xs) (in_order_rises xs a.2) (λ f i. a.1 f (order_has f xs i))

-- ---- the annotation

pub alive_canonical : (d : Side) (l : Level) (x : Pairs) (es : List Entry) → Fits l → NoNameTwice (other d) l → IsAllowed d l (read d l x es) → Parts es → EntriesRise es → AllAlive d l x es → entries d l (settled_marks d l (read d l x es)) ≡ es
alive_canonical d l x es f a v p r h =
    let all = all_entries d l (settled_marks d l (read d l x es)) in
    let apart = level_apart d l (settled_marks d l (read d l x es)) f (settled_good d l (read d l x es) v) a in
    same_entries (in_order all) es (in_order_rises all apart) r (λ e i. (level_alive d l x es p a e (order_has e all i)).0) (λ e i. has_order e all (alive_level d l x es a e.at e.was (p e i) (h e i)))

-- what comes before the next comes before all later ones
both : (a b : Bool) → (a && b) ≡ true → (a ≡ true) × (b ≡ true)
both true b h = (refl, h)
both false b h = absurd (lie h)
  where
    lie : false ≡ true → ⊥
    lie e = cc

pub rise_from : (es : List Entry) → are_in_order es ≡ true → EntriesRise es
rise_from [] h = tt
rise_from (e ∷ []) h = (tt, tt)
rise_from (e ∷ f ∷ fs) h =
    let h0 = both (has_part e.was && is_before e f) (are_in_order (f ∷ fs)) h in
    let before = (both (has_part e.was) (is_before e f) h0.0).1 in
    let rest = rise_from (f ∷ fs) h0.1 in
    ((before, all_after e f fs before rest.0), rest)

-- ---- a list that rises and whose entries have parts is in order

pub in_order_from : (es : List Entry) → EntriesRise es → ((e : Entry) → Has e es → has_part e.was ≡ true) → are_in_order es ≡ true
in_order_from [] r h = refl
in_order_from (e ∷ es) r h = all_three (h e (inl refl)) (before_first es r.0) (in_order_from es r.1 (λ f i. h f (inr i)))
  where
    before_first : (fs : List Entry) → AllAfter e fs → is_before_first e fs ≡ true
    before_first [] a = refl
    before_first (f ∷ fs) a = a.0

    all_three : {a b c : Bool} → a ≡ true → b ≡ true → c ≡ true → (a && b && c) ≡ true
    all_three p q s = grind (arith, p, q, s)

part_of : (xs : List Entry) → AreApart xs → (e : Entry) → Has e xs → has_part e.was ≡ true
part_of [] a e i = absurd i
part_of (x ∷ xs) a e (inl q) = subst (λ (f : Entry). has_part f.was ≡ true) (sym q) a.0
part_of (x ∷ xs) a e (inr i) = part_of xs a.2 e i

pub whole_in_order : (d : Side) (l : Level) (x : Held) → Ready l → IsWholeOnSide d l x → are_in_order x.entries ≡ true
whole_in_order d l x r w =
    let all = all_entries d l (marks_of d l x) in
    let apart = level_apart d l (marks_of d l x) r.fits w.good (no_name_twice (other d) l r) in
    subst (λ (es : List Entry). are_in_order es ≡ true) (ap (λ (y : Held). y.entries) w.nothing_else) (in_order_from (in_order all) (in_order_rises all apart) (λ e i. part_of all apart e (order_has e all i)))
