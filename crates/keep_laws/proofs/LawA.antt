-- Each side's good object is paired with exactly one of the other side, cell by cell and then level by level.
use Rattle.std.proofs.Common.{◌≡◌, List, [], ◌∷◌, true, Bool, Option, Some, None, refl, ap, ap₂, sym, subst}
use Rattle.hub_cells.specs.Side.{Side, spoke, hub, other}
use Rattle.hub_cells.specs.Cell.{Kind, Tuple, IsRegular}
use Rattle.hub_cells.specs.Cross.{matched, shown}
use Rattle.hub_cells.specs.Level.{allows, Cell, Level, level, Inners, no_inner, inner, MatchAllowed, CellFits, CellsFit, Fits, InnersFit}
use Rattle.keep_laws.specs.Marked.{Mark, Marks, Marked, MarkedInners, IsAlive, AreGood, OrAbsent, IsGood, InnersGood, crossed_as, crossed_mark, crossed_marks, there, crossed, crossed_inners}
use Rattle.keep_laws.specs.Pairing.{State, is_matched, hub_kept, spoke_kept, AllPaired, BothOrNeither, Paired, InnersPaired}
use Rattle.hub_cells.specs.laws.OneToOne.{one_to_one, is_hub, is_spoke, hub_is, none_unmatched, unmatched_none}

pub other_other : (d : Side) → other (other d) ≡ d
other_other spoke = refl
other_other hub = refl

-- ---- one cell

abbrev MarkGood : Side → Cell → Mark → Type 0
MarkGood d c m = (allows d c m.0 ≡ true) × IsAlive d c m.0 m.1

good_as : (d : Side) (c : Cell) (t : Tuple) → CellFits c → allows d c t ≡ true → (o : Option Tuple) → matched d c.kind t ≡ o → MatchAllowed c d o t → MarkGood (other d) c (crossed_as d c.kind o t)
good_as d c t f a None q m =
    let same = sym (other_other d) in
    (m, (subst (λ (e : Side). allows e c t ≡ true) same a, subst (λ (e : Side). matched e c.kind t ≡ None) same q, subst (λ (e : Side). shown d c.kind t ≡ shown e c.kind t) same refl))
good_as d c t f a (Some u) q m = (m, tt)

pub mark_good : (d : Side) (c : Cell) (t : Tuple) (o : Option Tuple) → CellFits c → MarkGood d c (t, o) → MarkGood (other d) c (crossed_mark d c.kind t o)
mark_good d c t (Some u) f g = (g.1.0, tt)
mark_good d c t None f g = good_as d c t f g.0 (matched d c.kind t) refl (f.answer d t g.0)

back_as : (d : Side) (c : Cell) (t : Tuple) → CellFits c → (o : Option Tuple) → matched d c.kind t ≡ o → crossed_mark (other d) c.kind (crossed_as d c.kind o t).0 (crossed_as d c.kind o t).1 ≡ (t, None)
back_as d c t f None q = refl
back_as d c t f (Some u) q = rw (one_to_one d c.kind t u f.regular q) refl

pub mark_back : (d : Side) (c : Cell) (t : Tuple) (o : Option Tuple) → CellFits c → MarkGood d c (t, o) → crossed_mark (other d) c.kind (crossed_mark d c.kind t o).0 (crossed_mark d c.kind t o).1 ≡ (t, o)
mark_back d c t (Some u) f g = rw g.1.1 (ap (λ (s : Tuple). (s, Some u)) (sym g.1.2))
mark_back d c t None f g = back_as d c t f (matched d c.kind t) refl

-- the three states, from either side
pub state_from_spoke : (k : Kind) (s : Tuple) (ks : Option Tuple) (h : Tuple) (kh : Option Tuple) → IsRegular k → State k s ks h kh → (h, kh) ≡ crossed_mark spoke k s ks
state_from_spoke k s ks h kh f (is_matched m a b) = rw (a, b, is_hub k s h f m) refl
state_from_spoke k s ks h kh f (hub_kept u e a b) = rw (a, b) refl
state_from_spoke k s ks h kh f (spoke_kept u e a b) = rw (b, a, unmatched_none spoke k s u, e) refl

pub state_from_hub : (k : Kind) (s : Tuple) (ks : Option Tuple) (h : Tuple) (kh : Option Tuple) → IsRegular k → State k s ks h kh → (s, ks) ≡ crossed_mark hub k h kh
state_from_hub k s ks h kh f (is_matched m a b) = rw (a, b, is_spoke k s h f m) refl
state_from_hub k s ks h kh f (hub_kept u e a b) = rw (b, a, unmatched_none hub k h u, e) refl
state_from_hub k s ks h kh f (spoke_kept u e a b) = rw (a, b) refl

-- and that there is one
spoke_as : (k : Kind) (s : Tuple) → IsRegular k → (o : Option Tuple) → matched spoke k s ≡ o → State k s None (crossed_as spoke k o s).0 (crossed_as spoke k o s).1
spoke_as k s f None q = spoke_kept (none_unmatched spoke k s f q) refl refl refl
spoke_as k s f (Some h) q = is_matched (hub_is k s h q) refl refl

pub spoke_state : (c : Cell) (s : Tuple) (ks : Option Tuple) → CellFits c → MarkGood spoke c (s, ks) → State c.kind s ks (crossed_mark spoke c.kind s ks).0 (crossed_mark spoke c.kind s ks).1
spoke_state c s None f g = spoke_as c.kind s f.regular (matched spoke c.kind s) refl
spoke_state c s (Some h) f g = hub_kept (none_unmatched hub c.kind h f.regular g.1.1) g.1.2 refl refl

-- ---- levels

pub goods : (d : Side) (cs : List Cell) (ms : Marks cs) → CellsFit cs → AreGood d cs ms → AreGood (other d) cs (crossed_marks d cs ms)
goods d [] ms f g = tt
goods d (c ∷ cs) ms f g = (mark_good d c ms.0.0 ms.0.1 f.0 g.0, goods d cs ms.1 f.1 g.1)

backs : (d : Side) (cs : List Cell) (ms : Marks cs) → CellsFit cs → AreGood d cs ms → crossed_marks (other d) cs (crossed_marks d cs ms) ≡ ms
backs d [] ms f g = refl
backs d (c ∷ cs) ms f g = ap₂ (λ (m : Mark) (ns : Marks cs). (m, ns)) (mark_back d c ms.0.0 ms.0.1 f.0 g.0) (backs d cs ms.1 f.1 g.1)

if_there : {A : Type 0} (r : Bool) (P Q : A → Type 0) (f : A → A) → ((x : A) → P x → Q (f x)) → (o : Option A) → OrAbsent r P o → OrAbsent r Q (there f o)
if_there r P Q f h None g = g
if_there r P Q f h (Some x) g = h x g

there_back : {A : Type 0} (r : Bool) (P : A → Type 0) (f e : A → A) → ((x : A) → P x → e (f x) ≡ x) → (o : Option A) → OrAbsent r P o → there e (there f o) ≡ o
there_back r P f e h None g = refl
there_back r P f e h (Some x) g = ap Some (h x g)

mutual
  pub crossed_good : (d : Side) (l : Level) (m : Marked l) → Fits l → IsGood d l m → IsGood (other d) l (crossed d l m)
  crossed_good d (level cs is) m f g = (goods d cs m.0 f.0 g.0, inners_good d is m.1 f.1 g.1)

  pub inners_good : (d : Side) (is : Inners) (m : MarkedInners is) → InnersFit is → InnersGood d is m → InnersGood (other d) is (crossed_inners d is m)
  inners_good d no_inner m f g = tt
  inners_good d (inner a b rq l is) m f g =
      (if_there rq (IsGood d l) (IsGood (other d) l) (crossed d l) (λ n h. crossed_good d l n f.0 h) m.0 g.0, inners_good d is m.1 f.1 g.1)

mutual
  pub crossed_back : (d : Side) (l : Level) (m : Marked l) → Fits l → IsGood d l m → crossed (other d) l (crossed d l m) ≡ m
  crossed_back d (level cs is) m f g =
      ap₂ (λ (ms : Marks cs) (ns : MarkedInners is). (ms, ns)) (backs d cs m.0 f.0 g.0) (inners_back d is m.1 f.1 g.1)

  pub inners_back : (d : Side) (is : Inners) (m : MarkedInners is) → InnersFit is → InnersGood d is m → crossed_inners (other d) is (crossed_inners d is m) ≡ m
  inners_back d no_inner m f g = refl
  inners_back d (inner a b rq l is) m f g =
      ap₂ (λ (o : Option (Marked l)) (ns : MarkedInners is). (o, ns)) (there_back rq (IsGood d l) (crossed d l) (crossed (other d) l) (λ n h. crossed_back d l n f.0 h) m.0 g.0) (inners_back d is m.1 f.1 g.1)

-- ---- a pair is what crossing gives, and what crossing gives is a pair

crossed_cells : (cs : List Cell) (ms ns : Marks cs) → CellsFit cs → AllPaired cs ms ns → (ns ≡ crossed_marks spoke cs ms) × (ms ≡ crossed_marks hub cs ns)
crossed_cells [] ms ns f p = (refl, refl)
crossed_cells (c ∷ cs) ms ns f p =
    let rest = crossed_cells cs ms.1 ns.1 f.1 p.1 in (
      ap₂ (λ (m : Mark) (r : Marks cs). (m, r)) (state_from_spoke c.kind ms.0.0 ms.0.1 ns.0.0 ns.0.1 f.0.regular p.0) rest.0,
      ap₂ (λ (m : Mark) (r : Marks cs). (m, r)) (state_from_hub c.kind ms.0.0 ms.0.1 ns.0.0 ns.0.1 f.0.regular p.0) rest.1,
    )

both : {A : Type 0} (R : A → A → Type 0) (f e : A → A) → ((x y : A) → R x y → (y ≡ f x) × (x ≡ e y)) → (a b : Option A) → BothOrNeither R a b → (b ≡ there f a) × (a ≡ there e b)
both R f e h None None r = (refl, refl)
both R f e h (Some x) (Some y) r = (ap Some (h x y r).0, ap Some (h x y r).1)
both R f e h None (Some y) r = absurd r
both R f e h (Some x) None r = absurd r

mutual
  pub paired_crossed : (l : Level) (m n : Marked l) → Fits l → Paired l m n → (n ≡ crossed spoke l m) × (m ≡ crossed hub l n)
  paired_crossed (level cs is) m n f p =
      let here = crossed_cells cs m.0 n.0 f.0 p.0 in
      let inside = inners_crossed is m.1 n.1 f.1 p.1 in
      (ap₂ (λ (a : Marks cs) (b : MarkedInners is). (a, b)) here.0 inside.0, ap₂ (λ (a : Marks cs) (b : MarkedInners is). (a, b)) here.1 inside.1)

  pub inners_crossed : (is : Inners) (m n : MarkedInners is) → InnersFit is → InnersPaired is m n → (n ≡ crossed_inners spoke is m) × (m ≡ crossed_inners hub is n)
  inners_crossed no_inner m n f p = (refl, refl)
  inners_crossed (inner a b rq l is) m n f p =
      let here = both (Paired l) (crossed spoke l) (crossed hub l) (λ x y r. paired_crossed l x y f.0 r) m.0 n.0 p.0 in
      let rest = inners_crossed is m.1 n.1 f.1 p.1 in
      (ap₂ (λ (o : Option (Marked l)) (r : MarkedInners is). (o, r)) here.0 rest.0, ap₂ (λ (o : Option (Marked l)) (r : MarkedInners is). (o, r)) here.1 rest.1)

spoke_states : (cs : List Cell) (ms : Marks cs) → CellsFit cs → AreGood spoke cs ms → AllPaired cs ms (crossed_marks spoke cs ms)
spoke_states [] ms f g = tt
spoke_states (c ∷ cs) ms f g = (spoke_state c ms.0.0 ms.0.1 f.0 g.0, spoke_states cs ms.1 f.1 g.1)

both_there : {A : Type 0} (r : Bool) (P : A → Type 0) (R : A → A → Type 0) (f : A → A) → ((x : A) → P x → R x (f x)) → (o : Option A) → OrAbsent r P o → BothOrNeither R o (there f o)
both_there r P R f h None g = tt
both_there r P R f h (Some x) g = h x g

mutual
  pub spoke_paired : (l : Level) (m : Marked l) → Fits l → IsGood spoke l m → Paired l m (crossed spoke l m)
  spoke_paired (level cs is) m f g = (spoke_states cs m.0 f.0 g.0, spoke_inners is m.1 f.1 g.1)

  pub spoke_inners : (is : Inners) (m : MarkedInners is) → InnersFit is → InnersGood spoke is m → InnersPaired is m (crossed_inners spoke is m)
  spoke_inners no_inner m f g = tt
  spoke_inners (inner a b rq l is) m f g =
      (both_there rq (IsGood spoke l) (Paired l) (crossed spoke l) (λ n h. spoke_paired l n f.0 h) m.0 g.0, spoke_inners is m.1 f.1 g.1)

pub hub_paired : (l : Level) (n : Marked l) → Fits l → IsGood hub l n → Paired l (crossed hub l n) n
hub_paired l n f g =
    subst (λ (w : Marked l). Paired l (crossed hub l n) w) (crossed_back hub l n f g) (spoke_paired l (crossed hub l n) f (crossed_good hub l n f g))
