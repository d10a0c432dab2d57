-- The entries that were written are read back.
use Rattle.std.proofs.Common.{◌≡◌, List, [], ◌∷◌, Bool, true, false, cond, ◌⊎◌, inl, inr, ⊎_elim, Option, Some, None, bytes_eq, refl, ap, sym, subst, ◌∙◌, arith}
use Rattle.std.proofs.lemmas.Slice.Eq.{bytes_eq-Decides}
use Rattle.kj_value.specs.Fields.{Pairs}
use Rattle.hub_cells.specs.Side.{Side, other}
use Rattle.hub_cells.specs.Cell.{Tuple}
use Rattle.hub_cells.specs.Cross.{matched}
use Rattle.hub_cells.specs.Level.{Cell, Level, level, Inners, no_inner, inner, names, named, AreDistinct, CellFits}
use Rattle.keep_laws.specs.Marked.{Marks, Marked, MarkedInners, IsAlive, IfThere}
use Rattle.hub_cells.specs.Level.{Name, tuple_of}
use Rattle.kept_entries.specs.declared.entry.Entry.{Entry}
use Rattle.keep_laws.specs.Entry.{part, is_part, kept_here, kept_of, inside_by, inside, under, with_entry, in_order}
use Rattle.kept_entries.specs.Entry.{is_before}
use Rattle.keep_laws.proofs.Fields.{allowed_length, put_back, bytes_same, part_named, is_part_of}
use Rattle.keep_laws.specs.Words.{Has}

true_false : (b : Bool) → b ≡ true → b ≡ false → ⊥
true_false b p q = grind arith

nil_cons : {A : Type 0} (x : A) (xs : List A) → [] ≡ x ∷ xs → ⊥
nil_cons x xs e = cc

-- ---- one cell

pub kept_none : (ns : List Name) (es : List Entry) → ((e : Entry) → Has e es → e.at ≡ [] → is_part ns e.was ≡ true → ⊥) → kept_of ns es ≡ None
kept_none ns [] h = refl
kept_none ns (e ∷ es) h = by_at (kept_none ns es (λ f i. h f (inr i))) e.at refl
  where
    by_part : kept_of ns es ≡ None → e.at ≡ [] → (b : Bool) → is_part ns e.was ≡ b → cond b (Some (tuple_of ns e.was)) (kept_of ns es) ≡ None
    by_part later q true r = absurd (h e (inl refl) q r)
    by_part later q false r = later

    by_at : kept_of ns es ≡ None → (a : List Name) → e.at ≡ a → kept_here ns a e.was (kept_of ns es) ≡ None
    by_at later [] q = by_part later q (is_part ns e.was) refl
    by_at later (m ∷ a) q = later

pub kept_some : (ns : List Name) (was : Pairs) (es : List Entry) → Has (record { at = []; was = was }) es → is_part ns was ≡ true → ((e : Entry) → Has e es → e.at ≡ [] → is_part ns e.was ≡ true → e.was ≡ was) → kept_of ns es ≡ Some (tuple_of ns was)
kept_some ns was [] i p h = absurd i
kept_some ns was (e ∷ es) i p h = by_at (λ j. kept_some ns was es j p (λ f k. h f (inr k))) i e.at refl
  where
    by_part : (Has (record { at = []; was = was }) es → kept_of ns es ≡ Some (tuple_of ns was)) → Has (record { at = []; was = was }) (e ∷ es) → e.at ≡ [] → (b : Bool) → is_part ns e.was ≡ b → cond b (Some (tuple_of ns e.was)) (kept_of ns es) ≡ Some (tuple_of ns was)
    by_part later i q true r = ap (λ (w : Pairs). Some (tuple_of ns w)) (h e (inl refl) q r)
    by_part later (inl s) q false r = absurd (true_false (is_part ns e.was) (subst (λ (f : Entry). is_part ns f.was ≡ true) s p) r)
    by_part later (inr j) q false r = later j

    by_at : (Has (record { at = []; was = was }) es → kept_of ns es ≡ Some (tuple_of ns was)) → Has (record { at = []; was = was }) (e ∷ es) → (a : List Name) → e.at ≡ a → kept_here ns a e.was (kept_of ns es) ≡ Some (tuple_of ns was)
    by_at later i [] q = by_part later i q (is_part ns e.was) refl
    by_at later (inl s) (m ∷ a) q = absurd (nil_cons m a (ap (λ (f : Entry). f.at) s ∙ q))
    by_at later (inr j) (m ∷ a) q = later j

-- ---- the entries inside an object

pub has_under : (n : Name) (e : Entry) (es : List Entry) → Has e (inside n es) → Has (under n e) es
has_under n e [] i = i
has_under n e (f ∷ fs) i = by_at (has_under n e fs) f.at refl i
  where
    by_name : (Has e (inside n fs) → Has (under n e) fs) → (m : Name) (a : List Name) → f.at ≡ m ∷ a → (b : Bool) → bytes_eq m n ≡ b → Has e (cond b (record { at = a; was = f.was } ∷ inside n fs) (inside n fs)) → Has (under n e) (f ∷ fs)
    by_name later m a q true r (inl s) = inl (ap (under n) s ∙ ap (λ (k : Name). record { at = k ∷ a; was = f.was }) (sym ((bytes_eq-Decides m n).0 r)) ∙ ap (λ (p : List Name). record { at = p; was = f.was }) (sym q))
    by_name later m a q true r (inr j) = inr (later j)
    by_name later m a q false r j = inr (later j)

    by_at : (Has e (inside n fs) → Has (under n e) fs) → (a : List Name) → f.at ≡ a → Has e (inside_by n a f.was (inside n fs)) → Has (under n e) (f ∷ fs)
    by_at later [] q i = inr (later i)
    by_at later (m ∷ a) q i = by_name later m a q (bytes_eq m n) refl i

has_later : (n : Name) (e f : Entry) (fs : List Entry) → Has e (inside n fs) → Has e (inside n (f ∷ fs))
has_later n e f fs i = by_at f.at
  where
    by_name : (a : List Name) (b : Bool) → Has e (cond b (record { at = a; was = f.was } ∷ inside n fs) (inside n fs))
    by_name a true = inr i
    by_name a false = i

    by_at : (a : List Name) → Has e (inside_by n a f.was (inside n fs))
    by_at [] = i
    by_at (m ∷ a) = by_name a (bytes_eq m n)

pub has_inside : (n : Name) (e : Entry) (es : List Entry) → Has (under n e) es → Has e (inside n es)
has_inside n e [] i = i
has_inside n e (f ∷ fs) (inl s) = subst (λ (g : Entry). Has e (inside n (g ∷ fs))) s (rw (bytes_same n) (inl refl))
has_inside n e (f ∷ fs) (inr i) = has_later n e f fs (has_inside n e fs i)

-- ---- what a set of entries holds of the marks

abbrev pub HoldsCell : (Entry → Type 0) → List Name → Option Tuple → Type 0
HoldsCell E ns None = (e : Entry) → E e → e.at ≡ [] → is_part ns e.was ≡ true → ⊥
HoldsCell E ns (Some u) = E (record { at = []; was = part ns u }) × ((e : Entry) → E e → e.at ≡ [] → is_part ns e.was ≡ true → e.was ≡ part ns u)

abbrev pub HoldsCells : Side → (cs : List Cell) → Marks cs → (Entry → Type 0) → Type 0
HoldsCells d [] ms E = Unit {0}
HoldsCells d (c ∷ cs) ms E = HoldsCell E (names (other d) c) ms.0.1 × HoldsCells d cs ms.1 E

abbrev mutual
  pub Holds : Side → (l : Level) → Marked l → (Entry → Type 0) → Type 0
  Holds d (level cs is) m E = HoldsCells d cs m.0 E × HoldsInners d is m.1 E

  pub HoldsInners : Side → (is : Inners) → MarkedInners is → (Entry → Type 0) → Type 0
  HoldsInners d no_inner ms E = Unit {0}
  HoldsInners d (inner a b rq l is) ms E =
      IfThere (λ m. Holds d l m (λ e. E (under (named (other d) a b) e))) ms.0 × HoldsInners d is ms.1 E

module _ (E F : Entry → Type 0) (there_to : (e : Entry) → E e → F e) (and_back : (e : Entry) → F e → E e) where
  same_cell : (ns : List Name) (o : Option Tuple) → HoldsCell E ns o → HoldsCell F ns o
  same_cell ns None h = λ e i. h e (and_back e i)
  same_cell ns (Some u) h = (there_to (record { at = []; was = part ns u }) h.0, λ e i. h.1 e (and_back e i))

same_cells : (d : Side) (cs : List Cell) (ms : Marks cs) (E F : Entry → Type 0) → ((e : Entry) → E e → F e) → ((e : Entry) → F e → E e) → HoldsCells d cs ms E → HoldsCells d cs ms F
same_cells d [] ms E F t b h = tt
same_cells d (c ∷ cs) ms E F t b h = (same_cell E F t b (names (other d) c) ms.0.1 h.0, same_cells d cs ms.1 E F t b h.1)

pub if_there : {A : Type 0} (P Q : A → Type 0) → ((x : A) → P x → Q x) → (o : Option A) → IfThere P o → IfThere Q o
if_there P Q f None h = tt
if_there P Q f (Some x) h = f x h

mutual
  pub same_holds : (d : Side) (l : Level) (m : Marked l) (E F : Entry → Type 0) → ((e : Entry) → E e → F e) → ((e : Entry) → F e → E e) → Holds d l m E → Holds d l m F
  same_holds d (level cs is) m E F t b h = (same_cells d cs m.0 E F t b h.0, same_inners d is m.1 E F t b h.1)

  pub same_inners : (d : Side) (is : Inners) (ms : MarkedInners is) (E F : Entry → Type 0) → ((e : Entry) → E e → F e) → ((e : Entry) → F e → E e) → HoldsInners d is ms E → HoldsInners d is ms F
  same_inners d no_inner ms E F t b h = tt
  same_inners d (inner a c rq l is) ms E F t b h =
      let n = named (other d) a c in (
        if_there (λ m. Holds d l m (λ e. E (under n e))) (λ m. Holds d l m (λ e. F (under n e))) (λ m g. same_holds d l m (λ e. E (under n e)) (λ e. F (under n e)) (λ e. t (under n e)) (λ e. b (under n e)) g) ms.0 h.0,
        same_inners d is ms.1 E F t b h.1,
      )

-- ---- the order changes nothing

cond_has : (b : Bool) (e f g : Entry) (fs gs : List Entry) → Has e (cond b (f ∷ g ∷ fs) (g ∷ gs)) → (Has e gs → (e ≡ f) ⊎ Has e fs) → (e ≡ f) ⊎ Has e (g ∷ fs)
cond_has true e f g fs gs i h = i
cond_has false e f g fs gs (inl s) h = inr (inl s)
cond_has false e f g fs gs (inr i) h = ⊎_elim inl (λ j. inr (inr j)) (h i)

pub has_with : (e f : Entry) (es : List Entry) → Has e (with_entry f es) → (e ≡ f) ⊎ Has e es
has_with e f [] i = i
has_with e f (g ∷ gs) i = cond_has (is_before f g) e f g gs (with_entry f gs) i (has_with e f gs)

has_cond : (b : Bool) (e f g : Entry) (fs gs : List Entry) → (e ≡ f) ⊎ Has e (g ∷ fs) → ((e ≡ f) ⊎ Has e fs → Has e gs) → Has e (cond b (f ∷ g ∷ fs) (g ∷ gs))
has_cond true e f g fs gs i h = i
has_cond false e f g fs gs (inl s) h = inr (h (inl s))
has_cond false e f g fs gs (inr (inl s)) h = inl s
has_cond false e f g fs gs (inr (inr i)) h = inr (h (inr i))

pub with_has : (e f : Entry) (es : List Entry) → (e ≡ f) ⊎ Has e es → Has e (with_entry f es)
with_has e f [] i = i
with_has e f (g ∷ gs) i = has_cond (is_before f g) e f g gs (with_entry f gs) i (with_has e f gs)

pub order_has : (e : Entry) (es : List Entry) → Has e (in_order es) → Has e es
order_has e [] i = i
order_has e (f ∷ fs) i = ⊎_elim inl (λ j. inr (order_has e fs j)) (has_with e f (in_order fs) i)

pub has_order : (e : Entry) (es : List Entry) → Has e es → Has e (in_order es)
has_order e [] i = i
has_order e (f ∷ fs) (inl s) = with_has e f (in_order fs) (inl s)
has_order e (f ∷ fs) (inr i) = with_has e f (in_order fs) (inr (has_order e fs i))

-- ---- what was written holds

some_none : {A : Type 0} (x : A) → None ≡ Some x → ⊥
some_none x e = cc

-- a kept tuple has values
pub kept_part : (d : Side) (c : Cell) (t u : Tuple) → CellFits c → AreDistinct (names (other d) c) → IsAlive d c t (Some u) → (tuple_of (names (other d) c) (part (names (other d) c) u) ≡ u) × (is_part (names (other d) c) (part (names (other d) c) u) ≡ true)
kept_part d c t u f a g =
    let ns = names (other d) c in
    let back : tuple_of ns (part ns u) ≡ u = put_back ns u a (allowed_length (other d) c u g.0) in (
      back,
      is_part_of ns (part ns u) (part_named ns u) (λ e. some_none (tuple_of (names (other (other d)) c) []) (
          sym g.1 ∙ ap (matched (other d) c.kind) (sym back ∙ ap (tuple_of ns) e) ∙ f.absent (other d)
          )),
    )
