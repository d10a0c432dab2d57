-- Level by level: a body is an object whose names the level knows and whose tuples it allows.
use Rattle.std.proofs.Common.{◌≡◌, ℕ, suc, ◌+◌, ◌≤◌, List, Bool, true, false, ◌&&◌, Option, Some, None, refl, ap, sym, subst, ◌∙◌, arith}
use Rattle.kj_value.specs.Json.{Json, null, boolean, whole, text, list, object, Members, depth, members_of}
use Rattle.kj_value.specs.Fields.{Pairs, field}
use Rattle.kj_value.specs.KindLaws.{members_pairs}
use Rattle.kj_value.specs.Sound.{IsSoundJson, AreRising}
use Rattle.struct_schema.specs.Shape.{Own, Shape, own, some_shape}
use Rattle.struct_schema.specs.Keywords.{has_kind, is_chosen, is_within, keeps}
use Rattle.struct_schema.specs.Valid.{valid, items_valid}
use Rattle.struct_schema.specs.Filled.{Filled}
use Rattle.struct_schema.specs.declared.kind.NodeKind.{NodeKind}
use Rattle.struct_schema.specs.declared.kind.NodeKind.TheVariants.{Object}
use Rattle.hub_cells.specs.declared.allowed.TheConstants.{STORED_LEVELS}
use Rattle.hub_cells.specs.Side.{Side, other}
use Rattle.hub_cells.specs.Level.{Name, Level, level, Inners, no_inner, inner, named, cells_names, inner_names}
use Rattle.hub_cells.specs.LevelDepth.{level_depth, inners_depth}
use Rattle.hub_cells.specs.Fit.{has_name, is_required, IsClosedObject, Stands, InnersStand}
use Rattle.kept_entries.specs.declared.entry.Entry.{Entry}
use Rattle.keep_laws.specs.Entry.{inside}
use Rattle.keep_laws.specs.Marked.{Marked, IfThere, OrAbsent, there}
use Rattle.keep_laws.specs.Body.{pairs_of, as_object, object_in, read, read_inners}
use Rattle.keep_laws.specs.Settle.{IsAllowed, InnersAllowed, AreSet, InnersSet}
use Rattle.keep_laws.specs.Known.{IsObject, IfPresent, IsKnown, InnersKnown}
use Rattle.keep_laws.specs.FittedBody.{IsBody}
use Rattle.keep_laws.proofs.Tests.{lies, both_true, at_name}
use Rattle.keep_laws.proofs.Each.{at_field, each_field, rising_fields, each_named, named_each}
use Rattle.keep_laws.proofs.Object.{AtName, known_name, body_names, names_body}
use Rattle.keep_laws.proofs.Allowed.{IfSound, sound_at, AtEach, Seen, cells_allowed, cells_set, cells_seen}

same_shape : (t u : Shape) → some_shape t ≡ some_shape u → t ≡ u
same_shape t u e = cc

pub stands_closed : (d : Side) (n : ℕ) (s : Shape) (l : Level) → Stands d n s l → IsClosedObject s
stands_closed d n s (level cs is) h = h.0

-- ---- a value that an object's schema allows is an object

wrong_kind : (o : Own) (j : Json) → o.kind ≡ Object → has_kind Object j ≡ false → keeps o j ≡ true → ⊥
wrong_kind o j c q h =
    let h1 = both_true (has_kind o.kind j && is_chosen o.choices j) (is_within o j) h in
    let h0 = both_true (has_kind o.kind j) (is_chosen o.choices j) h1.0 in
    lies (sym q ∙ ap (λ (d : NodeKind). has_kind d j) (sym c) ∙ h0.0)

module _ (n : ℕ) (t : Shape) (P : Pairs → Type 0) (c : IsClosedObject t) (go : (y : Pairs) → AreRising (members_of y) → IsBody (suc n) t y → P y) where
  inner_body : (ms : Members) → AreRising ms → (valid t (object ms) ≡ true) → Filled t (object ms) (object ms) → n + suc (depth (object ms)) ≤ STORED_LEVELS → P (pairs_of ms)
  inner_body ms h v f r =
      let back = sym (members_pairs ms) in
      let levels : suc n + depth (object ms) ≤ STORED_LEVELS = omega arith in
      go (pairs_of ms) (subst AreRising back h) (record {
        valid = subst (λ (ns : Members). valid t (object ns) ≡ true) back v;
        filled = subst (λ (ns : Members). Filled t (object ns) (object ns)) back f;
        levels = subst (λ (ns : Members). suc n + depth (object ns) ≤ STORED_LEVELS) back levels;
      })

  pub inner_speaks : (j : Json) → IsSoundJson j → (valid t j ≡ true) → Filled t j j → n + suc (depth j) ≤ STORED_LEVELS → IsObject P j
  inner_speaks null h v f r = absurd (lies (sym c.nullable ∙ v))
  inner_speaks (boolean b) h v f r = absurd (wrong_kind (own t) (boolean b) c.kind refl v)
  inner_speaks (whole z) h v f r = absurd (wrong_kind (own t) (whole z) c.kind refl v)
  inner_speaks (text s) h v f r = absurd (wrong_kind (own t) (text s) c.kind refl v)
  inner_speaks (list js) h v f r =
      absurd (wrong_kind (own t) (list js) c.kind refl (both_true (keeps (own t) (list js)) (items_valid t js) v).0)
  inner_speaks (object ms) h v f r = inner_body ms h v f r

object_known : (K Q : Pairs → Type 0) (j : Json) → IsObject (λ y. K y × Q y) j → IsObject K j
object_known K Q null h = absurd h
object_known K Q (boolean b) h = absurd h
object_known K Q (whole z) h = absurd h
object_known K Q (text s) h = absurd h
object_known K Q (list js) h = absurd h
object_known K Q (object ms) h = h.0

object_allowed : {M : Type 0} (r : Bool) (K : Pairs → Type 0) (A : M → Type 0) (f : Pairs → M) (j : Json) → IsObject (λ y. K y × A (f y)) j → OrAbsent r A (there f (as_object j))
object_allowed r K A f null h = absurd h
object_allowed r K A f (boolean b) h = absurd h
object_allowed r K A f (whole z) h = absurd h
object_allowed r K A f (text s) h = absurd h
object_allowed r K A f (list js) h = absurd h
object_allowed r K A f (object ms) h = h.1

inner_says : {M : Type 0} (n : ℕ) (s : Shape) (k : Name) (t : Shape) (r : Bool) (K : Pairs → Type 0) (A : M → Type 0) (f : Pairs → M) → IsClosedObject t → r ≡ is_required k s → ((y : Pairs) → AreRising (members_of y) → IsBody (suc n) t y → K y × A (f y)) → (o : Option Json) → IfSound o → AtName n s k t o
    → IfPresent K o × OrAbsent r A (there f (object_in o))
inner_says n s k t r K A f c q go None h g = (tt, q ∙ g.0)
inner_says n s k t r K A f c q go (Some j) h g =
    let w = inner_speaks n t (λ y. K y × A (f y)) c go j h g.0 g.1 g.2 in
    (object_known K (λ y. A (f y)) j w, object_allowed r K A f j w)

-- ---- an inner object of which two things are so

first_so : {A : Type 0} (r : Bool) (P Q : A → Type 0) (o : Option A) → OrAbsent r (λ x. P x × Q x) o → OrAbsent r P o
first_so r P Q None h = h
first_so r P Q (Some x) h = h.0

second_so : {A : Type 0} (r : Bool) (P Q : A → Type 0) (o : Option A) → OrAbsent r (λ x. P x × Q x) o → IfThere Q o
second_so r P Q None h = tt
second_so r P Q (Some x) h = h.1

both_so : {A : Type 0} (r : Bool) (P Q : A → Type 0) (o : Option A) → OrAbsent r P o → IfThere Q o → OrAbsent r (λ x. P x × Q x) o
both_so r P Q None h k = h
both_so r P Q (Some x) h k = (h, k)

-- ---- a body is known and allowed, and each name that has a default is there

abbrev SoOf : Side → (l : Level) → Marked l → Type 0
SoOf d l m = IsAllowed d l m × AreSet d l m

mutual
  pub level_speaks : (d : Side) (n : ℕ) (s : Shape) (l : Level) (x : Pairs) (es : List Entry) → Stands d n s l → AreRising (members_of x) → IsBody n s x → IsKnown d l x × SoOf d l (read d l x es)
  level_speaks d n s (level cs is) x es st rise b =
      let names : AtEach n s x = body_names n s x st.0 b in
      let rest = inners_speak d n s is x es st.3 rise names in
      let rising = rising_fields x rise in
      let ns = cells_names d cs (inner_names d is) in (
        (rising, each_named ns x (each_field (λ k j. has_name k ns ≡ true) x rising (λ k j q. let t = known_name n s x st.0 b k j q in st.1.properties k t.0 t.1)), rest.0),
        ((cells_allowed d n s cs x es st.2 (sound_at x rise) names, rest.1), (cells_set d n s cs x es st.2 names, rest.2)),
      )

  pub inners_speak : (d : Side) (n : ℕ) (s : Shape) (is : Inners) (x : Pairs) (es : List Entry) → InnersStand d n s is → AreRising (members_of x) → AtEach n s x → InnersKnown d is x × InnersAllowed d is (read_inners d is x es) × InnersSet d is (read_inners d is x es)
  inners_speak d n s no_inner x es st rise names = (tt, tt, tt)
  inners_speak d n s (inner a b r l is) x es st rise names =
      let k = named d a b in
      let h = st.0 in
      let inside_es = inside (named (other d) a b) es in
      let rest = inners_speak d n s is x es st.1 rise names in
      let first = inner_says n s k h.0 r (IsKnown d l) (SoOf d l) (λ y. read d l y inside_es) (stands_closed d (suc n) h.0 l h.4) h.3 (λ y p q. level_speaks d (suc n) h.0 l y inside_es h.4 p q) (field k x) (sound_at x rise k) (names k h.0 h.1) in
      let o = there (λ (y : Pairs). read d l y inside_es) (object_in (field k x)) in (
        (first.0, rest.0),
        (first_so r (IsAllowed d l) (AreSet d l) o first.1, rest.1),
        (second_so r (IsAllowed d l) (AreSet d l) o first.1, rest.2),
      )

-- ---- what is known and allowed is a body, where each name that has a default is there

object_holds : {M : Type 0} (n : ℕ) (t : Shape) (r : Bool) (K : Pairs → Type 0) (A : M → Type 0) (f : Pairs → M) → ((y : Pairs) → K y → A (f y) → IsBody (suc n) t y) → (j : Json) → IsObject K j → OrAbsent r A (there f (as_object j)) → (valid t j ≡ true) × Filled t j j × (n + suc (depth j) ≤ STORED_LEVELS)
object_holds n t r K A f go null h g = absurd h
object_holds n t r K A f go (boolean b) h g = absurd h
object_holds n t r K A f go (whole z) h g = absurd h
object_holds n t r K A f go (text s) h g = absurd h
object_holds n t r K A f go (list js) h g = absurd h
object_holds n t r K A f go (object ms) h g =
    let back = members_pairs ms in
    let b = go (pairs_of ms) h g in
    let levels : suc n + depth (object ms) ≤ STORED_LEVELS = subst (λ (ns : Members). suc n + depth (object ns) ≤ STORED_LEVELS) back b.levels in (
      subst (λ (ns : Members). valid t (object ns) ≡ true) back b.valid,
      subst (λ (ns : Members). Filled t (object ns) (object ns)) back b.filled,
      omega arith,
    )

inner_holds : {M : Type 0} (n : ℕ) (s : Shape) (k : Name) (t : Shape) (r : Bool) (K : Pairs → Type 0) (A : M → Type 0) (f : Pairs → M) → (own t).default_value ≡ None → r ≡ is_required k s → ((y : Pairs) → K y → A (f y) → IsBody (suc n) t y) → (o : Option Json) → IfPresent K o → OrAbsent r A (there f (object_in o)) → AtName n s k t o
inner_holds n s k t r K A f e q go None h g = (sym q ∙ g, e)
inner_holds n s k t r K A f e q go (Some j) h g = object_holds n t r K A f go j h g

mutual
  pub level_holds : (d : Side) (n : ℕ) (s : Shape) (l : Level) (x : Pairs) (es : List Entry) → Stands d n s l → IsKnown d l x → IsAllowed d l (read d l x es) → AreSet d l (read d l x es) → n + level_depth l ≤ STORED_LEVELS → IsBody n s x
  level_holds d n s (level cs is) x es st known allowed are room =
      let ns = cells_names d cs (inner_names d is) in
      let deep : n + suc (inners_depth is) ≤ STORED_LEVELS = room in
      let seen : (k : Name) → has_name k ns ≡ true → Seen n s x k = λ k h. cells_seen d n s cs (inner_names d is) x es k st.2 allowed.0 are.0 (λ q. inners_hold d n s is x es k st.3 known.2 allowed.1 are.1 deep q) h in
      names_body n s x st.0 known.0 (λ k j q. let r = seen k (at_field (λ l i. has_name l ns ≡ true) x k j (named_each ns x known.1) q) in (r.0, r.1)) (λ k h. let r = seen k (st.1.required k h) in (r.0, r.1)) (
      λ k t e. let r = seen k (st.1.properties k t e) in
      subst (λ (u : Shape). AtName n s k u (field k x)) (same_shape r.0 t (sym r.1 ∙ e)) r.2
      ) (omega arith)

  pub inners_hold : (d : Side) (n : ℕ) (s : Shape) (is : Inners) (x : Pairs) (es : List Entry) (k : Name) → InnersStand d n s is → InnersKnown d is x → InnersAllowed d is (read_inners d is x es) → InnersSet d is (read_inners d is x es) → n + suc (inners_depth is) ≤ STORED_LEVELS → has_name k (inner_names d is) ≡ true → Seen n s x k
  inners_hold d n s no_inner x es k st known allowed are room h = absurd (lies h)
  inners_hold d n s (inner a b r l is) x es k st known allowed are room h =
      let m = named d a b in
      let g = st.0 in
      let inside_es = inside (named (other d) a b) es in
      let deep : suc n + level_depth l ≤ STORED_LEVELS = omega arith in
      let later : n + suc (inners_depth is) ≤ STORED_LEVELS = omega arith in
      let here : AtName n s m g.0 (field m x) = inner_holds n s m g.0 r (IsKnown d l) (SoOf d l) (λ y. read d l y inside_es) g.2 g.3 (λ y p q. level_holds d (suc n) g.0 l y inside_es g.4 p q.0 q.1 deep) (field m x) known.0 (both_so r (IsAllowed d l) (AreSet d l) (there (λ (y : Pairs). read d l y inside_es) (object_in (field m x))) allowed.0 are.0) in
      at_name (Seen n s x) k m (inner_names d is) (g.0, g.1, here) (λ q. inners_hold d n s is x es k st.1 known.1 allowed.1 are.1 later q) h
