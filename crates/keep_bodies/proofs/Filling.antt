-- The filled fields are read as the marks with the absent tuples filled.
use Rattle.std.proofs.Common.{◌≡◌, List, [], ◌∷◌, ◌++◌, map, Bool, true, false, ◌||◌, Option, Some, None, Ordering, Less, Equal, Greater, nat_cmp, bytes_eq, refl, ap, ap₂, sym, subst, ◌∙◌}
use Rattle.std.specs.Prelude.{is_none}
use Rattle.std.specs.Ordering.{match_ordering}
use Rattle.std.specs.Cmp.Lexicographic.{slice_cmp}
use Rattle.kj_value.specs.Json.{Json, null, boolean, whole, text, list, object, members_of}
use Rattle.kj_value.specs.Fields.{Pairs, field, with_field}
use Rattle.kj_value.specs.KindLaws.{pairs_members}
use Rattle.hub_cells.specs.Side.{hub}
use Rattle.hub_cells.specs.Cell.{Tuple}
use Rattle.hub_cells.specs.Level.{Name, Place, Cell, names, tuple_of, CellFits, CellsFit, Fits, InnersFit, Level, level, Inners, no_inner, inner, cells_names, inner_names, AreDistinct, NoNameTwice, NoneTwice}
use Rattle.hub_cells.specs.Fit.{has_name}
use Rattle.hub_fills.specs.Fills.{Fills, fills, Within, nothing_within, within}
use Rattle.hub_fills.specs.Right.{IsRight, AreRight, RightFills, RightWithin}
use Rattle.hub_fills.specs.laws.RightLaws.{one_place}
use Rattle.keep_laws.specs.Entry.{all_named}
use Rattle.keep_laws.specs.Marked.{Marks, Marked, MarkedInners, IfThere, there}
use Rattle.keep_laws.specs.Body.{pairs_of, object_in, read_cells, read, read_inners, body}
use Rattle.keep_laws.specs.Complete.{where_absent, filled_tuple, filled_marks, filled, filled_inners, completed, IsFilled, CellsFilled, IsComplete, InnersComplete}
use Rattle.keep_laws.specs.Known.{IsRising, IfPresent, IsKnown, InnersKnown}
use Rattle.keep_laws.proofs.Bodies.{body_read}
use Rattle.keep_laws.proofs.Fields.{bytes_same, field_same, field_other, Disjoint, fresh_absent, distinct_right, distinct_apart, disjoint_turned, has_left, has_right}
use Rattle.keep_laws.proofs.FittedWritten.{rising_put}
use Rattle.keep_laws.proofs.Marks.{completed_same}
use Rattle.keep_laws.proofs.Tests.{lies, both_true, and_true}
use Rattle.keep_bodies.specs.inner.Filling.{with_absent, fill_place, fill_cells, put_object, fill_level, fill_inners, is_absent, cells_lack, object_lacks, lacks, inners_lack}

-- ---- names that aren't touched

differ : (k n : Name) (ns : List Name) → has_name k ns ≡ false → has_name n ns ≡ true → k ≡ n → ⊥
differ k n ns h g e = lies (sym h ∙ ap (λ (m : Name). has_name m ns) e ∙ g)

own_place : (q : Place) → has_name q.name (q.name ∷ []) ≡ true
own_place q = ap (λ (b : Bool). b || false) (bytes_same q.name)

place_other : (k : Name) (qs : List Place) (v : Option Json) (x : Pairs) → has_name k (map (λ (p : Place). p.name) qs) ≡ false → field k (fill_place qs v x) ≡ field k x
place_other k [] v x h = refl
place_other k (q ∷ []) None x h = refl
place_other k (q ∷ []) (Some j) x h = by_field (field q.name x)
  where
    by_field : (o : Option Json) → field k (with_absent q.name j o x) ≡ field k x
    by_field None = field_other k q.name j x (differ k q.name (q.name ∷ []) h (own_place q))
    by_field (Some i) = refl
place_other k (q ∷ r ∷ qs) v x h = refl

apart_left : (k : Name) (ns ms : List Name) → has_name k (ns ++ ms) ≡ false → has_name k ns ≡ false
apart_left k ns ms h = by_test (has_name k ns) refl
  where
    by_test : (b : Bool) → has_name k ns ≡ b → b ≡ false
    by_test true q = absurd (lies (sym h ∙ has_left k ns ms q))
    by_test false q = refl

apart_right : (k : Name) (ns ms : List Name) → has_name k (ns ++ ms) ≡ false → has_name k ms ≡ false
apart_right k ns ms h = by_test (has_name k ms) refl
  where
    by_test : (b : Bool) → has_name k ms ≡ b → b ≡ false
    by_test true q = absurd (lies (sym h ∙ has_right k ns ms q))
    by_test false q = refl

cells_other : (k : Name) (cs : List Cell) (vs : List (Option Json)) (x : Pairs) (ns : List Name) → has_name k (cells_names hub cs ns) ≡ false → field k (fill_cells cs vs x) ≡ field k x
cells_other k [] vs x ns h = refl
cells_other k (c ∷ cs) [] x ns h = refl
cells_other k (c ∷ cs) (v ∷ vs) x ns h =
    cells_other k cs vs (fill_place c.hub v x) ns (apart_right k (names hub c) (cells_names hub cs ns) h) ∙ place_other k c.hub v x (apart_left k (names hub c) (cells_names hub cs ns) h)

put_other : (k n : Name) (g : Pairs → Pairs) (o : Option Pairs) (x : Pairs) → (k ≡ n → ⊥) → field k (put_object n g o x) ≡ field k x
put_other k n g None x h = refl
put_other k n g (Some y) x h = field_other k n (object (members_of (g y))) x h

not_first : (k n : Name) (ns : List Name) → has_name k (n ∷ ns) ≡ false → k ≡ n → ⊥
not_first k n ns h e = lies (sym h ∙ ap (λ (b : Bool). b || has_name k ns) (subst (λ (m : Name). bytes_eq k m ≡ true) e (bytes_same k)))

not_later : (k n : Name) (ns : List Name) → has_name k (n ∷ ns) ≡ false → has_name k ns ≡ false
not_later k n ns h = apart_right k (n ∷ []) ns h

inners_other : (k : Name) (is : Inners) (fs : Within) (x : Pairs) → has_name k (inner_names hub is) ≡ false → field k (fill_inners is fs x) ≡ field k x
inners_other k no_inner fs x h = refl
inners_other k (inner a b r l is) nothing_within x h = refl
inners_other k (inner a b r l is) (within f fs) x h =
    inners_other k is fs (put_object b (fill_level l f) (object_in (field b x)) x) (not_later k b (inner_names hub is) h) ∙ put_other k b (fill_level l f) (object_in (field b x)) x (not_first k b (inner_names hub is) h)

-- ---- tuples

same_tuple : (ns : List Name) (x y : Pairs) → ((k : Name) → has_name k ns ≡ true → field k x ≡ field k y) → tuple_of ns x ≡ tuple_of ns y
same_tuple [] x y h = refl
same_tuple (n ∷ ns) x y h =
    ap₂ (λ (o : Option Json) (os : Tuple). o ∷ os) (h n (ap (λ (b : Bool). b || has_name n ns) (bytes_same n))) (same_tuple ns x y (λ k g. h k (has_right k (n ∷ []) ns g)))

same_read : (cs : List Cell) (x y : Pairs) (ns : List Name) → ((k : Name) → has_name k (cells_names hub cs ns) ≡ true → field k x ≡ field k y) → read_cells hub cs x [] ≡ read_cells hub cs y []
same_read [] x y ns h = refl
same_read (c ∷ cs) x y ns h =
    ap₂ (λ (t : Tuple) (ms : Marks cs). ((t, None), ms)) (same_tuple (names hub c) x y (λ k g. h k (has_left k (names hub c) (cells_names hub cs ns) g))) (same_read cs x y ns (λ k g. h k (has_right k (names hub c) (cells_names hub cs ns) g)))

place_read : (qs : List Place) (v : Option Json) (x : Pairs) → tuple_of (map (λ (p : Place). p.name) qs) (fill_place qs v x) ≡ filled_tuple v (tuple_of (map (λ (p : Place). p.name) qs) x)
place_read [] None x = refl
place_read [] (Some j) x = refl
place_read (q ∷ []) None x = refl
place_read (q ∷ []) (Some j) x = by_field (field q.name x) refl
  where
    by_field : (o : Option Json) → field q.name x ≡ o → field q.name (with_absent q.name j o x) ∷ [] ≡ where_absent j (o ∷ [])
    by_field None e = ap (λ (u : Option Json). u ∷ []) (field_same q.name j x)
    by_field (Some i) e = ap (λ (u : Option Json). u ∷ []) e
place_read (q ∷ r ∷ qs) None x = refl
place_read (q ∷ r ∷ qs) (Some j) x = by_field (field q.name x)
  where
    by_field : (o : Option Json) → o ∷ field r.name x ∷ tuple_of (map (λ (p : Place). p.name) qs) x ≡ where_absent j (o ∷ field r.name x ∷ tuple_of (map (λ (p : Place). p.name) qs) x)
    by_field None = refl
    by_field (Some i) = refl

cells_read : (cs : List Cell) (vs : List (Option Json)) (x : Pairs) (ns : List Name) → AreDistinct (cells_names hub cs ns) → read_cells hub cs (fill_cells cs vs x) [] ≡ filled_marks cs vs (read_cells hub cs x [])
cells_read [] vs x ns d = refl
cells_read (c ∷ cs) [] x ns d = refl
cells_read (c ∷ cs) (v ∷ vs) x ns d =
    let y = fill_place c.hub v x in
    let apart : Disjoint (names hub c) (cells_names hub cs ns) = distinct_apart (names hub c) (cells_names hub cs ns) d in
    let first : tuple_of (names hub c) (fill_cells cs vs y) ≡ filled_tuple v (tuple_of (names hub c) x) = same_tuple (names hub c) (fill_cells cs vs y) y (λ k g. cells_other k cs vs y ns (apart k g)) ∙ place_read c.hub v x in
    let rest : read_cells hub cs y [] ≡ read_cells hub cs x [] = same_read cs y x ns (λ k g. place_other k c.hub v x (disjoint_turned (names hub c) (cells_names hub cs ns) apart k g)) in
    ap₂ (λ (t : Tuple) (ms : Marks cs). ((t, None), ms)) first (cells_read cs vs y ns (distinct_right (names hub c) (cells_names hub cs ns) d) ∙ ap (filled_marks cs vs) rest)

-- ---- objects inside

object_put : (k : Name) (g : Pairs → Pairs) (o : Option Pairs) (x : Pairs) → object_in (field k x) ≡ o → object_in (field k (put_object k g o x)) ≡ there g o
object_put k g None x e = e
object_put k g (Some y) x e =
    ap object_in (field_same k (object (members_of (g y))) x) ∙ ap (λ (p : Pairs). Some p) (pairs_members (g y))

same_inners : (is : Inners) (x y : Pairs) → ((k : Name) → has_name k (inner_names hub is) ≡ true → field k x ≡ field k y) → read_inners hub is x [] ≡ read_inners hub is y []
same_inners no_inner x y h = refl
same_inners (inner a b r l is) x y h =
    ap₂ (λ (o : Option Json) (ms : MarkedInners is). (there (λ (z : Pairs). read hub l z []) (object_in o), ms)) (h b (ap (λ (t : Bool). t || has_name b (inner_names hub is)) (bytes_same b))) (same_inners is x y (λ k g. h k (has_right k (b ∷ []) (inner_names hub is) g)))

there_read : {A B : Type 0} (f : A → B) (g : A → A) (h : B → B) → ((y : A) → f (g y) ≡ h (f y)) → (o : Option A) → there f (there g o) ≡ there h (there f o)
there_read f g h e None = refl
there_read f g h e (Some y) = ap Some (e y)

none_behind : (k : Name) (cs : List Cell) (ns : List Name) → has_name k (cells_names hub cs ns) ≡ false → has_name k ns ≡ false
none_behind k [] ns h = h
none_behind k (c ∷ cs) ns h = none_behind k cs ns (apart_right k (names hub c) (cells_names hub cs ns) h)

distinct_inner : (cs : List Cell) (ns : List Name) → AreDistinct (cells_names hub cs ns) → AreDistinct ns
distinct_inner [] ns d = d
distinct_inner (c ∷ cs) ns d = distinct_inner cs ns (distinct_right (names hub c) (cells_names hub cs ns) d)

behind : (k : Name) (cs : List Cell) (ns : List Name) → has_name k ns ≡ true → has_name k (cells_names hub cs ns) ≡ true
behind k [] ns h = h
behind k (c ∷ cs) ns h = has_right k (names hub c) (cells_names hub cs ns) (behind k cs ns h)

cells_before : (k : Name) (cs : List Cell) (vs : List (Option Json)) (x : Pairs) (ns : List Name) → AreDistinct (cells_names hub cs ns) → has_name k ns ≡ true → field k (fill_cells cs vs x) ≡ field k x
cells_before k [] vs x ns d g = refl
cells_before k (c ∷ cs) [] x ns d g = refl
cells_before k (c ∷ cs) (v ∷ vs) x ns d g =
    cells_before k cs vs (fill_place c.hub v x) ns (distinct_right (names hub c) (cells_names hub cs ns) d) g ∙ place_other k c.hub v x (disjoint_turned (names hub c) (cells_names hub cs ns) (distinct_apart (names hub c) (cells_names hub cs ns) d) k (behind k cs ns g))

cells_after : (cs : List Cell) (x y : Pairs) (ns : List Name) → AreDistinct (cells_names hub cs ns) → ((k : Name) → has_name k ns ≡ false → field k y ≡ field k x) → read_cells hub cs y [] ≡ read_cells hub cs x []
cells_after [] x y ns d h = refl
cells_after (c ∷ cs) x y ns d h =
    let apart : Disjoint (names hub c) (cells_names hub cs ns) = distinct_apart (names hub c) (cells_names hub cs ns) d in
    ap₂ (λ (t : Tuple) (ms : Marks cs). ((t, None), ms)) (same_tuple (names hub c) y x (λ k g. h k (none_behind k cs ns (apart k g)))) (cells_after cs x y ns (distinct_right (names hub c) (cells_names hub cs ns) d) h)

mutual
  pub level_read : (l : Level) (f : Fills) (x : Pairs) → NoNameTwice hub l → read hub l (fill_level l f x) [] ≡ filled l f (read hub l x [])
  level_read (level cs is) (fills vs fs) x d =
      let y = fill_cells cs vs x in
      let ns = inner_names hub is in
      let cells : read_cells hub cs (fill_inners is fs y) [] ≡ filled_marks cs vs (read_cells hub cs x []) = cells_after cs y (fill_inners is fs y) ns d.0 (λ k g. inners_other k is fs y g) ∙ cells_read cs vs x ns d.0 in
      let inside : read_inners hub is (fill_inners is fs y) [] ≡ filled_inners is fs (read_inners hub is x []) = inners_read is fs y (distinct_inner cs ns d.0) d.1 ∙ ap (filled_inners is fs) (same_inners is y x (λ k g. cells_before k cs vs x ns d.0 g)) in
      ap₂ (λ (a : Marks cs) (b : MarkedInners is). (a, b)) cells inside

  inners_read : (is : Inners) (fs : Within) (x : Pairs) → AreDistinct (inner_names hub is) → NoneTwice hub is → read_inners hub is (fill_inners is fs x) [] ≡ filled_inners is fs (read_inners hub is x [])
  inners_read no_inner fs x d t = refl
  inners_read (inner a b r l is) nothing_within x d t = refl
  inners_read (inner a b r l is) (within f fs) x d t =
      let y = put_object b (fill_level l f) (object_in (field b x)) x in
      let ns = inner_names hub is in
      let here : object_in (field b (fill_inners is fs y)) ≡ there (fill_level l f) (object_in (field b x)) = ap object_in (inners_other b is fs y (fresh_absent b ns d.0)) ∙ object_put b (fill_level l f) (object_in (field b x)) x refl in
      let first : there (λ (z : Pairs). read hub l z []) (object_in (field b (fill_inners is fs y))) ≡ there (filled l f) (there (λ (z : Pairs). read hub l z []) (object_in (field b x))) = ap (there (λ (z : Pairs). read hub l z [])) here ∙ there_read (λ (z : Pairs). read hub l z []) (fill_level l f) (filled l f) (λ z. level_read l f z t.0) (object_in (field b x)) in
      let rest : read_inners hub is y [] ≡ read_inners hub is x [] = same_inners is y x (λ k g. put_other k b (fill_level l f) (object_in (field b x)) x (λ e. lies (sym (fresh_absent b ns d.0) ∙ subst (λ (m : Name). has_name m ns ≡ true) e g))) in
      ap₂ (λ (o : Option (Marked l)) (ms : MarkedInners is). (o, ms)) first (inners_read is fs y d.1 t.1 ∙ ap (filled_inners is fs) rest)

-- ---- the level knows the filled fields

named_with : (ns : List Name) (k : Name) (j : Json) (x : Pairs) → has_name k ns ≡ true → all_named ns x ≡ true → all_named ns (with_field k j x) ≡ true
named_with ns k j [] h a = and_true (has_name k ns) true h refl
named_with ns k j (p ∷ ps) h a = by_order (named_with ns k j ps h (both_true (has_name p.0 ns) (all_named ns ps) a).1) (slice_cmp nat_cmp k p.0)
  where
    by_order : all_named ns (with_field k j ps) ≡ true → (o : Ordering) → all_named ns (match_ordering o ((k, j) ∷ p ∷ ps) ((p.0, j) ∷ ps) (p ∷ with_field k j ps)) ≡ true
    by_order later Less = and_true (has_name k ns) (all_named ns (p ∷ ps)) h a
    by_order later Equal = a
    by_order later Greater = and_true (has_name p.0 ns) (all_named ns (with_field k j ps)) (both_true (has_name p.0 ns) (all_named ns ps) a).0 later

-- rising, with names among these
abbrev Named : List Name → Pairs → Type 0
Named ns x = IsRising x × (all_named ns x ≡ true)

with_named : (ns : List Name) (k : Name) (j : Json) (x : Pairs) → has_name k ns ≡ true → Named ns x → Named ns (with_field k j x)
with_named ns k j x h n = (rising_put (k ∷ []) (Some j ∷ []) x n.0, named_with ns k j x h n.1)

place_named : (ns : List Name) (qs : List Place) (v : Option Json) (x : Pairs) → ((k : Name) → has_name k (map (λ (p : Place). p.name) qs) ≡ true → has_name k ns ≡ true) → Named ns x → Named ns (fill_place qs v x)
place_named ns [] v x h n = n
place_named ns (q ∷ []) None x h n = n
place_named ns (q ∷ []) (Some j) x h n = by_field (field q.name x)
  where
    by_field : (o : Option Json) → Named ns (with_absent q.name j o x)
    by_field None = with_named ns q.name j x (h q.name (own_place q)) n
    by_field (Some i) = n
place_named ns (q ∷ r ∷ qs) v x h n = n

cells_named : (ns : List Name) (cs : List Cell) (vs : List (Option Json)) (x : Pairs) (rest : List Name) → ((k : Name) → has_name k (cells_names hub cs rest) ≡ true → has_name k ns ≡ true) → Named ns x → Named ns (fill_cells cs vs x)
cells_named ns [] vs x rest h n = n
cells_named ns (c ∷ cs) [] x rest h n = n
cells_named ns (c ∷ cs) (v ∷ vs) x rest h n =
    cells_named ns cs vs (fill_place c.hub v x) rest (λ k g. h k (has_right k (names hub c) (cells_names hub cs rest) g)) (place_named ns c.hub v x (λ k g. h k (has_left k (names hub c) (cells_names hub cs rest) g)) n)

inners_named : (ns : List Name) (is : Inners) (fs : Within) (x : Pairs) → ((k : Name) → has_name k (inner_names hub is) ≡ true → has_name k ns ≡ true) → Named ns x → Named ns (fill_inners is fs x)
inners_named ns no_inner fs x h n = n
inners_named ns (inner a b r l is) nothing_within x h n = n
inners_named ns (inner a b r l is) (within f fs) x h n =
    inners_named ns is fs (put_object b (fill_level l f) (object_in (field b x)) x) (λ k g. h k (has_right k (b ∷ []) (inner_names hub is) g)) (by_object (object_in (field b x)))
  where
    by_object : (o : Option Pairs) → Named ns (put_object b (fill_level l f) o x)
    by_object None = n
    by_object (Some y) = with_named ns b (object (members_of (fill_level l f y))) x (h b (ap (λ (t : Bool). t || has_name b (inner_names hub is)) (bytes_same b))) n

-- an object that is there is known where what it was put by keeps that
object_known : (K : Pairs → Type 0) (g : Pairs → Pairs) → ((y : Pairs) → K y → K (g y)) → (k : Name) (x : Pairs) (v : Option Json) → field k x ≡ v → IfPresent K v → IfPresent K (field k (put_object k g (object_in v) x))
object_known K g h k x None e p = subst (IfPresent K) (sym e) tt
object_known K g h k x (Some null) e p = absurd p
object_known K g h k x (Some (boolean b)) e p = absurd p
object_known K g h k x (Some (whole z)) e p = absurd p
object_known K g h k x (Some (text s)) e p = absurd p
object_known K g h k x (Some (list js)) e p = absurd p
object_known K g h k x (Some (object ms)) e p =
    subst (IfPresent K) (sym (field_same k (object (members_of (g (pairs_of ms)))) x)) (subst K (sym (pairs_members (g (pairs_of ms)))) (h (pairs_of ms) p))

same_known : (is : Inners) (x y : Pairs) → ((k : Name) → has_name k (inner_names hub is) ≡ true → field k x ≡ field k y) → InnersKnown hub is y → InnersKnown hub is x
same_known no_inner x y h i = tt
same_known (inner a b r l is) x y h i = (
  subst (IfPresent (IsKnown hub l)) (sym (h b (ap (λ (t : Bool). t || has_name b (inner_names hub is)) (bytes_same b)))) i.0,
  same_known is x y (λ k g. h k (has_right k (b ∷ []) (inner_names hub is) g)) i.1,
)

mutual
  pub level_known : (l : Level) (f : Fills) (x : Pairs) → NoNameTwice hub l → IsKnown hub l x → IsKnown hub l (fill_level l f x)
  level_known (level cs is) (fills vs fs) x d known =
      let ns = cells_names hub cs (inner_names hub is) in
      let y = fill_cells cs vs x in
      let first : Named ns y = cells_named ns cs vs x (inner_names hub is) (λ k g. g) (known.0, known.1) in
      let named : Named ns (fill_inners is fs y) = inners_named ns is fs y (λ k g. behind k cs (inner_names hub is) g) first in
      let inside : InnersKnown hub is y = same_known is y x (λ k g. cells_before k cs vs x (inner_names hub is) d.0 g) known.2 in
      (named.0, named.1, inners_known is fs y (distinct_inner cs (inner_names hub is) d.0) d.1 inside)

  inners_known : (is : Inners) (fs : Within) (x : Pairs) → AreDistinct (inner_names hub is) → NoneTwice hub is → InnersKnown hub is x → InnersKnown hub is (fill_inners is fs x)
  inners_known no_inner fs x d t i = tt
  inners_known (inner a b r l is) nothing_within x d t i = i
  inners_known (inner a b r l is) (within f fs) x d t i =
      let y = put_object b (fill_level l f) (object_in (field b x)) x in
      let ns = inner_names hub is in
      let here : IfPresent (IsKnown hub l) (field b y) = object_known (IsKnown hub l) (fill_level l f) (λ z k. level_known l f z t.0 k) b x (field b x) refl i.0 in
      let rest : InnersKnown hub is y = same_known is y x (λ k g. put_other k b (fill_level l f) (object_in (field b x)) x (λ e. lies (sym (fresh_absent b ns d.0) ∙ subst (λ (m : Name). has_name m ns ≡ true) e g))) i.1 in
      (subst (IfPresent (IsKnown hub l)) (sym (inners_other b is fs y (fresh_absent b ns d.0))) here, inners_known is fs y d.1 t.1 rest)

-- the filled fields are the completed body
pub filled_completed : (l : Level) (f : Fills) (x : Pairs) → NoNameTwice hub l → IsKnown hub l x → fill_level l f x ≡ completed f l x
filled_completed l f x d known =
    sym (body_read hub l (fill_level l f x) [] d (level_known l f x d known)) ∙ ap (body hub l) (level_read l f x d)

-- ---- where nothing is lacking

neither : (a b : Bool) → (a || b) ≡ false → (a ≡ false) × (b ≡ false)
neither true b h = absurd (lies (sym h))
neither false b h = (refl, h)

here_filled : (c : Cell) → CellFits c → (v : Option Json) → IsRight c v → (x : Pairs) → is_absent c.hub v x ≡ false → IsFilled v (tuple_of (names hub c) x)
here_filled c f None r x h = tt
here_filled c f (Some j) r x h =
    let q = one_place c f (r.can refl) hub in
    subst (λ (qs : List Place). IsFilled (Some j) (tuple_of (map (λ (p : Place). p.name) qs) x)) (sym q.1) (by_field q.0 (field q.0.name x) refl (subst (λ (qs : List Place). is_absent qs (Some j) x ≡ false) q.1 h))
  where
    by_field : (q : Place) (o : Option Json) → field q.name x ≡ o → is_none (field q.name x) ≡ false → IsFilled (Some j) (field q.name x ∷ [])
    by_field q None e g = absurd (lies (sym g ∙ ap is_none e))
    by_field q (Some i) e g = subst (λ (u : Option Json). IsFilled (Some j) (u ∷ [])) (sym e) refl

cells_complete : (cs : List Cell) (vs : List (Option Json)) (x : Pairs) → CellsFit cs → AreRight cs vs → cells_lack cs vs x ≡ false → CellsFilled cs vs (read_cells hub cs x [])
cells_complete [] vs x f r h = tt
cells_complete (c ∷ cs) [] x f r h = tt
cells_complete (c ∷ cs) (v ∷ vs) x f r h =
    let q = neither (is_absent c.hub v x) (cells_lack cs vs x) h in
    (here_filled c f.0 v r.0 x q.0, cells_complete cs vs x f.1 r.1 q.1)

object_complete : {M : Type 0} (P : M → Type 0) (f : Pairs → M) (p : Pairs → Bool) → ((y : Pairs) → p y ≡ false → P (f y)) → (o : Option Pairs) → object_lacks p o ≡ false → IfThere P (there f o)
object_complete P f p h None e = tt
object_complete P f p h (Some y) e = h y e

mutual
  pub not_lacking : (l : Level) (f : Fills) (x : Pairs) → Fits l → RightFills l f → lacks l f x ≡ false → IsComplete l f (read hub l x [])
  not_lacking (level cs is) (fills vs fs) x t r h =
      let q = neither (cells_lack cs vs x) (inners_lack is fs x) h in
      (cells_complete cs vs x t.0 r.0 q.0, inners_not_lacking is fs x t.1 r.1 q.1)

  inners_not_lacking : (is : Inners) (fs : Within) (x : Pairs) → InnersFit is → RightWithin is fs → inners_lack is fs x ≡ false → InnersComplete is fs (read_inners hub is x [])
  inners_not_lacking no_inner fs x t r h = tt
  inners_not_lacking (inner a b rq l is) nothing_within x t r h = tt
  inners_not_lacking (inner a b rq l is) (within f fs) x t r h =
      let q = neither (object_lacks (lacks l f) (object_in (field b x))) (inners_lack is fs x) h in
      (object_complete (IsComplete l f) (λ (y : Pairs). read hub l y []) (lacks l f) (λ y e. not_lacking l f y t.0 r.0 e) (object_in (field b x)) q.0, inners_not_lacking is fs x t.1 r.1 q.1)

pub complete_stays : (l : Level) (f : Fills) (x : Pairs) → Fits l → RightFills l f → NoNameTwice hub l → IsKnown hub l x → lacks l f x ≡ false → x ≡ completed f l x
complete_stays l f x t r d known h = sym (completed_same f l x d known (not_lacking l f x t r h))
