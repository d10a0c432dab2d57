-- What a hub's object becomes at a spoke is sound, where the object is.
use Rattle.std.proofs.Common.{◌≡◌, ◌∙◌, ℕ, List, [], ◌∷◌, ◌++◌, Bool, true, false, cond, bytes_eq, Option, Some, None, Less, Equal, Greater, Ordering, nat_cmp, is_eq, map, refl, ap, sym, subst, arith}
use Rattle.std.specs.Prelude.{ℤ, pos, negsuc, ◌*ℤ◌, option_map, FitsSigned}
use Rattle.std.specs.Int.{w64}
use Rattle.std.specs.Ordering.{int_eq, match_ordering, ordering_reverse}
use Rattle.std.specs.Cmp.Lexicographic.{slice_cmp}
use Rattle.std.proofs.Math.Nat.{div-le_self}
use Rattle.std.proofs.lemmas.Cmp.{nat_list_cmp_total}
use Rattle.kj_value.specs.Json.{Json, null, boolean, whole, text, list, object, items_of, members_of}
use Rattle.kj_value.specs.Same.{json_same}
use Rattle.kj_value.specs.Sound.{IsSoundJson, AreSoundItems, AreRising, ComesFirst}
use Rattle.kj_value.specs.Fields.{Pairs, field, with_field}
use Rattle.kj_value.specs.KindLaws.{members_pairs}
use Rattle.kept_entries.specs.declared.entry.Entry.{Entry}
use Rattle.kept_entries.specs.Entry.{is_before}
use Rattle.kept_entries.specs.Text.{entry_json}
use Rattle.hub_cells.specs.Side.{Side, spoke, hub, other}
use Rattle.hub_cells.specs.Colon.{has_colon}
use Rattle.hub_cells.specs.Cell.{Kind, same, spoke_only, hub_only, split, table, scale, Tuple, one}
use Rattle.hub_cells.specs.Cross.{quotient, joined, divided, partner, to_spoke_tuple, matched, rounded, shown, blank}
use Rattle.hub_cells.specs.Level.{Name, Cell, Level, level, Inners, no_inner, inner, names, named, tuple_of, cells_names, inner_names}
use Rattle.keep_laws.specs.Entry.{put, is_part, kept_here, kept_of, inside_by, inside, under, with_entry, in_order}
use Rattle.keep_laws.specs.Marked.{Mark, Marks, Marked, MarkedInners, IfThere, there, crossed_as, crossed_mark, crossed_marks, crossed, crossed_inners}
use Rattle.keep_laws.specs.Body.{object_in, read_cells, read, read_inners, cells_values, as_field, body, inner_values, entry_of, cell_entries, with_inside, all_entries, inner_entries}
use Rattle.keep_laws.specs.Whole.{Held, marks_of, other_object}
use Rattle.crd_meaning.specs.Tables.{AreSoundPairs, IsSoundKind, AreSoundCells, HasSoundTables, InnersHaveSoundTables}

-- ---- a field put at its place

greater_less : (k l : List ℕ) → slice_cmp nat_cmp k l ≡ Greater → slice_cmp nat_cmp l k ≡ Less
greater_less k l e = nat_list_cmp_total.antisymm l k ∙ ap ordering_reverse e

comes_first-with : (l k : List ℕ) (v : Json) (es : Pairs) → slice_cmp nat_cmp l k ≡ Less → ComesFirst l (members_of es) → ComesFirst l (members_of (with_field k v es))
comes_first-with l k v [] p h = p
comes_first-with l k v (e ∷ es) p h = by_order (slice_cmp nat_cmp k e.0)
  where
    by_order : (o : Ordering) → ComesFirst l (members_of (match_ordering o ((k, v) ∷ e ∷ es) ((e.0, v) ∷ es) (e ∷ with_field k v es)))
    by_order Less = p
    by_order Equal = h
    by_order Greater = h

rising-with : (k : List ℕ) (v : Json) (es : Pairs) → AreRising (members_of es) → IsSoundJson v → AreRising (members_of (with_field k v es))
rising-with k v [] h s = (tt, s, tt)
rising-with k v (e ∷ es) h s = by_order (rising-with k v es h.2 s) (slice_cmp nat_cmp k e.0) refl
  where
    by_order : AreRising (members_of (with_field k v es)) → (o : Ordering) → slice_cmp nat_cmp k e.0 ≡ o → AreRising (members_of (match_ordering o ((k, v) ∷ e ∷ es) ((e.0, v) ∷ es) (e ∷ with_field k v es)))
    by_order r Less q = (q, s, h)
    by_order r Equal q = (h.0, s, h.2)
    by_order r Greater q = (comes_first-with e.0 k v es (greater_less k e.0 q) h.0, h.1, r)

-- ---- tuples, marks and entries of sound values

abbrev SoundValue : Option Json → Type 0
SoundValue None = Unit {0}
SoundValue (Some j) = IsSoundJson j

abbrev SoundTuple : Tuple → Type 0
SoundTuple [] = Unit {0}
SoundTuple (o ∷ os) = SoundValue o × SoundTuple os

abbrev SoundKept : Option Tuple → Type 0
SoundKept None = Unit {0}
SoundKept (Some t) = SoundTuple t

abbrev SoundMark : Mark → Type 0
SoundMark m = SoundTuple m.0 × SoundKept m.1

abbrev SoundCells : (cs : List Cell) → Marks cs → Type 0
SoundCells [] ms = Unit {0}
SoundCells (c ∷ cs) ms = SoundMark ms.0 × SoundCells cs ms.1

abbrev mutual
  SoundMarked : (l : Level) → Marked l → Type 0
  SoundMarked (level cs is) m = SoundCells cs m.0 × SoundInners is m.1

  SoundInners : (is : Inners) → MarkedInners is → Type 0
  SoundInners no_inner ms = Unit {0}
  SoundInners (inner a b r l is) ms = IfThere (SoundMarked l) ms.0 × SoundInners is ms.1

abbrev pub SoundEntries : List Entry → Type 0
SoundEntries [] = Unit {0}
SoundEntries (e ∷ es) = AreRising (members_of e.was) × SoundEntries es

abbrev pub SoundHeld : Held → Type 0
SoundHeld x = AreRising (members_of x.fields) × SoundEntries x.entries

abbrev Rises : Pairs → Type 0
Rises x = AreRising (members_of x)

there_sound : {A B : Type 0} (P : A → Type 0) (Q : B → Type 0) (f : A → B) (o : Option A) → ((y : A) → P y → Q (f y)) → IfThere P o → IfThere Q (there f o)
there_sound P Q f None g h = tt
there_sound P Q f (Some y) g h = g y h

-- ---- read

field_sound : (k : Name) (es : Pairs) → Rises es → SoundValue (field k es)
field_sound k [] h = tt
field_sound k (e ∷ es) h = by_test (field_sound k es h.2) (is_eq (slice_cmp nat_cmp k e.0))
  where
    by_test : SoundValue (field k es) → (b : Bool) → SoundValue (cond b (Some e.1) (field k es))
    by_test more true = h.1
    by_test more false = more

tuple_sound : (ns : List Name) (x : Pairs) → Rises x → SoundTuple (tuple_of ns x)
tuple_sound [] x h = tt
tuple_sound (n ∷ ns) x h = (field_sound n x h, tuple_sound ns x h)

here_sound : (ns at : List Name) (was : Pairs) (later : Option Tuple) → Rises was → SoundKept later → SoundKept (kept_here ns at was later)
here_sound ns [] was later h k = by_test (is_part ns was)
  where
    by_test : (b : Bool) → SoundKept (cond b (Some (tuple_of ns was)) later)
    by_test true = tuple_sound ns was h
    by_test false = k
here_sound ns (m ∷ at) was later h k = k

kept_sound : (ns : List Name) (es : List Entry) → SoundEntries es → SoundKept (kept_of ns es)
kept_sound ns [] h = tt
kept_sound ns (e ∷ es) h = here_sound ns e.at e.was (kept_of ns es) h.0 (kept_sound ns es h.1)

by_sound : (n : Name) (at : List Name) (was : Pairs) (later : List Entry) → Rises was → SoundEntries later → SoundEntries (inside_by n at was later)
by_sound n [] was later h k = k
by_sound n (m ∷ at) was later h k = by_test (bytes_eq m n)
  where
    by_test : (b : Bool) → SoundEntries (cond b (record { at = at; was = was } ∷ later) later)
    by_test true = (h, k)
    by_test false = k

inside_sound : (n : Name) (es : List Entry) → SoundEntries es → SoundEntries (inside n es)
inside_sound n [] h = tt
inside_sound n (e ∷ es) h = by_sound n e.at e.was (inside n es) h.0 (inside_sound n es h.1)

object_in_sound : (o : Option Json) → SoundValue o → IfThere Rises (object_in o)
object_in_sound None h = tt
object_in_sound (Some null) h = tt
object_in_sound (Some (boolean b)) h = tt
object_in_sound (Some (whole z)) h = tt
object_in_sound (Some (text s)) h = tt
object_in_sound (Some (list js)) h = tt
object_in_sound (Some (object ms)) h = subst AreRising (sym (members_pairs ms)) h

read_cells_sound : (d : Side) (cs : List Cell) (x : Pairs) (es : List Entry) → Rises x → SoundEntries es → SoundCells cs (read_cells d cs x es)
read_cells_sound d [] x es h k = tt
read_cells_sound d (c ∷ cs) x es h k =
    ((tuple_sound (names d c) x h, kept_sound (names (other d) c) es k), read_cells_sound d cs x es h k)

mutual
  read_sound : (d : Side) (l : Level) (x : Pairs) (es : List Entry) → Rises x → SoundEntries es → SoundMarked l (read d l x es)
  read_sound d (level cs is) x es h k = (read_cells_sound d cs x es h k, read_inners_sound d is x es h k)

  read_inners_sound : (d : Side) (is : Inners) (x : Pairs) (es : List Entry) → Rises x → SoundEntries es → SoundInners is (read_inners d is x es)
  read_inners_sound d no_inner x es h k = tt
  read_inners_sound d (inner a b r l is) x es h k = (
    there_sound Rises (SoundMarked l) (λ (y : Pairs). read d l y (inside (named (other d) a b) es)) (object_in (field (named d a b) x)) (λ y g. read_sound d l y (inside (named (other d) a b) es) g (inside_sound (named (other d) a b) es k)) (object_in_sound (field (named d a b) x) (field_sound (named d a b) x h)),
    read_inners_sound d is x es h k,
  )

-- ---- crossed from the hub

quotient_fits : (k : ℕ) (z : ℤ) → FitsSigned w64 z → FitsSigned w64 (quotient k z)
quotient_fits k (pos n) h = omega (arith, div-le_self n k)
quotient_fits k (negsuc n) h = omega (arith, div-le_self n k)

joined_sound : (i j : Json) → SoundKept (joined i j)
joined_sound null j = tt
joined_sound (boolean b) j = tt
joined_sound (whole z) j = tt
joined_sound (list js) j = tt
joined_sound (object ms) j = tt
joined_sound (text a) null = tt
joined_sound (text a) (boolean b) = tt
joined_sound (text a) (whole z) = tt
joined_sound (text a) (list js) = tt
joined_sound (text a) (object ms) = tt
joined_sound (text a) (text b) = by_test (has_colon b)
  where
    by_test : (t : Bool) → SoundKept (cond t None (Some (one (text (a ++ 58 ∷ b)))))
    by_test true = tt
    by_test false = (tt, tt)

partner_sound : (j : Json) (ps : List (Json × Json)) → AreSoundPairs ps → SoundValue (partner hub j ps)
partner_sound j [] h = tt
partner_sound j (p ∷ ps) h = by_test (partner_sound j ps h.2) (json_same p.1 j)
  where
    by_test : SoundValue (partner hub j ps) → (b : Bool) → SoundValue (cond b (Some p.0) (partner hub j ps))
    by_test more true = h.0
    by_test more false = more

one_sound : (o : Option Json) → SoundValue o → SoundKept (option_map one o)
one_sound None h = tt
one_sound (Some j) h = (h, tt)

divided_sound : (k : ℕ) (j : Json) → IsSoundJson j → SoundKept (divided k j)
divided_sound k null h = tt
divided_sound k (boolean b) h = tt
divided_sound k (text s) h = tt
divided_sound k (list js) h = tt
divided_sound k (object ms) h = tt
divided_sound k (whole z) h = by_test (int_eq (pos k *ℤ quotient k z) z)
  where
    by_test : (b : Bool) → SoundKept (cond b (Some (one (whole (quotient k z)))) None)
    by_test true = (quotient_fits k z h, tt)
    by_test false = tt

to_spoke_sound : (k : Kind) → IsSoundKind k → (t : Tuple) → SoundTuple t → SoundKept (to_spoke_tuple k t)
to_spoke_sound same h t p = p
to_spoke_sound spoke_only h [] p = (tt, tt)
to_spoke_sound spoke_only h (o ∷ os) p = tt
to_spoke_sound hub_only h [] p = tt
to_spoke_sound hub_only h (None ∷ []) p = tt
to_spoke_sound hub_only h (None ∷ o ∷ os) p = tt
to_spoke_sound hub_only h (Some j ∷ os) p = tt
to_spoke_sound split h [] p = tt
to_spoke_sound split h (None ∷ []) p = tt
to_spoke_sound split h (None ∷ None ∷ []) p = (tt, tt)
to_spoke_sound split h (None ∷ None ∷ o ∷ os) p = tt
to_spoke_sound split h (None ∷ Some j ∷ os) p = tt
to_spoke_sound split h (Some i ∷ []) p = tt
to_spoke_sound split h (Some i ∷ None ∷ os) p = tt
to_spoke_sound split h (Some i ∷ Some j ∷ []) p = joined_sound i j
to_spoke_sound split h (Some i ∷ Some j ∷ o ∷ os) p = tt
to_spoke_sound (table ps x y) h [] p = tt
to_spoke_sound (table ps x y) h (None ∷ []) p = (tt, tt)
to_spoke_sound (table ps x y) h (None ∷ o ∷ os) p = tt
to_spoke_sound (table ps x y) h (Some j ∷ []) p = one_sound (partner hub j ps) (partner_sound j ps h.0)
to_spoke_sound (table ps x y) h (Some j ∷ o ∷ os) p = tt
to_spoke_sound (scale k) h [] p = tt
to_spoke_sound (scale k) h (None ∷ []) p = (tt, tt)
to_spoke_sound (scale k) h (None ∷ o ∷ os) p = tt
to_spoke_sound (scale k) h (Some j ∷ []) p = divided_sound k j p.0
to_spoke_sound (scale k) h (Some j ∷ o ∷ os) p = tt

blank_sound : (j : Json) → IsSoundJson j → SoundTuple (blank j)
blank_sound null h = (tt, tt)
blank_sound (boolean b) h = (h, tt)
blank_sound (whole z) h = (h, tt)
blank_sound (text s) h = (h, tt)
blank_sound (list js) h = (h, tt)
blank_sound (object ms) h = (h, tt)

rounded_sound : (k : ℕ) (t : Tuple) → SoundTuple t → SoundTuple (rounded k t)
rounded_sound k [] p = (tt, tt)
rounded_sound k (None ∷ os) p = (tt, tt)
rounded_sound k (Some null ∷ os) p = (tt, tt)
rounded_sound k (Some (boolean b) ∷ os) p = (tt, tt)
rounded_sound k (Some (text s) ∷ os) p = (tt, tt)
rounded_sound k (Some (list js) ∷ os) p = (tt, tt)
rounded_sound k (Some (object ms) ∷ os) p = (tt, tt)
rounded_sound k (Some (whole z) ∷ []) p = (quotient_fits k z p.0, tt)
rounded_sound k (Some (whole z) ∷ o ∷ os) p = (tt, tt)

shown_sound : (k : Kind) → IsSoundKind k → (t : Tuple) → SoundTuple t → SoundTuple (shown hub k t)
shown_sound same h t p = p
shown_sound spoke_only h t p = (tt, tt)
shown_sound hub_only h t p = tt
shown_sound split h t p = (tt, tt)
shown_sound (table ps x y) h t p = blank_sound x h.1
shown_sound (scale k) h t p = rounded_sound k t p

as_sound : (k : Kind) → IsSoundKind k → (t : Tuple) (u : Option Tuple) → SoundTuple t → SoundKept u → SoundMark (crossed_as hub k u t)
as_sound k h t None p q = (shown_sound k h t p, p)
as_sound k h t (Some u) p q = (q, tt)

mark_sound : (k : Kind) → IsSoundKind k → (t : Tuple) (u : Option Tuple) → SoundTuple t → SoundKept u → SoundMark (crossed_mark hub k t u)
mark_sound k h t None p q = as_sound k h t (matched hub k t) p (to_spoke_sound k h t p)
mark_sound k h t (Some u) p q = (q, tt)

crossed_cells_sound : (cs : List Cell) (ms : Marks cs) → AreSoundCells cs → SoundCells cs ms → SoundCells cs (crossed_marks hub cs ms)
crossed_cells_sound [] ms h p = tt
crossed_cells_sound (c ∷ cs) ms h p = (mark_sound c.kind h.0 ms.0.0 ms.0.1 p.0.0 p.0.1, crossed_cells_sound cs ms.1 h.1 p.1)

mutual
  crossed_sound : (l : Level) (m : Marked l) → HasSoundTables l → SoundMarked l m → SoundMarked l (crossed hub l m)
  crossed_sound (level cs is) m h p = (crossed_cells_sound cs m.0 h.0 p.0, crossed_inners_sound is m.1 h.1 p.1)

  crossed_inners_sound : (is : Inners) (ms : MarkedInners is) → InnersHaveSoundTables is → SoundInners is ms → SoundInners is (crossed_inners hub is ms)
  crossed_inners_sound no_inner ms h p = tt
  crossed_inners_sound (inner a b r l is) ms h p =
      (there_sound (SoundMarked l) (SoundMarked l) (crossed hub l) ms.0 (λ y g. crossed_sound l y h.0 g) p.0, crossed_inners_sound is ms.1 h.1 p.1)

-- ---- written

put_sound : (ns : List Name) (os : Tuple) (ps : Pairs) → SoundTuple os → Rises ps → Rises (put ns os ps)
put_sound [] os ps h r = r
put_sound (n ∷ ns) [] ps h r = r
put_sound (n ∷ ns) (None ∷ os) ps h r = put_sound ns os ps h.1 r
put_sound (n ∷ ns) (Some j ∷ os) ps h r = put_sound ns os (with_field n j ps) h.1 (rising-with n j ps r h.0)

append_sound : (os ps : Tuple) → SoundTuple os → SoundTuple ps → SoundTuple (os ++ ps)
append_sound [] ps h k = k
append_sound (o ∷ os) ps h k = (h.0, append_sound os ps h.1 k)

values_sound : (cs : List Cell) (ms : Marks cs) (os : Tuple) → SoundCells cs ms → SoundTuple os → SoundTuple (cells_values cs ms os)
values_sound [] ms os h k = k
values_sound (c ∷ cs) ms os h k = append_sound ms.0.0 (cells_values cs ms.1 os) h.0.0 (values_sound cs ms.1 os h.1 k)

as_field_sound : (o : Option Pairs) → IfThere Rises o → SoundValue (as_field o)
as_field_sound None h = tt
as_field_sound (Some ps) h = h

mutual
  body_sound : (l : Level) (m : Marked l) → SoundMarked l m → Rises (body spoke l m)
  body_sound (level cs is) m h =
      put_sound (cells_names spoke cs (inner_names spoke is)) (cells_values cs m.0 (inner_values spoke is m.1)) [] (values_sound cs m.0 (inner_values spoke is m.1) h.0 (inner_values_sound is m.1 h.1)) tt

  inner_values_sound : (is : Inners) (ms : MarkedInners is) → SoundInners is ms → SoundTuple (inner_values spoke is ms)
  inner_values_sound no_inner ms h = tt
  inner_values_sound (inner a b r l is) ms h =
      (as_field_sound (there (body spoke l) ms.0) (there_sound (SoundMarked l) Rises (body spoke l) ms.0 (λ y g. body_sound l y g) h.0), inner_values_sound is ms.1 h.1)

entry_sound : (ns : List Name) (o : Option Tuple) (es : List Entry) → SoundKept o → SoundEntries es → SoundEntries (entry_of ns o es)
entry_sound ns None es h k = k
entry_sound ns (Some u) es h k = (put_sound ns u [] h tt, k)

cell_entries_sound : (cs : List Cell) (ms : Marks cs) (es : List Entry) → SoundCells cs ms → SoundEntries es → SoundEntries (cell_entries spoke cs ms es)
cell_entries_sound [] ms es h k = k
cell_entries_sound (c ∷ cs) ms es h k = entry_sound (names (other spoke) c) ms.0.1 (cell_entries spoke cs ms.1 es) h.0.1 (cell_entries_sound cs ms.1 es h.1 k)

under_sound : (n : Name) (es fs : List Entry) → SoundEntries es → SoundEntries fs → SoundEntries (map (under n) es ++ fs)
under_sound n [] fs h k = k
under_sound n (e ∷ es) fs h k = (h.0, under_sound n es fs h.1 k)

within_sound : {A : Type 0} (P : A → Type 0) (n : Name) (f : A → List Entry) (o : Option A) (es : List Entry) → ((x : A) → P x → SoundEntries (f x)) → IfThere P o → SoundEntries es → SoundEntries (with_inside n f o es)
within_sound P n f None es g h k = k
within_sound P n f (Some x) es g h k = under_sound n (f x) es (g x h) k

mutual
  entries_sound : (l : Level) (m : Marked l) → SoundMarked l m → SoundEntries (all_entries spoke l m)
  entries_sound (level cs is) m h = cell_entries_sound cs m.0 (inner_entries spoke is m.1) h.0 (inner_entries_sound is m.1 h.1)

  inner_entries_sound : (is : Inners) (ms : MarkedInners is) → SoundInners is ms → SoundEntries (inner_entries spoke is ms)
  inner_entries_sound no_inner ms h = tt
  inner_entries_sound (inner a b r l is) ms h =
      within_sound (SoundMarked l) (named (other spoke) a b) (all_entries spoke l) ms.0 (inner_entries spoke is ms.1) (λ y g. entries_sound l y g) h.0 (inner_entries_sound is ms.1 h.1)

with_entry_sound : (e : Entry) (fs : List Entry) → Rises e.was → SoundEntries fs → SoundEntries (with_entry e fs)
with_entry_sound e [] h k = (h, tt)
with_entry_sound e (f ∷ fs) h k = by_test (with_entry_sound e fs h k.1) (is_before e f)
  where
    by_test : SoundEntries (with_entry e fs) → (b : Bool) → SoundEntries (cond b (e ∷ f ∷ fs) (f ∷ with_entry e fs))
    by_test more true = (h, k)
    by_test more false = (k.0, more)

in_order_sound : (es : List Entry) → SoundEntries es → SoundEntries (in_order es)
in_order_sound [] h = tt
in_order_sound (e ∷ es) h = with_entry_sound e (in_order es) h.0 (in_order_sound es h.1)

pub other_sound : (l : Level) (x : Held) → HasSoundTables l → SoundHeld x → SoundHeld (other_object hub l x)
other_sound l x h p =
    let m = crossed_sound l (marks_of hub l x) h (read_sound hub l x.fields x.entries p.0 p.1) in
    (body_sound l (crossed hub l (marks_of hub l x)) m, in_order_sound (all_entries spoke l (crossed hub l (marks_of hub l x))) (entries_sound l (crossed hub l (marks_of hub l x)) m))

-- ---- the text of entries

path_sound : (ns : List Name) → AreSoundItems (items_of (map text ns))
path_sound [] = tt
path_sound (n ∷ ns) = (tt, path_sound ns)

pub kept_json_sound : (es : List Entry) → SoundEntries es → AreSoundItems (items_of (map entry_json es))
kept_json_sound [] h = tt
kept_json_sound (e ∷ es) h = ((refl, path_sound e.at, (tt, h.0, tt)), kept_json_sound es h.1)

pub spelled_sound : (es : List Entry) → AreSoundItems (items_of (map entry_json es)) → SoundEntries es
spelled_sound [] h = tt
spelled_sound (e ∷ es) h = (h.0.2.1, spelled_sound es h.1)
