-- A level taken over is what its cells and then its inner objects give.
use Rattle.std.proofs.Common.{◌≡◌, suc, List, [], ◌∷◌, ◌++◌, length, true, Option, Some, None, refl, ap, ap₂, sym, subst, ◌∙◌, arith}
use Rattle.kj_value.specs.Json.{Json}
use Rattle.kj_value.specs.Fields.{Pairs, field, with_field}
use Rattle.kept_entries.specs.declared.entry.Entry.{Entry}
use Rattle.hub_cells.specs.Side.{Side, other}
use Rattle.hub_cells.specs.Cell.{Tuple}
use Rattle.hub_cells.specs.LevelDepth.{level_depth, inners_depth}
use Rattle.hub_cells.specs.Level.{Name, Cell, Level, level, Inners, no_inner, inner, cells_in, inners_in, names, named, cells_names, inner_names, Fits}
use Rattle.kept_entries.specs.Entry.{are_in_order}
use Rattle.keep_laws.specs.Entry.{put, inside, in_order}
use Rattle.keep_laws.specs.Marked.{Marks, Marked, MarkedInners, AreGood, there, crossed, crossed_marks, crossed_inners}
use Rattle.keep_laws.specs.Body.{object_in, as_field, read, read_cells, read_inners, cells_values, body, inner_values, entry_of, cell_entries, with_inside, all_entries, inner_entries}
use Rattle.keep_laws.specs.Settle.{living_marks, settled_marks, settled_inners, IsAllowed, CellsAllowed, InnersAllowed, converted}
use Rattle.keep_laws.specs.Whole.{marks_of}
use Rattle.keep_bodies.specs.Held.{held}
use Rattle.keep_laws.proofs.Fields.{allowed_length}
use Rattle.keep_laws.proofs.LawA.{other_other, goods}
use Rattle.keep_laws.proofs.Dead.{settled_good}
use Rattle.keep_bodies.specs.inner.Over.{marks_over, inner_marks, inner_fields, inner_kept, cell_fields, cell_kept, mark_over}

put_more : (ns ms : List Name) (os qs : Tuple) (ps : Pairs) → length os ≡ length ns → put (ns ++ ms) (os ++ qs) ps ≡ put ms qs (put ns os ps)
put_more [] ms [] qs ps e = refl
put_more [] ms (o ∷ os) qs ps e = absurd (omega (arith, e))
put_more (n ∷ ns) ms [] qs ps e = absurd (omega (arith, e))
put_more (n ∷ ns) ms (None ∷ os) qs ps e = put_more ns ms os qs ps (omega (arith, e))
put_more (n ∷ ns) ms (Some j ∷ os) qs ps e = put_more ns ms os qs (with_field n j ps) (omega (arith, e))

abbrev cells_over : Side → (cs : List Cell) → Pairs → List Entry → Marks cs
cells_over d cs x es = crossed_marks d cs (living_marks d cs (read_cells d cs x es))

abbrev inners_over : Side → (is : Inners) → Pairs → List Entry → MarkedInners is
inners_over d is x es = crossed_inners d is (settled_inners d is (read_inners d is x es))

-- ---- fields

cells_put : (d : Side) (cs : List Cell) (x : Pairs) (es : List Entry) (ns : List Name) (os : Tuple) (out : Pairs) → AreGood (other d) cs (cells_over d cs x es) → put (cells_names (other d) cs ns) (cells_values cs (cells_over d cs x es) os) out ≡ put ns os (cell_fields d cs x es out)
cells_put d [] x es ns os out g = refl
cells_put d (c ∷ cs) x es ns os out g =
    let mark = mark_over d c x es in
    put_more (names (other d) c) (cells_names (other d) cs ns) mark.0 (cells_values cs (cells_over d cs x es) os) out (allowed_length (other d) c mark.0 g.0.0)
    ∙ cells_put d cs x es ns os (put (names (other d) c) mark.0 out) g.1

there_three : {A B C D : Type 0} (f : C → D) (g : B → C) (h : A → B) (o : Option A) → there f (there g (there h o)) ≡ there (λ (x : A). f (g (h x))) o
there_three f g h None = refl
there_three f g h (Some x) = refl

inner_is : (d : Side) (l : Level) (o : Option Json) (es : List Entry) → there (crossed d l) (there (settled_marks d l) (there (λ (y : Pairs). read d l y es) (object_in o))) ≡ inner_marks d l o es
inner_is d l o es = there_three (crossed d l) (settled_marks d l) (λ (y : Pairs). read d l y es) (object_in o)

inners_put : (d : Side) (is : Inners) (x : Pairs) (es : List Entry) (out : Pairs) → put (inner_names (other d) is) (inner_values (other d) is (inners_over d is x es)) out ≡ inner_fields d is x es out
inners_put d no_inner x es out = refl
inners_put d (inner a b r l is) x es out =
    let n = named (other d) a b in
    let o = field (named d a b) x in
    let first = there (crossed d l) (there (settled_marks d l) (there (λ (y : Pairs). read d l y (inside n es)) (object_in o))) in
    let value = as_field (there (body (other d) l) first) in
    put_more (n ∷ []) (inner_names (other d) is) (value ∷ []) (inner_values (other d) is (inners_over d is x es)) out refl
    ∙ inners_put d is x es (put (n ∷ []) (value ∷ []) out)
    ∙ ap (λ (m : Option (Marked l)). inner_fields d is x es (put (n ∷ []) (as_field (there (body (other d) l) m) ∷ []) out)) (inner_is d l o (inside n es))

over_fields : (d : Side) (l : Level) (x : Pairs) (es : List Entry) → Fits l → IsAllowed d l (read d l x es) → inner_fields d (inners_in l) x es (cell_fields d (cells_in l) x es []) ≡ body (other d) l (marks_over d l x es)
over_fields d (level cs is) x es f a =
    let good = settled_good d (level cs is) (read d (level cs is) x es) a in
    let across = goods d cs (living_marks d cs (read_cells d cs x es)) f.0 good.0 in
    sym (inners_put d is x es (cell_fields d cs x es [])) ∙ sym (cells_put d cs x es (inner_names (other d) is) (inner_values (other d) is (inners_over d is x es)) [] across)

-- the same where the cells and the inner objects are given
pub level_fields : (d : Side) (l : Level) (cs : List Cell) (is : Inners) (x : Pairs) (es : List Entry) (fs out : Pairs) → cs ≡ cells_in l → is ≡ inners_in l → Fits l → IsAllowed d l (read d l x es) → out ≡ cell_fields d cs x es [] → fs ≡ inner_fields d is x es out → fs ≡ body (other d) l (marks_over d l x es)
level_fields d l cs is x es fs out p q f a h k =
    k ∙ ap (inner_fields d is x es) (h ∙ ap (λ (ks : List Cell). cell_fields d ks x es []) p) ∙ ap (λ (js : Inners). inner_fields d js x es (cell_fields d (cells_in l) x es [])) q ∙ over_fields d l x es f a

-- ---- entries

entry_before : (ns : List Name) (o : Option Tuple) (xs ys : List Entry) → entry_of ns o (xs ++ ys) ≡ entry_of ns o xs ++ ys
entry_before ns None xs ys = refl
entry_before ns (Some u) xs ys = refl

cells_kept : (d : Side) (cs : List Cell) (x : Pairs) (es later : List Entry) → cell_entries (other d) cs (cells_over d cs x es) later ≡ cell_kept d cs x es ++ later
cells_kept d [] x es later = refl
cells_kept d (c ∷ cs) x es later =
    let o = (mark_over d c x es).1 in
    ap (entry_of (names (other (other d)) c) o) (cells_kept d cs x es later) ∙ ap (λ (e : Side). entry_of (names e c) o (cell_kept d cs x es ++ later)) (other_other d) ∙ entry_before (names d c) o (cell_kept d cs x es) later

inners_kept : (d : Side) (is : Inners) (x : Pairs) (es : List Entry) → inner_entries (other d) is (inners_over d is x es) ≡ inner_kept d is x es
inners_kept d no_inner x es = refl
inners_kept d (inner a b r l is) x es =
    let n = named (other d) a b in
    let o = field (named d a b) x in
    let first = there (crossed d l) (there (settled_marks d l) (there (λ (y : Pairs). read d l y (inside n es)) (object_in o))) in
    ap (with_inside (named (other (other d)) a b) (all_entries (other d) l) first) (inners_kept d is x es)
    ∙ ap (λ (e : Side). with_inside (named e a b) (all_entries (other d) l) first (inner_kept d is x es)) (other_other d)
    ∙ ap (λ (m : Option (Marked l)). with_inside (named d a b) (all_entries (other d) l) m (inner_kept d is x es)) (inner_is d l o (inside n es))

over_entries : (d : Side) (l : Level) (x : Pairs) (es : List Entry) → cell_kept d (cells_in l) x es ++ inner_kept d (inners_in l) x es ≡ all_entries (other d) l (marks_over d l x es)
over_entries d (level cs is) x es =
    sym (cells_kept d cs x es (inner_entries (other d) is (inners_over d is x es)) ∙ ap (λ (fs : List Entry). cell_kept d cs x es ++ fs) (inners_kept d is x es))

pub level_entries : (d : Side) (l : Level) (cs : List Cell) (is : Inners) (x : Pairs) (es fs out : List Entry) → cs ≡ cells_in l → is ≡ inners_in l → out ≡ cell_kept d cs x es → fs ≡ out ++ inner_kept d is x es → fs ≡ all_entries (other d) l (marks_over d l x es)
level_entries d l cs is x es fs out p q h k =
    k ∙ ap₂ (λ (a b : List Entry). a ++ b) (h ∙ ap (λ (ks : List Cell). cell_kept d ks x es) p) (ap (λ (js : Inners). inner_kept d js x es) q) ∙ over_entries d l x es

-- ---- what the parts of a level are allowed

pub cells_allowed : (d : Side) (l : Level) (cs : List Cell) (x : Pairs) (es : List Entry) → cs ≡ cells_in l → IsAllowed d l (read d l x es) → CellsAllowed d cs (read_cells d cs x es)
cells_allowed d (level ks is) cs x es p a = subst (λ (js : List Cell). CellsAllowed d js (read_cells d js x es)) (sym p) a.0

pub inners_allowed : (d : Side) (l : Level) (is : Inners) (x : Pairs) (es : List Entry) → is ≡ inners_in l → IsAllowed d l (read d l x es) → InnersAllowed d is (read_inners d is x es)
inners_allowed d (level ks js) is x es p a = subst (λ (hs : Inners). InnersAllowed d hs (read_inners d hs x es)) (sym p) a.1

pub depth_is : (l : Level) (is : Inners) → is ≡ inners_in l → suc (inners_depth is) ≡ level_depth l
depth_is (level ks js) is p = ap (λ (hs : Inners). suc (inners_depth hs)) p

-- ---- the whole object

pub allowed_left : (d : Side) (l : Level) (x : Pairs) (es left : List Entry) → left ≡ es → IsAllowed d l (marks_of d l (held x es)) → IsAllowed d l (read d l x left)
allowed_left d l x es left e h = subst (λ (gs : List Entry). IsAllowed d l (read d l x gs)) (sym e) h

pub converted_is : (d : Side) (l : Level) (x fs : Pairs) (es left all ks : List Entry) → left ≡ es → fs ≡ body (other d) l (marks_over d l x left) → all ≡ all_entries (other d) l (marks_over d l x left) → ks ≡ in_order all → held fs ks ≡ converted d l (held x es)
converted_is d l x fs es left all ks e p q h =
    ap₂ held (p ∙ ap (λ (gs : List Entry). body (other d) l (marks_over d l x gs)) e) (h ∙ ap in_order (q ∙ ap (λ (gs : List Entry). all_entries (other d) l (marks_over d l x gs)) e))

pub made_in_order : (d : Side) (l : Level) (x : Pairs) (es left all : List Entry) → left ≡ es → all ≡ all_entries (other d) l (marks_over d l x left) → are_in_order (converted d l (held x es)).entries ≡ true → are_in_order (in_order all) ≡ true
made_in_order d l x es left all e q h =
    subst (λ (gs : List Entry). are_in_order gs ≡ true) (sym (ap in_order (q ∙ ap (λ (gs : List Entry). all_entries (other d) l (marks_over d l x gs)) e))) h
