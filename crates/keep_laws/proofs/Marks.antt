-- What is so of a level's marks whatever is kept beside its tuples, and of objects made of good marks.
use Rattle.std.proofs.Common.{◌≡◌, List, [], ◌∷◌, ◌++◌, map, Option, Some, None, refl, ap, ap₂, sym, subst, ◌∙◌}
use Rattle.kj_value.specs.Json.{Json}
use Rattle.kj_value.specs.Fields.{Pairs, field}
use Rattle.hub_cells.specs.Side.{Side, spoke, hub, other}
use Rattle.hub_cells.specs.Cell.{Tuple}
use Rattle.hub_cells.specs.Level.{Name, Cell, names, named, tuple_of, Level, level, Inners, no_inner, inner, cells_names, inner_names, NoNameTwice}
use Rattle.hub_fills.specs.Fills.{Fills, fills, Within, nothing_within, within}
use Rattle.kept_entries.specs.declared.entry.Entry.{Entry}
use Rattle.keep_laws.specs.Entry.{put, inside, under, in_order}
use Rattle.keep_laws.specs.Marked.{Marks, Marked, MarkedInners, IsGood, IfThere, there, crossed}
use Rattle.keep_laws.specs.Body.{object_in, read_cells, read, read_inners, cells_values, as_field, body, inner_values, entry_of, cell_entries, with_inside, all_entries, inner_entries, entries}
use Rattle.keep_laws.specs.Settle.{settled_marks, settled_inners, living_marks, converted}
use Rattle.keep_laws.specs.Complete.{filled_tuple, filled_marks, filled, filled_inners, completed, completed_over, IsFilled, CellsFilled, IsComplete, InnersComplete}
use Rattle.keep_laws.specs.Whole.{Held, Ready, IsWholeOnSide, marks_of, object_of}
use Rattle.keep_laws.specs.Known.{IsKnown}
use Rattle.keep_laws.specs.Notes.{with_entries}
use Rattle.keep_laws.proofs.Back.{marks_back}
use Rattle.keep_laws.proofs.Bodies.{body_read}
use Rattle.keep_laws.proofs.Completing.{complete_same}

-- an object made of good marks is whole
pub object_whole : (d : Side) (l : Level) (m : Marked l) → Ready l → IsGood d l m → IsWholeOnSide d l (object_of d l m)
object_whole d l m r g =
    let back = marks_back d l m r g in
    record { good = subst (IsGood d l) (sym back) g; nothing_else = ap (object_of d l) back }

-- ---- that each name is there doesn't look at entries

cells_any : (cs : List Cell) (vs : List (Option Json)) (x : Pairs) (es fs : List Entry) → CellsFilled cs vs (read_cells hub cs x es) → CellsFilled cs vs (read_cells hub cs x fs)
cells_any [] vs x es fs h = tt
cells_any (c ∷ cs) [] x es fs h = tt
cells_any (c ∷ cs) (v ∷ vs) x es fs h = (h.0, cells_any cs vs x es fs h.1)

if_any : {A B : Type 0} (P : B → Type 0) (f g : A → B) → ((y : A) → P (f y) → P (g y)) → (o : Option A) → IfThere P (there f o) → IfThere P (there g o)
if_any P f g h None k = tt
if_any P f g h (Some y) k = h y k

mutual
  pub complete_any : (l : Level) (f : Fills) (x : Pairs) (es fs : List Entry) → IsComplete l f (read hub l x es) → IsComplete l f (read hub l x fs)
  complete_any (level cs is) (fills vs gs) x es fs h = (cells_any cs vs x es fs h.0, inners_any is gs x es fs h.1)

  inners_any : (is : Inners) (gs : Within) (x : Pairs) (es fs : List Entry) → InnersComplete is gs (read_inners hub is x es) → InnersComplete is gs (read_inners hub is x fs)
  inners_any no_inner gs x es fs h = tt
  inners_any (inner a b r l is) nothing_within x es fs h = tt
  inners_any (inner a b r l is) (within g gs) x es fs h = (
    if_any (IsComplete l g) (λ (y : Pairs). read hub l y (inside a es)) (λ (y : Pairs). read hub l y (inside a fs)) (λ y k. complete_any l g y (inside a es) (inside a fs) k) (object_in (field b x)) h.0,
    inners_any is gs x es fs h.1,
  )

-- ---- nor does a body

plain_values_any : (cs : List Cell) (x : Pairs) (es fs : List Entry) (os ps : Tuple) → os ≡ ps → cells_values cs (read_cells hub cs x es) os ≡ cells_values cs (read_cells hub cs x fs) ps
plain_values_any [] x es fs os ps e = e
plain_values_any (c ∷ cs) x es fs os ps e = ap (λ (us : Tuple). tuple_of (names hub c) x ++ us) (plain_values_any cs x es fs os ps e)

plain_field_any : {M : Type 0} (b : M → Pairs) (f h : Pairs → M) → ((y : Pairs) → b (f y) ≡ b (h y)) → (o : Option Pairs) → as_field (there b (there f o)) ≡ as_field (there b (there h o))
plain_field_any b f h e None = refl
plain_field_any b f h e (Some y) = ap (λ (p : Pairs). as_field (Some p)) (e y)

filled_field_any : {M : Type 0} (b : M → Pairs) (g : M → M) (f h : Pairs → M) → ((y : Pairs) → b (g (f y)) ≡ b (g (h y))) → (o : Option Pairs) → as_field (there b (there g (there f o))) ≡ as_field (there b (there g (there h o)))
filled_field_any b g f h e None = refl
filled_field_any b g f h e (Some y) = ap (λ (p : Pairs). as_field (Some p)) (e y)

mutual
  plain_body_any : (l : Level) (x : Pairs) (es fs : List Entry) → body hub l (read hub l x es) ≡ body hub l (read hub l x fs)
  plain_body_any (level cs is) x es fs =
      ap (λ (os : Tuple). put (cells_names hub cs (inner_names hub is)) os []) (plain_values_any cs x es fs (inner_values hub is (read_inners hub is x es)) (inner_values hub is (read_inners hub is x fs)) (plain_any is x es fs))

  plain_any : (is : Inners) (x : Pairs) (es fs : List Entry) → inner_values hub is (read_inners hub is x es) ≡ inner_values hub is (read_inners hub is x fs)
  plain_any no_inner x es fs = refl
  plain_any (inner a b r l is) x es fs =
      ap₂ (λ (o : Option Json) (os : Tuple). o ∷ os) (plain_field_any (body hub l) (λ (y : Pairs). read hub l y (inside a es)) (λ (y : Pairs). read hub l y (inside a fs)) (λ y. plain_body_any l y (inside a es) (inside a fs)) (object_in (field b x))) (plain_any is x es fs)

-- nor does a completed one

values_any : (cs : List Cell) (vs : List (Option Json)) (x : Pairs) (es fs : List Entry) (os ps : Tuple) → os ≡ ps → cells_values cs (filled_marks cs vs (read_cells hub cs x es)) os ≡ cells_values cs (filled_marks cs vs (read_cells hub cs x fs)) ps
values_any [] vs x es fs os ps e = e
values_any (c ∷ cs) [] x es fs os ps e = plain_values_any (c ∷ cs) x es fs os ps e
values_any (c ∷ cs) (v ∷ vs) x es fs os ps e =
    ap (λ (us : Tuple). filled_tuple v (tuple_of (names hub c) x) ++ us) (values_any cs vs x es fs os ps e)

mutual
  pub body_any : (l : Level) (f : Fills) (x : Pairs) (es fs : List Entry) → body hub l (filled l f (read hub l x es)) ≡ body hub l (filled l f (read hub l x fs))
  body_any (level cs is) (fills vs gs) x es fs =
      ap (λ (os : Tuple). put (cells_names hub cs (inner_names hub is)) os []) (values_any cs vs x es fs (inner_values hub is (filled_inners is gs (read_inners hub is x es))) (inner_values hub is (filled_inners is gs (read_inners hub is x fs))) (inner_values_any is gs x es fs))

  inner_values_any : (is : Inners) (gs : Within) (x : Pairs) (es fs : List Entry) → inner_values hub is (filled_inners is gs (read_inners hub is x es)) ≡ inner_values hub is (filled_inners is gs (read_inners hub is x fs))
  inner_values_any no_inner gs x es fs = refl
  inner_values_any (inner a b r l is) nothing_within x es fs = plain_any (inner a b r l is) x es fs
  inner_values_any (inner a b r l is) (within g gs) x es fs =
      ap₂ (λ (o : Option Json) (os : Tuple). o ∷ os) (filled_field_any (body hub l) (filled l g) (λ (y : Pairs). read hub l y (inside a es)) (λ (y : Pairs). read hub l y (inside a fs)) (λ y. body_any l g y (inside a es) (inside a fs)) (object_in (field b x))) (inner_values_any is gs x es fs)

-- ---- filling leaves the entries

cell_entries_filled : (cs : List Cell) (vs : List (Option Json)) (ms : Marks cs) (es fs : List Entry) → es ≡ fs → cell_entries hub cs (filled_marks cs vs ms) es ≡ cell_entries hub cs ms fs
cell_entries_filled [] vs ms es fs e = e
cell_entries_filled (c ∷ cs) [] ms es fs e = ap (cell_entries hub (c ∷ cs) ms) e
cell_entries_filled (c ∷ cs) (v ∷ vs) ms es fs e = ap (entry_of (names spoke c) ms.0.1) (cell_entries_filled cs vs ms.1 es fs e)

one_filled : {M : Type 0} (n : Name) (a : M → List Entry) (g : M → M) → ((m : M) → a (g m) ≡ a m) → (o : Option M) (es fs : List Entry) → es ≡ fs → with_inside n a (there g o) es ≡ with_inside n a o fs
one_filled n a g h None es fs e = e
one_filled n a g h (Some m) es fs e = ap₂ (λ (xs ys : List Entry). map (under n) xs ++ ys) (h m) e

mutual
  pub entries_filled : (l : Level) (f : Fills) (m : Marked l) → all_entries hub l (filled l f m) ≡ all_entries hub l m
  entries_filled (level cs is) (fills vs gs) m =
      cell_entries_filled cs vs m.0 (inner_entries hub is (filled_inners is gs m.1)) (inner_entries hub is m.1) (inner_entries_filled is gs m.1)

  inner_entries_filled : (is : Inners) (gs : Within) (ms : MarkedInners is) → inner_entries hub is (filled_inners is gs ms) ≡ inner_entries hub is ms
  inner_entries_filled no_inner gs ms = refl
  inner_entries_filled (inner a b r l is) nothing_within ms = refl
  inner_entries_filled (inner a b r l is) (within g gs) ms = one_filled a (all_entries hub l) (filled l g) (λ m. entries_filled l g m) ms.0 (inner_entries hub is (filled_inners is gs ms.1)) (inner_entries hub is ms.1) (inner_entries_filled is gs ms.1)

-- ---- a body beside which nothing is kept has nothing dead

cells_nothing : (d : Side) (cs : List Cell) (x : Pairs) → living_marks d cs (read_cells d cs x []) ≡ read_cells d cs x []
cells_nothing d [] x = refl
cells_nothing d (c ∷ cs) x = ap (λ (r : Marks cs). ((tuple_of (names d c) x, None), r)) (cells_nothing d cs x)

object_nothing : {M : Type 0} (g : M → M) (f : Pairs → M) → ((y : Pairs) → g (f y) ≡ f y) → (o : Option Pairs) → there g (there f o) ≡ there f o
object_nothing g f h None = refl
object_nothing g f h (Some y) = ap Some (h y)

mutual
  pub nothing_dead : (d : Side) (l : Level) (x : Pairs) → settled_marks d l (read d l x []) ≡ read d l x []
  nothing_dead d (level cs is) x =
      ap₂ (λ (a : Marks cs) (b : MarkedInners is). (a, b)) (cells_nothing d cs x) (inners_nothing d is x)

  inners_nothing : (d : Side) (is : Inners) (x : Pairs) → settled_inners d is (read_inners d is x []) ≡ read_inners d is x []
  inners_nothing d no_inner x = refl
  inners_nothing d (inner a b r l is) x =
      ap₂ (λ (o : Option (Marked l)) (ms : MarkedInners is). (o, ms)) (object_nothing (settled_marks d l) (λ (y : Pairs). read d l y []) (λ y. nothing_dead d l y) (object_in (field (named d a b) x))) (inners_nothing d is x)

-- ---- what is complete stays

pub completed_same : (f : Fills) (l : Level) (x : Pairs) → NoNameTwice hub l → IsKnown hub l x → IsComplete l f (read hub l x []) → completed f l x ≡ x
completed_same f l x names known h = ap (body hub l) (complete_same l f (read hub l x []) h) ∙ body_read hub l x [] names known

-- a body that came over, completed beside what is kept with it
pub completed_converted : (f : Fills) (l : Level) (x : Held) (fields : Pairs) (es : List Entry) → with_entries fields es ≡ converted spoke l x → marks_of hub l (converted spoke l x) ≡ crossed spoke l (settled_marks spoke l (marks_of spoke l x)) → with_entries (completed f l fields) es ≡ completed_over f l x
completed_converted f l x fields es e back =
    let m = crossed spoke l (settled_marks spoke l (marks_of spoke l x)) in
    let marks : read hub l fields es ≡ m = ap (λ (h : Held). read hub l h.fields h.entries) e ∙ back in
    let first : completed f l fields ≡ body hub l (filled l f m) = body_any l f fields [] es ∙ ap (λ (n : Marked l). body hub l (filled l f n)) marks in
    let second : es ≡ entries hub l (filled l f m) = ap (λ (h : Held). h.entries) e ∙ ap in_order (sym (entries_filled l f m)) in
    λ i. record { fields = first i; entries = second i }
