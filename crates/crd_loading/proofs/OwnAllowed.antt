-- Each default of a definition is a value that its side allows at its place in a level that is fitted: it's valid, its own
-- filling, a JSON value, and at most 32 deep, and no more than eight objects stand one inside the other.
use Rattle.std.proofs.Common.{◌≡◌, ◌≤◌, ◌+◌, ℕ, suc, List, [], ◌∷◌, Bool, true, false, cond, IfSome, Option, Some, None, ℤ, FitsSigned, refl, sym, subst, arith}
use Rattle.std.specs.Int.{w64}
use Rattle.std.proofs.lemmas.Bool.{le-leb}
use Rattle.std.proofs.lemmas.Int.{ints}
use Rattle.kj_value.specs.Json.{Json, null, boolean, whole, text, list, object, depth}
use Rattle.kj_value.specs.Sound.{IsSoundJson}
use Rattle.struct_schema.specs.Shape.{Shape, shape, own, properties, Shapes, no_shapes, shape_at, MaybeShapes, no_map, some_map, MaybeShape, some_shape}
use Rattle.struct_schema.specs.Names.{is_name, shape_named, property}
use Rattle.struct_schema.specs.Valid.{valid}
use Rattle.struct_schema.specs.Stays.{stays}
use Rattle.prune_default.specs.SoundDefaults.{SoundAt, HasSoundDefaults, SoundInMap, SoundInShapes, SoundInMaybe}
use Rattle.schema_reading.specs.ValidDefaults.{IsValidDefault, HasValidDefaults, ValidInMap, ValidInShapes, ValidInMaybe}
use Rattle.hub_cells.specs.declared.allowed.TheConstants.{STORED_LEVELS}
use Rattle.hub_cells.specs.Side.{Side, spoke, hub}
use Rattle.hub_cells.specs.Level.{Name, Place, Cell, allowed_at, is_word, places, Level, level, Inners, no_inner, inner}
use Rattle.hub_cells.specs.LevelDepth.{level_depth, inners_depth}
use Rattle.hub_cells.specs.Fit.{Fit, ArePlacesOf, CellsStand, Stands, InnersStand, IsFitted}
use Rattle.hub_fills.specs.Right.{DefaultsAllowed, CellsAllow, AllowDefaults, AllowWithin}
use Rattle.keep_laws.proofs.Tests.{and_true}

-- valid, and JSON values
abbrev pub HasGoodDefaults : Shape → Type 0
HasGoodDefaults s = HasValidDefaults s × HasSoundDefaults s

-- ---- a schema inside

valid_if : (b : Bool) (s : Shape) (m : MaybeShape) → HasValidDefaults s → ValidInMaybe m → ValidInMaybe (cond b (some_shape s) m)
valid_if true s m h k = h
valid_if false s m h k = k

valid_named : (k : Name) (ss : Shapes) → ValidInShapes ss → ValidInMaybe (shape_named k ss)
valid_named k no_shapes h = tt
valid_named k (shape_at l s ss) h = valid_if (is_name k l) s (shape_named k ss) h.0 (valid_named k ss h.1)

valid_property : (k : Name) (ps : MaybeShapes) → ValidInMap ps → ValidInMaybe (property k ps)
valid_property k no_map h = tt
valid_property k (some_map ss) h = valid_named k ss h

sound_if : (b : Bool) (s : Shape) (m : MaybeShape) → HasSoundDefaults s → SoundInMaybe m → SoundInMaybe (cond b (some_shape s) m)
sound_if true s m h k = h
sound_if false s m h k = k

sound_named : (k : Name) (ss : Shapes) → SoundInShapes ss → SoundInMaybe (shape_named k ss)
sound_named k no_shapes h = tt
sound_named k (shape_at l s ss) h = sound_if (is_name k l) s (shape_named k ss) h.0 (sound_named k ss h.1)

sound_property : (k : Name) (ps : MaybeShapes) → SoundInMap ps → SoundInMaybe (property k ps)
sound_property k no_map h = tt
sound_property k (some_map ss) h = sound_named k ss h

good_inside : (k : Name) (s t : Shape) → property k (properties s) ≡ some_shape t → HasGoodDefaults s → HasGoodDefaults t
good_inside k (shape o ps a i) t e h =
    (subst ValidInMaybe e (valid_property k ps h.0.1), subst SoundInMaybe e (sound_property k ps h.1.1))

-- ---- one default

word_fits : (z : ℤ) → FitsSigned w64 z → is_word (whole z) ≡ true
word_fits z h = grind (arith, ints)

sound_word : (j : Json) → IsSoundJson j → is_word j ≡ true
sound_word null h = refl
sound_word (boolean b) h = refl
sound_word (whole z) h = word_fits z h
sound_word (text t) h = refl
sound_word (list js) h = refl
sound_word (object ms) h = refl

default_good : (n : ℕ) (t : Shape) (q : Place) (j : Json) → n + 33 ≤ STORED_LEVELS → valid q.shape j ≡ true → stays q.shape j ≡ true → depth j ≤ 32 → IsSoundJson j → allowed_at n q (Some j) ≡ true
default_good n t q j room v u low sound =
    let fits : n + 1 + depth j ≤ STORED_LEVELS = omega (arith, room, low) in
    and_true _ (is_word j) (and_true _ _ (and_true (valid q.shape j) (stays q.shape j) v u) (le-leb (n + 1 + depth j) STORED_LEVELS fits)) (sound_word j sound)

shape_default : (n : ℕ) (q : Place) → n + 33 ≤ STORED_LEVELS → HasGoodDefaults q.shape → IfSome (own q.shape).default_value (λ j. allowed_at n q (Some j) ≡ true)
shape_default n q room h = by_shape q.shape refl h
  where
    by_value : (t : Shape) (o : Option Json) → q.shape ≡ t → IsValidDefault t o → SoundAt o → IfSome o (λ j. allowed_at n q (Some j) ≡ true)
    by_value t None e v s = tt
    by_value t (Some j) e v s =
        default_good n t q j room (subst (λ (u : Shape). valid u j ≡ true) (sym e) v.0) (subst (λ (u : Shape). stays u j ≡ true) (sym e) v.1) v.2 s

    by_shape : (t : Shape) → q.shape ≡ t → HasGoodDefaults t → IfSome (own t).default_value (λ j. allowed_at n q (Some j) ≡ true)
    by_shape (shape o ps a i) e g = by_value (shape o ps a i) o.default_value e g.0.0 g.1.0

places_allow : (n m : ℕ) (s : Shape) (qs : List Place) → m ≡ n → n + 33 ≤ STORED_LEVELS → HasGoodDefaults s → ArePlacesOf s qs → DefaultsAllowed m qs
places_allow n m s [] e room h a = tt
places_allow n m s (q ∷ qs) e room h a = (
  subst (λ (k : ℕ). IfSome (own q.shape).default_value (λ j. allowed_at k q (Some j) ≡ true)) (sym e) (shape_default n q room (good_inside q.name s q.shape a.0.shape h)),
  places_allow n m s qs e room h a.1,
)

-- ---- a level

cell_on : (n : ℕ) (s t : Shape) (c : Cell) → n + 33 ≤ STORED_LEVELS → HasGoodDefaults s → HasGoodDefaults t → c.depth ≡ n → ArePlacesOf s (places spoke c) → ArePlacesOf t (places hub c) → (d : Side) → DefaultsAllowed c.depth (places d c)
cell_on n s t c room h k e a b spoke = places_allow n c.depth s (places spoke c) e room h a
cell_on n s t c room h k e a b hub = places_allow n c.depth t (places hub c) e room k b

cells_allow : (n : ℕ) (s t : Shape) (cs : List Cell) → n + 33 ≤ STORED_LEVELS → HasGoodDefaults s → HasGoodDefaults t → CellsStand spoke n s cs → CellsStand hub n t cs → CellsAllow cs
cells_allow n s t [] room h k a b = tt
cells_allow n s t (c ∷ cs) room h k a b =
    (cell_on n s t c room h k a.0 a.1 b.1, cells_allow n s t cs room h k a.2 b.2)

mutual
  pub level_allows : (n : ℕ) (s t : Shape) (l : Level) → n + level_depth l ≤ 32 → HasGoodDefaults s → HasGoodDefaults t → Stands spoke n s l → Stands hub n t l → AllowDefaults l
  level_allows n s t (level cs is) room h k a b =
      (cells_allow n s t cs (omega (arith, room)) h k a.2 b.2, inners_allow n s t is (omega (arith, room)) h k a.3 b.3)

  inners_allow : (n : ℕ) (s t : Shape) (is : Inners) → n + suc (inners_depth is) ≤ 32 → HasGoodDefaults s → HasGoodDefaults t → InnersStand spoke n s is → InnersStand hub n t is → AllowWithin is
  inners_allow n s t no_inner room h k a b = tt
  inners_allow n s t (inner x y r l is) room h k a b = (
    level_allows (suc n) a.0.0 b.0.0 l (omega (arith, room)) (good_inside x s a.0.0 a.0.1 h) (good_inside y t b.0.0 b.0.1 k) a.0.4 b.0.4,
    inners_allow n s t is (omega (arith, room)) h k a.1 b.1,
  )

pub fit_allows : (f : Fit) → IsFitted f → f.depth + level_depth f.level ≤ 32 → HasGoodDefaults f.spoke → HasGoodDefaults f.hub → AllowDefaults f.level
fit_allows f fitted room h k =
    level_allows f.depth f.spoke f.hub f.level room h k (fitted.stands spoke) (fitted.stands hub)
