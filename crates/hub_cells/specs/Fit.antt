-- Two schemas with a level of cells that stands for both.
use Rattle.std.specs.Prelude.{◌≡◌, ℕ, suc, List, [], ◌∷◌, Bool, true, false, ◌||◌, None}
use Rattle.std.specs.Str.{bytes_eq}
use Rattle.struct_schema.specs.Shape.{Shape, own, properties, additional, no_shape, some_shape}
use Rattle.struct_schema.specs.Names.{property}
use Rattle.struct_schema.specs.declared.kind.NodeKind.TheVariants.{Object}
use Rattle.hub_cells.specs.Side.{Side, spoke, hub}
use Rattle.hub_cells.specs.Level.{Name, Place, Cell, Level, level, Inners, no_inner, inner, places, named, level_names, Fits, NoNameTwice}

-- `depth` is how many object names lead to the two schemas
pub record Fit : Type 0 where
  pub spoke : Shape
  pub hub : Shape
  pub depth : ℕ
  pub level : Level

abbrev pub shape_on : Side → Fit → Shape
shape_on spoke f = f.spoke
shape_on hub f = f.hub

abbrev pub has_name : Name → List Name → Bool
has_name k [] = false
has_name k (n ∷ ns) = bytes_eq k n || has_name k ns

abbrev pub is_required : Name → Shape → Bool
is_required k s = has_name k (own s).required

-- an object whose names are those of `properties` and no others
pub record IsClosedObject (s : Shape) : Type 0 where
  pub kind : (own s).kind ≡ Object
  pub preserve : (own s).preserve ≡ false
  pub nullable : (own s).nullable ≡ false
  pub choices : (own s).choices ≡ None
  pub additional : additional s ≡ no_shape

-- the place has the schema of its name, and is required exactly where the object requires it
pub record IsPlaceOf (s : Shape) (p : Place) : Type 0 where
  pub shape : property p.name (properties s) ≡ some_shape p.shape
  pub required : p.required ≡ is_required p.name s

abbrev pub ArePlacesOf : Shape → List Place → Type 0
ArePlacesOf s [] = Unit {0}
ArePlacesOf s (p ∷ ps) = IsPlaceOf s p × ArePlacesOf s ps

abbrev pub CellsStand : Side → ℕ → Shape → List Cell → Type 0
CellsStand d n s [] = Unit {0}
CellsStand d n s (c ∷ cs) = (c.depth ≡ n) × ArePlacesOf s (places d c) × CellsStand d n s cs

-- every name of the schema, the required ones too, is one of the level's
pub record IsCovered (d : Side) (s : Shape) (l : Level) : Type 0 where
  pub properties : (k : Name) (t : Shape) → property k (properties s) ≡ some_shape t → has_name k (level_names d l) ≡ true
  pub required : (k : Name) → is_required k s ≡ true → has_name k (level_names d l) ≡ true

-- the side's schema s, to which n object names lead, is the level's
abbrev mutual
  pub Stands : Side → ℕ → Shape → Level → Type 0
  Stands d n s (level cs is) = IsClosedObject s × IsCovered d s (level cs is) × CellsStand d n s cs × InnersStand d n s is

  pub InnersStand : Side → ℕ → Shape → Inners → Type 0
  InnersStand d n s no_inner = Unit {0}
  InnersStand d n s (inner a b r l is) =
      ((t : Shape) × (property (named d a b) (properties s) ≡ some_shape t) × ((own t).default_value ≡ None) × (r ≡ is_required (named d a b) s) × Stands d (suc n) t l) × InnersStand d n s is

pub record IsFitted (f : Fit) : Type 0 where
  pub fits : Fits f.level
  pub no_name_twice : (d : Side) → NoNameTwice d f.level
  pub stands : (d : Side) → Stands d f.depth (shape_on d f) f.level
