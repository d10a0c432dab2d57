-- Which rules fit two schemas, with no walk and no order in it: both schemas are objects whose names are those of
-- `properties`, and six conditions hold at every level.
use Rattle.std.specs.Prelude.{◌≡◌, Bool, true, false, ◌&&◌, None}
use Rattle.struct_schema.specs.Shape.{Shape, own, properties, Shapes, no_shapes, shape_at, MaybeShapes, no_map, some_map}
use Rattle.hub_cells.specs.Side.{Side, spoke, hub, other}
use Rattle.hub_cells.specs.Level.{Name, AreDistinct}
use Rattle.hub_cells.specs.Fit.{has_name, is_required}
use Rattle.hub_rules.specs.Rule.{Rule, same, within, spoke_only, hub_only, split, table, scale, Rules, no_rules, rule, names_on}
use Rattle.hub_rules.specs.Refusal.{node, node_at, is_there, is_free, is_closed, alike_below, alike_required, schema_passes, default_passes, required_passes, range_passes}

abbrev pub shape_on : Side → Shape → Shape → Shape
shape_on spoke s h = s
shape_on hub s h = h

-- each rule of a level passes
abbrev pub AllPass : (Rule → Bool) → Rules → Type 0
AllPass P no_rules = Unit {0}
AllPass P (rule r rs) = (P r ≡ true) × AllPass P rs

-- each name with its schema
abbrev pub EachNamed : (Name → Shape → Type 0) → Shapes → Type 0
EachNamed P no_shapes = Unit {0}
EachNamed P (shape_at k t ss) = P k t × EachNamed P ss

abbrev pub EachProperty : (Name → Shape → Type 0) → MaybeShapes → Type 0
EachProperty P no_map = Unit {0}
EachProperty P (some_map ss) = EachNamed P ss

-- each property that no rule of the level names on its side
abbrev pub EachFree : Side → Shape → Rules → (Name → Shape → Type 0) → Type 0
EachFree d s rs P = EachProperty (λ k t. has_name k (names_on d rs) ≡ false → P k t) (properties s)

-- ---- the six conditions of a level

-- no name stands twice in the rules on one side
abbrev pub NamesOnce : Rules → Type 0
NamesOnce rs = (d : Side) → AreDistinct (names_on d rs)

-- a name of a rule is in its schema; a property that no rule names is one of the other side that no rule names
pub record NamesStand (s h : Shape) (rs : Rules) : Type 0 where
  pub ruled : (d : Side) (k : Name) → has_name k (names_on d rs) ≡ true → is_there (node k (shape_on d s h)) ≡ true
  pub free : (d : Side) → EachFree d (shape_on d s h) rs (λ k t. is_free (other d) (shape_on (other d) s h) rs k ≡ true)

-- the schemas of a rule go together; a property that no rule names has equal schemas but for their defaults, and is required
-- on both sides or on neither
pub record SchemasAgree (s h : Shape) (rs : Rules) : Type 0 where
  pub ruled : AllPass (schema_passes s h) rs
  pub free : EachFree spoke s rs (λ k t. (alike_below t (node_at k h) && alike_required k k s h) ≡ true)

-- a rule has no default that it can't hold: a table's match, and others but `same` and `scale` have none
abbrev pub DefaultsPair : Shape → Shape → Rules → Type 0
DefaultsPair s h rs = AllPass (default_passes s h) rs

-- what a rule leaves out isn't required; what is required is a property
pub record RequiredStands (s h : Shape) (rs : Rules) : Type 0 where
  pub ruled : AllPass (required_passes s h) rs
  pub there : (d : Side) (k : Name) → is_required k (shape_on d s h) ≡ true → is_there (node k (shape_on d s h)) ≡ true

-- what goes over by a rule is valid on the other side
abbrev pub RangesHold : Shape → Shape → Rules → Type 0
RangesHold s h rs = AllPass (range_passes s h) rs

pub record FitsLevel (s h : Shape) (rs : Rules) : Type 0 where
  pub names_once : NamesOnce rs
  pub names_stand : NamesStand s h rs
  pub schemas_agree : SchemasAgree s h rs
  pub defaults_pair : DefaultsPair s h rs
  pub required_stands : RequiredStands s h rs
  pub ranges_hold : RangesHold s h rs

-- ---- all levels

abbrev mutual
  -- the level inside a rule, with those inside it
  pub FitsInside : Shape → Shape → Rule → Type 0
  FitsInside s h (same a b) = Unit {0}
  FitsInside s h (within a b ts) =
      FitsLevel (node_at a s) (node_at b h) ts × FitsAllInside (node_at a s) (node_at b h) ts
  FitsInside s h (spoke_only a) = Unit {0}
  FitsInside s h (hub_only b) = Unit {0}
  FitsInside s h (split a b c) = Unit {0}
  FitsInside s h (table a b ps x y) = Unit {0}
  FitsInside s h (scale a b k) = Unit {0}

  pub FitsAllInside : Shape → Shape → Rules → Type 0
  FitsAllInside s h no_rules = Unit {0}
  FitsAllInside s h (rule r rs) = FitsInside s h r × FitsAllInside s h rs

-- the roots are held to what `within` asks of its two objects
pub record AreRoots (s h : Shape) : Type 0 where
  pub closed : (d : Side) → is_closed (shape_on d s h) ≡ true
  pub bare : (d : Side) → (own (shape_on d s h)).default_value ≡ None

pub record AreFitting (s h : Shape) (rs : Rules) : Type 0 where
  pub roots : AreRoots s h
  pub level : FitsLevel s h rs
  pub inside : FitsAllInside s h rs
