-- The first thing that is refused of a value at a place: the value by itself, and then, in an object, the names in their
-- order by bytes, those that must be there and aren't in their places, each value before the next name.
use Rattle.std.specs.Prelude.{ℕ, suc, List, [], ◌∷◌, ◌&&◌, cond, Option, None, Some}
use Rattle.kj_value.specs.Json.{Json, null, boolean, whole, text, list, object, Items, no_items, item, Members, no_members, member}
use Rattle.struct_schema.specs.Fault.{or_else, unless}
use Rattle.schema_reading.specs.Visits.{is_below}
use Rattle.crd_reading.specs.Words.{spelled, shape_word}
use Rattle.crd_reading.specs.Table.{rows, has_names, has_items, place_in}
use Rattle.crd_reading.specs.Allowed.{is_allowed, blame}
use Rattle.crd_reading.specs.Refusal.{Refusal, refused_here, out_of_name, under_name, under_item}
use Rattle.crd_reading.specs.declared.places.Place.{Place}
use Rattle.crd_reading.specs.declared.places.Place.TheVariants.{VersionObject}
use Rattle.crd_reading.specs.declared.places.Row.{Row}

-- the first name that must be there, behind one name and before another
abbrev pub missing_between : List ℕ → List ℕ → List Row → Option (List ℕ)
missing_between a b [] = None
missing_between a b (r ∷ rs) =
    cond (r.required && (is_below a (spelled r.named) && is_below (spelled r.named) b)) (Some (spelled r.named)) (missing_between a b rs)

-- the first name that must be there, behind one name
abbrev pub missing_behind : List ℕ → List Row → Option (List ℕ)
missing_behind a [] = None
missing_behind a (r ∷ rs) =
    cond (r.required && is_below a (spelled r.named)) (Some (spelled r.named)) (missing_behind a rs)

-- a name that isn't there is refused at the path that it would have
abbrev pub absent : Option (List ℕ) → Option Refusal
absent None = None
absent (Some n) = Some (out_of_name n (refused_here shape_word))

abbrev mutual
  pub refusal : Place → Json → Option Refusal
  refusal p null = unless (is_allowed p null) (refused_here (blame p)) None
  refusal p (boolean b) = unless (is_allowed p (boolean b)) (refused_here (blame p)) None
  refusal p (whole z) = unless (is_allowed p (whole z)) (refused_here (blame p)) None
  refusal p (text t) = unless (is_allowed p (text t)) (refused_here (blame p)) None
  refusal p (list js) =
      unless (is_allowed p (list js)) (refused_here (blame p)) (cond (has_items p) (items_refusal VersionObject 0 js) None)
  refusal p (object ms) =
      unless (is_allowed p (object ms)) (refused_here (blame p)) (cond (has_names p) (fields_refusal p [] ms) None)

  -- items at one place, from a number on
  pub items_refusal : Place → ℕ → Items → Option Refusal
  items_refusal p i no_items = None
  items_refusal p i (item j js) = or_else (under_item i (refusal p j)) (items_refusal p (suc i) js)

  -- the names of an object behind one name; the empty name comes before every other
  pub fields_refusal : Place → List ℕ → Members → Option Refusal
  fields_refusal p a no_members = absent (missing_behind a (rows p))
  fields_refusal p a (member k j ms) =
      or_else (absent (missing_between a k (rows p))) (or_else (under_name k (refusal (place_in p k) j)) (fields_refusal p k ms))
