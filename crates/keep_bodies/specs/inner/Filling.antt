-- For private clauses: the fields of the hub's object with the names that aren't there filled, in the root and in each object
-- that is there; and whether such a name isn't there.
use Rattle.std.specs.Prelude.{List, [], ◌∷◌, Bool, false, ◌||◌, Option, None, Some, is_none}
use Rattle.kj_value.specs.Json.{Json, object, members_of}
use Rattle.kj_value.specs.Fields.{Pairs, field, with_field}
use Rattle.hub_cells.specs.Level.{Name, Place, Cell, Level, level, Inners, no_inner, inner}
use Rattle.hub_fills.specs.Fills.{Fills, fills, Within, nothing_within, within}
use Rattle.keep_laws.specs.Body.{object_in}

abbrev pub with_absent : Name → Json → Option Json → Pairs → Pairs
with_absent k j None x = with_field k j x
with_absent k j (Some i) x = x

abbrev pub fill_place : List Place → Option Json → Pairs → Pairs
fill_place [] v x = x
fill_place (q ∷ []) None x = x
fill_place (q ∷ []) (Some j) x = with_absent q.name j (field q.name x) x
fill_place (q ∷ r ∷ qs) v x = x

abbrev pub fill_cells : List Cell → List (Option Json) → Pairs → Pairs
fill_cells [] vs x = x
fill_cells (c ∷ cs) [] x = x
fill_cells (c ∷ cs) (v ∷ vs) x = fill_cells cs vs (fill_place c.hub v x)

abbrev pub put_object : Name → (Pairs → Pairs) → Option Pairs → Pairs → Pairs
put_object k g None x = x
put_object k g (Some y) x = with_field k (object (members_of (g y))) x

abbrev mutual
  pub fill_level : Level → Fills → Pairs → Pairs
  fill_level (level cs is) (fills vs fs) x = fill_inners is fs (fill_cells cs vs x)

  pub fill_inners : Inners → Within → Pairs → Pairs
  fill_inners no_inner fs x = x
  fill_inners (inner a b r l is) nothing_within x = x
  fill_inners (inner a b r l is) (within f fs) x = fill_inners is fs (put_object b (fill_level l f) (object_in (field b x)) x)

-- ---- whether a name that is filled isn't there

abbrev pub is_absent : List Place → Option Json → Pairs → Bool
is_absent [] v x = false
is_absent (q ∷ []) None x = false
is_absent (q ∷ []) (Some j) x = is_none (field q.name x)
is_absent (q ∷ r ∷ qs) v x = false

abbrev pub cells_lack : List Cell → List (Option Json) → Pairs → Bool
cells_lack [] vs x = false
cells_lack (c ∷ cs) [] x = false
cells_lack (c ∷ cs) (v ∷ vs) x = is_absent c.hub v x || cells_lack cs vs x

abbrev pub object_lacks : (Pairs → Bool) → Option Pairs → Bool
object_lacks p None = false
object_lacks p (Some y) = p y

abbrev mutual
  pub lacks : Level → Fills → Pairs → Bool
  lacks (level cs is) (fills vs fs) x = cells_lack cs vs x || inners_lack is fs x

  pub inners_lack : Inners → Within → Pairs → Bool
  inners_lack no_inner fs x = false
  inners_lack (inner a b r l is) nothing_within x = false
  inners_lack (inner a b r l is) (within f fs) x = object_lacks (lacks l f) (object_in (field b x)) || inners_lack is fs x
