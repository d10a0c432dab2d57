-- Which objects of the hub are whole, and which of a spoke are settled.
use Rattle.std.specs.Prelude.{◌≡◌, List, [], ◌∷◌, Option, None}
use Rattle.kj_value.specs.Fields.{Pairs}
use Rattle.kube_meta.specs.View.{ObjectView}
use Rattle.kept_entries.specs.declared.entry.Entry.{Entry}
use Rattle.hub_cells.specs.Side.{spoke, hub}
use Rattle.hub_cells.specs.Level.{Name}
use Rattle.keep_laws.specs.Whole.{IsWholeOnSide}
use Rattle.keep_laws.specs.Body.{read}
use Rattle.keep_laws.specs.Complete.{IsComplete}
use Rattle.keep_laws.specs.Spokes.{Spoke, Spokes, api_version, fills_at}
use Rattle.keep_laws.specs.Keys.{KeyKind, plain, of_hub, of_spoke, of_none, key_kind}
use Rattle.keep_laws.specs.FittedBody.{IsBodyOf}
use Rattle.keep_laws.specs.Notes.{noted, IsNoteOf, IsObject, with_entries}
use Rattle.keep_laws.specs.Pair.{IsPairOf}

-- a body that the hub's schema allows, which is one for all spokes
abbrev pub IsHubBody : List Spoke → Pairs → Type 0
IsHubBody [] body = Unit {0}
IsHubBody (s ∷ ss) body = IsBodyOf hub s.fit body × IsHubBody ss body

-- a spoke's annotation keeps entries that are all alive beside this body of the hub; the hub's and those of no spoke aren't there
abbrev pub WholeNote : Pairs → KeyKind → Option Name → Type 0
WholeNote body plain o = Unit {0}
WholeNote body of_hub o = o ≡ None
WholeNote body (of_spoke s) o = (es : List Entry) × IsNoteOf es o × IsWholeOnSide hub s.fit.level (with_entries body es)
WholeNote body of_none o = o ≡ None

-- of each of these spokes: in the root, and in each object that is there by its rules, each name that has a default in some
-- version is there
abbrev pub IsCompleteFor : Spokes → List Spoke → Pairs → Type 0
IsCompleteFor all [] body = Unit {0}
IsCompleteFor all (s ∷ ss) body = IsComplete s.fit.level (fills_at all s) (read hub s.fit.level body []) × IsCompleteFor all ss body

pub record IsWholeHub (all : Spokes) (h : ObjectView) : Type 0 where
  pub version : h.api_version ≡ api_version all.group all.hub
  pub object : IsObject h
  pub body : IsHubBody all.items h.body
  pub complete : IsCompleteFor all all.items h.body
  pub notes : (k : Name) → WholeNote h.body (key_kind all k) (noted k h)

-- x of the spoke is paired with a whole object of the hub
pub record IsSettledAt (all : Spokes) (s : Spoke) (x : ObjectView) : Type 0 where
  pub object : IsObject x
  pub body : IsBodyOf spoke s.fit x.body
  pub hub : ObjectView
  pub whole : IsWholeHub all hub
  pub pair : IsPairOf all s x hub
