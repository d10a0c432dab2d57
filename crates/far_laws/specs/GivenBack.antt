-- What a form is admitted with that is given back to the server that showed it.
use Rattle.std.specs.Prelude.{◌≡◌, ◌<◌, ◌≤◌, ℕ, pos, Option, None, IfSome, option_map}
use Rattle.std.specs.Str.Parse.{digits_value}
use Rattle.kj_value.specs.Json.{depth}
use Rattle.kj_value.specs.Sound.{IsSoundJson}
use Rattle.kj_value.specs.Text.{text_of}
use Rattle.kj_value.specs.declared.reading.TheConstants.{MAX_JSON_LEVELS}
use Rattle.kube_meta.specs.Document.{document}
use Rattle.kube_meta.specs.View.{ObjectView}
use Rattle.object_reading.specs.Parts.{not_empty}
use Rattle.object_reading.specs.Written.{IsMoment}
use Rattle.api_calls.specs.Meaning.{Meaning, Request, stamped}

-- without stamps and generation, which a server sets anew
abbrev pub unstamped : ObjectView → ObjectView
unstamped x = stamped x None None (pos 0)

-- and without number and uid
abbrev pub bare : ObjectView → ObjectView
bare x = record x { meta = record x.meta { created = None; deleted = None; generation = pos 0; resource_version = None; uid = None } }

-- y is x but for stamps, generation, number and uid, of which it has any or none: as x is shown, or as a dump has it
pub record IsLike (y x : ObjectView) : Type 0 where
  pub same : bare y ≡ bare x
  pub sound : IsSoundJson (document y)
  pub levels : depth (document y) ≤ MAX_JSON_LEVELS
  pub created : IfSome y.meta.created IsMoment
  pub deleted : IfSome y.meta.deleted IsMoment

-- the number that is shown, where there is one
abbrev pub number_of : ObjectView → Option ℕ
number_of y = option_map (digits_value 10) (not_empty y.meta.resource_version)

-- A request whose body is a form of a whole value, as it was shown or dumped, is admitted with that value alone, and with the number.
pub record GivesBack (m : Meaning) : Type 0 where
  pub gives : (v : ℕ) (h g x y : ObjectView) (r : Request) (e : Option ℕ) → v < m.count → m.whole h → m.pair v h x → IsLike y x
      → r.version ≡ v → r.ns ≡ x.meta.namespace → r.bytes ≡ text_of (document y) → m.admits r g e → (g ≡ unstamped h) × (e ≡ number_of y)
