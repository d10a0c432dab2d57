-- The one text of a list of entries.
use Rattle.std.specs.Prelude.{◌≡◌, ◌≤◌, ℕ, List, [], ◌∷◌, map, true, codes}
use Rattle.kj_value.specs.Json.{Json, text, list, object, items_of, members_of, depth}
use Rattle.kj_value.specs.Fields.{Pairs}
use Rattle.kj_value.specs.Sound.{IsSoundJson}
use Rattle.kj_value.specs.Text.{text_of}
use Rattle.kept_entries.specs.declared.entry.Entry.{Entry}
use Rattle.kept_entries.specs.declared.reading.TheConstants.{KEPT_LEVELS}
use Rattle.kept_entries.specs.Entry.{Name, are_in_order}

abbrev pub path_json : List Name → Json
path_json ns = list (items_of (map text ns))

abbrev pub part_json : Pairs → Json
part_json ps = object (members_of ps)

-- {"at":[NAME, ..],"was":{NAME:VALUE, ..}}
abbrev pub entry_fields : Entry → Pairs
entry_fields e = (codes "at", path_json e.at) ∷ (codes "was", part_json e.was) ∷ []

abbrev pub entry_json : Entry → Json
entry_json e = object (members_of (entry_fields e))

abbrev pub kept_json : List Entry → Json
kept_json es = list (items_of (map entry_json es))

abbrev pub kept_text : List Entry → List ℕ
kept_text es = text_of (kept_json es)

-- the text is the compact text of a JSON value that isn't too deep
pub record IsCanonical (t : List ℕ) (j : Json) : Type 0 where
  pub spelled : t ≡ text_of j
  pub levels : depth j ≤ KEPT_LEVELS
  pub sound : IsSoundJson j

-- the text spells the entries, which are in order
pub record IsKept (t : List ℕ) (es : List Entry) : Type 0 where
  pub text : IsCanonical t (kept_json es)
  pub order : are_in_order es ≡ true
