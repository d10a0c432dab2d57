-- What a loaded definition means.
use Rattle.std.specs.Prelude.{ℕ, List, [], true}
use Rattle.api_calls.specs.Meaning.{Meaning, Fault}
use Rattle.api_calls.specs.declared.flags.Flags.{Flags}
use Rattle.crd_meaning.specs.Definition.{Definition, count_of, version_at, opening_of}
use Rattle.crd_meaning.specs.Objects.{IsWholeValue, IsFormAt}
use Rattle.crd_meaning.specs.Admission.{Admits}
use Rattle.crd_meaning.specs.Refusal.{RefusesRequest}

-- what bodies say of flags and of stored versions, and how the definition is shown
pub record Settings : Type 1 where
  pub sets : List ℕ → Flags → Type 0
  pub refuses_flags : List ℕ → Fault → Type 0
  pub keeps : List ℕ → List ℕ → Type 0
  pub refuses_keep : List ℕ → Fault → Type 0
  pub shown : Flags → List ℕ → List ℕ
  pub show_room : ℕ

abbrev pub meaning_of : Definition → Settings → Meaning
meaning_of d o = record {
  honest = true;
  count = count_of d;
  hub = d.hub;
  opening = opening_of d;
  name = λ v. (version_at d v).name;
  plural = d.view.plural;
  group = d.view.group;
  kind = d.view.kind;
  list_kind = d.view.list_kind;
  whole = IsWholeValue d;
  pair = IsFormAt d;
  admits = Admits d;
  refuses = RefusesRequest d;
  sets = o.sets;
  refuses_flags = o.refuses_flags;
  keeps = o.keeps;
  refuses_keep = o.refuses_keep;
  shown = o.shown;
  show_room = o.show_room;
}

-- for laws that don't look at the settings
abbrev pub no_settings : Settings
no_settings = record {
  sets = λ b f. ⊥;
  refuses_flags = λ b f. ⊥;
  keeps = λ b vs. ⊥;
  refuses_keep = λ b f. ⊥;
  shown = λ f vs. [];
  show_room = 0;
}

abbrev pub meant : Definition → Meaning
meant d = meaning_of d no_settings
