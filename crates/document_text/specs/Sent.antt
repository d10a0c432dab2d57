-- For private clauses: the events that an object's document is sent to a writer as, with no value made of it.
use Rattle.std.specs.Prelude.{◌≡◌, List, [], ◌∷◌, ◌++◌, Some, None, option_map}
use Rattle.serde.specs.Event as event
use Rattle.serde.specs.Event.{Event, Log}
use Rattle.serde.specs.declared.name.Case.TheVariants.{AsIs}
use Rattle.serde_json.specs.Data.{Data, null, boolean, number, string, array, object, Items, no_items, item, Members, no_members, member}
use Rattle.serde_json.specs.Events.{number_event, items_len, members_len}
use Rattle.kj_value.specs.Fields.{Pairs}
use Rattle.kj_value.specs.Data.{to_data}
use Rattle.kube_meta.specs.View.{ObjectView, object_of}
use Rattle.kube_meta.specs.Document.{metadata}
use Rattle.document_text.specs.FieldLaws.{before, after, around_meta}
use Rattle.document_text.specs.Numbered.{metadata_name}
use Rattle.document_text.specs.Shown.{with_given}
use Rattle.document_text.specs.declared.writing.Document.{Document}

-- those of a value
abbrev mutual
  pub events_of : Data → List Event
  events_of null = event.nothing ∷ []
  events_of (boolean b) = event.boolean b ∷ []
  events_of (number n) = number_event n ∷ []
  events_of (string s) = event.text s ∷ []
  events_of (array ds) = event.seq_begins (Some (items_len ds)) ∷ items_events ds
  events_of (object ms) = event.map_begins (Some (members_len ms)) ∷ members_events ms

  -- with the end
  pub items_events : Items → List Event
  items_events no_items = event.seq_ends ∷ []
  items_events (item d ds) = events_of d ++ items_events ds

  pub members_events : Members → List Event
  members_events no_members = event.map_ends ∷ []
  members_events (member k d ms) = event.field_key k AsIs ∷ (events_of d ++ members_events ms)

-- those of fields, without an end
abbrev pub fields_events : Pairs → List Event
fields_events [] = []
fields_events (e ∷ es) = event.field_key e.0 AsIs ∷ (events_of (to_data e.1) ++ fields_events es)

-- those of an object of which it isn't told how many fields it has
abbrev pub object_events : Pairs → List Event
object_events es = event.map_begins None ∷ (fields_events es ++ event.map_ends ∷ [])

-- those of a document
abbrev pub document_events : ObjectView → List Event
document_events x =
    event.map_begins None
    ∷ (fields_events (before metadata_name (around_meta x))
    ++ event.field_key metadata_name AsIs
    ∷ (object_events (metadata x.meta) ++ (fields_events (after metadata_name (around_meta x)) ++ event.map_ends ∷ [])))

-- where the events so far are known, they grow by these
abbrev pub Grows : List Event → Log → Log → Type 0
Grows es old new = (so_far : List Event) → old ≡ Some so_far → new ≡ Some (so_far ++ es)

-- what a lent object is shown as
abbrev pub shown_by : Document → ObjectView
shown_by d = with_given (option_map (λ t. t.now) d.number) (option_map (λ t. t.now) d.uid) (object_of d.object.now)
