-- What a document's events are written as is its text: whether it is told how many fields an object has makes no difference.
use Rattle.std.proofs.Common.{◌≡◌, ℕ, List, [], ◌∷◌, ◌++◌, false, Option, Some, None, refl, sym, ap, ◌∙◌, subst, append_assoc}
use Rattle.std.proofs.Math.Logic.{∥∥₁_map}
use Rattle.serde.specs.Event as event
use Rattle.serde.specs.Event.{Event, Log}
use Rattle.serde.specs.declared.name.Case.TheVariants.{AsIs}
use Rattle.serde_json.specs.Events.{members_len}
use Rattle.serde_json.specs.Sent.{State, start, TakesAll, AreTokensOf, IsTextOf}
use Rattle.serde_json.proofs.FreeTexts.{text_of_value}
use Rattle.json.specs.Lex.{tokens}
use Rattle.kj_value.specs.Json.{Json, object, members_of}
use Rattle.kj_value.specs.Fields.{Pairs}
use Rattle.kj_value.specs.Data.{to_data, members_data}
use Rattle.kj_value.specs.Text.{text_of}
use Rattle.kj_value.proofs.Written.{has_float-to_data, text_same}
use Rattle.kube_meta.specs.View.{ObjectView}
use Rattle.kube_meta.specs.Document.{metadata, document}
use Rattle.document_text.specs.FieldLaws.{before, after, around_meta, with-parts}
use Rattle.document_text.specs.Numbered.{metadata_name}
use Rattle.document_text.specs.Sent.{events_of, fields_events, document_events, Grows}
use Rattle.document_text.proofs.Sending.{value_sent, fields-append, members-fields}

-- the same behind these events
under : (xs ys zs : List Event) → ((s t : State) → TakesAll s ys t → TakesAll s zs t) → (s t : State) → TakesAll s (xs ++ ys) t → TakesAll s (xs ++ zs) t
under [] ys zs f s t h = f s t h
under (x ∷ xs) ys zs f s t h = (h.0, h.1, under xs ys zs f h.0 t h.2)

module _ (ps : Pairs) (k : List ℕ) (ms qs : Pairs) where
  -- the events behind the brace that opens an object at the name k, with the end of what it is in
  abbrev inside : List Event
  inside = (fields_events ms ++ event.map_ends ∷ []) ++ (fields_events qs ++ event.map_ends ∷ [])

  -- those of an object that has an object at the name k, each announced so
  abbrev announced : Option ℕ → Option ℕ → List Event
  announced n m = event.map_begins n ∷ (fields_events ps ++ event.field_key k AsIs ∷ event.map_begins m ∷ inside)

  told : (n m : Option ℕ) (s t : State) → TakesAll s (announced None None) t → TakesAll s (announced n m) t
  told n m s t h =
      (h.0, h.1, under (fields_events ps) (event.field_key k AsIs ∷ event.map_begins None ∷ inside) (event.field_key k AsIs ∷ event.map_begins m ∷ inside) (λ s t r. r) h.0 t h.2)

  abbrev fields : Pairs
  fields = ps ++ (k, object (members_of ms)) ∷ qs

  spelled_events : events_of (to_data (object (members_of fields))) ≡ announced (Some (members_len (members_data (members_of fields)))) (Some (members_len (members_data (members_of ms))))
  spelled_events =
      let inner : List Event = events_of (to_data (object (members_of ms))) in
      let ends : List Event = event.map_ends ∷ [] in
      ap (λ (xs : List Event). event.map_begins (Some (members_len (members_data (members_of fields)))) ∷ xs) (
      members-fields fields
      ∙ ap (λ (xs : List Event). xs ++ ends) (fields-append ps ((k, object (members_of ms)) ∷ qs))
      ∙ append_assoc (fields_events ps) (event.field_key k AsIs ∷ (inner ++ fields_events qs)) ends
      ∙ ap (λ (xs : List Event). fields_events ps ++ event.field_key k AsIs ∷ xs) (
      append_assoc inner (fields_events qs) ends
      ∙ ap (λ (xs : List Event). (event.map_begins (Some (members_len (members_data (members_of ms)))) ∷ xs) ++ (fields_events qs ++ ends)) (members-fields ms)))

-- the document's fields, parted at its metadata
parted : (x : ObjectView) → document x ≡ object (members_of (fields (before metadata_name (around_meta x)) metadata_name (metadata x.meta) (after metadata_name (around_meta x))))
unfolding document
parted x = ap (λ (ps : Pairs). object (members_of ps)) (with-parts metadata_name (object (members_of (metadata x.meta))) (around_meta x))

pub spelled : (x : ObjectView) (log : Log) (bytes : List ℕ) → Grows (document_events x) (Some []) log → IsTextOf log bytes → bytes ≡ text_of (document x)
spelled x log bytes grown is =
    let ps = before metadata_name (around_meta x) in
    let ms = metadata x.meta in
    let qs = after metadata_name (around_meta x) in
    let j : Json = object (members_of (fields ps metadata_name ms qs)) in
    let n = Some (members_len (members_data (members_of (fields ps metadata_name ms qs)))) in
    let m = Some (members_len (members_data (members_of ms))) in
    let ran = subst (λ l. AreTokensOf false l (tokens bytes)) (grown [] refl) is.0 in
    let tokens_of : AreTokensOf false (Some (events_of (to_data j))) (tokens bytes) =
    (ran.0, ∥∥₁_map ran.1 (λ run. subst (λ es. TakesAll (start false) es ran.0) (sym (spelled_events ps metadata_name ms qs)) (told ps metadata_name ms qs n m (start false) ran.0 run)), ran.2) in
    text_of_value (to_data j) (Some (events_of (to_data j))) bytes (value_sent (to_data j) []) (tokens_of, is.1) (has_float-to_data j)
    ∙ text_same j ∙ ap text_of (sym (parted x))
