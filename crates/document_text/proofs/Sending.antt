-- The events that are sent add up.
use Rattle.std.proofs.Common.{◌≡◌, ◌≢◌, ℕ, suc, ◌+◌, ◌<◌, List, [], ◌∷◌, ◌++◌, length, get_or, drop, Some, refl, sym, ap, ◌∙◌, subst, append_assoc, append-nil, drop-cons, add-one}
use Rattle.serde.specs.Event as event
use Rattle.serde.specs.Event.{Event, Log, Logs}
use Rattle.serde.specs.declared.name.Case.TheVariants.{AsIs}
use Rattle.serde_json.specs.Data.{Data, null, boolean, number, string, array, object, Items, no_items, item, Members, no_members, member}
use Rattle.serde_json.specs.Events.{items_len, members_len, SendsValue, SendsItems, SendsMembers}
use Rattle.kj_value.specs.Json.{Json, list, object as object_json, items_of, members_of}
use Rattle.kj_value.specs.Fields.{Pairs}
use Rattle.kj_value.specs.Data.{to_data, members_data}
use Rattle.kube_meta.specs.View.{Texts}
use Rattle.kube_meta.specs.Document.{some_texts, some_list, text_fields}
use Rattle.document_text.specs.Sent.{events_of, items_events, members_events, fields_events, Grows}

-- ---- a value's events are known from what it is

mutual
  value_known : (d : Data) (es : List Event) (log : Log) → SendsValue d (Some es) log → log ≡ Some (es ++ events_of d)
  value_known null es log h = h
  value_known (boolean b) es log h = h
  value_known (number n) es log h = h
  value_known (string s) es log h = h
  value_known (array ds) es log h = items_known ds _ log (subst (λ l. SendsItems ds l log) h.1 h.2) ∙ ap Some (append_assoc es (event.seq_begins (Some (items_len ds)) ∷ []) (items_events ds))
  value_known (object ms) es log h = members_known ms _ log (subst (λ l. SendsMembers ms l log) h.1 h.2) ∙ ap Some (append_assoc es (event.map_begins (Some (members_len ms)) ∷ []) (members_events ms))

  items_known : (ds : Items) (es : List Event) (log : Log) → SendsItems ds (Some es) log → log ≡ Some (es ++ items_events ds)
  items_known no_items es log h = h
  items_known (item d ds) es log h = items_known ds _ log (subst (λ l. SendsItems ds l log) (value_known d es h.0 h.1) h.2) ∙ ap Some (append_assoc es (events_of d) (items_events ds))

  members_known : (ms : Members) (es : List Event) (log : Log) → SendsMembers ms (Some es) log → log ≡ Some (es ++ members_events ms)
  members_known no_members es log h = h
  members_known (member k d ms) es log h =
      let named = es ++ event.field_key k AsIs ∷ [] in
      members_known ms _ log (subst (λ l. SendsMembers ms l log) (value_known d named h.1 (subst (λ l. SendsValue d l h.1) h.2 h.3)) h.4)
      ∙ ap Some (append_assoc named (events_of d) (members_events ms) ∙ append_assoc es (event.field_key k AsIs ∷ []) (events_of d ++ members_events ms))

-- these events are what sends it
mutual
  pub value_sent : (d : Data) (es : List Event) → SendsValue d (Some es) (Some (es ++ events_of d))
  value_sent null es = refl
  value_sent (boolean b) es = refl
  value_sent (number n) es = refl
  value_sent (string s) es = refl
  value_sent (array ds) es =
      let first = es ++ event.seq_begins (Some (items_len ds)) ∷ [] in
      (Some first, refl, subst (λ fs. SendsItems ds (Some first) (Some fs)) (append_assoc es (event.seq_begins (Some (items_len ds)) ∷ []) (items_events ds)) (items_sent ds first))
  value_sent (object ms) es =
      let first = es ++ event.map_begins (Some (members_len ms)) ∷ [] in
      (Some first, refl, subst (λ fs. SendsMembers ms (Some first) (Some fs)) (append_assoc es (event.map_begins (Some (members_len ms)) ∷ []) (members_events ms)) (members_sent ms first))

  items_sent : (ds : Items) (es : List Event) → SendsItems ds (Some es) (Some (es ++ items_events ds))
  items_sent no_items es = refl
  items_sent (item d ds) es =
      let mid = es ++ events_of d in
      (Some mid, value_sent d es, subst (λ fs. SendsItems ds (Some mid) (Some fs)) (append_assoc es (events_of d) (items_events ds)) (items_sent ds mid))

  members_sent : (ms : Members) (es : List Event) → SendsMembers ms (Some es) (Some (es ++ members_events ms))
  members_sent no_members es = refl
  members_sent (member k d ms) es =
      let named = es ++ event.field_key k AsIs ∷ [] in
      let mid = named ++ events_of d in
      let same = append_assoc named (events_of d) (members_events ms) ∙ append_assoc es (event.field_key k AsIs ∷ []) (events_of d ++ members_events ms) in
      (Some named, Some mid, refl, value_sent d named, subst (λ fs. SendsMembers ms (Some mid) (Some fs)) same (members_sent ms mid))

-- ---- one after the other

pub grows_value : (d : Data) (old new : Log) → SendsValue d old new → Grows (events_of d) old new
grows_value d old new h = λ so_far known. value_known d so_far new (subst (λ l. SendsValue d l new) known h)

pub grows_one : (e : Event) (old new : Log) → Logs old new e → Grows (e ∷ []) old new
grows_one e old new h = λ so_far known. subst (λ l. Logs l new e) known h

pub grows_none : (log : Log) → Grows [] log log
grows_none log = λ so_far known. known ∙ ap Some (sym (append-nil so_far))

pub grows_then : (es fs : List Event) (old mid new : Log) → Grows es old mid → Grows fs mid new → Grows (es ++ fs) old new
grows_then es fs old mid new h k = λ so_far known. k (so_far ++ es) (h so_far known) ∙ ap Some (append_assoc so_far es fs)

-- ---- fields

pub fields-append : (es fs : Pairs) → fields_events (es ++ fs) ≡ fields_events es ++ fields_events fs
fields-append [] fs = refl
fields-append (e ∷ es) fs =
    ap (λ (xs : List Event). event.field_key e.0 AsIs ∷ xs)
    (ap (λ (xs : List Event). events_of (to_data e.1) ++ xs) (fields-append es fs) ∙ sym (append_assoc (events_of (to_data e.1)) (fields_events es) (fields_events fs)))

pub members-fields : (es : Pairs) → members_events (members_data (members_of es)) ≡ fields_events es ++ event.map_ends ∷ []
members-fields [] = refl
members-fields (e ∷ es) =
    ap (λ (xs : List Event). event.field_key e.0 AsIs ∷ xs)
    (ap (λ (xs : List Event). events_of (to_data e.1) ++ xs) (members-fields es) ∙ sym (append_assoc (events_of (to_data e.1)) (fields_events es) (event.map_ends ∷ [])))

-- fields, and then others
pub fields_then : (es fs : Pairs) (old mid new : Log) → Grows (fields_events es) old mid → Grows (fields_events fs) mid new → Grows (fields_events (es ++ fs)) old new
fields_then es fs old mid new h k = subst (λ (xs : List Event). Grows xs old new) (sym (fields-append es fs)) (grows_then (fields_events es) (fields_events fs) old mid new h k)

-- a name and then its value
pub field_grows : (k : List ℕ) (j : Json) (old named new : Log) → Logs old named (event.field_key k AsIs) → Grows (events_of (to_data j)) named new → Grows (fields_events ((k, j) ∷ [])) old new
field_grows k j old named new h v =
    subst (λ (xs : List Event). Grows (event.field_key k AsIs ∷ xs) old new) (sym (append-nil (events_of (to_data j))))
    (grows_then (event.field_key k AsIs ∷ []) (events_of (to_data j)) old named new (grows_one (event.field_key k AsIs) old named h) v)

-- ---- one step of a loop

pub turn : {A : Type 0} (xs : List A) (i : ℕ) (x d : A) → i < length xs → x ≡ get_or xs i d → drop i xs ≡ x ∷ drop (i + 1) xs
turn xs i x d within is = rw (add-one i) (drop-cons xs i d within ∙ ap (λ y. y ∷ drop (suc i) xs) (sym is))

-- ---- what has something in it is sent

pub some-texts : (ts : Texts) → length ts ≢ 0 → some_texts ts ≡ Some (object_json (members_of (text_fields ts)))
some-texts [] h = absurd (h refl)
some-texts (t ∷ ts) h = refl

pub some-list : (js : List Json) → length js ≢ 0 → some_list js ≡ Some (list (items_of js))
some-list [] h = absurd (h refl)
some-list (j ∷ js) h = refl
