-- What is posted and given is entered by one create, under the key of what was posted.
use Rattle.std.proofs.Common.{◌≡◌, ◌∙◌, refl, sym, ap, subst, inl, inr, ℕ, ◌+◌, ◌<◌, ◌≤◌, Bool, true, false, not, ◌&&◌, List, [], ◌∷◌, ◌++◌, length, Option, None, Some, Ok, Err, codes, decimal, nat_eq, append_assoc, length-append, arith}
use Rattle.std.specs.Prelude.{◌⊎◌, IfSome, IsTrue, IsUtf8, MatchBool, is_some, unwrap_or, if◌then◌else◌}
use Rattle.std.specs.Str.{bytes_eq}
use Rattle.std.proofs.lemmas.Bool.Decides.{nat_tests}
use Rattle.std.proofs.lemmas.List.Elements.{All-nil}
use Rattle.std.proofs.lemmas.Slice.Eq.{bytes_eq-Decides}
use Rattle.httparse.specs.Grammar.{IsToken, is_token_byte}
use Rattle.kj_value.specs.Json.{Json, boolean, depth, list, null, object, text, whole}
use Rattle.kj_value.specs.Fields.{Pairs}
use Rattle.kj_value.specs.Kinds.{as_object}
use Rattle.kj_value.specs.Reading.{Reads}
use Rattle.kj_value.specs.Sound.{IsSoundJson}
use Rattle.kj_value.specs.Text.{text_of}
use Rattle.kube_meta.specs.Document.{document}
use Rattle.kube_meta.specs.Key.{KeyView}
use Rattle.kube_meta.specs.Names.{is_name, is_namespace}
use Rattle.kube_meta.specs.View.{ObjectView}
use Rattle.kube_meta.specs.declared.limits.Limits.{Limits}
use Rattle.kube_meta.specs.declared.limits.Room.{Room}
use Rattle.http_wire.specs.Head.{Request}
use Rattle.http_wire.specs.Response.{HasPhrase}
use Rattle.http_wire.specs.laws.PhraseLaws.{phrase-201, phrase-400, phrase-405, phrase-411, phrase-413, phrase-431, phrase-503}
use Rattle.wire_laws.specs.Sendable.{is_visible, sent}
use Rattle.wire_laws.proofs.Digits.{passes}
use Rattle.object_reading.specs.Fields.{text_at}
use Rattle.object_reading.specs.Refusal.{is_given_text}
use Rattle.api_calls.specs.Calls as calls
use Rattle.api_calls.specs.Calls.{Comes, Decides, Failure, answered, failure_refusal}
use Rattle.api_calls.specs.Documents.{numbered}
use Rattle.api_calls.specs.Ends.{Decision, WriteEnd, present, says, storage_moved, unserved}
use Rattle.api_calls.specs.Item.{Create, Item, entry}
use Rattle.api_calls.specs.Legal.{In, key_of, legal, legal_from}
use Rattle.api_calls.specs.Meaning as meaning
use Rattle.api_calls.specs.Meaning.{Fault, Meaning, bad_request, invalid}
use Rattle.api_calls.specs.Objects.{find}
use Rattle.api_calls.specs.Refusal as refusal
use Rattle.api_calls.specs.Refusal.{RefusalView, already_exists, conflict, converter, expired, invalid as invalid_view, migration_running, no_memory, no_resource, not_found, still_stored}
use Rattle.api_calls.specs.Replies as replies
use Rattle.api_calls.specs.Replies.{CreateReply, Creates, IsRefusedRequest, IsShown, ShowsObject, WeighsIt, Wrote, code_created, fault_refusal}
use Rattle.api_calls.specs.Reply.{ReplyView}
use Rattle.api_calls.specs.Room.{lacking}
use Rattle.api_calls.specs.State.{State, number_from, opening, revision, served, state, state_from}
use Rattle.api_calls.specs.Status.{code_of_refusal}
use Rattle.api_calls.specs.Uid.{uid}
use Rattle.api_calls.specs.Values.{created_value}
use Rattle.api_calls.specs.Versions.{KeepsKey, Stand, StandsAt}
use Rattle.api_calls.specs.Writes.{if_storage, with_room}
use Rattle.api_calls.proofs.Parts.{legal_from-append}
use Rattle.api_calls.proofs.Tokens.{name_fits, namespace_fits}
use Rattle.http_routes.specs.Actions as action
use Rattle.http_routes.specs.Actions.{Action, IsVersion, Paging, call_of, cell, row_of, version_in}
use Rattle.http_routes.specs.Paths as path
use Rattle.http_routes.specs.Paths.{Resource, path_of, segments, slash}
use Rattle.http_routes.specs.Routes as route
use Rattle.http_routes.specs.Routes.{IsPlain, Route, Routes, path_in}
use Rattle.request_replies.specs.Replies.{Front, Replies, RepliesToCall, RoutedReply, about, refused, replied}
use Rattle.request_replies.specs.declared.about.About.{About}
use Rattle.request_replies.specs.declared.about.About.TheVariants.{Objects}
use Rattle.place.specs.Place.{Names}
use Rattle.wire_client.specs.Answers as client
use Rattle.wire_client.specs.Answers.{form_fault, given, reply_by_code, success_of}
use Rattle.wire_client.specs.Calls.{in_namespace, posts, request_of, version_path}
use Rattle.wire_client.specs.Forms.{Path, Wanted, api_version, fields_fault, fields_of, first_told, fits, has_name, has_namespace, has_number, has_version, key_in, meta_field, object_fault, of_object, told_if}
use Rattle.wire_client.specs.declared.buffer.TheConstants.{ANSWER_LEVELS}
use Rattle.far_laws.specs.Answering.{Answered, all_of}
use Rattle.far_laws.proofs.Decided.{IsRequest, decides_or, replies as reply_of_decision}
use Rattle.far_laws.proofs.Keyed.{formed_given}
use Rattle.far_laws.proofs.PageForms.{OneReading, TextReads, json_key, key_of_document, numbered_depth, numbered_sound}
use Rattle.far_laws.specs.Speaking.{AnswersIt, AreNames, Speaks, head_codes, speaker}
use Rattle.far_laws.proofs.Asked.{IsAddressed, asked_is}
use Rattle.far_laws.proofs.Received.{given_nothing, given_says}
use Rattle.far_laws.proofs.Segments.{OfVisible, name_of_names, namespace_of_names, plain_names, segments_alone, segments_slash, visible_append, visible_names}
use Rattle.far_laws.proofs.Statuses.{refusal_phrase}
use Rattle.far_laws.specs.Restored.{IsStoredFor}

-- ---- the target

regrouped : (a g s v b ns p : List ℕ) → ((((a ++ g) ++ (s ++ v)) ++ (b ++ ns)) ++ (s ++ p)) ≡ a ++ (g ++ (s ++ (v ++ (b ++ (ns ++ (s ++ p))))))
regrouped a g s v b ns p = simp append_assoc

abbrev target_parts : Names → List ℕ → List ℕ
target_parts n ns = [] ++ slash ∷ (codes "apis" ++ slash ∷ (n.group ++ slash ∷ (n.version ++ slash ∷ (codes "namespaces" ++ slash ∷ (ns ++ slash ∷ n.plural)))))

target_is : (n : Names) (ns : List ℕ) → in_namespace n ns ≡ target_parts n ns
unfolding version_path
target_is n ns = regrouped (codes "/apis/") n.group (codes "/") n.version (codes "/namespaces/") ns n.plural

post_token : IsToken (codes "POST")
unfolding is_token_byte
post_token = (omega arith, passes is_token_byte (codes "POST") refl)

module _ (n : Names) (names : AreNames n) (ns : List ℕ) (valid : IsTrue (is_namespace ns)) where
  collection_segments : segments (path_in (in_namespace n ns)) ≡ [] ∷ codes "apis" ∷ n.group ∷ n.version ∷ codes "namespaces" ∷ ns ∷ n.plural ∷ []
  collection_segments =
      let group = plain_names n.group (name_of_names n.group names.group) in
      let version = plain_names n.version (namespace_of_names n.version names.version) in
      let plural = plain_names n.plural (namespace_of_names n.plural names.plural) in
      let space = plain_names ns (namespace_of_names ns valid) in
      let s6 = segments_alone n.plural plural in
      let s5 = segments_slash ns n.plural space ∙ ap (λ (ss : List (List ℕ)). ns ∷ ss) s6 in
      let s4 = segments_slash (codes "namespaces") (ns ++ slash ∷ n.plural) (plain_names (codes "namespaces") refl) ∙ ap (λ (ss : List (List ℕ)). codes "namespaces" ∷ ss) s5 in
      let s3 = segments_slash n.version (codes "namespaces" ++ slash ∷ (ns ++ slash ∷ n.plural)) version ∙ ap (λ (ss : List (List ℕ)). n.version ∷ ss) s4 in
      let s2 = segments_slash n.group (n.version ++ slash ∷ (codes "namespaces" ++ slash ∷ (ns ++ slash ∷ n.plural))) group ∙ ap (λ (ss : List (List ℕ)). n.group ∷ ss) s3 in
      let s1 = segments_slash (codes "apis") (n.group ++ slash ∷ (n.version ++ slash ∷ (codes "namespaces" ++ slash ∷ (ns ++ slash ∷ n.plural)))) (plain_names (codes "apis") refl)
      ∙ ap (λ (ss : List (List ℕ)). codes "apis" ∷ ss) s2 in
      ap (λ (t : List ℕ). segments (path_in t)) (target_is n ns)
      ∙ segments_slash [] (codes "apis" ++ slash ∷ (n.group ++ slash ∷ (n.version ++ slash ∷ (codes "namespaces" ++ slash ∷ (ns ++ slash ∷ n.plural))))) (All-nil IsPlain)
      ∙ ap (λ (ss : List (List ℕ)). [] ∷ ss) s1

  collection_visible : OfVisible (in_namespace n ns)
  unfolding version_path
  collection_visible =
      let group = visible_names n.group (name_of_names n.group names.group) in
      let version = visible_names n.version (namespace_of_names n.version names.version) in
      let plural = visible_names n.plural (namespace_of_names n.plural names.plural) in
      let space = visible_names ns (namespace_of_names ns valid) in
      let base = visible_append (codes "/apis/" ++ n.group) (codes "/" ++ n.version) (visible_append (codes "/apis/") n.group refl group) (visible_append (codes "/") n.version refl version) in
      let within = visible_append ((codes "/apis/" ++ n.group) ++ (codes "/" ++ n.version)) (codes "/namespaces/" ++ ns) base (visible_append (codes "/namespaces/") ns refl space) in
      visible_append (((codes "/apis/" ++ n.group) ++ (codes "/" ++ n.version)) ++ (codes "/namespaces/" ++ ns)) (codes "/" ++ n.plural) within (visible_append (codes "/") n.plural refl plural)

  collection_long : (length (in_namespace n ns) ≤ 16_000) × (0 < length (in_namespace n ns))
  unfolding version_path
  collection_long =
      let group = name_fits n.group names.group in
      let version = namespace_fits n.version names.version in
      let plural = namespace_fits n.plural names.plural in
      let space = namespace_fits ns valid in
      (simp length-append (omega (arith, group, version, plural, space)), simp length-append (omega arith))

  post_addressed : IsAddressed (codes "POST") (in_namespace n ns)
  post_addressed =
      let most = collection_long.0 in
      record {
        sendable = λ body head. record { token = post_token; some = collection_long.1; visible = passes is_visible (in_namespace n ns) collection_visible; head = head };
        short = omega (arith, most);
      }

  -- ---- the route

  -- the objects of the namespace, or a status, to which nothing is posted
  data IsCollection (r : Resource) (version : List ℕ) : Type 0 where
    objects : r ≡ path.collection version ns → IsCollection r version
    no_post : cell (row_of r) (codes "POST") ≡ None → IsCollection r version

  status_cell : cell (row_of path.crd_status) (codes "POST") ≡ None
  unfolding cell
  status_cell = refl

  collection_of : (m : Meaning) (r : Resource) (a b c d e : List ℕ) → [] ∷ a ∷ b ∷ c ∷ d ∷ ns ∷ e ∷ [] ≡ path_of m r → IsCollection r c
  collection_of m path.group a b c d e is = cc
  collection_of m (path.everywhere v) a b c d e is = cc
  collection_of m (path.collection v space) a b c d e is =
      let same : space ≡ ns = cc in
      let version : v ≡ c = cc in
      objects (ap (λ (s : List ℕ). path.collection v s) same ∙ ap (λ (w : List ℕ). path.collection w ns) version)
  collection_of m (path.object v k) a b c d e is = cc
  collection_of m path.crd a b c d e is = cc
  collection_of m path.crd_status a b c d e is = no_post status_cell
  collection_of m path.migrations a b c d e is = cc
  collection_of m (path.migration name) a b c d e is = cc
  collection_of m (path.raw k) a b c d e is = cc

  post_cell : (v : List ℕ) → cell (row_of (path.collection v ns)) (codes "POST") ≡ Some (action.create v ns)
  unfolding cell
  post_cell v = refl

  one_action : (a b : Action) → Some a ≡ Some b → a ≡ b
  one_action a b e = cc

  no_action : (a : Action) (o : Option Action) → o ≡ None → o ≡ Some a → ⊥
  no_action a o none is = cc

  -- a post to a namespace is a create
  post_routed : (m : Meaning) (body : List ℕ) (c : calls.Call) → Routes m (codes "POST") (in_namespace n ns) body (route.calls c)
      → (v : ℕ) × IsVersion m n.version v × (c ≡ calls.create (record { version = v; ns = ns; name = None; bytes = body }))
  post_routed m body c r = by (collection_of m r.0 (codes "apis") n.group n.version (codes "namespaces") n.plural (sym collection_segments ∙ r.4.asks.named.1))
    where
      by : IsCollection r.0 n.version → (v : ℕ) × IsVersion m n.version v × (c ≡ calls.create (record { version = v; ns = ns; name = None; bytes = body }))
      by (no_post none) = absurd (no_action r.1 _ none r.4.asks.asked)
      by (objects is) =
          let asked = r.1 in
          let paging : Paging = r.2 in
          let place = r.3 in
          let same : asked ≡ action.create n.version ns =
          one_action asked (action.create n.version ns) (sym r.4.asks.asked ∙ ap (λ (q : Resource). cell (row_of q) (codes "POST")) is ∙ post_cell n.version) in
          let known : IsVersion m n.version place = subst (λ (a : Action). IfSome (version_in a) (λ name. IsVersion m name place)) same r.5 in
          (place, known, r.6 ∙ ap (λ (a : Action). call_of a place body paging) same)

-- ---- codes

-- a refusal's code isn't that of a creation
refusal_not_created : (e : RefusalView) → code_of_refusal e ≡ 201 → ⊥
refusal_not_created (not_found name) is = omega (arith, is)
refusal_not_created no_resource is = omega (arith, is)
refusal_not_created (already_exists name) is = omega (arith, is)
refusal_not_created (conflict name newer) is = omega (arith, is)
refusal_not_created (invalid_view subject cause) is = omega (arith, is)
refusal_not_created (refusal.bad_request why) is = omega (arith, is)
refusal_not_created (expired floor) is = omega (arith, is)
refusal_not_created (refusal.full room) is = omega (arith, is)
refusal_not_created (migration_running name) is = omega (arith, is)
refusal_not_created (still_stored version key) is = omega (arith, is)
refusal_not_created converter is = omega (arith, is)
refusal_not_created no_memory is = omega (arith, is)

record IsOther (c : ℕ) : Type 0 where
  phrase : HasPhrase c
  not_created : c ≡ 201 → ⊥

other_code : (c : ℕ) → In c head_codes → IsOther c
other_code c (inl is) = subst IsOther (sym is) (record { phrase = phrase-400; not_created = λ e. omega (arith, e) })
other_code c (inr (inl is)) = subst IsOther (sym is) (record { phrase = phrase-411; not_created = λ e. omega (arith, e) })
other_code c (inr (inr (inl is))) = subst IsOther (sym is) (record { phrase = phrase-413; not_created = λ e. omega (arith, e) })
other_code c (inr (inr (inr (inl is)))) = subst IsOther (sym is) (record { phrase = phrase-431; not_created = λ e. omega (arith, e) })
other_code c (inr (inr (inr (inr never)))) = absurd never

-- ---- the create

create_request : (r : meaning.Request) → IsRequest (calls.create r)
create_request r = record { fails = λ f t h. h; no_work = λ claim e. cc }

-- a create that shows the object that it entered
record Made (m : Meaning) (boot n v : ℕ) (h : ObjectView) (i : Option Item) (a : ReplyView) : Type 0 where
  w : ℕ
  item : i ≡ Some (entry (Create (key_of h) h w))
  shows : ShowsObject m boot 201 v h n n (Ok a)

nat_itself : (k : ℕ) → nat_eq k k ≡ true
nat_itself k = grind (arith, nat_tests)

created_by : (m : Meaning) (limits : Limits) (boot n : ℕ) (s : State) (v : ℕ) (h : ObjectView) (w : ℕ) (a : ReplyView) (i : Option Item) → Creates m limits boot n s v h w (Ok a) i → Made m boot n v h i a
created_by m limits boot n s v h w a i c = by_served (not (served s.flags v)) c.0 c.1
  where
    Makes : Decision WriteEnd → Type 0
    Makes d = Wrote m boot code_created v h.meta.name h d.answer (Ok a) → i ≡ d.item → Made m boot n v h i a

    by_room : (o : Option Room) → Makes (with_room n n (entry (Create (key_of h) h w)) o)
    by_room (Some r) wrote is = cc
    by_room None wrote is = record { w = w; item = is; shows = wrote }

    by_storage : (b : Bool) → b ≡ true → Makes (if b then with_room n n (entry (Create (key_of h) h w)) (lacking limits s.objects w) else says (storage_moved s.flags.storage))
    by_storage true same wrote is = by_room (lacking limits s.objects w) wrote is
    by_storage false same wrote is = cc

    by_present : (b : Bool) → Makes (if b then says present else if_storage s s.flags.storage (with_room n n (entry (Create (key_of h) h w)) (lacking limits s.objects w)))
    by_present true wrote is = cc
    by_present false wrote is = by_storage (nat_eq s.flags.storage s.flags.storage) (nat_itself s.flags.storage) wrote is

    by_served : (b : Bool)
        → Makes (if b then says unserved
        else if is_some (find (key_of h) s.objects) then says present
        else if_storage s s.flags.storage (with_room n n (entry (Create (key_of h) h w)) (lacking limits s.objects w)))
    by_served true wrote is = cc
    by_served false wrote is = by_present (is_some (find (key_of h) s.objects)) wrote is

-- of a request: what is admitted of it
record MadeOf (m : Meaning) (boot n : ℕ) (r : meaning.Request) (i : Option Item) (a : ReplyView) : Type 0 where
  admitted : ObjectView
  number : Option ℕ
  admits : m.admits r admitted number
  stamp : List ℕ
  made : Made m boot n r.version (created_value stamp admitted) i a

made_by : (m : Meaning) (limits : Limits) (boot n : ℕ) (s : State) (r : meaning.Request) (stamp : List ℕ) (a : ReplyView) (i : Option Item) → CreateReply m limits boot n s r stamp (Ok a) i
    → MadeOf m boot n r i a
made_by m limits boot n s r stamp a i reply = by (served s.flags r.version) reply
  where
    Either : Type 0
    Either = IsRefusedRequest m r (Ok a) i
        ⊎ ((new : ObjectView) × (e : Option ℕ) × (w : ℕ) × m.admits r new e × WeighsIt m new w × Creates m limits boot n s r.version (created_value stamp new) w (Ok a) i)

    by_either : Either → MadeOf m boot n r i a
    by_either (inl refuses) = let never : Ok a ≡ Err (fault_refusal m refuses.0) = refuses.2 in cc
    by_either (inr c) = record {
      admitted = c.0;
      number = c.1;
      admits = c.3;
      stamp = stamp;
      made = created_by m limits boot n s r.version (created_value stamp c.0) c.2 a i c.5;
    }

    by : (b : Bool) → MatchBool b Either ((Ok a ≡ Err refusal.no_resource) × (i ≡ None)) → MadeOf m boot n r i a
    by true h = by_either h
    by false h = let never : Ok a ≡ Err refusal.no_resource = h.0 in cc

-- ---- the form of what is given

pub first_true : (a b : Bool) → (a && b) ≡ true → a ≡ true
first_true true b e = refl
first_true false b e = e

pub second_true : (a b : Bool) → (a && b) ≡ true → b ≡ true
second_true true b e = e
second_true false b e = absurd (cc)

all_hold : (a b c d : Bool) (p q r s : Path) → first_told (told_if (not a) p ∷ told_if (not b) q ∷ told_if (not c) r ∷ told_if (not d) s ∷ []) ≡ None → (b ≡ true) × (c ≡ true)
all_hold false b c d p q r s e = absurd (cc)
all_hold true false c d p q r s e = absurd (cc)
all_hold true true false d p q r s e = absurd (cc)
all_hold true true true d p q r s e = (refl, refl)

judged : (kind : List ℕ → Bool) (o : Option Json) → is_given_text kind o ≡ true → kind (unwrap_or (text_at o) []) ≡ true
judged kind None e = absurd (cc)
judged kind (Some null) e = absurd (cc)
judged kind (Some (boolean b)) e = absurd (cc)
judged kind (Some (whole z)) e = absurd (cc)
judged kind (Some (text t)) e = e
judged kind (Some (list js)) e = absurd (cc)
judged kind (Some (object ms)) e = absurd (cc)

object_holds : (version : List ℕ) (w : Wanted) (k : Json) → object_fault version w k ≡ None → (has_namespace w.ns (fields_of k) ≡ true) × (has_name w.name (fields_of k) ≡ true)
unfolding fields_fault
object_holds version w k e = by_fields (as_object k) e
  where
    by_fields : (o : Option Pairs) → of_object (fields_fault version w) o ≡ None → (has_namespace w.ns (unwrap_or o []) ≡ true) × (has_name w.name (unwrap_or o []) ≡ true)
    by_fields None h = cc
    by_fields (Some fs) h =
        all_hold (has_version version fs) (has_namespace w.ns fs) (has_name w.name fs) (has_number fs) (codes "apiVersion") (codes "metadata.namespace") (codes "metadata.name") (codes "metadata.resourceVersion") h

space_is : (ns : List ℕ) (fs : Pairs) → has_namespace (Some ns) fs ≡ true → (key_in fs).ns ≡ ns
space_is ns fs e =
    let told = unwrap_or (text_at (meta_field (codes "namespace") fs)) [] in
    (bytes_eq-Decides told ns).0 (second_true (is_namespace told) (bytes_eq told ns) (judged (λ s. is_namespace s && fits (Some ns) s) (meta_field (codes "namespace") fs) e))

name_is : (o : Option (List ℕ)) (fs : Pairs) → IsTrue (is_name (unwrap_or o [])) → has_name o fs ≡ true → (key_in fs).name ≡ unwrap_or o []
unfolding is_name
name_is None fs valid e = absurd (cc)
name_is (Some name) fs valid e =
    let told = unwrap_or (text_at (meta_field (codes "name") fs)) [] in
    (bytes_eq-Decides told name).0 (second_true (is_name told) (bytes_eq told name) (judged (λ s. is_name s && fits (Some name) s) (meta_field (codes "name") fs) e))

-- ---- what was posted

-- all that was entered is one create for the document, under its key
pub record IsCreate (m : Meaning) (n : Names) (j : Json) (own : List Item) : Type 0 where
  pub h : ObjectView
  pub w : ℕ
  pub stored : IsStoredFor m n j h
  pub own_is : own ≡ entry (Create (json_key j) h w) ∷ []

module _ (f : Front) (n : Names) (names : AreNames n) (text_reads : TextReads) (one_reading : OneReading) (stand : Stand f.server.meaning) (keeps : KeepsKey f.server.meaning) where
  abbrev m : Meaning
  m = f.server.meaning

  -- the server made it, and showed it
  record IsPost (ns : List ℕ) (j : Json) (log own : List Item) (k : Json) : Type 0 where
    v : ℕ
    version : IsVersion m n.version v
    reply : ReplyView
    item : Option Item
    of : MadeOf m f.server.boot (revision log + 1) (record { version = v; ns = ns; name = None; bytes = text_of j }) item reply
    reads : Reads reply.text ANSWER_LEVELS k
    own_is : own ≡ all_of item

  answered_post : (ns : List ℕ) (j k : Json) (log own : List Item) (bytes : List ℕ) → IsTrue (is_namespace ns) → AnswersIt f log (request_of n (posts ns j)) bytes own
      → client.Replies n (posts ns j) (Some bytes) (given k) → IsPost ns j log own k
  answered_post ns j k log own bytes valid a r = by_reply (subst (λ (q : Request). Replies f (Unit {0}) a.seen log q a.reply a.item) is a.replies)
    where
      asked : Request
      asked = sent (codes "POST") (in_namespace n ns) (text_of j)

      is : a.request ≡ asked
      is = asked_is (codes "POST") (in_namespace n ns) (text_of j) a.rest a.request (post_addressed n names ns valid) a.few a.reads

      ok : HasPhrase a.reply.code → (a.reply.code ≡ 201) × Reads a.reply.text ANSWER_LEVELS k
      ok has = given_says n (posts ns j) bytes a.reply.text a.reply.code k has a.short a.answer_is r

      not_code : (c : ℕ) → HasPhrase c → (c ≡ 201 → ⊥) → a.reply.code ≡ c → ⊥
      not_code c has other same = other (sym same ∙ (ok (subst HasPhrase (sym same) has)).0)

      not_refused : (subject : About) (e : RefusalView) → a.reply ≡ refused m subject e → ⊥
      not_refused subject e same = not_code (code_of_refusal e) (refusal_phrase e) (refusal_not_created e) (ap (λ (q : ReplyView). q.code) same)

      asks : ℕ → meaning.Request
      asks v = record { version = v; ns = ns; name = None; bytes = text_of j }

      made : (c : calls.Call) (v : ℕ) (w : ReplyView) (stamp : List ℕ) → c ≡ calls.create (asks v) → Comes f.server (Unit {0}) stamp a.seen log c (answered (Ok w)) a.item
          → MadeOf m f.server.boot (revision log + 1) (asks v) a.item w
      made c v w stamp is_create comes = by (decides_or f.server stamp a.seen log c (calls.create (asks v)) (answered (Ok w)) a.item (Ok w) is_create refl (create_request (asks v)) comes)
        where
          by : ((fl : Failure) × (Ok w ≡ Err (failure_refusal fl))) ⊎ Decides f.server stamp log (calls.create (asks v)) (answered (Ok w)) a.item → MadeOf m f.server.boot (revision log + 1) (asks v) a.item w
          by (inl failed) = let never : Ok w ≡ Err (failure_refusal failed.0) = failed.1 in cc
          by (inr h) = made_by m f.server.limits f.server.boot (revision log + 1) (state m log) (asks v) stamp w a.item
              (reply_of_decision (CreateReply m f.server.limits f.server.boot (revision log + 1) (state m log) (asks v) stamp) (Ok w) a.item h)

      by_answer : (c : calls.Call) (v : ℕ) → IsVersion m n.version v → c ≡ calls.create (asks v) → (rep : RepliesToCall f (Unit {0}) a.seen log c a.reply a.item) → (x : replies.Answer) → rep.answer ≡ x → IsPost ns j log own k
      by_answer c v known is_create rep (Ok w) given_ok =
          let same : a.reply ≡ w = rep.told ∙ ap (λ (x : replies.Answer). replied m (about c) x) given_ok in
          let comes = subst (λ (x : replies.Answer). Comes f.server (Unit {0}) rep.stamp a.seen log c (answered x) a.item) given_ok rep.comes in
          let one = made c v w rep.stamp is_create comes in
          let shows = one.made.shows in
          let told = ok (subst HasPhrase (sym (ap (λ (q : ReplyView). q.code) same ∙ shows.0)) phrase-201) in
          record { v = v; version = known; reply = w; item = a.item; of = one; reads = subst (λ (q : ReplyView). Reads q.text ANSWER_LEVELS k) same told.1; own_is = a.own_is }
      by_answer c v known is_create rep (Err e) refused_so = absurd (not_refused (about c) e (rep.told ∙ ap (λ (x : replies.Answer). replied m (about c) x) refused_so))

      by_route : (rt : Route) → Routes m (codes "POST") (in_namespace n ns) (text_of j) rt → RoutedReply f (Unit {0}) a.seen log rt a.reply a.item → IsPost ns j log own k
      by_route (route.calls c) routes rep =
          let at = post_routed n names ns valid m (text_of j) c routes in
          by_answer c at.0 at.1 at.2 rep rep.answer refl
      by_route route.no_resource routes rep = absurd (not_refused Objects refusal.no_resource rep.0)
      by_route route.method_not_allowed routes rep = absurd (not_code 405 phrase-405 (λ e. omega (arith, e)) (ap (λ (q : ReplyView). q.code) rep.0))
      by_route (route.bad_request why) routes rep = absurd (not_refused Objects (refusal.bad_request why) rep.0)

      by_reply : Replies f (Unit {0}) a.seen log asked a.reply a.item → IsPost ns j log own k
      by_reply (inl exactly) = by_route exactly.route exactly.routes exactly.reply
      by_reply (inr wants) = absurd (not_code 503 phrase-503 (λ e. omega (arith, e)) (ap (λ (q : ReplyView). q.code) wants.0))

  posted : (ns : List ℕ) (j k : Json) (log own : List Item) → IsTrue (is_namespace ns) → Answered (speaker f) n (posts ns j) log own (given k) → IsPost ns j log own k
  posted ns j k log own valid a = by a.answers
    where
      by : Speaks f log (request_of n (posts ns j)) a.bytes own → IsPost ns j log own k
      by (inl it) = answered_post ns j k log own a.bytes valid it a.replies
      by (inr (inl r)) =
          let other = other_code r.code r.coded in
          absurd (other.not_created (given_says n (posts ns j) a.bytes r.text r.code k other.phrase r.short r.answer_is a.replies).0)
      by (inr (inr none)) = absurd (given_nothing n (posts ns j) k (subst (λ (b : List ℕ). client.Replies n (posts ns j) (Some b) (given k)) none.0 a.replies))

  -- ---- its key

  -- a value that a history enters is whole
  whole_in : (log own : List Item) (h : ObjectView) (w : ℕ) → IsTrue m.honest → own ≡ entry (Create (key_of h) h w) ∷ [] → legal m f.server.limits (log ++ own) → m.whole h
  whole_in log own h w honest is l =
      let parts = legal_from-append m f.server.limits 2 (opening m) log own l in
      let here : legal_from m f.server.limits (number_from 2 log) (state_from 2 (opening m) log) (entry (Create (key_of h) h w) ∷ []) =
      subst (λ (items : List Item). legal_from m f.server.limits (number_from 2 log) (state_from 2 (opening m) log) items) is parts.1 in
      let may = here.0 in
      let value = may.value honest in
      value.whole

  abbrev value_of : {ns : List ℕ} {j : Json} {log own : List Item} {k : Json} → IsPost ns j log own k → ObjectView
  value_of p = created_value p.of.stamp p.of.admitted

  shown_key : (ns : List ℕ) (j : Json) (log own : List Item) (k : Json) → IsTrue m.honest → legal m f.server.limits (log ++ own) → (p : IsPost ns j log own k) → json_key k ≡ key_of (value_of p)
  shown_key ns j log own k honest l p =
      let h : ObjectView = value_of p in
      let made = p.of.made in
      let shows = made.shows in
      let number = revision log + 1 in
      let own_is : own ≡ entry (Create (key_of h) h made.w) ∷ [] = p.own_is ∙ ap all_of made.item in
      let kept = whole_in log own h made.w honest own_is l in
      let x : ObjectView = shows.1.0 in
      let pairs = shows.1.1 honest in
      let at : StandsAt m p.v x = stand.pair p.v h x p.version.0 kept pairs in
      let doc : Json = document (numbered f.server.boot number number x) in
      let sound : IsSoundJson doc = numbered_sound x (decimal number) (uid f.server.boot number) at.no_number at.no_uid at.sound in
      let deep : depth doc ≡ depth (document x) = numbered_depth x (decimal number) (uid f.server.boot number) at.no_number at.no_uid in
      let levels = at.levels in
      let reads = p.reads in
      let read : Reads (text_of doc) ANSWER_LEVELS k = subst (λ (b : List ℕ). Reads b ANSWER_LEVELS k) shows.1.2 reads in
      let utf8 : IsUtf8 (text_of doc) = read.1.0 in
      let same : k ≡ doc = one_reading (text_of doc) ANSWER_LEVELS (depth doc) k doc read (text_reads doc sound (omega (arith, deep, levels)) utf8) in
      let name = keeps.name p.v h x p.version.0 kept pairs in
      let namespace = keeps.namespace p.v h x p.version.0 kept pairs in
      ap json_key same ∙ key_of_document (numbered f.server.boot number number x) ∙ (λ i. record { ns = namespace i; name = name i })

  asked_key : (j k : Json) (bytes : List ℕ) → IsTrue (is_name (json_key j).name) → client.Replies n (posts (json_key j).ns j) (Some bytes) (given k) → json_key k ≡ json_key j
  asked_key j k bytes valid r =
      let call = posts (json_key j).ns j in
      let form : form_fault (api_version n) call k ≡ None = formed_given (api_version n) call (reply_by_code (success_of call) r.0) k r.2 in
      let wanted : Wanted = record { ns = Some (json_key j).ns; name = text_at (meta_field (codes "name") (fields_of j)) } in
      let holds = object_holds (api_version n) wanted k form in
      let ns = space_is (json_key j).ns (fields_of k) holds.0 in
      let name = name_is (text_at (meta_field (codes "name") (fields_of j))) (fields_of k) valid holds.1 in
      λ i. record { ns = ns i; name = name i }

  pub post_creates : (j k : Json) (log own : List Item) → IsTrue (is_namespace (json_key j).ns) → IsTrue (is_name (json_key j).name) → IsTrue m.honest → legal m f.server.limits (log ++ own)
      → Answered (speaker f) n (posts (json_key j).ns j) log own (given k) → IsCreate m n j own
  post_creates j k log own space name honest l a =
      let ns = (json_key j).ns in
      let p = posted ns j k log own space a in
      let h : ObjectView = value_of p in
      let made = p.of.made in
      let key : key_of h ≡ json_key j = sym (shown_key ns j log own k honest l p) ∙ asked_key j k a.bytes name a.replies in
      record {
        h = h;
        w = made.w;
        stored = record { v = p.v; version = p.version; admitted = p.of.admitted; number = p.of.number; admits = p.of.admits; stamp = p.of.stamp; value = refl };
        own_is = p.own_is ∙ ap all_of made.item ∙ ap (λ (q : KeyView). entry (Create q h made.w) ∷ []) key;
      }
