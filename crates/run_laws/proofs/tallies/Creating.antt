-- What a server enters by a request creates objects only under a namespace and a name, by values that were admitted.
use Rattle.std.proofs.Common.{◌≡◌, ◌∙◌, refl, sym, ap, subst, inl, inr, ℕ, ◌+◌, Bool, true, false, not, List, Option, None, Some, Err, codes}
use Rattle.std.specs.List.{list_all}
use Rattle.std.specs.Str.{bytes_eq}
use Rattle.std.proofs.lemmas.Bool.{MatchBool-at_true}
use Rattle.std.specs.Prelude.{filter, ◌⊎◌, ◌&&◌, IsTrue, MatchBool, MatchOption, is_some, nat_eq, if◌then◌else◌, ℤ, ◌+ℤ◌, pos}
use Rattle.kube_meta.specs.Key.{KeyView}
use Rattle.kube_meta.specs.Names.{is_namespace}
use Rattle.kube_meta.specs.Plan.{Migration, named, running}
use Rattle.kube_meta.specs.View.{ObjectView}
use Rattle.kube_meta.specs.declared.limits.Limits.{Limits}
use Rattle.kube_meta.specs.declared.limits.Room.{Room}
use Rattle.http_wire.specs.Head.{Request}
use Rattle.api_calls.specs.Calls as calls
use Rattle.api_calls.specs.Calls.{Comes, Decides, Told, answered, decided, lost, moved, not_converted, wants_memory}
use Rattle.api_calls.specs.Ends as ends
use Rattle.api_calls.specs.Ends.{Decision, SetEnd, StartEnd, TrimEnd, WriteEnd, done, enters, kept, newer, present, says, storage_moved}
use Rattle.api_calls.specs.Item.{Create, Delete, Item, Mark, Release, Replace, SetVersions, Trim, entry, Entry, MarkSucceeded, Touch, note, StartMigration}
use Rattle.api_calls.specs.Legal.{key_of}
use Rattle.api_calls.specs.Meaning as meaning
use Rattle.api_calls.specs.Meaning.{Meaning, stamped}
use Rattle.api_calls.specs.Objects.{Stored, find}
use Rattle.api_calls.specs.Bodies.{IsServedDelete}
use Rattle.api_calls.specs.Cause.{bad_options}
use Rattle.api_calls.specs.Refusal as refusal
use Rattle.api_calls.specs.Replies as replies
use Rattle.api_calls.specs.Reply.{ReplyView}
use Rattle.api_calls.specs.Replies.{CreateReply, CrdReply, DeleteReply, GetReply, GroupReply, ListReply, MigrationReply, MigrationsReply, RawReply, ReplaceReply, SetReply, StartReply, TrimReply}
use Rattle.api_calls.specs.Room.{lacking, lacking_chunks, lacking_migrations}
use Rattle.api_calls.specs.Settings.{first_held, first_unknown, same_flags, set_decision, start_decision, start_idle, start_room, trim_decision, trim_free, trim_known}
use Rattle.api_calls.specs.State.{State, has, joined, revision, served, state}
use Rattle.api_calls.specs.Values.{created_value, has_finalizer, is_forbidden, is_marked, is_release}
use Rattle.api_calls.specs.Versions.{AdmitsWhole, Stand}
use Rattle.api_calls.specs.Writes.{Replaces, Takes, create_decision, if_storage, removed, replaced, with_room}
use Rattle.http_routes.specs.Actions as action
use Rattle.http_routes.specs.Actions.{Action, Paging, Row, call_of, cell, row_of}
use Rattle.http_routes.specs.Paths as path
use Rattle.http_routes.specs.Paths.{IsKey, IsResource, Resource}
use Rattle.http_routes.specs.Routes as route
use Rattle.http_routes.specs.Routes.{Route, Routes}
use Rattle.request_replies.specs.Replies.{Front, Replies, RoutedReply}
use Rattle.far_laws.proofs.Replacing.{Accepts}

-- what an entry creates has a namespace and a name, and what it stores is so
abbrev entry_so : (ObjectView → Type 0) → Entry → Type 0
entry_so L (Create key h w) = IsKey key × L h
entry_so L (Replace key over h w) = L h
entry_so L (Mark key over stamp) = Unit {0}
entry_so L (Release key over) = Unit {0}
entry_so L (Touch key c) = Unit {0}
entry_so L (Delete key) = Unit {0}
entry_so L (SetVersions f) = Unit {0}
entry_so L (Trim keep) = Unit {0}
entry_so L (StartMigration name) = Unit {0}
entry_so L MarkSucceeded = Unit {0}

abbrev pub IsSo : (ObjectView → Type 0) → Item → Type 0
IsSo L (entry e) = entry_so L e
IsSo L (note x) = Unit {0}

abbrev pub EntersSo : (ObjectView → Type 0) → Option Item → Type 0
EntersSo L None = Unit {0}
EntersSo L (Some i) = IsSo L i

nothing : (L : ObjectView → Type 0) (i : Option Item) → i ≡ None → EntersSo L i
nothing L i is = subst (λ (o : Option Item). EntersSo L o) (sym is) tt

by_item : (L : ObjectView → Type 0) (i j : Option Item) → i ≡ j → EntersSo L j → EntersSo L i
by_item L i j is named_so = subst (λ (o : Option Item). EntersSo L o) (sym is) named_so

-- ---- decisions

room_named : (L : ObjectView → Type 0) (n born : ℕ) (i : Item) (o : Option Room) → IsSo L i → EntersSo L (with_room n born i o).item
room_named L n born i None named_so = named_so
room_named L n born i (Some r) named_so = tt

create_named : (L : ObjectView → Type 0) (limits : Limits) (n : ℕ) (s : State) (v : ℕ) (k : KeyView) (h : ObjectView) (w : ℕ) → IsKey k × L h → EntersSo L (create_decision limits n s v k h w).item
create_named L limits n s v k h w valid = by_served (served s.flags v)
  where
    made : Decision WriteEnd
    made = with_room n n (entry (Create k h w)) (lacking limits s.objects w)

    by_storage : (b : Bool) → EntersSo L (if b then made else says (storage_moved s.flags.storage)).item
    by_storage true = room_named L n n (entry (Create k h w)) (lacking limits s.objects w) valid
    by_storage false = tt

    by_present : (b : Bool) → EntersSo L (if b then says present else if_storage s s.flags.storage made).item
    by_present true = tt
    by_present false = by_storage (nat_eq s.flags.storage s.flags.storage)

    by_served : (b : Bool) → EntersSo L (if not b then says ends.unserved else if is_some (find k s.objects) then says present else if_storage s s.flags.storage made).item
    by_served true = by_present (is_some (find k s.objects))
    by_served false = tt

replaced_named : (L : ObjectView → Type 0) (limits : Limits) (n : ℕ) (s : State) (k : KeyView) (old h : ObjectView) (w : ℕ) (equal : Bool) (e : Stored) → L h → EntersSo L (replaced limits n s k old h w equal e).item
replaced_named L limits n s k old h w equal e fit = by_forbidden (is_forbidden old h)
  where
    by_same : (b : Bool)
        → EntersSo L (if b then says (ends.same e.number e.born) else with_room n e.born (entry (Replace k e.number h w)) (lacking_chunks limits s.objects e.weight w)).item
    by_same true = tt
    by_same false = room_named L n e.born (entry (Replace k e.number h w)) (lacking_chunks limits s.objects e.weight w) fit

    by_release : (b : Bool)
        → EntersSo L (if b then enters (done n e.born) (entry (Release k e.number))
        else if equal && nat_eq e.at s.flags.storage then says (ends.same e.number e.born)
        else with_room n e.born (entry (Replace k e.number h w)) (lacking_chunks limits s.objects e.weight w)).item
    by_release true = tt
    by_release false = by_same (equal && nat_eq e.at s.flags.storage)

    by_forbidden : (b : Bool)
        → EntersSo L (if b then says ends.forbidden
        else if is_release old h then enters (done n e.born) (entry (Release k e.number))
        else if equal && nat_eq e.at s.flags.storage then says (ends.same e.number e.born)
        else with_room n e.born (entry (Replace k e.number h w)) (lacking_chunks limits s.objects e.weight w)).item
    by_forbidden true = tt
    by_forbidden false = by_release (is_release old h)

removed_named : (L : ObjectView → Type 0) (n : ℕ) (k : KeyView) (old : ObjectView) (stamp : List ℕ) (e : Stored) → EntersSo L (removed n k old stamp e).item
removed_named L n k old stamp e = by_held (has_finalizer old)
  where
    by_marked : (b : Bool) → EntersSo L (if b then says (kept e.number e.born) else enters (kept n e.born) (entry (Mark k e.number stamp))).item
    by_marked true = tt
    by_marked false = tt

    by_held : (b : Bool)
        → EntersSo L (if not b then enters (done n e.born) (entry (Delete k))
        else if is_marked old then says (kept e.number e.born)
        else enters (kept n e.born) (entry (Mark k e.number stamp))).item
    by_held true = by_marked (is_marked old)
    by_held false = tt

-- ---- replies

module _ (m : Meaning) (limits : Limits) (boot : ℕ) (stand : Stand m) (whole : AdmitsWhole m) (L : ObjectView → Type 0)
    (fits : (r : meaning.Request) (new : ObjectView) (e : Option ℕ) → m.admits r new e → (created deleted : Option (List ℕ)) (generation : ℤ) → L (stamped new created deleted generation)) where
  create_reply : (n : ℕ) (s : State) (r : meaning.Request) (stamp : List ℕ) (a : replies.Answer) (i : Option Item) → IsTrue (is_namespace r.ns) → CreateReply m limits boot n s r stamp a i → EntersSo L i
  create_reply n s r stamp a i valid reply = by_served (served s.flags r.version) reply
    where
      key_is : (new : ObjectView) (e : Option ℕ) → m.admits r new e → IsKey (key_of (created_value stamp new))
      key_is new e admits =
          let is = whole.admitted r new e admits in
          let rules = (stand.whole new is.whole).rules in
          record { ns = subst (λ (ns : List ℕ). IsTrue (is_namespace ns)) (sym is.namespace) valid; name = rules.name }

      by_served : (b : Bool)
          → MatchBool b (replies.IsRefusedRequest m r a i
          ⊎ ((new : ObjectView) × (e : Option ℕ) × (w : ℕ) × m.admits r new e × replies.WeighsIt m new w × replies.Creates m limits boot n s r.version (created_value stamp new) w a i))
          ((a ≡ Err refusal.no_resource) × (i ≡ None)) → EntersSo L i
      by_served false h = nothing L i h.1
      by_served true (inl refused) = nothing L i refused.3
      by_served true (inr x) =
          let h = created_value stamp x.0 in
          by_item L i (create_decision limits n s r.version (key_of h) h x.2).item x.5.1 (create_named L limits n s r.version (key_of h) h x.2 (key_is x.0 x.1 x.3, fits r x.0 x.1 x.3 (Some stamp) None (pos 1)))

  replace_reply : (n : ℕ) (s : State) (r : meaning.Request) (k : KeyView) (a : replies.Answer) (i : Option Item) → ReplaceReply m limits boot n s r k a i → EntersSo L i
  replace_reply n s r k a i reply = by_served (served s.flags r.version) refl reply
    where
      by_decision : (d : Decision WriteEnd) → i ≡ d.item → EntersSo L d.item → EntersSo L i
      by_decision d is named_so = by_item L i d.item is named_so

      by_number : (new : ObjectView) (over w : ℕ) (h : ObjectView) (d : Decision WriteEnd) (e : Stored) → m.admits r new (Some over) → (b : Bool) → MatchBool b (Replaces m limits n s k new w e h d) (d ≡ says (newer e.number)) → i ≡ d.item
          → EntersSo L i
      by_number new over w h d e admits true dec is =
          by_item L i (replaced limits n s k dec.0 h w dec.1 e).item (is ∙ ap (λ (q : Decision WriteEnd). q.item) dec.5) (replaced_named L limits n s k dec.0 h w dec.1 e (subst L (sym dec.3.2) (fits r new (Some over) admits dec.0.meta.created dec.0.meta.deleted (if dec.3.0 then dec.0.meta.generation else dec.0.meta.generation +ℤ pos 1))))
      by_number new over w h d e admits false dec is = nothing L i (is ∙ ap (λ (q : Decision WriteEnd). q.item) dec)

      by_found : (new : ObjectView) (over w : ℕ) (h : ObjectView) (d : Decision WriteEnd) → m.admits r new (Some over) → (o : Option Stored)
          → MatchOption o (d ≡ says ends.gone) (λ e. MatchBool (nat_eq e.number over) (Replaces m limits n s k new w e h d) (d ≡ says (newer e.number))) → i ≡ d.item → EntersSo L i
      by_found new over w h d admits None dec is = nothing L i (is ∙ ap (λ (q : Decision WriteEnd). q.item) dec)
      by_found new over w h d admits (Some e) dec is = by_number new over w h d e admits (nat_eq e.number over) dec is

      by_served : (b : Bool) → served s.flags r.version ≡ b
          → MatchBool b (replies.IsRefusedRequest m r a i ⊎ Accepts m limits boot n s r k a i) ((a ≡ Err refusal.no_resource) × (i ≡ None)) → EntersSo L i
      by_served false off h = nothing L i h.1
      by_served true on (inl refused) = nothing L i refused.3
      by_served true on (inr x) =
          let dec = MatchBool-at_true (MatchOption (find k s.objects) (x.4 ≡ says ends.gone)
          (λ e. MatchBool (nat_eq e.number x.1) (Replaces m limits n s k x.0 x.2 e x.3 x.4) (x.4 ≡ says (newer e.number)))) (x.4 ≡ says ends.unserved) on x.7 in
          by_found x.0 x.1 x.2 x.3 x.4 x.5 (find k s.objects) dec x.9

  delete_reply : (n : ℕ) (s : State) (v : ℕ) (body : List ℕ) (k : KeyView) (stamp : List ℕ) (a : replies.Answer) (i : Option Item) → DeleteReply m boot n s v body k stamp a i → EntersSo L i
  delete_reply n s v body k stamp a i reply = by_served (served s.flags v) refl reply
    where
      by_found : (old : ObjectView) (d : Decision WriteEnd) (o : Option Stored) → MatchOption o (d ≡ says ends.gone) (λ e. Takes m e.h old × (d ≡ removed n k old stamp e)) → i ≡ d.item → EntersSo L i
      by_found old d None dec is = nothing L i (is ∙ ap (λ (q : Decision WriteEnd). q.item) dec)
      by_found old d (Some e) dec is = by_item L i (removed n k old stamp e).item (is ∙ ap (λ (q : Decision WriteEnd). q.item) dec.1) (removed_named L n k old stamp e)

      by_served : (b : Bool) → served s.flags v ≡ b
          → MatchBool b ((IsServedDelete body × replies.Deletes m boot n s v k stamp a i) ⊎ ((IsServedDelete body → ⊥) × (a ≡ Err (refusal.bad_request bad_options)) × (i ≡ None)))
          ((a ≡ Err refusal.no_resource) × (i ≡ None)) → EntersSo L i
      by_served false off h = nothing L i h.1
      by_served true on (inr h) = nothing L i h.2
      by_served true on (inl h) =
          let x = h.1 in
          let dec = MatchBool-at_true (MatchOption (find k s.objects) (x.1 ≡ says ends.gone) (λ e. Takes m e.h x.0 × (x.1 ≡ removed n k x.0 stamp e))) (x.1 ≡ says ends.unserved) on x.2 in
          by_found x.0 x.1 (find k s.objects) dec x.4

  set_reply : (s : State) (body : List ℕ) (a : replies.Answer) (i : Option Item) → SetReply m s body a i → EntersSo L i
  set_reply s body a i (inl bad) = nothing L i bad.3
  set_reply s body a i (inr x) = by_item L i (set_decision s x.0).item x.3 (by (same_flags x.0 s.flags))
    where
      by : (b : Bool) → EntersSo L (if b then says (ends.unchanged s.stored) else enters (ends.set (joined s.stored x.0.storage)) (entry (SetVersions x.0))).item
      by true = tt
      by false = tt

  trim_reply : (s : State) (body : List ℕ) (a : replies.Answer) (i : Option Item) → TrimReply m s body a i → EntersSo L i
  trim_reply s body a i (inl bad) = nothing L i bad.3
  trim_reply s body a i (inr x) = by_item L i (trim_decision s x.0).item x.3 (by_known (first_unknown s.stored x.0))
    where
      by_all : (b : Bool)
          → EntersSo L (if b then says (ends.untrimmed s.flags s.stored)
          else enters (ends.trimmed s.flags (filter (has x.0) s.stored)) (entry (Trim (filter (has x.0) s.stored)))).item
      by_all true = tt
      by_all false = tt

      by_free : (o : Option (ℕ × Option KeyView)) → EntersSo L (trim_free s x.0 o).item
      by_free (Some held) = tt
      by_free None = by_all (list_all (has x.0) s.stored)

      by_known : (o : Option ℕ) → EntersSo L (trim_known s x.0 o).item
      by_known (Some v) = tt
      by_known None = by_free (first_held x.0 s s.stored)

  start_reply : (s : State) (body : List ℕ) (a : replies.Answer) (i : Option Item) → StartReply m limits s body a i → EntersSo L i
  start_reply s body a i (inl bad) = nothing L i bad.3
  start_reply s body a i (inr x) = by_item L i (start_decision limits s x.0).item x.3 (by_taken (is_some (named x.0 s.migrations)))
    where
      by_room : (o : Option Room) → EntersSo L (start_room s x.0 o).item
      by_room (Some r) = tt
      by_room None = tt

      by_idle : (o : Option Migration) → EntersSo L (start_idle limits s x.0 o).item
      by_idle (Some q) = tt
      by_idle None = by_room (lacking_migrations limits s.migrations)

      by_taken : (b : Bool) → EntersSo L (if b then says ends.taken else start_idle limits s x.0 (running s.migrations)).item
      by_taken true = tt
      by_taken false = by_idle (running s.migrations)

-- ---- a request

comes_named : (L : ObjectView → Type 0) (s : calls.Server) (rose : Type 0) (stamp : List ℕ) (seen log : List Item) (c : calls.Call) (t : Told) (i : Option Item) → Comes s rose stamp seen log c t i
    → (Decides s stamp log c t i → EntersSo L i) → EntersSo L i
comes_named L s rose stamp seen log _ _ _ (decided c t i h) f = f h
comes_named L s rose stamp seen log _ _ _ (wants_memory c t h) f = tt
comes_named L s rose stamp seen log _ _ _ (not_converted c t up converts h) f = tt
comes_named L s rose stamp seen log _ _ _ (moved claim h) f = tt
comes_named L s rose stamp seen log _ _ _ (lost claim h) f = tt

-- a create is of a namespace
abbrev IsFit : Action → Type 0
IsFit (action.create v ns) = IsTrue (is_namespace ns)
IsFit a = Unit {0}

abbrev IsFitOr : Option Action → Type 0
IsFitOr None = Unit {0}
IsFitOr (Some a) = IsFit a

row_fit : (m : Meaning) (r : Resource) → IsResource m r → IsFitOr (row_of r).get × IsFitOr (row_of r).post × IsFitOr (row_of r).put × IsFitOr (row_of r).delete
row_fit m path.group valid = (tt, tt, tt, tt)
row_fit m (path.everywhere v) valid = (tt, tt, tt, tt)
row_fit m (path.collection v ns) valid = (tt, valid, tt, tt)
row_fit m (path.object v key) valid = (tt, tt, tt, tt)
row_fit m path.crd valid = (tt, tt, tt, tt)
row_fit m path.crd_status valid = (tt, tt, tt, tt)
row_fit m path.migrations valid = (tt, tt, tt, tt)
row_fit m (path.migration name) valid = (tt, tt, tt, tt)
row_fit m (path.raw key) valid = (tt, tt, tt, tt)

cell_fit : (r : Row) (method : List ℕ) → IsFitOr r.get × IsFitOr r.post × IsFitOr r.put × IsFitOr r.delete → IsFitOr (cell r method)
unfolding cell
cell_fit r method fit = by (bytes_eq method (codes "GET")) (bytes_eq method (codes "POST")) (bytes_eq method (codes "PUT")) (bytes_eq method (codes "DELETE"))
  where
    by : (g p u d : Bool) → IsFitOr (if g then r.get else (if p then r.post else (if u then r.put else (if d then r.delete else None))))
    by true p u d = fit.0
    by false true u d = fit.1
    by false false true d = fit.2
    by false false false true = fit.3
    by false false false false = tt

fit_of : (m : Meaning) (r : Resource) (method : List ℕ) (a : Action) → IsResource m r → cell (row_of r) method ≡ Some a → IsFit a
fit_of m r method a valid is = subst (λ (o : Option Action). IsFitOr o) is (cell_fit (row_of r) method (row_fit m r valid))

module _ (f : Front) (stand : Stand f.server.meaning) (whole : AdmitsWhole f.server.meaning) (L : ObjectView → Type 0)
    (fits : (r : meaning.Request) (new : ObjectView) (e : Option ℕ) → f.server.meaning.admits r new e → (created deleted : Option (List ℕ)) (generation : ℤ) → L (stamped new created deleted generation)) (rose : Type 0) (seen log : List Item) where
  abbrev m : Meaning
  m = f.server.meaning

  abbrev limits : Limits
  limits = f.server.limits

  abbrev boot : ℕ
  boot = f.server.boot

  by_action : (stamp : List ℕ) (a : Action) (v : ℕ) (body : List ℕ) (p : Paging) (t : Told) (i : Option Item) → IsFit a → Decides f.server stamp log (call_of a v body p) t i → EntersSo L i
  by_action stamp (action.get name key) v body p t i fit h = nothing L i h.2.0
  by_action stamp (action.list name ns) v body p t i fit h = nothing L i h.2.0
  by_action stamp (action.create name ns) v body p t i fit h = create_reply m limits boot stand whole L fits (revision log + 1) (state m log) (record { version = v; ns = ns; name = None; bytes = body }) stamp h.0 i fit h.2
  by_action stamp (action.replace name key) v body p t i fit h =
      replace_reply m limits boot stand whole L fits (revision log + 1) (state m log) (record { version = v; ns = key.ns; name = Some key.name; bytes = body }) key h.0 i h.2
  by_action stamp (action.delete name key) v body p t i fit h = delete_reply m limits boot stand whole L fits (revision log + 1) (state m log) v body key stamp h.0 i h.2
  by_action stamp action.group v body p t i fit h = nothing L i h.2.1
  by_action stamp action.crd v body p t i fit h = nothing L i h.2.1
  by_action stamp action.set_versions v body p t i fit h = set_reply m limits boot stand whole L fits (state m log) body h.0 i h.2
  by_action stamp action.trim v body p t i fit h = trim_reply m limits boot stand whole L fits (state m log) body h.0 i h.2
  by_action stamp action.start v body p t i fit h = start_reply m limits boot stand whole L fits (state m log) body h.0 i h.2
  by_action stamp (action.migration name) v body p t i fit h = nothing L i h.2.0
  by_action stamp action.migrations v body p t i fit h = nothing L i h.2.1
  by_action stamp (action.raw key) v body p t i fit h = nothing L i h.2.0

  by_route : (r : Request) (rt : Route) (a : ReplyView) (i : Option Item) → Routes m r.method r.target r.body rt → RoutedReply f rose seen log rt a i → EntersSo L i
  by_route r (route.calls c) a i routes rep =
      comes_named L f.server rose rep.stamp seen log c (answered rep.answer) i rep.comes
      (λ h. by_action rep.stamp routes.1 routes.3 r.body routes.2 (answered rep.answer) i (fit_of m routes.0 r.method routes.1 routes.4.asks.named.0 routes.4.asks.asked)
      (subst (λ (d : calls.Call). Decides f.server rep.stamp log d (answered rep.answer) i) routes.6 h))
  by_route r route.no_resource a i routes rep = nothing L i rep.1
  by_route r route.method_not_allowed a i routes rep = nothing L i rep.1
  by_route r (route.bad_request why) a i routes rep = nothing L i rep.1

  pub replies_so : (r : Request) (a : ReplyView) (i : Option Item) → Replies f rose seen log r a i → EntersSo L i
  replies_so r a i (inl exactly) = by_route r exactly.route a i exactly.routes exactly.reply
  replies_so r a i (inr wants) = nothing L i wants.1
