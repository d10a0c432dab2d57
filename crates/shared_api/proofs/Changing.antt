-- From a turn that changes the flags or the stored list to the answer.
use Rattle.std.proofs.Common.{◌≡◌, ◌∙◌, ◌<◌, ◌^◌, ℕ, Bool, true, false, List, [], Option, None, Some, Ok, Err, length, ap, sym, subst, refl, inl, inr}
use Rattle.std.specs.Prelude.{◌⊎◌, if◌then◌else◌}
use Rattle.api_calls.specs.Calls.{answered, Failure, no_memory, converter, Fails, failure_refusal, set_versions}
use Rattle.api_calls.specs.Ends as ends
use Rattle.api_calls.specs.Item.{Item, entry, SetVersions, items}
use Rattle.api_calls.specs.Legal.{IsLegal}
use Rattle.api_calls.specs.Meaning.{Meaning, Fault}
use Rattle.api_calls.specs.Refusal as refusal
use Rattle.api_calls.specs.Refusal.{RefusalView}
use Rattle.api_calls.specs.Replies.{Answer, IsBadBody, SetReply, code_ok, definition_subject, said, set_answer}
use Rattle.api_calls.specs.Settings.{same_flags, set_decision}
use Rattle.api_calls.specs.State.{State, joined, state}
use Rattle.api_calls.specs.Versions.{IsStoredList, Refused, versions_of}
use Rattle.api_calls.specs.declared.flags.Flags.{Flags}
use Rattle.api_calls.specs.declared.flags.StoredList.{StoredList}
use Rattle.api_calls.specs.declared.versions.AdmitFault.{AdmitFault}
use Rattle.api_calls.specs.declared.versions.AdmitFault.TheVariants as admits
use Rattle.api_core.specs.Changes.{after_set}
use Rattle.api_core.specs.CoreOf.{CoreOf, SameBase}
use Rattle.api_core.specs.Ends.{set_end}
use Rattle.api_core.specs.View.{CoreView}
use Rattle.api_core.specs.declared.ends.SetEnd.{SetEnd}
use Rattle.api_core.specs.declared.ends.SetEnd.TheVariants as core
use Rattle.turn_cell.specs.Views.{Later, set_stage}
use Rattle.turn_cell.specs.declared.view.Stage.TheVariants.{Holds}
use Rattle.turn_cell.specs.declared.view.View.{View}
use Rattle.call_texts.specs.Told.{Came}
use Rattle.shared_api.specs.Answered.{CallsOn}
use Rattle.shared_api.specs.Base.{StandsCell, base_of, server_of}
use Rattle.shared_api.specs.inner.ChangeTurns.{Sets, is_set}
use Rattle.call_texts.specs.Faults.{unread}
use Rattle.shared_api.specs.inner.Turning.{Closes, Settles, Writes, item_if}
use Rattle.shared_api.specs.declared.cell.CoreBase.{CoreBase}
use Rattle.shared_api.proofs.Turns.{reads_calls}
use Rattle.shared_api.proofs.Entering.{writes, writes_calls}

-- ---- an answer that is refused

-- what comes by one relation comes by one that follows from it
pub came-more : (rose : Type 0) (D E : Answer → Option Item → Type 0) (a : Answer) (i : Option Item) → ((b : Answer) (j : Option Item) → D b j → E b j)
    → Came rose D a i → Came rose E a i
came-more rose D E (Ok r) i f h = f (Ok r) i h
came-more rose D E (Err (refusal.not_found name)) i f h = f (Err (refusal.not_found name)) i h
came-more rose D E (Err refusal.no_resource) i f h = f (Err refusal.no_resource) i h
came-more rose D E (Err (refusal.already_exists name)) i f h = f (Err (refusal.already_exists name)) i h
came-more rose D E (Err (refusal.conflict name other)) i f h = f (Err (refusal.conflict name other)) i h
came-more rose D E (Err (refusal.invalid subject cause)) i f h = f (Err (refusal.invalid subject cause)) i h
came-more rose D E (Err (refusal.bad_request why)) i f h = f (Err (refusal.bad_request why)) i h
came-more rose D E (Err (refusal.expired floor)) i f h = f (Err (refusal.expired floor)) i h
came-more rose D E (Err (refusal.full room)) i f h = f (Err (refusal.full room)) i h
came-more rose D E (Err (refusal.migration_running name)) i f h = f (Err (refusal.migration_running name)) i h
came-more rose D E (Err (refusal.still_stored version key)) i f h = f (Err (refusal.still_stored version key)) i h
came-more rose D E (Err refusal.converter) i f h = h
came-more rose D E (Err refusal.no_memory) i f h = h

-- a body that isn't taken for the definition
pub came-unread : (m : Meaning) (refuses : Fault → Type 0) (fault : AdmitFault) (e : RefusalView) → Refused refuses ⊥ fault
    → (e ≡ refusal.no_memory) ⊎ (e ≡ unread m fault) → Came ⊥ (IsBadBody refuses (definition_subject m)) (Err e) None
came-unread m refuses fault e refused (inl none) = subst (λ (x : RefusalView). Came ⊥ (IsBadBody refuses (definition_subject m)) (Err x) None) (sym none) refl
came-unread m refuses fault e refused (inr is) = subst (λ (x : RefusalView). Came ⊥ (IsBadBody refuses (definition_subject m)) (Err x) None) (sym is) (by fault refused)
  where
    by : (f : AdmitFault) → Refused refuses ⊥ f → Came ⊥ (IsBadBody refuses (definition_subject m)) (Err (unread m f)) None
    by (admits.BadRequest why) h = (_, h, refl, refl)
    by (admits.Invalid name cause) h = (_, h, refl, refl)
    by admits.Tool h = absurd h
    by admits.NoMemory h = refl

-- ---- a change of the flags

-- the item by the end
pub set-item : (s : State) (f : Flags) (e : ends.SetEnd) → e ≡ (set_decision s f).answer → (set_decision s f).item ≡ item_if (is_set e) (entry (SetVersions f))
set-item s f e is = by (same_flags f s.flags) is
  where
    by : (b : Bool) → e ≡ (if b then ends.says (ends.unchanged s.stored) else ends.enters (ends.set (joined s.stored f.storage)) (entry (SetVersions f))).answer
        → (if b then ends.says (ends.unchanged s.stored) else ends.enters (ends.set (joined s.stored f.storage)) (entry (SetVersions f))).item ≡ item_if (is_set e) (entry (SetVersions f))
    by true is = ap (λ (x : ends.SetEnd). item_if (is_set x) (entry (SetVersions f))) (sym is)
    by false is = ap (λ (x : ends.SetEnd). item_if (is_set x) (entry (SetVersions f))) (sym is)

-- an unchanged list is the one that stands
set-unchanged : (s : State) (f : Flags) (vs : List ℕ) → ends.unchanged vs ≡ (set_decision s f).answer → vs ≡ s.stored
set-unchanged s f vs is = by (same_flags f s.flags) is
  where
    by : (b : Bool) → ends.unchanged vs ≡ (if b then ends.says (ends.unchanged s.stored) else ends.enters (ends.set (joined s.stored f.storage)) (entry (SetVersions f))).answer → vs ≡ s.stored
    by true is = cc
    by false is = cc

-- the answer shows the stored list that stands afterwards
pub set-shown : (m : Meaning) (s : State) (c : CoreView) (f : Flags) (r : SetEnd) (stored : List ℕ) → set_end r ≡ (set_decision s f).answer → c.stored ≡ s.stored
    → stored ≡ (after_set r f c).stored → set_answer m f (set_decision s f).answer ≡ said code_ok (m.shown f stored)
set-shown m s c f (core.Done rv vs) stored is stands after =
    ap (set_answer m f) (sym is) ∙ ap (λ (xs : List ℕ). said code_ok (m.shown f xs)) (sym after)
set-shown m s c f (core.Unchanged vs) stored is stands after =
    ap (set_answer m f) (sym is) ∙ ap (λ (xs : List ℕ). said code_ok (m.shown f xs)) (set-unchanged s f (versions_of vs) is ∙ sym stands ∙ sym after)

-- a turn that set flags
pub sets : {V : Type 0} (meaning : V → Meaning) (c d : CoreOf V) (b : CoreBase V) (v w z : View (CoreBase V)) (f : Flags) (r : SetEnd) (entered : Bool) (stored : StoredList)
    → v.base ≡ Some (base_of c) → v.base ≡ Some b → (t : ℕ) × (w ≡ set_stage v w.seen (Holds t 0)) → Later v w.seen
    → StandsCell meaning c w.seen → length w.seen < 2 ^ 61 → SameBase c d → d ≡ record c { view = after_set r f c.view }
    → set_end r ≡ (set_decision (state (meaning c.versions) (items w.seen)) f).answer → entered ≡ is_set (set_end r)
    → versions_of stored ≡ d.view.stored → IsStoredList (meaning d.versions).count stored
    → Closes (item_if entered (entry (SetVersions f))) w z → IsLegal (meaning d.versions) d.view.limits z.seen
    → Sets (server_of meaning b) v z f stored
sets {V = V} meaning c d b v w z f r entered stored based is took later stands short kept leaves ended done list is_list closed legal =
    let m = meaning c.versions in
    let s : State = state m (items w.seen) in
    let same : base_of c ≡ b = cc (based, is) in
    let item : item_if entered (entry (SetVersions f)) ≡ (set_decision s f).item =
    ap (λ (x : Bool). item_if x (entry (SetVersions f))) done ∙ sym (set-item s f (set_end r) ended) in
    let written = writes meaning c d (base_of c) v w z (item_if entered (entry (SetVersions f))) based based took later stands short kept closed legal in
    subst (λ (x : CoreBase V). Sets (server_of meaning x) v z f stored) same (record {
      log = w.seen;
      writes = subst (λ (i : Option Item). Writes (server_of meaning (base_of c)) v z w.seen i) item written;
      shown = set-shown m s c.view f r (versions_of stored) ended stands.0.present.stored (list ∙ ap (λ (x : CoreOf V). x.view.stored) leaves);
      is_list = subst (λ (x : V). IsStoredList (meaning x).count stored) kept.versions is_list;
    })

set_fails : (body : List ℕ) (f : Failure) → Fails f (set_versions body) (answered (Err (failure_refusal f)))
set_fails body no_memory = refl
set_fails body converter = refl

-- a body that is refused
pub set_refused : {V : Type 0} (meaning : V → Meaning) (b : CoreBase V) (it : V) (v z : View (CoreBase V)) (body : List ℕ) (f : Flags) (stored : StoredList) (e : RefusalView)
    → it ≡ b.versions → Settles (server_of meaning b) v z f stored
    → Came ⊥ (IsBadBody ((meaning it).refuses_flags body) (definition_subject (meaning it))) (Err e) None
    → CallsOn (server_of meaning b) ⊥ [] v z (set_versions body) (answered (Err e))
set_refused {V = V} meaning b it v z body f stored e same settled came =
    let m = meaning b.versions in
    let s : State = state m (items settled.log) in
    let here = subst (λ (x : V). Came ⊥ (IsBadBody ((meaning x).refuses_flags body) (definition_subject (meaning x))) (Err e) None) same came in
    reads_calls (server_of meaning b) ⊥ v z settled.log (set_versions body) (SetReply m s body)
    (λ a i h. (a, refl, h)) (set_fails body) (λ h. absurd h) (Err e) (answered (Err e)) settled.reads
    (came-more ⊥ (IsBadBody (m.refuses_flags body) (definition_subject m)) (SetReply m s body) (Err e) None (λ a i h. inl h) here) refl

-- flags that a body sets
pub set_calls : {V : Type 0} (meaning : V → Meaning) (b : CoreBase V) (it : V) (v z : View (CoreBase V)) (body : List ℕ) (f : Flags) (stored : StoredList) (a : Answer)
    → it ≡ b.versions → (meaning it).sets body f → Sets (server_of meaning b) v z f stored → a ≡ said code_ok ((meaning it).shown f (versions_of stored))
    → CallsOn (server_of meaning b) ⊥ [] v z (set_versions body) (answered a)
set_calls {V = V} meaning b it v z body f stored a same sets turned shown =
    let m = meaning b.versions in
    let s : State = state m (items turned.log) in
    let says = subst (λ (x : V). (meaning x).sets body f) same sets in
    let shows : a ≡ said code_ok (m.shown f (versions_of stored)) = shown ∙ ap (λ (x : V). said code_ok ((meaning x).shown f (versions_of stored))) same in
    subst (λ (x : Answer). CallsOn (server_of meaning b) ⊥ [] v z (set_versions body) (answered x)) (sym shows)
    (writes_calls (server_of meaning b) ⊥ [] v z turned.log (set_versions body) (SetReply m s body)
    (λ x i h. (x, refl, h)) (set_fails body) (λ h. absurd h) (said code_ok (m.shown f (versions_of stored))) (answered (said code_ok (m.shown f (versions_of stored))))
    (set_decision s f).item turned.writes (inr (f, says, sym turned.shown, refl)) refl)
