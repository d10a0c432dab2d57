-- From a turn that trims the stored list to the answer.
use Rattle.std.proofs.Common.{◌≡◌, ◌∙◌, ◌<◌, ◌^◌, ℕ, Bool, true, false, List, [], ◌∷◌, Option, None, Some, Err, length, ap, sym, subst, refl, inl, inr}
use Rattle.std.specs.Prelude.{All, if◌then◌else◌, filter}
use Rattle.std.specs.List.{AllByRecursion, list_all}
use Rattle.std.proofs.lemmas.List.Elements.{recursion_from_All}
use Rattle.kube_meta.specs.Key.{KeyView}
use Rattle.api_calls.specs.Calls.{Told, answered, Failure, no_memory, converter, Fails, failure_refusal, trim}
use Rattle.api_calls.specs.Ends as ends
use Rattle.api_calls.specs.Ends.{Decision}
use Rattle.api_calls.specs.Item.{Item, entry, Trim, items}
use Rattle.api_calls.specs.Legal.{IsLegal}
use Rattle.api_calls.specs.Meaning.{Meaning}
use Rattle.api_calls.specs.Refusal.{RefusalView}
use Rattle.api_calls.specs.Replies.{Answer, IsBadBody, TrimReply, definition_subject, trim_answer}
use Rattle.api_calls.specs.Settings.{first_unknown, first_held, held_or, hold_of, trim_free, trim_known, trim_decision}
use Rattle.api_calls.specs.State.{State, has, state}
use Rattle.api_calls.specs.Versions.{AreFlags, IsStoredList, versions_of}
use Rattle.api_calls.specs.declared.flags.Flags.{Flags}
use Rattle.api_calls.specs.declared.flags.StoredList.{StoredList}
use Rattle.api_core.specs.Changes.{after_trim}
use Rattle.api_core.specs.CoreOf.{CoreOf, SameBase}
use Rattle.api_core.specs.Ends.{trim_end}
use Rattle.api_core.specs.View.{CoreView}
use Rattle.api_core.specs.declared.ends.TrimEnd.{TrimEnd}
use Rattle.api_core.specs.declared.ends.TrimEnd.TheVariants as core
use Rattle.turn_cell.specs.Views.{Later, set_stage}
use Rattle.turn_cell.specs.declared.view.Stage.TheVariants.{Holds}
use Rattle.turn_cell.specs.declared.view.View.{View}
use Rattle.call_texts.specs.Told.{Came}
use Rattle.shared_api.specs.Answered.{CallsOn}
use Rattle.shared_api.specs.Base.{StandsCell, base_of, server_of}
use Rattle.setting_texts.specs.Changing.{HasVersion, ShowsChange, is_trimmed}
use Rattle.shared_api.specs.inner.ChangeTurns.{Trims}
use Rattle.shared_api.specs.inner.Turning.{Closes, Settles, Writes, item_if}
use Rattle.shared_api.specs.declared.cell.CoreBase.{CoreBase}
use Rattle.shared_api.proofs.Changing.{came-more}
use Rattle.shared_api.proofs.Entering.{writes, writes_calls}
use Rattle.shared_api.proofs.Turns.{reads_calls}

-- ---- by the decision

-- what holds of each way in which a trim is decided
trim-cases : (P : Decision ends.TrimEnd → Type 0) (s : State) (keep : List ℕ)
    → ((v : ℕ) → P (ends.says (ends.unknown v)))
    → ((v : ℕ) (k : Option KeyView) → first_held keep s s.stored ≡ Some (v, k) → P (ends.says (ends.still_stored v k)))
    → P (ends.says (ends.untrimmed s.flags s.stored))
    → P (ends.enters (ends.trimmed s.flags (filter (has keep) s.stored)) (entry (Trim (filter (has keep) s.stored))))
    → P (trim_decision s keep)
trim-cases P s keep unknown held same done = by (first_unknown s.stored keep)
  where
    kept : (b : Bool) → P (if b then ends.says (ends.untrimmed s.flags s.stored)
        else ends.enters (ends.trimmed s.flags (filter (has keep) s.stored)) (entry (Trim (filter (has keep) s.stored))))
    kept true = same
    kept false = done

    free : (o : Option (ℕ × Option KeyView)) → first_held keep s s.stored ≡ o → P (trim_free s keep o)
    free (Some h) is = held h.0 h.1 is
    free None is = kept (list_all (has keep) s.stored)

    by : (o : Option ℕ) → P (trim_known s keep o)
    by (Some v) = unknown v
    by None = free (first_held keep s s.stored) refl

-- flags and stored list that an end tells stand afterwards
abbrev Tells : Flags → List ℕ → Decision ends.TrimEnd → Type 0
Tells f stored d = (e : ends.TrimEnd) → e ≡ d.answer → ShowsChange e f stored → d.item ≡ item_if (is_trimmed e) (entry (Trim stored))

told-none : (f : Flags) (stored : List ℕ) (x : ends.TrimEnd) → is_trimmed x ≡ false → Tells f stored (ends.says x)
told-none f stored x none e is shows = ap (λ (b : Bool). item_if b (entry (Trim stored))) (sym (ap is_trimmed is ∙ none))

-- the item by the end
pub trim-item : (s : State) (keep : List ℕ) (f : Flags) (stored : List ℕ) → Tells f stored (trim_decision s keep)
trim-item s keep f stored =
    trim-cases (Tells f stored) s keep
    (λ v. told-none f stored (ends.unknown v) refl)
    (λ v k is. told-none f stored (ends.still_stored v k) refl)
    (told-none f stored (ends.untrimmed s.flags s.stored) refl)
    (λ e is shows.
    let both = subst (λ (x : ends.TrimEnd). ShowsChange x f stored) is shows in
    ap (λ (xs : List ℕ). Some (entry (Trim xs))) both.1 ∙ sym (ap (λ (x : ends.TrimEnd). item_if (is_trimmed x) (entry (Trim stored))) is))

-- what isn't trimmed enters nothing
pub trim-none : (s : State) (keep : List ℕ) (e : ends.TrimEnd) → e ≡ (trim_decision s keep).answer → is_trimmed e ≡ false → (trim_decision s keep).item ≡ None
trim-none s keep e is none =
    trim-cases (λ d. e ≡ d.answer → d.item ≡ None) s keep (λ v is. refl) (λ v k held is. refl) (λ is. refl)
    (λ is. let both : true ≡ false = sym (ap is_trimmed is) ∙ none in cc) is

-- the end tells the flags that stand
abbrev TellsFlags : State → Decision ends.TrimEnd → Type 0
TellsFlags s d = ((f : Flags) (vs : List ℕ) → ends.trimmed f vs ≡ d.answer → f ≡ s.flags)
    × ((f : Flags) (vs : List ℕ) → ends.untrimmed f vs ≡ d.answer → (f ≡ s.flags) × (vs ≡ s.stored))

trim-flags : (s : State) (keep : List ℕ) → TellsFlags s (trim_decision s keep)
trim-flags s keep =
    trim-cases (TellsFlags s) s keep
    (λ v. ((λ f vs is. cc), (λ f vs is. cc)))
    (λ v k held. ((λ f vs is. cc), (λ f vs is. cc)))
    ((λ f vs is. cc), (λ f vs is. (cc, cc)))
    ((λ f vs is. cc), (λ f vs is. cc))

-- the core tells the flags and the stored list that it then has
pub trim-shows : (s : State) (keep : List ℕ) (c : CoreView) (r : TrimEnd) → trim_end r ≡ (trim_decision s keep).answer → c.flags ≡ s.flags → c.stored ≡ s.stored
    → ShowsChange (trim_end r) (after_trim r c).flags (after_trim r c).stored
trim-shows s keep c (core.Done rv f vs) is flags stored = ((trim-flags s keep).0 f (versions_of vs) is ∙ sym flags, refl)
trim-shows s keep c (core.Unchanged f vs) is flags stored =
    let both = (trim-flags s keep).1 f (versions_of vs) is in (both.0 ∙ sym flags, both.1 ∙ sym stored)
trim-shows s keep c (core.Unknown v) is flags stored = tt
trim-shows s keep c (core.StillStored v k) is flags stored = tt

-- ---- a version that has to be kept is in the stored list

held-in : (P : ℕ → Type 0) (keep : List ℕ) (s : State) (vs : List ℕ) (v : ℕ) (k : Option KeyView) → AllByRecursion P vs → first_held keep s vs ≡ Some (v, k) → P v
held-in P keep s [] v k all is = cc
held-in P keep s (x ∷ vs) v k all is = by (has keep x) (hold_of s.flags.storage s x) is (held-in P keep s vs v k all.1)
  where
    by : (b : Bool) (h : Option (Option KeyView)) → (if b then first_held keep s vs else held_or x h (first_held keep s vs)) ≡ Some (v, k)
        → (first_held keep s vs ≡ Some (v, k) → P v) → P v
    by true h is more = more is
    by false None is more = more is
    by false (Some j) is more =
        let pair : (x, j) ≡ (v, k) = cc in
        subst P (ap (λ (p : ℕ × Option KeyView). p.0) pair) all.0

pub trim-version : (count : ℕ) (s : State) (keep : List ℕ) (e : ends.TrimEnd) → e ≡ (trim_decision s keep).answer → All (λ v. v < count) s.stored → HasVersion count e
trim-version count s keep e is all =
    trim-cases (λ d. e ≡ d.answer → HasVersion count e) s keep
    (λ v is. subst (HasVersion count) (sym is) tt)
    (λ v k held is. subst (HasVersion count) (sym is) (held-in (λ v. v < count) keep s s.stored v k (recursion_from_All (λ v. v < count) s.stored all) held))
    (λ is. subst (HasVersion count) (sym is) tt)
    (λ is. subst (HasVersion count) (sym is) tt) is

-- ---- the turn

-- what the core tells afterwards is what the end tells
pub turn-shows : {V : Type 0} (c d : CoreOf V) (s : State) (keep : List ℕ) (r : TrimEnd) (f : Flags) (vs : List ℕ) → trim_end r ≡ (trim_decision s keep).answer
    → c.view.flags ≡ s.flags → c.view.stored ≡ s.stored → d ≡ record c { view = after_trim r c.view } → f ≡ d.view.flags → vs ≡ d.view.stored
    → ShowsChange (trim_end r) f vs
turn-shows {V = V} c d s keep r f vs ended flags stored leaves is_flags is_stored =
    let fs : f ≡ (after_trim r c.view).flags = is_flags ∙ ap (λ (x : CoreOf V). x.view.flags) leaves in
    let ss : vs ≡ (after_trim r c.view).stored = is_stored ∙ ap (λ (x : CoreOf V). x.view.stored) leaves in
    subst (λ (g : Flags). ShowsChange (trim_end r) g vs) (sym fs)
    (subst (λ (xs : List ℕ). ShowsChange (trim_end r) (after_trim r c.view).flags xs) (sym ss) (trim-shows s keep c.view r ended flags stored))

-- a version that has to be kept stays in the list
pub turn-version : {V : Type 0} (count : ℕ) (c d : CoreOf V) (s : State) (keep : List ℕ) (r : TrimEnd) (vs : List ℕ) → trim_end r ≡ (trim_decision s keep).answer
    → c.view.stored ≡ s.stored → d ≡ record c { view = after_trim r c.view } → vs ≡ d.view.stored → All (λ v. v < count) vs
    → HasVersion count (trim_end r)
turn-version count c d s keep (core.Done rv f xs) vs ended stored leaves is all = tt
turn-version count c d s keep (core.Unchanged f xs) vs ended stored leaves is all = tt
turn-version count c d s keep (core.Unknown v) vs ended stored leaves is all = tt
turn-version {V = V} count c d s keep (core.StillStored v k) vs ended stored leaves is all =
    let same : vs ≡ s.stored = is ∙ ap (λ (x : CoreOf V). x.view.stored) leaves ∙ stored in
    trim-version count s keep (trim_end (core.StillStored v k)) ended (subst (λ (xs : List ℕ). All (λ v. v < count) xs) same all)

pub trims : {V : Type 0} (meaning : V → Meaning) (c d : CoreOf V) (b : CoreBase V) (v w z : View (CoreBase V)) (keep : List ℕ) (r : TrimEnd) (entered : Bool) (f : Flags) (stored : StoredList)
    → v.base ≡ Some (base_of c) → v.base ≡ Some b → (t : ℕ) × (w ≡ set_stage v w.seen (Holds t 0)) → Later v w.seen
    → StandsCell meaning c w.seen → length w.seen < 2 ^ 61 → SameBase c d
    → trim_end r ≡ (trim_decision (state (meaning c.versions) (items w.seen)) keep).answer → entered ≡ is_trimmed (trim_end r)
    → ShowsChange (trim_end r) f (versions_of stored) → HasVersion (meaning c.versions).count (trim_end r)
    → AreFlags (meaning d.versions).count f → IsStoredList (meaning d.versions).count stored
    → Closes (item_if entered (entry (Trim (versions_of stored)))) w z → IsLegal (meaning d.versions) d.view.limits z.seen
    → Trims (server_of meaning b) v z keep (trim_end r) f stored
trims {V = V} meaning c d b v w z keep r entered f stored based is took later stands short kept ended done shows held are_flags is_list closed legal =
    let m = meaning c.versions in
    let s : State = state m (items w.seen) in
    let same : base_of c ≡ b = cc (based, is) in
    let item : item_if entered (entry (Trim (versions_of stored))) ≡ (trim_decision s keep).item =
    ap (λ (x : Bool). item_if x (entry (Trim (versions_of stored)))) done ∙ sym (trim-item s keep f (versions_of stored) (trim_end r) ended shows) in
    let written = writes meaning c d (base_of c) v w z (item_if entered (entry (Trim (versions_of stored)))) based based took later stands short kept closed legal in
    subst (λ (x : CoreBase V). Trims (server_of meaning x) v z keep (trim_end r) f stored) same (record {
      log = w.seen;
      writes = subst (λ (i : Option Item). Writes (server_of meaning (base_of c)) v z w.seen i) item written;
      ended = ended;
      shows = shows;
      held = held;
      storage = subst (λ (x : V). f.storage < (meaning x).count) kept.versions are_flags.storage;
      is_list = subst (λ (x : V). IsStoredList (meaning x).count stored) kept.versions is_list;
    })

-- ---- the call

trim_fails : (body : List ℕ) (f : Failure) → Fails f (trim body) (answered (Err (failure_refusal f)))
trim_fails body no_memory = refl
trim_fails body converter = refl

-- a body that is refused
pub trim_refused : {V : Type 0} (meaning : V → Meaning) (b : CoreBase V) (it : V) (v z : View (CoreBase V)) (body : List ℕ) (f : Flags) (stored : StoredList) (e : RefusalView)
    → it ≡ b.versions → Settles (server_of meaning b) v z f stored
    → Came ⊥ (IsBadBody ((meaning it).refuses_keep body) (definition_subject (meaning it))) (Err e) None
    → CallsOn (server_of meaning b) ⊥ [] v z (trim body) (answered (Err e))
trim_refused {V = V} meaning b it v z body f stored e same settled came =
    let m = meaning b.versions in
    let s : State = state m (items settled.log) in
    let here = subst (λ (x : V). Came ⊥ (IsBadBody ((meaning x).refuses_keep body) (definition_subject (meaning x))) (Err e) None) same came in
    reads_calls (server_of meaning b) ⊥ v z settled.log (trim body) (TrimReply m s body)
    (λ a i h. (a, refl, h)) (trim_fails body) (λ h. absurd h) (Err e) (answered (Err e)) settled.reads
    (came-more ⊥ (IsBadBody (m.refuses_keep body) (definition_subject m)) (TrimReply m s body) (Err e) None (λ a i h. inl h) here) refl

-- versions that a body keeps
pub trim_calls : {V : Type 0} (meaning : V → Meaning) (b : CoreBase V) (it : V) (v z : View (CoreBase V)) (body keep : List ℕ) (end : ends.TrimEnd) (f : Flags) (stored : StoredList)
    (d : Answer) (t : Told)
    → it ≡ b.versions → (meaning it).keeps body keep → Trims (server_of meaning b) v z keep end f stored
    → (ShowsChange end f (versions_of stored) → (i : Option Item) → (is_trimmed end ≡ false → i ≡ None)
    → Came ⊥ (λ a j. (a ≡ trim_answer (meaning it) end) × (j ≡ i)) d i)
    → t ≡ answered d
    → CallsOn (server_of meaning b) ⊥ [] v z (trim body) t
trim_calls {V = V} meaning b it v z body keep end f stored d t same keeps turned came told =
    let m = meaning b.versions in
    let s : State = state m (items turned.log) in
    let item : Option Item = (trim_decision s keep).item in
    let says = subst (λ (x : V). (meaning x).keeps body keep) same keeps in
    let here = subst (λ (x : V). Came ⊥ (λ a j. (a ≡ trim_answer (meaning x) end) × (j ≡ item)) d item) same
    (came turned.shows item (trim-none s keep end turned.ended)) in
    writes_calls (server_of meaning b) ⊥ [] v z turned.log (trim body) (TrimReply m s body)
    (λ x i h. (x, refl, h)) (trim_fails body) (λ h. absurd h) d t item turned.writes
    (came-more ⊥ (λ a j. (a ≡ trim_answer m end) × (j ≡ item)) (TrimReply m s body) d item
    (λ a j h. inr (keep, says, h.0 ∙ ap (trim_answer m) turned.ended, h.1)) here) told
