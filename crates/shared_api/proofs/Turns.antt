-- What one turn of a call comes to.
use Rattle.std.proofs.Common.{◌≡◌, ◌≤◌, ◌<◌, ◌^◌, ℕ, List, [], ◌∷◌, Option, None, Some, Ok, Err, length, ap, sym, subst, refl, ◌∙◌, arith}
use Rattle.std.proofs.lemmas.List.{append-nil}
use Rattle.std.specs.Prelude.{Result, IfOk}
use Rattle.kj_value.specs.declared.error.NoMemory.{NoMemory}
use Rattle.api_calls.specs.Versions.{AreFlags, IsStoredList, versions_of}
use Rattle.api_calls.specs.declared.flags.Flags.{Flags}
use Rattle.api_calls.specs.declared.flags.StoredList.{StoredList}
use Rattle.api_core.specs.Prepared.{Sees}
use Rattle.api_core.specs.declared.seen.Peeked.{Peeked}
use Rattle.api_calls.specs.Calls.{Server, Call, Told, answered, Comes, decided as as_decided, wants_memory, not_converted, Converts, Decides, Failure, no_memory, converter, Fails, failure_refusal, get, raw, crd}
use Rattle.api_calls.specs.Item.{Logged, Item, items}
use Rattle.api_calls.specs.Legal.{IsLegal}
use Rattle.api_calls.specs.Meaning.{Meaning}
use Rattle.api_calls.specs.Refusal as refusal
use Rattle.api_calls.specs.Replies.{Answer, GetReply, RawReply, CrdReply}
use Rattle.api_calls.specs.State.{State, revision, state}
use Rattle.kube_meta.specs.Key.{KeyView}
use Rattle.api_core.specs.CoreOf.{CoreOf, StandsFor}
use Rattle.api_core.specs.laws.ListLaws.{entries-few}
use Rattle.turn_cell.specs.declared.view.View.{View}
use Rattle.turn_cell.specs.declared.view.Stage.TheVariants.{Holds}
use Rattle.turn_cell.specs.Views.{set_stage, Later}
use Rattle.turn_cell.specs.Turns.{Gives}
use Rattle.turn_cell.specs.laws.Laws.{turn_reads}
use Rattle.call_texts.specs.Told.{Came}
use Rattle.shared_api.specs.Answered.{CallsOn}
use Rattle.shared_api.specs.Base.{StandsCell, base_of, server_of}
use Rattle.shared_api.specs.Passes.{ApiOf, Known, IsOf}
use Rattle.shared_api.specs.inner.Turning.{Reads, Looks, Settles}
use Rattle.shared_api.specs.declared.cell.CoreBase.{CoreBase}
use Rattle.call_texts.specs.Cached.{AreCached}
use Rattle.call_texts.proofs.IfOk.{if_ok}
use Rattle.form_cache.specs.Forms.{Form, Forms}
use Rattle.shared_api.proofs.Caches.{calls-cached, prefix-cached}

pub items-length : (log : List Logged) → length (items log) ≡ length log
items-length [] = refl
items-length (l ∷ log) = let more = items-length log in omega (arith, more)

-- a list that is short enough for a turn has room for an entry
pub few_entries : (log : List Logged) → length log < 2 ^ 61 → revision (items log) ≤ 2 ^ 61
few_entries log short = let few = entries-few (items log) in let same = items-length log in omega (arith, short, few, same)

pub cell_legal : {V : Type 0} (meaning : V → Meaning) (c : CoreOf V) (log : List Logged) → StandsCell meaning c log
    → IsLegal (server_of meaning (base_of c)).meaning (server_of meaning (base_of c)).limits log
cell_legal meaning c log stands = record { guards = stands.0.legal; counts = stands.1 }

-- a turn that gave the core back as it was
pub reads : {V : Type 0} (meaning : V → Meaning) (c : CoreOf V) (v w z : View (CoreBase V)) → (t : ℕ) × (w ≡ set_stage v w.seen (Holds t 0)) → Later v w.seen
    → StandsCell meaning c w.seen → length w.seen < 2 ^ 61 → Gives w z → Reads (server_of meaning (base_of c)) v z w.seen
reads meaning c v w z took later stands short given = record {
  turned = turn_reads v w took later z given;
  legal = cell_legal meaning c w.seen stands;
  few = few_entries w.seen short;
}

-- a turn that looked at a key
pub looks : {V : Type 0} (meaning : V → Meaning) (c : CoreOf V) (b : CoreBase V) (v w z : View (CoreBase V)) (k : KeyView) (r : Result Peeked NoMemory)
    → v.base ≡ Some (base_of c) → v.base ≡ Some b → (t : ℕ) × (w ≡ set_stage v w.seen (Holds t 0)) → Later v w.seen
    → StandsCell meaning c w.seen → length w.seen < 2 ^ 61 → Gives w z
    → IfOk r (λ p. AreFlags (meaning c.versions).count p.flags) → IfOk r (λ p. (log : List Item) → StandsFor meaning c log → Sees (meaning c.versions) log k p)
    → Looks (server_of meaning b) v z k r
looks {V = V} meaning c b v w z k r based is took later stands short given flags sees =
    let same : base_of c ≡ b = cc (based, is) in
    subst (λ (x : CoreBase V). Looks (server_of meaning x) v z k r) same (record {
      log = w.seen;
      reads = reads meaning c v w z took later stands short given;
      flags = flags;
      sees = if_ok (λ p. (log : List Item) → StandsFor meaning c log → Sees (meaning c.versions) log k p) (λ p. Sees (meaning c.versions) (items w.seen) k p) r
          (λ p sees. sees (items w.seen) stands.0) sees;
    })

-- a turn that looked at the flags
pub settles : {V : Type 0} (meaning : V → Meaning) (c : CoreOf V) (b : CoreBase V) (v w z : View (CoreBase V)) (f : Flags) (stored : StoredList)
    → v.base ≡ Some (base_of c) → v.base ≡ Some b → (t : ℕ) × (w ≡ set_stage v w.seen (Holds t 0)) → Later v w.seen
    → StandsCell meaning c w.seen → length w.seen < 2 ^ 61 → Gives w z
    → f ≡ c.view.flags → versions_of stored ≡ c.view.stored → AreFlags (meaning c.versions).count f → IsStoredList (meaning c.versions).count stored
    → Settles (server_of meaning b) v z f stored
settles {V = V} meaning c b v w z f stored based is took later stands short given flags listed are_flags is_list =
    let same : base_of c ≡ b = cc (based, is) in
    subst (λ (x : CoreBase V). Settles (server_of meaning x) v z f stored) same (record {
      log = w.seen;
      reads = reads meaning c v w z took later stands short given;
      flags = flags ∙ stands.0.present.flags;
      listed = listed ∙ stands.0.present.stored;
      are_flags = are_flags;
      is_list = is_list;
    })

-- ---- from an answer to how the call comes out

module _ (s : Server) (rose : Type 0) (stamp : List ℕ) (seen log : List Item) (c : Call) (D : Answer → Option Item → Type 0)
    (decides : (a : Answer) (i : Option Item) → D a i → Decides s stamp log c (answered a) i)
    (fails : (f : Failure) → Fails f c (answered (Err (failure_refusal f)))) (converts : rose → Converts s.meaning (state s.meaning log) c) where
  bound : (a : Answer) (i : Option Item) → D a i → Comes s rose stamp seen log c (answered a) i
  bound a i h = as_decided c (answered a) i (decides a i h)

  pub comes : (a : Answer) (i : Option Item) → Came rose D a i → Comes s rose stamp seen log c (answered a) i
  comes (Ok r) i h = bound (Ok r) i h
  comes (Err (refusal.not_found name)) i h = bound (Err (refusal.not_found name)) i h
  comes (Err refusal.no_resource) i h = bound (Err refusal.no_resource) i h
  comes (Err (refusal.already_exists name)) i h = bound (Err (refusal.already_exists name)) i h
  comes (Err (refusal.conflict name other)) i h = bound (Err (refusal.conflict name other)) i h
  comes (Err (refusal.invalid subject cause)) i h = bound (Err (refusal.invalid subject cause)) i h
  comes (Err (refusal.bad_request why)) i h = bound (Err (refusal.bad_request why)) i h
  comes (Err (refusal.expired floor)) i h = bound (Err (refusal.expired floor)) i h
  comes (Err (refusal.full room)) i h = bound (Err (refusal.full room)) i h
  comes (Err (refusal.migration_running name)) i h = bound (Err (refusal.migration_running name)) i h
  comes (Err (refusal.still_stored version key)) i h = bound (Err (refusal.still_stored version key)) i h
  comes (Err refusal.converter) i h =
      subst (λ (x : Option Item). Comes s rose stamp seen log c (answered (Err refusal.converter)) x) (sym h.1)
      (not_converted c (answered (Err refusal.converter)) h.0 (converts h.0) (fails converter))
  comes (Err refusal.no_memory) i h =
      subst (λ (x : Option Item). Comes s rose stamp seen log c (answered (Err refusal.no_memory)) x) (sym h)
      (wants_memory c (answered (Err refusal.no_memory)) (fails no_memory))

-- a call that has one turn, which adds nothing
pub reads_calls : {B : Type 0} (s : Server) (rose : Type 0) (v z : View B) (log : List Logged) (c : Call) (D : Answer → Option Item → Type 0)
    → ((a : Answer) (i : Option Item) → D a i → Decides s [] (items log) c (answered a) i)
    → ((f : Failure) → Fails f c (answered (Err (failure_refusal f)))) → (rose → Converts s.meaning (state s.meaning (items log)) c)
    → (d : Answer) (t : Told) → Reads s v z log → Came rose D d None → t ≡ answered d
    → CallsOn s rose [] v z c t
reads_calls {B = B} s rose v z log c D decides fails converts d t reads came told =
    let seen : z.seen ≡ log = ap (λ (q : View B). q.seen) reads.turned.3 ∙ append-nil log in
    record {
      log = log;
      item = None;
      turned = reads.turned;
      legal = subst (λ (l : List Logged). IsLegal s.meaning s.limits l) (sym seen) reads.legal;
      comes = subst (λ (x : Told). Comes s rose [] (items v.seen) (items log) c x None) (sym told)
          (comes s rose [] (items v.seen) (items log) c D decides fails converts d None came);
    }

-- a pass whose cache holds what is known of its list is one of the server still
pub is_of_with : {V A : Type 0} (meaning : V → Meaning) (a : ApiOf (CoreBase V)) (p q : Known (CoreBase V) A) (rose : Type 0) (stamp : List ℕ) (c : Call) (t : Told)
    → IsOf meaning a p → q.table ≡ p.table → AreCached (meaning a.base.versions) a.base.boot (items q.view.seen) q.forms.forms → q.forms.most ≡ p.forms.most
    → CallsOn (server_of meaning a.base) rose stamp p.view q.view c t → IsOf meaning a q
is_of_with {V = V} meaning a p q rose stamp c t of same cached most calls = record {
  table = same ∙ of.table;
  base = ap (λ (v : View (CoreBase V)). v.base) calls.turned.3 ∙ of.base;
  legal = calls.legal;
  cached = cached;
  most = most ∙ of.most;
}

-- a pass after a call that left its cache is one of the server still
pub is_of : {V A : Type 0} (meaning : V → Meaning) (a : ApiOf (CoreBase V)) (p q : Known (CoreBase V) A) (rose : Type 0) (stamp : List ℕ) (c : Call) (t : Told)
    → IsOf meaning a p → q.table ≡ p.table → q.forms ≡ p.forms → CallsOn (server_of meaning a.base) rose stamp p.view q.view c t → IsOf meaning a q
is_of {V = V} meaning a p q rose stamp c t of same left calls =
    is_of_with meaning a p q rose stamp c t of same
    (subst (λ (f : Forms). AreCached (meaning a.base.versions) a.base.boot (items q.view.seen) f.forms) (sym left)
    (calls-cached (server_of meaning a.base) rose stamp p.view q.view c t p.forms.forms calls of.cached))
    (ap (λ (f : Forms). f.most) left) calls

-- ---- a get

get_fails : (v : ℕ) (k : KeyView) (f : Failure) → Fails f (get v k) (answered (Err (failure_refusal f)))
get_fails v k no_memory = refl
get_fails v k converter = refl

-- the call of a get, from what its look saw
pub get_calls : {V : Type 0} (meaning : V → Meaning) (b : CoreBase V) (it : V) (boot : ℕ) (rose : Type 0) (v z : View (CoreBase V)) (k : KeyView) (place : ℕ) (r : Result Peeked NoMemory)
    (d : Answer) (t : Told) (fs : List Form)
    → it ≡ b.versions → boot ≡ b.boot → Looks (server_of meaning b) v z k r → AreCached (meaning b.versions) b.boot (items v.seen) fs
    → ((log : List Item) → IfOk r (λ p. Sees (meaning it) log k p) → AreCached (meaning it) boot log fs → Came rose (GetReply (meaning it) boot (state (meaning it) log) place k) d None)
    → t ≡ answered d
    → CallsOn (server_of meaning b) rose [] v z (get place k) t
get_calls {V = V} meaning b it boot rose v z k place r d t fs same booted looked cached came told =
    let log : List Item = items looked.log in
    let here = prefix-cached (meaning b.versions) b.boot fs v.seen looked.log looked.reads.turned.0 cached in
    let by_boot = subst (λ (n : ℕ). (l : List Item) → IfOk r (λ p. Sees (meaning it) l k p) → AreCached (meaning it) n l fs → Came rose (GetReply (meaning it) n (state (meaning it) l) place k) d None) booted came in
    let by_it = subst (λ (x : V). (l : List Item) → IfOk r (λ p. Sees (meaning x) l k p) → AreCached (meaning x) b.boot l fs → Came rose (GetReply (meaning x) b.boot (state (meaning x) l) place k) d None) same by_boot in
    reads_calls (server_of meaning b) rose v z looked.log (get place k) (GetReply (meaning b.versions) b.boot (state (meaning b.versions) log) place k)
    (λ a i h. (a, refl, h)) (get_fails place k) (λ h. tt) d t looked.reads (by_it log looked.sees here) told

-- ---- a raw get

raw_fails : (k : KeyView) (f : Failure) → Fails f (raw k) (answered (Err (failure_refusal f)))
raw_fails k no_memory = refl
raw_fails k converter = refl

pub raw_calls : {V : Type 0} (meaning : V → Meaning) (b : CoreBase V) (it : V) (v z : View (CoreBase V)) (k : KeyView) (r : Result Peeked NoMemory) (d : Answer) (t : Told)
    → it ≡ b.versions → Looks (server_of meaning b) v z k r
    → ((log : List Item) → IfOk r (λ p. Sees (meaning it) log k p) → Came ⊥ (RawReply (meaning it) (state (meaning it) log) k) d None)
    → t ≡ answered d
    → CallsOn (server_of meaning b) ⊥ [] v z (raw k) t
raw_calls {V = V} meaning b it v z k r d t same looked came told =
    let log : List Item = items looked.log in
    let sees = subst (λ (x : V). IfOk r (λ p. Sees (meaning x) log k p)) (sym same) looked.sees in
    let there = subst (λ (x : V). Came ⊥ (RawReply (meaning x) (state (meaning x) log) k) d None) same (came log sees) in
    reads_calls (server_of meaning b) ⊥ v z looked.log (raw k) (RawReply (meaning b.versions) (state (meaning b.versions) log) k)
    (λ a i h. (a, refl, h)) (raw_fails k) (λ h. absurd h) d t looked.reads there told

-- ---- the definition

crd_fails : (f : Failure) → Fails f crd (answered (Err (failure_refusal f)))
crd_fails no_memory = refl
crd_fails converter = refl

pub crd_calls : {V : Type 0} (meaning : V → Meaning) (b : CoreBase V) (it : V) (v z : View (CoreBase V)) (f : Flags) (stored : StoredList) (d : Answer) (t : Told)
    → it ≡ b.versions → Settles (server_of meaning b) v z f stored
    → ((s : State) → f ≡ s.flags → versions_of stored ≡ s.stored → Came ⊥ (CrdReply (meaning it) s) d None)
    → t ≡ answered d
    → CallsOn (server_of meaning b) ⊥ [] v z crd t
crd_calls {V = V} meaning b it v z f stored d t same settled came told =
    let s : State = state (meaning b.versions) (items settled.log) in
    let there = subst (λ (x : V). Came ⊥ (CrdReply (meaning x) s) d None) same (came s settled.flags settled.listed) in
    reads_calls (server_of meaning b) ⊥ v z settled.log crd (CrdReply (meaning b.versions) s)
    (λ a i h. (a, refl, h)) crd_fails (λ h. absurd h) d t settled.reads there told
