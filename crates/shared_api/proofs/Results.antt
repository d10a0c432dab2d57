-- From the parts of a write to how its call comes out.
use Rattle.std.proofs.Common.{◌≡◌, ◌⊎◌, ℕ, ◌*◌, ◌≤◌, ◌<◌, ◌+◌, ◌^◌, List, Option, None, Ok, Err, inl, inr, ap, sym, subst, refl, ◌∙◌, arith}
use Rattle.std.specs.Prelude.{MatchBool, true, false, Bool}
use Rattle.std.proofs.lemmas.List.{append-nil}
use Rattle.kube_meta.specs.Key.{KeyView}
use Rattle.kube_meta.specs.View.{ObjectView}
use Rattle.api_calls.specs.Cause.{cause_of, why_of}
use Rattle.api_calls.specs.Calls.{Server, answered, create, Failure, no_memory, converter, Fails, failure_refusal}
use Rattle.api_calls.specs.Ends.{WriteEnd, done, kept, same, unserved, present, gone, newer, forbidden, storage_moved, full, Decision}
use Rattle.api_calls.specs.Item.{Logged, Item, entry, Create, items}
use Rattle.api_calls.specs.Legal.{IsLegal, key_of}
use Rattle.api_calls.specs.Meaning.{Meaning, Request, bad_request, invalid}
use Rattle.api_calls.specs.Refusal.{RefusalView}
use Rattle.api_calls.specs.Refusal as refusal
use Rattle.api_calls.specs.Replies as reply
use Rattle.api_calls.specs.Replies.{Answer, CreateReply, IsRefusedRequest, IsShown, Wrote, WeighsIt, code_created}
use Rattle.api_calls.specs.ReplyLaws.{IsFinal, create-reply}
use Rattle.api_calls.specs.State.{revision, served, state}
use Rattle.api_calls.specs.Values.{created_value}
use Rattle.api_calls.specs.Versions.{Refused}
use Rattle.api_calls.specs.Writes.{create_commit}
use Rattle.api_calls.specs.declared.versions.AdmitFault.{AdmitFault}
use Rattle.api_calls.specs.declared.versions.AdmitFault.TheVariants as admits
use Rattle.api_calls.specs.declared.versions.ConvFault.{ConvFault}
use Rattle.api_calls.specs.declared.versions.ConvFault.TheVariants as converts
use Rattle.api_core.specs.declared.seen.Prepared.{Prepared}
use Rattle.turn_cell.specs.declared.view.View.{View}
use Rattle.turn_cell.specs.laws.Laws.{turns_join}
use Rattle.call_texts.specs.Told.{Came, decided}
use Rattle.shared_api.specs.Answered.{CallsOn}
use Rattle.call_texts.specs.Faults.{admission, failed}
use Rattle.write_texts.specs.Readying.{Tells}
use Rattle.shared_api.specs.inner.WriteTurns.{Commits, Created, Decided, Rested, Results, Tries, creates, is_done}
use Rattle.write_texts.specs.Sealed.{Seals, opened}
use Rattle.shared_api.specs.inner.Turning.{Reads, Writes, item_if}
use Rattle.write_texts.specs.declared.seal.Sealed.{Sealed}
use Rattle.write_texts.specs.declared.tried.Tried.{Tried}
use Rattle.write_texts.specs.declared.tried.Tried.TheVariants as tried
use Rattle.shared_api.proofs.Committing.{create-item}
use Rattle.shared_api.proofs.Entering.{writes-join, writes_calls}
use Rattle.write_texts.proofs.Preparing.{failed-came}

-- a seal shows the value
pub seal-shows : (m : Meaning) (boot v number born : ℕ) (h : ObjectView) (s : Sealed) (bytes : List ℕ) → Seals m v h s → number < 2 ^ 62 → bytes ≡ opened s boot number born
    → IsShown m boot v h number born bytes
seal-shows m boot v number born h s bytes seals small is = (seals.0, seals.1, is ∙ sym (seals.2.shows boot number born (omega (arith, small))))

-- ---- turns before

pub reads-join : {B : Type 0} (s : Server) (v w z : View B) (first log : List Logged) → Reads s v w first → Reads s w z log → Reads s v z log
reads-join s v w z first log a b = record { turned = turns_join v w z first log None a.turned b.turned; legal = b.legal; few = b.few }

pub reads-writes : {B : Type 0} (s : Server) (v z : View B) (log : List Logged) → Reads s v z log → Writes s v z log None
reads-writes {B = B} s v z log reads = record {
  turned = reads.turned;
  legal = reads.legal;
  after = subst (λ (l : List Logged). IsLegal s.meaning s.limits l) (sym (ap (λ (q : View B). q.seen) reads.turned.3 ∙ append-nil log)) reads.legal;
  few = reads.few;
}

pub rested-join : {B : Type 0} (s : Server) (v w z : View B) → Rested s v w → Rested s w z → Rested s v z
rested-join {B = B} s v w z (inl one) b = subst (λ (q : View B). Rested s q z) one b
rested-join {B = B} s v w z (inr a) (inl one) = subst (λ (q : View B). Rested s v q) (sym one) (inr a)
rested-join {B = B} s v w z (inr a) (inr b) = inr (record { log = b.log; reads = reads-join s v w z a.log b.log a.reads b.reads })

-- the answer of a later attempt
pub results-join : {B : Type 0} (s : Server) (rose later : Type 0) (v w z : View B) (D : List Item → Answer → Option Item → Type 0) (a : Answer) → (later → rose)
    → Rested s v w → Results s later w z D a → Results s rose v z D a
results-join {B = B} s rose later v w z D a rises (inl one) (inl d) = inl (subst (λ (q : View B). Decided s q z D a) one d)
results-join {B = B} s rose later v w z D a rises (inr r) (inl d) =
    inl (record { log = d.log; item = d.item; writes = writes-join s v w z r.log d.log d.item r.reads d.writes; answers = d.answers })
results-join {B = B} s rose later v w z D a rises rested (inr f) = inr (record { rested = rested-join s v w z rested f.rested; cause = causes f.cause })
  where
    causes : ((a ≡ Err refusal.no_memory) ⊎ (later × (a ≡ Err refusal.converter))) → ((a ≡ Err refusal.no_memory) ⊎ (rose × (a ≡ Err refusal.converter)))
    causes (inl is) = inl is
    causes (inr is) = inr (rises is.0, is.1)

-- ---- calls

-- a decision that is told neither as want of memory nor as the converter's failure
pub bound-came : (rose : Type 0) (D : Answer → Option Item → Type 0) (W : Answer → Type 0) (a : Answer) (i : Option Item) → (W (Err refusal.no_memory) → ⊥) → (W (Err refusal.converter) → ⊥)
    → W a → D a i → Came rose D a i
bound-came rose D W (Ok r) i m c w h = h
bound-came rose D W (Err (refusal.not_found name)) i m c w h = h
bound-came rose D W (Err refusal.no_resource) i m c w h = h
bound-came rose D W (Err (refusal.already_exists name)) i m c w h = h
bound-came rose D W (Err (refusal.conflict name other)) i m c w h = h
bound-came rose D W (Err (refusal.invalid subject cause)) i m c w h = h
bound-came rose D W (Err (refusal.bad_request why)) i m c w h = h
bound-came rose D W (Err (refusal.expired floor)) i m c w h = h
bound-came rose D W (Err (refusal.full room)) i m c w h = h
bound-came rose D W (Err (refusal.migration_running name)) i m c w h = h
bound-came rose D W (Err (refusal.still_stored version key)) i m c w h = h
bound-came rose D W (Err refusal.converter) i m c w h = absurd (c w)
bound-came rose D W (Err refusal.no_memory) i m c w h = absurd (m w)

-- ---- a create

create_fails : (r : Request) (f : Failure) → Fails f (create r) (answered (Err (failure_refusal f)))
create_fails r no_memory = refl
create_fails r converter = refl

-- what a create decides at a list
abbrev pub Creates : Server → List ℕ → Request → List Item → Answer → Option Item → Type 0
Creates s stamp r log = CreateReply s.meaning s.limits s.boot (revision log + 1) (state s.meaning log) r stamp

-- a create that came out so after its last turn
pub create_calls : {B : Type 0} (s : Server) (rose : Type 0) (stamp : List ℕ) (v z : View B) (log : List Logged) (r : Request) (a : Answer) (i : Option Item)
    → Writes s v z log i → Came rose (Creates s stamp r (items log)) a i → CallsOn s rose stamp v z (create r) (answered a)
create_calls s rose stamp v z log r a i writes comes =
    writes_calls s rose stamp v z log (create r) (Creates s stamp r (items log)) (λ b j h. (b, refl, h)) (create_fails r) (λ h. tt) a (answered a) i writes comes refl

pub never_memory : (m : Meaning) (boot code v : ℕ) (name : List ℕ) (h : ObjectView) (e : WriteEnd) → Wrote m boot code v name h e (Err refusal.no_memory) → ⊥
never_memory m boot code v name h (done rv born) w = w
never_memory m boot code v name h (kept rv born) w = w
never_memory m boot code v name h (same rv born) w = w
never_memory m boot code v name h unserved w = cc
never_memory m boot code v name h present w = cc
never_memory m boot code v name h gone w = cc
never_memory m boot code v name h (newer n) w = cc
never_memory m boot code v name h forbidden w = cc
never_memory m boot code v name h (full room) w = cc
never_memory m boot code v name h (storage_moved now) w = w

pub never_converter : (m : Meaning) (boot code v : ℕ) (name : List ℕ) (h : ObjectView) (e : WriteEnd) → Wrote m boot code v name h e (Err refusal.converter) → ⊥
never_converter m boot code v name h (done rv born) w = w
never_converter m boot code v name h (kept rv born) w = w
never_converter m boot code v name h (same rv born) w = w
never_converter m boot code v name h unserved w = cc
never_converter m boot code v name h present w = cc
never_converter m boot code v name h gone w = cc
never_converter m boot code v name h (newer n) w = cc
never_converter m boot code v name h forbidden w = cc
never_converter m boot code v name h (full room) w = cc
never_converter m boot code v name h (storage_moved now) w = w

-- by a value that was admitted
pub admitted_calls : {B : Type 0} (s : Server) (rose : Type 0) (stamp : List ℕ) (v w z : View B) (first : List Logged) (r : Request) (new : ObjectView) (e : Option ℕ) (weight : ℕ) (a : Answer)
    → s.meaning.admits r new e → WeighsIt s.meaning new weight → Reads s v w first
    → Results s rose w z (Created s r.version (created_value stamp new) weight) a
    → CallsOn s rose stamp v z (create r) (answered a)
admitted_calls {B = B} s rose stamp v w z first r new e weight a admits weighs reads (inl d) =
    let h : ObjectView = created_value stamp new in
    let log : List Item = items d.log in
    let at = d.answers.0 in
    let final = d.answers.1.0 in
    let wrote = d.answers.1.1 in
    let item = d.answers.1.2 in
    let commit : Decision WriteEnd = create_commit s.limits (revision log + 1) (state s.meaning log) r.version at (key_of h) h weight in
    let decided : Creates s stamp r log a d.item =
    subst (λ (i : Option Item). Creates s stamp r log a i) (sym item)
    (create-reply s.meaning s.limits s.boot (revision log + 1) (state s.meaning log) r stamp new e weight at a admits weighs final wrote) in
    create_calls s rose stamp v z d.log r a d.item (writes-join s v w z first d.log d.item reads d.writes)
    (bound-came rose (Creates s stamp r log) (Wrote s.meaning s.boot code_created r.version h.meta.name h commit.answer) a d.item
    (never_memory s.meaning s.boot code_created r.version h.meta.name h commit.answer) (never_converter s.meaning s.boot code_created r.version h.meta.name h commit.answer) wrote decided)
admitted_calls {B = B} s rose stamp v w z first r new e weight a admits weighs reads (inr f) = by f.rested
  where
    by : Rested s w z → CallsOn s rose stamp v z (create r) (answered a)
    by (inl one) =
        create_calls s rose stamp v z first r a None (reads-writes s v z first (subst (λ (q : View B). Reads s v q first) (sym one) reads)) (failed-came rose (Creates s stamp r (items first)) a f.cause)
    by (inr stays) =
        create_calls s rose stamp v z stays.log r a None (reads-writes s v z stays.log (reads-join s v w z first stays.log reads stays.reads))
        (failed-came rose (Creates s stamp r (items stays.log)) a f.cause)

-- ---- an attempt

failing : {B : Type 0} (s : Server) (rose : Type 0) (v : View B) (D : List Item → Answer → Option Item → Type 0) (f : ConvFault) → (f ≡ converts.Tool → rose) → Results s rose v v D (Err (failed f))
failing s rose v D converts.Tool tool = inr (record { rested = inl refl; cause = inr (tool refl, refl) })
failing s rose v D converts.NoMemory tool = inr (record { rested = inl refl; cause = inl refl })

-- an attempt that couldn't be prepared
pub failed-results : {B : Type 0} (s : Server) (rose : Type 0) (v : View B) (D : List Item → Answer → Option Item → Type 0) (f : ConvFault) (e : RefusalView)
    → (f ≡ converts.Tool → rose) → e ≡ failed f → Results s rose v v D (Err e)
failed-results s rose v D f e tool is = subst (λ (x : RefusalView). Results s rose v v D (Err x)) (sym is) (failing s rose v D f tool)

-- a turn that entered nothing
pub unmoved : {B : Type 0} (s : Server) (v z : View B) (log : List Logged) (i : Option Item) → Writes s v z log i → i ≡ None → Rested s v z
unmoved s v z log i writes is =
    let w : Writes s v z log None = subst (λ (o : Option Item). Writes s v z log o) is writes in
    inr (record { log = log; reads = record { turned = w.turned; legal = w.legal; few = w.few } })

-- an attempt at a create, by the end of its commit
pub created-tries : {B : Type 0} (s : Server) (rose : Type 0) (v z : View B) (at : ℕ) (p : Prepared) (h : ObjectView) (w : ℕ) (name : List ℕ) (e : WriteEnd) (t : Tried)
    → Commits s v z (creates s at p h) e → p.key ≡ key_of h → p.weight ≡ w → name ≡ h.meta.name → Tells s.meaning s.boot code_created at name h e t
    → ((now : ℕ) → e ≡ storage_moved now → now < s.meaning.count) → Tries s rose v z (Created s at h w) t
created-tries s rose v z at p h w name e (tried.Told a) c key weight named tells count =
    let log : List Item = items c.log in
    let D : KeyView → ℕ → Decision WriteEnd = λ k x. create_commit s.limits (revision log + 1) (state s.meaning log) at p.at k h x in
    let one : D p.key p.weight ≡ D (key_of h) w = ap (λ (k : KeyView). D k p.weight) key ∙ ap (D (key_of h)) weight in
    let ends : e ≡ (D (key_of h) w).answer = c.ends ∙ ap (λ (d : Decision WriteEnd). d.answer) one in
    inl (record {
      log = c.log;
      item = (D p.key p.weight).item;
      writes = c.writes;
      answers = (
        p.at,
        (
          subst (λ (x : WriteEnd). IsFinal x) ends tells.0,
          subst (λ (x : WriteEnd). Wrote s.meaning s.boot code_created at h.meta.name h x (decided a)) ends
              (subst (λ (n : List ℕ). Wrote s.meaning s.boot code_created at n h e (decided a)) named tells.1),
          ap (λ (d : Decision WriteEnd). d.item) one,
        ),
      );
    })
created-tries s rose v z at p h w name e (tried.Moved now) c key weight named tells count =
    let log : List Item = items c.log in
    let nothing = create-item s.limits (revision log + 1) (state s.meaning log) at p.at p.key h p.weight in
    let none : (creates s at p h log).item ≡ None =
    nothing ∙ ap (λ (x : WriteEnd). item_if (is_done x) (entry (Create p.key h p.weight))) (sym c.ends ∙ tells) in
    (unmoved s v z c.log (creates s at p h log).item c.writes none, count now tells)

-- what no turn changes
pub rested-base : {B : Type 0} (s : Server) (v z : View B) → Rested s v z → z.base ≡ v.base
rested-base {B = B} s v z (inl one) = ap (λ (q : View B). q.base) one
rested-base {B = B} s v z (inr stays) = ap (λ (q : View B). q.base) stays.reads.turned.3

-- ---- how a create is refused

-- how a create at a served version is answered, and how one at another
abbrev Accepts : Server → List ℕ → Request → List Item → Answer → Option Item → Type 0
Accepts s stamp q log a i =
    IsRefusedRequest s.meaning q a i
    ⊎ ((new : ObjectView) × (e : Option ℕ) × (w : ℕ) × s.meaning.admits q new e × WeighsIt s.meaning new w
    × reply.Creates s.meaning s.limits s.boot (revision log + 1) (state s.meaning log) q.version (created_value stamp new) w a i)

abbrev Lacks : Answer → Option Item → Type 0
Lacks a i = (a ≡ Err refusal.no_resource) × (i ≡ None)

-- where the version isn't served
pub unserved_calls : {B : Type 0} (s : Server) (rose : Type 0) (stamp : List ℕ) (v z : View B) (log : List Logged) (r : Request) → Reads s v z log
    → served (state s.meaning (items log)).flags r.version ≡ false → CallsOn s rose stamp v z (create r) (answered (Err refusal.no_resource))
unserved_calls s rose stamp v z log r reads is =
    create_calls s rose stamp v z log r (Err refusal.no_resource) None (reads-writes s v z log reads)
    (subst (λ (b : Bool). MatchBool b (Accepts s stamp r (items log) (Err refusal.no_resource) None) (Lacks (Err refusal.no_resource) None)) (sym is) (refl, refl))

module _ (s : Server) (rose : Type 0) (stamp : List ℕ) (q : Request) (log : List Item) (is_served : served (state s.meaning log).flags q.version ≡ true) where
  refused_by : (a : Answer) → IsRefusedRequest s.meaning q a None → Creates s stamp q log a None
  refused_by a h = subst (λ (b : Bool). MatchBool b (Accepts s stamp q log a None) (Lacks a None)) (sym is_served) (inl h)

  admission_came : (fault : AdmitFault) → Refused (s.meaning.refuses q) rose fault → Came rose (Creates s stamp q log) (Err (admission s.meaning fault)) None
  admission_came (admits.BadRequest why) r = refused_by (Err (admission s.meaning (admits.BadRequest why))) (bad_request (why_of why), r, refl, refl)
  admission_came (admits.Invalid name cause) r = refused_by (Err (admission s.meaning (admits.Invalid name cause))) (invalid name.bytes (cause_of cause), r, refl, refl)
  admission_came admits.Tool r = (r, refl)
  admission_came admits.NoMemory r = refl

  -- a request that isn't admitted
  pub refused_came : (fault : AdmitFault) (e : RefusalView) → Refused (s.meaning.refuses q) rose fault → (e ≡ refusal.no_memory) ⊎ (e ≡ admission s.meaning fault)
      → Came rose (Creates s stamp q log) (Err e) None
  refused_came fault e r (inl is) = subst (λ (x : RefusalView). Came rose (Creates s stamp q log) (Err x) None) (sym is) refl
  refused_came fault e r (inr is) = subst (λ (x : RefusalView). Came rose (Creates s stamp q log) (Err x) None) (sym is) (admission_came fault r)
