-- From the turns of a delete to its call.
use Rattle.std.proofs.Common.{◌≡◌, ◌∙◌, ◌+◌, ◌≤◌, ◌^◌, ℕ, Bool, true, false, List, Option, None, Err, inl, inr, ap, sym, subst, refl}
use Rattle.std.specs.Prelude.{IfOk, Result, if◌then◌else◌, length, nat_eq, not}
use Rattle.std.proofs.lemmas.List.{append-nil}
use mathlib.Core.List.{IsPrefix}
use Rattle.kj_value.specs.declared.error.NoMemory.{NoMemory}
use Rattle.kube_meta.specs.Key.{KeyView}
use Rattle.kube_meta.specs.View.{ObjectView}
use Rattle.api_calls.specs.Bodies.{IsServedDelete}
use Rattle.api_calls.specs.Calls.{Server, Call, Told, Comes, Failure, no_memory, converter, Fails, failure_refusal, IsKept, answered, delete}
use Rattle.api_calls.specs.Calls as calls
use Rattle.api_calls.specs.Cause.{bad_options}
use Rattle.api_calls.specs.Ends.{WriteEnd}
use Rattle.api_calls.specs.Item.{Item, Logged, items}
use Rattle.api_calls.specs.Meaning.{Meaning}
use Rattle.api_calls.specs.Refusal as refusal
use Rattle.api_calls.specs.Replies.{Answer, DeleteReply}
use Rattle.api_calls.specs.State.{revision, served, state}
use Rattle.api_calls.specs.declared.flags.Flags.{Flags}
use Rattle.api_calls.specs.declared.flags.StoredList.{StoredList}
use Rattle.api_core.specs.Prepared.{IsFree, Sees}
use Rattle.api_core.specs.declared.seen.Peeked.{Peeked}
use Rattle.api_core.specs.declared.seen.Prepared.{Prepared}
use Rattle.turn_cell.specs.declared.view.View.{View}
use Rattle.call_texts.specs.Told.{Came, decided}
use Rattle.shared_api.specs.Answered.{CallsOn}
use Rattle.write_texts.specs.Leavings.{Deleted, IsLeaving, IsMarking, IsPlain, TellsMark, TellsPlain}
use Rattle.shared_api.specs.inner.DeleteTurns.{EndsDelete, TriesDelete}
use Rattle.shared_api.specs.inner.WriteTurns.{Commits, Rested, Stays}
use Rattle.write_texts.specs.Removing.{IsToMark, WasAt}
use Rattle.shared_api.specs.inner.RemovalTurns.{marks, removes}
use Rattle.shared_api.specs.inner.Turning.{Reads, Settles, Writes}
use Rattle.shared_api.specs.declared.cell.CoreBase.{CoreBase}
use Rattle.write_texts.specs.declared.delete.DeleteTry.{DeleteTry}
use Rattle.write_texts.specs.declared.delete.DeleteTry.TheVariants as try
use Rattle.write_texts.specs.declared.delete.Leaving.{Leaving}
use Rattle.call_texts.specs.declared.refused.Refused.{Refused}
use Rattle.write_texts.specs.declared.seal.Sealed.{Sealed}
use Rattle.write_texts.proofs.DeleteLooks.{bad_body, came-by, lacking, no-finalizers}
use Rattle.shared_api.proofs.Deletes.{marked-again, marked-came, removed-again, removed-came}
use Rattle.shared_api.proofs.Entering.{writes-join, writes_calls}
use Rattle.shared_api.proofs.Results.{reads-join, reads-writes}
use Rattle.shared_api.proofs.Turns.{comes}

-- ---- one turn

-- what the pass has seen after a turn that added nothing
pub seen-read : {B : Type 0} (s : Server) (v z : View B) (log : List Logged) → Reads s v z log → z.seen ≡ log
seen-read {B = B} s v z log reads = ap (λ (q : View B). q.seen) reads.turned.3 ∙ append-nil log

pub base-read : {B : Type 0} (s : Server) (v z : View B) (log : List Logged) → Reads s v z log → z.base ≡ v.base
base-read {B = B} s v z log reads = ap (λ (q : View B). q.base) reads.turned.3

-- a delete that came out at the list of its look
pub look-ends : {B : Type 0} (s : Server) (rose : Type 0) (v z : View B) (log : List Logged) (k : KeyView) (D : List Item → Answer → Option Item → Type 0) (a : Answer) → Reads s v z log
    → Came (rose × IsKept s.meaning (state s.meaning (items log)) k) (D (items log)) a None → EndsDelete s rose v z k D a
look-ends s rose v z log k D a reads came = record { log = log; item = None; writes = reads-writes s v z log reads; came = came }

-- what is ready at the list of a look, told of the server
pub ready-here : {V : Type 0} (meaning : V → Meaning) (b : CoreBase V) (it : V) (boot : ℕ) (rose : Type 0) (log : List Item) (at : ℕ) (k : KeyView) (stamp : List ℕ)
    (looked : Result Peeked NoMemory) (q r : Result Leaving Refused) → it ≡ b.versions → boot ≡ b.boot
    → revision log ≤ 2 ^ 61 → IfOk looked (λ p. Sees (meaning b.versions) log k p)
    → ((l : List Item) → revision l ≤ 2 ^ 61 → IfOk looked (λ p. Sees (meaning it) l k p) → IsLeaving (meaning it) boot rose l at k stamp q) → q ≡ r
    → IsLeaving (meaning b.versions) b.boot rose log at k stamp r
ready-here {V = V} meaning b it boot rose log at k stamp looked q r versions boots few sees ready is =
    let found = subst (λ (x : V). IfOk looked (λ p. Sees (meaning x) log k p)) (sym versions) sees in
    let by_boot = subst (λ (n : ℕ). IsLeaving (meaning it) n rose log at k stamp q) boots (ready log few found) in
    let by_version = subst (λ (x : V). IsLeaving (meaning x) b.boot rose log at k stamp q) versions by_boot in
    subst (λ (x : Result Leaving Refused). IsLeaving (meaning b.versions) b.boot rose log at k stamp x) is by_version

-- what is known of an object that a plain delete removes
pub plain-free : {B : Type 0} (s : Server) (v z : View B) (log : List Logged) (k : KeyView) (number : ℕ) (text : List ℕ) → Reads s v z log
    → IsPlain s.meaning s.boot (items log) k number text → WasAt s.meaning (items z.seen) k number IsFree
plain-free s v z log k number text reads plain =
    subst (λ (l : List Logged). WasAt s.meaning (items l) k number IsFree) (sym (seen-read s v z log reads)) (record {
      object = plain.was.object;
      there = plain.was.there;
      at_number = plain.was.at_number;
      known = λ honest. no-finalizers plain.was.object.h.meta.finalizers
          (ap (λ (h : ObjectView). not (nat_eq (length h.meta.finalizers) 0)) (sym (plain.was.known honest)) ∙ plain.free);
    })

-- what is known of an object that stays with a deletion stamp
pub marked-known : {B : Type 0} (s : Server) (v z : View B) (log : List Logged) (at : ℕ) (k : KeyView) (number birth : ℕ) (stamp : List ℕ) (p : Prepared) (sealed : Sealed) (h : ObjectView)
    → Reads s v z log → IsMarking s.meaning (items log) at k stamp number birth p sealed h → IsToMark s.meaning (items z.seen) k number p h stamp
marked-known s v z log at k number birth stamp p sealed h reads marking =
    subst (λ (l : List Logged). IsToMark s.meaning (items l) k number p h stamp) (sym (seen-read s v z log reads)) marking.to_mark

-- a turn that entered nothing
stays : {B : Type 0} (s : Server) (v w z : View B) (first log : List Logged) (i : Option Item) → Reads s v w first → Writes s w z log i → i ≡ None → Stays s v z
stays s v w z first log i reads writes is =
    let wrote : Writes s w z log None = subst (λ (o : Option Item). Writes s w z log o) is writes in
    record { log = log; reads = reads-join s v w z first log reads (record { turned = wrote.turned; legal = wrote.legal; few = wrote.few }) }

-- a plain delete after its look, by the end of its turn
pub removed-tries : {B : Type 0} (s : Server) (rose : Type 0) (v w z : View B) (first : List Logged) (at : ℕ) (k : KeyView) (number : ℕ) (text stamp : List ℕ) (e : WriteEnd) (t : DeleteTry)
    → Reads s v w first → IsPlain s.meaning s.boot (items first) k number text → Commits s w z (removes s at k number) e → TellsPlain k.name text e t
    → TriesDelete s rose v z k (Deleted s.meaning s.boot at k stamp) t
removed-tries s rose v w z first at k number text stamp e (try.Told r) reads plain c told =
    let on : IsPrefix first c.log = subst (λ (l : List Logged). IsPrefix l c.log) (seen-read s v w first reads) c.writes.turned.0 in
    record {
      log = c.log;
      item = (removes s at k number (items c.log)).item;
      writes = writes-join s v w z first c.log (removes s at k number (items c.log)).item reads c.writes;
      came = removed-came s.meaning s.boot first c.log at k number text stamp on plain (rose × IsKept s.meaning (state s.meaning (items c.log)) k) e (decided r) c.ends told;
    }
removed-tries s rose v w z first at k number text stamp e try.Again reads plain c told =
    let on : IsPrefix first c.log = subst (λ (l : List Logged). IsPrefix l c.log) (seen-read s v w first reads) c.writes.turned.0 in
    stays s v w z first c.log (removes s at k number (items c.log)).item reads c.writes
    (removed-again s.meaning s.boot first c.log at k number text stamp on plain e c.ends told)

-- a delete that keeps the object
pub marked-tries : {B : Type 0} (s : Server) (rose : Type 0) (v w z : View B) (first : List Logged) (at : ℕ) (k : KeyView) (number birth : ℕ) (stamp : List ℕ)
    (p : Prepared) (sealed : Sealed) (h : ObjectView) (e : WriteEnd) (t : DeleteTry)
    → Reads s v w first → IsMarking s.meaning (items first) at k stamp number birth p sealed h → Commits s w z (marks s at p.at k number stamp) e → TellsMark s.boot k.name sealed birth e t
    → TriesDelete s rose v z k (Deleted s.meaning s.boot at k stamp) t
marked-tries s rose v w z first at k number birth stamp p sealed h e (try.Told r) reads marking c told =
    let on : IsPrefix first c.log = subst (λ (l : List Logged). IsPrefix l c.log) (seen-read s v w first reads) c.writes.turned.0 in
    record {
      log = c.log;
      item = (marks s at p.at k number stamp (items c.log)).item;
      writes = writes-join s v w z first c.log (marks s at p.at k number stamp (items c.log)).item reads c.writes;
      came = marked-came s.meaning s.boot first c.log at k number birth stamp p sealed h on c.writes.few marking (rose × IsKept s.meaning (state s.meaning (items c.log)) k) e (decided r) c.ends told;
    }
marked-tries s rose v w z first at k number birth stamp p sealed h e try.Again reads marking c told =
    let on : IsPrefix first c.log = subst (λ (l : List Logged). IsPrefix l c.log) (seen-read s v w first reads) c.writes.turned.0 in
    stays s v w z first c.log (marks s at p.at k number stamp (items c.log)).item reads c.writes
    (marked-again s.meaning s.boot first c.log at k number birth stamp p sealed h on c.writes.few marking e c.ends told)

-- ---- several attempts

pub stays-join : {B : Type 0} (s : Server) (v w z : View B) → Rested s v w → Stays s w z → Rested s v z
stays-join {B = B} s v w z (inl one) b = inr (subst (λ (q : View B). Stays s q z) one b)
stays-join s v w z (inr a) b = inr (record { log = b.log; reads = reads-join s v w z a.log b.log a.reads b.reads })

pub ends-join : {B : Type 0} (s : Server) (rose later : Type 0) (v w z : View B) (k : KeyView) (D : List Item → Answer → Option Item → Type 0) (a : Answer) → (later → rose)
    → Rested s v w → EndsDelete s later w z k D a → EndsDelete s rose v z k D a
ends-join {B = B} s rose later v w z k D a rises rested e = record { log = e.log; item = e.item; writes = by rested; came = came }
  where
    by : Rested s v w → Writes s v z e.log e.item
    by (inl one) = subst (λ (q : View B). Writes s q z e.log e.item) one e.writes
    by (inr r) = writes-join s v w z r.log e.log e.item r.reads e.writes

    came : Came (rose × IsKept s.meaning (state s.meaning (items e.log)) k) (D (items e.log)) a e.item
    came =
        came-by (later × IsKept s.meaning (state s.meaning (items e.log)) k) (rose × IsKept s.meaning (state s.meaning (items e.log)) k) (D (items e.log)) (D (items e.log)) a e.item
        (λ h. (rises h.0, h.1)) (λ b j h. h) e.came

-- ---- the call

delete_fails : (v : ℕ) (k : KeyView) (body : List ℕ) (f : Failure) → Fails f (delete v k body) (answered (Err (failure_refusal f)))
delete_fails v k body no_memory = refl
delete_fails v k body converter = refl

-- a call that came out for one cause came out for another that follows
comes-by : (s : Server) (later rose : Type 0) (stamp : List ℕ) (seen log : List Item) (c : Call) (t : Told) (i : Option Item) → (later → rose)
    → Comes s later stamp seen log c t i → Comes s rose stamp seen log c t i
comes-by s later rose stamp seen log c t i up (calls.decided d u j h) = calls.decided d u j h
comes-by s later rose stamp seen log c t i up (calls.wants_memory d u h) = calls.wants_memory d u h
comes-by s later rose stamp seen log c t i up (calls.not_converted d u h k f) = calls.not_converted d u (up h) k f
comes-by s later rose stamp seen log c t i up (calls.moved claim h) = calls.moved claim h
comes-by s later rose stamp seen log c t i up (calls.lost claim h) = calls.lost claim h

pub delete_calls : {B : Type 0} (s : Server) (rose : Type 0) (v z : View B) (at : ℕ) (k : KeyView) (body stamp : List ℕ) (a : Answer) → IsServedDelete body
    → EndsDelete s rose v z k (Deleted s.meaning s.boot at k stamp) a → CallsOn s rose stamp v z (delete at k body) (answered a)
delete_calls s rose v z at k body stamp a serves e =
    let kept : Type 0 = IsKept s.meaning (state s.meaning (items e.log)) k in
    let D : Answer → Option Item → Type 0 = DeleteReply s.meaning s.boot (revision (items e.log) + 1) (state s.meaning (items e.log)) at body k stamp in
    let came : Came (rose × kept) D a e.item = came-by (rose × kept) (rose × kept) (Deleted s.meaning s.boot at k stamp (items e.log)) D a e.item (λ h. h) (λ b j h. h body serves) e.came in
    record {
      log = e.log;
      item = e.item;
      turned = e.writes.turned;
      legal = e.writes.after;
      comes = comes-by s (rose × kept) rose stamp (items v.seen) (items e.log) (delete at k body) (answered a) e.item (λ h. h.0)
          (comes s (rose × kept) stamp (items v.seen) (items e.log) (delete at k body) D (λ b j h. (b, refl, h)) (delete_fails at k body) (λ h. h.1) a e.item came);
    }

-- a delete that was answered at a look at the flags
settled_calls : {B : Type 0} (s : Server) (rose : Type 0) (v z : View B) (f : Flags) (stored : StoredList) (at : ℕ) (k : KeyView) (body stamp : List ℕ) (a : Answer) (set : Settles s v z f stored)
    → Came ⊥ (DeleteReply s.meaning s.boot (revision (items set.log) + 1) (state s.meaning (items set.log)) at body k stamp) a None
    → CallsOn s rose stamp v z (delete at k body) (answered a)
settled_calls s rose v z f stored at k body stamp a set came =
    let D : Answer → Option Item → Type 0 = DeleteReply s.meaning s.boot (revision (items set.log) + 1) (state s.meaning (items set.log)) at body k stamp in
    let told = writes_calls s ⊥ stamp v z set.log (delete at k body) D (λ b j h. (b, refl, h)) (delete_fails at k body) (λ h. absurd h) a (answered a) None
    (reads-writes s v z set.log set.reads) came refl in
    record {
      log = told.log;
      item = told.item;
      turned = told.turned;
      legal = told.legal;
      comes = comes-by s ⊥ rose stamp (items v.seen) (items told.log) (delete at k body) (answered a) told.item (λ h. absurd h) told.comes;
    }

-- options that are not served
pub options_calls : {B : Type 0} (s : Server) (rose : Type 0) (v z : View B) (f : Flags) (stored : StoredList) (at : ℕ) (k : KeyView) (body stamp : List ℕ) (may : Bool) (e : refusal.RefusalView)
    → Settles s v z f stored → (IsServedDelete body → ⊥) → may ≡ served f at → e ≡ (if may then refusal.bad_request bad_options else refusal.no_resource)
    → CallsOn s rose stamp v z (delete at k body) (answered (Err e))
options_calls s rose v z f stored at k body stamp may e set never is told =
    subst (λ (x : refusal.RefusalView). CallsOn s rose stamp v z (delete at k body) (answered (Err x))) (sym told) (by may (is ∙ ap (λ (g : Flags). served g at) set.flags))
  where
    by : (b : Bool) → b ≡ served (state s.meaning (items set.log)).flags at
        → CallsOn s rose stamp v z (delete at k body) (answered (Err (if b then refusal.bad_request bad_options else refusal.no_resource)))
    by true may_delete =
        settled_calls s rose v z f stored at k body stamp (Err (refusal.bad_request bad_options)) set
        (bad_body s.meaning s.boot (items set.log) at k stamp (sym may_delete) body never)
    by false not_served =
        settled_calls s rose v z f stored at k body stamp (Err refusal.no_resource) set
        (lacking s.meaning s.boot (items set.log) at k stamp (sym not_served) body)

-- options for which there was no memory
pub memory_calls : {B : Type 0} (s : Server) (rose : Type 0) (v z : View B) (f : Flags) (stored : StoredList) (at : ℕ) (k : KeyView) (body stamp : List ℕ) → Settles s v z f stored
    → CallsOn s rose stamp v z (delete at k body) (answered (Err refusal.no_memory))
memory_calls s rose v z f stored at k body stamp set = settled_calls s rose v z f stored at k body stamp (Err refusal.no_memory) set refl
