-- What is ready of a delete, and how the end of its turn is told.
use Rattle.std.specs.Prelude.{◌≡◌, ◌⊎◌, ℕ, ◌+◌, ◌<◌, ◌^◌, Bool, true, false, pos, List, Option, None, Result, Ok, Err, IsTrue}
use Rattle.kj_value.specs.Text.{text_of}
use Rattle.kube_meta.specs.Key.{KeyView}
use Rattle.kube_meta.specs.View.{ObjectView, object_of}
use Rattle.api_calls.specs.Bodies.{IsServedDelete}
use Rattle.api_calls.specs.Calls.{IsKept}
use Rattle.api_calls.specs.Documents.{deleted_status}
use Rattle.api_calls.specs.Ends.{WriteEnd, done, kept, same, unserved, present, gone, newer, forbidden, storage_moved, full}
use Rattle.api_calls.specs.Item.{Item}
use Rattle.api_calls.specs.Legal.{HasFinalizer, key_of}
use Rattle.api_calls.specs.Meaning.{Meaning, Weighs}
use Rattle.api_calls.specs.Objects.{marked}
use Rattle.api_calls.specs.Refusal as refusal
use Rattle.api_calls.specs.Refusal.{refusal_of}
use Rattle.api_calls.specs.Replies.{Answer, DeleteReply, IsShown, code_ok, said}
use Rattle.api_calls.specs.Reply.{reply_of}
use Rattle.api_calls.specs.State.{revision, state}
use Rattle.api_calls.specs.Uid.{uid}
use Rattle.api_calls.specs.Values.{has_finalizer, is_marked}
use Rattle.api_calls.specs.Versions.{IsStored}
use Rattle.api_core.specs.Prepared.{IsSized, PreparesValue}
use Rattle.api_core.specs.declared.seen.Prepared.{Prepared}
use Rattle.api_core.specs.declared.seen.Seen.{Seen}
use Rattle.call_texts.specs.Told.{Came, decided}
use Rattle.write_texts.specs.inner.Marking.{HoldsAs}
use Rattle.write_texts.specs.Removing.{IsToMark, WasAt}
use Rattle.write_texts.specs.Sealed.{Seals, opened}
use Rattle.write_texts.specs.declared.delete.DeleteTry.{DeleteTry}
use Rattle.write_texts.specs.declared.delete.DeleteTry.TheVariants as try
use Rattle.write_texts.specs.declared.delete.Leaving.{Leaving}
use Rattle.write_texts.specs.declared.delete.Leaving.TheVariants as leaving
use Rattle.call_texts.specs.declared.refused.Refused.{Refused}
use Rattle.write_texts.specs.declared.seal.Sealed.{Sealed}

-- the answer to a delete with a body that is served, and the item that it enters
abbrev pub Deleted : Meaning → ℕ → ℕ → KeyView → List ℕ → List Item → Answer → Option Item → Type 0
Deleted m boot v k stamp log a i =
    (body : List ℕ) → IsServedDelete body → DeleteReply m boot (revision log + 1) (state m log) v body k stamp a i

-- ---- by what was seen of the object

-- what was seen is a stored text, and, where it is known what values mean, of a value with the key, the weight and a generation
pub record IsSaid (m : Meaning) (k : KeyView) (seen : Seen) : Type 0 where
  pub value : ObjectView
  pub stored : IsStored m seen.at value seen.bytes.bytes
  pub key : IsTrue m.honest → key_of value ≡ k
  pub weighs : IsTrue m.honest → Weighs m value seen.weight
  pub generation : IsTrue m.honest → (n : ℕ) × (value.meta.generation ≡ pos n)

-- a value is ready that is h with a deletion stamp, to be stored and to be shown at a version
pub record MarksSeen (m : Meaning) (v : ℕ) (k : KeyView) (stamp : List ℕ) (seen : Seen) (h : ObjectView) (p : Prepared) (s : Sealed) (new : ObjectView) : Type 0 where
  pub sized : IsSized p
  pub key : p.key ≡ k
  pub weight : p.weight ≡ seen.weight
  pub prepares : PreparesValue m p new
  pub seals : Seals m v new s
  pub is : IsTrue m.honest → new ≡ marked stamp h

-- what is ready of a delete of what was seen, which says h; or there is no memory, or the tool failed on an object that stays
abbrev pub LeavesSeen : Meaning → ℕ → Type 0 → ℕ → KeyView → List ℕ → Seen → ObjectView → Result Leaving Refused → Type 0
LeavesSeen m boot rose v k stamp seen h (Err e) = Came (rose × (IsTrue m.honest → HasFinalizer h)) (λ a i. ⊥) (Err (refusal_of e.refusal)) None
LeavesSeen m boot rose v k stamp seen h (Ok (leaving.Told r)) = HoldsAs m h true true × ((reply_of r).code ≡ code_ok) × IsShown m boot v h seen.rv seen.born (reply_of r).text
LeavesSeen m boot rose v k stamp seen h (Ok (leaving.Plain number text)) =
    (b : Bool) × HoldsAs m h false b × (number ≡ seen.rv) × (text.bytes ≡ text_of (deleted_status m k.name (uid boot seen.born)))
LeavesSeen m boot rose v k stamp seen h (Ok (leaving.Mark number born new sealed hub)) =
    HoldsAs m h true false × (number ≡ seen.rv) × (born ≡ seen.born) × MarksSeen m v k stamp seen h new sealed (object_of hub)

-- ---- at the list of a look

-- the object was taken for `old`, which has no finalizer, and the Status is that of its delete
pub record IsPlain (m : Meaning) (boot : ℕ) (log : List Item) (k : KeyView) (number : ℕ) (text : List ℕ) : Type 0 where
  pub old : ObjectView
  pub was : WasAt m log k number (λ e. old ≡ e.h)
  pub free : has_finalizer old ≡ false
  pub shows : text ≡ text_of (deleted_status m k.name (uid boot was.object.born))

-- the object was taken for `old`, which has a finalizer and no deletion stamp, and its value with the stamp is ready
pub record IsMarking (m : Meaning) (log : List Item) (v : ℕ) (k : KeyView) (stamp : List ℕ) (number birth : ℕ) (p : Prepared) (s : Sealed) (h : ObjectView) : Type 0 where
  pub old : ObjectView
  pub was : WasAt m log k number (λ e. old ≡ e.h)
  pub held : has_finalizer old ≡ true
  pub unmarked : is_marked old ≡ false
  pub sized : IsSized p
  pub prepares : PreparesValue m p h
  pub to_mark : IsToMark m log k number p h stamp
  pub seals : Seals m v h s
  pub born : was.object.born ≡ birth
  pub early : birth < 2 ^ 62

-- what is ready of a delete at the list of a look, or how it came out there
abbrev pub IsLeaving : Meaning → ℕ → Type 0 → List Item → ℕ → KeyView → List ℕ → Result Leaving Refused → Type 0
IsLeaving m boot rose log v k stamp (Err e) = Came (rose × IsKept m (state m log) k) (Deleted m boot v k stamp log) (Err (refusal_of e.refusal)) None
IsLeaving m boot rose log v k stamp (Ok (leaving.Told r)) = Deleted m boot v k stamp log (Ok (reply_of r)) None
IsLeaving m boot rose log v k stamp (Ok (leaving.Plain number text)) = IsPlain m boot log k number text.bytes
IsLeaving m boot rose log v k stamp (Ok (leaving.Mark number born new sealed hub)) = IsMarking m log v k stamp number born new sealed (object_of hub)

-- ---- the end of a turn

-- an end that tells another's item, after which the object is looked at again
abbrev pub IsRetried : WriteEnd → Type 0
IsRetried (done rv born) = ⊥
IsRetried (kept rv born) = ⊥
IsRetried (same rv born) = ⊥
IsRetried unserved = ⊥
IsRetried present = ⊥
IsRetried gone = ⊥
IsRetried (newer n) = Unit {0}
IsRetried forbidden = ⊥
IsRetried (storage_moved now) = Unit {0}
IsRetried (full room) = ⊥

-- how the end of a plain delete is told, which never keeps the object
abbrev pub SaysPlain : List ℕ → List ℕ → WriteEnd → Answer → Type 0
SaysPlain name text (done rv born) a = a ≡ said code_ok text
SaysPlain name text (kept rv born) a = ⊥
SaysPlain name text (same rv born) a = ⊥
SaysPlain name text unserved a = a ≡ Err refusal.no_resource
SaysPlain name text present a = ⊥
SaysPlain name text gone a = (a ≡ Err (refusal.not_found name)) ⊎ (a ≡ Err refusal.no_memory)
SaysPlain name text (newer n) a = ⊥
SaysPlain name text forbidden a = ⊥
SaysPlain name text (storage_moved now) a = ⊥
SaysPlain name text (full room) a = ⊥

abbrev pub TellsPlain : List ℕ → List ℕ → WriteEnd → DeleteTry → Type 0
TellsPlain name text e (try.Told r) = SaysPlain name text e (decided r)
TellsPlain name text e try.Again = IsRetried e

-- how the end of a mark is told, which never removes the object
abbrev pub SaysMark : ℕ → List ℕ → Sealed → ℕ → WriteEnd → Answer → Type 0
SaysMark boot name s b (done rv born) a = ⊥
SaysMark boot name s b (kept rv born) a = a ≡ said code_ok (opened s boot rv b)
SaysMark boot name s b (same rv born) a = ⊥
SaysMark boot name s b unserved a = a ≡ Err refusal.no_resource
SaysMark boot name s b present a = ⊥
SaysMark boot name s b gone a = (a ≡ Err (refusal.not_found name)) ⊎ (a ≡ Err refusal.no_memory)
SaysMark boot name s b (newer n) a = ⊥
SaysMark boot name s b forbidden a = ⊥
SaysMark boot name s b (storage_moved now) a = ⊥
SaysMark boot name s b (full room) a = ⊥

abbrev pub TellsMark : ℕ → List ℕ → Sealed → ℕ → WriteEnd → DeleteTry → Type 0
TellsMark boot name s b e (try.Told r) = SaysMark boot name s b e (decided r)
TellsMark boot name s b e try.Again = IsRetried e
