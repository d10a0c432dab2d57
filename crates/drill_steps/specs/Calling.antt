-- The requests of a step, each on a server that no other calls, and what their replies add to the counts.
use Rattle.std.specs.Prelude.{◌≡◌, ℕ, ◌+◌, List, [], Option, None, Some, Ok, Err}
use Rattle.api_calls.specs.Calls.{Server, Call, create, replace, get, delete, set_versions, start, list, answered, Decides}
use Rattle.api_calls.specs.Ends.{grown}
use Rattle.api_calls.specs.Item.{Item}
use Rattle.api_calls.specs.Meaning.{Request}
use Rattle.api_calls.specs.Replies.{Answer}
use Rattle.call_texts.specs.Places.{IsPlace}
use Rattle.drill_steps.specs.declared.counts.Counts.{Counts}
use Rattle.drill_requests.specs.Bodies.{stamp, namespace, spoke_version, hub_version, object_name, object_key, start_body}
use Rattle.drill_steps.specs.Settings.{switch_body}
use Rattle.drill_steps.specs.Counting.{with_create, with_replace, with_delete, with_refusal, with_setting}
use Rattle.drill_requests.specs.Replies.{IsEdited, Shows}

-- the history, and the counts of the replies so far
pub record Tally : Type 0 where
  pub log : List Item
  pub counts : Counts

-- a request has the reply of the one-thread server at the history, which goes on by the item that the request enters, if any
pub record Requests (s : Server) (log : List Item) (c : Call) (a : Answer) (after : List Item) : Type 0 where
  pub item : Option Item
  pub decides : Decides s stamp log c (answered a) item
  pub grows : after ≡ grown log item

abbrev pub request : ℕ → Option (List ℕ) → List ℕ → Request
request v name body = record { version = v; ns = namespace; name = name; bytes = body }

-- an object is created at the version of this name
pub record CountsCreate (s : Server) (version body : List ℕ) (p q : Tally) : Type 0 where
  pub v : ℕ
  pub place : IsPlace s.meaning version v
  pub answer : Answer
  pub requests : Requests s p.log (create (request v None body)) answer q.log
  pub counts : q.counts ≡ with_create answer p.counts

-- what was got is put back with another `hostPort`
pub record CountsReplace (s : Server) (n t : ℕ) (got : List ℕ) (p q : Tally) : Type 0 where
  pub body : List ℕ
  pub edited : IsEdited t got body
  pub v : ℕ
  pub place : IsPlace s.meaning spoke_version v
  pub answer : Answer
  pub requests : Requests s p.log (replace (request v (Some (object_name n)) body) (object_key n)) answer q.log
  pub counts : q.counts ≡ with_replace answer p.counts

-- it is, unless nothing was got: then no other request comes
abbrev pub PutsBack : Server → ℕ → ℕ → Answer → Tally → Tally → Type 0
PutsBack s n t (Ok r) p q = CountsReplace s n t r.text p q
PutsBack s n t (Err e) p q = q ≡ record p { counts = with_refusal e p.counts }

-- an object is got at the version that is stored at first, and put back
pub record Edits (s : Server) (n t : ℕ) (p q : Tally) : Type 0 where
  pub v : ℕ
  pub place : IsPlace s.meaning spoke_version v
  pub answer : Answer
  pub mid : List Item
  pub requests : Requests s p.log (get v (object_key n)) answer mid
  pub puts : PutsBack s n t answer (record p { log = mid }) q

-- an object is deleted at the hub
pub record CountsDelete (s : Server) (n : ℕ) (p q : Tally) : Type 0 where
  pub v : ℕ
  pub place : IsPlace s.meaning hub_version v
  pub answer : Answer
  pub requests : Requests s p.log (delete v (object_key n) []) answer q.log
  pub counts : q.counts ≡ with_delete answer p.counts

-- the storage version is set to the other one
pub record CountsSet (s : Server) (switches : ℕ) (p q : Tally) : Type 0 where
  pub answer : Answer
  pub requests : Requests s p.log (set_versions (switch_body switches)) answer q.log
  pub counts : q.counts ≡ with_setting answer p.counts

-- a migration to it is started
pub record CountsStart (s : Server) (switches : ℕ) (p q : Tally) : Type 0 where
  pub answer : Answer
  pub requests : Requests s p.log (start (start_body switches)) answer q.log
  pub counts : q.counts ≡ with_setting answer p.counts

-- both, one after the other
pub record Switches (s : Server) (switches : ℕ) (p q : Tally) : Type 0 where
  pub mid : Tally
  pub sets : CountsSet s switches p mid
  pub starts : CountsStart s switches mid q

-- all objects are listed at the version that is stored at first: so many, at this resource version
pub record Lists (s : Server) (log : List Item) (objects : ℕ) (revision : List ℕ) : Type 0 where
  pub v : ℕ
  pub place : IsPlace s.meaning spoke_version v
  pub answer : Answer
  pub after : List Item
  pub requests : Requests s log (list v None 0 None) answer after
  pub shows : Shows answer objects revision
