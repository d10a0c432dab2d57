-- For private clauses: what the ends of calls come to, and the exchanges of one put or get.
use Rattle.std.specs.Prelude.{◌≡◌, ◌≤◌, ⊤, ℕ, suc, List, [], ◌∷◌, Result, Ok, Err}
use Rattle.kj_value.specs.Json.{Json, depth}
use Rattle.kj_value.specs.Seen.{json}
use Rattle.kube_meta.specs.Key.{KeyView}
use Rattle.edge_io.specs.Exchanges.{Exchange}
use Rattle.place.specs.Place.{Names}
use Rattle.wire_client.specs.Calls.{Call, gets, puts}
use Rattle.wire_client.specs.Answers.{Reply, given, broken, long, gone as gone_reply, code, shape}
use Rattle.wire_client.specs.declared.end.WireEnd.{WireEnd}
use Rattle.wire_client.specs.declared.end.WireEnd.TheVariants as wire
use Rattle.wire_client.specs.declared.buffer.TheConstants.{ANSWER_LEVELS}
use Rattle.far_migrate.specs.Counts.{Kind, written, unchanged, gone, contested, counts_of, fault_of}
use Rattle.far_migrate.specs.Answered.{Did, conflict, expired, FailsGet, FailsPut, FailsList}
use Rattle.far_migrate.specs.Puts.{Outcome, kind, fault, PutBack, Handled, all, failed}
use Rattle.far_migrate.specs.declared.tally.Tally.{Tally}
use Rattle.far_migrate.specs.declared.tally.FarFault.{FarFault}
use Rattle.far_migrate.specs.declared.tally.FarFault.TheVariants as faults
use Rattle.far_migrate.specs.declared.ending.Refused.{Refused}
use Rattle.far_migrate.specs.declared.ending.Refused.TheVariants as refused
use Rattle.far_migrate.specs.declared.ending.Ungot.{Ungot}
use Rattle.far_migrate.specs.declared.ending.Ungot.TheVariants as ungot
use Rattle.far_migrate.specs.declared.ending.Unlisted.{Unlisted}
use Rattle.far_migrate.specs.declared.ending.Unlisted.TheVariants as unlisted
use Rattle.far_migrate.specs.declared.putting.Kind.{Kind as CodeKind}
use Rattle.far_migrate.specs.declared.putting.Kind.TheVariants as kinds
use Rattle.far_migrate.specs.declared.putting.Put.{Put}
use Rattle.far_migrate.specs.declared.putting.Put.TheVariants as put
use Rattle.far_migrate.specs.declared.putting.Got.{Got}
use Rattle.far_migrate.specs.declared.putting.Got.TheVariants as got

-- the reply that an end tells; want of memory tells none
abbrev pub OnReply : (Reply → Type 0) → Type 0 → WireEnd → Type 0
OnReply P starved wire.LinkFault = P broken
OnReply P starved wire.TooLong = P long
OnReply P starved wire.Gone = P gone_reply
OnReply P starved (wire.Code c) = P (code c)
OnReply P starved (wire.Shape path) = P (shape path.bytes)
OnReply P starved wire.NoMemory = starved

abbrev pub PutReply : Refused → Reply → Type 0
PutReply refused.Gone r = r ≡ gone_reply
PutReply refused.Conflict r = r ≡ code conflict
PutReply (refused.Fault f) r = FailsPut r (fault_of f)

abbrev pub GetReply : Ungot → Reply → Type 0
GetReply ungot.Gone r = r ≡ gone_reply
GetReply (ungot.Fault f) r = FailsGet r (fault_of f)

abbrev pub ListReply : Unlisted → Reply → Type 0
ListReply unlisted.TooLong r = r ≡ long
ListReply unlisted.Expired r = r ≡ code expired
ListReply (unlisted.Fault f) r = FailsList r (fault_of f)

abbrev pub PutEnds : WireEnd → Refused → Type 0
PutEnds end x = OnReply (PutReply x) (x ≡ refused.Fault faults.NoMemory) end

abbrev pub GetEnds : WireEnd → Ungot → Type 0
GetEnds end x = OnReply (GetReply x) (x ≡ ungot.Fault faults.NoMemory) end

abbrev pub ListEnds : WireEnd → Unlisted → Type 0
ListEnds end x = OnReply (ListReply x) (x ≡ unlisted.Fault faults.NoMemory) end

-- ---- one put

abbrev pub kind_of : CodeKind → Kind
kind_of kinds.Written = written
kind_of kinds.Unchanged = unchanged
kind_of kinds.Gone = gone
kind_of kinds.Contested = contested

abbrev pub became : Result CodeKind FarFault → Outcome
became (Ok k) = kind (kind_of k)
became (Err f) = fault (fault_of f)

-- the exchanges are one, which was made for the call and answered so
pub record IsOne (n : Names) (call : Call) (reply : Reply) (es : List Exchange) : Type 0 where
  pub e : Exchange
  pub only : es ≡ e ∷ []
  pub did : Did n call e reply

-- These exchanges are a put of the object, and what came of it.
abbrev pub TriedPut : Names → KeyView → Json → List Exchange → Result Put FarFault → Type 0
TriedPut n key j es (Ok (put.Done k)) = (left : ℕ) → PutBack n key (suc left) j es (kind (kind_of k))
TriedPut n key j es (Ok put.Conflict) = IsOne n (puts key j) (code conflict) es
TriedPut n key j es (Err f) = (left : ℕ) → PutBack n key (suc left) j es (fault (fault_of f))

-- These exchanges are a get of the object behind a put that was refused since it had changed, and what came of it.
abbrev pub TriedGet : Names → KeyView → List Exchange → Result Got FarFault → Type 0
TriedGet n key es (Ok (got.Found v)) = IsOne n (gets key) (given (json v)) es
TriedGet n key es (Ok got.Gone) = IsOne n (gets key) gone_reply es
TriedGet n key es (Err x) = (left : ℕ) (j : Json) (e : Exchange) → Did n (puts key j) e (code conflict) → PutBack n key (suc (suc left)) j (e ∷ es) (fault (fault_of x))

-- the object is within the levels of an answer
abbrev pub IsLow : Got → Type 0
IsLow (got.Found v) = depth (json v) ≤ ANSWER_LEVELS
IsLow got.Gone = ⊤

-- what came of the objects of a page
abbrev pub handled : {T : Type 0} → Tally → Result T FarFault → Handled
handled t (Ok x) = all (counts_of t)
handled t (Err f) = failed (fault_of f)
