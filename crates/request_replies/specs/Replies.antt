-- What a request is answered at a list of the history, and the item that it enters.
use Rattle.std.specs.Prelude.{◌≡◌, ◌⊎◌, ℕ, List, [], Option, None, Ok, Err, IfSome}
use Rattle.kj_value.specs.Text.{text_of}
use Rattle.edge_io.specs.Stamps.{HasStampForm}
use Rattle.http_wire.specs.Head.{Request}
use Rattle.http_wire.specs.Response.{method_not_allowed}
use Rattle.api_calls.specs.Calls.{Server, Call, answered, Comes}
use Rattle.api_calls.specs.Calls as calls
use Rattle.api_calls.specs.Item.{Item}
use Rattle.api_calls.specs.Meaning.{Meaning}
use Rattle.api_calls.specs.Refusal.{RefusalView}
use Rattle.api_calls.specs.Refusal as refusal
use Rattle.api_calls.specs.Replies.{Answer}
use Rattle.api_calls.specs.Reply.{ReplyView}
use Rattle.api_calls.specs.Status.{status_of, code_of_refusal}
use Rattle.http_routes.specs.Paths.{migration_group, migrations_word}
use Rattle.http_routes.specs.Routes.{Route, Routes}
use Rattle.http_routes.specs.Routes as route
use Rattle.request_replies.specs.declared.about.About.{About}
use Rattle.request_replies.specs.declared.about.About.TheVariants.{Objects, Migrations}

-- what no request changes: the server, and the clock's one stamp where the clock tells it
pub record Front : Type 1 where
  pub server : Server
  pub told : Option (List ℕ)

-- a stamp that the clock may have given: one of a stamp's form, and where the clock tells one, that one
abbrev pub MayStamp : Option (List ℕ) → List ℕ → Type 0
MayStamp told stamp = IfSome told (λ text. stamp ≡ text) × HasStampForm stamp

-- ---- responses

-- what the refusals of a call are about: migrations where it is a call on them, and else objects of the definition
abbrev pub about : Call → About
about (calls.get v k) = Objects
about (calls.list v ns limit from) = Objects
about (calls.create r) = Objects
about (calls.replace r k) = Objects
about (calls.delete v k body) = Objects
about calls.group = Objects
about calls.crd = Objects
about (calls.set_versions body) = Objects
about (calls.trim body) = Objects
about (calls.start body) = Migrations
about (calls.migration name) = Migrations
about calls.migrations = Migrations
about (calls.raw k) = Objects
about (calls.work claim) = Objects
about (calls.give_back claim) = Objects

-- the Status names the resource that the refusal is about
unfoldable pub refusal_text : Meaning → About → RefusalView → List ℕ
refusal_text m Objects r = text_of (status_of r m.plural m.group)
refusal_text m Migrations r = text_of (status_of r migrations_word migration_group)

-- a refusal is told by its Status
abbrev pub refused : Meaning → About → RefusalView → ReplyView
refused m subject r = record { code = code_of_refusal r; text = refusal_text m subject r }

-- the Status of want of memory, which depends on no resource
unfoldable pub no_memory_text : List ℕ
no_memory_text = text_of (status_of refusal.no_memory [] [])

abbrev pub wants_memory : ReplyView
wants_memory = record { code = code_of_refusal refusal.no_memory; text = no_memory_text }

-- 405 has no body
abbrev pub no_method : ReplyView
no_method = record { code = method_not_allowed; text = [] }

-- an answer as it is written
abbrev pub replied : Meaning → About → Answer → ReplyView
replied m subject (Ok r) = r
replied m subject (Err e) = refused m subject e

-- ---- requests

-- The reply to a call at a list, at a moment of the clock, and the item that it enters. The list goes on from what had been
-- seen, and the tool's count of faults rose meanwhile where `rose` holds.
pub record RepliesToCall (f : Front) (rose : Type 0) (seen log : List Item) (c : Call) (a : ReplyView) (i : Option Item) : Type 0 where
  pub stamp : List ℕ
  pub answer : Answer
  pub may : MayStamp f.told stamp
  pub told : a ≡ replied f.server.meaning (about c) answer
  pub comes : Comes f.server rose stamp seen log c (answered answer) i

-- the reply by a route
abbrev pub RoutedReply : Front → Type 0 → List Item → List Item → Route → ReplyView → Option Item → Type 0
RoutedReply f rose seen log (route.calls c) a i = RepliesToCall f rose seen log c a i
RoutedReply f rose seen log route.no_resource a i = (a ≡ refused f.server.meaning Objects refusal.no_resource) × (i ≡ None)
RoutedReply f rose seen log route.method_not_allowed a i = (a ≡ no_method) × (i ≡ None)
RoutedReply f rose seen log (route.bad_request why) a i = (a ≡ refused f.server.meaning Objects (refusal.bad_request why)) × (i ≡ None)

-- a request's reply is that of its route
pub record RepliesExactly (f : Front) (rose : Type 0) (seen log : List Item) (r : Request) (a : ReplyView) (i : Option Item) : Type 0 where
  pub route : Route
  pub routes : Routes f.server.meaning r.method r.target r.body route
  pub reply : RoutedReply f rose seen log route a i

-- want of memory is free, and enters nothing
abbrev pub WantsMemory : ReplyView → Option Item → Type 0
WantsMemory a i = (a ≡ wants_memory) × (i ≡ None)

abbrev pub Replies : Front → Type 0 → List Item → List Item → Request → ReplyView → Option Item → Type 0
Replies f rose seen log r a i = RepliesExactly f rose seen log r a i ⊎ WantsMemory a i
