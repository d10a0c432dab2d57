-- For private clauses: where a pass went, and what a request was told.
use Rattle.std.specs.Prelude.{◌≡◌, ◌⊎◌, ◌++◌, ◌<◌, ℕ, List, Option, Result, Ok, Err, IsTrue, true}
use mathlib.Core.List.{IsPrefix}
use Rattle.kube_meta.specs.Names.{is_namespace}
use Rattle.api_calls.specs.Calls.{Server, Call}
use Rattle.api_calls.specs.Calls as calls
use Rattle.api_calls.specs.Item.{Item, Logged, items, items_of}
use Rattle.api_calls.specs.Meaning.{Meaning}
use Rattle.api_calls.specs.Replies as replies
use Rattle.api_calls.specs.Refusal.{refusal_of}
use Rattle.api_calls.specs.Reply.{ReplyView, reply_of}
use Rattle.api_calls.specs.declared.reply.Reply.{Reply}
use Rattle.api_calls.specs.declared.refusal.Refusal.{Refusal}
use Rattle.http_routes.specs.Routes.{Route}
use Rattle.http_routes.specs.Routes as route
use Rattle.turn_cell.specs.declared.view.View.{View}
use Rattle.request_replies.specs.Replies.{Front, RoutedReply, WantsMemory, refused, no_method, wants_memory}
use Rattle.http_front.specs.Steps.{Quiet, added}
use Rattle.request_replies.specs.declared.about.About.{About}
use Rattle.http_front.specs.declared.reply.Answer.{Answer}
use Rattle.http_front.specs.declared.reply.Answer.TheVariants as answers

abbrev pub answer_of : Answer → ReplyView
answer_of (answers.Reply r) = reply_of r
answer_of answers.NoMethod = no_method
answer_of answers.NoMemory = wants_memory

-- a call's outcome as an answer of the history
abbrev pub decided : Result Reply Refusal → replies.Answer
decided (Ok r) = Ok (reply_of r)
decided (Err e) = Err (refusal_of e)

-- how an answer is told; a refusal whose text wants memory is told as want of memory
abbrev pub Tells : Meaning → About → replies.Answer → ReplyView → Type 0
Tells m subject (Ok r) a = a ≡ r
Tells m subject (Err e) a = (a ≡ refused m subject e) ⊎ (a ≡ wants_memory)

-- the pass of the number n went from v to z: others made the list log, and then it added its item, if any
pub record PassGoes {B : Type 0} (n : ℕ) (v z : View B) (log : List Logged) (item : Option Item) : Type 0 where
  pub grows : IsPrefix v.seen log
  pub own : items_of n log ≡ items_of n v.seen
  pub seen : z.seen ≡ log ++ added n log item
  pub quiet : Quiet n v z

-- the arguments of a call are such as calls take: a known version, and a namespace
abbrev pub MayCall : Meaning → Call → Type 0
MayCall m (calls.get v k) = v < m.count
MayCall m (calls.list v ns limit from) = v < m.count
MayCall m (calls.create r) = (r.version < m.count) × (is_namespace r.ns ≡ true)
MayCall m (calls.replace r k) = (r.version < m.count) × IsTrue (is_namespace k.ns)
MayCall m (calls.delete v k body) = v < m.count
MayCall m calls.group = Unit {0}
MayCall m calls.crd = Unit {0}
MayCall m (calls.set_versions body) = Unit {0}
MayCall m (calls.trim body) = Unit {0}
MayCall m (calls.start body) = Unit {0}
MayCall m (calls.migration name) = Unit {0}
MayCall m calls.migrations = Unit {0}
MayCall m (calls.raw k) = Unit {0}
MayCall m (calls.work claim) = Unit {0}
MayCall m (calls.give_back claim) = Unit {0}

-- the reply of a route at the list where the pass stood, or want of memory
abbrev pub Routed : Front → Type 0 → List Item → List Item → Route → ReplyView → Option Item → Type 0
Routed f rose seen log r a i = RoutedReply f rose seen log r a i ⊎ WantsMemory a i

-- what a request comes to on a pass
pub record PassComes {B : Type 0} (f : Front) (rose : Type 0) (n : ℕ) (v z : View B) (r : Route) (a : ReplyView) : Type 0 where
  pub log : List Logged
  pub item : Option Item
  pub goes : PassGoes n v z log item
  pub routed : Routed f rose (items v.seen) (items log) r a item

-- a route's call has arguments such as calls take
abbrev pub MayRoute : Meaning → Route → Type 0
MayRoute m (route.calls c) = MayCall m c
MayRoute m route.no_resource = Unit {0}
MayRoute m route.method_not_allowed = Unit {0}
MayRoute m (route.bad_request why) = Unit {0}
