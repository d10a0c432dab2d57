-- From a call on a pass to what its request comes to.
use Rattle.std.proofs.Common.{◌≡◌, ◌≢◌, ◌⊎◌, ℕ, ◌<◌, ◌≤◌, Bool, true, false, List, [], ◌∷◌, ◌++◌, Option, None, Some, Result, Ok, Err, length, inl, inr, refl, sym, ap, subst, ◌∙◌, arith, length-append}
use Rattle.std.specs.Prelude.{IfOk, IfSome, IsTrue, option_map, nat_eq, codes, if◌then◌else◌}
use Rattle.std.specs.Str.{bytes_eq}
use Rattle.std.proofs.lemmas.List.{append-nil}
use Rattle.std.proofs.lemmas.Bool.{cases_lt}
use Rattle.std.proofs.lemmas.Bool.Decides.{nat_tests}
use Rattle.http_wire.specs.Head.{Request}
use Rattle.http_wire.specs.Response.{HasPhrase}
use Rattle.http_wire.specs.laws.PhraseLaws.{phrase-200, phrase-201}
use Rattle.api_calls.specs.Calls.{Server, Call, Told, answered, Comes, decided as as_decided, wants_memory as as_wanted, not_converted, moved, lost, Decides}
use Rattle.api_calls.specs.Item.{Item, Logged, items, items_of}
use Rattle.api_calls.specs.Meaning.{Meaning}
use Rattle.api_calls.specs.Refusal.{RefusalView, refusal_of}
use Rattle.api_calls.specs.Cause.{WhyView}
use Rattle.api_calls.specs.Refusal as refusal
use Rattle.api_calls.specs.Reply.{ReplyView, reply_of}
use Rattle.api_calls.specs.Versions.{NamesDiffer}
use Rattle.api_calls.specs.declared.reply.Reply.{Reply}
use Rattle.api_calls.specs.declared.refusal.Refusal.{Refusal}
use Rattle.http_routes.specs.Paths.{Resource, IsResource}
use Rattle.http_routes.specs.Paths as path
use Rattle.http_routes.specs.Actions.{Action, Row, Paging, AsksAt, row_of, cell, call_of}
use Rattle.http_routes.specs.Actions as action
use Rattle.http_routes.specs.Routes.{Route, Routes}
use Rattle.http_routes.specs.Routes as route
use Rattle.http_routes.specs.Views as views
use Rattle.api_core.specs.Pages as core
use Rattle.api_calls.specs.declared.token.Token.{Token}
use Rattle.turn_cell.specs.laws.Laws.{items_of-append, prefix_self}
use Rattle.turn_cell.specs.Numbers.{In}
use Rattle.turn_cell.specs.Turns.{Turned, addition}
use Rattle.turn_cell.specs.Views.{IsAlone, numbers_of, numbers_or, number_or, set_stage}
use Rattle.turn_cell.specs.declared.view.View.{View}
use Rattle.kube_meta.specs.Names.{is_namespace}
use Rattle.call_texts.specs.Told.{told}
use Rattle.shared_api.specs.Answered.{CallsOn}
use Rattle.call_texts.specs.Places.{IsPlace}
use Rattle.request_replies.specs.Replies.{Front, MayStamp, Replies, WantsMemory, about, refused, wants_memory}
use Rattle.request_replies.specs.declared.about.About.TheVariants.{Objects}
use Rattle.http_front.specs.Steps.{StepAnswers, IsSameBut, Quiet, added}
use Rattle.http_front.specs.Going.{PassGoes, MayCall, MayRoute, Routed, Tells, decided}
use Rattle.http_front.specs.Going as going
use Rattle.http_front.proofs.Sound.{IsSuccess, comes_fair}

-- ---- calls

weaken : (s : Server) (rose up : Type 0) (stamp other : List ℕ) (seen log : List Item) (c : Call) (t : Told) (i : Option Item)
    → (rose → up) → ((u : Told) (j : Option Item) → Decides s stamp log c u j → Decides s other log c u j)
    → Comes s rose stamp seen log c t i → Comes s up other seen log c t i
weaken s rose up stamp other seen log c t i rises keeps (as_decided d u j is) = as_decided d u j (keeps u j is)
weaken s rose up stamp other seen log c t i rises keeps (as_wanted d u is) = as_wanted d u is
weaken s rose up stamp other seen log c t i rises keeps (not_converted d u r converts is) = not_converted d u (rises r) converts is
weaken s rose up stamp other seen log c t i rises keeps (moved claim is) = moved claim is
weaken s rose up stamp other seen log c t i rises keeps (lost claim is) = lost claim is

-- a call that looks at no stamp, at any
pub at_stamp : {B : Type 0} (s : Server) (rose up : Type 0) (stamp other : List ℕ) (v z : View B) (c : Call) (t : Told)
    → (rose → up) → ((log : List Item) (u : Told) (j : Option Item) → Decides s stamp log c u j → Decides s other log c u j)
    → CallsOn s rose stamp v z c t → CallsOn s up other v z c t
at_stamp s rose up stamp other v z c t rises keeps calls = record {
  log = calls.log;
  item = calls.item;
  turned = calls.turned;
  legal = calls.legal;
  comes = weaken s rose up stamp other (items v.seen) (items calls.log) c t calls.item rises (keeps (items calls.log)) calls.comes;
}

-- a name tells its version
pub same_place : (m : Meaning) (v w : ℕ) (name : List ℕ) → NamesDiffer m → v < m.count → name ≡ m.name v → IsPlace m name w → w ≡ v
same_place m v w name names within is place = elim (cases_lt w m.count) [
  | inl below ↦ names.differ w v below within (place.named below ∙ is)
  | inr above ↦ absurd (place.unknown (omega arith) v within (sym is))
]

-- ---- where the pass goes

-- what is left of a list that has no more items of a pass has none
none_more : (n : ℕ) (xs ys : List Logged) → items_of n (xs ++ ys) ≡ items_of n xs → items_of n ys ≡ []
none_more n xs ys e =
    let a : length (items_of n xs ++ items_of n ys) ≡ length (items_of n xs) = ap (λ (zs : List Logged). length zs) (sym (items_of-append n xs ys) ∙ e) in
    empty (items_of n ys) (let l = length-append (items_of n xs) (items_of n ys) in omega arith)
  where
    empty : (zs : List Logged) → length zs ≡ 0 → zs ≡ []
    empty [] z = refl
    empty (x ∷ zs) z = absurd (omega arith)

addition_is : {B : Type 0} (v : View B) (n : ℕ) (log : List Logged) (item : Option Item) → v.number ≡ Some n → addition v log item ≡ added n log item
addition_is v n log (Some x) e = ap (λ (o : Option ℕ). (let l : Logged = record { by = number_or o; nth = length (items_of (number_or o) log); item = x } in l) ∷ []) e
addition_is v n log None e = refl

not_equal : (m n : ℕ) → m ≢ n → nat_eq n m ≡ false
not_equal m n other = grind (arith, nat_tests)

added_other : (m n : ℕ) (log : List Logged) (item : Option Item) → m ≢ n → items_of m (added n log item) ≡ []
added_other m n log None other = refl
added_other m n log (Some x) other = rw (not_equal m n other) refl

pub same_but : {B : Type 0} (v z : View B) (log : List Logged) (item : Option Item) → Turned v z log item → IsSameBut v z
same_but {B = B} v z log item t =
    t.3 ∙ (λ i. set_stage v (sym (ap (λ (q : View B). q.seen) t.3) i) (sym (ap (λ (q : View B). q.stage) t.3) i))

pub goes : {B : Type 0} (n : ℕ) (v z : View B) (log : List Logged) (item : Option Item) → v.number ≡ Some n → Turned v z log item → PassGoes n v z log item
goes {B = B} n v z log item named t = record {
  grows = t.0;
  own = t.1 n own;
  seen = seen;
  quiet = λ m other known.
      let now : items_of m log ≡ items_of m v.seen = elim known [ inl a ↦ t.1 m a | inr alone ↦ ap (λ (xs : List Logged). items_of m xs) (t.2 alone) ] in
      ap (λ (xs : List Logged). items_of m xs) seen ∙ items_of-append m log (added n log item)
      ∙ ap (λ (xs : List Logged). items_of m log ++ xs) (added_other m n log item other) ∙ append-nil (items_of m log) ∙ now;
}
  where
    own : In n (numbers_of v)
    own = subst (λ (o : Option ℕ). In n (numbers_or o v.met)) (sym named) (inl refl)

    seen : z.seen ≡ log ++ added n log item
    seen = ap (λ (q : View B). q.seen) t.3 ∙ ap (λ (ys : List Logged). log ++ ys) (addition_is v n log item named)

pub stays : {B : Type 0} (n : ℕ) (v : View B) → PassGoes n v v v.seen None
stays n v = record {
  grows = prefix_self v.seen;
  own = refl;
  seen = sym (append-nil v.seen);
  quiet = λ m other known. refl;
}

-- ---- answers

told_is : (r : Result Reply Refusal) → told r ≡ answered (decided r)
told_is (Ok r) = refl
told_is (Err e) = refl

success_phrase : (code : ℕ) → IsSuccess code → HasPhrase code
success_phrase code ok = elim ok [
  | inl e ↦ subst (λ (n : ℕ). HasPhrase n) (sym e) phrase-200
  | inr e ↦ subst (λ (n : ℕ). HasPhrase n) (sym e) phrase-201
]

pub coded : {B : Type 0} (s : Server) (rose : Type 0) (stamp : List ℕ) (v z : View B) (c : Call) (r : Result Reply Refusal)
    → CallsOn s rose stamp v z c (told r) → IfOk r (λ x. HasPhrase x.code)
coded s rose stamp v z c (Ok r) calls = success_phrase r.code (comes_fair s rose stamp (items v.seen) (items calls.log) c (told (Ok r)) calls.item calls.comes)
coded s rose stamp v z c (Err e) calls = tt

routed_call : (f : Front) (rose : Type 0) (stamp : List ℕ) (seen log : List Item) (c : Call) (r : Result Reply Refusal) (a : ReplyView) (i : Option Item)
    → MayStamp f.told stamp → Comes f.server rose stamp seen log c (told r) i → Tells f.server.meaning (about c) (decided r) a
    → Routed f rose seen log (route.calls c) a i
routed_call f rose stamp seen log c (Ok r) a i may comes tells =
    inl (record { stamp = stamp; answer = Ok (reply_of r); may = may; told = tells; comes = comes })
routed_call f rose stamp seen log c (Err e) a i may comes (inl tells) =
    inl (record { stamp = stamp; answer = Err (refusal_of e); may = may; told = tells; comes = comes })
routed_call f rose stamp seen log c (Err e) a i may comes (inr tells) = inr (tells, (comes_fair f.server rose stamp seen log c (told (Err e)) i comes).0)

pub comes_call : {B : Type 0} (f : Front) (rose : Type 0) (n : ℕ) (stamp : List ℕ) (v z : View B) (c : Call) (r : Result Reply Refusal) (a : ReplyView)
    → v.number ≡ Some n → MayStamp f.told stamp → CallsOn f.server rose stamp v z c (told r) → Tells f.server.meaning (about c) (decided r) a
    → going.PassComes f rose n v z (route.calls c) a
comes_call f rose n stamp v z c r a named may calls tells = record {
  log = calls.log;
  item = calls.item;
  goes = goes n v z calls.log calls.item named calls.turned;
  routed = routed_call f rose stamp (items v.seen) (items calls.log) c r a calls.item may calls.comes tells;
}

-- a request that calls nothing
pub comes_still : {B : Type 0} (f : Front) (rose : Type 0) (n : ℕ) (v : View B) (r : Route) (a : ReplyView)
    → Routed f rose (items v.seen) (items v.seen) r a None → going.PassComes f rose n v v r a
comes_still f rose n v r a routed = record { log = v.seen; item = None; goes = stays n v; routed = routed }

-- it is refused, or there is no memory for the text
either_told : (f : Front) (a : ReplyView) (e : RefusalView) (i : Option Item) → i ≡ None
    → (a ≡ refused f.server.meaning Objects e) ⊎ (a ≡ wants_memory) → ((a ≡ refused f.server.meaning Objects e) × (i ≡ None)) ⊎ WantsMemory a i
either_told f a e i none (inl is) = inl (is, none)
either_told f a e i none (inr is) = inr (is, none)

pub comes_nowhere : {B : Type 0} (f : Front) (rose : Type 0) (n : ℕ) (v : View B) (a : ReplyView)
    → (a ≡ refused f.server.meaning Objects refusal.no_resource) ⊎ (a ≡ wants_memory) → going.PassComes f rose n v v route.no_resource a
comes_nowhere f rose n v a tells = comes_still f rose n v route.no_resource a (either_told f a refusal.no_resource None refl tells)

pub comes_bad : {B : Type 0} (f : Front) (rose : Type 0) (n : ℕ) (v : View B) (a : ReplyView) (why : WhyView)
    → (a ≡ refused f.server.meaning Objects (refusal.bad_request why)) ⊎ (a ≡ wants_memory) → going.PassComes f rose n v v (route.bad_request why) a
comes_bad f rose n v a why tells = comes_still f rose n v (route.bad_request why) a (either_told f a (refusal.bad_request why) None refl tells)

routed_replies : (f : Front) (rose : Type 0) (seen log : List Item) (q : Request) (r : Route) (a : ReplyView) (i : Option Item)
    → Routes f.server.meaning q.method q.target q.body r → Routed f rose seen log r a i → Replies f rose seen log q a i
routed_replies f rose seen log q r a i routes (inl exact) = inl (record { route = r; routes = routes; reply = exact })
routed_replies f rose seen log q r a i routes (inr wants) = inr wants

replies_answer : {B : Type 0} (f : Front) (n : ℕ) (v z : View B) (j k : ℕ) (q : Request) (a : ReplyView) (log : List Logged) (item : Option Item)
    → j ≤ k → PassGoes n v z log item → Replies f (j < k) (items v.seen) (items log) q a item
    → StepAnswers f n (record { seen = v.seen; faults = j }) q a (record { seen = z.seen; faults = k })
replies_answer f n v z j k q a log item later goes replies =
    let whole : v.seen ++ goes.grows.0 ≡ log = goes.grows.1 in
    record {
      others = goes.grows.0;
      item = item;
      strangers = none_more n v.seen goes.grows.0 (ap (λ (xs : List Logged). items_of n xs) whole ∙ goes.own);
      replies = subst (λ (xs : List Logged). Replies f (j < k) (items v.seen) (items xs) q a item) (sym whole) replies;
      seen = goes.seen ∙ ap (λ (xs : List Logged). xs ++ added n xs item) (sym whole);
      faults = later;
    }

-- the answer of a route is the request's
pub answers : {B : Type 0} (f : Front) (n : ℕ) (v z : View B) (j k : ℕ) (q : Request) (r : Route) (a : ReplyView)
    → j ≤ k → Routes f.server.meaning q.method q.target q.body r → going.PassComes f (j < k) n v z r a
    → StepAnswers f n (record { seen = v.seen; faults = j }) q a (record { seen = z.seen; faults = k })
answers f n v z j k q r a later routes comes =
    replies_answer f n v z j k q a comes.log comes.item later comes.goes
    (routed_replies f (j < k) (items v.seen) (items comes.log) q r a comes.item routes comes.routed)

-- a request without memory for its route
pub answers_wanting : {B : Type 0} (f : Front) (n : ℕ) (v : View B) (j : ℕ) (q : Request)
    → StepAnswers f n (record { seen = v.seen; faults = j }) q wants_memory (record { seen = v.seen; faults = j })
answers_wanting f n v j q = replies_answer f n v v j j q wants_memory v.seen None (omega arith) (stays n v) (inr (refl, refl))

-- ---- arguments

-- what an action has to have for its call
abbrev MayAct : Action → Type 0
MayAct (action.get v k) = Unit {0}
MayAct (action.list v ns) = Unit {0}
MayAct (action.create v ns) = is_namespace ns ≡ true
MayAct (action.replace v k) = IsTrue (is_namespace k.ns)
MayAct (action.delete v k) = Unit {0}
MayAct action.group = Unit {0}
MayAct action.crd = Unit {0}
MayAct action.set_versions = Unit {0}
MayAct action.trim = Unit {0}
MayAct action.start = Unit {0}
MayAct (action.migration name) = Unit {0}
MayAct action.migrations = Unit {0}
MayAct (action.raw k) = Unit {0}

may_call : (m : Meaning) (a : Action) (v : ℕ) (body : List ℕ) (p : Paging) → MayAct a → AsksAt m a v → MayCall m (call_of a v body p)
may_call m (action.get name k) v body p may at = at.0
may_call m (action.list name ns) v body p may at = at.0
may_call m (action.create name ns) v body p may at = (at.0, may)
may_call m (action.replace name k) v body p may at = (at.0, may)
may_call m (action.delete name k) v body p may at = at.0
may_call m action.group v body p may at = tt
may_call m action.crd v body p may at = tt
may_call m action.set_versions v body p may at = tt
may_call m action.trim v body p may at = tt
may_call m action.start v body p may at = tt
may_call m (action.migration name) v body p may at = tt
may_call m action.migrations v body p may at = tt
may_call m (action.raw k) v body p may at = tt

if_some : (o : Option Action) (a : Action) → IfSome o (λ x. MayAct x) → o ≡ Some a → MayAct a
if_some o a all is = subst (λ (x : Option Action). IfSome x (λ y. MayAct y)) is all

pick : (g po pu d : Option Action) (b c e f : Bool) (a : Action)
    → IfSome g (λ x. MayAct x) → IfSome po (λ x. MayAct x) → IfSome pu (λ x. MayAct x) → IfSome d (λ x. MayAct x)
    → (if b then g else if c then po else if e then pu else if f then d else None) ≡ Some a → MayAct a
pick g po pu d true c e f a one two three four is = if_some g a one is
pick g po pu d false true e f a one two three four is = if_some po a two is
pick g po pu d false false true f a one two three four is = if_some pu a three is
pick g po pu d false false false true a one two three four is = if_some d a four is
pick g po pu d false false false false a one two three four is = cc

-- the actions of a row are such
record AreActs (r : Row) : Type 0 where
  get : IfSome r.get (λ x. MayAct x)
  post : IfSome r.post (λ x. MayAct x)
  put : IfSome r.put (λ x. MayAct x)
  delete : IfSome r.delete (λ x. MayAct x)

acts : (m : Meaning) (r : Resource) → IsResource m r → AreActs (row_of r)
acts m path.group is = record { get = tt; post = tt; put = tt; delete = tt }
acts m (path.everywhere v) is = record { get = tt; post = tt; put = tt; delete = tt }
acts m (path.collection v ns) is = record { get = tt; post = is; put = tt; delete = tt }
acts m (path.object v key) is = record { get = tt; post = tt; put = is.ns; delete = tt }
acts m path.crd is = record { get = tt; post = tt; put = tt; delete = tt }
acts m path.crd_status is = record { get = tt; post = tt; put = tt; delete = tt }
acts m path.migrations is = record { get = tt; post = tt; put = tt; delete = tt }
acts m (path.migration name) is = record { get = tt; post = tt; put = tt; delete = tt }
acts m (path.raw key) is = record { get = tt; post = tt; put = tt; delete = tt }

may_act : (r : Row) (method : List ℕ) (a : Action) → AreActs r → cell r method ≡ Some a → MayAct a
unfolding cell
may_act r method a all is =
    pick r.get r.post r.put r.delete (bytes_eq method (codes "GET")) (bytes_eq method (codes "POST")) (bytes_eq method (codes "PUT")) (bytes_eq method (codes "DELETE")) a
    all.get all.post all.put all.delete is

pub may_route : (m : Meaning) (method target body : List ℕ) (r : Route) → Routes m method target body r → MayRoute m r
may_route m method target body (route.calls c) is =
    subst (λ (x : Call). MayCall m x) (sym is.6)
    (may_call m is.1 is.3 body is.2 (may_act (row_of is.0) method is.1 (acts m is.0 is.4.asks.named.0) is.4.asks.asked) is.5)
may_route m method target body route.no_resource is = tt
may_route m method target body route.method_not_allowed is = tt
may_route m method target body (route.bad_request why) is = tt

-- ---- versions by their names

-- a call by the name of the version at a place
pub placed : {B : Type 0} (s : Server) (rose : Type 0) (stamp other : List ℕ) (v z : View B) (place : ℕ) (name : List ℕ) (make : ℕ → Call) (t : Told)
    → NamesDiffer s.meaning → place < s.meaning.count → name ≡ s.meaning.name place
    → ((log : List Item) (u : Told) (j : Option Item) → Decides s stamp log (make place) u j → Decides s other log (make place) u j)
    → (w : ℕ) × IsPlace s.meaning name w × CallsOn s rose stamp v z (make w) t
    → CallsOn s rose other v z (make place) t
placed s rose stamp other v z place name make t names within is keeps calls =
    at_stamp s rose rose stamp other v z (make place) t (λ h. h) keeps
    (subst (λ (w : ℕ). CallsOn s rose stamp v z (make w) t) (same_place s.meaning place calls.0 name names within is calls.1) calls.2)

-- a call without a tool
pub untooled : {B : Type 0} (s : Server) (rose : Type 0) (other : List ℕ) (v z : View B) (c : Call) (t : Told)
    → ((log : List Item) (u : Told) (j : Option Item) → Decides s [] log c u j → Decides s other log c u j)
    → CallsOn s ⊥ [] v z c t → CallsOn s rose other v z c t
untooled s rose other v z c t keeps calls = at_stamp s ⊥ rose [] other v z c t (λ h. absurd h) keeps calls

-- where a continue token goes on
pub token_place : (o : Option Token) → option_map core.place_of o ≡ views.place_of o
token_place None = refl
token_place (Some t) = refl

-- ---- one call after another

pub same_number : {B : Type 0} (v u : View B) (n : ℕ) → IsSameBut v u → v.number ≡ Some n → u.number ≡ Some n
same_number {B = B} v u n same named = ap (λ (q : View B). q.number) same ∙ named

pub same_on : {B : Type 0} (v u z : View B) → IsSameBut v u → IsSameBut u z → IsSameBut v z
same_on {B = B} v u z one two = two ∙ ap (λ (q : View B). set_stage q z.seen z.stage) one

pub quiet_on : {B : Type 0} (n : ℕ) (v u z : View B) → IsSameBut v u → Quiet n v u → Quiet n u z → Quiet n v z
quiet_on {B = B} n v u z same one two m other known =
    let later : In m (numbers_of u) ⊎ IsAlone u = elim known [
      | inl a ↦ inl (subst (λ (q : View B). In m (numbers_of q)) (sym same) a)
      | inr a ↦ inr (subst (λ (q : View B). IsAlone q) (sym same) a)
    ] in
    two m other later ∙ one m other known
