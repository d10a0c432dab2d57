-- From what an exchange comes to by its code to what a call comes to.
use Rattle.std.proofs.Common.{◌≡◌, ◌≤◌, ℕ, List, [], ◌∷◌, Option, None, Some, Result, Ok, Err, IfOk, IfErr, refl, ap, sym, ◌∙◌, inl, inr, subst, codes, arith}
use Rattle.kj_value.specs.Json.{Json, depth, items_depth, items_of}
use Rattle.kj_value.specs.Seen.{json}
use Rattle.kj_value.specs.declared.value.JVal.{JVal}
use Rattle.object_reading.specs.Fields.{text_at}
use Rattle.place.specs.Place.{Names}
use Rattle.wire_client.specs.Far.{Server, Told, Made}
use Rattle.wire_client.specs.laws.FarLaws.{made_nothing}
use Rattle.wire_client.specs.Calls.{Call, lists, posts, request_of}
use Rattle.wire_client.specs.Forms.{Path, Wanted, api_version, fields_of, meta_field, object_fault, page_fault}
use Rattle.wire_client.specs.Answers.{Answer, IsAnswer, Reply, given, broken, long, gone, code, shape, success_of, reply_by_code, form_fault, wanted_of, shaped, formed, Replies}
use Rattle.wire_client.specs.Ends.{Came, Lacked, Ended, OnLinkFault, IsPage}
use Rattle.wire_client.specs.inner.Seen.{ByCode, Asked, Starved, AskedEnd, OnShape}
use Rattle.wire_client.specs.declared.end.ListPage.{ListPage}
use Rattle.wire_client.specs.declared.end.WireEnd.{WireEnd}
use Rattle.wire_client.specs.declared.end.WireEnd.TheVariants as wire

-- no exchange was made
pub lacked : (s : Server) (t : Told) (n : Names) (call : Call) → Lacked s t t n call
lacked s t n call = record { made = inl (made_nothing s t) }

-- the body of a success is judged by its form
came : (s : Server) (before now : Told) (n : Names) (call : Call) (reply : Reply)
    → Asked s before now (request_of n call) (success_of call) reply → Came s before now n call (formed (api_version n) call reply)
came s before now n call reply asked = record {
  answer = asked.answer;
  made = asked.made;
  replies = replies_of asked.answer asked.by_code;
}
  where
    replies_of : (answer : Option (List ℕ)) → ByCode (success_of call) answer reply → Replies n call answer (formed (api_version n) call reply)
    replies_of None is = ap (λ (r : Reply). formed (api_version n) call r) is
    replies_of (Some bytes) is = (is.0, is.1, ap (λ (r : Reply). formed (api_version n) call r) is.2)

-- with its form it is given
pub came_given : (s : Server) (before now : Told) (n : Names) (call : Call) (request : List ℕ) (j : Json) → request ≡ request_of n call
    → Asked s before now request (success_of call) (given j) → form_fault (api_version n) call j ≡ None → Came s before now n call (given j)
came_given s before now n call request j is asked form =
    subst (λ (r : Reply). Came s before now n call r) (ap (λ (o : Option Path). shaped o j) form)
    (came s before now n call (given j) (subst (λ (b : List ℕ). Asked s before now b (success_of call) (given j)) is asked))

starved_of : (s : Server) (before now : Told) (request : List ℕ) (success : ℕ) (j : Json) → Asked s before now request success (given j) → Starved s before now request
starved_of s before now request success j asked = by_answer asked.answer asked.by_code asked.made
  where
    by_answer : (answer : Option (List ℕ)) → ByCode success answer (given j) → Made s before now ((record { request = request; answer = answer }) ∷ [])
        → Starved s before now request
    by_answer None is made = absurd (cc)
    by_answer (Some bytes) is made = inr (bytes, made)

-- with another form it isn't
pub came_shape : (s : Server) (before now : Told) (n : Names) (call : Call) (request : List ℕ) (j : Json) (e : WireEnd) → request ≡ request_of n call
    → Asked s before now request (success_of call) (given j) → OnShape (λ p. form_fault (api_version n) call j ≡ Some p) e → Ended s before now n call e
came_shape s before now n call request j wire.LinkFault is asked form = absurd form
came_shape s before now n call request j wire.TooLong is asked form = absurd form
came_shape s before now n call request j wire.Gone is asked form = absurd form
came_shape s before now n call request j (wire.Code c) is asked form = absurd form
came_shape s before now n call request j (wire.Shape path) is asked form =
    subst (λ (r : Reply). Came s before now n call r) (ap (λ (o : Option Path). shaped o j) form)
    (came s before now n call (given j) (subst (λ (b : List ℕ). Asked s before now b (success_of call) (given j)) is asked))
came_shape s before now n call request j wire.NoMemory is asked form =
    record { made = subst (λ (b : List ℕ). Starved s before now b) is (starved_of s before now request (success_of call) j asked) }

-- every other end stays
end_came : (s : Server) (before now : Told) (n : Names) (call : Call) (e : WireEnd)
    → AskedEnd s before now (request_of n call) (success_of call) e → Ended s before now n call e
end_came s before now n call wire.LinkFault end = came s before now n call broken end
end_came s before now n call wire.TooLong end = came s before now n call long end
end_came s before now n call wire.Gone end = came s before now n call gone end
end_came s before now n call (wire.Code c) end = came s before now n call (code c) end
end_came s before now n call (wire.Shape path) end = came s before now n call (shape path.bytes) end
end_came s before now n call wire.NoMemory end = record { made = end }

pub came_end : (s : Server) (before now : Told) (n : Names) (call : Call) (request : List ℕ) (e : WireEnd) → request ≡ request_of n call
    → AskedEnd s before now request (success_of call) e → Ended s before now n call e
came_end s before now n call request e is end = end_came s before now n call e (subst (λ (b : List ℕ). AskedEnd s before now b (success_of call) e) is end)

-- ---- an object

-- a call that is answered by an object
abbrev pub AsksObject : Call → Type 0
AsksObject call = (version : List ℕ) (j : Json) → form_fault version call j ≡ object_fault version (wanted_of call) j

form_of : (n : Names) (call : Call) (version : List ℕ) (w : Wanted) (j : Json) → AsksObject call → version ≡ api_version n → w ≡ wanted_of call
    → form_fault (api_version n) call j ≡ object_fault version w j
form_of n call version w j asks is wants =
    asks (api_version n) j ∙ ap (λ (v : List ℕ). object_fault v (wanted_of call) j) (sym is) ∙ ap (λ (u : Wanted). object_fault version u j) (sym wants)

pub object_given : (s : Server) (before now : Told) (n : Names) (call : Call) (request version : List ℕ) (w : Wanted) (j : Json) (r : Result JVal WireEnd)
    → AsksObject call → request ≡ request_of n call → version ≡ api_version n → w ≡ wanted_of call → Asked s before now request (success_of call) (given j)
    → IfOk r (λ v. json v ≡ j) → IfOk r (λ _. object_fault version w j ≡ None) → IfOk r (λ v. Came s before now n call (given (json v)))
object_given s before now n call request version w j (Ok v) asks is vis wis asked same form =
    subst (λ (k : Json). Came s before now n call (given k)) (sym same)
    (came_given s before now n call request j is asked (form_of n call version w j asks vis wis ∙ form))
object_given s before now n call request version w j (Err e) asks is vis wis asked same form = form

pub object_ended : (s : Server) (before now : Told) (n : Names) (call : Call) (request version : List ℕ) (w : Wanted) (j : Json) (r : Result JVal WireEnd)
    → AsksObject call → request ≡ request_of n call → version ≡ api_version n → w ≡ wanted_of call → Asked s before now request (success_of call) (given j)
    → IfErr r (OnShape (λ p. object_fault version w j ≡ Some p)) → IfErr r (Ended s before now n call)
object_ended s before now n call request version w j (Ok v) asks is vis wis asked form = form
object_ended s before now n call request version w j (Err e) asks is vis wis asked form =
    came_shape s before now n call request j e is asked (turned e form)
  where
    turned : (e : WireEnd) → OnShape (λ p. object_fault version w j ≡ Some p) e → OnShape (λ p. form_fault (api_version n) call j ≡ Some p) e
    turned wire.LinkFault h = h
    turned wire.TooLong h = h
    turned wire.Gone h = h
    turned (wire.Code c) h = h
    turned (wire.Shape path) h = form_of n call version w j asks vis wis ∙ h
    turned wire.NoMemory h = h

pub same_levels : (j : Json) (r : Result JVal WireEnd) (most : ℕ) → depth j ≤ most → IfOk r (λ v. json v ≡ j) → IfOk r (λ v. depth (json v) ≤ most)
same_levels j (Ok v) most low same = rw same low
same_levels j (Err e) most low same = same

pub no_link_fault : {T : Type 0} (P : Path → Type 0) (Q : Type 0) (r : Result T WireEnd) → IfErr r (OnShape P) → IfErr r (OnLinkFault Q)
no_link_fault P Q (Ok v) h = h
no_link_fault P Q (Err wire.LinkFault) h = absurd h
no_link_fault P Q (Err wire.TooLong) h = tt
no_link_fault P Q (Err wire.Gone) h = tt
no_link_fault P Q (Err (wire.Code c)) h = tt
no_link_fault P Q (Err (wire.Shape path)) h = tt
no_link_fault P Q (Err wire.NoMemory) h = tt

-- what a post's answer is to have
abbrev pub posted : List ℕ → Option (List ℕ) → Wanted
posted ns name = record { ns = Some ns; name = name }

pub posted_is : (ns : List ℕ) (body : Json) (name : Option (List ℕ)) → name ≡ text_at (meta_field (codes "name") (fields_of body)) → posted ns name ≡ wanted_of (posts ns body)
posted_is ns body name is = ap (λ (o : Option (List ℕ)). posted ns o) is

-- ---- a page

pub page_given : (s : Server) (before now : Told) (n : Names) (limit : ℕ) (token request version : List ℕ) (j : Json) (r : Result ListPage WireEnd)
    → request ≡ request_of n (lists limit token) → version ≡ api_version n → Asked s before now request (success_of (lists limit token)) (given j)
    → IfOk r (λ _. page_fault version j ≡ None) → IfOk r (IsPage j) → IfOk r (λ p. (i : Json) × Came s before now n (lists limit token) (given i) × IsPage i p)
page_given s before now n limit token request version j (Ok p) is vis asked form page = (
  j,
  came_given s before now n (lists limit token) request j is asked (ap (λ (v : List ℕ). page_fault v j) (sym vis) ∙ form),
  page,
)
page_given s before now n limit token request version j (Err e) is vis asked form page = form

pub page_ended : (s : Server) (before now : Told) (n : Names) (limit : ℕ) (token request version : List ℕ) (j : Json) (r : Result ListPage WireEnd)
    → request ≡ request_of n (lists limit token) → version ≡ api_version n → Asked s before now request (success_of (lists limit token)) (given j)
    → IfErr r (OnShape (λ p. page_fault version j ≡ Some p)) → IfErr r (Ended s before now n (lists limit token))
page_ended s before now n limit token request version j (Ok p) is vis asked form = form
page_ended s before now n limit token request version j (Err e) is vis asked form =
    came_shape s before now n (lists limit token) request j e is asked (turned e form)
  where
    turned : (e : WireEnd) → OnShape (λ p. page_fault version j ≡ Some p) e → OnShape (λ p. form_fault (api_version n) (lists limit token) j ≡ Some p) e
    turned wire.LinkFault h = h
    turned wire.TooLong h = h
    turned wire.Gone h = h
    turned (wire.Code c) h = h
    turned (wire.Shape path) h = ap (λ (v : List ℕ). page_fault v j) (sym vis) ∙ h
    turned wire.NoMemory h = h

pub page_levels : (j : Json) (r : Result ListPage WireEnd) (most : ℕ) → depth j ≤ most → IfOk r (λ p. items_depth (items_of p.items) ≤ depth j) → IfOk r (λ p. items_depth (items_of p.items) ≤ most)
page_levels j (Ok p) most low h = omega (arith, low, h)
page_levels j (Err e) most low h = h
