-- Where bytes have no response, none is at their front.
use Rattle.std.proofs.Common.{◌≡◌, ℕ, ◌-◌, ◌<◌, ◌≤◌, List, [], ◌++◌, length, take, Some, Ok, Err, Option, Result, MatchResult, IfErr, ap, sym, ◌∙◌, arith, subst, inl, inr}
use Rattle.std.proofs.lemmas.List.{append-nil}
use Rattle.httparse.specs.Grammar.{ResponseHead, ReadsResponse, print_response}
use Rattle.httparse.proofs.GrammarLemmas.{response_unique}
use Rattle.http_wire.specs.declared.limits.TheConstants.{MOST_FIELDS, MOST_HEAD_BYTES}
use Rattle.http_wire.specs.Head.{window}
use Rattle.edge_io.specs.Causes.{Rose}
use Rattle.http_wire.specs.Inboxes.{Held, LiesIn, OnReadFault}
use Rattle.http_wire.specs.declared.ResponseParts.{ResponseParts}
use Rattle.http_wire.specs.Received.{Response, Receives, IsStatusHead, IsBadStatus, FaultyResponse, IsPartOfResponse, IsLack, LacksResponse, length_after, response_at, IsNextResponse, Received}
use Rattle.http_wire.specs.declared.WireFault.{WireFault}
use Rattle.http_wire.specs.declared.WireFault.TheVariants.{Closed, Torn, ReadFault, BadHead, HeadTooLong, LengthRequired, BodyTooLong}
use Rattle.http_wire.proofs.StatusLemmas.{head_long}
use Rattle.http_wire.proofs.ReceivingLemmas.{window_head, open_no_head, print_some, response_one}
use Rattle.link_converter.specs.Asking.{HasBody, ok_code}

bad_no_head : (b : List ℕ) (f : WireFault) (h : ResponseHead) (tail : List ℕ) → IsBadStatus b f → IsStatusHead b h tail → ⊥
bad_no_head b BadHead h tail bad head =
    let w = window_head b h tail head in
    let more : ReadsResponse (window b ++ []) h _ = subst (λ (xs : List ℕ). ReadsResponse xs h (take (MOST_HEAD_BYTES - length (print_response h)) tail)) (sym (append-nil (window b))) w in
    let many : MOST_FIELDS < length h.fields = bad [] h _ more in
    omega (arith, head.few)
bad_no_head b HeadTooLong h tail bad head = open_no_head b h tail bad.1 head
bad_no_head b LengthRequired h tail bad head = bad
bad_no_head b (BodyTooLong n) h tail bad head = bad
bad_no_head b Closed h tail bad head = bad
bad_no_head b (Torn held) h tail bad head = bad
bad_no_head b ReadFault h tail bad head = bad

pub faulty_none : (b : List ℕ) (f : WireFault) → FaultyResponse b f → LacksResponse b
unfolding FaultyResponse Receives
faulty_none b f faulty r rest reads = elim faulty [
  | inl bad ↦ bad_no_head b f reads.0 reads.1 bad reads.3
  | inr is ↦
      let same = response_unique b reads.0 is.0 reads.1 is.1 reads.3.reads is.2.reads in
      let e : Ok reads.2 ≡ Err f = sym reads.4 ∙ ap length_after same.0 ∙ is.3 in
      cc
]

pub part_none : (b : List ℕ) → IsPartOfResponse b → LacksResponse b
unfolding IsPartOfResponse Receives
part_none b part r rest reads = elim part [
  | inl open_ ↦ open_.1.0 reads.0 reads.1 reads.3.reads
  | inr is ↦
      let same = response_unique b reads.0 is.0 reads.1 is.1 reads.3.reads is.3.reads in
      let n : Ok reads.2 ≡ Ok is.2 = sym reads.4 ∙ ap length_after same.0 ∙ is.4 in
      let m : reads.2 ≡ is.2 = cc in
      let t : length reads.1 ≡ length is.1 = ap (λ (xs : List ℕ). length xs) same.1 in
      let some : reads.2 ≤ length reads.1 = reads.5 in
      let less : length is.1 < is.2 = is.5 in
      omega arith
]

pub nil_none : (b : List ℕ) → b ≡ [] → LacksResponse b
unfolding Receives
nil_none b none r rest reads =
    let long = head_long b reads.0 reads.1 reads.3 in
    let some = print_some reads.0 in
    let e : length b ≡ 0 = ap (λ (xs : List ℕ). length xs) none in
    omega arith

lack_no_body : (b : List ℕ) → LacksResponse b → (body : List ℕ) → HasBody b body → ⊥
lack_no_body b lacks body has = lacks _ has.0 has.1

pub none_closed : (b : List ℕ) → IsLack b (Some []) Closed → (body : List ℕ) → HasBody b body → ⊥
none_closed b lack = lack_no_body b (nil_none b lack.0)

pub none_torn : (b : List ℕ) (n : ℕ) → IsLack b (Some []) (Torn n) → (body : List ℕ) → HasBody b body → ⊥
none_torn b n lack = lack_no_body b (part_none b lack.2)

pub none_bad : (b : List ℕ) → IsLack b (Some []) BadHead → (body : List ℕ) → HasBody b body → ⊥
none_bad b lack = lack_no_body b (faulty_none b BadHead lack)

pub none_long : (b : List ℕ) → IsLack b (Some []) HeadTooLong → (body : List ℕ) → HasBody b body → ⊥
none_long b lack = lack_no_body b (faulty_none b HeadTooLong lack)

pub none_unmeasured : (b : List ℕ) → IsLack b (Some []) LengthRequired → (body : List ℕ) → HasBody b body → ⊥
none_unmeasured b lack = lack_no_body b (faulty_none b LengthRequired lack)

pub none_large : (b : List ℕ) (n : ℕ) → IsLack b (Some []) (BodyTooLong n) → (body : List ℕ) → HasBody b body → ⊥
none_large b n lack = lack_no_body b (faulty_none b (BodyTooLong n) lack)

-- a response of another code
pub other_code : (b : List ℕ) (r : Response) (rest : List ℕ) → Receives b r rest → (r.code ≡ ok_code → ⊥) → (body : List ℕ) → HasBody b body → ⊥
other_code b r rest reads other body has =
    other (ap (λ (x : Response). x.code) (response_one b r _ rest has.0 reads has.1).0)

-- one of this code
pub has_body : (b : List ℕ) (r : Response) (rest body : List ℕ) → Receives b r rest → r.code ≡ ok_code → body ≡ r.body → HasBody b body
has_body b r rest body reads code same =
    (rest, subst (λ (x : Response). Receives b x rest) (λ i. record { code = code i; body = sym same i }) reads)

-- what the bytes are read as
pub both : (b : List ℕ) (i : Held) (left : Option (List ℕ)) (r : Result ResponseParts WireFault) → IsNextResponse i left r → Received b i left r
    → MatchResult r (λ p. (rest : List ℕ) × Receives b (response_at i.bytes p) rest × LiesIn (length i.bytes) p.body) (λ f. IsLack b (Some []) f)
both b i left (Ok p) next got = (got.0, got.2, next.body)
both b i left (Err f) next got = got

-- a source that never fails is never the cause of a fault
pub never : {A : Type 0} (r : Result A WireFault) → IfErr r (λ f. OnReadFault f (Rose 0 0)) → IfErr r (λ f. OnReadFault f ⊥)
never (Ok a) h = tt
never (Err ReadFault) h = absurd (omega (arith, h))
never (Err Closed) h = tt
never (Err (Torn n)) h = tt
never (Err BadHead) h = tt
never (Err HeadTooLong) h = tt
never (Err LengthRequired) h = tt
never (Err (BodyTooLong n)) h = tt

-- the same of the same bytes and fault
pub along : (a b : List ℕ) (f g : WireFault) → a ≡ b → f ≡ g → IsLack a (Some []) f → IsLack b (Some []) g
along a b f g same is h = subst (λ (e : WireFault). IsLack b (Some []) e) is (subst (λ (c : List ℕ). IsLack c (Some []) f) same h)

pub along_code : (a b : List ℕ) (r : Response) (rest : List ℕ) → a ≡ b → Receives a r rest → (r.code ≡ ok_code → ⊥) → (body : List ℕ) → HasBody b body → ⊥
along_code a b r rest same reads other = other_code b r rest (subst (λ (c : List ℕ). Receives c r rest) same reads) other
