-- What is held of a response, with what is still to come.
use Rattle.std.proofs.Common.{◌≡◌, ◌⊎◌, ℕ, ◌+◌, ◌-◌, ◌<◌, ◌≤◌, List, [], ◌++◌, length, take, drop, Result, Ok, Err, Option, Some, None, refl, ap, sym, ◌∙◌, subst, arith, length-append, inl, inr}
use Rattle.std.proofs.lemmas.List.{append-nil, take-append-drop, take-append-le, take_all, take-take, drop-append-le}
use Rattle.std.proofs.Math.Seq.{drop-append_seam, drop-append-add, take-append_seam}
use Rattle.std.proofs.lemmas.Bool.{cases_lt}
use Rattle.std.specs.Io.KnownBytes.{prepend_known}
use Rattle.httparse.specs.Grammar.{ResponseHead, ReadsResponse, print_response, print_blank, print_version}
use Rattle.httparse.proofs.GrammarLemmas.{response_unique, print_response-append}
use Rattle.http_wire.specs.declared.limits.TheConstants.{MOST_HEAD_BYTES}
use Rattle.http_wire.specs.Head.{window}
use Rattle.http_wire.specs.Lines.{EndsInEmptyLine, HasEmptyLine}
use Rattle.http_wire.specs.Inboxes.{Held, part_of}
use Rattle.http_wire.specs.Received.{Response, Receives, IsStatusHead, LacksHead, LacksResponse, IsOpenStatus, FaultyResponse, IsPartOfResponse, IsStatusOf, response_of, response_at, length_after, AreResponseParts, IsLack, IsNextResponse, Received}
use Rattle.http_wire.specs.declared.WireFault.{WireFault}
use Rattle.http_wire.specs.declared.WireFault.TheVariants.{Closed, Torn, ReadFault, BadHead, HeadTooLong, LengthRequired, BodyTooLong}
use Rattle.http_wire.specs.declared.ResponseParts.{ResponseParts}
use Rattle.http_wire.specs.declared.response_head.StatusParts.{StatusParts}
use Rattle.http_wire.proofs.LineLemmas.{status_ends}
use Rattle.http_wire.proofs.HeadLemmas.{take_both, window_all}
use Rattle.http_wire.proofs.ReadingLemmas.{grown, some_between, all_held}
use Rattle.http_wire.proofs.StatusLemmas.{head_more, head_long, parts_more, faulty_more}

-- a head at the front is at the front of what a head may take
pub window_head : (b : List ℕ) (h : ResponseHead) (tail : List ℕ) → IsStatusHead b h tail
    → ReadsResponse (window b) h (take (MOST_HEAD_BYTES - length (print_response h)) tail)
window_head b h tail head =
    let all : take MOST_HEAD_BYTES (print_response h) ≡ print_response h = take_all MOST_HEAD_BYTES (print_response h) head.short in (
      head.reads.0,
      ap window head.reads.1 ∙ take_both MOST_HEAD_BYTES (print_response h) tail ∙ ap (λ (xs : List ℕ). xs ++ take (MOST_HEAD_BYTES - length (print_response h)) tail) all,
    )

-- an open head isn't whole
pub open_no_head : (b : List ℕ) (h : ResponseHead) (tail : List ℕ) → IsOpenStatus (window b) → IsStatusHead b h tail → ⊥
open_no_head b h tail open_ head = open_.0 h _ (window_head b h tail head)

-- equal bytes are as open
pub open_as : (held b : List ℕ) → held ≡ b → IsOpenStatus (window held) → IsOpenStatus (window b)
open_as held b same open_ = subst (λ (xs : List ℕ). IsOpenStatus (window xs)) same open_

pub no_head_yet : {A : Type 0} (now old : Held) → ((h : ResponseHead) (tail : List ℕ) → IsStatusHead old.bytes h tail → ⊥) ⊎ (A × (now ≡ old))
    → IsOpenStatus (window now.bytes) → (h : ResponseHead) (tail : List ℕ) → IsStatusHead old.bytes h tail → ⊥
no_head_yet now old either open_ h tail head = elim either [
  | inl none ↦ none h tail head
  | inr same ↦ open_no_head now.bytes h tail open_ (subst (λ (i : Held). IsStatusHead i.bytes h tail) (sym same.1) head)
]

pub too_long : (b : List ℕ) → MOST_HEAD_BYTES ≤ length b → IsOpenStatus (window b) → FaultyResponse b HeadTooLong
unfolding FaultyResponse
too_long b long open_ = inl (long, open_)

pub open_all : (b d : List ℕ) → length b < MOST_HEAD_BYTES → d ≡ b → IsOpenStatus (window b) → IsOpenStatus d
open_all b d short same open_ =
    subst (λ (xs : List ℕ). IsOpenStatus xs) (window_all b (omega arith) ∙ sym same) open_

pub head_grown : (old new : List ℕ) (p : StatusParts) → take (length old) new ≡ old
    → (h : ResponseHead) × (tail : List ℕ) × IsStatusOf old p h tail
    → (h : ResponseHead) × (tail : List ℕ) × IsStatusOf new p h tail
head_grown old new p front is =
    (is.0, is.1 ++ drop (length old) new, subst (λ (xs : List ℕ). IsStatusOf xs p is.0 (is.1 ++ drop (length old) new)) (sym (grown old new front)) (parts_more old (drop (length old) new) p is.0 is.1 is.2))

pub print_some : (h : ResponseHead) → 0 < length (print_response h)
print_some h =
    let all : print_response h ≡ print_response h ++ [] = sym (append-nil (print_response h)) in
    rw (all, print_response-append h []) (some_between (print_blank h.blank) (print_version h.minor) _ 32)

pub body_torn : (b : List ℕ) (p : StatusParts) → (h : ResponseHead) × (tail : List ℕ) × IsStatusOf b p h tail → length b < p.len + p.body
    → (0 < length b) × IsPartOfResponse b
unfolding IsPartOfResponse
body_torn b p is short =
    let long = head_long b is.0 is.1 is.2.head in
    let some = print_some is.0 in
    (omega arith, inr (is.0, is.1, p.body, is.2.head, is.2.body, omega (arith, is.2.len)))

-- the parts of a whole response
pub parts_read : (b : List ℕ) (p : StatusParts) → (h : ResponseHead) × (tail : List ℕ) × IsStatusOf b p h tail → p.len + p.body ≤ length b
    → AreResponseParts (record { bytes = b; request = p.len + p.body })
    (record { code = p.code; body = record { start = p.len; len = p.body } })
unfolding Receives
parts_read b p is whole =
    let h = is.0 in
    let tail = is.1 in
    let s = is.2 in
    let long = head_long b h tail s.head in
    let behind : drop p.len b ≡ tail = rw (s.len, s.head.reads.1) (drop-append_seam (print_response h) tail) in
    let after : drop (p.len + p.body) b ≡ drop p.body tail = rw (s.len, s.head.reads.1) (drop-append-add (print_response h) tail p.body) in
    let n : (p.len + p.body) - p.len ≡ p.body = omega arith in
    let body : part_of b (record { start = p.len; len = p.body }) ≡ take p.body tail = rw (n, behind) refl in
    record {
      reads = (h, tail, p.body, s.head, s.body, omega (arith, s.len), rw (s.code, body) refl, after);
      within = whole;
      body = whole;
    }

-- a response at the front stays one, whatever follows
pub reads_more : (b more : List ℕ) (r : Response) (rest : List ℕ) → Receives b r rest → Receives (b ++ more) r (rest ++ more)
unfolding Receives
reads_more b more r rest reads =
    let n = reads.2 in
    let tail = reads.1 in (
      reads.0,
      tail ++ more,
      n,
      head_more b more reads.0 tail reads.3,
      reads.4,
      omega (arith, length-append tail more, reads.5),
      reads.6 ∙ ap (λ (xs : List ℕ). response_of reads.0 xs) (sym (take-append-le n tail more reads.5)),
      ap (λ (xs : List ℕ). xs ++ more) reads.7 ∙ sym (drop-append-le n tail more reads.5),
    )

pub known_reads : (held : List ℕ) (r : Response) (tail b : List ℕ) (left : Option (List ℕ))
    → Receives held r tail → prepend_known held left ≡ Some b
    → (rest : List ℕ) × (prepend_known tail left ≡ Some rest) × Receives b r rest
known_reads held r tail b None reads known = cc
known_reads held r tail b (Some more) reads known =
    let all : held ++ more ≡ b = cc in
    (tail ++ more, refl, subst (λ (xs : List ℕ). Receives xs r (tail ++ more)) all (reads_more held more r tail reads))

pub known_faulty : (held b : List ℕ) (left : Option (List ℕ)) (f : WireFault) → FaultyResponse held f → prepend_known held left ≡ Some b → FaultyResponse b f
known_faulty held b None f faulty known = cc
known_faulty held b (Some more) f faulty known =
    let all : held ++ more ≡ b = cc in
    subst (λ (xs : List ℕ). FaultyResponse xs f) all (faulty_more held more f faulty)

pub lack_of_all : (held b : List ℕ) (left : Option (List ℕ)) (f : WireFault) → IsLack held left f → prepend_known held left ≡ Some b → IsLack b (Some []) f
lack_of_all held b left Closed end known = (all_held held b left end.1 known ∙ end.0, refl)
lack_of_all held b left (Torn n) end known = rw (all_held held b left end.3 known) (end.0, end.1, end.2, refl)
lack_of_all held b left ReadFault end known = tt
lack_of_all held b left BadHead end known = known_faulty held b left BadHead end known
lack_of_all held b left HeadTooLong end known = known_faulty held b left HeadTooLong end known
lack_of_all held b left LengthRequired end known = known_faulty held b left LengthRequired end known
lack_of_all held b left (BodyTooLong n) end known = known_faulty held b left (BodyTooLong n) end known

pub received : (b : List ℕ) (i : Held) (left : Option (List ℕ)) (result : Result ResponseParts WireFault)
    → IsNextResponse i left result → prepend_known i.bytes left ≡ Some b → Received b i left result
received b i left (Ok p) next known = known_reads i.bytes (response_at i.bytes p) (drop i.request i.bytes) b left next.reads known
received b i left (Err f) next known = lack_of_all i.bytes b left f next known

-- a whole response is held
pub whole_held : (b : List ℕ) (r : Response) (rest : List ℕ) (p : StatusParts) → Receives b r rest
    → (h : ResponseHead) × (tail : List ℕ) × IsStatusOf b p h tail → p.len + p.body ≤ length b
unfolding Receives
whole_held b r rest p reads is =
    let same = response_unique b reads.0 is.0 reads.1 is.1 reads.3.reads is.2.head.reads in
    let n : Ok reads.2 ≡ Ok p.body = sym reads.4 ∙ ap length_after same.0 ∙ is.2.body in
    let m : reads.2 ≡ p.body = cc in
    let t : length reads.1 ≡ length is.1 = ap (λ (xs : List ℕ). length xs) same.1 in
    let long = head_long b is.0 is.1 is.2.head in
    omega (arith, is.2.len, reads.5)

pub reads_head : (b : List ℕ) (r : Response) (rest : List ℕ) → Receives b r rest → (h : ResponseHead) × (tail : List ℕ) × IsStatusHead b h tail
unfolding Receives
reads_head b r rest reads = (reads.0, reads.1, reads.3)

pub no_whole : (b : List ℕ) → LacksHead b → LacksResponse b
no_whole b none r rest reads = let one = reads_head b r rest reads in none one.0 one.1 one.2

pub short_no_whole : (b : List ℕ) (p : StatusParts) → (h : ResponseHead) × (tail : List ℕ) × IsStatusOf b p h tail → length b < p.len + p.body → LacksResponse b
short_no_whole b p is short r rest reads =
    let whole = whole_held b r rest p reads is in
    omega arith

pub open_none : (b : List ℕ) → IsOpenStatus (window b) → LacksHead b
open_none b open_ h tail head = open_no_head b h tail open_ head

-- no head ends behind the first bytes where no empty line does
pub no_head_grown : (old new : List ℕ) → take (length old) new ≡ old → LacksHead old → (HasEmptyLine (length old) new → ⊥) → LacksHead new
no_head_grown old new front none no_line h tail head =
    let long = head_long new h tail head in
    let all : take (length (print_response h)) new ≡ print_response h = rw head.reads.1 (take-append_seam (print_response h) tail) in
    elim (cases_lt (length old) (length (print_response h))) [
      | inl more ↦ no_line (length (print_response h), more, omega arith, subst (λ (xs : List ℕ). EndsInEmptyLine xs) (sym all) (status_ends h head.reads.0))
      | inr fewer ↦
          let here : take (length (print_response h)) old ≡ print_response h =
          ap (λ (xs : List ℕ). take (length (print_response h)) xs) (sym front)
          ∙ take-take (length (print_response h)) (length old) new (omega arith) ∙ all in
          none h (drop (length (print_response h)) old) (record {
            reads = (head.reads.0, sym (take-append-drop (length (print_response h)) old) ∙ ap (λ (xs : List ℕ). xs ++ drop (length (print_response h)) old) here);
            few = head.few;
            short = head.short;
          })
    ]

-- two readings of the same bytes are one
pub response_one : (b : List ℕ) (r q : Response) (rest tail : List ℕ) → Receives b r rest → Receives b q tail → (r ≡ q) × (rest ≡ tail)
unfolding Receives
response_one b r q rest tail one other =
    let same = response_unique b one.0 other.0 one.1 other.1 one.3.reads other.3.reads in
    let n : Ok one.2 ≡ Ok other.2 = sym one.4 ∙ ap length_after same.0 ∙ other.4 in
    let m : one.2 ≡ other.2 = cc in (
      one.6 ∙ ap (λ (h : ResponseHead). response_of h (take one.2 one.1)) same.0 ∙ ap (λ (t : List ℕ). response_of other.0 (take one.2 t)) same.1
          ∙ ap (λ (k : ℕ). response_of other.0 (take k other.1)) m ∙ sym other.6,
      one.7 ∙ ap (λ (t : List ℕ). drop one.2 t) same.1 ∙ ap (λ (k : ℕ). drop k other.1) m ∙ sym other.7,
    )
