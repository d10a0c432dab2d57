-- Heads of responses, of bytes that have more behind them.
use Rattle.std.proofs.Common.{◌≡◌, ℕ, ◌+◌, ◌≤◌, List, ◌++◌, length, take, drop, map, min, Err, ap, sym, ◌∙◌, subst, arith, append_assoc, length-append, inl, inr}
use Rattle.std.proofs.lemmas.List.{take-append-drop, take-take, length-take-le, length-map, take_min}
use Rattle.httparse.specs.declared.spans.HeaderSpan.{HeaderSpan}
use Rattle.httparse.specs.declared.spans.ResponseSpans.{ResponseSpans}
use Rattle.httparse.specs.Grammar.{ResponseHead, print_response}
use Rattle.httparse.specs.Spans.{ResponseOverflows, IsResponseAt, IsResponseOf, IsResponseWithin, header_bytes, name_and_value}
use Rattle.httparse.proofs.GrammarLemmas.{ReadsResponse-append}
use Rattle.http_wire.specs.declared.limits.TheConstants.{MOST_FIELDS, MOST_HEAD_BYTES}
use Rattle.http_wire.specs.Fields.{body_of_response}
use Rattle.http_wire.specs.Head.{window}
use Rattle.http_wire.specs.Received.{IsStatusHead, IsOpenStatus, IsBadStatus, FaultyResponse, IsStatusOf, JudgesStatus}
use Rattle.http_wire.specs.declared.WireFault.{WireFault}
use Rattle.http_wire.specs.declared.WireFault.TheVariants.{Closed, Torn, ReadFault, BadHead, HeadTooLong, LengthRequired, BodyTooLong}
use Rattle.http_wire.specs.declared.response_head.StatusParts.{StatusParts}
use Rattle.http_wire.specs.declared.response_head.StatusVerdict.{StatusVerdict}
use Rattle.http_wire.specs.declared.response_head.StatusVerdict.TheVariants.{Whole, Open, Refused}
use Rattle.http_wire.proofs.HeadLemmas.{window_more, window_full}

-- the head that the parser found is one within the limits
pub found_head : (b : List ℕ) (headers : List HeaderSpan) (r : ResponseSpans) (h : ResponseHead)
    → IsResponseAt b headers r h → IsResponseWithin b headers r → length b ≤ MOST_HEAD_BYTES → length headers ≤ MOST_FIELDS
    → IsStatusHead b h (drop r.len b)
found_head b headers r h at within short few =
    let n : length (map (header_bytes b) (take r.headers headers)) ≡ length (map name_and_value h.fields) = ap (λ (xs : List (List ℕ × List ℕ)). length xs) at.fields in
    let m : length (take r.headers headers) ≡ length h.fields = sym (length-map (take r.headers headers) (header_bytes b)) ∙ n ∙ length-map h.fields name_and_value in
    let k : length (take r.headers headers) ≡ r.headers = length-take-le r.headers headers within.section.count_fits in
    record {
      reads = at.reads;
      few = omega (arith, within.section.count_fits);
      short = omega (arith, at.len, within.section.len_fits);
    }

-- its fields are refused
pub found_refused : (b : List ℕ) (headers : List HeaderSpan) (r : ResponseSpans) (f : WireFault)
    → IsResponseOf b headers r → IsResponseWithin b headers r → length b ≤ MOST_HEAD_BYTES → length headers ≤ MOST_FIELDS
    → Err f ≡ body_of_response (map (header_bytes b) (take r.headers headers))
    → FaultyResponse b f
unfolding FaultyResponse
found_refused b headers r f of within short few fault =
    inr (of.0, drop r.len b, found_head b headers r of.0 of.1 within short few, rw (← of.1.fields) (sym fault))

-- more bytes behind a head
pub head_more : (b more : List ℕ) (h : ResponseHead) (tail : List ℕ) → IsStatusHead b h tail → IsStatusHead (b ++ more) h (tail ++ more)
head_more b more h tail head = record { reads = ReadsResponse-append b h tail more head.reads; few = head.few; short = head.short }

pub head_long : (b : List ℕ) (h : ResponseHead) (tail : List ℕ) → IsStatusHead b h tail → length b ≡ length (print_response h) + length tail
head_long b h tail head = ap (λ (xs : List ℕ). length xs) head.reads.1 ∙ length-append (print_response h) tail

pub parts_more : (b more : List ℕ) (p : StatusParts) (h : ResponseHead) (tail : List ℕ) → IsStatusOf b p h tail → IsStatusOf (b ++ more) p h (tail ++ more)
parts_more b more p h tail is =
    record {
      head = head_more b more h tail is.head;
      len = is.len;
      code = is.code;
      body = is.body;
      small = is.small;
      within = is.within;
    }

pub overflows_more : (room : ℕ) (b more : List ℕ) → ResponseOverflows room b → ResponseOverflows room (b ++ more)
overflows_more room b more over = λ further h rest reads.
    over (more ++ further) h rest (rw (← append_assoc b more further) reads)

bad_more : (b more : List ℕ) (f : WireFault) → IsBadStatus b f → IsBadStatus (b ++ more) f
bad_more b more BadHead bad = rw (window_more b more) (overflows_more MOST_FIELDS _ _ bad)
bad_more b more HeadTooLong bad = (omega (arith, length-append b more, bad.0), rw (window_full b more bad.0) bad.1)
bad_more b more LengthRequired bad = absurd bad
bad_more b more (BodyTooLong n) bad = absurd bad
bad_more b more Closed bad = absurd bad
bad_more b more (Torn held) bad = absurd bad
bad_more b more ReadFault bad = absurd bad

-- a fault of a head stays one
pub faulty_more : (b more : List ℕ) (f : WireFault) → FaultyResponse b f → FaultyResponse (b ++ more) f
unfolding FaultyResponse
faulty_more b more f faulty = elim faulty [
  | inl bad ↦ inl (bad_more b more f bad)
  | inr refused ↦ inr (refused.0, refused.1 ++ more, head_more b more refused.0 refused.1 refused.2, refused.3)
]

-- what the first bytes say holds of all
pub judged_all : (b : List ℕ) (n : ℕ) (v : StatusVerdict) → n ≡ min (length b) MOST_HEAD_BYTES → JudgesStatus (take n b) v → JudgesStatus b v
judged_all b n (Whole p) is judged =
    (judged.0, judged.1 ++ drop n b, subst (λ (xs : List ℕ). IsStatusOf xs p judged.0 (judged.1 ++ drop n b)) (take-append-drop n b) (parts_more (take n b) (drop n b) p judged.0 judged.1 judged.2))
judged_all b n (Refused f) is judged =
    (subst (λ (xs : List ℕ). FaultyResponse xs f) (take-append-drop n b) (faulty_more (take n b) (drop n b) f judged.0), judged.1)
judged_all b n Open is judged =
    let other : n ≡ min MOST_HEAD_BYTES (length b) = omega arith in
    let front : take n b ≡ window b = ap (λ (k : ℕ). take k b) other ∙ take_min MOST_HEAD_BYTES b in
    let same : window (take n b) ≡ window b = ap window front ∙ take-take MOST_HEAD_BYTES MOST_HEAD_BYTES b (omega arith) in
    subst (λ (xs : List ℕ). IsOpenStatus xs) same judged
