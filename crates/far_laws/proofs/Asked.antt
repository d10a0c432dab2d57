-- What a request of a client is read as.
use Rattle.std.proofs.Common.{◌≡◌, subst, inl, inr, ℕ, ◌+◌, ◌<◌, ◌≤◌, ◌^◌, List, [], ◌++◌, length, decimal, arith, length-append}
use Rattle.std.specs.Prelude.{◌⊎◌}
use Rattle.std.proofs.lemmas.Bool.{cases_lt}
use Rattle.std.proofs.lemmas.Fmt.{length-decimal-le}
use Rattle.std.proofs.lemmas.List.{append-nil}
use Rattle.http_wire.specs.declared.limits.TheConstants.{MOST_BODY_BYTES, MOST_HEAD_BYTES}
use Rattle.http_wire.specs.declared.WireFault.TheVariants.{BodyTooLong}
use Rattle.http_wire.specs.Head.{Faulty, Reads, Request}
use Rattle.http_wire.specs.Requesting.{asks_for, closing_lines, host_and_type, request_line}
use Rattle.http_wire.specs.Response.{length_field}
use Rattle.http_wire.proofs.Unique.{faulty_no, reads_one}
use Rattle.wire_laws.specs.Sendable.{IsSendable, sent}
use Rattle.wire_laws.proofs.Requests.{reads_it, refuses_it}

-- ---- the request that is read

-- the method, the target and what they come to in bytes
pub record IsAddressed (method target : List ℕ) : Type 0 where
  pub sendable : (body : List ℕ) → length (asks_for method target body) ≤ MOST_HEAD_BYTES + length body → IsSendable method target body
  pub short : length method + length target ≤ 16_100

asks_long : (method target body : List ℕ) → length body ≤ length (asks_for method target body)
unfolding asks_for request_line host_and_type length_field closing_lines
asks_long method target body = simp length-append (omega arith)

-- a head with a length of at most 18 digits is short enough
head_short : (method target body : List ℕ) → length method + length target ≤ 16_100 → length body < 10 ^ 18
    → length (asks_for method target body) ≤ MOST_HEAD_BYTES + length body
unfolding asks_for request_line host_and_type length_field closing_lines
head_short method target body short few =
    let digits : length (decimal (length body)) ≤ 18 = length-decimal-le 18 (length body) (omega arith) few (omega (arith, few)) in
    simp length-append (omega (arith, digits, short))

pub asked_is : (method target body rest : List ℕ) (r : Request) → IsAddressed method target → length (asks_for method target body) < 10 ^ 18
    → Reads (asks_for method target body) r rest → r ≡ sent method target body
asked_is method target body rest r addressed few reads = by (cases_lt MOST_BODY_BYTES (length body))
  where
    whole : asks_for method target body ++ [] ≡ asks_for method target body
    whole = append-nil (asks_for method target body)

    small : length body < 10 ^ 18
    small = let long = asks_long method target body in omega (arith, few, long)

    by : (MOST_BODY_BYTES < length body) ⊎ (length body ≤ MOST_BODY_BYTES) → r ≡ sent method target body
    by (inl many) =
        let s = addressed.sendable body (head_short method target body addressed.short small) in
        let faulty = refuses_it method target body [] s many small in
        absurd (faulty_no (asks_for method target body) (BodyTooLong (length body)) r rest (subst (λ (b : List ℕ). Faulty b (BodyTooLong (length body))) whole faulty) reads)
    by (inr short) =
        let s = addressed.sendable body (head_short method target body addressed.short small) in
        (reads_one (asks_for method target body) r (sent method target body) rest [] reads
        (subst (λ (b : List ℕ). Reads b (sent method target body) []) whole (reads_it method target body [] s short))).0
