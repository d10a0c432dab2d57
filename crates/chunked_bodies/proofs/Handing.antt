-- What is handed on.
use Rattle.std.proofs.Common.{◌≡◌, ℕ, ◌+◌, ◌-◌, ◌≤◌, List, ◌++◌, length, take, drop, ap, sym, ◌∙◌, subst, arith, length-append}
use Rattle.httparse.specs.Grammar.{ResponseHead, print_response}
use Rattle.httparse.proofs.GrammarLemmas.{response_unique}
use Rattle.chunked_bodies.specs.Chunks.{ReadsBody, HasNoBody}
use Rattle.chunked_bodies.specs.Response.{head_with_length, HasNoChunked, HandsOn, joined, other, HandsOnFront, counted, uncounted}
use Rattle.chunked_bodies.specs.inner.Walk.{Joins, IsHeadAt, HasNoChunkedHead, Rewrites}
use Rattle.chunked_bodies.specs.declared.head.ChunkedHead.{ChunkedHead}
use Rattle.chunked_bodies.proofs.Bodies.{rest_all}

pub head_within : (bytes : List ℕ) (p : ChunkedHead) (h : ResponseHead) → IsHeadAt bytes p h → p.len ≤ length bytes
head_within bytes p h at =
    let long : length bytes ≡ length (print_response h) + length (drop p.len bytes) =
    ap (λ (xs : List ℕ). length xs) at.reads.1 ∙ length-append (print_response h) (drop p.len bytes) in
    omega (arith, at.len)

pub no_chunked_head : (bytes : List ℕ) → HasNoChunkedHead bytes → HasNoChunked bytes
no_chunked_head bytes none r rest reads = none r.head r.coding reads.after reads.reads reads.chunked

pub no_chunked_body : (bytes : List ℕ) (p : ChunkedHead) (h : ResponseHead) → IsHeadAt bytes p h → HasNoBody (take (length bytes - p.len) (drop p.len bytes)) → HasNoChunked bytes
no_chunked_body bytes p h at none r rest reads =
    let same = response_unique bytes r.head h reads.after (drop p.len bytes) reads.reads at.reads in
    none r.body rest (subst (λ (xs : List ℕ). ReadsBody xs r.body rest) (same.1 ∙ sym (rest_all bytes p.len)) reads.body)

pub rewrites_found : (bytes content_ out : List ℕ) (p : ChunkedHead) (h : ResponseHead) → IsHeadAt bytes p h → Joins (take (length bytes - p.len) (drop p.len bytes)) content_
    → out ≡ print_response (head_with_length h p.coding (length content_)) ++ content_ → Rewrites bytes out
rewrites_found bytes content_ out p h at joins is = (
  record { head = h; coding = p.coding; body = joins.body },
  joins.rest,
  record { after = drop p.len bytes; reads = at.reads; chunked = at.chunked; body = subst (λ (xs : List ℕ). ReadsBody xs joins.body joins.rest) (rest_all bytes p.len) joins.reads },
  is ∙ ap (λ (xs : List ℕ). print_response (head_with_length h p.coding (length xs)) ++ xs) joins.is,
)

pub hands_joined : (bytes out : List ℕ) → Rewrites bytes out → HandsOn bytes out
hands_joined bytes out r = subst (λ (xs : List ℕ). HandsOn bytes xs) (sym r.3) (joined r.0 r.1 r.2)

pub hands_other : (bytes : List ℕ) → HasNoChunked bytes → HandsOn bytes bytes
hands_other bytes none = other none

pub counts_front : (front out : List ℕ) (p : ChunkedHead) (h : ResponseHead) → IsHeadAt front p h
    → out ≡ print_response (head_with_length h p.coding (length (take (length front - p.len) (drop p.len front)))) ++ take (length front - p.len) (drop p.len front) → HandsOnFront front out
counts_front front out p h at is =
    subst (λ (xs : List ℕ). HandsOnFront front xs)
    (sym (is ∙ ap (λ (xs : List ℕ). print_response (head_with_length h p.coding (length xs)) ++ xs) (rest_all front p.len)))
    (counted h p.coding (drop p.len front) at.reads at.chunked)

pub leaves_front : (front bytes : List ℕ) → bytes ≡ front → HasNoChunkedHead bytes → HandsOnFront front front
leaves_front front bytes same none = uncounted (subst HasNoChunkedHead same none)
