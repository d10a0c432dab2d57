-- Bytes have one body, and one chunked response, at their front at most.
use Rattle.std.proofs.Common.{◌≡◌, ◌≢◌, ℕ, Bool, true, false, ◌&&◌, ◌||◌, List, [], ◌∷◌, ◌++◌, map, refl, sym, ap, ◌∙◌, subst, arith, inl, inr, true≢false, append_assoc}
use Rattle.std.proofs.lemmas.Bool.{cases_lt}
use Rattle.std.specs.Prelude.{codes}
use Rattle.std.specs.Str.{str_eq_ignore_ascii_case}
use Rattle.std.specs.List.{flat_map, AllByRecursion}
use Rattle.httparse.specs.Grammar.{ResponseHead, print_chunk_line, chunk_size, print_section}
use Rattle.httparse.specs.Spans.{name_and_value}
use Rattle.httparse.proofs.ChunkLemmas.{chunk_line_unique}
use Rattle.httparse.proofs.GrammarLemmas.{section_unique, response_unique}
use Rattle.chunked_bodies.specs.Chunks.{Chunk, print_chunk, IsChunk, Body, IsBody, ReadsBody}
use Rattle.chunked_bodies.specs.Response.{Pair, at, tells_coding, tells_length, frames, is_chunked, IsChunkedAt, ChunkedResponse, ReadsChunked, HandsOn, joined, other, with_length}
use Rattle.chunked_bodies.proofs.Bodies.{first_chunk, one_chunk}

last_group : (l s r : List ℕ) → ([] ++ (l ++ s)) ++ r ≡ l ++ (s ++ r)
last_group l s r = simp append_assoc

-- the parts of two bodies are the same, and so is what follows
record Same (cs ds : List Chunk) (b d : Body) (r q : List ℕ) : Type 0 where
  pub chunks : cs ≡ ds
  pub last : b.last ≡ d.last
  pub trailers : b.trailers ≡ d.trailers
  pub end : b.end ≡ d.end
  pub rest : r ≡ q

parts : (cs ds : List Chunk) (b d : Body) (xs r q : List ℕ) → IsBody b → IsBody d → AllByRecursion IsChunk cs → AllByRecursion IsChunk ds
    → xs ≡ (flat_map print_chunk cs ++ (print_chunk_line b.last ++ print_section b.trailers b.end)) ++ r
    → xs ≡ (flat_map print_chunk ds ++ (print_chunk_line d.last ++ print_section d.trailers d.end)) ++ q
    → Same cs ds b d r q
parts [] [] b d xs r q is also all every e f =
    let lines = chunk_line_unique xs b.last d.last _ _ (is.last, e ∙ last_group (print_chunk_line b.last) (print_section b.trailers b.end) r)
    (also.last, f ∙ last_group (print_chunk_line d.last) (print_section d.trailers d.end) q) in
    let sections = section_unique _ b.trailers d.trailers b.end d.end r q (is.trailers, refl) (also.trailers, lines.1) in
    record { chunks = refl; last = lines.0; trailers = sections.0; end = sections.1; rest = sections.2 }
parts [] (c ∷ ds) b d xs r q is also all every e f =
    let lines = chunk_line_unique xs b.last c.line _ _ (is.last, e ∙ last_group (print_chunk_line b.last) (print_section b.trailers b.end) r)
    (every.0.line, first_chunk c ds _ q xs f) in
    let size : chunk_size b.last ≡ chunk_size c.line = ap chunk_size lines.0 in
    absurd (omega (arith, is.ends, every.0.sized, every.0.filled))
parts (c ∷ cs) [] b d xs r q is also all every e f =
    let lines = chunk_line_unique xs c.line d.last _ _ (all.0.line, first_chunk c cs _ r xs e)
    (also.last, f ∙ last_group (print_chunk_line d.last) (print_section d.trailers d.end) q) in
    let size : chunk_size c.line ≡ chunk_size d.last = ap chunk_size lines.0 in
    absurd (omega (arith, also.ends, all.0.sized, all.0.filled))
parts (c ∷ cs) (k ∷ ds) b d xs r q is also all every e f =
    let same = one_chunk c k xs _ _ all.0 every.0 (first_chunk c cs _ r xs e) (first_chunk k ds _ q xs f) in
    let rest = parts cs ds b d _ r q is also all.1 every.1 refl same.2 in
    let chunk : c ≡ k = λ i. record { line = same.0 i; bytes = same.1 i } in
    record {
      chunks = ap (λ (x : Chunk). x ∷ cs) chunk ∙ ap (λ (xs : List Chunk). k ∷ xs) rest.chunks;
      last = rest.last;
      trailers = rest.trailers;
      end = rest.end;
      rest = rest.rest;
    }

pub body_unique : (xs : List ℕ) (b d : Body) (r q : List ℕ) → ReadsBody xs b r → ReadsBody xs d q → (b ≡ d) × (r ≡ q)
body_unique xs b d r q x y =
    let same = parts b.chunks d.chunks b d xs r q x.0 y.0 x.0.chunks y.0.chunks x.1 y.1 in
    (λ i. record { chunks = same.chunks i; last = same.last i; trailers = same.trailers i; end = same.end i }, same.rest)

-- ---- the field that says that the body is chunked

first_of_both : (a b : Bool) → (a && b) ≡ true → a ≡ true
first_of_both true b e = refl
first_of_both false b e = e

or_first : (a b : Bool) → a ≡ true → (a || b) ≡ true
or_first true b e = refl
or_first false b e = absurd (true≢false (sym e))

pub chunked_frames : (p : Pair) → is_chunked p ≡ true → frames p ≡ true
unfolding frames is_chunked
chunked_frames p e =
    or_first (tells_coding p) (tells_length p) (first_of_both (tells_coding p) (str_eq_ignore_ascii_case p.1 (codes "chunked")) e)

pub not_both : (b : Bool) → b ≡ true → b ≡ false → ⊥
not_both b e f = true≢false (sym e ∙ f)

pub one_coding : (ps : List Pair) (k i : ℕ) → IsChunkedAt ps k → IsChunkedAt ps i → k ≡ i
one_coding ps k i a b =
    elim (cases_lt k i) [
      | inl less ↦ absurd (not_both _ (chunked_frames (at ps k) a.chunked) (b.only k a.within (λ e. omega arith)))
      | inr more ↦ elim (cases_lt i k) [
        | inl less ↦ absurd (not_both _ (chunked_frames (at ps i) b.chunked) (a.only i b.within (λ e. omega arith)))
        | inr same ↦ omega arith
      ]
    ]

pub response_one : (bytes : List ℕ) (r q : ChunkedResponse) (rest tail : List ℕ) → ReadsChunked bytes r rest → ReadsChunked bytes q tail
    → (r ≡ q) × (rest ≡ tail)
response_one bytes r q rest tail x y =
    let heads = response_unique bytes r.head q.head x.after y.after x.reads y.reads in
    let body = body_unique y.after r.body q.body rest tail (subst (λ (zs : List ℕ). ReadsBody zs r.body rest) heads.1 x.body) y.body in
    let coding = one_coding (map name_and_value q.head.fields) r.coding q.coding
    (subst (λ (h : ResponseHead). IsChunkedAt (map name_and_value h.fields) r.coding) heads.0 x.chunked.coding) y.chunked.coding in
    (λ i. record { head = heads.0 i; coding = coding i; body = body.0 i }, body.1)

pub answer_one : (bytes a b : List ℕ) → HandsOn bytes a → HandsOn bytes b → a ≡ b
answer_one bytes _ _ (joined r rest x) (joined q tail y) = ap with_length (response_one bytes r q rest tail x y).0
answer_one bytes _ _ (joined r rest x) (other none) = absurd (none r rest x)
answer_one bytes _ _ (other none) (joined q tail y) = absurd (none q tail y)
answer_one bytes _ _ (other none) (other some) = refl
