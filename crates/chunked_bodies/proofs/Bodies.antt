-- What a chunk's line says of a body at the front.
use Rattle.std.proofs.Common.{◌≡◌, ℕ, suc, ◌+◌, ◌-◌, ◌<◌, ◌≤◌, List, [], ◌∷◌, ◌++◌, length, drop, get_or, refl, sym, ap, ◌∙◌, subst, arith, append_assoc, append-nil, length-append, length-drop, get_or-append-add, get_or-drop, drop-drop, take, take_all, slice_range}
use Rattle.std.proofs.lemmas.List.{append_cancel_left, drop_more}
use Rattle.std.specs.List.{flat_map, AllByRecursion}
use Rattle.httparse.specs.Grammar.{ChunkLine, print_chunk_line, IsChunkLine, ReadsChunkLine, HasNoChunkLine, NeverHasChunkLine, chunk_size, print_section}
use Rattle.httparse.specs.Spans.{IsChunkLineAt}
use Rattle.httparse.proofs.ChunkLemmas.{chunk_line_unique}
use Rattle.httparse.proofs.RunLemmas.{drop_split, length-slice_range}
use Rattle.chunked_bodies.specs.Chunks.{Chunk, print_chunk, IsChunk, Body, IsBody, HasNoBody}
use Rattle.chunked_bodies.specs.inner.Walk.{Joins, GoesOn, HasTrailers, HasNoTrailers, HasChunk}

-- ---- how the bytes of a body are grouped

last_group : (l s r : List ℕ) → (l ++ s) ++ r ≡ l ++ (s ++ r)
last_group l s r = simp append_assoc

first_group : (l d e m q r : List ℕ) → (((l ++ (d ++ e)) ++ m) ++ q) ++ r ≡ l ++ (d ++ (e ++ ((m ++ q) ++ r)))
first_group l d e m q r = simp append_assoc

-- the bytes of a body's first chunk, and those behind it
pub first_chunk : (c : Chunk) (cs : List Chunk) (q r xs : List ℕ) → xs ≡ (flat_map print_chunk (c ∷ cs) ++ q) ++ r
    → xs ≡ print_chunk_line c.line ++ (c.bytes ++ (13 ∷ 10 ∷ ((flat_map print_chunk cs ++ q) ++ r)))
first_chunk c cs q r xs e = e ∙ first_group (print_chunk_line c.line) c.bytes (13 ∷ 10 ∷ []) (flat_map print_chunk cs) q r

-- ---- no line

no_lines : (cs : List Chunk) (last : ChunkLine) (s rest xs : List ℕ) → HasNoChunkLine xs → AllByRecursion IsChunk cs → IsChunkLine last
    → xs ≡ (flat_map print_chunk cs ++ (print_chunk_line last ++ s)) ++ rest → ⊥
no_lines [] last s rest xs none all is e = none last (s ++ rest) (is, e ∙ last_group (print_chunk_line last) s rest)
no_lines (c ∷ cs) last s rest xs none all is e = none c.line _ (all.0.line, first_chunk c cs (print_chunk_line last ++ s) rest xs e)

pub no_body : (xs : List ℕ) → HasNoChunkLine xs → HasNoBody xs
no_body xs none b rest reads = no_lines b.chunks b.last (print_section b.trailers b.end) rest xs none reads.0.chunks reads.0.last reads.1

pub never_body : (xs : List ℕ) → NeverHasChunkLine xs → HasNoBody xs
never_body xs never = no_body xs (λ l rest reads. never [] l rest (subst (λ (ys : List ℕ). ReadsChunkLine ys l rest) (sym (append-nil xs)) reads))

-- ---- the last line

pub body_end : (xs ys : List ℕ) (l : ChunkLine) → ReadsChunkLine xs l ys → 0 ≡ chunk_size l → HasTrailers ys → Joins xs []
body_end xs ys l line zero t = record {
  body = record { chunks = []; last = l; trailers = t.0; end = t.1 };
  rest = t.2;
  reads = (
    record { chunks = tt; last = line.0; ends = sym zero; trailers = t.3.0; few = t.4 },
    line.1 ∙ ap (λ (zs : List ℕ). print_chunk_line l ++ zs) t.3.1 ∙ sym (last_group (print_chunk_line l) (print_section t.0 t.1) t.2),
  );
  is = refl;
}

-- a chunk isn't empty
full : (c : Chunk) (l : ChunkLine) → IsChunk c → c.line ≡ l → 0 ≡ chunk_size l → ⊥
full c l is same zero =
    let e : chunk_size c.line ≡ chunk_size l = ap chunk_size same in
    omega (arith, is.sized, is.filled)

ends_not : (cs : List Chunk) (b : Body) (l : ChunkLine) (xs ys rest : List ℕ) → ReadsChunkLine xs l ys → 0 ≡ chunk_size l → HasNoTrailers ys → IsBody b
    → AllByRecursion IsChunk cs → xs ≡ (flat_map print_chunk cs ++ (print_chunk_line b.last ++ print_section b.trailers b.end)) ++ rest → ⊥
ends_not [] b l xs ys rest line zero none is all e =
    let same = chunk_line_unique xs b.last l _ ys (is.last, e ∙ last_group (print_chunk_line b.last) (print_section b.trailers b.end) rest) line in
    none b.trailers b.end rest (is.trailers, sym same.1) is.few
ends_not (c ∷ cs) b l xs ys rest line zero none is all e =
    let same = chunk_line_unique xs c.line l _ ys (all.0.line, first_chunk c cs _ rest xs e) line in
    full c l all.0 same.0 zero

pub no_end : (xs ys : List ℕ) (l : ChunkLine) → ReadsChunkLine xs l ys → 0 ≡ chunk_size l → HasNoTrailers ys → HasNoBody xs
no_end xs ys l line zero none b rest reads = ends_not b.chunks b l xs ys rest line zero none reads.0 reads.0.chunks reads.1

-- ---- a chunk

-- no bytes of that number with a line end behind them
abbrev pub NoData : ℕ → List ℕ → Type 0
NoData size ys = (bytes more : List ℕ) → length bytes ≡ size → ys ≡ bytes ++ (13 ∷ 10 ∷ more) → ⊥

torn : (cs : List Chunk) (b : Body) (l : ChunkLine) (xs ys rest : List ℕ) → ReadsChunkLine xs l ys → 0 < chunk_size l → NoData (chunk_size l) ys → IsBody b
    → AllByRecursion IsChunk cs → xs ≡ (flat_map print_chunk cs ++ (print_chunk_line b.last ++ print_section b.trailers b.end)) ++ rest → ⊥
torn [] b l xs ys rest line some none is all e =
    let same = chunk_line_unique xs b.last l _ ys (is.last, e ∙ last_group (print_chunk_line b.last) (print_section b.trailers b.end) rest) line in
    let size : chunk_size b.last ≡ chunk_size l = ap chunk_size same.0 in
    omega (arith, is.ends)
torn (c ∷ cs) b l xs ys rest line some none is all e =
    let same = chunk_line_unique xs c.line l _ ys (all.0.line, first_chunk c cs _ rest xs e) line in
    none c.bytes _ (sym all.0.sized ∙ ap chunk_size same.0) (sym same.1)

pub no_chunk : (xs ys : List ℕ) (l : ChunkLine) → ReadsChunkLine xs l ys → 0 < chunk_size l → NoData (chunk_size l) ys → HasNoBody xs
no_chunk xs ys l line some none b rest reads = torn b.chunks b l xs ys rest line some none reads.0 reads.0.chunks reads.1

pub short_data : (size : ℕ) (ys : List ℕ) → length ys < size + 2 → NoData size ys
short_data size ys short bytes more long e =
    let n : length ys ≡ length bytes + suc (suc (length more)) = ap (λ (zs : List ℕ). length zs) e ∙ length-append bytes (13 ∷ 10 ∷ more) in
    omega arith

-- the byte of that place, behind the chunk's bytes
pub other_end : (size : ℕ) (ys : List ℕ) → (get_or ys size 0 ≡ 13 → ⊥) → NoData size ys
other_end size ys other bytes more long e =
    other (ap (λ (n : ℕ). get_or ys n 0) (sym long) ∙ ap (λ (zs : List ℕ). get_or zs (length bytes) 0) e
    ∙ sym (ap (λ (n : ℕ). get_or (bytes ++ (13 ∷ 10 ∷ more)) n 0) (add_none (length bytes))) ∙ get_or-append-add bytes (13 ∷ 10 ∷ more) 0 0)
  where
    add_none : (n : ℕ) → n + 0 ≡ n
    add_none n = omega arith

pub other_feed : (size : ℕ) (ys : List ℕ) → (get_or ys (size + 1) 0 ≡ 10 → ⊥) → NoData size ys
other_feed size ys other bytes more long e =
    other (ap (λ (n : ℕ). get_or ys (n + 1) 0) (sym long) ∙ ap (λ (zs : List ℕ). get_or zs (length bytes + 1) 0) e
    ∙ get_or-append-add bytes (13 ∷ 10 ∷ more) 1 0)

-- ---- from a chunk on

joins_more : (c : Chunk) (xs ys joined : List ℕ) → IsChunk c → xs ≡ print_chunk c ++ ys → Joins ys joined → Joins xs (c.bytes ++ joined)
joins_more c xs ys joined is e j = record {
  body = record j.body { chunks = c ∷ j.body.chunks };
  rest = j.rest;
  reads = (
    record { chunks = (is, j.reads.0.chunks); last = j.reads.0.last; ends = j.reads.0.ends; trailers = j.reads.0.trailers; few = j.reads.0.few },
    e ∙ ap (λ (zs : List ℕ). print_chunk c ++ zs) j.reads.1
        ∙ group (print_chunk c) (flat_map print_chunk j.body.chunks) (print_chunk_line j.body.last ++ print_section j.body.trailers j.body.end) j.rest,
  );
  is = ap (λ (zs : List ℕ). c.bytes ++ zs) j.is;
}
  where
    group : (a m q r : List ℕ) → a ++ ((m ++ q) ++ r) ≡ ((a ++ m) ++ q) ++ r
    group a m q r = simp append_assoc

-- two texts of one length before what follows
pub same_front : (a b r q : List ℕ) → length a ≡ length b → a ++ r ≡ b ++ q → (a ≡ b) × (r ≡ q)
same_front [] [] r q long e = (refl, e)
same_front [] (y ∷ b) r q long e = absurd (omega arith)
same_front (x ∷ a) [] r q long e = absurd (omega arith)
same_front (x ∷ a) (y ∷ b) r q long e =
    let tails = same_front a b r q (omega arith) (cc) in
    let heads : x ≡ y = cc in
    (ap (λ (z : ℕ). z ∷ a) heads ∙ ap (λ (zs : List ℕ). y ∷ zs) tails.0, tails.1)

-- behind the first chunk's line
behind : (c : Chunk) (d : Chunk) (r q : List ℕ) → IsChunk c → IsChunk d → c.line ≡ d.line
    → c.bytes ++ (13 ∷ 10 ∷ r) ≡ d.bytes ++ (13 ∷ 10 ∷ q) → (c.bytes ≡ d.bytes) × (r ≡ q)
behind c d r q is other same e =
    let size : chunk_size c.line ≡ chunk_size d.line = ap chunk_size same in
    let both = same_front c.bytes d.bytes (13 ∷ 10 ∷ r) (13 ∷ 10 ∷ q) (omega (arith, is.sized, other.sized)) e in
    (both.0, append_cancel_left (13 ∷ 10 ∷ []) r q both.1)

-- two chunks at the front are one
pub one_chunk : (c d : Chunk) (xs r q : List ℕ) → IsChunk c → IsChunk d → xs ≡ print_chunk_line c.line ++ (c.bytes ++ (13 ∷ 10 ∷ r))
    → xs ≡ print_chunk_line d.line ++ (d.bytes ++ (13 ∷ 10 ∷ q)) → (c.line ≡ d.line) × (c.bytes ≡ d.bytes) × (r ≡ q)
one_chunk c d xs r q is other e f =
    let lines = chunk_line_unique xs c.line d.line _ _ (is.line, e) (other.line, f) in
    let both = behind c d r q is other lines.0 lines.1 in
    (lines.0, both.0, both.1)

print_group : (c : Chunk) (ys : List ℕ) → print_chunk c ++ ys ≡ print_chunk_line c.line ++ (c.bytes ++ (13 ∷ 10 ∷ ys))
print_group c ys = group (print_chunk_line c.line) c.bytes (13 ∷ 10 ∷ []) ys
  where
    group : (l d e r : List ℕ) → (l ++ (d ++ e)) ++ r ≡ l ++ (d ++ (e ++ r))
    group l d e r = simp append_assoc

goes_not : (ds : List Chunk) (c : Chunk) (b : Body) (xs ys rest : List ℕ) → IsChunk c → xs ≡ print_chunk c ++ ys → HasNoBody ys → IsBody b
    → AllByRecursion IsChunk ds → xs ≡ (flat_map print_chunk ds ++ (print_chunk_line b.last ++ print_section b.trailers b.end)) ++ rest → ⊥
goes_not [] c b xs ys rest is at none whole all e =
    let same = chunk_line_unique xs c.line b.last _ _ (is.line, at ∙ print_group c ys) (whole.last, e ∙ last_group (print_chunk_line b.last) (print_section b.trailers b.end) rest) in
    full c b.last is same.0 (sym whole.ends)
goes_not (d ∷ ds) c b xs ys rest is at none whole all e =
    let same = one_chunk c d xs _ _ is all.0 (at ∙ print_group c ys) (first_chunk d ds _ rest xs e) in
    none (record b { chunks = ds }) rest (
      record { chunks = all.1; last = whole.last; ends = whole.ends; trailers = whole.trailers; few = whole.few },
      same.2,
    )

pub goes_on : (c : Chunk) (xs ys : List ℕ) → IsChunk c → xs ≡ print_chunk c ++ ys → GoesOn xs ys c.bytes
goes_on c xs ys is at = record {
  joins = λ joined j. joins_more c xs ys joined is at j;
  none = λ none b rest reads. goes_not b.chunks c b xs ys rest is at none reads.0 reads.0.chunks reads.1;
}

-- one step after the other
pub goes_more : (whole part next before bytes : List ℕ) → GoesOn whole part before → GoesOn part next bytes → GoesOn whole next (before ++ bytes)
goes_more whole part next before bytes a b = record {
  joins = λ joined j. subst (λ (zs : List ℕ). Joins whole zs) (sym (append_assoc before bytes joined)) (a.joins (bytes ++ joined) (b.joins joined j));
  none = λ none. a.none (b.none none);
}

pub goes_none : (whole : List ℕ) → GoesOn whole whole []
goes_none whole = record { joins = λ joined j. j; none = λ none. none }

pub goes_end : (whole part before : List ℕ) → GoesOn whole part before → Joins part [] → Joins whole before
goes_end whole part before a j = subst (λ (zs : List ℕ). Joins whole zs) (append-nil before) (a.joins [] j)

-- ---- by index

-- all that stands behind a place
pub rest_all : (xs : List ℕ) (n : ℕ) → take (length xs - n) (drop n xs) ≡ drop n xs
rest_all xs n = take_all (length xs - n) (drop n xs) (omega (arith, length-drop n xs))

pub end_found : (xs : List ℕ) (len : ℕ) (l : ChunkLine) → IsChunkLineAt xs len 0 l → HasTrailers (take (length xs - len) (drop len xs)) → Joins xs []
end_found xs len l at t = body_end xs (drop len xs) l at.reads at.size_is (subst HasTrailers (rest_all xs len) t)

pub end_lost : (xs : List ℕ) (len : ℕ) (l : ChunkLine) → IsChunkLineAt xs len 0 l → HasNoTrailers (take (length xs - len) (drop len xs)) → HasNoBody xs
end_lost xs len l at none = no_end xs (drop len xs) l at.reads at.size_is (subst HasNoTrailers (rest_all xs len) none)

module _ (xs : List ℕ) (len size : ℕ) (l : ChunkLine) (at : IsChunkLineAt xs len size l) (filled : 0 < size) where
  no_data : NoData size (drop len xs) → HasNoBody xs
  no_data none = no_chunk xs (drop len xs) l at.reads (omega (arith, at.size_is, filled)) (subst (λ (n : ℕ). NoData n (drop len xs)) at.size_is none)

  pub no_room : length xs - len < size + 2 → HasNoBody xs
  no_room short = no_data (short_data size (drop len xs) (omega (arith, short, length-drop len xs)))

  pub wrong_end : (get_or xs (len + size) 0 ≡ 13 → ⊥) → HasNoBody xs
  wrong_end other = no_data (other_end size (drop len xs) (λ e. other (sym (get_or-drop len xs size 0) ∙ e)))

  pub wrong_feed : (get_or xs ((len + size) + 1) 0 ≡ 10 → ⊥) → HasNoBody xs
  wrong_feed other =
      let same : (len + size) + 1 ≡ len + (size + 1) = omega arith in
      no_data (other_feed size (drop len xs) (λ e. other (ap (λ (n : ℕ). get_or xs n 0) same ∙ sym (get_or-drop len xs (size + 1) 0) ∙ e)))

  pub whole_chunk : (len + size) + 2 ≤ length xs → get_or xs (len + size) 0 ≡ 13 → get_or xs ((len + size) + 1) 0 ≡ 10 → HasChunk xs len (len + size)
  whole_chunk fits first second =
      let end = len + size in
      let chunk : Chunk = record { line = l; bytes = slice_range xs len end } in
      let long : length (slice_range xs len end) ≡ end - len = length-slice_range xs len end (omega arith) (omega (arith, fits)) in
      let feed : drop (end + 1) xs ≡ 10 ∷ drop (end + 2) xs =
      drop_more xs (end + 1) 0 (omega (arith, fits)) ∙ ap (λ (b : ℕ). b ∷ drop ((end + 1) + 1) xs) second ∙ ap (λ (n : ℕ). 10 ∷ drop n xs) (twice end) in
      let tail : drop end xs ≡ 13 ∷ 10 ∷ drop (end + 2) xs =
      drop_more xs end 0 (omega (arith, fits)) ∙ ap (λ (b : ℕ). b ∷ drop (end + 1) xs) first ∙ ap (λ (ys : List ℕ). 13 ∷ ys) feed in
      record {
        chunk = chunk;
        is = record { line = at.reads.0; sized = omega (arith, at.size_is, long); filled = omega (arith, filled, long) };
        reads = at.reads.1 ∙ ap (λ (ys : List ℕ). print_chunk_line l ++ ys) (drop_split xs len end (omega arith) ∙ ap (λ (ys : List ℕ). slice_range xs len end ++ ys) tail)
            ∙ sym (print_group chunk (drop (end + 2) xs));
        ordered = omega arith;
        within = fits;
        bytes = refl;
      }
    where
      twice : (n : ℕ) → (n + 1) + 1 ≡ n + 2
      twice n = omega arith

-- ---- the walk by index

pub goes_none_at : (whole : List ℕ) (at : ℕ) (before : List ℕ) → GoesOn whole (drop at whole) before → HasNoBody (take (length whole - at) (drop at whole)) → HasNoBody whole
goes_none_at whole at before goes none = goes.none (subst HasNoBody (rest_all whole at) none)

pub goes_end_at : (whole : List ℕ) (at : ℕ) (before : List ℕ) → GoesOn whole (drop at whole) before → Joins (take (length whole - at) (drop at whole)) [] → Joins whole before
goes_end_at whole at before goes j = goes_end whole (drop at whole) before goes (subst (λ (ys : List ℕ). Joins ys []) (rest_all whole at) j)

pub chunk_within : (whole : List ℕ) (at start end : ℕ) → at ≤ length whole → HasChunk (take (length whole - at) (drop at whole)) start end → at + (end + 2) ≤ length whole
chunk_within whole at start end within has =
    let long : length (take (length whole - at) (drop at whole)) ≡ length whole - at = ap (λ (ys : List ℕ). length ys) (rest_all whole at) ∙ length-drop at whole in
    omega (arith, has.within, within)

pub goes_chunk_at : (whole : List ℕ) (at start end : ℕ) (before : List ℕ) → GoesOn whole (drop at whole) before
    → HasChunk (take (length whole - at) (drop at whole)) start end → GoesOn whole (drop (at + (end + 2)) whole) (before ++ slice_range whole (at + start) (at + end))
goes_chunk_at whole at start end before goes first =
    let part = drop at whole in
    let has : HasChunk part start end = subst (λ (ys : List ℕ). HasChunk ys start end) (rest_all whole at) first in
    let step : GoesOn part (drop (end + 2) part) has.chunk.bytes = goes_on has.chunk part (drop (end + 2) part) has.is has.reads in
    let all = goes_more whole part (drop (end + 2) part) before has.chunk.bytes goes step in
    let few : (at + end) - (at + start) ≡ end - start = omega arith in
    let bytes : has.chunk.bytes ≡ slice_range whole (at + start) (at + end) =
    sym has.bytes ∙ ap (λ (ys : List ℕ). take (end - start) ys) (drop-drop start at whole) ∙ ap (λ (n : ℕ). take n (drop (at + start) whole)) (sym few) in
    subst (λ (ys : List ℕ). GoesOn whole (drop (at + (end + 2)) whole) (before ++ ys)) bytes
    (subst (λ (ys : List ℕ). GoesOn whole ys (before ++ has.chunk.bytes)) (drop-drop (end + 2) at whole) all)
