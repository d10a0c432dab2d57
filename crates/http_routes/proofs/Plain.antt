-- How a target begins, by the bytes before its first slash, question mark or percent sign.
use Rattle.std.proofs.Common.{◌≡◌, ◌≢◌, ◌∙◌, ◌==◌, ◌<◌, ◌≤◌, ℕ, suc, ◌+◌, ◌-◌, true, false, List, [], ◌∷◌, ◌++◌, All, map, take, drop, set, length, get_or, Option, refl, ap, sym, subst, append_assoc, take-append-drop, arith}
use Rattle.std.specs.Borrow.{Bor}
use Rattle.std.specs.List.{position_or_len, onto_first}
use Rattle.std.specs.Prelude.{IfSome, MatchOption}
use Rattle.std.proofs.lemmas.Bool.Decides.{nat_tests}
use Rattle.std.proofs.lemmas.List.{take_all, get_or-drop, drop-drop, length-drop, length-set, length-append, length-map, length-take}
use Rattle.std.proofs.lemmas.List.Elements.{All-nil, All-head, All-tail, All-more}
use Rattle.percent_encoding.specs.Percent.{percent_decode}
use Rattle.percent_encoding.proofs.PercentLemmas.{KeepsFirst_from_no_escape, percent_decode-nil}
use Rattle.api_calls.specs.Meaning.{Meaning}
use Rattle.http_routes.specs.Paths.{pieces, segments, slash, Names, NamesNothing}
use Rattle.http_routes.specs.Routes.{path_in, query_in, question_mark, is_stop, IsPlain}
use Rattle.http_routes.specs.Views.{now_of, resource_of, Finds, FitsResource}
use Rattle.http_routes.specs.declared.resource.Resource as resources
use Rattle.http_routes.specs.declared.finding.Found.{Found}
use Rattle.http_routes.specs.declared.finding.Found.TheVariants as finds
use Rattle.http_routes.proofs.Named.{finds_option}
use Rattle.http_routes.proofs.Pieces.{front_is, one_more, last_one, too_many}

not_slash : (b : ℕ) → IsPlain b → (b == slash) ≡ false
not_slash b plain = grind (arith, nat_tests)

not_mark : (b : ℕ) → IsPlain b → (b == question_mark) ≡ false
not_mark b plain = grind (arith, nat_tests)

not_percent : (b : ℕ) → IsPlain b → b ≡ 37 → ⊥
not_percent b plain is = grind (arith, nat_tests)

-- ---- paths

abbrev mark_place : List ℕ → ℕ
mark_place xs = position_or_len (λ b. b == question_mark) xs

with_first : (x : ℕ) (xs : List ℕ) (n : ℕ) → take (1 + n) (x ∷ xs) ≡ x ∷ take n xs
with_first x xs n =
    let more : 1 + n ≡ suc n = omega arith in
    ap (λ (k : ℕ). take k (x ∷ xs)) more

path_step : (x : ℕ) (xs : List ℕ) → IsPlain x → path_in (x ∷ xs) ≡ x ∷ path_in xs
path_step x xs plain = rw (not_mark x plain) (with_first x xs (mark_place xs))

path_slash : (xs ys : List ℕ) → All IsPlain xs → path_in (xs ++ slash ∷ ys) ≡ xs ++ slash ∷ path_in ys
path_slash [] ys all = with_first slash ys (mark_place ys)
path_slash (x ∷ xs) ys all =
    path_step x (xs ++ slash ∷ ys) (All-head IsPlain x xs all) ∙ ap (λ (zs : List ℕ). x ∷ zs) (path_slash xs ys (All-tail IsPlain x xs all))

path_mark : (xs ys : List ℕ) → All IsPlain xs → path_in (xs ++ question_mark ∷ ys) ≡ xs
path_mark [] ys all = refl
path_mark (x ∷ xs) ys all =
    path_step x (xs ++ question_mark ∷ ys) (All-head IsPlain x xs all) ∙ ap (λ (zs : List ℕ). x ∷ zs) (path_mark xs ys (All-tail IsPlain x xs all))

path_alone : (xs : List ℕ) → All IsPlain xs → path_in xs ≡ xs
path_alone [] all = refl
path_alone (x ∷ xs) all = path_step x xs (All-head IsPlain x xs all) ∙ ap (λ (zs : List ℕ). x ∷ zs) (path_alone xs (All-tail IsPlain x xs all))

-- ---- queries

behind_first : (x : ℕ) (xs : List ℕ) (n : ℕ) → drop (1 + n + 1) (x ∷ xs) ≡ drop (n + 1) xs
behind_first x xs n =
    let more : 1 + n + 1 ≡ suc (n + 1) = omega arith in
    ap (λ (k : ℕ). drop k (x ∷ xs)) more

query_step : (x : ℕ) (xs : List ℕ) → IsPlain x → query_in (x ∷ xs) ≡ query_in xs
query_step x xs plain = rw (not_mark x plain) (behind_first x xs (mark_place xs))

query_slash : (xs ys : List ℕ) → All IsPlain xs → query_in (xs ++ slash ∷ ys) ≡ query_in ys
query_slash [] ys all = behind_first slash ys (mark_place ys)
query_slash (x ∷ xs) ys all = query_step x (xs ++ slash ∷ ys) (All-head IsPlain x xs all) ∙ query_slash xs ys (All-tail IsPlain x xs all)

query_mark : (xs ys : List ℕ) → All IsPlain xs → query_in (xs ++ question_mark ∷ ys) ≡ ys
query_mark [] ys all = refl
query_mark (x ∷ xs) ys all = query_step x (xs ++ question_mark ∷ ys) (All-head IsPlain x xs all) ∙ query_mark xs ys (All-tail IsPlain x xs all)

query_alone : (xs : List ℕ) → All IsPlain xs → query_in xs ≡ []
query_alone [] all = refl
query_alone (x ∷ xs) all = query_step x xs (All-head IsPlain x xs all) ∙ query_alone xs (All-tail IsPlain x xs all)

-- ---- segments

pieces_step : (x : ℕ) (xs : List ℕ) → IsPlain x → pieces (x ∷ xs) ≡ onto_first x (pieces xs)
pieces_step x xs plain = rw (not_slash x plain) refl

pieces_slash : (xs ys : List ℕ) → All IsPlain xs → pieces (xs ++ slash ∷ ys) ≡ xs ∷ pieces ys
pieces_slash [] ys all = refl
pieces_slash (x ∷ xs) ys all =
    pieces_step x (xs ++ slash ∷ ys) (All-head IsPlain x xs all) ∙ ap (onto_first x) (pieces_slash xs ys (All-tail IsPlain x xs all))

pieces_alone : (xs : List ℕ) → All IsPlain xs → pieces xs ≡ xs ∷ []
pieces_alone [] all = refl
pieces_alone (x ∷ xs) all = pieces_step x xs (All-head IsPlain x xs all) ∙ ap (onto_first x) (pieces_alone xs (All-tail IsPlain x xs all))

decode_plain : (xs : List ℕ) → All IsPlain xs → percent_decode xs ≡ xs
decode_plain [] all = percent_decode-nil
decode_plain (x ∷ xs) all =
    KeepsFirst_from_no_escape (x ∷ xs) (λ long is high low. not_percent x (All-head IsPlain x xs all) is)
    ∙ ap (λ (zs : List ℕ). x ∷ zs) (decode_plain xs (All-tail IsPlain x xs all))

segments_slash : (xs ys : List ℕ) → All IsPlain xs → segments (path_in (xs ++ slash ∷ ys)) ≡ xs ∷ segments (path_in ys)
segments_slash xs ys all =
    ap segments (path_slash xs ys all)
    ∙ ap (map percent_decode) (pieces_slash xs (path_in ys) all)
    ∙ ap (λ (zs : List ℕ). zs ∷ segments (path_in ys)) (decode_plain xs all)

segments_alone : (xs : List ℕ) → All IsPlain xs → segments xs ≡ xs ∷ []
segments_alone xs all = ap (map percent_decode) (pieces_alone xs all) ∙ ap (λ (zs : List ℕ). zs ∷ []) (decode_plain xs all)

-- ---- by the place of the first byte that is none of a segment

parted : (target : List ℕ) (i b : ℕ) → i < length target → get_or target i 0 ≡ b → target ≡ take i target ++ b ∷ drop (i + 1) target
parted target i b within is =
    sym (take-append-drop i target)
    ∙ ap (λ (ys : List ℕ). take i target ++ ys) (front_is target i 0 within ∙ ap (λ (c : ℕ). c ∷ drop (i + 1) target) is)

begins_slash : (target more : List ℕ) (i : ℕ) → i < length target → All IsPlain (take i target) → get_or target i 0 ≡ slash
    → more ≡ drop (i + 1) target
    → (segments (path_in target) ≡ take i target ∷ segments (path_in more)) × (query_in target ≡ query_in more)
begins_slash target more i within plain is rest =
    let e = parted target i slash within is in (
      ap (λ (xs : List ℕ). segments (path_in xs)) e ∙ segments_slash (take i target) (drop (i + 1) target) plain
          ∙ ap (λ (ys : List ℕ). take i target ∷ segments (path_in ys)) (sym rest),
      ap query_in e ∙ query_slash (take i target) (drop (i + 1) target) plain ∙ ap query_in (sym rest),
    )

begins_mark : (target query : List ℕ) (i : ℕ) → i < length target → All IsPlain (take i target) → get_or target i 0 ≡ question_mark
    → query ≡ drop (i + 1) target
    → (segments (path_in target) ≡ take i target ∷ []) × (query_in target ≡ query)
begins_mark target query i within plain is rest =
    let e = parted target i question_mark within is in (
      ap (λ (xs : List ℕ). segments (path_in xs)) e ∙ ap segments (path_mark (take i target) (drop (i + 1) target) plain) ∙ segments_alone (take i target) plain,
      ap query_in e ∙ query_mark (take i target) (drop (i + 1) target) plain ∙ sym rest,
    )

begins_alone : (target : List ℕ) (i : ℕ) → length target ≤ i → All IsPlain (take i target)
    → (segments (path_in target) ≡ target ∷ []) × (query_in target ≡ [])
begins_alone target i end plain =
    let all : All IsPlain target = subst (All IsPlain) (take_all i target end) plain in
    (ap segments (path_alone target all) ∙ segments_alone target all, query_alone target all)

-- ---- a walk over a target

-- What is known of a target before a place: the segments that ended are lent, and the bytes from `start` on belong to the next one.
pub record Walked (target : List ℕ) (parts : List (Bor (List ℕ))) (count start i : ℕ) : Type 0 where
  pub found : segments (path_in target) ≡ map now_of (take count parts) ++ segments (path_in (drop start target))
  pub query : query_in target ≡ query_in (drop start target)
  pub plain : All IsPlain (take (i - start) (drop start target))
  pub order : start ≤ i
  pub long : length parts ≡ 8
  pub few : count < 8

pub walk_none : (target : List ℕ) (parts : List (Bor (List ℕ))) → length parts ≡ 8 → Walked target parts 0 0 0
walk_none target parts long = record { found = refl; query = refl; plain = All-nil IsPlain; order = omega arith; long = long; few = omega arith }

rest_byte : (target : List ℕ) (start i : ℕ) → start ≤ i → get_or (drop start target) (i - start) 0 ≡ get_or target i 0
rest_byte target start i order =
    let same : start + (i - start) ≡ i = omega arith in
    get_or-drop start target (i - start) 0 ∙ ap (λ (k : ℕ). get_or target k 0) same

rest_within : (target : List ℕ) (start i : ℕ) → start ≤ i → i < length target → i - start < length (drop start target)
rest_within target start i order within = let e = length-drop start target in omega (arith, e)

rest_more : (target : List ℕ) (start i : ℕ) → start ≤ i → drop (i - start + 1) (drop start target) ≡ drop (i + 1) target
rest_more target start i order =
    let same : start + (i - start + 1) ≡ i + 1 = omega arith in
    drop-drop (i - start + 1) start target ∙ ap (λ (k : ℕ). drop k target) same

pub walk_byte : (target : List ℕ) (parts : List (Bor (List ℕ))) (count start i : ℕ) → Walked target parts count start i → i < length target
    → IsPlain (get_or target i 0) → Walked target parts count start (i + 1)
walk_byte target parts count start i w within plain =
    let order : start ≤ i = w.order in
    let one : i - start + 1 ≡ i + 1 - start = omega arith in
    let byte : IsPlain (get_or (drop start target) (i - start) 0) = subst IsPlain (sym (rest_byte target start i order)) plain in
    record {
      found = w.found;
      query = w.query;
      plain = subst (λ (k : ℕ). All IsPlain (take k (drop start target))) one
          (All-more IsPlain (drop start target) (i - start) 0 (rest_within target start i order within) w.plain byte);
      order = omega arith;
      long = w.long;
      few = w.few;
    }

pub slash_left : (b : ℕ) → is_stop b ≡ true → b ≢ 37 → b ≢ question_mark → b ≡ slash
slash_left b stop escape mark = grind (arith, nat_tests)

module _ (target : List ℕ) (parts : List (Bor (List ℕ))) (count start i : ℕ) (w : Walked target parts count start i) where
  room : count < length parts
  room = omega (arith, w.few, w.long)

  ended : i < length target → get_or target i 0 ≡ slash
      → (segments (path_in (drop start target)) ≡ take (i - start) (drop start target) ∷ segments (path_in (drop (i + 1) target)))
      × (query_in (drop start target) ≡ query_in (drop (i + 1) target))
  ended within is =
      begins_slash (drop start target) (drop (i + 1) target) (i - start) (rest_within target start i w.order within) w.plain
      (rest_byte target start i w.order ∙ is) (sym (rest_more target start i w.order))

  pub walk_slash : (segment : Bor (List ℕ)) (next : List (Bor (List ℕ))) (more behind : ℕ)
      → next ≡ set parts count segment → more ≡ count + 1 → behind ≡ i + 1
      → i < length target → get_or target i 0 ≡ slash → segment.now ≡ take (i - start) (drop start target) → count + 1 ≢ 8
      → Walked target next more behind (i + 1)
  walk_slash segment next more behind e f g within is same other =
      let b = ended within is in
      let none : 0 ≡ i + 1 - (i + 1) = omega arith in
      rw (e, f, g) (record {
        found = one_more parts count segment _ _ _ room w.found (b.0 ∙ ap (λ (xs : List ℕ). xs ∷ segments (path_in (drop (i + 1) target))) (sym same));
        query = w.query ∙ b.1;
        plain = subst (λ (k : ℕ). All IsPlain (take k (drop (i + 1) target))) none (All-nil IsPlain);
        order = omega arith;
        long = length-set parts count segment ∙ w.long;
        few = omega (arith, w.few, other);
      })

  -- a slash behind as many segments as any path of the table has
  pub walk_over : i < length target → get_or target i 0 ≡ slash → count + 1 ≡ 8 → 8 < length (segments (path_in target))
  walk_over within is full =
      let b = ended within is in
      let front : List (List ℕ) = map now_of (take count parts) in
      let last : List (List ℕ) = take (i - start) (drop start target) ∷ [] in
      let rest : List (List ℕ) = segments (path_in (drop (i + 1) target)) in
      let all : segments (path_in target) ≡ (front ++ last) ++ rest =
      w.found ∙ ap (λ (ss : List (List ℕ)). front ++ ss) b.0 ∙ sym (append_assoc front last rest) in
      let e = length-append front last in
      let f = length-map (take count parts) now_of in
      let g = length-take count parts in
      too_many (path_in target) (path_in (drop (i + 1) target)) (front ++ last) all (omega (arith, e, f, g, w.long, full))

  module _ (m : Meaning) (segment query : Bor (List ℕ)) (found : Option resources.Resource) (f : Found)
      (is : MatchOption found (f ≡ finds.Nothing) (λ r. f ≡ finds.Named r query))
      (names : MatchOption found (NamesNothing m (map now_of (take (count + 1) (set parts count segment))))
      (λ r. Names m (map now_of (take (count + 1) (set parts count segment))) (resource_of r)))
      (fits : IfSome found FitsResource) where
    -- at a question mark
    pub finds_mark : i < length target → get_or target i 0 ≡ question_mark → segment.now ≡ take (i - start) (drop start target)
        → query.now ≡ drop (i + 1) target → Finds m (segments (path_in target)) (query_in target) f
    finds_mark within here same rest =
        let b = begins_mark (drop start target) query.now (i - start) (rest_within target start i w.order within) w.plain
        (rest_byte target start i w.order ∙ here) (rest ∙ sym (rest_more target start i w.order)) in
        let all : segments (path_in target) ≡ map now_of (take (count + 1) (set parts count segment)) =
        last_one parts count segment _ _ room w.found (b.0 ∙ ap (λ (xs : List ℕ). xs ∷ []) (sym same)) in
        rw (all, w.query, b.1) (finds_option m _ query found f is names fits)

    pub finds_end : length target ≤ i → segment.now ≡ drop start target → query.now ≡ [] → Finds m (segments (path_in target)) (query_in target) f
    finds_end end same none =
        let e = length-drop start target in
        let b = begins_alone (drop start target) (i - start) (omega (arith, e)) w.plain in
        let all : segments (path_in target) ≡ map now_of (take (count + 1) (set parts count segment)) =
        last_one parts count segment _ _ room w.found (b.0 ∙ ap (λ (xs : List ℕ). xs ∷ []) (sym same)) in
        rw (all, w.query, b.1, ← none) (finds_option m _ query found f is names fits)
