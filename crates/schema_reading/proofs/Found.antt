-- What stands under a keyword, as the walk finds it.
use Rattle.std.proofs.Common.{◌≡◌, ℕ, zero, suc, ◌+◌, ◌<◌, ◌≤◌, List, [], ◌∷◌, ◌++◌, length, get_or, map, take, Bool, true, false, cond, Option, Some, None, Less, nat_cmp, refl, ap, sym, ◌∙◌, arith}
use Rattle.std.specs.Cmp.Lexicographic.{slice_cmp}
use Rattle.std.specs.Map.{keys_of}
use Rattle.std.proofs.lemmas.Cmp.{nat_list_cmp_total}
use Rattle.kj_value.specs.Json.{Json, Members, no_members, member, members_of, depth, members_depth}
use Rattle.std.proofs.lemmas.List.{take_more}
use Rattle.kj_value.specs.Seen.{json}
use Rattle.kj_value.specs.Pair.{pair_of}
use Rattle.kj_value.specs.declared.value.Field.{Field}
use Rattle.kj_value.specs.Fields.{Pairs, IsBelowFirst, AreInOrder}
use Rattle.kj_value.specs.Sound.{ComesFirst, AreRising}
use Rattle.struct_schema.specs.Path.{named}
use Rattle.struct_schema.specs.Shape.{Shape, no_shape, some_shape, no_map, shape_at, shapes_of}
use Rattle.struct_schema.specs.Names.{is_name, value_at}
use Rattle.schema_reading.specs.Words.{word, passed_type}
use Rattle.schema_reading.specs.ShapeRead.{shape_read, inner_read, map_read, named_read, shapes_read, property_read}
use Rattle.schema_reading.specs.Visit.{within}
use Rattle.schema_reading.specs.Visits.{visits, inner_visits, map_visits, named_visits}
use Rattle.schema_reading.specs.declared.words.Keyword.{Keyword}
use Rattle.schema_reading.specs.declared.words.Keyword.TheVariants.{Properties}

-- by the test of the first name, for what is picked by it
picked : {A : Type 0} (b : Bool) (j v : Json) (f : Json → A) (x : A) (o : Option Json) → cond b (Some j) o ≡ Some v → (o ≡ Some v → x ≡ f v) → cond b (f j) x ≡ f v
picked true j v f x o e h =
    let same : j ≡ v = cc in
    ap f same
picked false j v f x o e h = h e

unpicked : {A : Type 0} (b : Bool) (j : Json) (y x z : A) (o : Option Json) → cond b (Some j) o ≡ None → (o ≡ None → x ≡ z) → cond b y x ≡ z
unpicked true j y x z o e h = absurd (cc)
unpicked false j y x z o e h = h e

pub inner_visits-some : (w : Keyword) (d : ℕ) (ms : Members) (v : Json) → value_at (word w) ms ≡ Some v → inner_visits w d ms ≡ within (named (word w)) (visits false (d + 1) v)
inner_visits-some w d no_members v e = absurd (cc)
inner_visits-some w d (member k j ms) v e =
    picked (is_name (word w) k) j v (λ x. within (named (word w)) (visits false (d + 1) x)) (inner_visits w d ms) (value_at (word w) ms) e (inner_visits-some w d ms v)

pub inner_visits-none : (w : Keyword) (d : ℕ) (ms : Members) → value_at (word w) ms ≡ None → inner_visits w d ms ≡ []
inner_visits-none w d no_members e = refl
inner_visits-none w d (member k j ms) e =
    unpicked (is_name (word w) k) j (within (named (word w)) (visits false (d + 1) j)) (inner_visits w d ms) [] (value_at (word w) ms) e (inner_visits-none w d ms)

pub inner_read-some : (w : Keyword) (ms : Members) (v : Json) → value_at (word w) ms ≡ Some v → inner_read w ms ≡ some_shape (shape_read false v)
inner_read-some w no_members v e = absurd (cc)
inner_read-some w (member k j ms) v e =
    picked (is_name (word w) k) j v (λ x. some_shape (shape_read false x)) (inner_read w ms) (value_at (word w) ms) e (inner_read-some w ms v)

pub inner_read-none : (w : Keyword) (ms : Members) → value_at (word w) ms ≡ None → inner_read w ms ≡ no_shape
inner_read-none w no_members e = refl
inner_read-none w (member k j ms) e =
    unpicked (is_name (word w) k) j (some_shape (shape_read false j)) (inner_read w ms) no_shape (value_at (word w) ms) e (inner_read-none w ms)

pub map_visits-some : (root : Bool) (d : ℕ) (ms : Members) (v : Json) → value_at (word Properties) ms ≡ Some v → map_visits root d ms ≡ within (named (word Properties)) (named_visits root d v)
map_visits-some root d no_members v e = absurd (cc)
map_visits-some root d (member k j ms) v e =
    picked (is_name (word Properties) k) j v (λ x. within (named (word Properties)) (named_visits root d x)) (map_visits root d ms) (value_at (word Properties) ms) e (map_visits-some root d ms v)

pub map_visits-none : (root : Bool) (d : ℕ) (ms : Members) → value_at (word Properties) ms ≡ None → map_visits root d ms ≡ []
map_visits-none root d no_members e = refl
map_visits-none root d (member k j ms) e =
    unpicked (is_name (word Properties) k) j (within (named (word Properties)) (named_visits root d j)) (map_visits root d ms) [] (value_at (word Properties) ms) e (map_visits-none root d ms)

pub map_read-some : (root : Bool) (ms : Members) (v : Json) → value_at (word Properties) ms ≡ Some v → map_read root ms ≡ named_read root v
map_read-some root no_members v e = absurd (cc)
map_read-some root (member k j ms) v e =
    picked (is_name (word Properties) k) j v (λ x. named_read root x) (map_read root ms) (value_at (word Properties) ms) e (map_read-some root ms v)

pub map_read-none : (root : Bool) (ms : Members) → value_at (word Properties) ms ≡ None → map_read root ms ≡ no_map
map_read-none root no_members e = refl
map_read-none root (member k j ms) e =
    unpicked (is_name (word Properties) k) j (named_read root j) (map_read root ms) no_map (value_at (word Properties) ms) e (map_read-none root ms)

-- what stands there is less deep
pub value_depth : (k : List ℕ) (ms : Members) (v : Json) → value_at k ms ≡ Some v → depth v ≤ members_depth ms
value_depth k no_members v e = absurd (cc)
value_depth k (member l j ms) v e = by_test (is_name k l) e (value_depth k ms v)
  where
    by_test : (b : Bool) → cond b (Some j) (value_at k ms) ≡ Some v → (value_at k ms ≡ Some v → depth v ≤ members_depth ms) → depth v ≤ members_depth (member l j ms)
    by_test true q later =
        let same : j ≡ v = cc in
        omega (arith, ap depth same)
    by_test false q later = omega (arith, later q)

-- ---- the properties that aren't passed over, in their order

abbrev keep : Option (List ℕ) → List ℕ → Shape → List (List ℕ × Shape) → List (List ℕ × Shape)
keep None n s es = (n, s) ∷ es
keep (Some w) n s es = es

abbrev pub kept : Bool → Pairs → List (List ℕ × Shape)
kept root [] = []
kept root (e ∷ es) = keep (passed_type root e.0) e.0 (shape_read false e.1) (kept root es)

pub shapes-kept : (root : Bool) (es : Pairs) → shapes_of (kept root es) ≡ shapes_read root (members_of es)
shapes-kept root [] = refl
shapes-kept root (e ∷ es) = by_case (passed_type root e.0) (shapes-kept root es)
  where
    by_case : (o : Option (List ℕ)) → shapes_of (kept root es) ≡ shapes_read root (members_of es) → shapes_of (keep o e.0 (shape_read false e.1) (kept root es)) ≡ property_read o e.0 (shape_read false e.1) (shapes_read root (members_of es))
    by_case None h = ap (shape_at e.0 (shape_read false e.1)) h
    by_case (Some w) h = h

pub kept-append : (root : Bool) (es fs : Pairs) → kept root (es ++ fs) ≡ kept root es ++ kept root fs
kept-append root [] fs = refl
kept-append root (e ∷ es) fs = by_case (passed_type root e.0) (kept-append root es fs)
  where
    by_case : (o : Option (List ℕ)) → kept root (es ++ fs) ≡ kept root es ++ kept root fs → keep o e.0 (shape_read false e.1) (kept root (es ++ fs)) ≡ keep o e.0 (shape_read false e.1) (kept root es) ++ kept root fs
    by_case None h = ap (λ (xs : List (List ℕ × Shape)). (e.0, shape_read false e.1) ∷ xs) h
    by_case (Some w) h = h

-- a name before the first of some is before the first of those that are kept
below_kept : (root : Bool) (k : List ℕ) (es : Pairs) → ComesFirst k (members_of es) → AreRising (members_of es) → IsBelowFirst k (keys_of (kept root es))
below_kept root k [] p h = tt
below_kept root k (e ∷ es) p h =
    by_case (passed_type root e.0) (below_kept root k es (later k e.0 p (members_of es) h.0) h.2)
  where
    later : (k o : List ℕ) → slice_cmp nat_cmp k o ≡ Less → (ms : Members) → ComesFirst o ms → ComesFirst k ms
    later k o q no_members r = tt
    later k o q (member l j ms) r = nat_list_cmp_total.trans k o l q r

    by_case : (o : Option (List ℕ)) → IsBelowFirst k (keys_of (kept root es)) → IsBelowFirst k (keys_of (keep o e.0 (shape_read false e.1) (kept root es)))
    by_case None q = p
    by_case (Some w) q = q

pub kept_rise : (root : Bool) (es : Pairs) → AreRising (members_of es) → AreInOrder (kept root es)
kept_rise root [] h = tt
kept_rise root (e ∷ es) h =
    by_case (passed_type root e.0) (below_kept root e.0 es h.0 h.2) (kept_rise root es h.2)
  where
    by_case : (o : Option (List ℕ)) → IsBelowFirst e.0 (keys_of (kept root es)) → AreInOrder (kept root es) → AreInOrder (keep o e.0 (shape_read false e.1) (kept root es))
    by_case None p q = (p, q)
    by_case (Some w) p q = q

-- ---- by fields, as a loop knows them

first_take : (n : ℕ) (k : List ℕ) (fs : List Field) → ComesFirst k (members_of (map pair_of fs)) → ComesFirst k (members_of (map pair_of (take n fs)))
first_take zero k fs p = tt
first_take (suc n) k [] p = tt
first_take (suc n) k (f ∷ fs) p = p

pub rising_take : (n : ℕ) (fs : List Field) → AreRising (members_of (map pair_of fs)) → AreRising (members_of (map pair_of (take n fs)))
rising_take zero fs h = tt
rising_take (suc n) [] h = tt
rising_take (suc n) (f ∷ fs) h =
    (first_take n f.name.bytes fs h.0, h.1, rising_take n fs h.2)

map-append : (fs gs : List Field) → map pair_of (fs ++ gs) ≡ map pair_of fs ++ map pair_of gs
map-append [] gs = refl
map-append (f ∷ fs) gs = ap (λ (es : Pairs). pair_of f ∷ es) (map-append fs gs)

pub kept_more : (root : Bool) (fs : List Field) (i : ℕ) (f : Field) → i < length fs → f ≡ get_or fs i f → kept root (map pair_of (take (i + 1) fs)) ≡ kept root (map pair_of (take i fs)) ++ kept root (pair_of f ∷ [])
kept_more root fs i f within is =
    let more : take (i + 1) fs ≡ take i fs ++ f ∷ [] = take_more fs i f within ∙ ap (λ (x : Field). take i fs ++ x ∷ []) (sym is) in
    ap (λ (gs : List Field). kept root (map pair_of gs)) more ∙ ap (kept root) (map-append (take i fs) (f ∷ [])) ∙ kept-append root (map pair_of (take i fs)) (pair_of f ∷ [])

-- a name that isn't passed over is kept, and one that is isn't
pub kept_one : (root : Bool) (f : Field) → passed_type root f.name.bytes ≡ None → kept root (pair_of f ∷ []) ≡ (f.name.bytes, shape_read false (json f.value)) ∷ []
kept_one root f e = ap (λ (o : Option (List ℕ)). keep o f.name.bytes (shape_read false (json f.value)) []) e

pub kept_none : (root : Bool) (f : Field) (t : List ℕ) → passed_type root f.name.bytes ≡ Some t → kept root (pair_of f ∷ []) ≡ []
kept_none root f t e = ap (λ (o : Option (List ℕ)). keep o f.name.bytes (shape_read false (json f.value)) []) e

pub kept_in_order : (root : Bool) (n : ℕ) (fs : List Field) → AreRising (members_of (map pair_of fs)) → AreInOrder (kept root (map pair_of (take n fs)))
kept_in_order root n fs h = kept_rise root (map pair_of (take n fs)) (rising_take n fs h)

pub pushed : (root : Bool) (fs : List Field) (i : ℕ) (f : Field) (k n : List ℕ) (s : Shape) (m : List (List ℕ × Shape)) → i < length fs → f ≡ get_or fs i f → m ≡ kept root (map pair_of (take i fs)) → None ≡ passed_type root k → k ≡ f.name.bytes → n ≡ f.name.bytes → s ≡ shape_read false (json f.value)
    → m ++ (n, s) ∷ [] ≡ kept root (map pair_of (take (i + 1) fs))
pushed root fs i f k n s m within is sofar passed named_is spelled read =
    ap (λ (es : List (List ℕ × Shape)). es ++ (n, s) ∷ []) sofar ∙ ap (λ (l : List ℕ). kept root (map pair_of (take i fs)) ++ (l, s) ∷ []) spelled ∙ ap (λ (t : Shape). kept root (map pair_of (take i fs)) ++ (f.name.bytes, t) ∷ []) read
    ∙ ap (λ (es : List (List ℕ × Shape)). kept root (map pair_of (take i fs)) ++ es) (sym (kept_one root f (sym (passed ∙ ap (passed_type root) named_is)))) ∙ sym (kept_more root fs i f within is)

append-nil : {A : Type 0} (xs : List A) → xs ++ [] ≡ xs
append-nil {A = A} [] = refl
append-nil {A = A} (x ∷ xs) = ap (λ (ys : List A). x ∷ ys) (append-nil xs)

pub skipped : (root : Bool) (fs : List Field) (i : ℕ) (f : Field) (k t : List ℕ) (m : List (List ℕ × Shape)) → i < length fs → f ≡ get_or fs i f → m ≡ kept root (map pair_of (take i fs)) → Some t ≡ passed_type root k → k ≡ f.name.bytes → m ≡ kept root (map pair_of (take (i + 1) fs))
skipped root fs i f k t m within is sofar passed named_is =
    sofar ∙ sym (append-nil (kept root (map pair_of (take i fs)))) ∙ ap (λ (es : List (List ℕ × Shape)). kept root (map pair_of (take i fs)) ++ es) (sym (kept_none root f t (sym (passed ∙ ap (passed_type root) named_is)))) ∙ sym (kept_more root fs i f within is)
