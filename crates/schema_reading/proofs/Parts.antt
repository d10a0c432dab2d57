-- The keywords of one part, as one refusal.
use Rattle.std.proofs.Common.{◌≡◌, ℕ, List, [], ◌∷◌, ◌++◌, Bool, true, false, cond, Option, Some, None, option_map, refl, ap, sym, subst, ◌∙◌}
use Rattle.std.specs.Prelude.{is_some, is_none}
use Rattle.kj_value.specs.Json.{Json, null, boolean, whole, text, list, object, Members, no_members, member}
use Rattle.struct_schema.specs.Names.{value_at}
use Rattle.struct_schema.specs.Shape.{Shape}
use Rattle.struct_schema.specs.declared.kind.NodeKind.{NodeKind}
use Rattle.struct_schema.specs.Fault.{or_else}
use Rattle.schema_reading.specs.Words.{word}
use Rattle.schema_reading.specs.Allowed.{is_allowed, additional_allowed, items_allowed}
use Rattle.schema_reading.specs.Visit.{keyword, Visit, Refusal, refused_at, after, first}
use Rattle.schema_reading.specs.Visits.{in_part, tries, part_visits, unallowed, is_meta_type, meta_rest, meta_typed, meta_object, meta_visits, additional_visits, items_visits, typed_visits, type_visits, default_visits}
use Rattle.schema_reading.specs.Told.{StopsSchemaReading}
use Rattle.schema_reading.specs.declared.trouble.Stop.{Stop}
use Rattle.schema_reading.specs.declared.words.Keyword.{Keyword}
use Rattle.schema_reading.specs.declared.words.Keyword.TheVariants.{Additional, Default, Items as ItemsWord, Kind as TypeWord}
use Rattle.schema_reading.specs.declared.words.Scope.{Scope}
use Rattle.schema_reading.specs.declared.words.Scope.TheVariants.{Node, Meta}
use Rattle.schema_reading.specs.declared.words.Part.{Part}
use Rattle.schema_reading.specs.declared.words.Part.TheVariants.{BeforeAdditional, BeforeItems, BeforeType, AfterType, AnyBeforeType}
use Rattle.schema_reading.proofs.Passing.{AreKeywords, keywords-append, passes-keywords, stops-then, first-append, after-keywords}

pub keywords-part : (p : Part) (s : Scope) (ms : Members) → AreKeywords (part_visits p s ms)
keywords-part p s no_members = tt
keywords-part p s (member k j ms) = by_test (in_part p k) (keywords-part p s ms)
  where
    by_test : (b : Bool) → AreKeywords (part_visits p s ms) → AreKeywords (cond b (record { path = []; tried = keyword k (is_allowed s k j) } ∷ part_visits p s ms) (part_visits p s ms))
    by_test true h = (tt, h)
    by_test false h = h

pub first-part : (n : ℕ) (p : Part) (s : Scope) (ms : Members) → first n (part_visits p s ms) ≡ option_map (refused_at []) (unallowed p s ms)
first-part n p s no_members = refl
first-part n p s (member k j ms) = by_test (in_part p k) (is_allowed s k j) (first-part n p s ms)
  where
    by_test : (b c : Bool) → first n (part_visits p s ms) ≡ option_map (refused_at []) (unallowed p s ms)
        → first n (cond b (record { path = []; tried = keyword k c } ∷ part_visits p s ms) (part_visits p s ms)) ≡ option_map (refused_at []) (cond b (cond c (unallowed p s ms) (Some k)) (unallowed p s ms))
    by_test true true h = h
    by_test true false h = refl
    by_test false c h = h

pub first-tries : (n : ℕ) (w : Keyword) (b : Bool) → first n (tries w b) ≡ cond b None (Some (refused_at [] (word w)))
first-tries n w true = refl
first-tries n w false = refl

-- ---- the groups of keywords of a node

pub keywords-additional : (k : Option NodeKind) (ms : Members) → AreKeywords (additional_visits k ms)
keywords-additional k ms =
    keywords-append (part_visits BeforeAdditional (Node k) ms) (tries Additional (additional_allowed k ms (value_at (word Additional) ms))) (keywords-part BeforeAdditional (Node k) ms) (tt, tt)

pub keywords-items : (k : Option NodeKind) (ms : Members) → AreKeywords (items_visits k ms)
keywords-items k ms =
    keywords-append (part_visits BeforeItems (Node k) ms) (tries ItemsWord (items_allowed k (value_at (word ItemsWord) ms))) (keywords-part BeforeItems (Node k) ms) (tt, tt)

pub keywords-typed : (root : Bool) (k : Option NodeKind) (ms : Members) → AreKeywords (typed_visits root k ms)
keywords-typed root k ms =
    keywords-append (tries TypeWord (is_some k)) (part_visits AfterType (Node k) ms) (tt, tt) (keywords-part AfterType (Node k) ms)

pub keywords-type : (root : Bool) (k : Option NodeKind) (ms : Members) → AreKeywords (type_visits root k ms)
keywords-type root k ms =
    keywords-append (part_visits BeforeType (Node k) ms) (typed_visits root k ms) (keywords-part BeforeType (Node k) ms) (keywords-typed root k ms)

pub keywords-default : (root : Bool) (s : Shape) (o : Option Json) → AreKeywords (default_visits root s o)
keywords-default root s None = tt
keywords-default root s (Some d) = (tt, tt)

keywords-rest : (ms : Members) → AreKeywords (meta_rest ms)
keywords-rest ms =
    keywords-append (part_visits AfterType Meta ms) (tries Default (is_none (value_at (word Default) ms))) (keywords-part AfterType Meta ms) (tt, tt)

keywords-object : (w : List ℕ) (ms : Members) → AreKeywords (meta_object w ms)
keywords-object w ms =
    keywords-append (part_visits AnyBeforeType Meta ms) (meta_typed w ms) (keywords-part AnyBeforeType Meta ms) (keywords-append (tries TypeWord (is_meta_type w (value_at (word TypeWord) ms))) (meta_rest ms) (tt, tt) (keywords-rest ms))

pub keywords-meta : (w : List ℕ) (j : Json) → AreKeywords (meta_visits w j)
keywords-meta w null = (tt, tt)
keywords-meta w (boolean b) = (tt, tt)
keywords-meta w (whole z) = (tt, tt)
keywords-meta w (text t) = (tt, tt)
keywords-meta w (list js) = (tt, tt)
keywords-meta w (object ms) = keywords-object w ms

-- ---- a part as it was tried

pub part_passes : (p : Part) (s : Scope) (ms : Members) → option_map (refused_at []) (unallowed p s ms) ≡ None → first 0 (part_visits p s ms) ≡ None
part_passes p s ms e = first-part 0 p s ms ∙ e

pub part_stops : (p : Part) (s : Scope) (ms : Members) (e : Stop) → StopsSchemaReading (option_map (refused_at []) (unallowed p s ms)) e → StopsSchemaReading (first 0 (part_visits p s ms)) e
part_stops p s ms e h = subst (λ (o : Option Refusal). StopsSchemaReading o e) (sym (first-part 0 p s ms)) h

pub tries_pass : (w : Keyword) (b : Bool) → cond b None (Some (refused_at [] (word w))) ≡ None → first 0 (tries w b) ≡ None
tries_pass w b e = first-tries 0 w b ∙ e

pub tries_stop : (w : Keyword) (b : Bool) (e : Stop) → StopsSchemaReading (cond b None (Some (refused_at [] (word w)))) e → StopsSchemaReading (first 0 (tries w b)) e
tries_stop w b e h = subst (λ (o : Option Refusal). StopsSchemaReading o e) (sym (first-tries 0 w b)) h

-- two lists of keywords, one after the other

pub both_pass : (xs ys : List Visit) → AreKeywords xs → first 0 xs ≡ None → first 0 ys ≡ None → first 0 (xs ++ ys) ≡ None
both_pass xs ys k p q =
    first-append 0 xs ys ∙ ap (λ (o : Option Refusal). or_else o (first (after 0 xs) ys)) p ∙ ap (λ (n : ℕ). first n ys) (after-keywords 0 xs k) ∙ q

pub second_stops : (xs ys : List Visit) (e : Stop) → AreKeywords xs → first 0 xs ≡ None → StopsSchemaReading (first 0 ys) e → StopsSchemaReading (first 0 (xs ++ ys)) e
second_stops xs ys e k p h = stops-then 0 0 xs ys e (passes-keywords 0 xs k p) h

-- one after the other, the first of which passed
pub second : (xs ys : List Visit) → AreKeywords xs → first 0 xs ≡ None → first 0 ys ≡ first 0 (xs ++ ys)
second xs ys k p =
    sym (first-append 0 xs ys ∙ ap (λ (o : Option Refusal). or_else o (first (after 0 xs) ys)) p ∙ ap (λ (n : ℕ). first n ys) (after-keywords 0 xs k))

pub tried_second : (xs : List Visit) (w : Keyword) (b c : Bool) → AreKeywords xs → first 0 xs ≡ None → b ≡ c → cond b None (Some (refused_at [] (word w))) ≡ first 0 (xs ++ tries w c)
tried_second xs w b c k p e =
    ap (λ (a : Bool). cond a None (Some (refused_at [] (word w)))) e ∙ sym (first-tries 0 w c) ∙ second xs (tries w c) k p

pub part_second : (xs : List Visit) (p : Part) (s : Scope) (ms : Members) → AreKeywords xs → first 0 xs ≡ None → option_map (refused_at []) (unallowed p s ms) ≡ first 0 (xs ++ part_visits p s ms)
part_second xs p s ms k e = sym (first-part 0 p s ms) ∙ second xs (part_visits p s ms) k e
