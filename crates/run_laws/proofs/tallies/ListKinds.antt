-- The kind of a definition's lists is short.
use Rattle.std.proofs.Common.{◌≡◌, ◌∙◌, refl, sym, ap, subst, ℕ, ◌≤◌, Bool, true, false, ◌&&◌, cond, nat_le, List, length, length-append, Option, None, Some, codes, arith}
use Rattle.std.specs.List.{list_all}
use Rattle.std.specs.Char.{is_ascii_alphanumeric}
use Rattle.std.specs.Prelude.{slice_get}
use Rattle.std.proofs.lemmas.Bool.Decides.{nat_tests}
use Rattle.kj_value.specs.Json.{Json, Members, boolean, list, member, no_members, null, object, text, whole}
use Rattle.struct_schema.specs.Names.{is_name, value_at}
use Rattle.struct_schema.specs.laws.NameLaws.{one_name}
use Rattle.schema_reading.specs.Allowed.{is_object_value}
use Rattle.crd_reading.specs.Accepted.{IsDefinition, each_stands, has_rows, stands}
use Rattle.crd_reading.specs.Allowed.{begins_with_letter, is_allowed, is_kind_name, is_text_of}
use Rattle.crd_reading.specs.Spelled.{definition_read, inside, list_kind_read, names_in, spec_in, text_in}
use Rattle.crd_reading.specs.Table.{has_names, place_in, rows}
use Rattle.crd_reading.specs.View.{DefinitionView}
use Rattle.crd_reading.specs.Whole.{IsWholeDefinition}
use Rattle.crd_reading.specs.Words.{spelled}

left_of : (a b : Bool) → (a && b) ≡ true → a ≡ true
left_of true b e = refl
left_of false b e = e

right_of : (a b : Bool) → (a && b) ≡ true → b ≡ true
right_of true b e = e
right_of false b e = absurd (cc)

-- ---- what stands at a place, whatever the place is

allowed_of : (p : _) (j : Json) → stands p j ≡ true → is_allowed p j ≡ true
allowed_of p null h = h
allowed_of p (boolean b) h = h
allowed_of p (whole z) h = h
allowed_of p (text t) h = h
allowed_of p (list js) h = left_of (is_allowed p (list js)) _ h
allowed_of p (object ms) h = left_of (is_allowed p (object ms)) (cond (has_names p) (has_rows (rows p) ms && each_stands p ms) true) h

object_of_value : (j : Json) → is_object_value j ≡ true → (ms : Members) × (j ≡ object ms)
object_of_value null h = absurd (cc)
object_of_value (boolean b) h = absurd (cc)
object_of_value (whole z) h = absurd (cc)
object_of_value (text t) h = absurd (cc)
object_of_value (list js) h = absurd (cc)
object_of_value (object ms) h = (ms, refl)

stands_at : (p : _) (ms : Members) (n : List ℕ) (i : Json) → each_stands p ms ≡ true → value_at n ms ≡ Some i → stands (place_in p n) i ≡ true
stands_at p no_members n i h e = absurd (cc)
stands_at p (member k j ms) n i h e =
    by_test (is_name n k) refl e (left_of (stands (place_in p k) j) (each_stands p ms) h) (λ q. stands_at p ms n i (right_of (stands (place_in p k) j) (each_stands p ms) h) q)
  where
    by_test : (b : Bool) → is_name n k ≡ b → cond b (Some j) (value_at n ms) ≡ Some i → stands (place_in p k) j ≡ true → (value_at n ms ≡ Some i → stands (place_in p n) i ≡ true) → stands (place_in p n) i ≡ true
    by_test true t q s later =
        let same : j ≡ i = cc in
        subst (λ (x : Json). stands (place_in p n) x ≡ true) same (subst (λ (m : List ℕ). stands (place_in p m) j ≡ true) (sym (one_name n k t)) s)
    by_test false t q s later = later q

-- the value at a name of an object
value_stands : (p : _) (j : Json) (ms : Members) (n : List ℕ) (i : Json) → has_names p ≡ true → j ≡ object ms → stands p j ≡ true → value_at n ms ≡ Some i → stands (place_in p n) i ≡ true
value_stands p j ms n i names is h e =
    let same : stands p (object ms) ≡ true = subst (λ (k : Json). stands p k ≡ true) is h in
    let rest : cond (has_names p) (has_rows (rows p) ms && each_stands p ms) true ≡ true =
    right_of (is_allowed p (object ms)) (cond (has_names p) (has_rows (rows p) ms && each_stands p ms) true) same in
    let both : (has_rows (rows p) ms && each_stands p ms) ≡ true = subst (λ (b : Bool). cond b (has_rows (rows p) ms && each_stands p ms) true ≡ true) names rest in
    stands_at p ms n i (right_of (has_rows (rows p) ms) (each_stands p ms) both) e

-- ---- the kinds

name_few : (t : List ℕ) → is_kind_name t ≡ true → length t ≤ 63
unfolding is_kind_name
name_few t is =
    let short = left_of (nat_le (length t) 63) (begins_with_letter (slice_get t 0))
    (left_of (nat_le (length t) 63 && begins_with_letter (slice_get t 0)) (list_all is_ascii_alphanumeric t) is) in
    grind (arith, nat_tests)

-- a name of a kind, or nothing
abbrev IsKindOr : Option Json → Type 0
IsKindOr o = (k : Json) → o ≡ Some k → is_text_of is_kind_name k ≡ true

kind_few : (o : Option Json) → IsKindOr o → length (text_in o) ≤ 63
kind_few None h = omega arith
kind_few (Some null) h = omega arith
kind_few (Some (boolean b)) h = omega arith
kind_few (Some (whole z)) h = omega arith
kind_few (Some (text t)) h = name_few t (h (text t) refl)
kind_few (Some (list js)) h = omega arith
kind_few (Some (object ms)) h = omega arith

read_few : (o : Option Json) (kind : List ℕ) → length kind ≤ 63 → IsKindOr o → length (list_kind_read o kind) ≤ 67
read_few None kind short h = let long = length-append kind (codes "List") in omega (arith, short, long)
read_few (Some j) kind short h = let few = kind_few (Some j) h in omega (arith, few)

-- ---- a document

-- of nothing but these names
abbrev names_alone : Json → Json
names_alone names = object (member (codes "spec") (object (member (codes "names") names no_members)) no_members)

same_lists : (a c : _) (o p : Option Json) → o ≡ p → list_kind_read (inside a o) (text_in (inside c o)) ≡ list_kind_read (inside a p) (text_in (inside c p))
same_lists a c o p e = ap (λ (x : Option Json). list_kind_read (inside a x) (text_in (inside c x))) e

-- documents of the same names have the same kind of lists
same_names : (j k : Json) → names_in j ≡ names_in k → (definition_read j).list_kind ≡ (definition_read k).list_kind
same_names j k e = same_lists _ _ (names_in j) (names_in k) e

few_by : (j k : Json) → names_in j ≡ names_in k → length (definition_read k).list_kind ≤ 67 → length (definition_read j).list_kind ≤ 67
few_by j k e few = subst (λ (s : List ℕ). length s ≤ 67) (sym (same_names j k e)) few

same_inside : (w : _) (o p : Option Json) → o ≡ p → inside w o ≡ inside w p
same_inside w o p e = ap (λ (x : Option Json). inside w x) e

none_few : length (definition_read null).list_kind ≤ 67
none_few = omega arith

of_names : (ns : Members) → IsKindOr (value_at (codes "kind") ns) → IsKindOr (value_at (codes "listKind") ns) → length (definition_read (names_alone (object ns))).list_kind ≤ 67
unfolding spelled
of_names ns kind lists = read_few (value_at (codes "listKind") ns) (text_in (value_at (codes "kind") ns)) (kind_few (value_at (codes "kind") ns) kind) lists

names_of : (names : Json) → names_in (names_alone names) ≡ Some names
unfolding spelled
names_of names = refl

names_same : (j k : Json) → spec_in j ≡ spec_in k → names_in j ≡ names_in k
names_same j k e = same_inside _ (spec_in j) (spec_in k) e

-- of nothing but its `spec`
abbrev alone_in : Json → Json
alone_in spec = object (member (codes "spec") spec no_members)

spec_of : (spec : Json) → spec_in (alone_in spec) ≡ Some spec
unfolding spelled
spec_of spec = refl

names_there : (ps : Members) → names_in (alone_in (object ps)) ≡ value_at (codes "names") ps
unfolding spelled
names_there ps = refl

names_at : (j : Json) (ps : Members) → spec_in j ≡ Some (object ps) → names_in j ≡ value_at (codes "names") ps
names_at j ps e = names_same j (alone_in (object ps)) (e ∙ sym (spec_of (object ps))) ∙ names_there ps

names_none : (j : Json) → spec_in j ≡ None → names_in j ≡ None
names_none j e = same_inside _ (spec_in j) None e

in_document : (j : Json) → IsDefinition j → length (definition_read j).list_kind ≤ 67
unfolding spelled
in_document j d = by_spec (value_at (codes "spec") ms) refl
  where
    top : (ms : Members) × (j ≡ object ms)
    top = object_of_value j (allowed_of _ j d.stands)

    ms : Members
    ms = top.0

    spec_is : (o : Option Json) → value_at (codes "spec") ms ≡ o → spec_in j ≡ o
    spec_is o is = ap spec_in top.1 ∙ is

    by_names : (s : Json) (ps : Members) → spec_in j ≡ Some (object ps) → (o : Option Json) → value_at (codes "names") ps ≡ o
        → ((i : Json) → o ≡ Some i → (ns : Members) × (i ≡ object ns) × IsKindOr (value_at (codes "kind") ns) × IsKindOr (value_at (codes "listKind") ns)) → length (definition_read j).list_kind ≤ 67
    by_names s ps spec None is kinds =
        few_by j null (names_at j ps spec ∙ is) none_few
    by_names s ps spec (Some i) is kinds =
        let k = kinds i refl in
        few_by j (names_alone (object k.0)) (names_at j ps spec ∙ is ∙ ap Some k.1 ∙ sym (names_of (object k.0))) (of_names k.0 k.2 k.3)

    by_spec : (o : Option Json) → value_at (codes "spec") ms ≡ o → length (definition_read j).list_kind ≤ 67
    by_spec None is = few_by j null (names_none j (spec_is None is)) none_few
    by_spec (Some s) is =
        let at_spec = value_stands _ j ms (codes "spec") s refl top.1 d.stands is in
        let p = object_of_value s (allowed_of _ s at_spec) in
        by_names s p.0 (spec_is (Some s) is ∙ ap Some p.1) (value_at (codes "names") p.0) refl
        (λ i there.
        let at_names = value_stands _ s p.0 (codes "names") i refl p.1 at_spec there in
        let q = object_of_value i (allowed_of _ i at_names) in
        (q.0, q.1, (λ k e. allowed_of _ k (value_stands _ i q.0 (codes "kind") k refl q.1 at_names e)), (λ k e. allowed_of _ k (value_stands _ i q.0 (codes "listKind") k refl q.1 at_names e))))

pub list_kind_few : (d : DefinitionView) → IsWholeDefinition d → length d.list_kind ≤ 67
list_kind_few d is = subst (λ (v : DefinitionView). length v.list_kind ≤ 67) is.spelled.2 (in_document is.spelled.0 is.spelled.1)
