-- The name of each version is a label.
use Rattle.std.proofs.Common.{◌≡◌, ℕ, zero, suc, ◌<◌, List, length, Bool, true, false, ◌&&◌, cond, Option, Some, None, refl, ap, sym, subst, ◌∙◌, arith}
use Rattle.std.specs.Prelude.{is_some, slice_index_or, codes}
use Rattle.kj_value.specs.Json.{Json, null, boolean, whole, text, list, object, Items, no_items, item, Members, no_members, member}
use Rattle.kube_meta.specs.Names.{is_namespace}
use Rattle.struct_schema.specs.Names.{is_name, value_at}
use Rattle.struct_schema.specs.laws.NameLaws.{one_name}
use Rattle.schema_reading.specs.Allowed.{is_object_value}
use Rattle.crd_reading.specs.Words.{spelled}
use Rattle.crd_reading.specs.Table.{rows, has_names, has_items, place_in}
use Rattle.crd_reading.specs.Allowed.{is_text_of, is_few, is_allowed}
use Rattle.crd_reading.specs.View.{VersionView, DefinitionView}
use Rattle.crd_reading.specs.Spelled.{inside, text_in, items_in, version_read, versions_read, spec_in, version_items}
use Rattle.crd_reading.specs.Accepted.{has_rows, stands, all_stand, each_stands, IsDefinition}
use Rattle.crd_reading.specs.Whole.{IsWholeDefinition}
use Rattle.crd_meaning.specs.Definition.{no_version}
use Rattle.crd_admission.proofs.Tests.{both}

-- ---- what stands at a place, whatever the place is

allowed_of : (p : _) (j : Json) → stands p j ≡ true → is_allowed p j ≡ true
allowed_of p null h = h
allowed_of p (boolean b) h = h
allowed_of p (whole z) h = h
allowed_of p (text t) h = h
allowed_of p (list js) h = (both (is_allowed p (list js)) (cond (has_items p) (all_stand js) true) h).0
allowed_of p (object ms) h =
    (both (is_allowed p (object ms)) (cond (has_names p) (has_rows (rows p) ms && each_stands p ms) true) h).0

fields_stand : (p : _) (j : Json) (ms : Members) → j ≡ object ms → stands p j ≡ true → cond (has_names p) (has_rows (rows p) ms && each_stands p ms) true ≡ true
fields_stand p j ms e h =
    let same : stands p (object ms) ≡ true = subst (λ (i : Json). stands p i ≡ true) e h in
    (both (is_allowed p (object ms)) (cond (has_names p) (has_rows (rows p) ms && each_stands p ms) true) same).1

items_stand : (p : _) (j : Json) (js : Items) → j ≡ list js → stands p j ≡ true → cond (has_items p) (all_stand js) true ≡ true
items_stand p j js e h =
    let same : stands p (list js) ≡ true = subst (λ (i : Json). stands p i ≡ true) e h in
    (both (is_allowed p (list js)) (cond (has_items p) (all_stand js) true) same).1

both_stand : (p : _) (j : Json) (b : Bool) → (stands p j && b) ≡ true → (stands p j ≡ true) × (b ≡ true)
both_stand p j b h = both (stands p j) b h

-- ---- the value at a name of an object

stands_at : (p : _) (ms : Members) (n : List ℕ) (i : Json) → each_stands p ms ≡ true → value_at n ms ≡ Some i → stands (place_in p n) i ≡ true
stands_at p no_members n i h e = absurd (cc)
stands_at p (member k j ms) n i h e =
    let u = both (stands (place_in p k) j) (each_stands p ms) h in
    by_test (is_name n k) refl e u.0 (λ q. stands_at p ms n i u.1 q)
  where
    by_test : (b : Bool) → is_name n k ≡ b → cond b (Some j) (value_at n ms) ≡ Some i → stands (place_in p k) j ≡ true → (value_at n ms ≡ Some i → stands (place_in p n) i ≡ true) → stands (place_in p n) i ≡ true
    by_test true t q s later =
        let same : j ≡ i = cc in
        subst (λ (x : Json). stands (place_in p n) x ≡ true) same (subst (λ (m : List ℕ). stands (place_in p m) j ≡ true) (sym (one_name n k t)) s)
    by_test false t q s later = later q

some_value : (o : Option Json) → is_some o ≡ true → (i : Json) × (o ≡ Some i)
some_value None h = absurd (cc)
some_value (Some i) h = (i, refl)

abbrev there : List ℕ → Members → Bool
there n ms = is_some (value_at n ms)

-- the first of some tests of names, and the others
first : (n : List ℕ) (ms : Members) (b : Bool) → (there n ms && b) ≡ true → (i : Json) × (value_at n ms ≡ Some i)
first n ms b h = some_value (value_at n ms) (both (there n ms) b h).0

later : (n : List ℕ) (ms : Members) (b : Bool) → (there n ms && b) ≡ true → b ≡ true
later n ms b h = (both (there n ms) b h).1

-- ---- values of a kind

object_of_value : (j : Json) → is_object_value j ≡ true → (ms : Members) × (j ≡ object ms)
object_of_value null h = absurd (cc)
object_of_value (boolean b) h = absurd (cc)
object_of_value (whole z) h = absurd (cc)
object_of_value (text t) h = absurd (cc)
object_of_value (list js) h = absurd (cc)
object_of_value (object ms) h = (ms, refl)

list_of_value : (j : Json) → is_few j ≡ true → (js : Items) × (j ≡ list js)
list_of_value null h = absurd (cc)
list_of_value (boolean b) h = absurd (cc)
list_of_value (whole z) h = absurd (cc)
list_of_value (text t) h = absurd (cc)
list_of_value (list js) h = (js, refl)
list_of_value (object ms) h = absurd (cc)

text_of_value : (j : Json) → is_text_of is_namespace j ≡ true → is_namespace (text_in (Some j)) ≡ true
text_of_value null h = absurd (cc)
text_of_value (boolean b) h = absurd (cc)
text_of_value (whole z) h = absurd (cc)
text_of_value (text t) h = h
text_of_value (list js) h = absurd (cc)
text_of_value (object ms) h = absurd (cc)

same_inside : (w : _) (o p : Option Json) → o ≡ p → items_in (inside w o) ≡ items_in (inside w p)
same_inside w o p e = ap (λ (x : Option Json). items_in (inside w x)) e

-- documents of one `spec` have the same versions
same_spec : (j k : Json) → spec_in j ≡ spec_in k → version_items j ≡ version_items k
same_spec j k e = same_inside _ (spec_in j) (spec_in k) e

-- ---- the name of a version

version_label : (j : Json) (js : Items) → all_stand (item j js) ≡ true → is_namespace (version_read j).name ≡ true
unfolding spelled
version_label j js h =
    let s = both_stand _ j (all_stand js) h in
    let o = object_of_value j (allowed_of _ j s.0) in
    let ms = o.0 in
    let f = fields_stand _ j ms o.1 s.0 in
    let rest = there (codes "schema") ms && (there (codes "served") ms && (there (codes "storage") ms && true)) in
    let u = both (there (codes "name") ms && rest) _ f in
    let n = first (codes "name") ms rest u.0 in
    let l = stands_at _ ms (codes "name") n.0 u.1 n.1 in
    let here : is_namespace (text_in (value_at (codes "name") ms)) ≡ true = subst (λ (x : Option Json). is_namespace (text_in x) ≡ true) (sym n.1) (text_of_value n.0 (allowed_of _ n.0 l)) in
    subst (λ (i : Json). is_namespace (version_read i).name ≡ true) (sym o.1) here

labels : (js : Items) (v : ℕ) → all_stand js ≡ true → v < length (versions_read js) → is_namespace (slice_index_or (versions_read js) v no_version).name ≡ true
labels no_items v h p = absurd (omega arith)
labels (item j js) zero h p = version_label j js h
labels (item j js) (suc v) h p = labels js v (both_stand _ j (all_stand js) h).1 (omega (arith, p))

-- ---- the versions of a document

-- a document of nothing but its `spec`
abbrev alone_in : Json → Json
alone_in spec = object (member (codes "spec") spec no_members)

in_document : (j : Json) → IsDefinition j → all_stand (version_items j) ≡ true
unfolding spelled
in_document j d =
    let o = object_of_value j (allowed_of _ j d.stands) in
    let f = fields_stand _ j o.0 o.1 d.stands in
    let a2 = there (codes "spec") o.0 && true in
    let a1 = there (codes "metadata") o.0 && a2 in
    let a0 = there (codes "kind") o.0 && a1 in
    let u = both (there (codes "apiVersion") o.0 && a0) _ f in
    let s = first (codes "spec") o.0 true (later (codes "metadata") o.0 a2 (later (codes "kind") o.0 a1 (later (codes "apiVersion") o.0 a0 u.0))) in
    let at_spec = stands_at _ o.0 (codes "spec") s.0 u.1 s.1 in
    let p = object_of_value s.0 (allowed_of _ s.0 at_spec) in
    let g = fields_stand _ s.0 p.0 p.1 at_spec in
    let b2 = there (codes "versions") p.0 && true in
    let b1 = there (codes "scope") p.0 && b2 in
    let b0 = there (codes "names") p.0 && b1 in
    let w = both (there (codes "group") p.0 && b0) _ g in
    let v = first (codes "versions") p.0 true (later (codes "scope") p.0 b2 (later (codes "names") p.0 b1 (later (codes "group") p.0 b0 w.0))) in
    let at_versions = stands_at _ p.0 (codes "versions") v.0 w.1 v.1 in
    let l = list_of_value v.0 (allowed_of _ v.0 at_versions) in
    let all = items_stand _ v.0 l.0 l.1 at_versions in
    let here : all_stand (items_in (value_at (codes "versions") p.0)) ≡ true = subst (λ (x : Option Json). all_stand (items_in x) ≡ true) (sym (v.1 ∙ ap Some l.1)) all in
    let of_spec : all_stand (version_items (alone_in s.0)) ≡ true = subst (λ (i : Json). all_stand (version_items (alone_in i)) ≡ true) (sym p.1) here in
    let spec : spec_in j ≡ Some s.0 = ap spec_in o.1 ∙ s.1 in
    subst (λ (k : Items). all_stand k ≡ true) (sym (same_spec j (alone_in s.0) spec)) of_spec

pub name_label : (d : DefinitionView) → IsWholeDefinition d → (v : ℕ) → v < length d.versions → is_namespace (slice_index_or d.versions v no_version).name ≡ true
name_label d w v p =
    let j = w.spelled.0 in
    let same : versions_read (version_items j) ≡ d.versions = ap (λ (e : DefinitionView). e.versions) w.spelled.2 in
    subst (λ (vs : List VersionView). v < length vs → is_namespace (slice_index_or vs v no_version).name ≡ true) same (λ q. labels (version_items j) v (in_document j w.spelled.1) q) p
