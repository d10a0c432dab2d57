-- What a document of which nothing is refused spells is whole.
use Rattle.std.proofs.Common.{◌≡◌, ℕ, suc, List, [], ◌∷◌, ◌++◌, length, map, Bool, true, false, ◌&&◌, cond, nat_le, Option, Some, None, inl, inr, leb-true, refl, ap, sym, subst, ◌∙◌}
use Rattle.std.specs.Prelude.{is_some}
use Rattle.kj_value.specs.Json.{Json, null, boolean, whole, text, list, object, Items, no_items, item, Members, no_members, member}
use Rattle.struct_schema.specs.Names.{is_name, value_at}
use Rattle.struct_schema.specs.Keywords.{item_count}
use Rattle.struct_schema.specs.ShapeOf.{shape_of}
use Rattle.struct_schema.specs.OwnDefaults.{HasOwnDefaults}
use Rattle.struct_schema.specs.laws.NameLaws.{one_name}
use Rattle.crd_reading.specs.Words.{spelled}
use Rattle.crd_reading.specs.Table.{must, rows, place_in}
use Rattle.crd_reading.specs.Allowed.{are_few, is_allowed}
use Rattle.crd_reading.specs.Seen.{version_of}
use Rattle.crd_reading.specs.Spelled.{inside, items_in, versions_read, version_items, definition_read}
use Rattle.crd_reading.specs.Accepted.{has_rows, stands, each_stands, IsDefinition}
use Rattle.crd_reading.specs.Whole.{HaveOwnDefaults, HaveSoundDefaults, IsWholeDefinition}
use Rattle.crd_reading.specs.declared.definition.Version.{Version}
use Rattle.crd_reading.specs.declared.words.Word.{Word}
use Rattle.crd_reading.specs.declared.words.Word.TheVariants.{Spec, Versions}
use Rattle.crd_reading.specs.declared.places.Place.{Place}
use Rattle.crd_reading.specs.declared.places.Place.TheVariants.{Document, SpecObject, VersionList}
use Rattle.crd_reading.specs.declared.places.TheConstants.{MIN_VERSIONS, MAX_VERSIONS}
use Rattle.crd_reading.proofs.Nones.{both}
use Rattle.crd_reading.proofs.Rows.{In, there_rows}

-- ---- a value at a name of an object that stands at its place

stands_at : (p : Place) (ms : Members) (n : List ℕ) (i : Json) → each_stands p ms ≡ true → value_at n ms ≡ Some i → stands (place_in p n) i ≡ true
stands_at p no_members n i h e = absurd (cc)
stands_at p (member k j ms) n i h e =
    let u = both (stands (place_in p k) j) (each_stands p ms) h in
    by_test (is_name n k) refl e u.0 (λ q. stands_at p ms n i u.1 q)
  where
    by_test : (b : Bool) → is_name n k ≡ b → cond b (Some j) (value_at n ms) ≡ Some i → stands (place_in p k) j ≡ true → (value_at n ms ≡ Some i → stands (place_in p n) i ≡ true) → stands (place_in p n) i ≡ true
    by_test true t q s later =
        let same : j ≡ i = cc in
        subst (λ (x : Json). stands (place_in p n) x ≡ true) same (subst (λ (m : List ℕ). stands (place_in p m) j ≡ true) (sym (one_name n k t)) s)
    by_test false t q s later = later q

some_value : (o : Option Json) → is_some o ≡ true → (i : Json) × (o ≡ Some i)
some_value None h = absurd (cc)
some_value (Some i) h = (i, refl)

-- what stands at a name that must be there
value_of : (p q : Place) (w : Word) (ms : Members) → In (must w q) (rows p) → (has_rows (rows p) ms && each_stands p ms) ≡ true → place_in p (spelled w) ≡ q → (i : Json) × (value_at (spelled w) ms ≡ Some i) × (stands q i ≡ true)
value_of p q w ms i h e =
    let u = both (has_rows (rows p) ms) (each_stands p ms) h in
    let v = some_value (value_at (spelled w) ms) (there_rows ms (rows p) u.0 (must w q) i refl) in
    (v.0, v.1, subst (λ (x : Place). stands x v.0 ≡ true) e (stands_at p ms (spelled w) v.0 u.1 v.1))

spec_place : place_in Document (spelled Spec) ≡ SpecObject
unfolding spelled
spec_place = refl

versions_place : place_in SpecObject (spelled Versions) ≡ VersionList
unfolding spelled
versions_place = refl

-- ---- how many versions there are

length-versions_read : (js : Items) → length (versions_read js) ≡ item_count js
length-versions_read no_items = refl
length-versions_read (item j js) = ap suc (length-versions_read js)

few_items : (o : Option Json) (i : Json) → o ≡ Some i → stands VersionList i ≡ true → are_few (item_count (items_in o)) ≡ true
few_items o null e h = absurd (cc)
few_items o (boolean b) e h = absurd (cc)
few_items o (whole z) e h = absurd (cc)
few_items o (text t) e h = absurd (cc)
few_items o (list js) e h = rw e (both (is_allowed VersionList (list js)) _ h).0
few_items o (object ms) e h = absurd (cc)

few_in_spec : (o : Option Json) (i : Json) → o ≡ Some i → stands SpecObject i ≡ true → are_few (item_count (items_in (inside Versions o))) ≡ true
few_in_spec o null e h = absurd (cc)
few_in_spec o (boolean b) e h = absurd (cc)
few_in_spec o (whole z) e h = absurd (cc)
few_in_spec o (text t) e h = absurd (cc)
few_in_spec o (list js) e h = absurd (cc)
few_in_spec o (object ms) e h =
    let v = value_of SpecObject VersionList Versions ms (inr (inr (inr (inr (inr (inl refl)))))) h versions_place in
    rw e (few_items (value_at (spelled Versions) ms) v.0 v.1 v.2)

few_in : (j : Json) → stands Document j ≡ true → are_few (item_count (version_items j)) ≡ true
few_in null h = absurd (cc)
few_in (boolean b) h = absurd (cc)
few_in (whole z) h = absurd (cc)
few_in (text t) h = absurd (cc)
few_in (list js) h = absurd (cc)
few_in (object ms) h =
    let v = value_of Document SpecObject Spec ms (inr (inr (inr (inl refl)))) h spec_place in
    few_in_spec (value_at (spelled Spec) ms) v.0 v.1 v.2

pub whole_of : (j : Json) → IsDefinition j → HaveOwnDefaults (definition_read j).versions → HaveSoundDefaults (definition_read j).versions → IsWholeDefinition (definition_read j)
whole_of j d own sound =
    let few : are_few (length (definition_read j).versions) ≡ true = ap are_few (length-versions_read (version_items j)) ∙ few_in j d.stands in
    let u = both (nat_le MIN_VERSIONS (length (definition_read j).versions)) (nat_le (length (definition_read j).versions) MAX_VERSIONS) few in
    record {
      spelled = (j, d, refl);
      offered = d.offered;
      least = leb-true MIN_VERSIONS (length (definition_read j).versions) u.0;
      most = leb-true (length (definition_read j).versions) MAX_VERSIONS u.1;
      defaults = own;
      sound = sound;
    }

-- ---- own defaults of versions, one by one

pub defaults_push : (vs : List Version) (v : Version) → HaveOwnDefaults (map version_of vs) → HasOwnDefaults (shape_of v.schema) → HaveOwnDefaults (map version_of (vs ++ v ∷ []))
defaults_push [] v h k = (k, tt)
defaults_push (x ∷ vs) v h k = (h.0, defaults_push vs v h.1 k)
