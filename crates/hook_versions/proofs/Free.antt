-- A filled body leaves the three names of every object to the object's own values.
use Rattle.std.proofs.Common.{◌≡◌, ◌∙◌, ℕ, ◌<◌, List, [], ◌∷◌, length, Bool, true, false, cond, Option, Some, None, Ordering, Less, Equal, Greater, nat_cmp, is_eq, refl, ap, sym, subst}
use Rattle.std.specs.Prelude.{MatchBool, codes, slice_index_or}
use Rattle.std.specs.Cmp.Lexicographic.{slice_cmp}
use Rattle.std.proofs.lemmas.Cmp.{nat_list_cmp_total}
use Rattle.kj_value.specs.Json.{Json, null, boolean, whole, text, list, object, Members, members_of}
use Rattle.kj_value.specs.KindLaws.{members_pairs}
use Rattle.kj_value.specs.Fields.{Pairs, field, without_field}
use Rattle.kj_value.specs.Sound.{ComesFirst, AreRising, IsSoundJson}
use Rattle.kube_meta.specs.View.{ObjectView}
use Rattle.object_reading.specs.Fields.{pairs_of}
use Rattle.object_reading.specs.Parts.{body_in, object_in}
use Rattle.object_reading.specs.Written.{IsBody}
use Rattle.object_reading.proofs.Gone.{field-gone}
use Rattle.object_reading.proofs.Left.{field-without_other}
use Rattle.struct_schema.specs.Shape.{Shape, shape, own, properties, Shapes, no_shapes, shape_at, MaybeShapes, no_map, some_map, MaybeShape, no_shape, some_shape}
use Rattle.struct_schema.specs.Names.{is_name, value_at, shape_named, property}
use Rattle.struct_schema.specs.Filled.{is_object, PropertyFilled, AtEachName, Filled, NameFilled, NamedFilled, RestFilled}
use Rattle.crd_reading.specs.View.{DefinitionView}
use Rattle.crd_reading.specs.Spelled.{version_items}
use Rattle.crd_reading.specs.Whole.{IsWholeDefinition, HaveOwnDefaults, HaveSoundDefaults}
use Rattle.api_calls.specs.Meaning.{Request}
use Rattle.crd_meaning.specs.Definition.{Definition, IsRoot, no_version, version_at, count_of}
use Rattle.crd_meaning.specs.Admission.{IsFilling, Passes}
use Rattle.crd_meaning.proofs.ReadSound.{reads_sound}
use Rattle.crd_loading.proofs.Roots.{roots}

-- ---- a name that isn't there and has no schema stays away

value_field : (k : List ℕ) (es : Pairs) → value_at k (members_of es) ≡ field k es
value_field k [] = refl
value_field k (e ∷ es) =
    ap (λ (o : Option Json). cond (is_eq (slice_cmp nat_cmp k e.0)) (Some e.1) o) (value_field k es)

abbrev Relation : Type 1
Relation = Option Json → Option Json → Type 0

named_rest : (ss : Shapes) (R : Relation) (n : List ℕ) (v w : Option Json) → shape_named n ss ≡ no_shape → NamedFilled ss R n v w → R v w
named_rest no_shapes R n v w e h = h
named_rest (shape_at l s ss) R n v w e h = by_test (named_rest ss R n v w) (is_name n l) e h
  where
    by_test : (shape_named n ss ≡ no_shape → NamedFilled ss R n v w → R v w) → (b : Bool) → cond b (some_shape s) (shape_named n ss) ≡ no_shape
        → MatchBool b (PropertyFilled (own s) (λ x y. Filled s x y) v w) (NamedFilled ss R n v w) → R v w
    by_test more true e h = absurd (cc)
    by_test more false e h = more e h

map_rest : (ps : MaybeShapes) (R : Relation) (n : List ℕ) (v w : Option Json) → property n ps ≡ no_shape → NameFilled ps R n v w → R v w
map_rest no_map R n v w e h = h
map_rest (some_map ss) R n v w e h = named_rest ss R n v w e h

abbrev nothing : Option Json
nothing = None

nothing_left : (b : Bool) → cond b nothing nothing ≡ nothing
nothing_left true = refl
nothing_left false = refl

rest_none : (a : MaybeShape) (p : Bool) (v w : Option Json) → v ≡ None → RestFilled a p v w → w ≡ None
rest_none no_shape p v w e h = h ∙ ap (λ (u : Option Json). cond p u None) e ∙ nothing_left p
rest_none (some_shape s) p v w e h = by_value v e h
  where
    by_value : (v : Option Json) → v ≡ None → RestFilled (some_shape s) p v w → w ≡ None
    by_value None e h = h
    by_value (Some j) e h = absurd (cc)

same_members : (ms ns : Members) → object ms ≡ object ns → ms ≡ ns
same_members ms ns e = cc

stays_away : (s : Shape) (k : List ℕ) (x y : Pairs) → property k (properties s) ≡ no_shape → field k x ≡ None → Filled s (object (members_of x)) (object (members_of y)) → field k y ≡ None
stays_away (shape o ps a i) k x y e none f = by_kind (is_object o.kind) f
  where
    by_kind : (b : Bool) → MatchBool b (AtEachName (NameFilled ps (RestFilled a o.preserve)) (members_of x) (object (members_of y))) (object (members_of y) ≡ object (members_of x)) → field k y ≡ None
    by_kind true h =
        sym (value_field k y) ∙ rest_none a o.preserve (value_at k (members_of x)) (value_at k (members_of y)) (value_field k x ∙ none)
        (map_rest ps (RestFilled a o.preserve) k (value_at k (members_of x)) (value_at k (members_of y)) e (h k))
    by_kind false h = sym (value_field k y) ∙ ap (value_at k) (same_members (members_of y) (members_of x) h) ∙ value_field k x ∙ none

pub filled_free : (s : Shape) (x y : Pairs) → IsRoot s → IsBody x → IsFilling s x y → IsBody y
filled_free s x y root free f = record {
  api_version = stays_away s (codes "apiVersion") x y root.api_version free.api_version f.filled;
  kind = stays_away s (codes "kind") x y root.kind free.kind f.filled;
  metadata = stays_away s (codes "metadata") x y root.metadata free.metadata f.filled;
}

-- ---- the body of a document's object

comes_first-tail : (l : List ℕ) (e : List ℕ × Json) (es : Pairs) → ComesFirst l (members_of (e ∷ es)) → AreRising (members_of (e ∷ es)) → ComesFirst l (members_of es)
comes_first-tail l e [] p h = tt
comes_first-tail l e (f ∷ es) p h = nat_list_cmp_total.trans l e.0 f.0 p h.0

comes_first-without : (l k : List ℕ) (es : Pairs) → ComesFirst l (members_of es) → AreRising (members_of es) → ComesFirst l (members_of (without_field k es))
comes_first-without l k [] p h = tt
comes_first-without l k (e ∷ es) p h = by_order (slice_cmp nat_cmp k e.0)
  where
    by_order : (o : Ordering) → ComesFirst l (members_of (cond (is_eq o) es (e ∷ without_field k es)))
    by_order Less = p
    by_order Equal = comes_first-tail l e es p h
    by_order Greater = p

rising-without : (k : List ℕ) (es : Pairs) → AreRising (members_of es) → AreRising (members_of (without_field k es))
rising-without k [] h = tt
rising-without k (e ∷ es) h = by_order (rising-without k es h.2) (slice_cmp nat_cmp k e.0)
  where
    by_order : AreRising (members_of (without_field k es)) → (o : Ordering) → AreRising (members_of (cond (is_eq o) es (e ∷ without_field k es)))
    by_order r Less = (comes_first-without e.0 k es h.0 h.2, h.1, r)
    by_order r Equal = h.2
    by_order r Greater = (comes_first-without e.0 k es h.0 h.2, h.1, r)

body_free : (es : Pairs) → AreRising (members_of es) → IsBody (body_in es)
body_free es h =
    let no_meta = rising-without (codes "metadata") es h in
    let no_kind = rising-without (codes "kind") (without_field (codes "metadata") es) no_meta in
    let bare = without_field (codes "kind") (without_field (codes "metadata") es) in record {
      api_version = field-gone (codes "apiVersion") bare no_kind;
      kind = field-without_other (codes "kind") (codes "apiVersion") bare refl ∙ field-gone (codes "kind") (without_field (codes "metadata") es) no_meta;
      metadata =
          field-without_other (codes "metadata") (codes "apiVersion") bare refl
          ∙ field-without_other (codes "metadata") (codes "kind") (without_field (codes "metadata") es) refl
          ∙ field-gone (codes "metadata") es h;
    }

object_free : (j : Json) → IsSoundJson j → IsBody (object_in j).body
object_free null h = body_free [] tt
object_free (boolean b) h = body_free [] tt
object_free (whole z) h = body_free [] tt
object_free (text s) h = body_free [] tt
object_free (list js) h = body_free [] tt
object_free (object ms) h = body_free (pairs_of ms) (subst AreRising (sym (members_pairs ms)) h)

-- ---- the schemas of a definition

root_at : (d : DefinitionView) (v : ℕ) → IsWholeDefinition d → v < length d.versions → IsRoot (slice_index_or d.versions v no_version).schema
root_at d v w known =
    let spelled = w.spelled in
    subst (λ (e : DefinitionView). HaveOwnDefaults e.versions → HaveSoundDefaults e.versions → v < length e.versions → IsRoot (slice_index_or e.versions v no_version).schema)
    spelled.2 (roots (version_items spelled.0) v) w.defaults w.sound known

pub passes_free : (d : Definition) (r : Request) (x : ObjectView) (e : Option ℕ) → IsWholeDefinition d.view → r.version < count_of d → Passes d r x e → IsBody x.body
passes_free d r x e w known p =
    let sound = reads_sound r.bytes _ p.is.value p.is.reads in
    let taken : IsBody p.taken.body = subst (λ (o : ObjectView). IsBody o.body) (sym p.is.object) (object_free p.is.value sound) in
    filled_free (version_at d r.version).schema p.taken.body x.body (root_at d.view r.version w known) taken p.filling
