-- Lemmas: what the document of an object of the definition holds.
use Rattle.std.proofs.Common.{◌≡◌, ◌∙◌, ℕ, ◌≤◌, List, [], ◌∷◌, ◌++◌, Option, Some, None, Bool, true, false, cond, Less, nat_cmp, map, append_assoc, append-nil, lit≤, subst, ap, sym, refl}
use Rattle.std.specs.Prelude.{ℤ, pos, option_map, codes, FitsSigned}
use Rattle.std.specs.Int.{w64}
use Rattle.std.specs.Ordering.{int_eq}
use Rattle.std.specs.Cmp.Lexicographic.{slice_cmp}
use Rattle.std.specs.BTreeMap.{is_at}
use Rattle.std.proofs.lemmas.Cmp.{nat_list_cmp_total}
use Rattle.kj_value.specs.Json.{Json, whole, text, object, Members, member, members_of, depth, members_depth}
use Rattle.kj_value.specs.Sound.{IsSoundJson, AreRising, ComesFirst}
use Rattle.kj_value.specs.Fields.{Pairs, field, with_field, NamesRise}
use Rattle.kube_meta.specs.Document.{optional, some_text, some_generation, metadata, document}
use Rattle.versions_fixture.specs.Parts.{PartsView, meta_at, body_at, object_at, api_version, kind, field_name}
use Rattle.versions_fixture.specs.declared.parts.Version.{Version}
use Rattle.versions_fixture.specs.declared.parts.Version.TheVariants.{V1, V1beta1}

-- ---- fields that may be absent

abbrev Table : Type 0
Table = List (List ℕ × Option Json)

abbrev given : Table → Pairs
given [] = []
given (t ∷ ts) = optional t.0 t.1 ++ given ts

abbrev names : Table → List (List ℕ)
names ts = map (λ t. t.0) ts

abbrev either_of : Option Json → Option Json → Option Json
either_of None o = o
either_of (Some j) o = Some j

either-none : (o : Option Json) → either_of o None ≡ o
either-none None = refl
either-none (Some j) = refl

abbrev first : List ℕ → Table → Option Json
first k [] = None
first k (t ∷ ts) = cond (is_at (slice_cmp nat_cmp k) t.0) (either_of t.1 (first k ts)) (first k ts)

field-given : (k : List ℕ) (ts : Table) → field k (given ts) ≡ first k ts
field-given k [] = refl
field-given k (t ∷ ts) = by_value t.1 (is_at (slice_cmp nat_cmp k) t.0) refl (field-given k ts)
  where
    by_value : (o : Option Json) (b : Bool) → is_at (slice_cmp nat_cmp k) t.0 ≡ b → field k (given ts) ≡ first k ts
        → field k (optional t.0 o ++ given ts) ≡ cond b (either_of o (first k ts)) (first k ts)
    by_value None true p more = more
    by_value None false p more = more
    by_value (Some j) true p more = rw p refl
    by_value (Some j) false p more = rw p more

abbrev table : PartsView → Table
table p = (codes "creationTimestamp", option_map text p.created)
    ∷ (codes "deletionTimestamp", option_map text p.deleted)
    ∷ (codes "generation", some_generation p.generation)
    ∷ (codes "name", some_text p.name)
    ∷ (codes "namespace", some_text p.namespace)
    ∷ []

five : (c d g n s : Pairs) → c ++ d ++ [] ++ g ++ [] ++ n ++ s ++ [] ++ [] ++ [] ≡ c ++ (d ++ (g ++ (n ++ (s ++ []))))
five c d g n s = simp (append_assoc, append-nil)

metadata-given : (p : PartsView) → metadata (meta_at p) ≡ given (table p)
unfolding metadata
metadata-given p = five
    (optional (codes "creationTimestamp") (option_map text p.created))
    (optional (codes "deletionTimestamp") (option_map text p.deleted))
    (optional (codes "generation") (some_generation p.generation))
    (optional (codes "name") (some_text p.name))
    (optional (codes "namespace") (some_text p.namespace))

pub field-created : (p : PartsView) → field (codes "creationTimestamp") (metadata (meta_at p)) ≡ option_map text p.created
field-created p = ap (field (codes "creationTimestamp")) (metadata-given p) ∙ field-given (codes "creationTimestamp") (table p) ∙ either-none (option_map text p.created)

pub field-deleted : (p : PartsView) → field (codes "deletionTimestamp") (metadata (meta_at p)) ≡ option_map text p.deleted
field-deleted p = ap (field (codes "deletionTimestamp")) (metadata-given p) ∙ field-given (codes "deletionTimestamp") (table p) ∙ either-none (option_map text p.deleted)

pub field-generation : (p : PartsView) → field (codes "generation") (metadata (meta_at p)) ≡ some_generation p.generation
field-generation p = ap (field (codes "generation")) (metadata-given p) ∙ field-given (codes "generation") (table p) ∙ either-none (some_generation p.generation)

pub field-name : (p : PartsView) → field (codes "name") (metadata (meta_at p)) ≡ some_text p.name
field-name p = ap (field (codes "name")) (metadata-given p) ∙ field-given (codes "name") (table p) ∙ either-none (some_text p.name)

pub field-namespace : (p : PartsView) → field (codes "namespace") (metadata (meta_at p)) ≡ some_text p.namespace
field-namespace p = ap (field (codes "namespace")) (metadata-given p) ∙ field-given (codes "namespace") (table p) ∙ either-none (some_text p.namespace)

-- ---- the document's fields

abbrev pub over : Version → Json → Option (List ℕ) → Pairs
over v m value = with_field (codes "metadata") m (with_field (codes "kind") (text kind) (with_field (codes "apiVersion") (text (api_version v)) (body_at v value)))

abbrev pub fields : Version → PartsView → Pairs
fields v p = over v (object (members_of (metadata (meta_at p)))) p.value

pub document-fields : (v : Version) (p : PartsView) → document (object_at v p) ≡ object (members_of (fields v p))
unfolding document
document-fields v p = refl

field-over : (v : Version) (m : Json) (value : Option (List ℕ)) → field (codes "metadata") (over v m value) ≡ Some m
field-over V1 m None = refl
field-over V1 m (Some x) = refl
field-over V1beta1 m None = refl
field-over V1beta1 m (Some x) = refl

value-over : (v : Version) (m : Json) (value : Option (List ℕ)) → field (field_name v) (over v m value) ≡ option_map text value
value-over V1 m None = refl
value-over V1 m (Some x) = refl
value-over V1beta1 m None = refl
value-over V1beta1 m (Some x) = refl

pub field-metadata : (v : Version) (p : PartsView) → field (codes "metadata") (fields v p) ≡ Some (object (members_of (metadata (meta_at p))))
field-metadata v p = field-over v _ p.value

pub field-value : (v : Version) (p : PartsView) → field (field_name v) (fields v p) ≡ option_map text p.value
field-value v p = value-over v _ p.value

-- ---- an object's fields are those of its list

member_name : (k l : List ℕ) (i j : Json) (ms ns : Members) → member k i ms ≡ member l j ns → k ≡ l
member_name k l i j ms ns e = cc

member_value : (k l : List ℕ) (i j : Json) (ms ns : Members) → member k i ms ≡ member l j ns → i ≡ j
member_value k l i j ms ns e = cc

member_rest : (k l : List ℕ) (i j : Json) (ms ns : Members) → member k i ms ≡ member l j ns → ms ≡ ns
member_rest k l i j ms ns e = cc

members_one : (es fs : Pairs) → members_of es ≡ members_of fs → es ≡ fs
members_one [] [] e = refl
members_one [] (f ∷ fs) e = cc
members_one (p ∷ es) [] e = cc
members_one (p ∷ es) (q ∷ fs) e =
    ap (λ (k : List ℕ). (k, p.1) ∷ es) (member_name _ _ _ _ _ _ e)
    ∙ ap (λ (j : Json). (q.0, j) ∷ es) (member_value _ _ _ _ _ _ e)
    ∙ ap (λ (r : Pairs). q ∷ r) (members_one es fs (member_rest _ _ _ _ _ _ e))

object_members : (ms ns : Members) → object ms ≡ object ns → ms ≡ ns
object_members ms ns e = cc

pub object_one : (es fs : Pairs) → object (members_of es) ≡ object (members_of fs) → es ≡ fs
object_one es fs e = members_one es fs (object_members _ _ e)

some_json : (i j : Json) → Some i ≡ Some j → i ≡ j
some_json i j e = cc

pub some_object_one : (es fs : Pairs) → Some (object (members_of es)) ≡ Some (object (members_of fs)) → es ≡ fs
some_object_one es fs e = object_one es fs (some_json _ _ e)

text_is : (s t : List ℕ) → text s ≡ text t → s ≡ t
text_is s t e = cc

pub some_text_one : (s t : List ℕ) → some_text s ≡ some_text t → s ≡ t
some_text_one [] [] e = refl
some_text_one [] (b ∷ bs) e = cc
some_text_one (b ∷ bs) [] e = cc
some_text_one (b ∷ bs) (c ∷ cs) e = text_is _ _ (some_json _ _ e)

pub texts_one : (a b : Option (List ℕ)) → option_map text a ≡ option_map text b → a ≡ b
texts_one None None e = refl
texts_one None (Some t) e = cc
texts_one (Some s) None e = cc
texts_one (Some s) (Some t) e = ap Some (text_is s t (some_json _ _ e))

pub document_name : (v : Version) (p q : PartsView) → document (object_at v p) ≡ document (object_at v q) → p.name ≡ q.name
document_name v p q e =
    let same : fields v p ≡ fields v q = object_one _ _ (sym (document-fields v p) ∙ e ∙ document-fields v q) in
    let metas : metadata (meta_at p) ≡ metadata (meta_at q) =
    some_object_one _ _ (sym (field-metadata v p) ∙ ap (field (codes "metadata")) same ∙ field-metadata v q) in
    some_text_one _ _ (sym (field-name p) ∙ ap (field (codes "name")) metas ∙ field-name q)

pub document_value : (v : Version) (p q : PartsView) → document (object_at v p) ≡ document (object_at v q) → p.value ≡ q.value
document_value v p q e =
    let same : fields v p ≡ fields v q = object_one _ _ (sym (document-fields v p) ∙ e ∙ document-fields v q) in
    texts_one _ _ (sym (field-value v p) ∙ ap (field (field_name v)) same ∙ field-value v q)

-- ---- depth

abbrev IsFlat : Option Json → Type 0
IsFlat None = Unit {0}
IsFlat (Some j) = depth j ≡ 0

abbrev AreFlat : Table → Type 0
AreFlat [] = Unit {0}
AreFlat (t ∷ ts) = IsFlat t.1 × AreFlat ts

flat-given : (ts : Table) → AreFlat ts → members_depth (members_of (given ts)) ≡ 0
flat-given [] h = refl
flat-given (t ∷ ts) h = by_value t.1 h.0 (flat-given ts h.1)
  where
    by_value : (o : Option Json) → IsFlat o → members_depth (members_of (given ts)) ≡ 0 → members_depth (members_of (optional t.0 o ++ given ts)) ≡ 0
    by_value None f more = more
    by_value (Some j) f more = rw (f, more) refl

flat-text : (o : Option (List ℕ)) → IsFlat (option_map text o)
flat-text None = tt
flat-text (Some s) = refl

flat-some_text : (s : List ℕ) → IsFlat (some_text s)
flat-some_text [] = tt
flat-some_text (b ∷ bs) = refl

flat-generation : (z : ℤ) → IsFlat (some_generation z)
flat-generation z = by_test (int_eq z (pos 0))
  where
    by_test : (b : Bool) → IsFlat (cond b None (Some (whole z)))
    by_test true = tt
    by_test false = refl

flat-metadata : (p : PartsView) → members_depth (members_of (metadata (meta_at p))) ≡ 0
flat-metadata p = ap (λ (es : Pairs). members_depth (members_of es)) (metadata-given p)
    ∙ flat-given (table p) (flat-text p.created, (flat-text p.deleted, (flat-generation p.generation, (flat-some_text p.name, (flat-some_text p.namespace, tt)))))

depth-over : (v : Version) (ms : Members) (value : Option (List ℕ)) → members_depth ms ≡ 0 → depth (object (members_of (over v (object ms) value))) ≤ 64
depth-over V1 ms None h = rw h (lit≤ tt)
depth-over V1 ms (Some x) h = rw h (lit≤ tt)
depth-over V1beta1 ms None h = rw h (lit≤ tt)
depth-over V1beta1 ms (Some x) h = rw h (lit≤ tt)

pub depth-document : (v : Version) (p : PartsView) → depth (document (object_at v p)) ≤ 64
depth-document v p = rw (document-fields v p) (depth-over v (members_of (metadata (meta_at p))) p.value (flat-metadata p))

-- ---- soundness

abbrev IsSoundOption : Option Json → Type 0
IsSoundOption None = Unit {0}
IsSoundOption (Some j) = IsSoundJson j

abbrev AreSoundOptions : Table → Type 0
AreSoundOptions [] = Unit {0}
AreSoundOptions (t ∷ ts) = IsSoundOption t.1 × AreSoundOptions ts

next_below : (n k : List ℕ) (s : Table) → slice_cmp nat_cmp n k ≡ Less → NamesRise (k ∷ names s) → NamesRise (n ∷ names s)
next_below n k [] below rise = (tt, tt)
next_below n k (q ∷ t) below rise = (nat_list_cmp_total.trans n k q.0 below rise.0, rise.1)

first-given : (n : List ℕ) (ts : Table) → NamesRise (n ∷ names ts) → ComesFirst n (members_of (given ts))
first-given n [] h = tt
first-given n (t ∷ ts) h = by_value t.1 (first-given n ts (next_below n t.0 ts h.0 h.1))
  where
    by_value : (o : Option Json) → ComesFirst n (members_of (given ts)) → ComesFirst n (members_of (optional t.0 o ++ given ts))
    by_value None more = more
    by_value (Some j) more = h.0

rising-given : (ts : Table) → NamesRise (names ts) → AreSoundOptions ts → AreRising (members_of (given ts))
rising-given [] h s = tt
rising-given (t ∷ ts) h s = by_value t.1 s.0 (first-given t.0 ts h) (rising-given ts h.1 s.1)
  where
    by_value : (o : Option Json) → IsSoundOption o → ComesFirst t.0 (members_of (given ts)) → AreRising (members_of (given ts)) → AreRising (members_of (optional t.0 o ++ given ts))
    by_value None f below more = more
    by_value (Some j) f below more = (below, f, more)

sound-text : (o : Option (List ℕ)) → IsSoundOption (option_map text o)
sound-text None = tt
sound-text (Some s) = tt

sound-some_text : (s : List ℕ) → IsSoundOption (some_text s)
sound-some_text [] = tt
sound-some_text (b ∷ bs) = tt

sound-generation : (z : ℤ) → FitsSigned w64 z → IsSoundOption (some_generation z)
sound-generation z h = by_test (int_eq z (pos 0))
  where
    by_test : (b : Bool) → IsSoundOption (cond b None (Some (whole z)))
    by_test true = tt
    by_test false = h

rising-metadata : (p : PartsView) → FitsSigned w64 p.generation → AreRising (members_of (metadata (meta_at p)))
rising-metadata p h = subst (λ (es : Pairs). AreRising (members_of es)) (sym (metadata-given p))
    (rising-given (table p) (refl, (refl, (refl, (refl, (tt, tt)))))
    (sound-text p.created, (sound-text p.deleted, (sound-generation p.generation h, (sound-some_text p.name, (sound-some_text p.namespace, tt))))))

sound-over : (v : Version) (ms : Members) (value : Option (List ℕ)) → AreRising ms → IsSoundJson (object (members_of (over v (object ms) value)))
sound-over V1 ms None h = (refl, tt, (refl, tt, (tt, h, tt)))
sound-over V1 ms (Some x) h = (refl, tt, (refl, tt, (refl, tt, (tt, h, tt))))
sound-over V1beta1 ms None h = (refl, tt, (refl, tt, (tt, h, tt)))
sound-over V1beta1 ms (Some x) h = (refl, tt, (refl, tt, (refl, tt, (tt, h, tt))))

pub sound-document : (v : Version) (p : PartsView) → FitsSigned w64 p.generation → IsSoundJson (document (object_at v p))
sound-document v p h = rw (document-fields v p) (sound-over v (members_of (metadata (meta_at p))) p.value (rising-metadata p h))
