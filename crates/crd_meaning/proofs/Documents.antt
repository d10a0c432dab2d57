-- The document of an object is sound, and as deep as its parts make it.
use Rattle.std.proofs.Common.{◌≡◌, ◌∙◌, ℕ, suc, ◌≤◌, max, List, [], ◌∷◌, ◌++◌, Option, Some, None, Bool, true, false, cond, Less, Equal, Greater, Ordering, nat_cmp, map, append_assoc, append-nil, refl, ap, sym, subst, arith}
use Rattle.std.specs.Prelude.{ℤ, pos, option_map, codes, FitsSigned}
use Rattle.std.specs.Int.{w64}
use Rattle.std.specs.Ordering.{int_eq, match_ordering, ordering_reverse}
use Rattle.std.specs.Cmp.Lexicographic.{slice_cmp}
use Rattle.std.proofs.lemmas.Cmp.{nat_list_cmp_total}
use Rattle.kj_value.specs.Json.{Json, whole, text, list, object, items_of, members_of, depth, items_depth, members_depth}
use Rattle.kj_value.specs.Sound.{IsSoundJson, AreSoundItems, AreRising, ComesFirst}
use Rattle.kj_value.specs.Fields.{Pairs, with_field, NamesRise, AreInOrder}
use Rattle.kube_meta.specs.View.{Texts, MetaView, ObjectView}
use Rattle.kube_meta.specs.Document.{optional, some_text, text_fields, some_texts, some_list, some_generation, metadata, document}
use Rattle.keep_laws.specs.Notes.{IsObject}
use Rattle.crd_meaning.specs.Objects.{IsMeta}

-- ---- a field put at its place

greater_less : (k l : List ℕ) → slice_cmp nat_cmp k l ≡ Greater → slice_cmp nat_cmp l k ≡ Less
greater_less k l e = nat_list_cmp_total.antisymm l k ∙ ap ordering_reverse e

comes_first-with : (l k : List ℕ) (v : Json) (es : Pairs) → slice_cmp nat_cmp l k ≡ Less → ComesFirst l (members_of es) → ComesFirst l (members_of (with_field k v es))
comes_first-with l k v [] p h = p
comes_first-with l k v (e ∷ es) p h = by_order (slice_cmp nat_cmp k e.0)
  where
    by_order : (o : Ordering) → ComesFirst l (members_of (match_ordering o ((k, v) ∷ e ∷ es) ((e.0, v) ∷ es) (e ∷ with_field k v es)))
    by_order Less = p
    by_order Equal = h
    by_order Greater = h

rising-with : (k : List ℕ) (v : Json) (es : Pairs) → AreRising (members_of es) → IsSoundJson v → AreRising (members_of (with_field k v es))
rising-with k v [] h s = (tt, s, tt)
rising-with k v (e ∷ es) h s = by_order (rising-with k v es h.2 s) (slice_cmp nat_cmp k e.0) refl
  where
    by_order : AreRising (members_of (with_field k v es)) → (o : Ordering) → slice_cmp nat_cmp k e.0 ≡ o → AreRising (members_of (match_ordering o ((k, v) ∷ e ∷ es) ((e.0, v) ∷ es) (e ∷ with_field k v es)))
    by_order r Less q = (q, s, h)
    by_order r Equal q = (h.0, s, h.2)
    by_order r Greater q = (comes_first-with e.0 k v es (greater_less k e.0 q) h.0, h.1, r)

-- ---- fields that may be absent

abbrev Table : Type 0
Table = List (List ℕ × Option Json)

abbrev given : Table → Pairs
given [] = []
given (t ∷ ts) = optional t.0 t.1 ++ given ts

abbrev names : Table → List (List ℕ)
names ts = map (λ t. t.0) ts

abbrev table : MetaView → Table
table m = (codes "annotations", some_texts m.annotations)
    ∷ (codes "creationTimestamp", option_map text m.created)
    ∷ (codes "deletionTimestamp", option_map text m.deleted)
    ∷ (codes "finalizers", some_list (map text m.finalizers))
    ∷ (codes "generation", some_generation m.generation)
    ∷ (codes "labels", some_texts m.labels)
    ∷ (codes "name", some_text m.name)
    ∷ (codes "namespace", some_text m.namespace)
    ∷ (codes "ownerReferences", some_list m.owners)
    ∷ (codes "resourceVersion", option_map text m.resource_version)
    ∷ (codes "uid", option_map text m.uid)
    ∷ []

eleven : (a b c d e f g h i j k : Pairs) → a ++ b ++ c ++ d ++ e ++ f ++ g ++ h ++ i ++ j ++ k ≡ a ++ (b ++ (c ++ (d ++ (e ++ (f ++ (g ++ (h ++ (i ++ (j ++ (k ++ []))))))))))
eleven a b c d e f g h i j k = simp (append_assoc, append-nil)

metadata-given : (m : MetaView) → metadata m ≡ given (table m)
unfolding metadata
metadata-given m = eleven
    (optional (codes "annotations") (some_texts m.annotations))
    (optional (codes "creationTimestamp") (option_map text m.created))
    (optional (codes "deletionTimestamp") (option_map text m.deleted))
    (optional (codes "finalizers") (some_list (map text m.finalizers)))
    (optional (codes "generation") (some_generation m.generation))
    (optional (codes "labels") (some_texts m.labels))
    (optional (codes "name") (some_text m.name))
    (optional (codes "namespace") (some_text m.namespace))
    (optional (codes "ownerReferences") (some_list m.owners))
    (optional (codes "resourceVersion") (option_map text m.resource_version))
    (optional (codes "uid") (option_map text m.uid))

-- ---- soundness

abbrev IsSoundOption : Option Json → Type 0
IsSoundOption None = Unit {0}
IsSoundOption (Some j) = IsSoundJson j

abbrev AreSoundOptions : Table → Type 0
AreSoundOptions [] = Unit {0}
AreSoundOptions (t ∷ ts) = IsSoundOption t.1 × AreSoundOptions ts

next_below : (n k : List ℕ) (s : Table) → slice_cmp nat_cmp n k ≡ Less → NamesRise (k ∷ names s) → NamesRise (n ∷ names s)
next_below n k [] below rise = (tt, tt)
next_below n k (q ∷ t) below rise = (nat_list_cmp_total.trans n k q.0 below rise.0, rise.1)

first-given : (n : List ℕ) (ts : Table) → NamesRise (n ∷ names ts) → ComesFirst n (members_of (given ts))
first-given n [] h = tt
first-given n (t ∷ ts) h = by_value t.1 (first-given n ts (next_below n t.0 ts h.0 h.1))
  where
    by_value : (o : Option Json) → ComesFirst n (members_of (given ts)) → ComesFirst n (members_of (optional t.0 o ++ given ts))
    by_value None more = more
    by_value (Some j) more = h.0

rising-given : (ts : Table) → NamesRise (names ts) → AreSoundOptions ts → AreRising (members_of (given ts))
rising-given [] h s = tt
rising-given (t ∷ ts) h s = by_value t.1 s.0 (first-given t.0 ts h) (rising-given ts h.1 s.1)
  where
    by_value : (o : Option Json) → IsSoundOption o → ComesFirst t.0 (members_of (given ts)) → AreRising (members_of (given ts)) → AreRising (members_of (optional t.0 o ++ given ts))
    by_value None f below more = more
    by_value (Some j) f below more = (below, f, more)

sound-text : (o : Option (List ℕ)) → IsSoundOption (option_map text o)
sound-text None = tt
sound-text (Some s) = tt

sound-some_text : (s : List ℕ) → IsSoundOption (some_text s)
sound-some_text [] = tt
sound-some_text (b ∷ bs) = tt

sound-generation : (z : ℤ) → FitsSigned w64 z → IsSoundOption (some_generation z)
sound-generation z h = by_test (int_eq z (pos 0))
  where
    by_test : (b : Bool) → IsSoundOption (cond b None (Some (whole z)))
    by_test true = tt
    by_test false = h

texts_rise : (ts : Texts) → AreInOrder ts → AreRising (members_of (text_fields ts))
texts_rise [] h = tt
texts_rise (t ∷ []) h = (tt, tt, tt)
texts_rise (t ∷ u ∷ ts) h = (h.0, tt, texts_rise (u ∷ ts) h.1)

sound-texts : (ts : Texts) → AreInOrder ts → IsSoundOption (some_texts ts)
sound-texts [] h = tt
sound-texts (t ∷ ts) h = texts_rise (t ∷ ts) h

text_items_sound : (fs : List (List ℕ)) → AreSoundItems (items_of (map text fs))
text_items_sound [] = tt
text_items_sound (f ∷ fs) = (tt, text_items_sound fs)

sound-list : (js : List Json) → AreSoundItems (items_of js) → IsSoundOption (some_list js)
sound-list [] h = tt
sound-list (j ∷ js) h = h

names_rise : (m : MetaView) → NamesRise (names (table m))
names_rise m = (refl, (refl, (refl, (refl, (refl, (refl, (refl, (refl, (refl, (refl, (tt, tt)))))))))))

metadata_rising : (m : MetaView) → AreInOrder m.annotations → FitsSigned w64 m.generation → IsMeta m → AreRising (members_of (metadata m))
metadata_rising m notes fits is =
    subst (λ (es : Pairs). AreRising (members_of es)) (sym (metadata-given m)) (rising-given (table m) (names_rise m) (
      sound-texts m.annotations notes,
      (
        sound-text m.created,
        (
          sound-text m.deleted,
          (
            sound-list (map text m.finalizers) (text_items_sound m.finalizers),
            (
              sound-generation m.generation fits,
              (
                sound-texts m.labels is.labels,
                (
                  sound-some_text m.name,
                  (
                    sound-some_text m.namespace,
                    (
                      sound-list m.owners is.owners,
                      (
                        sound-text m.resource_version,
                        (
                          sound-text m.uid,
                          tt,
                        ),
                      ),
                    ),
                  ),
                ),
              ),
            ),
          ),
        ),
      ),
    )
    )

pub sound_document : (x : ObjectView) → IsObject x → FitsSigned w64 x.meta.generation → IsMeta x.meta → IsSoundJson (document x)
unfolding document
sound_document x o fits is =
    let version = rising-with (codes "apiVersion") (text x.api_version) x.body o.body tt in
    let kind = rising-with (codes "kind") (text x.kind) (with_field (codes "apiVersion") (text x.api_version) x.body) version tt in
    rising-with (codes "metadata") (object (members_of (metadata x.meta))) (with_field (codes "kind") (text x.kind) (with_field (codes "apiVersion") (text x.api_version) x.body)) kind (metadata_rising x.meta o.annotations fits is)

-- ---- depth

max_within : (a b n : ℕ) → a ≤ n → b ≤ n → max a b ≤ n
max_within a b n h k = omega arith

left_within : (a b n : ℕ) → max a b ≤ n → a ≤ n
left_within a b n h = omega arith

right_within : (a b n : ℕ) → max a b ≤ n → b ≤ n
right_within a b n h = omega arith

abbrev IsWithin : ℕ → Option Json → Type 0
IsWithin n None = Unit {0}
IsWithin n (Some j) = depth j ≤ n

abbrev AreWithin : ℕ → Table → Type 0
AreWithin n [] = Unit {0}
AreWithin n (t ∷ ts) = IsWithin n t.1 × AreWithin n ts

within-given : (n : ℕ) (ts : Table) → AreWithin n ts → members_depth (members_of (given ts)) ≤ n
within-given n [] h = omega arith
within-given n (t ∷ ts) h = by_value t.1 h.0 (within-given n ts h.1)
  where
    by_value : (o : Option Json) → IsWithin n o → members_depth (members_of (given ts)) ≤ n → members_depth (members_of (optional t.0 o ++ given ts)) ≤ n
    by_value None w more = more
    by_value (Some j) w more = max_within (depth j) (members_depth (members_of (given ts))) n w more

within-text : (n : ℕ) (o : Option (List ℕ)) → IsWithin n (option_map text o)
within-text n None = tt
within-text n (Some s) = omega arith

within-some_text : (n : ℕ) (s : List ℕ) → IsWithin n (some_text s)
within-some_text n [] = tt
within-some_text n (b ∷ bs) = omega arith

within-generation : (n : ℕ) (z : ℤ) → IsWithin n (some_generation z)
within-generation n z = by_test (int_eq z (pos 0))
  where
    by_test : (b : Bool) → IsWithin n (cond b None (Some (whole z)))
    by_test true = tt
    by_test false = omega arith

texts_flat : (ts : Texts) → members_depth (members_of (text_fields ts)) ≤ 0
texts_flat [] = omega arith
texts_flat (t ∷ ts) = max_within 0 (members_depth (members_of (text_fields ts))) 0 (omega arith) (texts_flat ts)

one_more : (a n : ℕ) → a ≤ 0 → 1 ≤ n → suc a ≤ n
one_more a n h k = omega arith

within-texts : (n : ℕ) (ts : Texts) → 1 ≤ n → IsWithin n (some_texts ts)
within-texts n [] h = tt
within-texts n (t ∷ ts) h = one_more (members_depth (members_of (text_fields (t ∷ ts)))) n (texts_flat (t ∷ ts)) h

text_items_flat : (fs : List (List ℕ)) → items_depth (items_of (map text fs)) ≤ 0
text_items_flat [] = omega arith
text_items_flat (f ∷ fs) = max_within 0 (items_depth (items_of (map text fs))) 0 (omega arith) (text_items_flat fs)

within-list : (n : ℕ) (js : List Json) → depth (list (items_of js)) ≤ n → IsWithin n (some_list js)
within-list n [] h = tt
within-list n (j ∷ js) h = h

metadata_within : (m : MetaView) → depth (list (items_of m.owners)) ≤ 62 → members_depth (members_of (metadata m)) ≤ 62
metadata_within m h =
    let some : 1 ≤ 62 = omega arith in
    subst (λ (es : Pairs). members_depth (members_of es) ≤ 62) (sym (metadata-given m)) (within-given 62 (table m) (
      within-texts 62 m.annotations some,
      (
        within-text 62 m.created,
        (
          within-text 62 m.deleted,
          (
            within-list 62 (map text m.finalizers) (one_more (items_depth (items_of (map text m.finalizers))) 62 (text_items_flat m.finalizers) some),
            (
              within-generation 62 m.generation,
              (
                within-texts 62 m.labels some,
                (
                  within-some_text 62 m.name,
                  (
                    within-some_text 62 m.namespace,
                    (
                      within-list 62 m.owners h,
                      (
                        within-text 62 m.resource_version,
                        (
                          within-text 62 m.uid,
                          tt,
                        ),
                      ),
                    ),
                  ),
                ),
              ),
            ),
          ),
        ),
      ),
    )
    )

with_within : (n : ℕ) (k : List ℕ) (v : Json) (es : Pairs) → depth v ≤ n → members_depth (members_of es) ≤ n → members_depth (members_of (with_field k v es)) ≤ n
with_within n k v [] p h = max_within (depth v) 0 n p h
with_within n k v (e ∷ es) p h =
    let first = left_within (depth e.1) (members_depth (members_of es)) n h in
    let rest = right_within (depth e.1) (members_depth (members_of es)) n h in
    by_order first rest (with_within n k v es p rest) (slice_cmp nat_cmp k e.0)
  where
    by_order : depth e.1 ≤ n → members_depth (members_of es) ≤ n → members_depth (members_of (with_field k v es)) ≤ n → (o : Ordering)
        → members_depth (members_of (match_ordering o ((k, v) ∷ e ∷ es) ((e.0, v) ∷ es) (e ∷ with_field k v es))) ≤ n
    by_order first rest more Less = max_within (depth v) (max (depth e.1) (members_depth (members_of es))) n p h
    by_order first rest more Equal = max_within (depth v) (members_depth (members_of es)) n p rest
    by_order first rest more Greater = max_within (depth e.1) (members_depth (members_of (with_field k v es))) n first more

zero_within : (n : ℕ) → 0 ≤ n
zero_within n = omega arith

suc_within : (a n : ℕ) → a ≤ n → suc a ≤ suc n
suc_within a n h = omega arith

pub depth_document : (x : ObjectView) → members_depth (members_of x.body) ≤ 63 → depth (list (items_of x.meta.owners)) ≤ 62 → depth (document x) ≤ 64
unfolding document
depth_document x b h =
    let meta : depth (object (members_of (metadata x.meta))) ≤ 63 = suc_within (members_depth (members_of (metadata x.meta))) 62 (metadata_within x.meta h) in
    let version = with_within 63 (codes "apiVersion") (text x.api_version) x.body (zero_within 63) b in
    let kind = with_within 63 (codes "kind") (text x.kind) (with_field (codes "apiVersion") (text x.api_version) x.body) (zero_within 63) version in
    suc_within _ 63 (with_within 63 (codes "metadata") (object (members_of (metadata x.meta))) (with_field (codes "kind") (text x.kind) (with_field (codes "apiVersion") (text x.api_version) x.body)) meta kind)
