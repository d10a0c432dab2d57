-- An object's document is sound: its names rise, and so do those inside of it.
use Rattle.std.proofs.Common.{◌≡◌, ℕ, ℤ, pos, List, [], ◌∷◌, ◌++◌, map, Option, Some, None, Ordering, Less, Equal, Greater, nat_cmp, refl, ap, ◌∙◌, subst, append-nil}
use Rattle.std.specs.Prelude.{codes, option_map, FitsSigned, IfSome, if◌then◌else◌, Bool, true, false}
use Rattle.std.specs.Int.{w64}
use Rattle.std.specs.Ordering.{int_eq, match_ordering, ordering_reverse}
use Rattle.std.proofs.lemmas.Cmp.{nat_list_cmp_total}
use Rattle.std.specs.Map.{keys_of}
use Rattle.std.specs.Cmp.Lexicographic.{slice_cmp}
use Rattle.kj_value.specs.Json.{Json, whole, text, object, items_of, members_of}
use Rattle.kj_value.specs.Fields.{Pairs, with_field, IsBelowFirst, AreInOrder}
use Rattle.kj_value.specs.Sound.{IsSoundJson, AreSoundItems, AreRising, ComesFirst}
use Rattle.kube_meta.specs.View.{Texts, MetaView, ObjectView}
use Rattle.kube_meta.specs.Document.{optional, some_text, some_texts, some_list, some_generation, text_fields, metadata, document}
use Rattle.kube_meta.specs.inner.Following.{IsAfter, Follows}
use Rattle.kube_meta.proofs.InOrder.{with_field-behind, follows-with, follows_later}

-- ---- values

first_text : (k : List ℕ) (ts : Texts) → IsBelowFirst k (keys_of ts) → ComesFirst k (members_of (text_fields ts))
first_text k [] h = tt
first_text k (t ∷ ts) h = h

texts_rise : (ts : Texts) → AreInOrder ts → AreRising (members_of (text_fields ts))
texts_rise [] h = tt
texts_rise (t ∷ ts) h = (first_text t.0 ts h.0, tt, texts_rise ts h.1)

abbrev IsSound : Option Json → Type 0
IsSound o = IfSome o IsSoundJson

sound_texts : (ts : Texts) → AreInOrder ts → IsSound (some_texts ts)
sound_texts [] h = tt
sound_texts (t ∷ ts) h = texts_rise (t ∷ ts) h

sound_items : (ts : List (List ℕ)) → AreSoundItems (items_of (map text ts))
sound_items [] = tt
sound_items (t ∷ ts) = (tt, sound_items ts)

sound_list : (js : List Json) → AreSoundItems (items_of js) → IsSound (some_list js)
sound_list [] h = tt
sound_list (j ∷ js) h = h

sound_name : (bs : List ℕ) → IsSound (some_text bs)
sound_name [] = tt
sound_name (b ∷ bs) = tt

sound_given : (o : Option (List ℕ)) → IsSound (option_map text o)
sound_given None = tt
sound_given (Some t) = tt

sound_generation : (z : ℤ) → FitsSigned w64 z → IsSound (some_generation z)
sound_generation z h = by (int_eq z (pos 0))
  where
    by : (b : Bool) → IsSound (if b then None else Some (whole z))
    by true = tt
    by false = h

-- ---- fields whose names rise

behind_first : (l k : List ℕ) (v : Json) (es : Pairs) → slice_cmp nat_cmp l k ≡ Less → ComesFirst l (members_of es) → ComesFirst l (members_of (with_field k v es))
behind_first l k v [] p h = p
behind_first l k v (e ∷ es) p h = by (slice_cmp nat_cmp k e.0)
  where
    by : (o : Ordering) → ComesFirst l (members_of (match_ordering o ((k, v) ∷ e ∷ es) ((e.0, v) ∷ es) (e ∷ with_field k v es)))
    by Less = p
    by Equal = h
    by Greater = h

rising-with : (k : List ℕ) (v : Json) (es : Pairs) → AreRising (members_of es) → IsSoundJson v → AreRising (members_of (with_field k v es))
rising-with k v [] h s = (tt, s, tt)
rising-with k v (e ∷ es) h s = by (slice_cmp nat_cmp k e.0) refl (rising-with k v es h.2 s)
  where
    by : (o : Ordering) → slice_cmp nat_cmp k e.0 ≡ o → AreRising (members_of (with_field k v es)) → AreRising (members_of (match_ordering o ((k, v) ∷ e ∷ es) ((e.0, v) ∷ es) (e ∷ with_field k v es)))
    by Less is rest = (is, s, h)
    by Equal is rest = (h.0, s, h.2)
    by Greater is rest = (behind_first e.0 k v es (nat_list_cmp_total.antisymm e.0 k ∙ ap ordering_reverse is) h.0, h.1, rest)

-- they rise, and the name comes behind them
abbrev Rise : List ℕ → Pairs → Type 0
Rise k es = AreRising (members_of es) × Follows k es

-- one field more, which may be absent, and a name behind it
more : (k l : List ℕ) (o : Option Json) (es : Pairs) → Rise l es → IsAfter k l → IsSound o → Rise k (es ++ optional l o)
more k l None es h a s = rw (append-nil es) (h.0, follows_later k l es a h.1)
more k l (Some j) es h a s = subst (λ (ps : Pairs). Rise k ps) (with_field-behind l j es h.1) (rising-with l j es h.0 s, follows-with k l j es h.1 a)

module _ (m : MetaView) (labels : AreInOrder m.labels) (annotations : AreInOrder m.annotations) (owners : AreSoundItems (items_of m.owners)) (fits : FitsSigned w64 m.generation) where
  -- a name that comes behind all of them
  abbrev end : List ℕ
  end = codes "v"

  pub metadata_rise : AreRising (members_of (metadata m))
  unfolding metadata
  metadata_rise =
      let r1 = more (codes "creationTimestamp") (codes "annotations") (some_texts m.annotations) [] (tt, tt) refl (sound_texts m.annotations annotations) in
      let r2 = more (codes "deletionTimestamp") (codes "creationTimestamp") (option_map text m.created) _ r1 refl (sound_given m.created) in
      let r3 = more (codes "finalizers") (codes "deletionTimestamp") (option_map text m.deleted) _ r2 refl (sound_given m.deleted) in
      let r4 = more (codes "generation") (codes "finalizers") (some_list (map text m.finalizers)) _ r3 refl (sound_list (map text m.finalizers) (sound_items m.finalizers)) in
      let r5 = more (codes "labels") (codes "generation") (some_generation m.generation) _ r4 refl (sound_generation m.generation fits) in
      let r6 = more (codes "name") (codes "labels") (some_texts m.labels) _ r5 refl (sound_texts m.labels labels) in
      let r7 = more (codes "namespace") (codes "name") (some_text m.name) _ r6 refl (sound_name m.name) in
      let r8 = more (codes "ownerReferences") (codes "namespace") (some_text m.namespace) _ r7 refl (sound_name m.namespace) in
      let r9 = more (codes "resourceVersion") (codes "ownerReferences") (some_list m.owners) _ r8 refl (sound_list m.owners owners) in
      let r10 = more (codes "uid") (codes "resourceVersion") (option_map text m.resource_version) _ r9 refl (sound_given m.resource_version) in
      (more end (codes "uid") (option_map text m.uid) _ r10 refl (sound_given m.uid)).0

pub document_sound : (x : ObjectView) → AreRising (members_of x.body) → AreRising (members_of (metadata x.meta)) → IsSoundJson (document x)
unfolding document
document_sound x body meta =
    let api : Pairs = with_field (codes "apiVersion") (text x.api_version) x.body in
    let kind : Pairs = with_field (codes "kind") (text x.kind) api in
    rising-with (codes "metadata") (object (members_of (metadata x.meta))) kind
    (rising-with (codes "kind") (text x.kind) api (rising-with (codes "apiVersion") (text x.api_version) x.body body tt) tt) meta
