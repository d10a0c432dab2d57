-- Fields that are put behind fields, by rising names.
use Rattle.std.proofs.Common.{◌≡◌, ℕ, List, [], ◌∷◌, ◌++◌, Option, Less, nat_cmp, refl, ap, ◌∙◌}
use Rattle.std.specs.Ordering.{ordering_reverse}
use Rattle.std.specs.Map.{keys_of}
use Rattle.std.specs.Cmp.Lexicographic.{slice_cmp}
use Rattle.std.proofs.lemmas.Cmp.{nat_list_cmp_total}
use Rattle.kj_value.specs.Json.{Json, text}
use Rattle.kj_value.specs.Fields.{Pairs, with_field, IsBelowFirst, AreInOrder}
use Rattle.kube_meta.specs.View.{Texts}
use Rattle.kube_meta.specs.Document.{optional, text_fields}
use Rattle.kube_meta.specs.inner.Following.{IsAfter, Follows}

turned : (k l : List ℕ) → IsAfter k l → slice_cmp nat_cmp l k ≡ Less
turned k l e = nat_list_cmp_total.antisymm l k ∙ ap ordering_reverse e

after_less : (k l : List ℕ) → slice_cmp nat_cmp l k ≡ Less → IsAfter k l
after_less k l e = nat_list_cmp_total.antisymm k l ∙ ap ordering_reverse e

after_after : (k l m : List ℕ) → IsAfter k l → IsAfter l m → IsAfter k m
after_after k l m e f = after_less k m (nat_list_cmp_total.trans m l k (turned l m f) (turned k l e))

-- a field behind the others
pub with_field-behind : (k : List ℕ) (v : Json) (es : Pairs) → Follows k es → with_field k v es ≡ es ++ (k, v) ∷ []
with_field-behind k v [] h = refl
with_field-behind k v (e ∷ es) h = rw h.0 (ap (λ (r : Pairs). e ∷ r) (with_field-behind k v es h.1))

-- a later name follows too
pub follows_later : (k l : List ℕ) (es : Pairs) → IsAfter k l → Follows l es → Follows k es
follows_later k l [] a h = tt
follows_later k l (e ∷ es) a h = (after_after k l e.0 a h.0, follows_later k l es a h.1)

follows-behind : (k l : List ℕ) (v : Json) (es : Pairs) → Follows k es → IsAfter k l → Follows k (es ++ (l, v) ∷ [])
follows-behind k l v [] h a = (a, tt)
follows-behind k l v (e ∷ es) h a = (h.0, follows-behind k l v es h.1 a)

pub follows-with : (k l : List ℕ) (v : Json) (es : Pairs) → Follows l es → IsAfter k l → Follows k (with_field l v es)
follows-with k l v es h a = rw (with_field-behind l v es h) (follows-behind k l v es (follows_later k l es a h) a)

-- ---- a map of texts that is moved field by field

before_all : (l : List ℕ) (done rest : Texts) (t : List ℕ × List ℕ) → IsBelowFirst l (keys_of (done ++ t ∷ rest)) → AreInOrder (done ++ t ∷ rest) → slice_cmp nat_cmp l t.0 ≡ Less
before_all l [] rest t p h = p
before_all l (d ∷ done) rest t p h = nat_list_cmp_total.trans l d.0 t.0 p (before_all d.0 done rest t h.0 h.1)

pub moved_text : (done rest : Texts) (t : List ℕ × List ℕ) → AreInOrder (done ++ t ∷ rest) → with_field t.0 (text t.1) (text_fields done) ≡ text_fields (done ++ t ∷ [])
moved_text [] rest t h = refl
moved_text (d ∷ done) rest t h =
    rw (after_less t.0 d.0 (before_all d.0 done rest t h.0 h.1))
    (ap (λ (r : Pairs). (d.0, text d.1) ∷ r) (moved_text done rest t h.1))

-- one more field, which may be absent
pub put_next : (before after made : Pairs) (name : List ℕ) (v w : Option Json) → after ≡ before ++ optional name v → v ≡ w → before ≡ made → after ≡ made ++ optional name w
put_next before after made name v w e f g = rw (e, f, g) refl
