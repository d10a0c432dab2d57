-- Annotations as fields of the metadata.
use Rattle.std.proofs.Common.{◌≡◌, ◌∙◌, ℕ, List, [], ◌∷◌, ◌++◌, length, Less, nat_cmp, append_assoc, append-nil, refl, ap, sym}
use Rattle.std.specs.Prelude.{codes}
use Rattle.std.specs.Ordering.{ordering_reverse}
use Rattle.std.specs.Cmp.Lexicographic.{slice_cmp}
use Rattle.std.proofs.lemmas.Cmp.{nat_list_cmp_total}
use Rattle.kj_value.specs.Json.{text, object, members_of}
use Rattle.kj_value.specs.Fields.{Pairs, with_field, AreInOrder}
use Rattle.kube_meta.specs.Document.{text_fields}
use Rattle.kube_meta.specs.inner.Following.{IsAfter, Follows}
use Rattle.kube_meta.specs.View.{Texts}
use Rattle.kube_meta.proofs.InOrder.{with_field-behind, follows-with}
use Rattle.crd_meaning.specs.Converted.{with_notes}

-- ---- texts that are put in one by one

abbrev pub put_all : Pairs → Texts → Pairs
put_all es [] = es
put_all es (t ∷ ts) = put_all (with_field t.0 (text t.1) es) ts

abbrev FirstFollows : Texts → Pairs → Type 0
FirstFollows [] es = Unit {0}
FirstFollows (t ∷ ts) es = Follows t.0 es

after_less : (k l : List ℕ) → slice_cmp nat_cmp l k ≡ Less → IsAfter k l
after_less k l e = nat_list_cmp_total.antisymm k l ∙ ap ordering_reverse e

next_follows : (t : List ℕ × List ℕ) (ts : Texts) (es : Pairs) → AreInOrder (t ∷ ts) → Follows t.0 es → FirstFollows ts (with_field t.0 (text t.1) es)
next_follows t [] es o f = tt
next_follows t (u ∷ ts) es o f = follows-with u.0 t.0 (text t.1) es f (after_less u.0 t.0 o.0)

put_behind : (ts : Texts) (es : Pairs) → AreInOrder ts → FirstFollows ts es → put_all es ts ≡ es ++ text_fields ts
put_behind [] es o f = sym (append-nil es)
put_behind (t ∷ ts) es o f =
    put_behind ts (with_field t.0 (text t.1) es) o.1 (next_follows t ts es o f)
    ∙ ap (λ (fs : Pairs). fs ++ text_fields ts) (with_field-behind t.0 (text t.1) es f)
    ∙ append_assoc es ((t.0, text t.1) ∷ []) (text_fields ts)

pub put_from_none : (ts : Texts) → AreInOrder ts → put_all [] ts ≡ text_fields ts
put_from_none [] o = refl
put_from_none (t ∷ ts) o = put_behind (t ∷ ts) [] o tt

-- ---- where there are some

pub with_some : (ts : Texts) (ms : Pairs) → (length ts ≡ 0 → ⊥) → with_field (codes "annotations") (object (members_of (text_fields ts))) ms ≡ with_notes ts ms
with_some [] ms h = absurd (h refl)
with_some (t ∷ ts) ms h = refl
