-- The fields of a document, parted at each of the three names that an object has of its own.
use Rattle.std.proofs.Common.{◌≡◌, ℕ, List, [], ◌∷◌, ◌++◌, Ordering, Less, Equal, Greater, nat_cmp, refl, sym, ap, ◌∙◌}
use Rattle.std.specs.Prelude.{codes}
use Rattle.std.specs.Ordering.{match_ordering, ordering_reverse}
use Rattle.std.specs.Cmp.Lexicographic.{slice_cmp}
use Rattle.std.proofs.lemmas.Cmp.{nat_list_cmp_total}
use Rattle.kj_value.specs.Json.{Json, text}
use Rattle.kj_value.specs.Fields.{Pairs, with_field}
use Rattle.kube_meta.specs.View.{ObjectView}
use Rattle.document_text.specs.FieldLaws.{before, after, around_meta, exactly}
use Rattle.document_text.specs.Numbered.{metadata_name}

behind : (k a e : List ℕ) → slice_cmp nat_cmp k a ≡ Greater → slice_cmp nat_cmp a e ≡ Greater → slice_cmp nat_cmp k e ≡ Greater
behind k a e p q =
    let less : slice_cmp nat_cmp a k ≡ Less = nat_list_cmp_total.antisymm a k ∙ ap ordering_reverse p in
    let least : slice_cmp nat_cmp e a ≡ Less = nat_list_cmp_total.antisymm e a ∙ ap ordering_reverse q in
    nat_list_cmp_total.antisymm k e ∙ ap ordering_reverse (nat_list_cmp_total.trans e a k least less)

pub before-with : (k a : List ℕ) (v : Json) (es : Pairs) → slice_cmp nat_cmp k a ≡ Greater → before k (with_field a v es) ≡ before a es ++ (a, v) ∷ before k (after a es)
before-with k a v [] p = rw p refl
before-with k a v (e ∷ es) p = by (slice_cmp nat_cmp a e.0) refl (before-with k a v es p)
  where
    by : (o : Ordering) → slice_cmp nat_cmp a e.0 ≡ o → before k (with_field a v es) ≡ before a es ++ (a, v) ∷ before k (after a es)
        → before k (match_ordering o ((a, v) ∷ e ∷ es) ((e.0, v) ∷ es) (e ∷ with_field a v es))
        ≡ match_ordering o [] [] (e ∷ before a es) ++ (a, v) ∷ before k (match_ordering o (e ∷ es) es (after a es))
    by Less is rest = rw p refl
    by Equal is rest = rw (sym (exactly a e.0 is), p) refl
    by Greater is rest = rw (behind k a e.0 p is) (ap (λ (ps : Pairs). e ∷ ps) rest)

pub after-with : (k a : List ℕ) (v : Json) (es : Pairs) → slice_cmp nat_cmp k a ≡ Greater → after k (with_field a v es) ≡ after k (after a es)
after-with k a v [] p = rw p refl
after-with k a v (e ∷ es) p = by (slice_cmp nat_cmp a e.0) refl (after-with k a v es p)
  where
    by : (o : Ordering) → slice_cmp nat_cmp a e.0 ≡ o → after k (with_field a v es) ≡ after k (after a es)
        → after k (match_ordering o ((a, v) ∷ e ∷ es) ((e.0, v) ∷ es) (e ∷ with_field a v es))
        ≡ after k (match_ordering o (e ∷ es) es (after a es))
    by Less is rest = rw p refl
    by Equal is rest = rw (sym (exactly a e.0 is), p) refl
    by Greater is rest = rw (behind k a e.0 p is) rest

-- ---- an object's own names

abbrev api_name : List ℕ
api_name = codes "apiVersion"

abbrev kind_name : List ℕ
kind_name = codes "kind"

-- what stands before its metadata, in five parts
pub before_metadata : (x : ObjectView) → before metadata_name (around_meta x)
    ≡ (before api_name x.body ++ ((api_name, text x.api_version) ∷ before kind_name (after api_name x.body)))
    ++ ((kind_name, text x.kind) ∷ before metadata_name (after kind_name (after api_name x.body)))
before_metadata x =
    let w : Pairs = with_field api_name (text x.api_version) x.body in
    before-with metadata_name kind_name (text x.kind) w refl
    ∙ ap (λ (ps : Pairs). ps ++ (kind_name, text x.kind) ∷ before metadata_name (after kind_name w)) (before-with kind_name api_name (text x.api_version) x.body refl)
    ∙ ap (λ (ps : Pairs). (before api_name x.body ++ ((api_name, text x.api_version) ∷ before kind_name (after api_name x.body))) ++ ((kind_name, text x.kind) ∷ before metadata_name ps))
    (after-with kind_name api_name (text x.api_version) x.body refl)

-- and behind them
pub after_metadata : (x : ObjectView) → after metadata_name (around_meta x) ≡ after metadata_name (after kind_name (after api_name x.body))
after_metadata x =
    after-with metadata_name kind_name (text x.kind) (with_field api_name (text x.api_version) x.body) refl
    ∙ ap (after metadata_name) (after-with kind_name api_name (text x.api_version) x.body refl)
