-- The annotations of metadata whose labels were taken out are still there.
use Rattle.std.proofs.Common.{◌≡◌, ℕ, List, [], ◌∷◌, cond, Option, Some, Ordering, Less, Equal, Greater, nat_cmp, is_eq, refl, ap, sym, ◌∙◌}
use Rattle.std.specs.Prelude.{codes}
use Rattle.std.specs.Cmp.Lexicographic.{slice_cmp}
use Rattle.std.proofs.lemmas.Slice.Eq.{bytes_eq-Decides}
use Rattle.std.proofs.lemmas.Map.Text.{is_eq-slice_cmp}
use Rattle.kj_value.specs.Json.{Json}
use Rattle.kj_value.specs.Fields.{Pairs, field, without_field}

equal_same : (k n : List ℕ) → slice_cmp nat_cmp k n ≡ Equal → k ≡ n
equal_same k n e = (bytes_eq-Decides k n).0 (sym (is_eq-slice_cmp k n) ∙ ap is_eq e)

pub annotations_stay : (es : Pairs) → field (codes "annotations") (without_field (codes "labels") es) ≡ field (codes "annotations") es
annotations_stay [] = refl
annotations_stay (e ∷ es) = by_order (annotations_stay es) (slice_cmp nat_cmp (codes "labels") e.0) refl
  where
    by_order : field (codes "annotations") (without_field (codes "labels") es) ≡ field (codes "annotations") es
        → (o : Ordering) → slice_cmp nat_cmp (codes "labels") e.0 ≡ o
        → field (codes "annotations") (cond (is_eq o) es (e ∷ without_field (codes "labels") es)) ≡ field (codes "annotations") (e ∷ es)
    by_order later Less q = ap (λ (o : Option Json). cond (is_eq (slice_cmp nat_cmp (codes "annotations") e.0)) (Some e.1) o) later
    by_order later Equal q =
        ap (λ (k : List ℕ). cond (is_eq (slice_cmp nat_cmp (codes "annotations") k)) (Some e.1) (field (codes "annotations") es)) (equal_same (codes "labels") e.0 q)
    by_order later Greater q = ap (λ (o : Option Json). cond (is_eq (slice_cmp nat_cmp (codes "annotations") e.0)) (Some e.1) o) later
