-- The laws of the order of keys, for sorted lists of keys.
use Rattle.std.specs.Prelude.{◌≡◌}
use Rattle.std.proofs.Common.{refl}
use Rattle.std.specs.Ordering.{nat_cmp, ordering_then}
use Rattle.std.specs.Cmp.{IsTotalOrder}
use Rattle.std.specs.declared.cmp.Ordering.{Ordering}
use Rattle.std.specs.declared.cmp.Ordering.TheVariants.{Less, Equal, Greater}
use Rattle.std.specs.Cmp.Lexicographic.{slice_cmp}
use Rattle.std.specs.FinMap.{slice_cmp-IsAntisymmetric, nat_cmp-IsAntisymmetric}
use Rattle.std.proofs.lemmas.Cmp.{nat_list_cmp_total, then_total, on_total, tied_itself}
use Rattle.kube_meta.specs.Key.{KeyView, key_cmp}

-- antisymmetric, transitive, and the same for keys that are equal in it
pub key_cmp_total : IsTotalOrder key_cmp
key_cmp_total = then_total (on_total (λ (k : KeyView). k.ns) nat_list_cmp_total) (on_total (λ (k : KeyView). k.name) nat_list_cmp_total)

-- equal exactly where the keys are one
pub key_cmp_one : (a b : KeyView) → key_cmp a b ≡ Equal → a ≡ b
key_cmp_one a b e = by_order (slice_cmp nat_cmp a.ns b.ns) refl e
  where
    by_order : (o : Ordering) → slice_cmp nat_cmp a.ns b.ns ≡ o → ordering_then o (slice_cmp nat_cmp a.name b.name) ≡ Equal → a ≡ b
    by_order Less p q = absurd (cc)
    by_order Equal p q =
        let same_ns = slice_cmp-IsAntisymmetric nat_cmp-IsAntisymmetric a.ns b.ns p in
        let same_name = slice_cmp-IsAntisymmetric nat_cmp-IsAntisymmetric a.name b.name q in
        λ i. record { ns = same_ns i; name = same_name i }
    by_order Greater p q = absurd (cc)

pub key_cmp_itself : (a : KeyView) → key_cmp a a ≡ Equal
key_cmp_itself a = tied_itself key_cmp_total a
