-- A namespace and a name are within their bounds.
use Rattle.std.proofs.Common.{◌≡◌, ◌≤◌, ◌&&◌, ℕ, Bool, true, false, List, length, nat_le, refl, arith}
use Rattle.std.proofs.lemmas.Bool.Decides.{nat_tests}
use Rattle.kube_meta.specs.Names.{is_name, is_namespace}

first_true : (a b : Bool) → (a && b) ≡ true → a ≡ true
first_true true b e = refl
first_true false b e = e

within : (m n : ℕ) → nat_le m n ≡ true → m ≤ n
within m n e = grind (arith, nat_tests)

pub namespace_fits : (s : List ℕ) → is_namespace s ≡ true → length s ≤ 63
unfolding is_namespace
namespace_fits s e = within (length s) 63 (first_true _ _ e)

pub name_fits : (s : List ℕ) → is_name s ≡ true → length s ≤ 253
unfolding is_name
name_fits s e = within (length s) 253 (first_true _ _ e)
