-- A name has at most 253 bytes.
use Rattle.std.proofs.Common.{◌≡◌, ℕ, ◌≤◌, List, Bool, true, false, length, arith}
use Rattle.std.specs.Prelude.{◌&&◌, nat_le}
use Rattle.std.proofs.lemmas.Bool.Decides.{nat_tests}
use Rattle.kube_meta.specs.Names.{is_name}
use Rattle.kube_meta.specs.declared.key.TheConstants.{NAME_BYTES}

first : (a b : Bool) → (a && b) ≡ true → a ≡ true
first true b h = cc
first false b h = h

pub name_fits : (text : List ℕ) → is_name text ≡ true → length text ≤ NAME_BYTES
unfolding is_name
name_fits text h =
    let fits : nat_le (length text) NAME_BYTES ≡ true = first _ _ h in
    grind (arith, nat_tests)
