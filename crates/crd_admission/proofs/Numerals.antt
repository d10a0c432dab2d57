-- The number of a submitted object.
use Rattle.std.proofs.Common.{◌≡◌, ℕ, List, [], ◌∷◌, length, Bool, true, false, Option, Some, None, refl, sym, subst, arith}
use Rattle.std.specs.Prelude.{◌==◌, ◌||◌, is_some, option_map}
use Rattle.std.proofs.lemmas.Bool.Decides.{nat_tests}
use Rattle.kube_meta.specs.View.{ObjectView}
use Rattle.object_reading.specs.Keeping.{is_none_or, KeepsRules}
use Rattle.object_reading.specs.Numbers.{is_number, is_resource_version}
use Rattle.object_reading.specs.Parts.{not_empty, submitted}

pub some_mapped : {A B : Type 0} (f : A → B) (o : Option A) → is_some (option_map f o) ≡ is_some o
some_mapped f None = refl
some_mapped f (Some x) = refl

or_right : (a b : Bool) → a ≡ false → a || b ≡ true → b ≡ true
or_right true b e h = absurd (cc)
or_right false b e h = h

-- where it isn't empty, a resource version is a number
numbered : (o : Option (List ℕ)) → is_none_or is_resource_version (not_empty o) ≡ true → is_none_or is_number (not_empty o) ≡ true
numbered None h = refl
numbered (Some []) h = refl
numbered (Some (b ∷ bs)) h =
    let there : (length (b ∷ bs) == 0) ≡ false = grind (arith, nat_tests) in
    or_right (length (b ∷ bs) == 0) (is_number (b ∷ bs)) there h

pub has_number : (x y : ObjectView) → x ≡ submitted y → KeepsRules x.meta → is_none_or is_number x.meta.resource_version ≡ true
has_number x y e h =
    subst (λ (z : ObjectView). is_none_or is_number z.meta.resource_version ≡ true) (sym e)
    (numbered y.meta.resource_version (subst (λ (z : ObjectView). is_none_or is_resource_version z.meta.resource_version ≡ true) e h.resource_version))
