-- Tests over lists.
use Rattle.std.proofs.Common.{◌≡◌, List, [], ◌∷◌, Bool, ◌&&◌, map, refl, ap}
use Rattle.std.specs.List.{list_all}
pub use Rattle.kj_value.specs.KindLaws.{pairs_members, list_items}

pub all_map : {A B : Type 0} (test : B → Bool) (f : A → B) (xs : List A) → list_all (λ x. test (f x)) xs ≡ list_all test (map f xs)
all_map test f [] = refl
all_map test f (x ∷ xs) = ap (λ (b : Bool). test (f x) && b) (all_map test f xs)
