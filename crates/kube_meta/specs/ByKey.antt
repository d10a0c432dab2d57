-- Lists of things that have keys, by rising key.
use Rattle.std.specs.Prelude.{◌≡◌, List, [], ◌∷◌, Option, None, Some}
use Rattle.std.specs.Ordering.{match_ordering}
use Rattle.std.specs.declared.cmp.Ordering.TheVariants.{Less}
use Rattle.kube_meta.specs.Key.{KeyView, key_cmp}

-- the key comes before the first one
abbrev pub IsBelowFirst : KeyView → List KeyView → Type 0
IsBelowFirst k [] = Unit {0}
IsBelowFirst k (l ∷ ls) = key_cmp k l ≡ Less

-- each key comes before the next
abbrev pub KeysRise : List KeyView → Type 0
KeysRise [] = Unit {0}
KeysRise (k ∷ ks) = IsBelowFirst k ks × KeysRise ks

-- what stands under a key
abbrev pub find : {X : Type 0} → (X → KeyView) → KeyView → List X → Option X
find key k [] = None
find key k (x ∷ xs) = match_ordering (key_cmp k (key x)) None (Some x) (find key k xs)

-- the list with this one under its key
abbrev pub put : {X : Type 0} → (X → KeyView) → X → List X → List X
put key y [] = y ∷ []
put key y (x ∷ xs) = match_ordering (key_cmp (key y) (key x)) (y ∷ x ∷ xs) (y ∷ xs) (x ∷ put key y xs)

-- the list but the one under a key
abbrev pub without : {X : Type 0} → (X → KeyView) → KeyView → List X → List X
without key k [] = []
without key k (x ∷ xs) = match_ordering (key_cmp k (key x)) (x ∷ xs) xs (x ∷ without key k xs)
