-- The objects of the server's state: a list by rising key, and how it is read and changed.
use Rattle.std.specs.Prelude.{ℕ, List, [], ◌∷◌, Option, None, Some, map}
use Rattle.std.specs.Ordering.{match_ordering}
use Rattle.kube_meta.specs.Key.{KeyView, key_cmp}
use Rattle.kube_meta.specs.View.{ObjectView}
use Rattle.kube_meta.specs.ByKey as by_key
use Rattle.kube_meta.specs.Plan.{Span}
use Rattle.kube_meta.specs.AtVersion as at_version
use Rattle.kube_meta.specs.Window.{weights}

-- what stands under a key: a hub value, its number, the version at which it is stored, the number of its creation, and its weight in chunks
pub record Stored : Type 0 where
  pub key : KeyView
  pub h : ObjectView
  pub number : ℕ
  pub at : ℕ
  pub born : ℕ
  pub weight : ℕ

abbrev pub object_key : Stored → KeyView
object_key e = e.key

abbrev pub object_at : Stored → ℕ
object_at e = e.at

abbrev pub object_weight : Stored → ℕ
object_weight e = e.weight

-- the object under a key
abbrev pub find : KeyView → List Stored → Option Stored
find k es = by_key.find object_key k es

-- the objects with this one under its key
abbrev pub put : Stored → List Stored → List Stored
put x es = by_key.put object_key x es

-- the objects but the one under a key
abbrev pub without : KeyView → List Stored → List Stored
without k es = by_key.without object_key k es

-- the objects, where the one under a key became another
abbrev pub updated : (Stored → Stored) → KeyView → List Stored → List Stored
updated f k [] = []
updated f k (e ∷ es) = match_ordering (key_cmp k e.key) (e ∷ es) (f e ∷ es) (e ∷ updated f k es)

-- an object with another number, stored at another version
abbrev pub moved : ℕ → ℕ → Stored → Stored
moved n v e = record e { number = n; at = v }

-- a hub value with a deletion stamp
abbrev pub marked : List ℕ → ObjectView → ObjectView
marked stamp h = record h { meta = record h.meta { deleted = Some stamp } }

-- an object whose value got a deletion stamp
abbrev pub marked_at : ℕ → ℕ → List ℕ → Stored → Stored
marked_at n v stamp e = record e { h = marked stamp e.h; number = n; at = v }

-- the first object of a span that stands elsewhere
abbrev pub elsewhere : Span → ℕ → List Stored → Option Stored
elsewhere r v es = at_version.elsewhere object_at object_key r v es

abbrev pub keys : List Stored → List KeyView
keys es = map object_key es

-- the weights of the objects, together
abbrev pub live : List Stored → ℕ
live es = weights object_weight es

abbrev pub born_or : Option Stored → ℕ → ℕ
born_or None n = n
born_or (Some e) n = e.born
