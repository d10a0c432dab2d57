-- An example of pages: a list in two pages with writes between them, and a token that is too old for a window of two records.
use Rattle.std.specs.Prelude.{◌≡◌, ℕ, false, List, [], ◌∷◌, Option, None, Some, codes, take}
use Rattle.std.proofs.Common.{refl}
use Rattle.kube_meta.specs.Key.{KeyView}
use Rattle.kube_meta.specs.View.{ObjectView}
use Rattle.kube_meta.specs.declared.limits.Limits.{Limits}
use Rattle.api_calls.specs.Meaning.{Meaning}
use Rattle.api_calls.specs.Item.{Item, entry, Create, Replace, Delete}
use Rattle.api_calls.specs.Objects.{Stored}
use Rattle.api_calls.specs.Snap.{floor}
use Rattle.api_calls.specs.Values.{updated_value}
use Rattle.api_calls.specs.Pages.{Place, shown, ahead, expired, unserved, page_decision}
use Rattle.api_calls.proofs.ExampleServer.{v1, v1beta1, example, key, admitted, fresh}

module _ (m : Meaning) where
  abbrev a : KeyView
  a = key (codes "a")

  abbrev b : KeyView
  b = key (codes "b")

  abbrev c : KeyView
  c = key (codes "c")

  -- a window of two records
  abbrev narrow : Limits
  narrow = record { objects = 16384; chunks = 262144; window_records = 2; window_chunks = 65536; migrations = 256 }

  abbrev edit : List ℕ → List ℕ → ObjectView
  edit name host = updated_value false (fresh name) (admitted name [] host)

  abbrev stands : List ℕ → ℕ → Stored
  stands name number = record { key = key name; h = fresh name; number = number; at = v1beta1; born = number; weight = 1 }

  abbrev log : List Item
  log =
      entry (Create a (fresh (codes "a")) 1)
      ∷ entry (Create b (fresh (codes "b")) 1)
      ∷ entry (Create c (fresh (codes "c")) 1)
      ∷ entry (Replace c 4 (edit (codes "c") (codes "y")) 1)
      ∷ entry (Delete a)
      ∷ entry (Replace b 3 (edit (codes "b") (codes "1")) 1)
      ∷ entry (Replace b 7 (edit (codes "b") (codes "2")) 1)
      ∷ entry (Replace b 8 (edit (codes "b") (codes "3")) 1)
      ∷ []

  abbrev token : Option Place
  token = Some (record { number = 4; key = b })

  page_one : page_decision narrow (example m) (take 3 log) v1 (Some (codes "default")) 2 None
      ≡ shown (record { number = 4; items = stands (codes "a") 2 ∷ stands (codes "b") 3 ∷ []; remaining = 1 })
  page_one = refl

  -- c was changed and a was deleted since, and nothing was let go yet
  page_two : page_decision narrow (example m) (take 5 log) v1 (Some (codes "default")) 2 token
      ≡ shown (record { number = 4; items = stands (codes "c") 4 ∷ []; remaining = 0 })
  page_two = refl

  floor_two : floor narrow (example m) (take 5 log) ≡ 1
  floor_two = refl

  -- the change of c by entry 5, that of a by 6 and that of b by 7 were let go
  floor_three : floor narrow (example m) log ≡ 7
  floor_three = refl

  too_old : page_decision narrow (example m) log v1 (Some (codes "default")) 2 token ≡ expired 7
  too_old = refl

  too_new : page_decision narrow (example m) (take 2 log) v1 (Some (codes "default")) 2 token ≡ ahead 3
  too_new = refl

  -- limit 0 means no limit, and no namespace asks for all
  all : page_decision narrow (example m) (take 3 log) v1 None 0 None
      ≡ shown (record { number = 4; items = stands (codes "a") 2 ∷ stands (codes "b") 3 ∷ stands (codes "c") 4 ∷ []; remaining = 0 })
  all = refl

  none_there : page_decision narrow (example m) log v1 (Some (codes "other")) 0 None ≡ shown (record { number = 9; items = []; remaining = 0 })
  none_there = refl

  no_version : page_decision narrow (example m) log 2 None 0 None ≡ unserved
  no_version = refl
