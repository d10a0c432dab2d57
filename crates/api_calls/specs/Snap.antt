-- The objects as they were at a number, what was superseded since, and the floor of a history.
use Rattle.std.specs.Prelude.{◌≡◌, ℕ, ◌+◌, ◌<◌, ◌⊎◌, List, [], ◌∷◌, ◌++◌, Option, None, Some, nat_lt, if◌then◌else◌}
use Rattle.kube_meta.specs.Key.{KeyView}
use Rattle.kube_meta.specs.Page.{Page, listed, page_of}
use Rattle.kube_meta.specs.Window.{floor_from, newest}
use Rattle.kube_meta.specs.declared.limits.Limits.{Limits}
use Rattle.api_calls.specs.Meaning.{Meaning}
use Rattle.api_calls.specs.Item.{Entry, Create, Replace, Mark, Release, Touch, Delete, SetVersions, Trim, StartMigration, MarkSucceeded, Item, entry, note}
use Rattle.api_calls.specs.Objects.{Stored, find}
use Rattle.api_calls.specs.State.{State, effect, number_after, opening, state}

-- the items up to the entry of a number, the next entry having number n
abbrev pub upto : ℕ → ℕ → List Item → List Item
upto n r [] = []
upto n r (entry e ∷ log) = if nat_lt r n then [] else entry e ∷ upto (n + 1) r log
upto n r (note x ∷ log) = note x ∷ upto n r log

-- the objects after the entries numbered at most r
abbrev pub snap : Meaning → List Item → ℕ → List Stored
snap m log r = (state m (upto 2 r log)).objects

-- the page of the objects at a number: those of a namespace behind a key, up to a limit
abbrev pub page_at : Meaning → List Item → Option (List ℕ) → Option KeyView → ℕ → ℕ → Page Stored
page_at m log ns after r limit = page_of r limit (listed (λ e. e.key) ns after (snap m log r))

-- an object that was superseded, with the number of the entry that did it
pub record Past : Type 0 where
  pub by : ℕ
  pub object : Stored

abbrev pub past : ℕ → Option Stored → List Past
past n None = []
past n (Some e) = record { by = n; object = e } ∷ []

-- what an entry of number n changes or removes
abbrev pub entry_past : ℕ → Entry → State → List Past
entry_past n (Create k h w) s = []
entry_past n (Replace k over h w) s = past n (find k s.objects)
entry_past n (Mark k over stamp) s = past n (find k s.objects)
entry_past n (Release k over) s = past n (find k s.objects)
entry_past n (Touch k c) s = past n (find k s.objects)
entry_past n (Delete k) s = past n (find k s.objects)
entry_past n (SetVersions f) s = []
entry_past n (Trim keep) s = []
entry_past n (StartMigration name) s = []
entry_past n MarkSucceeded s = []

abbrev pub item_past : ℕ → Item → State → List Past
item_past n (entry e) s = entry_past n e s
item_past n (note x) s = []

abbrev pub superseded_from : ℕ → State → List Item → List Past
superseded_from n s [] = []
superseded_from n s (i ∷ log) = item_past n i s ++ superseded_from (number_after n i) (effect n i s) log

-- all that was ever superseded, in the order of the entries
abbrev pub superseded : Meaning → List Item → List Past
superseded m log = superseded_from 2 (opening m) log

abbrev pub by_number : Past → ℕ
by_number p = p.by

abbrev pub past_weight : Past → ℕ
past_weight p = p.object.weight

-- the floor of a list, computed from its oldest on: pages at this number and above are still known
abbrev pub floor : Limits → Meaning → List Item → ℕ
floor limits m log = floor_from by_number past_weight limits 1 (superseded m log)

-- what a window holds for a list
abbrev pub window : Limits → Meaning → List Item → List Past
window limits m log = newest past_weight limits (superseded m log)

-- an object was superseded by an entry numbered above r
abbrev pub Supersedes : ℕ → Stored → List Past → Type 0
Supersedes r e [] = ⊥
Supersedes r e (p ∷ ps) = ((r < p.by) × (p.object ≡ e)) ⊎ Supersedes r e ps
