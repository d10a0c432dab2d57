-- What a page shows, and when it is the one that is decided of a list.
use Rattle.std.specs.Prelude.{◌≡◌, map}
use Rattle.kube_meta.specs.Page.{Page as PageOf}
use Rattle.kube_meta.specs.WindowPairs.{AllPair}
use Rattle.record_store.specs.View.{Item as RecordItem}
use Rattle.api_calls.specs.Meaning.{Meaning}
use Rattle.api_calls.specs.Objects.{Stored}
use Rattle.api_calls.specs.Pages.{Place, PageEnd, shown, unserved, ahead, expired, no_memory}
use Rattle.api_calls.specs.declared.token.Token.{Token}
use Rattle.api_core.specs.declared.page_ends.Page.{Page}
use Rattle.api_core.specs.declared.page_ends.PageFault.{PageFault}
use Rattle.api_core.specs.declared.page_ends.PageFault.TheVariants as fault
use Rattle.api_core.specs.Keeps.{KeepsObject}
use Rattle.api_core.specs.Prepared.{seen_item}

-- where a token goes on
abbrev pub place_of : Token → Place
place_of t = record { number = t.rv; key = t.key }

-- a page has the number of another, keeps its objects one by one, and leaves as many behind
pub record KeepsPage (m : Meaning) (p : Page) (q : PageOf Stored) : Type 0 where
  pub number : p.rv ≡ q.number
  pub records : AllPair (KeepsObject m) (map seen_item p.items) q.items
  pub remaining : p.remaining ≡ q.remaining

-- a page is decided, and this one keeps it
abbrev pub ShowsPage : Meaning → Page → PageEnd → Type 0
ShowsPage m p (shown q) = KeepsPage m p q
ShowsPage m p unserved = ⊥
ShowsPage m p (ahead r) = ⊥
ShowsPage m p (expired f) = ⊥
ShowsPage m p no_memory = ⊥

-- a refusal is the one that is decided; want of memory tells nothing
abbrev pub RefusesPage : PageFault → PageEnd → Type 0
RefusesPage fault.Unserved d = d ≡ unserved
RefusesPage (fault.Ahead r) d = d ≡ ahead r
RefusesPage (fault.Expired f) d = d ≡ expired f
RefusesPage fault.NoMemory d = Unit {0}

-- for private clauses: a page shows these records
pub record IsPageOf (p : Page) (q : PageOf RecordItem) : Type 0 where
  pub number : p.rv ≡ q.number
  pub items : map seen_item p.items ≡ q.items
  pub remaining : p.remaining ≡ q.remaining
