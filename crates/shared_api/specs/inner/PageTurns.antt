-- For private clauses: what one turn of a list tells.
use Rattle.std.specs.Prelude.{◌≡◌, ℕ, ◌<◌, ◌^◌, List, [], ◌∷◌, Option, Result, IfOk, IfErr, if◌then◌else◌}
use Rattle.api_calls.specs.Calls.{Server}
use Rattle.api_calls.specs.Item.{Logged, items}
use Rattle.api_calls.specs.Legal.{Each}
use Rattle.api_calls.specs.Pages.{Place, page_decision}
use Rattle.api_core.specs.Pages.{ShowsPage, RefusesPage}
use Rattle.api_core.specs.declared.page_ends.Page.{Page}
use Rattle.api_core.specs.declared.page_ends.PageFault.{PageFault}
use Rattle.turn_cell.specs.declared.view.View.{View}
use Rattle.shared_api.specs.inner.Turning.{Reads}
use Rattle.call_texts.specs.Cached.{WasSeen}
use Rattle.call_texts.specs.Listing.{IsSeen}

-- a look at a page, at a version
pub record LooksPage {B : Type 0} (s : Server) (v z : View B) (at : ℕ) (ns : Option (List ℕ)) (limit : ℕ) (token : Option Place) (r : Result Page PageFault) : Type 0 where
  pub log : List Logged
  pub reads : Reads s v z log
  pub known : IfOk r (λ p. at < s.meaning.count)
  pub stored : IfOk r (λ p. Each (IsSeen s.meaning) p.items)
  pub was : IfOk r (λ p. Each (WasSeen s.meaning (items log)) p.items)
  pub shows : IfOk r (λ p. ShowsPage s.meaning p (page_decision s.limits s.meaning (items log) at ns limit token))
  pub refuses : IfErr r (λ f. RefusesPage f (page_decision s.limits s.meaning (items log) at ns limit token))
