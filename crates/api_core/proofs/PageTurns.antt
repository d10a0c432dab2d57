-- A page of the store is the page that is decided of the history.
use Rattle.std.specs.Prelude.{◌≡◌, ℕ, ◌≤◌, Bool, true, false, not, List, [], ◌∷◌, Option, None, Some, nat_lt, if◌then◌else◌}
use Rattle.std.proofs.Common.{ap, sym, ◌∙◌, subst, arith}
use Rattle.std.proofs.lemmas.Bool.Decides.{nat_tests}
use Rattle.kube_meta.specs.Key.{KeyView}
use Rattle.kube_meta.specs.Page.{Page as PageOf, listed, page_of}
use Rattle.kube_meta.specs.WindowPairs.{AllPair}
use Rattle.kube_meta.specs.declared.limits.Limits.{Limits}
use Rattle.record_store.specs.View.{Item as RecordItem, Old, StoreView, item_key, items_at}
use Rattle.api_calls.specs.declared.flags.Flags.{Flags}
use Rattle.api_calls.specs.Meaning.{Meaning}
use Rattle.api_calls.specs.Item.{Item}
use Rattle.api_calls.specs.Objects.{Stored}
use Rattle.api_calls.specs.State.{revision, served, state}
use Rattle.api_calls.specs.Legal.{legal}
use Rattle.api_calls.specs.Snap.{Past, floor, page_at, window}
use Rattle.api_calls.specs.Pages.{Place, PageEnd, shown, unserved, ahead, expired, place_page, page_decision}
use Rattle.record_store.specs.Keeping.{ArePagesOfOne, IsSame, IsSamePast}
use Rattle.record_store.specs.Keeping.{KeepsHistory}
use Rattle.api_core.specs.declared.page_ends.Page.{Page}
use Rattle.api_core.specs.View.{CoreView}
use Rattle.api_core.specs.Keeps.{IsText, KeepsObject, KeepsPast}
use Rattle.api_core.specs.Stands.{Stands}
use Rattle.api_core.specs.Pages.{IsPageOf, KeepsPage, ShowsPage}
use Rattle.api_core.specs.CoreOf.{CoreOf, StandsFor}

not_below : (a b : ℕ) → b ≤ a → nat_lt a b ≡ false
not_below a b h = grind (arith, nat_tests)

module _ {X Y : Type 0} (R S : X → Y → Type 0) (to : (x : X) (y : Y) → R x y → S x y) where
  pairs-map : (xs : List X) (ys : List Y) → AllPair R xs ys → AllPair S xs ys
  pairs-map [] [] p = tt
  pairs-map [] (y ∷ ys) p = absurd p
  pairs-map (x ∷ xs) [] p = absurd p
  pairs-map (x ∷ xs) (y ∷ ys) p = (to x y p.0, pairs-map xs ys p.1)

module _ (m : Meaning) where
  abbrev pub text_of : Stored → List ℕ → Type 0
  text_of e bytes = IsText m e.at e.h bytes

  same : (x : RecordItem) (e : Stored) → KeepsObject m x e → IsSame text_of x e
  same x e k = record { key = k.key; number = k.number; version = k.at; birth = k.born; weight = k.weight; bytes = k.text }

  kept : (x : RecordItem) (e : Stored) → IsSame text_of x e → KeepsObject m x e
  kept x e s = record { key = s.key; number = s.number; at = s.version; born = s.birth; weight = s.weight; text = s.bytes }

  same_past : (o : Old) (p : Past) → KeepsPast m o p → IsSamePast text_of o p
  same_past o p k = record { entry = k.by; object = same o.item p.object k.object }

  keeps_history : (c : CoreView) (log : List Item) → Stands m c log → KeepsHistory text_of c.limits m log c.store
  keeps_history c log st = record {
    records = pairs-map (KeepsObject m) (IsSame text_of) same c.store.items (state m log).objects st.present.records;
    pasts = pairs-map (KeepsPast m) (IsSamePast text_of) same_past c.store.window (window c.limits m log) st.past.window;
    known = st.past.floor;
  }

  keeps_page : (p : Page) (q : PageOf RecordItem) (e : PageOf Stored) → IsPageOf p q → ArePagesOfOne text_of q e → KeepsPage m p e
  keeps_page p q e is one = record {
    number = is.number ∙ one.snapshot;
    records = subst (λ (xs : List RecordItem). AllPair (KeepsObject m) xs e.items) (sym is.items) (pairs-map (IsSame text_of) (KeepsObject m) kept q.items e.items one.records);
    remaining = is.remaining ∙ one.behind;
  }

-- a page of a store that keeps a history is one of the history
abbrev pub PagesAreOne : {V : Type 0} → (V → Meaning) → Type 0
PagesAreOne {V} meaning = (it : CoreOf V) (limits : Limits) (log : List Item) (s : StoreView) (r : ℕ) → legal (meaning it.versions) limits log
    → KeepsHistory (text_of (meaning it.versions)) limits (meaning it.versions) log s → s.floor ≤ r
    → (ns : Option (List ℕ)) (after : Option KeyView) (limit : ℕ)
    → ArePagesOfOne (text_of (meaning it.versions)) (page_of r limit (listed item_key ns after (items_at r s))) (page_at (meaning it.versions) log ns after r limit)

module _ {V : Type 0} (meaning : V → Meaning) where
  abbrev decided : CoreOf V → List Item → ℕ → Option (List ℕ) → ℕ → Option Place → PageEnd
  decided c log v ns limit t = page_decision c.view.limits (meaning c.versions) log v ns limit t

  abbrev placed : CoreOf V → List Item → Option (List ℕ) → ℕ → Option Place → PageEnd
  placed c log ns limit t = place_page c.view.limits (meaning c.versions) log ns limit t

  abbrev records_at : CoreOf V → Option (List ℕ) → Option KeyView → ℕ → ℕ → PageOf RecordItem
  records_at c ns after r limit = page_of r limit (listed item_key ns after (items_at r c.view.store))

  is_served : (c : CoreOf V) (log : List Item) → StandsFor meaning c log → (v : ℕ) (b : Bool) → served c.view.flags v ≡ b → served (state (meaning c.versions) log).flags v ≡ b
  is_served c log st v b is = ap (λ (f : Flags). served f v) (sym st.present.flags) ∙ is

  place-decided : (c : CoreOf V) (log : List Item) → StandsFor meaning c log → (v : ℕ) (ns : Option (List ℕ)) (limit : ℕ) (t : Option Place)
      → served c.view.flags v ≡ true → decided c log v ns limit t ≡ placed c log ns limit t
  place-decided c log st v ns limit t may =
      ap (λ (b : Bool). if not b then unserved else placed c log ns limit t) (is_served c log st v true may)

  place-known : (c : CoreOf V) (log : List Item) → StandsFor meaning c log → (ns : Option (List ℕ)) (limit : ℕ) (k : Place)
      → k.number ≤ c.view.revision → c.view.store.floor ≤ k.number → placed c log ns limit (Some k) ≡ shown (page_at (meaning c.versions) log ns (Some k.key) k.number limit)
  place-known c log st ns limit k not_ahead not_expired =
      ap (λ (b : Bool). if b then ahead (revision log) else if nat_lt k.number oldest then expired oldest else there)
      (ap (λ (n : ℕ). nat_lt n k.number) (sym st.revision) ∙ not_below c.view.revision k.number not_ahead)
      ∙ ap (λ (b : Bool). if b then expired oldest else there)
      (ap (λ (n : ℕ). nat_lt k.number n) (sym st.past.floor) ∙ not_below k.number c.view.store.floor not_expired)
    where
      oldest : ℕ
      oldest = floor c.view.limits (meaning c.versions) log

      there : PageEnd
      there = shown (page_at (meaning c.versions) log ns (Some k.key) k.number limit)

  -- ---- the pages

  page-kept : PagesAreOne meaning → (c : CoreOf V) (log : List Item) → StandsFor meaning c log → (ns : Option (List ℕ)) (after : Option KeyView) (r limit : ℕ) (p : Page)
      → c.view.store.floor ≤ r → IsPageOf p (records_at c ns after r limit) → KeepsPage (meaning c.versions) p (page_at (meaning c.versions) log ns after r limit)
  page-kept law c log st ns after r limit p le is =
      keeps_page (meaning c.versions) p (records_at c ns after r limit) (page_at (meaning c.versions) log ns after r limit) is
      (law c c.view.limits log c.view.store r st.legal (keeps_history (meaning c.versions) c.view log st) le ns after limit)

  pub page-present : PagesAreOne meaning → (c : CoreOf V) (log : List Item) → StandsFor meaning c log → (v : ℕ) (ns : Option (List ℕ)) (r limit : ℕ) (p : Page)
      → served c.view.flags v ≡ true → r ≡ c.view.revision → c.view.store.floor ≤ r → IsPageOf p (records_at c ns None r limit)
      → ShowsPage (meaning c.versions) p (decided c log v ns limit None)
  page-present law c log st v ns r limit p may now le is =
      subst (ShowsPage (meaning c.versions) p) (sym (place-decided c log st v ns limit None may))
      (subst (λ (n : ℕ). KeepsPage (meaning c.versions) p (page_at (meaning c.versions) log ns None n limit)) (now ∙ st.revision)
      (page-kept law c log st ns None r limit p le is))

  pub page-past : PagesAreOne meaning → (c : CoreOf V) (log : List Item) → StandsFor meaning c log → (v : ℕ) (ns : Option (List ℕ)) (limit : ℕ) (k : Place) (p : Page)
      → served c.view.flags v ≡ true → k.number ≤ c.view.revision → c.view.store.floor ≤ k.number → IsPageOf p (records_at c ns (Some k.key) k.number limit)
      → ShowsPage (meaning c.versions) p (decided c log v ns limit (Some k))
  page-past law c log st v ns limit k p may not_ahead known is =
      subst (ShowsPage (meaning c.versions) p) (sym (place-decided c log st v ns limit (Some k) may ∙ place-known c log st ns limit k not_ahead known))
      (page-kept law c log st ns (Some k.key) k.number limit p known is)
