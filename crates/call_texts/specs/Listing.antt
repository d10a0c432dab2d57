-- What is shown of a page.
use Rattle.std.specs.Prelude.{◌≡◌, ℕ, ◌<◌, ◌^◌, List, [], ◌∷◌, IsTrue, map, nat_eq, if◌then◌else◌}
use Rattle.kj_value.specs.Json.{Json, items_of}
use Rattle.kj_value.specs.Text.{items_text}
use Rattle.kube_meta.specs.Document.{document}
use Rattle.kube_meta.specs.Key.{KeyView}
use Rattle.kube_meta.specs.View.{ObjectView}
use Rattle.api_calls.specs.Documents.{numbered}
use Rattle.api_calls.specs.Meaning.{Meaning}
use Rattle.api_calls.specs.Token.{token_text}
use Rattle.api_calls.specs.Versions.{IsStored}
use Rattle.api_core.specs.declared.page_ends.Page.{Page}
use Rattle.api_core.specs.declared.seen.Seen.{Seen}
use Rattle.call_texts.specs.PageTexts.{Adds}

-- what is seen of an object is the stored text of a whole hub value, and its object was created by an entry of a possible number
pub record IsSeen (m : Meaning) (s : Seen) : Type 0 where
  pub value : ObjectView
  pub stored : IsStored m s.at value s.bytes.bytes
  pub born : s.born < 2 ^ 62

-- a document shows what is seen of an object, at a version
pub record ShowsSeen (m : Meaning) (boot v : ℕ) (s : Seen) (j : Json) : Type 0 where
  pub form : ObjectView
  pub pairs : (h : ObjectView) → IsStored m s.at h s.bytes.bytes → IsTrue m.honest → m.pair v h form
  pub shows : j ≡ document (numbered boot s.rv s.born form)

-- one after another
abbrev pub AreSeenShown : Meaning → ℕ → ℕ → List Seen → List Json → Type 0
AreSeenShown m boot v [] [] = Unit {0}
AreSeenShown m boot v (s ∷ ss) (j ∷ js) = ShowsSeen m boot v s j × AreSeenShown m boot v ss js
AreSeenShown m boot v [] (j ∷ js) = ⊥
AreSeenShown m boot v (s ∷ ss) [] = ⊥

-- a text goes on by the documents of what is seen, with commas between
pub record AddsItems (m : Meaning) (boot v : ℕ) (before : List ℕ) (seen : List Seen) (after : List ℕ) : Type 0 where
  pub documents : List Json
  pub shown : AreSeenShown m boot v seen documents
  pub text : Adds before (items_text (items_of documents)) after

-- the token of the last of these keys
abbrev pub last_place : ℕ → List KeyView → List ℕ
last_place number [] = []
last_place number (k ∷ []) = token_text number k
last_place number (k ∷ l ∷ ks) = last_place number (l ∷ ks)

-- the token that goes on behind a page
abbrev pub place_behind : Page → List ℕ
place_behind p = if nat_eq p.remaining 0 then [] else last_place p.rv (map (λ s. s.key) p.items)
