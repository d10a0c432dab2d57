-- A reply's text that is ready but for the number and the uid, which are known after a commit.
use Rattle.std.specs.Prelude.{◌≡◌, ℕ, ◌+◌, ◌<◌, ◌≤◌, ◌^◌, List, ◌++◌, length, decimal, IsTrue}
use Rattle.kube_meta.specs.View.{ObjectView}
use Rattle.api_calls.specs.Meaning.{Meaning}
use Rattle.api_calls.specs.Documents.{reply_text}
use Rattle.api_calls.specs.Uid.{uid}
use Rattle.document_text.specs.Numbered.{between}
use Rattle.write_texts.specs.declared.seal.Sealed.{Sealed}

-- what a seal tells with a number and the number of a creation
abbrev pub opened : Sealed → ℕ → ℕ → ℕ → List ℕ
opened s boot number born = s.front.bytes ++ decimal number ++ between ++ uid boot born ++ s.back.bytes

-- it shows an object, whichever its number and that of its creation are, and has room for all of it
pub record IsSealed (x : ObjectView) (s : Sealed) : Type 0 where
  pub shows : (boot number born : ℕ) → number < 2 ^ 64 → reply_text boot number born x ≡ opened s boot number born
  pub room : 65 + length s.back.bytes ≤ s.front.room

-- it shows a hub value at a version
abbrev pub Seals : Meaning → ℕ → ObjectView → Sealed → Type 0
Seals m v h s = (x : ObjectView) × (IsTrue m.honest → m.pair v h x) × IsSealed x s
