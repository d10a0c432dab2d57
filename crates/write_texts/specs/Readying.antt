-- What was made ready for a write, and how the end of its commit is told.
use Rattle.std.specs.Prelude.{◌≡◌, ◌⊎◌, ℕ, ◌+◌, ◌<◌, List, IsTrue}
use Rattle.kube_meta.specs.Key.{KeyView}
use Rattle.kube_meta.specs.View.{ObjectView}
use Rattle.api_calls.specs.Meaning.{Meaning, Weighs}
use Rattle.api_calls.specs.Legal.{key_of, IsNew}
use Rattle.api_calls.specs.ReplyLaws.{IsFinal}
use Rattle.api_calls.specs.Ends.{WriteEnd, storage_moved}
use Rattle.api_calls.specs.Replies.{Wrote}
use Rattle.api_core.specs.Prepared.{IsSized, PreparesValue}
use Rattle.api_core.specs.declared.seen.Prepared.{Prepared}
use Rattle.call_texts.specs.Told.{decided}
use Rattle.write_texts.specs.Sealed.{Seals}
use Rattle.write_texts.specs.declared.seal.Sealed.{Sealed}
use Rattle.write_texts.specs.declared.tried.Tried.{Tried}
use Rattle.write_texts.specs.declared.tried.Tried.TheVariants.{Told, Moved}

-- a hub value is ready to be stored under its key at a version, with its weight, and to be shown at another
pub record IsReady (m : Meaning) (v storage : ℕ) (h : ObjectView) (k : KeyView) (w : ℕ) (p : Prepared) (s : Sealed) : Type 0 where
  pub sized : IsSized p
  pub at : p.at ≡ storage
  pub key : p.key ≡ k
  pub weight : p.weight ≡ w
  pub prepares : PreparesValue m p h
  pub seals : Seals m v h s

-- how the end of a commit is told
abbrev pub Tells : Meaning → ℕ → ℕ → ℕ → List ℕ → ObjectView → WriteEnd → Tried → Type 0
Tells m boot code v name h e (Told r) = IsFinal e × Wrote m boot code v name h e (decided r)
Tells m boot code v name h e (Moved now) = e ≡ storage_moved now

-- ---- a create

-- a hub value that may be created under a key, with its weight
pub record IsFresh (m : Meaning) (k : KeyView) (h : ObjectView) (w : ℕ) : Type 0 where
  pub whole : m.whole h
  pub key : key_of h ≡ k
  pub new : IsNew h
  pub weighs : IsTrue m.honest → Weighs m h w
  pub some : 0 < w
