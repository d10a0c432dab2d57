-- A whole history of the definition: an object is created, the storage version is changed, and a migration moves the object.
use Rattle.std.specs.Prelude.{ℕ, List, [], ◌∷◌, codes}
use Rattle.kube_meta.specs.Key.{KeyView}
use Rattle.kube_meta.specs.declared.limits.Limits.{Limits}
use Rattle.api_calls.specs.Item.{Create, SetVersions, StartMigration, Touch, MarkSucceeded, Trim, Claim, RangeDone, Item, entry, note, Logged}
use Rattle.versions_fixture.specs.Definition.{storing}
use Rattle.versions_fixture.specs.Example.{example}

-- room for one object of one chunk, and for one migration
abbrev pub narrow : Limits
narrow = record { objects = 1; chunks = 1; window_records = 0; window_chunks = 0; migrations = 1 }

abbrev pub key : KeyView
key = record { ns = codes "default"; name = codes "a" }

-- an item that a pass added after so many others
abbrev pub added : ℕ → ℕ → Item → Logged
added by nth item = record { by = by; nth = nth; item = item }

-- pass 0 is a client's, and pass 1 a migration worker's
abbrev pub history : List Logged
history =
    added 0 0 (entry (Create key example 1))
    ∷ added 0 1 (entry (SetVersions (storing 0)))
    ∷ added 0 2 (entry (StartMigration (codes "to-v1")))
    ∷ added 1 0 (note (Claim 1))
    ∷ added 1 1 (entry (Touch key 1))
    ∷ added 1 2 (note (RangeDone 1))
    ∷ added 1 3 (entry MarkSucceeded)
    ∷ added 0 3 (entry (Trim (0 ∷ [])))
    ∷ []
