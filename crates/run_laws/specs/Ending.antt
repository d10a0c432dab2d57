-- How a migration from outside may end over a server of a definition, and what has to be known of the server.
use Rattle.std.specs.Prelude.{◌≡◌, ◌≤◌, ◌⊎◌, List, Result, Ok, Err}
use Rattle.kube_meta.specs.declared.limits.Limits.{Limits}
use Rattle.api_calls.specs.Item.{Item}
use Rattle.api_calls.specs.Legal.{Each}
use Rattle.api_calls.specs.Meaning.{Meaning}
use Rattle.place.specs.Place.{Names}
use Rattle.far_migrate.specs.Counts.{Fault, answer, link, memory, restarted}
use Rattle.far_migrate.specs.Puts.{Handled, all, failed}
use Rattle.far_migrate.specs.declared.tally.Tally.{Tally}
use Rattle.far_migrate.specs.declared.tally.FarFault.{FarFault}
use Rattle.far_migrate.specs.declared.tally.FarFault.TheVariants as faults
use Rattle.far_laws.specs.Answering.{GoesOn}
use Rattle.far_laws.specs.Speaking.{AreNames}
use Rattle.far_laws.specs.Dumped.{IsKnown}
use Rattle.run_laws.specs.Light.{EntersLight}
use Rattle.run_laws.specs.Replying.{CreatesNamed, IsPlaceOf, IsUnserved}

-- ---- what is known

-- A server of a definition, up to a history, is open to a migration from a place.
pub record IsOpen (m : Meaning) (limits : Limits) (n : Names) (last : List Item) : Type 0 where
  -- the names of a place: `read_place` reads no others
  pub names : AreNames n
  -- they are those of the definition, or there would be nothing to list
  pub place : IsPlaceOf m n
  -- the history is one that a server keeps, and it is known what its values mean
  pub known : IsKnown m limits last
  -- a list of more objects ends a migration
  pub objects : limits.objects ≤ 1_000_000
  -- an object outside of a namespace has no form that a client takes; no request creates one (`creates_named`)
  pub named : Each CreatesNamed last
  -- a larger value is refused when it is put back, and may be longer than a client reads; no request enters one (`enters_light`)
  pub light : Each (EntersLight m) last

-- ---- the end

-- at a history between the two the version that the place names wasn't served
pub record WasUnserved (m : Meaning) (n : Names) (first last : List Item) : Type 0 where
  pub at : List Item
  pub from : GoesOn first at
  pub to : GoesOn at last
  pub unserved : IsUnserved m n at

-- Without a tally: by 503, the server's want of memory; by 404, where the version wasn't served; since seventeen lists were too old; by the
-- client's own want of memory; or since an exchange failed, which raises the link's count of faults.
abbrev pub MayFail : Meaning → Names → List Item → List Item → Fault → Type 0
MayFail m n first last link = Unit {0}
MayFail m n first last (answer c) = (c ≡ 503) ⊎ ((c ≡ 404) × WasUnserved m n first last)
MayFail m n first last restarted = Unit {0}
MayFail m n first last memory = Unit {0}

-- with a tally, or so
abbrev pub MayEnd : Meaning → Names → List Item → List Item → Handled → Type 0
MayEnd m n first last (all t) = Unit {0}
MayEnd m n first last (failed f) = MayFail m n first last f

-- What `migrate` may answer where no exchange failed.
abbrev pub MayAnswer : Meaning → Names → List Item → List Item → Result Tally FarFault → Type 0
MayAnswer m n first last (Ok t) = Unit {0}
MayAnswer m n first last (Err faults.LinkFault) = ⊥
MayAnswer m n first last (Err (faults.Answer c)) = (c ≡ 503) ⊎ ((c ≡ 404) × WasUnserved m n first last)
MayAnswer m n first last (Err faults.Restarted) = Unit {0}
MayAnswer m n first last (Err faults.NoMemory) = Unit {0}
