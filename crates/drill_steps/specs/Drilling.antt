-- A drill, and what is told of it.
use Rattle.std.specs.Prelude.{◌≡◌, ℕ, List, ◌++◌, codes, decimal}
use Rattle.kube_meta.specs.declared.limits.TheConstants.Limits.{STANDING}
use Rattle.api_calls.specs.Calls.{Server}
use Rattle.api_calls.specs.Legal.{legal}
use Rattle.api_calls.specs.Meaning.{Meaning}
use Rattle.drill_steps.specs.declared.counts.Counts.{Counts}
use Rattle.drill_steps.specs.Calling.{Lists}
use Rattle.drill_steps.specs.Steps.{Point, opening, TakesSteps, Rests}

-- the server of a definition, with the limits that the program runs with, at its start 0
abbrev pub drilled : Meaning → Server
drilled m = record { meaning = m; limits = STANDING; boot = 0 }

-- So many steps are taken from a server to which nothing has happened, then turns of the worker until it has nothing to do, and
-- then the objects are listed.
pub record Drills (s : Server) (start count : ℕ) (counts : Counts) (objects : ℕ) (revision : List ℕ) : Type 0 where
  pub stepped : Point
  pub steps : TakesSteps s (opening start) count stepped
  pub rested : Point
  pub rests : Rests s stepped rested
  pub counted : counts ≡ rested.tally.counts
  pub lists : Lists s rested.tally.log objects revision
  -- the history may be a server's
  pub is_legal : legal s.meaning s.limits rested.tally.log

-- nine lines, each a word and a number; the end of the last one isn't in it
unfoldable pub writes_told : ℕ → ℕ → ℕ → List ℕ
writes_told created replaced deleted =
    codes "created " ++ (decimal created ++ (codes "\nreplaced " ++ (decimal replaced ++ (codes "\ndeleted " ++ decimal deleted))))

unfoldable pub others_told : ℕ → ℕ → ℕ → ℕ → List ℕ
others_told missed refused touched migrated =
    codes "\nmissed " ++ (decimal missed ++ (codes "\nrefused " ++ (decimal refused ++ (codes "\ntouched " ++ (decimal touched ++ (codes "\nmigrated " ++ decimal migrated))))))

unfoldable pub list_told : ℕ → List ℕ → List ℕ
list_told objects revision = codes "\nobjects " ++ (decimal objects ++ (codes "\nrevision " ++ revision))

abbrev pub summary : Counts → ℕ → List ℕ → List ℕ
summary c objects revision =
    (writes_told c.created c.replaced c.deleted ++ others_told c.missed c.refused c.touched c.migrated) ++ list_told objects revision

-- the text tells of a drill
pub record Tells (s : Server) (start count : ℕ) (text : List ℕ) : Type 0 where
  pub counts : Counts
  pub objects : ℕ
  pub revision : List ℕ
  pub drills : Drills s start count counts objects revision
  pub told : text ≡ summary counts objects revision
