-- Examples of migrations: a switch of the storage version while one runs, objects that come while one runs, and a client's write that comes before a worker's.
use Rattle.std.specs.Prelude.{◌≡◌, ℕ, true, false, List, [], ◌∷◌, ◌++◌, None, Some, codes, take, map}
use Rattle.std.proofs.Common.{refl}
use Rattle.kube_meta.specs.Key.{KeyView}
use Rattle.kube_meta.specs.View.{ObjectView}
use Rattle.kube_meta.specs.declared.limits.Condition.TheVariants.{Succeeded, Failed}
use Rattle.api_calls.specs.Meaning.{Meaning}
use Rattle.api_calls.specs.Item.{Item, entry, note, Create, Replace, Touch, SetVersions, Trim, StartMigration, MarkSucceeded, Claim, RangeDone, GiveBack}
use Rattle.api_calls.specs.State.{State, state, next_number}
use Rattle.api_calls.specs.Values.{updated_value}
use Rattle.api_calls.specs.Ends.{storage_moved, set, trimmed, unknown, still_stored, started, taken, busy, idle, claimed, prepare, touched, missed, range_done, finished, says, enters}
use Rattle.api_calls.specs.Writes.{create_commit}
use Rattle.api_calls.specs.Settings.{set_decision, trim_decision, start_decision}
use Rattle.api_calls.specs.Work.{turn_decision, touch_decision, work_decision, give_back_decision}
use Rattle.api_calls.proofs.ExampleServer.{v1, v1beta1, storing, example, standing, key, admitted, fresh}

abbrev a : KeyView
a = key (codes "a")

abbrev b : KeyView
b = key (codes "b")

abbrev c : KeyView
c = key (codes "c")

abbrev create : List ℕ → Item
create name = entry (Create (key name) (fresh name) 1)

-- ---- the storage version is switched while a migration runs

module _ (m : Meaning) where
  abbrev log : List Item
  log =
      create (codes "a")
      ∷ create (codes "b")
      ∷ entry (SetVersions (storing v1))
      ∷ entry (StartMigration (codes "m1"))
      ∷ note (Claim 1)
      ∷ entry (SetVersions (storing v1beta1))
      ∷ entry (SetVersions (storing v1))
      ∷ entry (StartMigration (codes "m2"))
      ∷ note (Claim 2)
      ∷ entry (Touch a 2)
      ∷ entry (Touch b 2)
      ∷ note (RangeDone 2)
      ∷ entry MarkSucceeded
      ∷ entry (Trim (v1 ∷ []))
      ∷ []

  abbrev after : ℕ → State
  after k = state (example m) (take k log)

  abbrev next : ℕ → ℕ
  next k = next_number (take k log)

  switched : set_decision (after 2) (storing v1) ≡ enters (set (v1beta1 ∷ v1 ∷ [])) (entry (SetVersions (storing v1)))
  switched = refl

  m1_started : start_decision standing (after 3) (codes "m1") ≡ enters (started v1) (entry (StartMigration (codes "m1")))
  m1_started = refl

  m1_claimed : work_decision (next 4) (after 4) None ≡ record { decision = enters claimed (note (Claim 1)); claim = Some 1 }
  m1_claimed = refl

  m1_failed : (after 6).migrations ≡ record { name = codes "m1"; target = v1; condition = Failed } ∷ []
  m1_failed = refl

  m3_busy : start_decision standing (after 8) (codes "m3") ≡ says (busy (codes "m2"))
  m3_busy = refl

  m1_taken : start_decision standing (after 8) (codes "m1") ≡ says taken
  m1_taken = refl

  still : trim_decision (after 8) (v1 ∷ []) ≡ says (still_stored v1beta1 (Some a))
  still = refl

  -- claim numbers go on
  m2_claimed : work_decision (next 8) (after 8) None ≡ record { decision = enters claimed (note (Claim 2)); claim = Some 2 }
  m2_claimed = refl

  touched_a : work_decision (next 9) (after 9) (Some 2) ≡ record { decision = enters (touched 9) (entry (Touch a 2)); claim = Some 2 }
  touched_a = refl

  touched_b : work_decision (next 10) (after 10) (Some 2) ≡ record { decision = enters (touched 10) (entry (Touch b 2)); claim = Some 2 }
  touched_b = refl

  done : work_decision (next 11) (after 11) (Some 2) ≡ record { decision = enters range_done (note (RangeDone 2)); claim = None }
  done = refl

  marked : work_decision (next 12) (after 12) None ≡ record { decision = enters (finished 11) (entry MarkSucceeded); claim = None }
  marked = refl

  nothing_to_do : work_decision (next 13) (after 13) None ≡ record { decision = says idle; claim = None }
  nothing_to_do = refl

  trims : trim_decision (after 13) (v1 ∷ []) ≡ enters (trimmed (storing v1) (v1 ∷ [])) (entry (Trim (v1 ∷ [])))
  trims = refl

  trimmed_at : next 14 ≡ 13
  trimmed_at = refl

  not_stored : trim_decision (after 14) (v1beta1 ∷ []) ≡ says (unknown v1beta1)
  not_stored = refl

  left : (after 14).stored ≡ v1 ∷ []
  left = refl

  both : (after 14).migrations
      ≡ record { name = codes "m1"; target = v1; condition = Failed } ∷ record { name = codes "m2"; target = v1; condition = Succeeded } ∷ []
  both = refl

-- ---- an object comes while a migration runs

module _ (m : Meaning) where
  abbrev came : List Item
  came =
      create (codes "a")
      ∷ create (codes "c")
      ∷ entry (SetVersions (storing v1))
      ∷ entry (StartMigration (codes "m"))
      ∷ note (Claim 1)
      ∷ create (codes "b")
      ∷ entry (Touch a 1)
      ∷ entry (Touch c 1)
      ∷ note (RangeDone 1)
      ∷ entry MarkSucceeded
      ∷ []

  abbrev came_after : ℕ → State
  came_after k = state (example m) (take k came)

  abbrev came_next : ℕ → ℕ
  came_next k = next_number (take k came)

  takes : work_decision (came_next 4) (came_after 4) None ≡ record { decision = enters claimed (note (Claim 1)); claim = Some 1 }
  takes = refl

  first : work_decision (came_next 6) (came_after 6) (Some 1) ≡ record { decision = enters (touched 7) (entry (Touch a 1)); claim = Some 1 }
  first = refl

  -- b stands at the target already
  second : work_decision (came_next 7) (came_after 7) (Some 1) ≡ record { decision = enters (touched 8) (entry (Touch c 1)); claim = Some 1 }
  second = refl

  ended : work_decision (came_next 8) (came_after 8) (Some 1) ≡ record { decision = enters range_done (note (RangeDone 1)); claim = None }
  ended = refl

  over : work_decision (came_next 9) (came_after 9) None ≡ record { decision = enters (finished 9) (entry MarkSucceeded); claim = None }
  over = refl

  all_at_v1 : map {B = KeyView × ℕ} (λ e. (e.key, e.at)) (came_after 10).objects ≡ (a, v1) ∷ (b, v1) ∷ (c, v1) ∷ []
  all_at_v1 = refl

  -- a create that was prepared for the old storage version
  prepared_before : create_commit standing (came_next 3) (came_after 3) v1 v1beta1 b (fresh (codes "b")) 1 ≡ says (storage_moved v1)
  prepared_before = refl

-- ---- a client's write comes before a worker's

module _ (m : Meaning) where
  abbrev new : ObjectView
  new = updated_value false (fresh (codes "a")) (admitted (codes "a") [] (codes "y"))

  abbrev raced : List Item
  raced =
      create (codes "a")
      ∷ entry (SetVersions (storing v1))
      ∷ entry (StartMigration (codes "m"))
      ∷ note (Claim 1)
      ∷ entry (Replace a 2 new 1)
      ∷ note (RangeDone 1)
      ∷ []

  abbrev raced_after : ℕ → State
  raced_after k = state (example m) (take k raced)

  -- another worker finds nothing to claim
  other : work_decision 5 (raced_after 4) None ≡ record { decision = says idle; claim = None }
  other = refl

  asked : turn_decision 5 (raced_after 4) (Some 1) ≡ record { decision = says (prepare a 2); claim = Some 1 }
  asked = refl

  too_late : touch_decision 6 (raced_after 5) (Some 1) a 2 v1 ≡ record { decision = says missed; claim = Some 1 }
  too_late = refl

  then_done : turn_decision 6 (raced_after 5) (Some 1) ≡ record { decision = enters range_done (note (RangeDone 1)); claim = None }
  then_done = refl

  value_stays : map (λ e. e.h) (raced_after 6).objects ≡ new ∷ []
  value_stays = refl

  -- a claim that is given back is the next worker's
  given : give_back_decision (raced_after 4) (Some 1) ≡ enters true (note (GiveBack 1))
  given = refl

  taken_again : work_decision 5 (state (example m) (take 4 raced ++ note (GiveBack 1) ∷ [])) None
      ≡ record { decision = enters claimed (note (Claim 2)); claim = Some 2 }
  taken_again = refl

  -- and a claim that the worker has no more is forgotten
  forgotten : work_decision 5 (state (example m) (take 4 raced ++ note (GiveBack 1) ∷ [])) (Some 1)
      ≡ record { decision = enters claimed (note (Claim 2)); claim = Some 2 }
  forgotten = refl
