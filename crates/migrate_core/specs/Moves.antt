-- What each call answers, and what it leaves of the migrations and their plan.
use Rattle.std.specs.Prelude.{◌≡◌, ℕ, ◌+◌, Bool, true, ◌&&◌, List, [], ◌∷◌, ◌++◌, Option, None, Some, is_some, length, nat_lt, if◌then◌else◌}
use Rattle.kube_meta.specs.Key.{KeyView}
use Rattle.kube_meta.specs.Plan.{Migration, running, named, ended, stopped, cleared, in_span, may_claim, claimed, is_done, free_slot, give_back, pass_key}
use Rattle.kube_meta.specs.Work as work
pub use Rattle.kube_meta.specs.Work.{Work, work_in, work_under}
use Rattle.kube_meta.specs.declared.limits.Condition.TheVariants.{Running, Succeeded, Failed}
use Rattle.kube_meta.specs.declared.limits.RoomKind.TheVariants.{Migrations}
use Rattle.migrate_core.specs.declared.ends.StartEnd.{StartEnd}
use Rattle.migrate_core.specs.declared.ends.StartEnd.TheVariants.{Done as Started, AlreadyExists, Running as Busy, Full}
use Rattle.migrate_core.specs.declared.ends.Advance.{Advance}
use Rattle.migrate_core.specs.declared.ends.Advance.TheVariants.{Prepare, Done as RangeDone, Lost}
use Rattle.migrate_core.specs.declared.records.Row.{Row}
use Rattle.migrate_core.specs.Rows.{elsewhere, keys}
use Rattle.migrate_core.specs.View.{MigrationsView}

-- ---- a claim that is held

-- the work of a worker, by its claim
abbrev pub work_of : Option ℕ → MigrationsView → Option Work
work_of c v = work.work_of c v.items v.plan.slots

-- ---- a migration is started

abbrev pub start_idle : ℕ → MigrationsView → Option Migration → StartEnd
start_idle target v (Some m) = Busy m.name
start_idle target v None = if nat_lt (length v.items) v.limit then Started target else Full (record { what = Migrations; need = 1; free = 0 })

-- the name is tried first, then whether one runs, then the room
abbrev pub start_end : List ℕ → ℕ → MigrationsView → StartEnd
start_end name target v = if is_some (named name v.items) then AlreadyExists else start_idle target v (running v.items)

abbrev pub after_start : StartEnd → List ℕ → MigrationsView → MigrationsView
after_start (Started target) name v = record v {
  items = v.items ++ record { name = name; target = target; condition = Running } ∷ [];
  plan = cleared v.plan;
}
after_start AlreadyExists name v = v
after_start (Busy other) name v = v
after_start (Full room) name v = v

-- ---- a claim is taken

abbrev pub takes_claim : MigrationsView → Bool
takes_claim v = is_some (running v.items) && may_claim v.plan

-- the claim has the number behind the last
abbrev pub after_claim : List Row → MigrationsView → MigrationsView
after_claim rows v = if takes_claim v then record v { plan = claimed (v.plan.last + 1) (keys rows) v.plan } else v

-- ---- a claim goes on

abbrev pub next_step : Option Row → Advance
next_step None = RangeDone
next_step (Some e) = Prepare e.key e.rv

-- the first record of the claim's span that stands elsewhere is to be prepared
abbrev pub advance_end : Option Work → List Row → Advance
advance_end None rows = Lost
advance_end (Some w) rows = next_step (elsewhere w.span w.target rows)

abbrev pub after_step : ℕ → Option Row → MigrationsView → MigrationsView
after_step c None v = record v { plan = free_slot c v.plan }
after_step c (Some e) v = v

-- the slot of a claim with nothing left to do is free
abbrev pub after_advance : Option Work → List Row → MigrationsView → MigrationsView
after_advance None rows v = v
after_advance (Some w) rows v = after_step w.claim (elsewhere w.span w.target rows) v

-- a key is in the span of the work
abbrev pub IsInWork : KeyView → Option Work → Type 0
IsInWork k None = ⊥
IsInWork k (Some w) = in_span w.span k ≡ true

abbrev pub after_pass : Option Work → KeyView → MigrationsView → MigrationsView
after_pass None k v = v
after_pass (Some w) k v = record v { plan = pass_key w.claim k v.plan }

abbrev pub after_give_back : Option Work → MigrationsView → MigrationsView
after_give_back None v = v
after_give_back (Some w) v = record v { plan = give_back w.claim v.plan }

-- ---- the running migration ends

-- one runs, every key was handed out, and no claim is left
abbrev pub may_succeed : MigrationsView → Bool
may_succeed v = is_some (running v.items) && is_done v.plan

abbrev pub after_mark : MigrationsView → MigrationsView
after_mark v = if may_succeed v then record v { items = ended Succeeded v.items } else v

abbrev pub after_fail : MigrationsView → MigrationsView
after_fail v = record v { items = ended Failed v.items; plan = stopped (running v.items) v.plan }
