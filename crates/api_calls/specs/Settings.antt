-- What is decided of a change of the flags, a trim of the stored list and a start of a migration, the next number being n.
use Rattle.std.specs.Prelude.{ℕ, Bool, ◌&&◌, List, [], ◌∷◌, Option, None, Some, filter, nat_eq, is_some, option_map, if◌then◌else◌}
use Rattle.std.specs.List.{list_all}
use Rattle.kube_meta.specs.Key.{KeyView}
use Rattle.kube_meta.specs.Plan.{Migration, named, running}
use Rattle.kube_meta.specs.AtVersion as at_version
use Rattle.kube_meta.specs.declared.limits.Limits.{Limits}
use Rattle.kube_meta.specs.declared.limits.Room.{Room}
use Rattle.std.proofs.Math.Bool.{beq}
use lib.Pointwise.{pointwise}
use Rattle.api_calls.specs.declared.flags.Flags.{Flags}
use Rattle.api_calls.specs.Item.{entry, SetVersions, Trim, StartMigration}
use Rattle.api_calls.specs.Objects.{Stored, object_at, object_key}
use Rattle.api_calls.specs.State.{State, has, joined}
use Rattle.api_calls.specs.Room.{lacking_migrations}
use Rattle.api_calls.specs.Ends.{SetEnd, set, unchanged, TrimEnd, trimmed, untrimmed, unknown, still_stored, StartEnd, started, taken, busy, no_room, Decision, says, enters}

-- ---- flags

abbrev pub same_flags : Flags → Flags → Bool
same_flags f g = pointwise beq f.served g.served && nat_eq f.storage g.storage

abbrev pub set_decision : State → Flags → Decision SetEnd
set_decision s f =
    if same_flags f s.flags then says (unchanged s.stored)
    else enters (set (joined s.stored f.storage)) (entry (SetVersions f))

-- ---- the stored list

-- the first version that isn't in the stored list
abbrev pub first_unknown : List ℕ → List ℕ → Option ℕ
first_unknown stored [] = None
first_unknown stored (v ∷ vs) = if has stored v then first_unknown stored vs else Some v

-- the key of the first object that stands at a version
abbrev pub first_at : ℕ → List Stored → Option KeyView
first_at v es = at_version.first_at object_at object_key v es

-- why a version has to be kept: it is the storage version, which no key tells, or the object of a key stands there
abbrev pub hold_of : ℕ → State → ℕ → Option (Option KeyView)
hold_of storage s v = if nat_eq v storage then Some None else option_map (λ (k : KeyView). Some k) (first_at v s.objects)

abbrev pub held_or : ℕ → Option (Option KeyView) → Option (ℕ × Option KeyView) → Option (ℕ × Option KeyView)
held_or v None more = more
held_or v (Some k) more = Some (v, k)

-- the first version of a stored list that isn't kept and has to be
abbrev pub first_held : List ℕ → State → List ℕ → Option (ℕ × Option KeyView)
first_held keep s [] = None
first_held keep s (v ∷ vs) = if has keep v then first_held keep s vs else held_or v (hold_of s.flags.storage s v) (first_held keep s vs)

-- the kept versions stay in the stored list's order
abbrev pub trim_free : State → List ℕ → Option (ℕ × Option KeyView) → Decision TrimEnd
trim_free s keep (Some held) = says (still_stored held.0 held.1)
trim_free s keep None =
    if list_all (has keep) s.stored then says (untrimmed s.flags s.stored)
    else enters (trimmed s.flags (filter (has keep) s.stored)) (entry (Trim (filter (has keep) s.stored)))

abbrev pub trim_known : State → List ℕ → Option ℕ → Decision TrimEnd
trim_known s keep (Some v) = says (unknown v)
trim_known s keep None = trim_free s keep (first_held keep s s.stored)

abbrev pub trim_decision : State → List ℕ → Decision TrimEnd
trim_decision s keep = trim_known s keep (first_unknown s.stored keep)

-- ---- migrations

abbrev pub start_room : State → List ℕ → Option Room → Decision StartEnd
start_room s name (Some r) = says (no_room r)
start_room s name None = enters (started s.flags.storage) (entry (StartMigration name))

abbrev pub start_idle : Limits → State → List ℕ → Option Migration → Decision StartEnd
start_idle limits s name (Some m) = says (busy m.name)
start_idle limits s name None = start_room s name (lacking_migrations limits s.migrations)

abbrev pub start_decision : Limits → State → List ℕ → Decision StartEnd
start_decision limits s name =
    if is_some (named name s.migrations) then says taken else start_idle limits s name (running s.migrations)
