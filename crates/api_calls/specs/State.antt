-- The server's state after a list of items, and the numbers of the entries.
use Rattle.std.specs.Prelude.{ℕ, ◌+◌, Bool, List, [], ◌∷◌, ◌++◌, Option, None, Some, slice_index_or, nat_eq, if◌then◌else◌, false}
use Rattle.std.specs.List.{list_any}
use Rattle.kube_meta.specs.Plan.{Plan, Migration, running, ended, stopped, cleared, claimed, free_slot, give_back, pass_key, opening_plan}
use Rattle.kube_meta.specs.declared.limits.Condition.TheVariants.{Running, Succeeded, Failed}
use Rattle.api_calls.specs.declared.flags.Flags.{Flags}
use Rattle.api_calls.specs.Meaning.{Meaning}
use Rattle.api_calls.specs.Item.{Entry, Create, Replace, Mark, Release, Touch, Delete, SetVersions, Trim, StartMigration, MarkSucceeded, Note, Claim, RangeDone, GiveBack, Item, entry, note}
use Rattle.api_calls.specs.Objects.{Stored, find, put, without, updated, moved, marked_at, keys, born_or}

-- the objects stand by rising key, the migrations in the order of their starts; `stored` are the versions at which objects may stand
pub record State : Type 0 where
  pub flags : Flags
  pub stored : List ℕ
  pub objects : List Stored
  pub migrations : List Migration
  pub plan : Plan

abbrev pub served : Flags → ℕ → Bool
served f v = slice_index_or f.served v false

abbrev pub has : List ℕ → ℕ → Bool
has xs v = list_any (λ x. nat_eq x v) xs

-- a version joins the stored ones, if it isn't among them
abbrev pub joined : List ℕ → ℕ → List ℕ
joined xs v = if has xs v then xs else xs ++ v ∷ []

-- the target of the running migration, and the storage version where none runs
abbrev pub target_or : Option Migration → ℕ → ℕ
target_or None v = v
target_or (Some m) v = m.target

abbrev pub target_of : State → ℕ
target_of s = target_or (running s.migrations) s.flags.storage

-- another storage version: a running migration fails
abbrev pub moved_storage : Flags → State → State
moved_storage f s = record s {
  flags = f;
  stored = joined s.stored f.storage;
  migrations = ended Failed s.migrations;
  plan = stopped (running s.migrations) s.plan;
}

-- what the entry of number n changes
abbrev pub entry_effect : ℕ → Entry → State → State
entry_effect n (Create k h w) s =
    record s { objects = put (record { key = k; h = h; number = n; at = s.flags.storage; born = n; weight = w }) s.objects }
entry_effect n (Replace k over h w) s =
    record s { objects = put (record { key = k; h = h; number = n; at = s.flags.storage; born = born_or (find k s.objects) n; weight = w }) s.objects }
entry_effect n (Mark k over stamp) s = record s { objects = updated (marked_at n s.flags.storage stamp) k s.objects }
entry_effect n (Release k over) s = record s { objects = without k s.objects }
entry_effect n (Touch k c) s =
    record s { objects = updated (moved n (target_of s)) k s.objects; plan = pass_key c k s.plan }
entry_effect n (Delete k) s = record s { objects = without k s.objects }
entry_effect n (SetVersions f) s =
    if nat_eq f.storage s.flags.storage then record s { flags = f } else moved_storage f s
entry_effect n (Trim keep) s = record s { stored = keep }
entry_effect n (StartMigration name) s = record s {
  migrations = s.migrations ++ record { name = name; target = s.flags.storage; condition = Running } ∷ [];
  plan = cleared s.plan;
}
entry_effect n MarkSucceeded s = record s { migrations = ended Succeeded s.migrations }

abbrev pub note_effect : Note → State → State
note_effect (Claim c) s = record s { plan = claimed c (keys s.objects) s.plan }
note_effect (RangeDone c) s = record s { plan = free_slot c s.plan }
note_effect (GiveBack c) s = record s { plan = give_back c s.plan }

-- what an item changes, the next entry's number being n
abbrev pub effect : ℕ → Item → State → State
effect n (entry e) s = entry_effect n e s
effect n (note x) s = note_effect x s

-- the number of the entry after an item: entries are counted, and notes are not
abbrev pub number_after : ℕ → Item → ℕ
number_after n (entry e) = n + 1
number_after n (note x) = n

abbrev pub opening : Meaning → State
opening m = record {
  flags = m.opening;
  stored = m.opening.storage ∷ [];
  objects = [];
  migrations = [];
  plan = opening_plan;
}

-- ---- over a list

abbrev pub number_from : ℕ → List Item → ℕ
number_from n [] = n
number_from n (i ∷ log) = number_from (number_after n i) log

-- the number of the entry that comes next; the first has number 2
abbrev pub next_number : List Item → ℕ
next_number log = number_from 2 log

abbrev pub entries : List Item → ℕ
entries [] = 0
entries (entry e ∷ log) = 1 + entries log
entries (note x ∷ log) = entries log

-- 1 and the entries, of whatever kind
abbrev pub revision : List Item → ℕ
revision log = 1 + entries log

-- the effects one after another, the next entry having number n
abbrev pub state_from : ℕ → State → List Item → State
state_from n s [] = s
state_from n s (i ∷ log) = state_from (number_after n i) (effect n i s) log

abbrev pub state : Meaning → List Item → State
state m log = state_from 2 (opening m) log
