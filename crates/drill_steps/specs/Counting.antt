-- What a reply adds to the counts, whatever the request was that it answers.
use Rattle.std.specs.Prelude.{ℕ, ◌+◌, ◌-◌, ◌^◌, min, Bool, true, false, Ok, Err, if◌then◌else◌}
use Rattle.api_calls.specs.Ends.{TurnEnd, idle, claimed, prepare, touched, missed, range_done, finished}
use Rattle.api_calls.specs.Refusal.{RefusalView}
use Rattle.api_calls.specs.Refusal as refusal
use Rattle.api_calls.specs.Replies.{Answer}
use Rattle.drill_steps.specs.declared.counts.Counts.{Counts}

-- a count has 64 bits, and stays at its greatest number
abbrev pub one_more : ℕ → ℕ
one_more n = min (n + 1) (2 ^ 64 - 1)

abbrev pub no_counts : Counts
no_counts = record { created = 0; replaced = 0; deleted = 0; missed = 0; refused = 0; touched = 0; migrated = 0 }

-- nothing has the name (404), or something has it already
abbrev pub is_miss : RefusalView → Bool
is_miss (refusal.not_found name) = true
is_miss refusal.no_resource = true
is_miss (refusal.already_exists name) = true
is_miss (refusal.conflict name newer) = false
is_miss (refusal.invalid subject cause) = false
is_miss (refusal.bad_request why) = false
is_miss (refusal.expired floor) = false
is_miss (refusal.full room) = false
is_miss (refusal.migration_running name) = false
is_miss (refusal.still_stored version key) = false
is_miss refusal.converter = false
is_miss refusal.no_memory = false

abbrev pub with_refusal : RefusalView → Counts → Counts
with_refusal e c = if is_miss e then record c { missed = one_more c.missed } else record c { refused = one_more c.refused }

abbrev pub with_create : Answer → Counts → Counts
with_create (Ok r) c = record c { created = one_more c.created }
with_create (Err e) c = with_refusal e c

abbrev pub with_replace : Answer → Counts → Counts
with_replace (Ok r) c = record c { replaced = one_more c.replaced }
with_replace (Err e) c = with_refusal e c

abbrev pub with_delete : Answer → Counts → Counts
with_delete (Ok r) c = record c { deleted = one_more c.deleted }
with_delete (Err e) c = with_refusal e c

-- of a change of the storage version, and of the start of a migration
abbrev pub with_setting : Answer → Counts → Counts
with_setting (Ok r) c = c
with_setting (Err e) c = with_refusal e c

-- of a worker's turn
abbrev pub with_turn : TurnEnd → Counts → Counts
with_turn idle c = c
with_turn claimed c = c
with_turn (prepare k rv) c = c
with_turn (touched n) c = record c { touched = one_more c.touched }
with_turn missed c = c
with_turn range_done c = c
with_turn (finished n) c = record c { migrated = one_more c.migrated }
