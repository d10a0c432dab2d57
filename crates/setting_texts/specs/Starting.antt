-- What the start of a migration makes of its body, and the texts that show it.
use Rattle.std.specs.Prelude.{◌≡◌, ◌<◌, ℕ, suc, Bool, true, false, List, [], ◌∷◌, Option, None, Err}
use Rattle.kj_value.specs.Text.{text_of}
use Rattle.kj_value.specs.Txt.{Bytes}
use Rattle.kube_meta.specs.declared.limits.Condition.TheVariants.{Running}
use Rattle.api_calls.specs.Bodies.{RefusesStart}
use Rattle.api_calls.specs.Documents.{migration_document}
use Rattle.api_calls.specs.Ends.{StartEnd, started, taken, busy, no_room}
use Rattle.api_calls.specs.Item.{Item}
use Rattle.api_calls.specs.Meaning.{Fault, Meaning}
use Rattle.api_calls.specs.Replies.{Answer, start_refusal}

-- ---- the body

-- a body that starts no migration
abbrev pub IsUnstarted : Meaning → List ℕ → Answer → Option Item → Type 0
IsUnstarted m body a i = (f : Fault) × RefusesStart m body f × (a ≡ Err (start_refusal f)) × (i ≡ None)

-- ---- the text

-- the text of a migration of a name that runs, to a target
abbrev pub running_text : Meaning → List ℕ → ℕ → List ℕ
running_text m name target = text_of (migration_document m (record { name = name; target = target; condition = Running }))

-- texts of a running migration, to the versions from one on
abbrev pub HasTexts : Meaning → List ℕ → ℕ → List Bytes → Type 0
HasTexts m name v [] = Unit {0}
HasTexts m name v (t ∷ ts) = (t.bytes ≡ running_text m name v) × HasTexts m name (suc v) ts

-- ---- the turn

abbrev pub is_started : StartEnd → Bool
is_started (started target) = true
is_started taken = false
is_started (busy other) = false
is_started (no_room room) = false

-- the target of what was started is one of so many versions
abbrev pub HasTarget : ℕ → StartEnd → Type 0
HasTarget count (started target) = target < count
HasTarget count taken = Unit {0}
HasTarget count (busy other) = Unit {0}
HasTarget count (no_room room) = Unit {0}
