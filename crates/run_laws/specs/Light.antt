-- How large the texts of a history are.
use Rattle.std.specs.Prelude.{◌≤◌, length}
use Rattle.api_calls.specs.Item.{Create, Delete, Entry, Item, Mark, MarkSucceeded, Release, Replace, SetVersions, StartMigration, Touch, Trim, entry, note}
use Rattle.api_calls.specs.Meaning.{Meaning}
use Rattle.far_laws.specs.TakenBack.{IsLight}

abbrev pub entry_light : Meaning → Entry → Type 0
entry_light m (Create key h w) = IsLight m h
entry_light m (Replace key over h w) = IsLight m h
entry_light m (Mark key over stamp) = Unit {0}
entry_light m (Release key over) = Unit {0}
entry_light m (Touch key c) = Unit {0}
entry_light m (Delete key) = Unit {0}
entry_light m (SetVersions f) = Unit {0}
entry_light m (Trim keep) = Unit {0}
entry_light m (StartMigration name) = Unit {0}
entry_light m MarkSucceeded = Unit {0}

-- the value that is entered measures at most 262,144 bytes at every version
abbrev pub EntersLight : Meaning → Item → Type 0
EntersLight m (entry e) = entry_light m e
EntersLight m (note x) = Unit {0}

-- The kind of a list stands in each page, and is short: a definition is refused whose `kind` or `listKind` has more than 63 bytes.
abbrev pub HasShortKind : Meaning → Type 0
HasShortKind m = length m.list_kind ≤ 67
