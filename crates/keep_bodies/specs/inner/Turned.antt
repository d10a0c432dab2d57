-- For private clauses: an entry with its path the other way round.
use Rattle.std.specs.Prelude.{reverse}
use Rattle.kept_entries.specs.declared.entry.Entry.{Entry}

abbrev pub turned : Entry → Entry
turned e = record { at = reverse e.at; was = e.was }
