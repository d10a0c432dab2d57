-- For private clauses: lent entries from an object inside on, to which so many names lead.
use Rattle.std.specs.Prelude.{ℕ, List, map, drop}
use Rattle.kept_entries.specs.declared.entry.Entry.{Entry}
use Rattle.keep_bodies.specs.declared.left.Left.{Left}

abbrev pub left_entry : ℕ → Entry → Entry
left_entry n e = record { at = drop n e.at; was = e.was }

abbrev pub entries_left : Left → List Entry
entries_left l = map (left_entry l.depth) l.entries.now
