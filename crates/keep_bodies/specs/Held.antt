-- A body and the entries that are kept beside it, as one object.
use Rattle.std.specs.Prelude.{List}
use Rattle.kj_value.specs.Fields.{Pairs}
use Rattle.kept_entries.specs.declared.entry.Entry.{Entry}
use Rattle.keep_laws.specs.Whole.{Held}

abbrev pub held : Pairs → List Entry → Held
held x es = record { fields = x; entries = es }
