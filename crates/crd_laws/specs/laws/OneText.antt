-- That a text spells one list of entries is a proposition.
use Rattle.std.specs.Coded.{Π_prop, →_prop, Coded-set, coded_list}
use Rattle.kept_entries.specs.laws.EntryCode.{entry_code}
use Rattle.keep_laws.specs.Given.{OneList}

pub OneList-prop : IsProp OneList
OneList-prop = Π_prop (λ t. Π_prop (λ es. Π_prop (λ fs. →_prop (→_prop (Coded-set (coded_list entry_code) es fs)))))
