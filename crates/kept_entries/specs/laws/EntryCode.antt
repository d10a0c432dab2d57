-- How the logic stores an entry: as the pair of its path and its part.
use Rattle.std.specs.Prelude.{ℕ, List, refl}
use Rattle.std.specs.Coded.{Coded, code_by, coded×, coded_ℕ, coded_list}
use Rattle.kj_value.specs.laws.JsonCode.{json_code}
use Rattle.kj_value.specs.Fields.{Pairs}
use Rattle.kept_entries.specs.declared.entry.Entry.{Entry}

abbrev pub part_code : Coded Pairs
part_code = coded_list (coded× (coded_list coded_ℕ) json_code)

abbrev pub entry_code : Coded Entry
entry_code =
    code_by (List (List ℕ) × Pairs) (coded× (coded_list (coded_list coded_ℕ)) part_code) (λ e. (e.at, e.was)) (λ p. record { at = p.0; was = p.1 }) (λ _. refl)
