use Rattle.std.proofs.Common.{◌≡◌, drop, map}
use Rattle.std.specs.List.{list_all}
use Rattle.kj_value.specs.Seen.{json}
use Rattle.crd_settings.specs.Keeping.{is_name_text}
use Rattle.crd_settings.proofs.keeping.are_texts.Given as goal

abbrev pub invariant-loop-v : goal.invariant-loop-v
invariant-loop-v l = list_all is_name_text (map json (drop l.v-index l.items)) ≡ list_all is_name_text (map json l.items)
