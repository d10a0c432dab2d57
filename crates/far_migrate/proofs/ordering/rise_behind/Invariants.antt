use Rattle.std.proofs.Common.{◌≡◌, map, drop, option_map}
use Rattle.kj_value.specs.Seen.{json}
use Rattle.wire_client.specs.Keys.{texts_key}
use Rattle.far_migrate.specs.Pages.{rise_behind}
use Rattle.far_migrate.proofs.ordering.rise_behind.Given as goal

-- the order is decided by what is left
abbrev pub invariant-loop-i : goal.invariant-loop-i
invariant-loop-i l = rise_behind (option_map texts_key l.fn.last) (map json l.objects) ≡ rise_behind (option_map texts_key l.before) (drop l.i (map json l.objects))
