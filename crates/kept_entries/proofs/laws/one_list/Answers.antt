use Rattle.std.proofs.Common.{sym, ◌∙◌}
use Rattle.kept_entries.specs.Text.{kept_json}
use Rattle.kept_entries.proofs.OneList.{kept_one}
use Rattle.kept_entries.proofs.laws.one_list.Goals as goal

pub returns : goal.returns
returns c =
    λ t es fs k l.
    kept_one es fs (c.one_text.ensures (kept_json es) (kept_json fs) k.text.sound l.text.sound (sym k.text.spelled ∙ l.text.spelled))
