use Rattle.std.proofs.Common.{◌≡◌, ◌++◌, drop}
use Rattle.std.specs.Prelude.{string_bytes}
use Rattle.call_texts.specs.PageTexts.{joined_from}
use Rattle.setting_texts.specs.inner.SettingTexts.{member_text}
use Rattle.setting_texts.proofs.groups.add_members.Given as goal

abbrev pub invariant-loop-i : goal.invariant-loop-i
invariant-loop-i g l =
    let m = g.V.Versions.meaning l.lent.versions.now in
    string_bytes l.text ++ joined_from (member_text m) l.i (drop l.i l.versions) ≡ string_bytes l.fn.text ++ joined_from (member_text m) 0 l.versions
