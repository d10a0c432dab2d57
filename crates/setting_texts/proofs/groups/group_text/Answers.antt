use Rattle.std.proofs.Common.{◌∙◌, ◌++◌, ◌∷◌, ap, sym, List, ℕ}
use Rattle.kj_value.specs.Text.{quoted}
use Rattle.call_texts.specs.PageTexts.{joined_from}
use Rattle.setting_texts.specs.inner.SettingTexts.{before_group_name, before_preferred, before_versions, behind_versions, group_text, member_text}
use Rattle.setting_texts.proofs.Joined.{text_of-group}
use Rattle.setting_texts.proofs.Offering.{first-known}
use Rattle.call_texts.proofs.Pieces.{known, onward}
use Rattle.setting_texts.proofs.groups.group_text.Goals as goal

pub add_member-requires : goal.add_member-requires
add_member-requires g c =
    first-known (g.V.Versions.meaning c.args.lent.now.versions.now) c.first_of.result c.args.versions.now c.requires.some c.requires.known c.first_of.ensures

pub returns : goal.returns
unfolding before_group_name before_preferred before_versions behind_versions
returns g c = λ v vs is.
    let m = g.V.Versions.meaning c.args.lent.now.versions.now in
    let first = c.first_of.ensures v vs is in
    let group = known (quoted m.group) (c.as_str-2.ensures ∙ c.in_ok-group.ensures ∙ ap (λ (t : List ℕ). quoted t) (c.as_str.ensures ∙ c.group.ensures)) c.in_ok-add-2.ensures in
    let preferred = known (member_text m v) (ap (λ (n : ℕ). member_text m n) first) c.in_ok-add_member.ensures in
    let members = known (joined_from (member_text m) 0 (v ∷ vs)) (ap (λ (xs : List ℕ). joined_from (member_text m) 0 xs) is) c.in_ok-add_members.ensures in
    c.of_string.ensures
    ∙ ((onward c.in_ok-add.ensures (onward group (onward c.in_ok-add-3.ensures (onward preferred (onward c.in_ok-add-4.ensures (onward members c.in_ok-add-5.ensures)))))).text
    ∙ (ap (λ (t : List ℕ). t ++ group_text m v vs) c.new-text.ensures.bytes ∙ sym (text_of-group m v vs)))
