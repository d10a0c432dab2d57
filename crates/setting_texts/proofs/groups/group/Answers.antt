use Rattle.std.proofs.Common.{◌<◌, ◌∙◌, sym, subst, List, ℕ, length}
use Rattle.api_calls.specs.Legal.{Each}
use Rattle.setting_texts.proofs.Offering.{group-reply, offered-known, offered-some}
use Rattle.setting_texts.proofs.groups.group.Goals as goal

pub group_text-requires-clause-known : goal.group_text-requires-clause-known
group_text-requires-clause-known g c =
    let m = g.V.Versions.meaning c.args.lent.now.versions.now in
    subst (λ (vs : List ℕ). Each (λ v. v < m.count) vs) (sym c.as_slice.ensures.value) (offered-known m c.args.flags.now c.in_ok-offered.offered.items c.in_ok-offered.ensures)

pub group_text-requires-clause-some : goal.group_text-requires-clause-some
group_text-requires-clause-some g c =
    let m = g.V.Versions.meaning c.args.lent.now.versions.now in
    subst (λ (vs : List ℕ). 0 < length vs) (sym c.as_slice.ensures.value) (offered-some m c.args.flags.now c.in_ok-offered.offered.items c.requires c.in_ok-offered.ensures)

pub returns : goal.returns
returns g c = λ s same.
    let m = g.V.Versions.meaning c.args.lent.now.versions.now in
    group-reply m c.args.flags.now s c.in_ok-offered.offered.items c.in_ok-text.text.bytes same (offered-some m c.args.flags.now c.in_ok-offered.offered.items c.requires c.in_ok-offered.ensures) c.in_ok-offered.ensures
    (λ v ws is. c.in_ok-text.ensures v ws (c.as_slice.ensures.value ∙ is))
