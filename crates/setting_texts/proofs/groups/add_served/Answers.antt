use Rattle.std.proofs.Common.{◌≡◌, ◌∙◌, ap, sym, subst, List, ℕ, Bool}
use Rattle.std.specs.Prelude.{if◌then◌else◌}
use Rattle.std.specs.List.{insert}
use Rattle.setting_texts.specs.inner.Offered.{rank_of, ranked_with}
use Rattle.setting_texts.proofs.Offering.{insert-rank}
use Rattle.setting_texts.proofs.groups.add_served.Goals as goal

pub returns : goal.returns
returns g c =
    let m = g.V.Versions.meaning c.args.versions.now in
    let old = c.args.ranked.now.items in
    let may = c.is_served.ensures.served in
    let rank : c.rank_of-rank.result ≡ rank_of m c.args.v old = c.rank_of-rank.ensures.rank ∙ ap (λ (ws : List ℕ). rank_of m c.args.v ws) c.as_slice.ensures.value in
    let put : c.insert.new.self.items ≡ ranked_with m c.args.v old = c.in_ok-insert.ensures.items ∙ (ap (λ (i : ℕ). insert old i c.args.v) rank ∙ insert-rank m c.args.v old) in
    subst (λ (b : Bool). c.insert.new.self.items ≡ (if b then ranked_with m c.args.v old else old)) (sym c.if-not-is_served.false ∙ may) put
