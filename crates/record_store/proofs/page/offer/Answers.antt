use Rattle.std.proofs.Common.{ℕ, List, [], ◌∷◌, ap, sym, ◌∙◌}
use Rattle.std.proofs.lemmas.List.{length-map, map-append}
use Rattle.std.specs.Prelude.{◌&&◌, not, nat_eq, nat_le}
use Rattle.record_store.specs.declared.row.Row.{Row}
use Rattle.record_store.specs.inner.Picked.{pick_row, rows_in, shown_in, with_more}
use Rattle.record_store.proofs.Steps.{more-full, more-open}
use Rattle.record_store.proofs.page.offer.Goals as goal

pub returns-then-is_full-clause-offered : goal.returns-then-is_full-clause-offered
returns-then-is_full-clause-offered c = λ rest.
    let listing = c.args.listing.now in
    let is = ap (λ (n : ℕ). not (nat_eq c.args.listing.now.limit 0) && nat_le c.args.listing.now.limit n) (length-map c.args.listing.now.picks.items pick_row) ∙ sym c.is_full.ensures ∙ c.if-is_full.true in
    more-full listing.limit (shown_in listing) (pick_row c.args.pick) rest is

pub returns-clause-offered : goal.returns-clause-offered
returns-clause-offered c = λ rest.
    let listing = c.args.listing.now in
    let rows = ap rows_in c.in_ok-push.ensures.items ∙ map-append pick_row c.args.listing.now.picks.items (c.args.pick ∷ []) in
    let is = ap (λ (n : ℕ). not (nat_eq c.args.listing.now.limit 0) && nat_le c.args.listing.now.limit n) (length-map c.args.listing.now.picks.items pick_row) ∙ sym c.is_full.ensures ∙ c.if-is_full.false in
    ap (λ (rs : List Row). with_more c.args.listing.now.limit (record { rows = rs; behind = c.args.listing.now.behind }) rest) rows
    ∙ more-open listing.limit (shown_in listing) (pick_row c.args.pick) rest is
