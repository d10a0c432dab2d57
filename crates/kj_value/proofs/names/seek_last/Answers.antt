use Rattle.std.proofs.Common.{◌≡◌, ℕ, List, length, get_or, nat_cmp, Less, Equal, ap, sym, ◌∙◌, arith}
use Rattle.std.specs.Prelude.{◌-◌}
use Rattle.std.specs.Cmp.Lexicographic.{slice_cmp}
use Rattle.kj_value.proofs.Search.{last_miss, last_hit}
use Rattle.kj_value.proofs.names.seek_last.Goals as goal

pub returns-in-Less : goal.returns-in-Less
returns-in-Less g c =
    let name = g.F.Named.name_of in
    let fs = c.args.fields.now in
    let k = c.args.name.now in
    let f = c.index-fields-count.result in
    let order : slice_cmp nat_cmp (name (get_or fs (length fs - 1) f)) k ≡ Less =
    ap (λ x. slice_cmp nat_cmp (name x) k) (sym c.index-fields-count.is) ∙ ap (λ (n : List ℕ). slice_cmp nat_cmp n k) (sym c.name.ensures) ∙ sym c.cmp.ensures ∙ c.in-Less.is in
    last_miss name k fs (length fs - 1) f c.requires (omega (arith, c.if-count-eq0.false)) order

pub returns-in-Equal : goal.returns-in-Equal
returns-in-Equal g c =
    let name = g.F.Named.name_of in
    let fs = c.args.fields.now in
    let k = c.args.name.now in
    let f = c.index-fields-count.result in
    let order : slice_cmp nat_cmp (name (get_or fs (length fs - 1) f)) k ≡ Equal =
    ap (λ x. slice_cmp nat_cmp (name x) k) (sym c.index-fields-count.is) ∙ ap (λ (n : List ℕ). slice_cmp nat_cmp n k) (sym c.name.ensures) ∙ sym c.cmp.ensures ∙ c.in-Equal.is in
    last_hit name k fs (length fs - 1) f c.requires (omega (arith, c.if-count-eq0.false)) order
