use Rattle.std.proofs.Common.{◌≡◌, [], ◌∷◌, ◌+◌, ◌-◌, take, drop, List, ℕ, Option, Some, None, ap, sym, ◌∙◌, arith}
use Rattle.std.proofs.lemmas.Str.Pattern.{rfind_char}
use Rattle.hub_cells.specs.Cross.{parts}
use Rattle.hub_cells.specs.Answer.{answer_by}
use Rattle.hub_cells.proofs.Colons.{last_at, none_at}
use Rattle.hub_cells.proofs.crossing.at_last_colon.Goals as goal

pub returns-in_ok-second-in-Some : goal.returns-in_ok-second-in-Some
returns-in_ok-second-in-Some c =
    let k = c.in-Some.i in
    let found = rfind_char 58 c.args.t.now (Some k) c.in-Some.ensures.cases (omega arith) in
    let whole : k - 0 ≡ k = omega arith in
    let first : c.in_ok-first-in-Some.first.bytes ≡ take k c.args.t.now = c.in_ok-first-in-Some.ensures ∙ c.range.ensures.value ∙ ap (λ (n : ℕ). take n c.args.t.now) whole in
    let second : c.in_ok-second-in-Some.second.bytes ≡ drop (k + 1) c.args.t.now = c.in_ok-second-in-Some.ensures ∙ c.range_from.ensures.value in
    rw (c.matching.ensures, first, second) (ap (λ (o : Option (List ℕ × List ℕ)). answer_by (parts o) (None ∷ None ∷ [])) (sym (last_at c.args.t.now k found.0 found.1 found.2)))

pub returns-in-None : goal.returns-in-None
returns-in-None c =
    let none = rfind_char 58 c.args.t.now None c.in-None.ensures.cases (omega arith) in
    rw c.showing.ensures (ap (λ (o : Option (List ℕ × List ℕ)). answer_by (parts o) (None ∷ None ∷ [])) (sym (none_at c.args.t.now none)))
