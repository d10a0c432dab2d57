use Rattle.std.proofs.Common.{◌≡◌, ◌≢◌, List, ℕ, MatchBool, subst}
use Rattle.std.specs.Cmp.Lexicographic.{told_text}
use Rattle.kj_value.proofs.names.is_named.Goals as goal

pub returns : goal.returns
returns g c =
    subst (λ (n : List ℕ). MatchBool c.eq.result (n ≡ c.args.name.now) (n ≢ c.args.name.now)) c.name-own.ensures (told_text c.name-own.result.now c.args.name.now c.eq.result c.eq.ensures)
