use Rattle.std.proofs.Common.{arith}
use Rattle.std.proofs.lemmas.Bool.Decides.{Decides-eqb}
use Rattle.std.proofs.lemmas.Slice.Eq.{strip_suffix_is}
use Rattle.http_wire.proofs.LineLemmas.{ends_yes, ends_none}
use Rattle.http_wire.proofs.lines.ends_in.Goals as goal

pub returns-in-Some-len1-up : goal.returns-in-Some-len1-up
returns-in-Some-len1-up c =
    let cut = rw c.in-Some-len1-up.is at (strip_suffix_is Decides-eqb c.args.bytes.now c.args.ends.now c.strip_suffix.result c.strip_suffix.ensures.cases) in
    ends_yes _ c.in-Some-len1-up.field-0.now _ _ cut (omega (arith, c.in-Some-len1-up.len_at_least)) c.is_inside.ensures

pub returns-in-None : goal.returns-in-None
returns-in-None c =
    let none = rw c.in-None.is at (strip_suffix_is Decides-eqb c.args.bytes.now c.args.ends.now c.strip_suffix.result c.strip_suffix.ensures.cases) in
    ends_none _ _ none
