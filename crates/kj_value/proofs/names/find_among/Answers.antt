use Rattle.std.proofs.Common.{◌≡◌, ◌≢◌, ℕ, [], get_or, map, sym, ap, ◌∙◌, arith, below_more}
use Rattle.std.proofs.lemmas.List.{length-map}
use Rattle.kj_value.proofs.Search.{name_at, found_at, found_none}
use Rattle.kj_value.proofs.names.find_among.Goals as goal

pub loop-i-preserved : goal.loop-i-preserved
loop-i-preserved g c =
    let name = g.F.Named.name_of in
    let fs = c.args.fields.now in
    let i = c.loop-i.i in
    let f = c.index-fields-i.result in
    let at : get_or (map name fs) i [] ≡ name f = name_at name fs i f (omega arith) ∙ ap name (sym c.index-fields-i.is) in
    let other : name f ≢ c.args.name.now = rw c.if-is_named.false at c.is_named.ensures in
    below_more (λ (j : ℕ). get_or (map name fs) j [] ≢ c.args.name.now) i c.loop-i.invariant (λ q. other (sym at ∙ q))

pub returns-then-is_named : goal.returns-then-is_named
returns-then-is_named g c =
    let name = g.F.Named.name_of in
    let fs = c.args.fields.now in
    let f = c.index-fields-i.result in
    let same : name f ≡ c.args.name.now = rw c.if-is_named.true at c.is_named.ensures in
    found_at name c.args.name.now fs c.loop-i.i f c.requires (omega arith) (ap name (sym c.index-fields-i.is) ∙ same)

pub returns : goal.returns
returns g c =
    let name = g.F.Named.name_of in
    let fs = c.args.fields.now in
    found_none c.args.name.now (map name fs) (λ j p. c.loop-i.invariant j (omega (arith, length-map fs name, p)))
