use Rattle.std.proofs.Common.{◌≢◌, ◌∙◌, sym, take}
use Rattle.std.specs.Cmp.Lexicographic.{same_text, other_text}
use Rattle.document_text.proofs.Places.{opening, found, goes_on, shrinks, never_ends}
use Rattle.document_text.proofs.place.metadata_of.Goals as goal

pub returns-in-Some : goal.returns-in-Some
returns-in-Some c = λ es os fs h.
    let p = c.loop-left.invariant es os fs h in
    found p.0 os fs c.loop-left.left.now c.in-Some.inside.now p.1 (same_text (take 12 c.loop-left.left.now) opening (sym c.in-Some.ensures.cases.0)) c.in-Some.ensures.cases.1

pub loop-left-smaller : goal.loop-left-smaller
loop-left-smaller c =
    let r = c.requires in
    let p = c.loop-left.invariant r.0 r.1 r.2 r.3 in
    let other : take 12 c.loop-left.left.now ≢ opening = other_text (take 12 c.loop-left.left.now) opening (sym c.in_default.ensures.cases) in
    shrinks r.1 r.2 c.loop-left.left.now other p.0 c.in-Some-split_first.field-0-0.now c.in-Some-split_first.more.now p.1 (sym c.ending.ensures ∙ c.in-Some-split_first.ensures.cases.0)

pub loop-left-preserved : goal.loop-left-preserved
loop-left-preserved c = λ es os fs h.
    let p = c.loop-left.invariant es os fs h in
    let other : take 12 c.loop-left.left.now ≢ opening = other_text (take 12 c.loop-left.left.now) opening (sym c.in_default.ensures.cases) in
    goes_on os fs c.loop-left.left.now other p.0 c.in-Some-split_first.field-0-0.now c.in-Some-split_first.more.now p.1 (sym c.ending.ensures ∙ c.in-Some-split_first.ensures.cases.0)

pub unreachable-requires : goal.unreachable-requires
unreachable-requires c =
    let r = c.requires in
    let p = c.loop-left.invariant r.0 r.1 r.2 r.3 in
    let other : take 12 c.loop-left.left.now ≢ opening = other_text (take 12 c.loop-left.left.now) opening (sym c.in_default.ensures.cases) in
    never_ends r.1 r.2 c.loop-left.left.now other p.0 c.ending.result.now p.1 c.ending.ensures c.in-None.ensures.cases
