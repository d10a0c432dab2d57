use Rattle.std.proofs.Common.{◌≡◌, [], ◌∷◌, ◌++◌, List, map, ap, sym, ◌∙◌, append_assoc, arith}
use Rattle.std.proofs.lemmas.List.{append-nil, map-append, nil_from_length}
use Rattle.std.specs.Vec.Iter.{into_iter_items}
use Rattle.kept_entries.specs.declared.entry.Entry.{Entry}
use Rattle.keep_laws.specs.Entry.{under}
use Rattle.keep_bodies.specs.inner.Turned.{turned}
use Rattle.keep_bodies.proofs.under.put_under.Goals as goal

pub loop-e-preserved : goal.loop-e-preserved
loop-e-preserved c =
    let l = c.loop-e in
    let k = c.args.name.now in
    let before = map turned l.entries.items in
    let left = into_iter_items c.next.new.self in
    let step : into_iter_items l.e-iterator ≡ c.in-Some.e ∷ left = c.in-Some.ensures.steps.0 in
    let rest = map (under k) (map turned left) in
    ap (λ (gs : List Entry). map turned gs ++ rest) c.in_ok-push.ensures.items ∙ ap (λ (gs : List Entry). gs ++ rest) (map-append turned l.entries.items (c.in_ok-with_name.field-0 ∷ []))
    ∙ append_assoc before (turned c.in_ok-with_name.field-0 ∷ []) rest ∙ ap (λ (g : Entry). before ++ g ∷ rest) c.in_ok-with_name.ensures
    ∙ ap (λ (gs : List Entry). before ++ map (under k) (map turned gs)) (sym step) ∙ l.invariant

pub returns : goal.returns
returns c =
    let l = c.loop-e in
    let before = map turned l.entries.items in
    let none : into_iter_items l.e-iterator ≡ [] = nil_from_length _ (grind (arith, c.in-None.ensures.steps.0)) in
    sym (append-nil before) ∙ ap (λ (gs : List Entry). before ++ map (under c.args.name.now) (map turned gs)) (sym none) ∙ l.invariant
