use Rattle.std.proofs.Common.{◌≡◌, ap, ◌∙◌, ◌++◌, ◌∷◌, [], List, replicate, arith}
use Rattle.std.proofs.lemmas.List.{replicate_more}
use Rattle.kube_meta.specs.Plan.{Bound, Start, Slot, Free, Migration}
use Rattle.migrate_core.proofs.Plans.{seen}
use Rattle.migrate_core.proofs.migrations.Migrations.open.Goals as goal

pub loop-place-preserved : goal.loop-place-preserved
loop-place-preserved c =
    c.in_ok-push.ensures.items
    ∙ ap (λ (t : List Slot). t ++ c.free.result ∷ []) c.loop-place.invariant
    ∙ ap (λ (s : Slot). replicate c.loop-place._place Free ++ s ∷ []) c.free.ensures
    ∙ replicate_more c.loop-place._place Free

pub returns : goal.returns
returns c =
    let count : c.loop-place._place ≡ 16 = omega (arith, c.loop-place-test.false, c.loop-place.auto._place-end) in
    ap (λ (t : List Migration). seen t c.args.limit c.start.result c.loop-place.slots.items 0) c.in_ok-items.ensures.items
    ∙ ap (λ (t : Bound). seen [] c.args.limit t c.loop-place.slots.items 0) c.start.ensures
    ∙ ap (λ (t : List Slot). seen [] c.args.limit Start t 0) (c.loop-place.invariant ∙ ap (λ n. replicate n Free) count)
