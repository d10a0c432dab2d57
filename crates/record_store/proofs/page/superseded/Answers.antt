use Rattle.std.proofs.Common.{◌-◌, Option, ap, sym, ◌∙◌, arith, Bor}
use Rattle.std.specs.Prelude.{option_copied}
use Rattle.record_store.specs.declared.past.Past.{Past}
use Rattle.record_store.proofs.Steps.{get_some, older}
use Rattle.record_store.proofs.page.superseded.Goals as goal

pub unreachable-requires : goal.unreachable-requires
unreachable-requires c =
    get_some c.args.window.now.items (c.loop-place.place - 1) (omega (arith, c.loop-place.invariant.within, c.loop-place-test.true)) (sym c.get.ensures ∙ ap (λ (o : Option (Bor Past)). option_copied o) c.in_default.is)

pub loop-place-preserved : goal.loop-place-preserved
loop-place-preserved c =
    let got = sym c.get.ensures ∙ ap (λ (o : Option (Bor Past)). option_copied o) c.in-Some.is in
    record {
      within = omega (arith, c.loop-place.invariant.within);
      rows = older c.args.rv c.args.window.now.items (c.loop-place.place - 1) c.loop-place.place c.in-Some.past.now _ _ got (omega (arith, c.loop-place-test.true)) c.in_ok-put_stood.ensures.rows c.loop-place.invariant.rows;
      order = c.in_ok-put_stood.ensures.order;
    }
