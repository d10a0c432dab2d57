use Rattle.std.proofs.Common.{ap, sym, ◌∙◌}
use Rattle.std.specs.Prelude.{option_map}
use Rattle.record_store.specs.ByKey.{find}
use Rattle.record_store.specs.View.{item_key}
use Rattle.api_core.specs.laws.PairLaws.{record-key, record-told}
use Rattle.api_core.proofs.present.Core.seen.Goals as goal

pub returns : goal.returns
returns g c =
    let told = record-told c.args.key.now (find item_key c.args.key.now c.self.inside.store.items) c.in-Some.record c.in-Some.bytes.bytes
    (record-key c.args.key.now c.self.inside.store.items) (sym c.in_ok-record.ensures.record ∙ ap (option_map (λ p. p.0)) c.in-Some.is)
    (sym c.in_ok-record.ensures.text ∙ ap (option_map (λ p. p.1.bytes)) c.in-Some.is) in
    rw (← c.self.view_is, c.in_ok-key.ensures) told
