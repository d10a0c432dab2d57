use Rattle.std.proofs.Common.{◌∙◌, ap, sym}
use Rattle.record_store.specs.View.{StoreView, item_key}
use Rattle.record_store.specs.Inside.{item_of}
use Rattle.record_store.specs.Standing.{first_held, item_at}
use Rattle.record_store.proofs.Standings.{first_held-map}
use Rattle.record_store.proofs.store.Store.first_held.Goals as goal

pub returns : goal.returns
returns c =
    c.first_among.ensures
    ∙ sym (first_held-map item_at item_key (item_of c.self.inside.region) c.args.versions.now c.self.inside.index.rows)
    ∙ ap (λ (v : StoreView). first_held item_at item_key c.args.versions.now v.items) c.self.view_is
