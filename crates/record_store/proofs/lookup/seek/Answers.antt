use Rattle.std.proofs.lemmas.Fn.{always_returns_same}
use Rattle.kube_meta.specs.Key.{key_cmp}
use Rattle.record_store.proofs.Search.{searched}
use Rattle.record_store.proofs.lookup.seek.Goals as goal

pub returns : goal.returns
returns g c =
    searched g.K.Keyed.key_of (record { ns = c.args.ns.now; name = c.args.name.now }) c.args.items.now c.binary_search_by.result c.requires c.binary_search_by.ensures.bound (c.binary_search_by.ensures.position (λ f. key_cmp (g.K.Keyed.key_of f) (record { ns = c.args.ns.now; name = c.args.name.now })) (always_returns_same _ _ _ (λ a r f' k. (k.met.1, λ j. (k.met.0.0 j, k.met.0.1 j)))))
