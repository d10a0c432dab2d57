use Rattle.std.proofs.Common.{nat_cmp}
use Rattle.std.specs.Cmp.Lexicographic.{slice_cmp}
use Rattle.std.proofs.lemmas.Fn.{always_returns_same}
use Rattle.kj_value.proofs.Search.{searched}
use Rattle.kj_value.proofs.names.seek.Goals as goal

pub returns : goal.returns
returns g c =
    searched g.F.Named.name_of c.args.name.now c.args.fields.now c.binary_search_by.result c.requires c.binary_search_by.ensures.bound (c.binary_search_by.ensures.position (λ f. slice_cmp nat_cmp (g.F.Named.name_of f) c.args.name.now) (always_returns_same _ _ _ (λ a r f' k. (k.met.1, λ j. record { 0 = k.met.0 j }))))
