use Rattle.std.proofs.Common.{ap, option_map}
use Rattle.kj_value.specs.Seen.{json}
use Rattle.crd_settings.proofs.Compared.{own_test}
use Rattle.crd_settings.proofs.own.is_own.Goals as goal

pub returns-in-Some : goal.returns-in-Some
returns-in-Some c =
    own_test c.args.definition.now _ _ _ _ _ (ap (option_map (λ w. json w.now)) c.in-Some.is) c.versions_in.ensures c.spec.ensures c.same_spec.ensures
