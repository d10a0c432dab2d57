use Rattle.std.proofs.Common.{refl, subst, ap}
use Rattle.place.specs.Place.{place_of}
use Rattle.far_migrate.specs.Counts.{counts_of}
use Rattle.far_migrate.specs.Migrates.{Migrates, tally_of}
use Rattle.far_migrate.specs.Puts.{Handled}
use Rattle.far_server.proofs.Made.{chain_of, where_ok}
use Rattle.far_server.proofs.Saying.{end_says}
use Rattle.far_server.proofs.upgrading.upgrade.Goals as goal

pub returns-clause-exchanged : goal.returns-clause-exchanged
returns-clause-exchanged g c =
    let made = c.migrate.ensures.made in
    record {
      exchanges = made.0;
      chain = chain_of _ _ _ _ _ _ refl refl made.1;
      migrates = made.2;
      says = end_says (place_of c.args.place.now).names made.0 c.migrate.result (c.one_list.ensures (place_of c.args.place.now).names made.0) (c.restarts.ensures (place_of c.args.place.now).names made.0)
          (c.last_code.ensures (place_of c.args.place.now).names made.0) c.migrate.ensures.sum c.migrate.ensures.cause made.2;
      keeps = λ names known gives.
          c.all_kept.ensures _ _ _ _ _ _ _ made.0 (tally_of c.migrate.result) names known gives (chain_of _ _ _ _ _ _ refl refl made.1) made.2;
    }

pub returns-clause-upgraded : goal.returns-clause-upgraded
returns-clause-upgraded g c =
    where_ok c.migrate.result _ (λ t is names mean none.
    c.all_upgraded.ensures _ _ _ _ _ _ _ c.migrate.ensures.made.0 (counts_of t) names mean
    (chain_of _ _ _ _ _ _ refl refl c.migrate.ensures.made.1) (subst (λ (h : Handled). Migrates (place_of c.args.place.now).names c.migrate.ensures.made.0 h) (ap tally_of is) c.migrate.ensures.made.2) none)
