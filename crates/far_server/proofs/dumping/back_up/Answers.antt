use Rattle.std.proofs.Common.{refl, subst}
use Rattle.place.specs.Place.{place_of}
use Rattle.record_dump.specs.declared.ends.DumpEnd.{DumpEnd}
use Rattle.record_dump.specs.Dumps.{Dumps, at_first}
use Rattle.far_server.proofs.Made.{chain_of, where_done}
use Rattle.far_server.proofs.dumping.back_up.Goals as goal

pub returns-clause-wrote : goal.returns-clause-wrote
returns-clause-wrote g c =
    let made = c.dump.ensures.made in
    record {
      bytes = made.2;
      written = made.3;
      done = where_done c.dump.result _ (λ k is names known.
          c.all_dumped.ensures _ _ _ _ _ _ _ made.0 made.2 k names known (chain_of _ _ _ _ _ _ refl refl made.1)
          (c.one_list.ensures _ _ _ _ (subst (λ (e : DumpEnd). Dumps (place_of c.args.place.now).names at_first made.0 made.2 e) is made.4)));
    }
