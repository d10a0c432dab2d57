use Rattle.std.proofs.Common.{◌≡◌, ◌+◌, List, ◌∷◌, ◌++◌, [], map, drop, sym, ap, ◌∙◌}
use Rattle.std.specs.Map.{keys_of}
use Rattle.std.proofs.lemmas.List.{map_push}
use Rattle.kj_value.specs.Json.{members_of}
use Rattle.kj_value.specs.Pair.{pair_of}
use Rattle.rule_reading.specs.SeenSet.{spoke_pair}
use Rattle.rule_reading.specs.SetRead.{Spoke, spokes_from}
use Rattle.rule_reading.specs.Told.{answer, path_of}
use Rattle.rule_reading.proofs.Froms.{behind, spokes_step, spokes_stop, spokes_end, names_step}
use Rattle.rule_reading.proofs.set.read_spokes_of.Goals as goal

pub returns-in-Err : goal.returns-in-Err
returns-in-Err c =
    let l = c.loop-i in
    spokes_stop c.args.hub.now c.args.fields.now l.i c.index-fields-i.result (map spoke_pair l.spokes.items) (path_of c.in-Err.spot) _ c.loop-i-test.true c.index-fields-i.is l.invariant.read (ap (answer spoke_pair) (sym c.in-Err.is) ∙ c.in_ok-spot.ensures.read)

pub loop-i-preserved : goal.loop-i-preserved
loop-i-preserved c =
    let l = c.loop-i in
    let fs = c.args.fields.now in
    let news : map spoke_pair c.push.new.self.items ≡ map spoke_pair l.spokes.items ++ spoke_pair c.in-Ok.spoke ∷ [] = ap (map spoke_pair) c.in_ok-push-in-Ok.ensures.items ∙ map_push spoke_pair l.spokes.items c.in-Ok.spoke in
    record {
      read = ap (λ (ss : List Spoke). behind ss (spokes_from c.args.hub.now (members_of (map pair_of (drop (l.i + 1) fs))))) news
          ∙ spokes_step c.args.hub.now fs l.i c.index-fields-i.result (map spoke_pair l.spokes.items) (spoke_pair c.in-Ok.spoke) _ c.loop-i-test.true c.index-fields-i.is l.invariant.read (ap (answer spoke_pair) (sym c.in-Ok.is) ∙ c.in_ok-spot.ensures.read);
      names = ap (λ (ss : List Spoke). keys_of ss ++ keys_of (map pair_of (drop (l.i + 1) fs))) news
          ∙ names_step fs l.i c.index-fields-i.result (map spoke_pair l.spokes.items) (spoke_pair c.in-Ok.spoke) c.loop-i-test.true c.index-fields-i.is (rw c.in-Ok.is at c.in_ok-spot.ensures.name) l.invariant.names;
    }

pub returns : goal.returns
returns c =
    let l = c.loop-i in
    spokes_end c.args.hub.now c.args.fields.now l.i (map spoke_pair l.spokes.items) _ c.loop-i-test.false l.invariant.read
