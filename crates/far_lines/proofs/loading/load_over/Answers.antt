use Rattle.std.proofs.Common.{◌∙◌, ◌<◌, List, ◌++◌, Option, ap}
use Rattle.std.specs.Prelude.{option_map}
use Rattle.edge_io.specs.Exchanges.{Exchange}
use Rattle.far_lines.proofs.Exchanged.{these, restore_failed, restore_blames}
use Rattle.far_lines.proofs.loading.load_over.Goals as goal

pub returns-clause-loaded : goal.returns-clause-loaded
returns-clause-loaded g c =
    let m = c.restore-end.ensures.made in
    record {
      ending = record { exchanges = g.L.One.Link.exchanges c.into_link.result; faults = g.L.One.Link.faults c.into_link.result };
      back = rw c.in-Ok.ensures.returned at c.back.ensures.returned;
      exchanges = m.0;
      bytes = m.2;
      made = these (g.L.One.Link.exchanges c.in-Ok.link) (g.L.One.Link.exchanges c.into_link.result) m.0 c.in-Ok.ensures.none
          (c.into_link.ensures.exchanges ∙ m.1.exchanges ∙ ap (λ (o : Option (List Exchange)). option_map (λ (es : List Exchange). es ++ m.0) o) c.new-far.ensures.exchanges);
      read = m.3;
      restores = m.4;
      broke = λ is.
          let failed : 0 < g.L.One.Link.faults c.restore-end.new.far.link =
          restore_failed c.restore-end.result _ (g.L.One.Link.faults c.new-far.result.link) (g.L.One.Link.faults c.restore-end.new.far.link)
          (c.new-far.ensures.faults ∙ c.in-Ok.ensures.unused) c.restore-end.ensures.cause is in
          rw c.into_link.ensures.faults failed;
    }

pub returns-clause-cause : goal.returns-clause-cause
returns-clause-cause g c = restore_blames _ _ c.restore-end.result c.restore-end.ensures.cause
