use Rattle.std.proofs.Common.{◌≤◌, Some}
use Rattle.std.specs.Prelude.{option_map}
use Rattle.kube_meta.specs.View.{object_of}
use Rattle.hook_versions.specs.Facts.{hooked}
use Rattle.hook_versions.specs.inner.Weighing.{AreBackThen, IsKept}
use Rattle.hook_versions.proofs.weighing.weighed.Given as goal

abbrev pub invariant-loop-v : goal.invariant-loop-v
invariant-loop-v g l = record {
  back : AreBackThen (hooked l.set g.C.Converter.HONEST g.C.Converter.turned) (g.C.Converter.turns l.fn.tool) (g.C.Converter.turns l.tool) (option_map object_of l.own) (object_of l.h) 0 (Some 0) l.v l.most;
  kept : IsKept (hooked l.set g.C.Converter.HONEST g.C.Converter.turned) l.storage (object_of l.h) l.stored;
  rises : g.C.Tool.faults l.fn.tool ≤ g.C.Tool.faults l.tool;
}
