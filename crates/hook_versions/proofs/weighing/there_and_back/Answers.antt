use Rattle.std.specs.Prelude.{option_map}
use Rattle.kube_meta.specs.View.{object_of}
use Rattle.hook_versions.specs.Facts.{hooked}
use Rattle.hook_versions.proofs.Backs.{back_at, blames_back}
use Rattle.hook_versions.proofs.Standing.{taken_standing}
use Rattle.hook_versions.proofs.weighing.there_and_back.Goals as goal

pub comes_back-requires-clause-sent : goal.comes_back-requires-clause-sent
comes_back-requires-clause-sent g c =
    let d = c.args.set.now in
    (taken_standing d d.hub c.args.v (object_of c.args.h.now) (object_of c.in-Ok.form) c.in-Ok.ensures.turns.answer c.requires.hub c.in-Ok.ensures.turns.taken).sent

pub returns-in-Ok-comes_back-clause-back : goal.returns-in-Ok-comes_back-clause-back
returns-in-Ok-comes_back-clause-back g c =
    back_at (hooked c.args.set.now g.C.Converter.HONEST g.C.Converter.turned) (g.C.Converter.turns c.args.tool.now) (g.C.Converter.turns c.turned_or_fault.new.tool) (g.C.Converter.turns c.comes_back.new.tool)
    (object_of c.args.h.now) c.args.v (object_of c.in-Ok.form) (option_map object_of c.args.own.now) c.requires.hub c.requires.spoke c.in-Ok.ensures.turns c.in-Ok.ensures.turned c.in-Ok-comes_back.ensures.back c.in-Ok-comes_back.ensures.turned

pub returns-in-Err-comes_back-clause-blames : goal.returns-in-Err-comes_back-clause-blames
returns-in-Err-comes_back-clause-blames g c =
    blames_back (hooked c.args.set.now g.C.Converter.HONEST g.C.Converter.turned) (g.C.Converter.turns c.args.tool.now) (g.C.Converter.turns c.turned_or_fault.new.tool) (g.C.Converter.turns c.comes_back.new.tool)
    (object_of c.args.h.now) c.args.v (object_of c.in-Ok.form) c.in-Err-comes_back.fault c.in-Ok.ensures.turns c.in-Err-comes_back.ensures.blames
