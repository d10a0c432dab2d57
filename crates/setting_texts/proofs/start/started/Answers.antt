use Rattle.std.proofs.Common.{refl}
use Rattle.setting_texts.proofs.Starting.{started-reply}
use Rattle.setting_texts.proofs.start.started.Goals as goal

pub returns-in-Done : goal.returns-in-Done
returns-in-Done g c = record {
  came = λ i none. (
    started-reply (g.V.Versions.meaning c.args.lent.now.versions.now) c.args.name.bytes c.args.texts.items c.args.end c.in-Done.target c.swap_remove.result
        c.requires.texts c.requires.count c.requires.target c.in-Done.is c.swap_remove.ensures.value,
    refl,
  );
}
