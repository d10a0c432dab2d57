use Rattle.std.proofs.Common.{◌≡◌, length}
use Rattle.setting_texts.specs.Starting.{HasTexts}
use Rattle.setting_texts.proofs.start.running_texts.Given as goal

abbrev pub invariant-loop-v : goal.invariant-loop-v
invariant-loop-v g l = record {
  texts : HasTexts (g.V.Versions.meaning l.lent.versions.now) l.name 0 l.texts.items;
  count : length l.texts.items ≡ l.v;
}
