use Rattle.hook_versions.proofs.SameTexts.{texts_differ}
use Rattle.hook_versions.proofs.sameness.alike.Goals as goal

pub returns-then-xs-ys : goal.returns-then-xs-ys
returns-then-xs-ys c = texts_differ _ _ c.if-xs-ys.true
