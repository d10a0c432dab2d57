use Rattle.std.proofs.Common.{sym, ◌∙◌}
use Rattle.std.specs.Prelude.{not}
use Rattle.kube_meta.specs.View.{object_of}
use Rattle.api_calls.specs.Values.{has_finalizer, is_marked}
use Rattle.write_texts.proofs.Updating.{none_of_both}
use Rattle.write_texts.proofs.update.ends.Goals as goal

pub returns-then-not-marked : goal.returns-then-not-marked
returns-then-not-marked c =
    none_of_both (is_marked (object_of c.args.old.now)) (not (has_finalizer (object_of c.args.hub.now))) (sym c.marked.ensures ∙ c.if-not-marked.true)
