use Rattle.std.proofs.Common.{◌≡◌, ◌∙◌, ◌<◌, ◌≤◌, List, ℕ, length}
use Rattle.edge_io.specs.Causes.{Rose}
use Rattle.kubeconv_cmd.specs.inner.Ends.{NoAnswer, long}
use Rattle.review_batch.specs.Answer.{IsNoRequest}
use Rattle.kubeconv_cmd.specs.Tasks.{not_review}
use Rattle.kubeconv_cmd.specs.declared.input.TheConstants.{MOST_INPUT_BYTES}
use Rattle.kubeconv_cmd.proofs.TaskLemmas.{unread_halt, on_err, no_review_at}
use Rattle.kubeconv_cmd.proofs.tasks.review_input.Goals as goal

pub returns-in-Err-clause-none : goal.returns-in-Err-clause-none
returns-in-Err-clause-none g c = λ b left.
    unread_halt (Rose (g.S.Source.faults c.args.input.now) (g.S.Source.faults c.read_input.new.input)) (MOST_INPUT_BYTES < length b) (NoAnswer b) c.in-Err.fault c.unread.result
    (c.in-Err.ensures.fault b left) c.unread.ensures (λ more. long more)

pub returns-in-Err-clause-cause : goal.returns-in-Err-clause-cause
returns-in-Err-clause-cause g c =
    unread_halt (Rose (g.S.Source.faults c.args.input.now) (g.S.Source.faults c.read_input.new.input)) (Unit {0}) (λ _. Unit {0}) c.in-Err.fault c.unread.result
    c.in-Err.ensures.cause c.unread.ensures (λ _. tt)

pub returns-in-Ok-clause-none : goal.returns-in-Ok-clause-none
returns-in-Ok-clause-none g c = λ b left.
    let rose = Rose (g.S.Source.faults c.args.input.now) (g.S.Source.faults c.read_input.new.input) in
    let is : c.deref.result.now ≡ b = c.deref.ensures.value ∙ c.in-Ok.ensures.whole b left in
    let short : length c.deref.result.now ≤ MOST_INPUT_BYTES = rw c.deref.ensures.value c.in-Ok.ensures.short in
    on_err ⊥ rose ⊥ ⊥ (λ (text : List ℕ). (path : List ℕ) × IsNoRequest c.deref.result.now path × (text ≡ not_review path)) (NoAnswer b) c.answer_bytes.result
    (λ x. absurd x) (λ x. x) (λ why h. no_review_at c.deref.result.now b why is short h) c.answer_bytes.ensures.none
