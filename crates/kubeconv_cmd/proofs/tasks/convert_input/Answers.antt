use Rattle.std.proofs.Common.{◌≡◌, ◌∙◌, ◌<◌, ◌≤◌, List, ℕ, length}
use Rattle.edge_io.specs.Causes.{Rose}
use Rattle.crd_versions.specs.Set.{definition_of}
use Rattle.kubeconv_cmd.specs.inner.Ends.{NoValue, long}
use Rattle.api_calls.specs.Meaning.{Fault}
use Rattle.api_calls.specs.Readings.{IsFaulty}
use Rattle.api_calls.specs.declared.versions.TheConstants.{OBJECT_LEVELS}
use Rattle.kubeconv_cmd.specs.Tasks.{IsWithout, fault_words}
use Rattle.kubeconv_cmd.specs.declared.input.TheConstants.{MOST_INPUT_BYTES}
use Rattle.kubeconv_cmd.proofs.TaskLemmas.{unread_halt, on_err, faulty_at}
use Rattle.kubeconv_cmd.proofs.tasks.convert_input.Goals as goal

pub returns-in-Err-clause-none : goal.returns-in-Err-clause-none
returns-in-Err-clause-none g c = λ b left.
    unread_halt (Rose (g.S.Source.faults c.args.input.now) (g.S.Source.faults c.read_input.new.input)) (MOST_INPUT_BYTES < length b) (NoValue (definition_of c.args.versions.now) c.args.to b) c.in-Err.fault c.unread.result
    (c.in-Err.ensures.fault b left) c.unread.ensures (λ more. long more)

pub returns-in-Err-clause-cause : goal.returns-in-Err-clause-cause
returns-in-Err-clause-cause g c =
    unread_halt (Rose (g.S.Source.faults c.args.input.now) (g.S.Source.faults c.read_input.new.input)) (Unit {0}) (λ _. Unit {0}) c.in-Err.fault c.unread.result
    c.in-Err.ensures.cause c.unread.ensures (λ _. tt)

pub returns-in-Ok-clause-none : goal.returns-in-Ok-clause-none
returns-in-Ok-clause-none g c = λ b left.
    let rose = Rose (g.S.Source.faults c.args.input.now) (g.S.Source.faults c.read_input.new.input) in
    let is : c.deref.result.now ≡ b = c.deref.ensures.value ∙ c.in-Ok.ensures.whole b left in
    let short : length c.deref.result.now ≤ MOST_INPUT_BYTES = rw c.deref.ensures.value c.in-Ok.ensures.short in
    on_err ⊥ rose ⊥ ⊥ (λ (text : List ℕ). (f : Fault) × IsFaulty c.deref.result.now OBJECT_LEVELS (IsWithout (definition_of c.args.versions.now) c.args.to) f × (text ≡ fault_words f)) (NoValue (definition_of c.args.versions.now) c.args.to b) c.convert_bytes.result
    (λ x. absurd x) (λ x. x) (λ why h. faulty_at (definition_of c.args.versions.now) c.args.to c.deref.result.now b why is short h) c.convert_bytes.ensures.none
