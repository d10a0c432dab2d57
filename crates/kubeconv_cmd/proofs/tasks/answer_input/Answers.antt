use Rattle.std.proofs.Common.{◌≡◌, List, ℕ, inl, inr, refl}
use Rattle.edge_io.specs.Causes.{Rose}
use Rattle.crd_versions.specs.Set.{definition_of}
use Rattle.command_lines.specs.Lines.{convert, review}
use Rattle.kubeconv_cmd.specs.Tasks.{IsVersionNamed, LacksTarget, RefusesDocument, no_version}
use Rattle.kubeconv_cmd.specs.inner.Ends.{NoValue, NoAnswer}
use Rattle.kubeconv_cmd.proofs.TaskLemmas.{on_halt, on_err, no_value, lacks_version, never_known, converts, no_answer, answers}
use Rattle.kubeconv_cmd.proofs.tasks.answer_input.Goals as goal

pub returns-in-Some-clause-answered : goal.returns-in-Some-clause-answered
returns-in-Some-clause-answered g c = λ b left.
    let d = definition_of c.args.versions.now in
    let is : IsVersionNamed d c.in-Convert.to.now c.in-Some.version = record { known = c.in-Some.ensures.0; named = c.in-Some.ensures.1 } in
    rw c.in-Convert.is (converts c.convert_input.result d c.in-Convert.to.now c.in-Some.version b is (c.convert_input.ensures.value b left))

pub returns-in-Some-clause-none : goal.returns-in-Some-clause-none
returns-in-Some-clause-none g c = λ b left known.
    let d = definition_of c.args.versions.now in
    let is : IsVersionNamed d c.in-Convert.to.now c.in-Some.version = record { known = c.in-Some.ensures.0; named = c.in-Some.ensures.1 } in
    let rose = Rose (g.S.Source.faults c.args.input.now) (g.S.Source.faults c.convert_input.new.input) in
    rw c.in-Convert.is (on_err rose rose ⊥ ⊥ (NoValue d c.in-Some.version b) (RefusesDocument d b (convert c.in-Convert.to.now)) c.convert_input.result
    (λ x. x) (λ x. x) (λ why h. no_value d c.in-Convert.to.now c.in-Some.version b why is h) (c.convert_input.ensures.none b left))

pub returns-in-None-clause-none : goal.returns-in-None-clause-none
returns-in-None-clause-none g c = λ b left known.
    absurd (never_known (definition_of c.args.versions.now) c.in-Convert.to.now c.in-None.ensures (rw c.in-Convert.is at known))

pub returns-in-Some-clause-asked : goal.returns-in-Some-clause-asked
returns-in-Some-clause-asked g c = rw c.in-Convert.is (inl (c.in-Some.version, record { known = c.in-Some.ensures.0; named = c.in-Some.ensures.1 }))

pub returns-in-None-clause-asked : goal.returns-in-None-clause-asked
returns-in-None-clause-asked g c =
    let d = definition_of c.args.versions.now in
    rw c.in-Convert.is (inr (
      refl,
      on_halt ⊥ ⊥ ⊥ ⊥ (λ (why : List ℕ). why ≡ no_version c.in-Convert.to.now) (LacksTarget d (convert c.in-Convert.to.now)) c.no_version.result
          (λ x. x) (λ x. x) (λ why e. lacks_version d c.in-Convert.to.now why c.in-None.ensures e) c.no_version.ensures,
    ))

pub returns-in-Review-clause-asked : goal.returns-in-Review-clause-asked
returns-in-Review-clause-asked g c = rw c.in-Review.is (inl tt)

pub returns-in-Review-clause-answered : goal.returns-in-Review-clause-answered
returns-in-Review-clause-answered g c = λ b left.
    rw c.in-Review.is (answers c.review_input.result (definition_of c.args.versions.now) b (c.review_input.ensures.answered b left))

pub returns-in-Review-clause-none : goal.returns-in-Review-clause-none
returns-in-Review-clause-none g c = λ b left known.
    let d = definition_of c.args.versions.now in
    let rose = Rose (g.S.Source.faults c.args.input.now) (g.S.Source.faults c.review_input.new.input) in
    rw c.in-Review.is (on_err rose rose ⊥ ⊥ (NoAnswer b) (RefusesDocument d b review) c.review_input.result
    (λ x. x) (λ x. x) (λ why h. no_answer d b why h) (c.review_input.ensures.none b left))
