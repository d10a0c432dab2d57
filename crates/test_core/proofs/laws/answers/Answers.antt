use Rattle.std.proofs.Common.{[], ◌∷◌, None, Some, lit<, sym}
use Rattle.core_laws.specs.declared.calls.Call.TheVariants.{GiveBack, Work}
use Rattle.versions_fixture.specs.Example.{example}
use Rattle.test_core.proofs.laws.answers.Goals as goal

pub run-requires : goal.run-requires
run-requires g c = (
  [],
  record { call = Work (Some 3); h = example; stamp = [] } ∷ record { call = GiveBack None; h = example; stamp = [] } ∷ [],
  c.in_ok-core.ensures.stands,
  sym c.in_ok-calls.ensures.items,
  (tt, (tt, tt)),
  lit< tt,
)
