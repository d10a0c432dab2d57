use Rattle.crd_laws.specs.Loaded.{loaded_meaning}
use Rattle.crd_settings.specs.SettledLaws.{settings_of}
use Rattle.run_laws.proofs.tallies.Answering.{answers}
use Rattle.run_laws.proofs.tallies.loaded_answers.Goals as goal

pub returns : goal.returns
returns c = λ d limits boot told n first last es r before now loaded whole is chain runs cause none.
    answers (loaded_meaning d (settings_of d.view)) n first last before now r cause none (c.loaded_ends.ensures d limits boot told n first last es _ loaded whole is chain runs)
