use Rattle.crd_meaning.specs.Meant.{no_settings}
use Rattle.crd_meaning.proofs.Verdicts.{admits_whole, unread}
use Rattle.crd_meaning.proofs.laws.admitting.Goals as goal

pub returns : goal.returns
returns c = record { whole = λ d l. admits_whole c.known.ensures no_settings d l; unread = λ d. unread no_settings d }
