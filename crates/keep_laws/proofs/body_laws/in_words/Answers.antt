use Rattle.keep_laws.proofs.Canonical.{rise_from}
use Rattle.keep_laws.proofs.InWords.{alive_whole}
use Rattle.keep_laws.proofs.body_laws.in_words.Goals as goal

pub returns : goal.returns
returns c = λ d l x r w. alive_whole d l x r w.known w.allowed w.parts (rise_from x.entries w.order) w.alive
