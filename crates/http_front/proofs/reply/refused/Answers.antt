use Rattle.http_wire.specs.laws.PhraseLaws.{phrase-503}
use Rattle.http_front.proofs.reply.refused.Goals as goal

pub returns-in-Err-clause-phrase : goal.returns-in-Err-clause-phrase
returns-in-Err-clause-phrase g c = phrase-503
