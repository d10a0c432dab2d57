-- What answers, turns and converters in memory are seen as.
use Rattle.std.specs.Prelude.{List, map, drop}
use Rattle.kj_value.specs.Seen.{json}
use Rattle.converters.specs.Turns.{Answer, answered, refused, failed, Turn}
use Rattle.converters.specs.declared.list_converter.Outcome.{Outcome}
use Rattle.converters.specs.declared.list_converter.Outcome.TheVariants as outcome
use Rattle.converters.specs.declared.list_converter.MadeTurn.{MadeTurn}
use Rattle.converters.specs.declared.list_converter.ListConverter.{ListConverter}
use Rattle.converters.specs.declared.rename_converter.RenameConverter.{RenameConverter}

abbrev pub answer_of : Outcome → Answer
answer_of (outcome.Answered v) = answered (json v)
answer_of outcome.Refused = refused
answer_of outcome.Failed = failed

abbrev pub turn_of : MadeTurn → Turn
turn_of t = record { object = json t.object; to = t.to.bytes; answer = answer_of t.outcome }

-- the answers that are left
abbrev pub waiting_of : ListConverter → List Answer
waiting_of c = map answer_of (drop c.given c.answers.items)

-- the turns that were made, in order
abbrev pub made_of : ListConverter → List Turn
made_of c = map turn_of c.made.items

abbrev pub turns_of : RenameConverter → List Turn
turns_of c = map turn_of c.made.items
