use Rattle.kj_value.specs.Seen.{json}
use Rattle.versions_fixture.proofs.Found.{document_object}
use Rattle.versions_fixture.proofs.reading.parts_in.Goals as goal

pub returns-in-Null : goal.returns-in-Null
returns-in-Null c = λ p stamps is. rw c.in-Null.is at (document_object c.args.version p (json c.args.v.now) is)

pub returns-in-Bool : goal.returns-in-Bool
returns-in-Bool c = λ p stamps is. rw c.in-Bool.is at (document_object c.args.version p (json c.args.v.now) is)

pub returns-in-Int : goal.returns-in-Int
returns-in-Int c = λ p stamps is. rw c.in-Int.is at (document_object c.args.version p (json c.args.v.now) is)

pub returns-in-Text : goal.returns-in-Text
returns-in-Text c = λ p stamps is. rw c.in-Text.is at (document_object c.args.version p (json c.args.v.now) is)

pub returns-in-List : goal.returns-in-List
returns-in-List c = λ p stamps is. rw c.in-List.is at (document_object c.args.version p (json c.args.v.now) is)
