use Rattle.std.proofs.Common.{◌∷◌, map}
use Rattle.std.specs.Prelude.{string_bytes}
use Rattle.command_lines.specs.Given.{remote_in}
use Rattle.command_lines.proofs.LineWords.{address_is, address_only, within_is, within_only}
use Rattle.command_lines.proofs.words.line_with.Goals as goal

pub returns-in-Some-clause-is : goal.returns-in-Some-clause-is
returns-in-Some-clause-is c = address_is c.remote_with.result (remote_in c.in-Some.work) c.args.word.now (map string_bytes c.args.rest.now) c.in-Some.ensures c.remote_with.ensures.is

pub returns-in-Some-clause-only : goal.returns-in-Some-clause-only
returns-in-Some-clause-only c = address_only c.remote_with.result (remote_in c.in-Some.work) c.args.word.now (map string_bytes c.args.rest.now) c.in-Some.ensures c.remote_with.ensures.only

pub returns-in-None-clause-is : goal.returns-in-None-clause-is
returns-in-None-clause-is c = within_is c.served_with.result (c.args.word.now ∷ map string_bytes c.args.rest.now) c.served_with.ensures.is

pub returns-in-None-clause-only : goal.returns-in-None-clause-only
returns-in-None-clause-only c = within_only c.served_with.result c.args.word.now (map string_bytes c.args.rest.now) c.in-None.ensures c.served_with.ensures.only
