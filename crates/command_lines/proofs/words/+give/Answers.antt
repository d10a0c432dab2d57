use Rattle.std.proofs.Common.{map, arith}
use Rattle.std.specs.Prelude.{string_bytes}
use Rattle.command_lines.specs.Given.{flag_in, values_in}
use Rattle.command_lines.proofs.LineWords.{no_words, none_given, gives_more, gives_rest, map_length}
use Rattle.command_lines.proofs.words.+give.Goals as goal

pub returns-in-empty : goal.returns-in-empty
returns-in-empty n c = no_words c.args.words.now (values_in c.args.given) c.in-empty.len_below

pub returns-in-Some-with : goal.returns-in-Some-with
returns-in-Some-with n c =
    gives_more (map string_bytes c.args.words.now) (flag_in c.in-Some.taken.flag) c.in-Some.taken.value.now (map string_bytes c.in-Some.taken.rest.now) (values_in c.args.given) (values_in c.in-Some-with.more) c.give.result
    c.in-Some.ensures.first c.in-Some-with.ensures.0 c.in-Some-with.ensures.1 c.give.ensures

pub returns-in-None : goal.returns-in-None
returns-in-None n c = λ after gives.
    none_given (map string_bytes c.args.words.now) (values_in c.args.given) after (grind (arith, map_length c.args.words.now, c.in-len1-up.len_at_least)) c.in-None.ensures.first gives

pub returns-in-None-with : goal.returns-in-None-with
returns-in-None-with n c = λ after gives.
    c.in-None-with.ensures (gives_rest (map string_bytes c.args.words.now) (flag_in c.in-Some.taken.flag) c.in-Some.taken.value.now (map string_bytes c.in-Some.taken.rest.now) (values_in c.args.given) after
    c.in-Some.ensures.first gives).0
