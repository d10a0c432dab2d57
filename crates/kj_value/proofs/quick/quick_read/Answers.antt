use Rattle.std.proofs.Common.{◌≡◌, [], Some, arith, rules, sym, ap, ◌∙◌}
use Rattle.json.specs.Lex.{tokens}
use Rattle.json.specs.Json.{value}
use Rattle.serde_json.specs.Read.{read}
use Rattle.kj_value.specs.Seen.{json}
use Rattle.kj_value.specs.Data.{to_data}
use Rattle.kj_value.proofs.ReadBack.{data_depth, json_of-to_data}
use Rattle.kj_value.proofs.Tokens.{whole_read}
use Rattle.kj_value.proofs.quick.quick_read.Goals as goal

pub returns-clause-read : goal.returns-clause-read
returns-clause-read c =
    let j = json c.in_ok-value.value in
    let text = c.in-Ok.text.now in
    let none : c.quick.new.reader ≡ [] = search rules in
    let whole : read text ≡ Some (to_data j) = whole_read (value 127 (tokens text)) (to_data j) (rw (c.in-Ok-new.ensures.ok, none) at c.in_ok-value.ensures.ok) in
    (to_data j, (c.in-Ok.ensures.cases.1, ap read (sym c.in-Ok.ensures.cases.0) ∙ whole), omega (arith, data_depth j, c.in_ok-value.ensures.depth), json_of-to_data j c.open.ensures)
