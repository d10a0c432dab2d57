use Rattle.std.proofs.Common.{refl, lit≤}
use Rattle.std.specs.Float.Numeral.{scan_numeral}
use Rattle.json.specs.Json.{items, members, value}
use Rattle.json.specs.Lex.{lex, punctuate}
use Rattle.json.specs.Text.{content, short_escape}
use Rattle.json.specs.Word.{word, after_number}
use Rattle.serde_json.specs.Read.{number_of}
use Rattle.built_in.specs.Example.{rules_document}
use Rattle.built_in.proofs.ExampleRead.{reads_as}
use Rattle.built_in.proofs.example_texts.rules.Goals as goal

pub returns : goal.returns
unfolding rules_document items members value lex punctuate content short_escape word after_number number_of scan_numeral
returns c = reads_as _ rules_document refl refl (lit≤ tt) refl
