use Rattle.std.proofs.Common.{IsUtf8, subst}
use Rattle.built_in.specs.Texts.{definition_document, definition_text, rules_document, rules_text}
use Rattle.built_in.proofs.Read.{ReadingLaws, AreValue, definition_read_back, rules_read_back}
use Rattle.built_in.proofs.Standing.{definition_stands, rules_stand, both_load}
use Rattle.built_in.proofs.Allowed.{definition_allowed, rules_allowed}
use Rattle.built_in.proofs.laws.accepted.Goals as goal

pub returns : goal.returns
returns c =
    let laws : ReadingLaws = record { text = c.text_reads.ensures; within = c.reading_depth.ensures.within; one = c.one_reading.ensures } in
    let v : AreValue definition_text definition_document = definition_read_back laws (subst IsUtf8 c.definition.ensures c.definition.utf8) in
    let w : AreValue rules_text rules_document = rules_read_back laws (subst IsUtf8 c.rules.ensures c.rules.utf8) in
    record {
      definition = λ b. definition_stands definition_document definition_allowed definition_text b v;
      rules = λ b. rules_stand definition_document rules_document rules_allowed definition_text rules_text b v w;
      loads = both_load definition_document rules_document definition_allowed rules_allowed definition_text rules_text v w;
    }
