-- The two texts read as the two documents, and as nothing else.
use Rattle.std.proofs.Common.{◌≡◌, ◌≤◌, ℕ, List, IsUtf8}
use Rattle.kj_value.specs.Json.{Json, depth}
use Rattle.kj_value.specs.Sound.{IsSoundJson}
use Rattle.kj_value.specs.Text.{text_of}
use Rattle.kj_value.specs.Reading.{Reads}
use Rattle.kj_value.specs.declared.reading.TheConstants.{MAX_JSON_LEVELS}
use Rattle.built_in.specs.Texts.{definition_document, definition_text, rules_document, rules_text}
use Rattle.built_in.proofs.Sound.{definition_sound, definition_shallow, rules_sound, rules_shallow}

-- what is known of values and their texts
pub record ReadingLaws : Type 0 where
  pub text : (j : Json) → IsSoundJson j → depth j ≤ MAX_JSON_LEVELS → IsUtf8 (text_of j) → Reads (text_of j) (depth j) j
  pub within : (bytes : List ℕ) (m n : ℕ) (j : Json) → Reads bytes m j → depth j ≤ n → Reads bytes n j
  pub one : (bytes : List ℕ) (m n : ℕ) (j k : Json) → Reads bytes m j → Reads bytes n k → j ≡ k

text_reads : ReadingLaws → (j : Json) → IsSoundJson j → depth j ≤ MAX_JSON_LEVELS → IsUtf8 (text_of j) → Reads (text_of j) MAX_JSON_LEVELS j
text_reads laws j sound shallow utf8 =
    laws.within (text_of j) (depth j) MAX_JSON_LEVELS j (laws.text j sound shallow utf8) shallow

-- the value that bytes are
pub record AreValue (bytes : List ℕ) (j : Json) : Type 0 where
  pub reads : Reads bytes MAX_JSON_LEVELS j
  pub one : (k : Json) → Reads bytes MAX_JSON_LEVELS k → k ≡ j

pub definition_read_back : ReadingLaws → IsUtf8 definition_text → AreValue definition_text definition_document
unfolding definition_text
definition_read_back laws utf8 =
    let reads : Reads definition_text MAX_JSON_LEVELS definition_document = text_reads laws definition_document definition_sound definition_shallow utf8 in
    record { reads = reads; one = λ k h. laws.one definition_text MAX_JSON_LEVELS MAX_JSON_LEVELS k definition_document h reads }

pub rules_read_back : ReadingLaws → IsUtf8 rules_text → AreValue rules_text rules_document
unfolding rules_text
rules_read_back laws utf8 =
    let reads : Reads rules_text MAX_JSON_LEVELS rules_document = text_reads laws rules_document rules_sound rules_shallow utf8 in
    record { reads = reads; one = λ k h. laws.one rules_text MAX_JSON_LEVELS MAX_JSON_LEVELS k rules_document h reads }
