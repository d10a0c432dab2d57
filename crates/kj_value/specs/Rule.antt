-- The word of each rule that a document can break.
use Rattle.std.specs.Prelude.{ℕ, List, codes}
use Rattle.kj_value.specs.declared.rule.Rule.{Rule}
use Rattle.kj_value.specs.declared.rule.Rule.TheVariants.{Kind, Enum, Minimum, Maximum, Format, MinLength, MaxLength, MinItems, MaxItems, Required, Name, Forbidden, Kept, Size, Immutable, Storage, Served, Unknown, Wrong, Converted}

unfoldable pub rule_word : Rule → List ℕ
rule_word Kind = codes "Type"
rule_word Enum = codes "Enum"
rule_word Minimum = codes "Minimum"
rule_word Maximum = codes "Maximum"
rule_word Format = codes "Format"
rule_word MinLength = codes "MinLength"
rule_word MaxLength = codes "MaxLength"
rule_word MinItems = codes "MinItems"
rule_word MaxItems = codes "MaxItems"
rule_word Required = codes "Required"
rule_word Name = codes "Name"
rule_word Forbidden = codes "Forbidden"
rule_word Kept = codes "Kept"
rule_word Size = codes "Size"
rule_word Immutable = codes "Immutable"
rule_word Storage = codes "Storage"
rule_word Served = codes "Served"
rule_word Unknown = codes "Unknown"
rule_word Wrong = codes "Wrong"
rule_word Converted = codes "Converted"
