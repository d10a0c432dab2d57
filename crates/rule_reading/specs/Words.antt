-- The words of a rule document, and how each is spelled.
use Rattle.std.specs.Prelude.{ℕ, List, codes}
use Rattle.rule_reading.specs.declared.words.Word.{Word}
use Rattle.rule_reading.specs.declared.words.Word.TheVariants.{By, Hub, HubBlank, HubOnly, Names, Object, Pairs, Rules, Same, Scale, Split, Spoke, SpokeBlank, SpokeOnly, Spokes, Table}

unfoldable pub word : Word → List ℕ
word By = codes "by"
word Hub = codes "hub"
word HubBlank = codes "hubBlank"
word HubOnly = codes "hubOnly"
word Names = codes "names"
word Object = codes "object"
word Pairs = codes "pairs"
word Rules = codes "rules"
word Same = codes "same"
word Scale = codes "scale"
word Split = codes "split"
word Spoke = codes "spoke"
word SpokeBlank = codes "spokeBlank"
word SpokeOnly = codes "spokeOnly"
word Spokes = codes "spokes"
word Table = codes "table"
