use Rattle.std.proofs.Common.{◌∙◌, ap, rules}
use Rattle.std.specs.List.{list_all}
use Rattle.std.proofs.lemmas.Iterator.{YieldsList-from_slice}
use Rattle.std.proofs.lemmas.Iterator.Search.{all_from_yields_List}
use borrow.Author.Tests.{tests}
use Rattle.kj_value.specs.Pair.{pair_of}
use Rattle.kj_value.specs.declared.value.Field.{Field}
use Rattle.object_reading.specs.Rules.{is_annotation}
use Rattle.object_reading.proofs.Lists.{all_map}
use Rattle.object_reading.proofs.rules.all_annotations.Goals as goal

pub returns : goal.returns
returns c =
    let each = all_from_yields_List (λ (f : Field). is_annotation (pair_of f)) _ _ _ c.all.ensures.ran (YieldsList-from_slice c.as_slice.result.now cc) (λ x b q k. search (rules, tests)) in
    each ∙ all_map is_annotation pair_of c.as_slice.result.now ∙ ap (list_all is_annotation) c.as_slice.ensures.value
