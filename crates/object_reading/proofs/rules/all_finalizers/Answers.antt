use Rattle.std.proofs.Common.{◌∙◌, ap, rules}
use Rattle.std.specs.List.{list_all}
use Rattle.std.proofs.lemmas.Iterator.{YieldsList-from_slice}
use Rattle.std.proofs.lemmas.Iterator.Search.{all_from_yields_List}
use borrow.Author.Tests.{tests}
use Rattle.kj_value.specs.Seen.{json}
use Rattle.kj_value.specs.declared.value.JVal.{JVal}
use Rattle.object_reading.specs.Finalizers.{is_finalizer}
use Rattle.object_reading.specs.Rules.{is_text}
use Rattle.object_reading.proofs.Lists.{all_map}
use Rattle.object_reading.proofs.rules.all_finalizers.Goals as goal

pub returns : goal.returns
returns c =
    let each = all_from_yields_List (λ (v : JVal). is_text is_finalizer (json v)) _ _ _ c.all.ensures.ran (YieldsList-from_slice c.as_slice.result.now cc) (λ x b q k. search (rules, tests)) in
    each ∙ all_map (is_text is_finalizer) json c.as_slice.result.now ∙ ap (list_all (is_text is_finalizer)) c.as_slice.ensures.value
