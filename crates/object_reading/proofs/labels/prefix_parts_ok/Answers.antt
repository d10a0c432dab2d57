use Rattle.std.proofs.Common.{nat_eq, rules}
use Rattle.std.proofs.lemmas.Iterator.Search.{all_from_yields_List}
use Rattle.std.proofs.lemmas.Iterator.Splits.{YieldsList-from_slice_split}
use borrow.Author.Tests.{tests}
use Rattle.object_reading.specs.Labels.{is_prefix_part}
use Rattle.kube_meta.specs.Names.{dot}
use Rattle.object_reading.proofs.labels.prefix_parts_ok.Goals as goal

pub returns : goal.returns
returns c =
    all_from_yields_List is_prefix_part _ _ _ c.all.ensures.ran
    (YieldsList-from_slice_split _ (λ b. nat_eq b dot) c.args.text.now c.split.ensures.rest c.split.ensures.done c.split.ensures.closure (λ x b q k. search (rules, tests)))
    (λ x b q k. search (rules, tests))
