use Rattle.std.proofs.Common.{◌≡◌, Bool, true, rules, sym, ◌∙◌}
use Rattle.std.specs.Prelude.{◌&&◌}
use Rattle.std.proofs.lemmas.Iterator.{YieldsList-from_slice}
use Rattle.std.proofs.lemmas.Iterator.Search.{all_from_yields_List}
use borrow.Author.Tests.{tests}
use Rattle.kube_meta.specs.Names.{is_label_byte}
use Rattle.kube_meta.proofs.names.label_ok.Goals as goal

both_hold : (ends plain r : Bool) → ends ≡ true → r ≡ plain → r ≡ (ends && plain)
both_hold ends plain r e h = rw e h

pub returns-then-has_good_ends : goal.returns-then-has_good_ends
returns-then-has_good_ends c =
    let plain = all_from_yields_List is_label_byte _ _ _ c.all.ensures.ran (YieldsList-from_slice c.args.part.now cc) (λ x b q k. search (rules, tests)) in
    both_hold _ _ _ (sym c.has_good_ends.ensures ∙ c.if-has_good_ends.true) plain
