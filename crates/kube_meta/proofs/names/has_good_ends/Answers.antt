use Rattle.std.proofs.Common.{◌≡◌, ℕ, List, [], ◌∷◌, length, Bool, true, false, rules, sym, ap, ◌∙◌}
use Rattle.std.specs.Prelude.{◌&&◌, not, nat_le, ◌==◌}
use borrow.Author.Tests.{tests}
use Rattle.kube_meta.proofs.names.has_good_ends.Goals as goal

filled : (part : List ℕ) (empty : Bool) → empty ≡ (length part == 0) → empty ≡ false → nat_le 1 (length part) ≡ true
filled [] empty e f = absurd (cc)
filled (b ∷ bs) empty e f = search (rules, tests)

all_tests : (some starts ends r : Bool) → some ≡ true → starts ≡ false → r ≡ not ends → r ≡ (some && not starts && not ends)
all_tests some starts ends r e f h = rw (e, f) h

pub returns : goal.returns
returns c =
    all_tests _ _ _ _ (filled _ _ c.is_empty.ensures c.if-is_empty.false) (sym c.starts_with.ensures.value ∙ c.if-starts_with.false) (ap not c.ends_with.ensures.value)
