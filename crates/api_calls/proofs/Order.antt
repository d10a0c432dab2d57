-- The order of keys, from two comparisons to a third.
use Rattle.std.proofs.Common.{◌≡◌, true, ap, ◌∙◌}
use Rattle.std.specs.Ordering.{ordering_reverse, is_gt}
use Rattle.std.specs.declared.cmp.Ordering.TheVariants.{Less, Equal, Greater}
use Rattle.kube_meta.specs.Key.{KeyView, key_cmp}
use Rattle.kube_meta.specs.laws.KeyOrder.{key_cmp_total, key_cmp_one, key_cmp_itself}

pub itself : (k : KeyView) → key_cmp k k ≡ Equal
itself k = key_cmp_itself k

pub exact : (a b : KeyView) → key_cmp a b ≡ Equal → a ≡ b
exact a b h = key_cmp_one a b h

pub flipped : (a b : KeyView) → key_cmp a b ≡ Less → is_gt (key_cmp b a) ≡ true
flipped a b h = ap is_gt (key_cmp_total.antisymm b a ∙ ap ordering_reverse h)

pub turned : (a b : KeyView) → key_cmp a b ≡ Greater → key_cmp b a ≡ Less
turned a b h = key_cmp_total.antisymm b a ∙ ap ordering_reverse h

pub chain : (a b c : KeyView) → key_cmp a b ≡ Less → key_cmp b c ≡ Less → key_cmp a c ≡ Less
chain a b c g h = key_cmp_total.trans a b c g h

pub same_left : (a b c : KeyView) → key_cmp a b ≡ Equal → key_cmp b c ≡ Less → key_cmp a c ≡ Less
same_left a b c g h = key_cmp_total.congr a b c g ∙ h

pub behind : (a b : KeyView) → key_cmp a b ≡ Less → key_cmp b a ≡ Greater
behind a b h = key_cmp_total.antisymm b a ∙ ap ordering_reverse h
