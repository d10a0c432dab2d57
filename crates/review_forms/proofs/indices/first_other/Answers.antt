use Rattle.std.proofs.Common.{◌≡◌, true, false, Option, None, Some, ap, sym}
use Rattle.std.specs.Prelude.{is_none, is_some, option_map}
use Rattle.kj_value.specs.Kinds.{as_object}
use Rattle.kj_value.specs.Seen.{json}
use Rattle.review_forms.proofs.Places.{found_here, not_here}
use Rattle.review_forms.proofs.indices.first_other.Goals as goal

none_seen : {A B : Type 0} (f : A → B) (o : Option A) (p : Option B) → option_map f o ≡ p → is_some o ≡ false → is_none p ≡ true
none_seen f None p e h = ap is_none (sym e)
none_seen f (Some a) p e h = cc

some_seen : {A B : Type 0} (f : A → B) (o : Option A) (p : Option B) → option_map f o ≡ p → is_some o ≡ true → is_none p ≡ false
some_seen f None p e h = cc
some_seen f (Some a) p e h = ap is_none (sym e)

pub returns-then-other : goal.returns-then-other
returns-then-other c =
    found_here (λ j. is_none (as_object j)) c.as_slice-values.result.now c.args.items.now c.loop-i.i c.index-values-i.result c.as_slice-values.ensures.value c.loop-i.invariant c.loop-i-test.true c.index-values-i.is (none_seen _ c.as_object.result (as_object (json c.index-values-i.result)) c.as_object.ensures c.if-other.ensures)

pub loop-i-preserved : goal.loop-i-preserved
loop-i-preserved c =
    not_here (λ j. is_none (as_object j)) c.as_slice-values.result.now c.args.items.now c.loop-i.i c.index-values-i.result c.as_slice-values.ensures.value c.loop-i.invariant c.loop-i-test.true c.index-values-i.is (some_seen _ c.as_object.result (as_object (json c.index-values-i.result)) c.as_object.ensures c.if-other.ensures)
