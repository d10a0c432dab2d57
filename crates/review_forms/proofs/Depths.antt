-- What stands inside of a review is less deep than it.
use Rattle.std.proofs.Common.{◌≡◌, ℕ, suc, ◌≤◌, List, Option, Some, None, refl, ap, arith}
use Rattle.kj_value.specs.Json.{Json, items_of, members_of, depth, items_depth, members_depth}
use Rattle.kj_value.specs.Fields.{Pairs, field}
use Rattle.kj_value.specs.Kinds.{as_object, as_list}
use Rattle.kj_value.specs.KindLaws.{object_known, list_known}
use Rattle.kj_value.specs.laws.Inside.{depth_field}
use Rattle.review_forms.specs.Form.{list_in, object_in}

pub object_depth : (j : Json) (es : Pairs) → as_object j ≡ Some es → depth j ≡ suc (members_depth (members_of es))
object_depth j es e = ap depth (object_known j es e)

pub object_levels : (k : List ℕ) (es ps : Pairs) → object_in (field k es) ≡ Some ps → suc (members_depth (members_of ps)) ≤ members_depth (members_of es)
object_levels k es ps e = by_field (field k es) refl e
  where
    by_field : (o : Option Json) → field k es ≡ o → object_in o ≡ Some ps → suc (members_depth (members_of ps)) ≤ members_depth (members_of es)
    by_field None f q = absurd (cc)
    by_field (Some j) f q = omega (arith, depth_field k es j f, object_depth j ps q)

pub list_levels : (k : List ℕ) (es : Pairs) (js : List Json) → list_in (field k es) ≡ Some js → suc (items_depth (items_of js)) ≤ members_depth (members_of es)
list_levels k es js e = by_field (field k es) refl e
  where
    list_depth : (j : Json) → as_list j ≡ Some js → depth j ≡ suc (items_depth (items_of js))
    list_depth j q = ap depth (list_known j js q)

    by_field : (o : Option Json) → field k es ≡ o → list_in o ≡ Some js → suc (items_depth (items_of js)) ≤ members_depth (members_of es)
    by_field None f q = absurd (cc)
    by_field (Some j) f q = omega (arith, depth_field k es j f, list_depth j q)
