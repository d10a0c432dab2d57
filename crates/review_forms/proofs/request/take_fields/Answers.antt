use Rattle.std.proofs.Common.{◌≡◌, ◌∙◌, Some, codes, sym, arith}
use Rattle.kj_value.specs.Fields.{field}
use Rattle.review_forms.specs.Form.{list_in}
use Rattle.review_forms.proofs.Depths.{list_levels}
use Rattle.review_forms.proofs.request.take_fields.Goals as goal

pub returns-clause-levels : goal.returns-clause-levels
returns-clause-levels c =
    let is : list_in (field (codes "objects") c.args.fields) ≡ Some c.in-Some-take_list.objects = sym c.take_list.ensures ∙ c.in-Some-take_list.is in
    omega (arith, list_levels (codes "objects") c.args.fields c.in-Some-take_list.objects is, c.requires)
