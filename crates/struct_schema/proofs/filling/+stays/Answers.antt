use Rattle.std.proofs.Common.{◌≡◌, Option, true, refl, ap, sym, ◌∙◌}
use Rattle.kj_value.specs.Json.{Items, no_items, item, items_of}
use Rattle.struct_schema.specs.Shape.{Shape, maybe_of, no_shape}
use Rattle.struct_schema.specs.Stays.{items_stay}
use Rattle.struct_schema.proofs.filling.+stays.Goals as goal

unasked : (js : Items) → items_stay no_shape js ≡ true
unasked no_items = refl
unasked (item j js) = unasked js

pub list_stays-returns-in-None : goal.list_stays-returns-in-None
list_stays-returns-in-None t c =
    sym (ap (λ (m : Option Shape). items_stay (maybe_of m) (items_of c.args.items.now)) c.in-None.is ∙ unasked (items_of c.args.items.now))
