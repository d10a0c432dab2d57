-- The default of a schema's root says nothing of the values that it allows, nor of how one that is there is filled.
use Rattle.std.proofs.Common.{◌≡◌, List, Bool, true, false, ◌&&◌, cond, refl, ap, sym, ◌∙◌}
use Rattle.kj_value.specs.Json.{Json, null, boolean, whole, text, list, object, Items, no_items, item, Members, no_members, member}
use Rattle.struct_schema.specs.Shape.{Own, Shape, shape, MaybeShapes, MaybeShape}
use Rattle.struct_schema.specs.Names.{property, or_shape, passes}
use Rattle.struct_schema.specs.Keywords.{keeps}
use Rattle.struct_schema.specs.Valid.{valid, items_valid, members_valid}
use Rattle.struct_schema.specs.Filled.{is_object}
use Rattle.struct_schema.specs.Stays.{stays, name_stays, names_stay, defaults_there}
use Rattle.struct_schema.specs.Below.{without_default, below}

items_valid-below : (o : Own) (ps : MaybeShapes) (a i : MaybeShape) (js : Items) → items_valid (shape (without_default o) ps a i) js ≡ items_valid (shape o ps a i) js
items_valid-below o ps a i no_items = refl
items_valid-below o ps a i (item j js) = ap (λ b. passes i (λ t. valid t j) && b) (items_valid-below o ps a i js)

members_valid-below : (o : Own) (ps : MaybeShapes) (a i : MaybeShape) (ms : Members) → members_valid (shape (without_default o) ps a i) ms ≡ members_valid (shape o ps a i) ms
members_valid-below o ps a i no_members = refl
members_valid-below o ps a i (member k j ms) =
    ap (λ b. passes (or_shape (property k ps) a) (λ t. valid t j) && b) (members_valid-below o ps a i ms)

pub valid-below : (s : Shape) (j : Json) → valid (below s) j ≡ valid s j
valid-below (shape o ps a i) null = refl
valid-below (shape o ps a i) (boolean b) = refl
valid-below (shape o ps a i) (whole z) = refl
valid-below (shape o ps a i) (text t) = refl
valid-below (shape o ps a i) (list js) = ap (λ b. keeps o (list js) && b) (items_valid-below o ps a i js)
valid-below (shape o ps a i) (object ms) = ap (λ b. keeps o (object ms) && b) (members_valid-below o ps a i ms)

names_stay-below : (o : Own) (ps : MaybeShapes) (a i : MaybeShape) (ms : Members) → names_stay (shape (without_default o) ps a i) ms ≡ names_stay (shape o ps a i) ms
names_stay-below o ps a i no_members = refl
names_stay-below o ps a i (member k j ms) =
    ap (λ b. name_stays (or_shape (property k ps) a) o.preserve j (λ t. stays t j) && b) (names_stay-below o ps a i ms)

pub stays-below : (s : Shape) (j : Json) → stays (below s) j ≡ stays s j
stays-below (shape o ps a i) null = refl
stays-below (shape o ps a i) (boolean b) = refl
stays-below (shape o ps a i) (whole z) = refl
stays-below (shape o ps a i) (text t) = refl
stays-below (shape o ps a i) (list js) = refl
stays-below (shape o ps a i) (object ms) =
    ap (λ b. cond (is_object o.kind) (b && defaults_there ps ms) true) (names_stay-below o ps a i ms)

-- two schemas that are one but for their roots' defaults allow the same values, and leave the same ones as they are
pub same_valid : (s t : Shape) (j : Json) → below s ≡ below t → valid s j ≡ valid t j
same_valid s t j e = sym (valid-below s j) ∙ ap (λ u. valid u j) e ∙ valid-below t j

pub same_stays : (s t : Shape) (j : Json) → below s ≡ below t → stays s j ≡ stays t j
same_stays s t j e = sym (stays-below s j) ∙ ap (λ u. stays u j) e ∙ stays-below t j
