-- That items and fields are the same in either form, and what a value is whose text, items or fields are known.
use Rattle.std.proofs.Common.{◌≡◌, ℕ, List, [], ◌∷◌, Some, refl, ap, sym, ◌∙◌}
use Rattle.kj_value.specs.Json.{Json, null, boolean, whole, text, list, object, Items, no_items, item, Members, no_members, member, items_of, members_of}
use Rattle.kj_value.specs.Fields.{Pairs}
use Rattle.kj_value.specs.Kinds.{pairs_of, list_of, as_text, as_list, as_object}

pub pairs_members : (es : Pairs) → pairs_of (members_of es) ≡ es
pairs_members [] = refl
pairs_members (e ∷ es) = ap (λ (rest : Pairs). e ∷ rest) (pairs_members es)

pub members_pairs : (ms : Members) → members_of (pairs_of ms) ≡ ms
members_pairs no_members = refl
members_pairs (member k j ms) = ap (member k j) (members_pairs ms)

pub list_items : (js : List Json) → list_of (items_of js) ≡ js
list_items [] = refl
list_items (j ∷ js) = ap (λ (rest : List Json). j ∷ rest) (list_items js)

pub items_list : (js : Items) → items_of (list_of js) ≡ js
items_list no_items = refl
items_list (item j js) = ap (item j) (items_list js)

pub text_known : (j : Json) (s : List ℕ) → as_text j ≡ Some s → j ≡ text s
text_known null s e = cc
text_known (boolean b) s e = cc
text_known (whole z) s e = cc
text_known (text t) s e = cc
text_known (list js) s e = cc
text_known (object ms) s e = cc

pub list_known : (j : Json) (js : List Json) → as_list j ≡ Some js → j ≡ list (items_of js)
list_known null js e = cc
list_known (boolean b) js e = cc
list_known (whole z) js e = cc
list_known (text s) js e = cc
list_known (list items) js e =
    let same : list_of items ≡ js = cc in
    ap list (sym (items_list items) ∙ ap items_of same)
list_known (object ms) js e = cc

pub object_known : (j : Json) (es : Pairs) → as_object j ≡ Some es → j ≡ object (members_of es)
object_known null es e = cc
object_known (boolean b) es e = cc
object_known (whole z) es e = cc
object_known (text s) es e = cc
object_known (list js) es e = cc
object_known (object ms) es e =
    let same : pairs_of ms ≡ es = cc in
    ap object (sym (members_pairs ms) ∙ ap members_of same)
