-- A value is that of one list of entries.
use Rattle.std.proofs.Common.{◌≡◌, List, [], ◌∷◌, ◌++◌, map, ap₂, sym, refl}
use Rattle.kj_value.specs.Json.{Json, text, list, object, Items, item, no_items, Members, member, no_members, items_of, members_of}
use Rattle.kj_value.specs.Fields.{Pairs}
use Rattle.kept_entries.specs.declared.entry.Entry.{Entry}
use Rattle.kept_entries.specs.Entry.{Name}
use Rattle.kept_entries.specs.Text.{path_json, part_json, entry_fields, entry_json, kept_json}

item_is : (i j : Json) (is js : Items) → item i is ≡ item j js → (i ≡ j) × (is ≡ js)
item_is i j is js e = (cc, cc)

member_is : (k l : Name) (i j : Json) (ms ns : Members) → member k i ms ≡ member l j ns → (k ≡ l) × (i ≡ j) × (ms ≡ ns)
member_is k l i j ms ns e = (cc, cc, cc)

no_item : (j : Json) (js : Items) → no_items ≡ item j js → ⊥
no_item j js e = cc

no_member : (k : Name) (j : Json) (ms : Members) → no_members ≡ member k j ms → ⊥
no_member k j ms e = cc

pub items_one : (is js : List Json) → items_of is ≡ items_of js → is ≡ js
items_one [] [] e = refl
items_one [] (j ∷ js) e = absurd (no_item j (items_of js) e)
items_one (i ∷ is) [] e = absurd (no_item i (items_of is) (sym e))
items_one (i ∷ is) (j ∷ js) e =
    let h = item_is i j (items_of is) (items_of js) e in
    ap₂ (λ (x : Json) (xs : List Json). x ∷ xs) h.0 (items_one is js h.1)

pub members_one : (ps qs : Pairs) → members_of ps ≡ members_of qs → ps ≡ qs
members_one [] [] e = refl
members_one [] (q ∷ qs) e = absurd (no_member q.0 q.1 (members_of qs) e)
members_one (p ∷ ps) [] e = absurd (no_member p.0 p.1 (members_of ps) (sym e))
members_one (p ∷ ps) (q ∷ qs) e =
    let h = member_is p.0 q.0 p.1 q.1 (members_of ps) (members_of qs) e in
    ap₂ (λ (x : Name × Json) (xs : Pairs). x ∷ xs) (ap₂ (λ (k : Name) (j : Json). (k, j)) h.0 h.1) (members_one ps qs h.2)

list_is : (is js : Items) → list is ≡ list js → is ≡ js
list_is is js e = cc

object_is : (ms ns : Members) → object ms ≡ object ns → ms ≡ ns
object_is ms ns e = cc

text_is : (s t : Name) → text s ≡ text t → s ≡ t
text_is s t e = cc

first_is : {A : Type 0} (x y : A) (xs ys : List A) → x ∷ xs ≡ y ∷ ys → (x ≡ y) × (xs ≡ ys)
first_is x y xs ys e = (cc, cc)

nil_cons : {A : Type 0} (x : A) (xs : List A) → [] ≡ x ∷ xs → ⊥
nil_cons x xs e = cc

map_one : {A : Type 0} (g : A → Json) → ((x y : A) → g x ≡ g y → x ≡ y) → (xs ys : List A) → map g xs ≡ map g ys → xs ≡ ys
map_one g h [] [] e = refl
map_one g h [] (y ∷ ys) e = absurd (nil_cons (g y) (map g ys) e)
map_one g h (x ∷ xs) [] e = absurd (nil_cons (g x) (map g xs) (sym e))
map_one {A} g h (x ∷ xs) (y ∷ ys) e =
    let p = first_is (g x) (g y) (map g xs) (map g ys) e in
    ap₂ (λ (z : A) (zs : List A). z ∷ zs) (h x y p.0) (map_one g h xs ys p.1)

pub path_one : (ns ms : List Name) → path_json ns ≡ path_json ms → ns ≡ ms
path_one ns ms e =
    map_one text text_is ns ms (items_one (map text ns) (map text ms) (list_is (items_of (map text ns)) (items_of (map text ms)) e))

pub part_one : (ps qs : Pairs) → part_json ps ≡ part_json qs → ps ≡ qs
part_one ps qs e = members_one ps qs (object_is (members_of ps) (members_of qs) e)

pub entry_one : (e f : Entry) → entry_json e ≡ entry_json f → e ≡ f
entry_one e f p =
    let same = members_one (entry_fields e) (entry_fields f) (object_is (members_of (entry_fields e)) (members_of (entry_fields f)) p) in
    let at : e.at ≡ f.at = path_one e.at f.at (cc) in
    let was : e.was ≡ f.was = part_one e.was f.was (cc) in
    ap₂ (λ (ns : List Name) (ps : Pairs). record { at = ns; was = ps }) at was

pub kept_one : (es fs : List Entry) → kept_json es ≡ kept_json fs → es ≡ fs
kept_one es fs p =
    map_one entry_json entry_one es fs (items_one (map entry_json es) (map entry_json fs) (list_is (items_of (map entry_json es)) (items_of (map entry_json fs)) p))

-- ---- what stands in a list of values of one kind is of that kind

pub among : {A : Type 0} (g : A → Json) (xs : List A) (front : List Json) (j : Json) (rest : List Json) → map g xs ≡ front ++ j ∷ rest → (x : A) × (g x ≡ j)
among g [] [] j rest e = absurd (nil_cons j rest e)
among g [] (i ∷ front) j rest e = absurd (nil_cons i (front ++ j ∷ rest) e)
among g (x ∷ xs) [] j rest e = (x, (first_is (g x) j (map g xs) rest e).0)
among g (x ∷ xs) (i ∷ front) j rest e = among g xs front j rest (first_is (g x) i (map g xs) (front ++ j ∷ rest) e).1
