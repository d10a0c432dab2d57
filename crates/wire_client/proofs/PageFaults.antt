-- The first place of a page that has another form.
use Rattle.std.proofs.Common.{◌≡◌, ◌≤◌, ℕ, Bool, true, false, not, List, [], ◌∷◌, Option, None, Some, is_none, option_and_then, unwrap_or, codes, refl, ap, sym, ◌∙◌, arith}
use Rattle.kj_value.specs.Json.{Json, depth, items_depth, items_of}
use Rattle.kj_value.specs.Fields.{Pairs, field}
use Rattle.kj_value.specs.Kinds.{as_object, as_list}
use Rattle.kj_value.specs.KindLaws.{object_known, list_known}
use Rattle.kj_value.specs.laws.Inside.{depth_field}
use Rattle.object_reading.specs.Fields.{given}
use Rattle.wire_client.specs.Forms.{Path, told_if, first_told, meta_field, has_version, has_number, is_token, items_in, items_fault, page_fields_fault}
use Rattle.wire_client.specs.inner.Seen.{OnShape}
use Rattle.wire_client.specs.declared.end.WireEnd.{WireEnd}
use Rattle.wire_client.specs.declared.end.WireEnd.TheVariants as wire

-- the faults by what is told of each place
abbrev five : Bool → Bool → Option Path → Bool → Bool → Option Path
five a b o d e = first_told (
    told_if (not a) (codes "apiVersion")
    ∷ told_if b (codes "items")
    ∷ o
    ∷ told_if (not d) (codes "metadata.continue")
    ∷ told_if (not e) (codes "metadata.resourceVersion")
    ∷ [])

fault_is : (version : List ℕ) (fs : Pairs) → page_fields_fault version fs
    ≡ five (has_version version fs) (is_none (items_in fs)) (items_fault version 0 (unwrap_or (items_in fs) [])) (is_token (given (meta_field (codes "continue") fs))) (has_number fs)
unfolding page_fields_fault
fault_is version fs = refl

five_version : (a b : Bool) (o : Option Path) (d e : Bool) → a ≡ false → five a b o d e ≡ Some (codes "apiVersion")
five_version false b o d e p = refl
five_version true b o d e p = absurd (cc)

five_items : (a b : Bool) (o : Option Path) (d e : Bool) → a ≡ true → b ≡ true → five a b o d e ≡ Some (codes "items")
five_items false b o d e p q = absurd (cc)
five_items true false o d e p q = absurd (cc)
five_items true true o d e p q = refl

five_item : (a b : Bool) (o : Option Path) (d e : Bool) (path : Path) → a ≡ true → b ≡ false → o ≡ Some path → five a b o d e ≡ Some path
five_item false b o d e path p q r = absurd (cc)
five_item true true o d e path p q r = absurd (cc)
five_item true false None d e path p q r = absurd (cc)
five_item true false (Some s) d e path p q r = r

five_token : (a b : Bool) (o : Option Path) (d e : Bool) → a ≡ true → b ≡ false → o ≡ None → d ≡ false → five a b o d e ≡ Some (codes "metadata.continue")
five_token false b o d e p q r s = absurd (cc)
five_token true true o d e p q r s = absurd (cc)
five_token true false (Some x) d e p q r s = absurd (cc)
five_token true false None true e p q r s = absurd (cc)
five_token true false None false e p q r s = refl

five_number : (a b : Bool) (o : Option Path) (d e : Bool) → a ≡ true → b ≡ false → o ≡ None → d ≡ true → e ≡ false → five a b o d e ≡ Some (codes "metadata.resourceVersion")
five_number false b o d e p q r s t = absurd (cc)
five_number true true o d e p q r s t = absurd (cc)
five_number true false (Some x) d e p q r s t = absurd (cc)
five_number true false None false e p q r s t = absurd (cc)
five_number true false None true true p q r s t = absurd (cc)
five_number true false None true false p q r s t = refl

five_none : (a b : Bool) (o : Option Path) (d e : Bool) → a ≡ true → b ≡ false → o ≡ None → d ≡ true → e ≡ true → five a b o d e ≡ None
five_none false b o d e p q r s t = absurd (cc)
five_none true true o d e p q r s t = absurd (cc)
five_none true false (Some x) d e p q r s t = absurd (cc)
five_none true false None false e p q r s t = absurd (cc)
five_none true false None true false p q r s t = absurd (cc)
five_none true false None true true p q r s t = refl

-- ---- of a page

pub bad_version : (version : List ℕ) (fs : Pairs) → has_version version fs ≡ false → page_fields_fault version fs ≡ Some (codes "apiVersion")
bad_version version fs p = fault_is version fs ∙ five_version (has_version version fs) (is_none (items_in fs)) (items_fault version 0 (unwrap_or (items_in fs) [])) (is_token (given (meta_field (codes "continue") fs))) (has_number fs) p

-- what is known of the items that are there
pub record HasItems (version : List ℕ) (fs : Pairs) (items : List Json) : Type 0 where
  pub kept : has_version version fs ≡ true
  pub there : items_in fs ≡ Some items

pub no_items : (version : List ℕ) (fs : Pairs) → has_version version fs ≡ true → items_in fs ≡ None → page_fields_fault version fs ≡ Some (codes "items")
no_items version fs p q = fault_is version fs ∙ five_items (has_version version fs) (is_none (items_in fs)) (items_fault version 0 (unwrap_or (items_in fs) [])) (is_token (given (meta_field (codes "continue") fs))) (has_number fs) p (ap is_none q)

item_first : (version : List ℕ) (fs : Pairs) (items : List Json) (o : Option Path) → HasItems version fs items → items_fault version 0 items ≡ o
    → items_fault version 0 (unwrap_or (items_in fs) []) ≡ o
item_first version fs items o h e = ap (λ (js : Option (List Json)). items_fault version 0 (unwrap_or js [])) h.there ∙ e

pub bad_item : (version : List ℕ) (fs : Pairs) (items : List Json) (path : Path) → HasItems version fs items → items_fault version 0 items ≡ Some path
    → page_fields_fault version fs ≡ Some path
bad_item version fs items path h e =
    fault_is version fs ∙ five_item (has_version version fs) (is_none (items_in fs)) (items_fault version 0 (unwrap_or (items_in fs) [])) (is_token (given (meta_field (codes "continue") fs))) (has_number fs) path h.kept (ap is_none h.there) (item_first version fs items (Some path) h e)

pub bad_token : (version : List ℕ) (fs : Pairs) (items : List Json) → HasItems version fs items → items_fault version 0 items ≡ None
    → is_token (given (meta_field (codes "continue") fs)) ≡ false → page_fields_fault version fs ≡ Some (codes "metadata.continue")
bad_token version fs items h e t =
    fault_is version fs ∙ five_token (has_version version fs) (is_none (items_in fs)) (items_fault version 0 (unwrap_or (items_in fs) [])) (is_token (given (meta_field (codes "continue") fs))) (has_number fs) h.kept (ap is_none h.there) (item_first version fs items None h e) t

pub bad_number : (version : List ℕ) (fs : Pairs) (items : List Json) → HasItems version fs items → items_fault version 0 items ≡ None
    → is_token (given (meta_field (codes "continue") fs)) ≡ true → has_number fs ≡ false → page_fields_fault version fs ≡ Some (codes "metadata.resourceVersion")
bad_number version fs items h e t n =
    fault_is version fs ∙ five_number (has_version version fs) (is_none (items_in fs)) (items_fault version 0 (unwrap_or (items_in fs) [])) (is_token (given (meta_field (codes "continue") fs))) (has_number fs) h.kept (ap is_none h.there) (item_first version fs items None h e) t n

pub fine : (version : List ℕ) (fs : Pairs) (items : List Json) → HasItems version fs items → items_fault version 0 items ≡ None
    → is_token (given (meta_field (codes "continue") fs)) ≡ true → has_number fs ≡ true → page_fields_fault version fs ≡ None
fine version fs items h e t n =
    fault_is version fs ∙ five_none (has_version version fs) (is_none (items_in fs)) (items_fault version 0 (unwrap_or (items_in fs) [])) (is_token (given (meta_field (codes "continue") fs))) (has_number fs) h.kept (ap is_none h.there) (item_first version fs items None h e) t n

-- ---- an end that tells a path

pub on_shape : (P Q : Path → Type 0) (e : WireEnd) → ((p : Path) → P p → Q p) → OnShape P e → OnShape Q e
on_shape P Q wire.LinkFault f h = h
on_shape P Q wire.TooLong f h = h
on_shape P Q wire.Gone f h = h
on_shape P Q (wire.Code c) f h = h
on_shape P Q (wire.Shape path) f h = f path.bytes h
on_shape P Q wire.NoMemory f h = h

-- that path
pub told_shape : (o : Option Path) (path : Path) (e : WireEnd) → o ≡ Some path → OnShape (λ p. p ≡ path) e → OnShape (λ p. o ≡ Some p) e
told_shape o path e is h = on_shape (λ p. p ≡ path) (λ p. o ≡ Some p) e (λ p same. is ∙ ap (λ (q : Path). Some q) (sym same)) h

-- the items are less deep than the page
pub page_levels : (j : Json) (fs : Pairs) (js : List Json) → as_object j ≡ Some fs → items_in fs ≡ Some js → items_depth (items_of js) ≤ depth j
page_levels j fs js o i = by_field (field (codes "items") fs) refl i
  where
    by_field : (f : Option Json) → field (codes "items") fs ≡ f → option_and_then as_list f ≡ Some js → items_depth (items_of js) ≤ depth j
    by_field None e h = absurd (cc)
    by_field (Some v) e h =
        let l = ap depth (list_known v js h) in
        let k = ap depth (object_known j fs o) in
        omega (arith, depth_field (codes "items") fs v e, l, k)
