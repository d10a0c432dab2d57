-- What a server of a definition shows has the form that a client takes.
use Rattle.std.proofs.Common.{◌≡◌, ◌∙◌, refl, sym, ap, subst, ℕ, suc, ◌<◌, ◌^◌, Bool, true, false, not, List, [], ◌∷◌, ◌++◌, Option, None, Some, nat_eq, append_assoc, codes, decimal}
use Rattle.std.specs.Prelude.{◌&&◌, option_map, pos, IsTrue, unwrap_or, if◌then◌else◌}
use Rattle.std.specs.Option.{option_or}
use Rattle.std.specs.Str.{bytes_eq}
use Rattle.std.proofs.lemmas.Slice.Eq.{bytes_eq-Decides}
use Rattle.kj_value.specs.Json.{Json, whole, text, list, object, items_of, members_of}
use Rattle.kj_value.specs.Fields.{Pairs, field}
use Rattle.kj_value.specs.Kinds.{as_object}
use Rattle.kj_value.specs.KindLaws.{list_items, pairs_members}
use Rattle.kube_meta.specs.Document.{document, metadata, optional, some_text}
use Rattle.kube_meta.specs.Names.{is_name, is_namespace}
use Rattle.kube_meta.specs.View.{ObjectView}
use Rattle.object_reading.specs.Fields.{object_at}
use Rattle.object_reading.specs.Numbers.{is_number}
use Rattle.object_reading.specs.Refusal.{is_given_text}
use Rattle.object_reading.proofs.Digits.{is_number-Decides}
use Rattle.object_reading.proofs.Documents.{document-fields, fields, found_metadata, found_version}
use Rattle.object_reading.proofs.Metadata.{at}
use Rattle.api_calls.specs.Documents.{group_version, numbered, object_list}
use Rattle.api_calls.specs.Legal.{Each, key_of}
use Rattle.api_calls.specs.Meaning.{Meaning}
use Rattle.api_calls.specs.Objects.{Stored}
use Rattle.api_calls.specs.Replies.{AreShown}
use Rattle.api_calls.specs.Versions.{KeepsKey, Stand, StandsAt}
use Rattle.http_routes.specs.Actions.{IsVersion}
use Rattle.http_routes.specs.Paths.{IsKey}
use Rattle.place.specs.Place.{Names}
use Rattle.wire_client.specs.Forms.{Path, Wanted, anything, api_version, fields_fault, first_told, fits, has_name, has_namespace, has_number, has_version, item_path, items_fault, items_in, meta_field, object_fault, of_object, page_fault, page_fields_fault, this_one, told_if}
use Rattle.run_laws.specs.Placed.{IsNamed}

-- ---- tests that hold

four_none : (a b c d : Bool) (p q r s : Path) → a ≡ true → b ≡ true → c ≡ true → d ≡ true
    → first_told (told_if (not a) p ∷ told_if (not b) q ∷ told_if (not c) r ∷ told_if (not d) s ∷ []) ≡ None
four_none true true true true p q r s ha hb hc hd = refl
four_none true true true false p q r s ha hb hc hd = cc
four_none true true false d p q r s ha hb hc hd = cc
four_none true false c d p q r s ha hb hc hd = cc
four_none false b c d p q r s ha hb hc hd = cc

five_none : (a b d e : Bool) (p q r s : Path) (o : Option Path) → a ≡ true → b ≡ false → o ≡ None → d ≡ true → e ≡ true
    → first_told (told_if (not a) p ∷ told_if b q ∷ o ∷ told_if (not d) r ∷ told_if (not e) s ∷ []) ≡ None
five_none true false true true p q r s None ha hb ho hd he = refl
five_none true false true true p q r s (Some path) ha hb ho hd he = cc
five_none true false true false p q r s o ha hb ho hd he = cc
five_none true false false e p q r s o ha hb ho hd he = cc
five_none true true d e p q r s o ha hb ho hd he = cc
five_none false b d e p q r s o ha hb ho hd he = cc

both_true : (a b : Bool) → a ≡ true → b ≡ true → (a && b) ≡ true
both_true true b p q = q
both_true false b p q = p

-- a text that is written is of its kind, where the empty text isn't
given_text : (kind : List ℕ → Bool) (s : List ℕ) → (kind [] ≡ true → ⊥) → kind s ≡ true → is_given_text kind (some_text s) ≡ true
given_text kind [] none is = absurd (none is)
given_text kind (b ∷ bs) none is = is

no_namespace : (w : Option (List ℕ)) → (is_namespace [] && fits w []) ≡ true → ⊥
unfolding is_namespace
no_namespace w is = cc

no_name : (w : Option (List ℕ)) → (is_name [] && fits w []) ≡ true → ⊥
unfolding is_name
no_name w is = cc

same_bytes : (s t : List ℕ) → s ≡ t → bytes_eq s t ≡ true
same_bytes s t is = (bytes_eq-Decides s t).1 is

number_is : (number : ℕ) → number < 2 ^ 64 → is_number (decimal number) ≡ true
number_is number few = (is_number-Decides (decimal number)).1 (number, few, refl)

-- ---- an object

as_fields : (x : ObjectView) → as_object (document x) ≡ Some (fields x)
as_fields x = ap as_object (document-fields x) ∙ ap (λ (es : Pairs). Some es) (pairs_members (fields x))

meta_at : (k : List ℕ) (x : ObjectView) → meta_field k (fields x) ≡ field k (metadata x.meta)
meta_at k x = ap (λ (o : Option Json). field k (object_at o)) (found_metadata x) ∙ ap (field k) (pairs_members (metadata x.meta))

-- of that version, with such a namespace, name and number
record Fits (version : List ℕ) (w : Wanted) (x : ObjectView) (number : ℕ) : Type 0 where
  version_is : x.api_version ≡ version
  namespace : is_namespace x.meta.namespace ≡ true
  name : is_name x.meta.name ≡ true
  ns_fits : fits w.ns x.meta.namespace ≡ true
  name_fits : fits w.name x.meta.name ≡ true
  number_is : x.meta.resource_version ≡ Some (decimal number)
  few : number < 2 ^ 64

fields_fit : (version : List ℕ) (w : Wanted) (x : ObjectView) (number : ℕ) → Fits version w x number → fields_fault version w (fields x) ≡ None
unfolding fields_fault
fields_fit version w x number f =
    let fs = fields x in
    let is_version : has_version version fs ≡ true =
    ap (λ (o : Option Json). is_given_text (λ s. bytes_eq s version) o) (found_version x) ∙ same_bytes x.api_version version f.version_is in
    let namespace : has_namespace w.ns fs ≡ true =
    ap (λ (o : Option Json). is_given_text (λ s. is_namespace s && fits w.ns s) o) (meta_at (codes "namespace") x ∙ at (codes "namespace") x.meta (some_text x.meta.namespace) refl)
    ∙ given_text (λ s. is_namespace s && fits w.ns s) x.meta.namespace (no_namespace w.ns) (both_true (is_namespace x.meta.namespace) (fits w.ns x.meta.namespace) f.namespace f.ns_fits) in
    let name : has_name w.name fs ≡ true =
    ap (λ (o : Option Json). is_given_text (λ s. is_name s && fits w.name s) o) (meta_at (codes "name") x ∙ at (codes "name") x.meta (some_text x.meta.name) refl)
    ∙ given_text (λ s. is_name s && fits w.name s) x.meta.name (no_name w.name) (both_true (is_name x.meta.name) (fits w.name x.meta.name) f.name f.name_fits) in
    let numbered : has_number fs ≡ true =
    ap (λ (o : Option Json). is_given_text is_number o) (meta_at (codes "resourceVersion") x ∙ at (codes "resourceVersion") x.meta (option_map text x.meta.resource_version) refl
    ∙ ap (λ (o : Option (List ℕ)). option_map text o) f.number_is) ∙ number_is number f.few in
    four_none (has_version version fs) (has_namespace w.ns fs) (has_name w.name fs) (has_number fs) (codes "apiVersion") (codes "metadata.namespace") (codes "metadata.name") (codes "metadata.resourceVersion")
    is_version namespace name numbered

object_fits : (version : List ℕ) (w : Wanted) (x : ObjectView) (number : ℕ) → Fits version w x number → object_fault version w (document x) ≡ None
object_fits version w x number f = ap (λ (o : Option Pairs). of_object (fields_fault version w) o) (as_fields x) ∙ fields_fit version w x number f

module _ (m : Meaning) (stand : Stand m) (keeps : KeepsKey m) (honest : IsTrue m.honest) (n : Names) (group : n.group ≡ m.group) where
  version_of : (v : ℕ) → IsVersion m n.version v → group_version m v ≡ api_version n
  unfolding api_version
  version_of v version = ap (λ (g : List ℕ). g ++ (codes "/" ++ m.name v)) (sym group) ∙ ap (λ (name : List ℕ). n.group ++ (codes "/" ++ name)) version.1
      ∙ sym (append_assoc n.group (codes "/") n.version)

  -- what is shown of a whole value
  shown_fits : (w : Wanted) (boot number born v : ℕ) (h x : ObjectView) → IsVersion m n.version v → m.whole h → IsKey (key_of h) → m.pair v h x → number < 2 ^ 64
      → fits w.ns h.meta.namespace ≡ true → fits w.name h.meta.name ≡ true → Fits (api_version n) w (numbered boot number born x) number
  shown_fits w boot number born v h x version kept key pairs few ns name =
      let at_version : StandsAt m v x = stand.pair v h x version.0 kept pairs in
      let same_ns = keeps.namespace v h x version.0 kept pairs in
      let same_name = keeps.name v h x version.0 kept pairs in
      record {
        version_is = at_version.api_version ∙ version_of v version;
        namespace = ap is_namespace same_ns ∙ key.ns;
        name = ap is_name same_name ∙ key.name;
        ns_fits = ap (λ (s : List ℕ). fits w.ns s) same_ns ∙ ns;
        name_fits = ap (λ (s : List ℕ). fits w.name s) same_name ∙ name;
        number_is = refl;
        few = few;
      }

  pub object_form : (boot number born v : ℕ) (h x : ObjectView) → IsVersion m n.version v → m.whole h → IsKey (key_of h) → m.pair v h x → number < 2 ^ 64
      → object_fault (api_version n) (this_one (key_of h)) (document (numbered boot number born x)) ≡ None
  object_form boot number born v h x version kept key pairs few =
      object_fits (api_version n) (this_one (key_of h)) (numbered boot number born x) number
      (shown_fits (this_one (key_of h)) boot number born v h x version kept key pairs few (same_bytes h.meta.namespace h.meta.namespace refl) (same_bytes h.meta.name h.meta.name refl))

  -- ---- a page

  items_form : (boot v i : ℕ) (es : List Stored) (js : List Json) → IsVersion m n.version v → Each (IsNamed m) es → AreShown m boot v es js → items_fault (api_version n) i js ≡ None
  items_form boot v i [] [] version kept shown = refl
  items_form boot v i (e ∷ es) (j ∷ js) version kept shown =
      let here = kept.0 in
      let x : ObjectView = shown.0.0 in
      let pairs = shown.0.1 honest in
      let valid : IsKey (key_of e.h) = subst IsKey (sym here.key) here.valid in
      let form : object_fault (api_version n) anything j ≡ None =
      ap (λ (k : Json). object_fault (api_version n) anything k) shown.0.2
      ∙ object_fits (api_version n) anything (numbered boot e.number e.born x) e.number (shown_fits anything boot e.number e.born v e.h x version here.whole valid pairs here.number refl refl) in
      ap (λ (o : Option Path). option_or (option_map (item_path i) o) (items_fault (api_version n) (suc i) js)) form ∙ items_form boot v (suc i) es js version kept.1 shown.1
  items_form boot v i [] (j ∷ js) version kept shown = absurd shown
  items_form boot v i (e ∷ es) [] version kept shown = absurd shown

  abbrev list_meta : List ℕ → ℕ → ℕ → Bool → Pairs
  list_meta token number left b =
      (codes "continue", text token)
      ∷ optional (codes "remainingItemCount") (if b then None else Some (whole (pos left)))
      ++ (codes "resourceVersion", text (decimal number))
      ∷ []

  abbrev list_fields : ℕ → List Json → Pairs → Pairs
  list_fields v js ms =
      (codes "apiVersion", text (group_version m v))
      ∷ (codes "items", list (items_of js))
      ∷ (codes "kind", text m.list_kind)
      ∷ (codes "metadata", object (members_of ms))
      ∷ []

  list_form : (v : ℕ) (js : List Json) (token : List ℕ) (number left : ℕ) → IsVersion m n.version v → items_fault (api_version n) 0 js ≡ None → number < 2 ^ 64
      → page_fault (api_version n) (object_list m v js token number left) ≡ None
  unfolding object_list page_fields_fault
  list_form v js token number left version items few = by (nat_eq left 0)
    where
      is_version : bytes_eq (group_version m v) (api_version n) ≡ true
      is_version = same_bytes (group_version m v) (api_version n) (version_of v version)

      items_are : items_fault (api_version n) 0 (unwrap_or (items_in (list_fields v js [])) []) ≡ None
      items_are = ap (λ (ks : List Json). items_fault (api_version n) 0 ks) (list_items js) ∙ items

      by : (b : Bool) → page_fault (api_version n) (object (members_of (list_fields v js (list_meta token number left b)))) ≡ None
      by true = five_none (bytes_eq (group_version m v) (api_version n)) false true (is_number (decimal number))
          (codes "apiVersion") (codes "items") (codes "metadata.continue") (codes "metadata.resourceVersion")
          (items_fault (api_version n) 0 (unwrap_or (items_in (list_fields v js [])) [])) is_version refl items_are refl (number_is number few)
      by false = five_none (bytes_eq (group_version m v) (api_version n)) false true (is_number (decimal number))
          (codes "apiVersion") (codes "items") (codes "metadata.continue") (codes "metadata.resourceVersion")
          (items_fault (api_version n) 0 (unwrap_or (items_in (list_fields v js [])) [])) is_version refl items_are refl (number_is number few)

  pub page_form : (boot number left v : ℕ) (es : List Stored) (js : List Json) (token : List ℕ) → IsVersion m n.version v → Each (IsNamed m) es → AreShown m boot v es js → number < 2 ^ 64
      → page_fault (api_version n) (object_list m v js token number left) ≡ None
  page_form boot number left v es js token version kept shown few = list_form v js token number left version (items_form boot v 0 es js version kept shown) few
