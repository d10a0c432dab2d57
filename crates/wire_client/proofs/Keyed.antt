-- Items that have their form tell keys.
use Rattle.std.proofs.Common.{◌≡◌, ◌&&◌, ℕ, suc, Bool, true, false, not, List, [], ◌∷◌, Option, None, Some, option_map, unwrap_or, codes, refl}
use Rattle.std.specs.Option.{option_or}
use Rattle.kj_value.specs.Json.{Json, null, boolean, whole, text, list, object}
use Rattle.kj_value.specs.Fields.{Pairs}
use Rattle.kj_value.specs.Kinds.{as_object}
use Rattle.kube_meta.specs.Names.{is_name, is_namespace}
use Rattle.object_reading.specs.Fields.{text_at}
use Rattle.object_reading.specs.Refusal.{is_given_text}
use Rattle.wire_client.specs.Forms.{Path, told_if, first_told, of_object, anything, fits, fields_of, meta_field, has_version, has_namespace, has_name, has_number, fields_fault, object_fault, item_path, items_fault, key_in}
use Rattle.wire_client.specs.Keys.{IsKeyed, AreKeyed}

-- where nothing is told, each test holds
all_hold : (a b c d : Bool) (p q r s : Path) → first_told (told_if (not a) p ∷ told_if (not b) q ∷ told_if (not c) r ∷ told_if (not d) s ∷ []) ≡ None
    → (b ≡ true) × (c ≡ true)
all_hold false b c d p q r s e = absurd (cc)
all_hold true false c d p q r s e = absurd (cc)
all_hold true true false d p q r s e = absurd (cc)
all_hold true true true d p q r s e = (refl, refl)

first_true : (a b : Bool) → (a && b) ≡ true → a ≡ true
first_true true b e = refl
first_true false b e = e

-- what is judged of a text that is there
judged : (kind : List ℕ → Bool) (o : Option Json) → is_given_text kind o ≡ true → kind (unwrap_or (text_at o) []) ≡ true
judged kind None e = absurd (cc)
judged kind (Some null) e = absurd (cc)
judged kind (Some (boolean b)) e = absurd (cc)
judged kind (Some (whole z)) e = absurd (cc)
judged kind (Some (text t)) e = e
judged kind (Some (list js)) e = absurd (cc)
judged kind (Some (object ms)) e = absurd (cc)

fields_keyed : (version : List ℕ) (fs : Pairs) → fields_fault version anything fs ≡ None
    → (is_namespace (key_in fs).ns ≡ true) × (is_name (key_in fs).name ≡ true)
unfolding fields_fault
fields_keyed version fs e =
    let h = all_hold (has_version version fs) (has_namespace None fs) (has_name None fs) (has_number fs) (codes "apiVersion") (codes "metadata.namespace") (codes "metadata.name") (codes "metadata.resourceVersion") e in (
      first_true _ _ (judged (λ s. is_namespace s && fits None s) (meta_field (codes "namespace") fs) h.0),
      first_true _ _ (judged (λ s. is_name s && fits None s) (meta_field (codes "name") fs) h.1),
    )

object_keyed : (version : List ℕ) (j : Json) → object_fault version anything j ≡ None → IsKeyed j
object_keyed version j e = by_fields (as_object j) refl e
  where
    by_fields : (o : Option Pairs) → as_object j ≡ o → of_object (fields_fault version anything) o ≡ None → IsKeyed j
    by_fields None is h = absurd (cc)
    by_fields (Some fs) is h =
        let k = fields_keyed version fs h in
        record { ns = rw is k.0; name = rw is k.1 }

both_none : (o p : Option Path) → option_or o p ≡ None → (o ≡ None) × (p ≡ None)
both_none None p e = (refl, e)
both_none (Some path) p e = absurd (cc)

not_mapped : (i : ℕ) (o : Option Path) → option_map (item_path i) o ≡ None → o ≡ None
not_mapped i None e = refl
not_mapped i (Some path) e = absurd (cc)

pub items_keyed : (version : List ℕ) (i : ℕ) (js : List Json) → items_fault version i js ≡ None → AreKeyed js
items_keyed version i [] e = tt
items_keyed version i (j ∷ js) e =
    let h = both_none (option_map (item_path i) (object_fault version anything j)) (items_fault version (suc i) js) e in
    (object_keyed version j (not_mapped i _ h.0), items_keyed version (suc i) js h.1)
