-- What contracts see of a pass and of the server that callers share.
use Rattle.std.specs.Prelude.{◌≡◌, ℕ, List, Some, refl}
use Rattle.std.specs.Coded.{Coded, code_by, coded_ℕ, coded_list, coded×}
use Rattle.atomic_table.specs.Seated.{TableId, table_id_coded}
use Rattle.kube_meta.specs.Key.{KeyView}
use Rattle.kube_meta.specs.declared.limits.Limits.{Limits}
use Rattle.api_calls.specs.Item.{items}
use Rattle.api_calls.specs.Legal.{IsLegal}
use Rattle.api_calls.specs.Meaning.{Meaning}
use Rattle.turn_cell.specs.declared.view.View.{View}
use Rattle.turn_cell.specs.laws.ViewCode.{view_code}
use Rattle.call_texts.specs.Cached.{AreCached}
use Rattle.form_cache.specs.Forms.{Form, Forms, forms_of}
use Rattle.form_cache.specs.Limits.{forms_of_a_pass}
use Rattle.shared_api.specs.declared.cell.CoreBase.{CoreBase}

-- of a pass: the table of its turn, what it knows, its tool, and the forms that its cache holds
pub record Known (B A : Type 0) : Type 0 where
  pub table : TableId
  pub view : View B
  pub tool : A
  pub forms : Forms

-- of a server: the table of its turn, and what no call changes
pub record ApiOf (B : Type 0) : Type 0 where
  pub table : TableId
  pub base : B

-- The pass was made by the server, and what it has seen is a legal list. Each text that its cache holds is the reply that shows
-- the object which this list has under the text's key and number, at the text's version; and the cache holds 256 at most.
pub record IsOf {V A : Type 0} (meaning : V → Meaning) (a : ApiOf (CoreBase V)) (p : Known (CoreBase V) A) : Type 0 where
  pub table : p.table ≡ a.table
  pub base : p.view.base ≡ Some a.base
  pub legal : IsLegal (meaning a.base.versions) a.base.limits p.view.seen
  pub cached : AreCached (meaning a.base.versions) a.base.boot (items p.view.seen) p.forms.forms
  pub most : p.forms.most ≡ forms_of_a_pass

-- ---- how the logic stores them

abbrev limits_code : Coded Limits
limits_code =
    code_by (ℕ × (ℕ × (ℕ × (ℕ × ℕ)))) (coded× coded_ℕ (coded× coded_ℕ (coded× coded_ℕ (coded× coded_ℕ coded_ℕ))))
    (λ l. (l.objects, (l.chunks, (l.window_records, (l.window_chunks, l.migrations)))))
    (λ p. record { objects = p.0; chunks = p.1.0; window_records = p.1.1.0; window_chunks = p.1.1.1.0; migrations = p.1.1.1.1 }) (λ _. refl)

abbrev pub base_code : {V : Type 0} → Coded V → Coded (CoreBase V)
base_code {V} v =
    code_by (V × (Limits × ℕ)) (coded× v (coded× limits_code coded_ℕ)) (λ b. (b.versions, (b.limits, b.boot)))
    (λ p. record { versions = p.0; limits = p.1.0; boot = p.1.1 }) (λ _. refl)

abbrev bytes_code : Coded (List ℕ)
bytes_code = coded_list coded_ℕ

abbrev key_code : Coded KeyView
key_code = code_by (List ℕ × List ℕ) (coded× bytes_code bytes_code) (λ k. (k.ns, k.name)) (λ p. record { ns = p.0; name = p.1 }) (λ _. refl)

abbrev form_code : Coded Form
form_code =
    code_by (KeyView × (ℕ × (ℕ × List ℕ))) (coded× key_code (coded× coded_ℕ (coded× coded_ℕ bytes_code)))
    (λ f. (f.key, (f.number, (f.version, f.text)))) (λ p. record { key = p.0; number = p.1.0; version = p.1.1.0; text = p.1.1.1 }) (λ _. refl)

abbrev forms_code : Coded Forms
forms_code = code_by (List Form × ℕ) (coded× (coded_list form_code) coded_ℕ) (λ c. (c.forms, c.most)) (λ p. forms_of p.0 p.1) (λ _. refl)

abbrev pub known_code : {B A : Type 0} → Coded B → Coded A → Coded (Known B A)
known_code {B} {A} b a =
    code_by (TableId × (View B × (A × Forms))) (coded× table_id_coded (coded× (view_code b) (coded× a forms_code))) (λ k. (k.table, (k.view, (k.tool, k.forms))))
    (λ p. record { table = p.0; view = p.1.0; tool = p.1.1.0; forms = p.1.1.1 }) (λ _. refl)

abbrev pub api_code : {V : Type 0} → Coded V → Coded (ApiOf (CoreBase V))
api_code {V} v =
    code_by (TableId × CoreBase V) (coded× table_id_coded (base_code v)) (λ a. (a.table, a.base)) (λ p. record { table = p.0; base = p.1 }) (λ _. refl)
