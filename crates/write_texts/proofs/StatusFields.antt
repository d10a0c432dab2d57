-- The Status of a delete: its fields, as they are put one after another.
use Rattle.std.proofs.Common.{◌≡◌, ℕ, ◌≤◌, List, [], refl, ap, lit≤}
use Rattle.std.specs.Prelude.{codes}
use Rattle.kj_value.specs.Fields.{Pairs, with_field}
use Rattle.kj_value.specs.Json.{Json, depth, members_of, no_members, object, text}
use Rattle.api_calls.specs.Documents.{deleted_status}
use Rattle.api_calls.specs.Meaning.{Meaning}
use Rattle.write_texts.specs.inner.Deleting.{deleted_details}

pub put_next : (before after made : Pairs) (name : List ℕ) (v w : Json) → after ≡ with_field name v before → v ≡ w → before ≡ made → after ≡ with_field name w made
put_next before after made name v w e f g = rw (e, f, g) refl

abbrev details_made : Meaning → List ℕ → List ℕ → Pairs
details_made m name id =
    with_field (codes "uid") (text id)
    (with_field (codes "name") (text name)
    (with_field (codes "kind") (text m.plural)
    (with_field (codes "group") (text m.group) [])))

pub details_fields : (fields : Pairs) (m : Meaning) (name id : List ℕ) → fields ≡ details_made m name id → object (members_of fields) ≡ deleted_details m name id
unfolding deleted_details
details_fields fields m name id e = ap (λ (es : Pairs). object (members_of es)) e

abbrev status_made : Meaning → List ℕ → List ℕ → Pairs
status_made m name id =
    with_field (codes "status") (text (codes "Success"))
    (with_field (codes "metadata") (object no_members)
    (with_field (codes "kind") (text (codes "Status"))
    (with_field (codes "details") (deleted_details m name id)
    (with_field (codes "apiVersion") (text (codes "v1")) []))))

pub status_fields : (fields : Pairs) (m : Meaning) (name id : List ℕ) → fields ≡ status_made m name id → object (members_of fields) ≡ deleted_status m name id
unfolding deleted_status deleted_details
status_fields fields m name id e = ap (λ (es : Pairs). object (members_of es)) e

pub depth-deleted_status : (m : Meaning) (name id : List ℕ) → depth (deleted_status m name id) ≤ 100
unfolding deleted_status
depth-deleted_status m name id = lit≤ tt
