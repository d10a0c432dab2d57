-- For private clauses: a document's text, cut where the fields go that stand last in its metadata.
use Rattle.std.specs.Prelude.{◌≡◌, ℕ, Bool, true, false, List, [], ◌∷◌, ◌++◌, length}
use Rattle.kj_value.specs.Characters.{begin_object, end_object}
use Rattle.kj_value.specs.Json.{members_of}
use Rattle.kj_value.specs.Fields.{Pairs}
use Rattle.kj_value.specs.Text.{members_text}
use Rattle.kube_meta.specs.View.{ObjectView}
use Rattle.document_text.specs.FieldLaws.{lead, more, before, after, around_meta, others}
use Rattle.document_text.specs.Numbered.{metadata_name}

-- there is a field
abbrev pub has_any : Pairs → Bool
has_any [] = false
has_any (e ∷ es) = true

-- the text up to the end of the metadata's fields
abbrev pub front_of : ObjectView → List ℕ
front_of x = begin_object ∷ (lead (before metadata_name (around_meta x)) metadata_name ++ begin_object ∷ members_text (members_of (others x.meta)))

-- from the brace on that closes the metadata
abbrev pub back_of : ObjectView → List ℕ
back_of x = end_object ∷ (more (after metadata_name (around_meta x)) ++ end_object ∷ [])

pub record IsCut (x : ObjectView) (bytes : List ℕ) (place : ℕ) (some : Bool) : Type 0 where
  pub spelled : bytes ≡ front_of x ++ back_of x
  pub at : place ≡ length (front_of x)
  pub fields : some ≡ has_any (others x.meta)
