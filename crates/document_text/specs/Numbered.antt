-- A document's text without a number and a uid, and what becomes of it with them.
use Rattle.std.specs.Prelude.{◌≡◌, ◌≢◌, ℕ, List, [], ◌∷◌, ◌++◌, Some, None, codes, flat_map}
use Rattle.kj_value.specs.Characters.{end_object, quote}
use Rattle.kj_value.specs.Json.{object, members_of}
use Rattle.kj_value.specs.Sound.{IsSoundJson}
use Rattle.kj_value.specs.Text.{escaped_byte, text_of, members_text, more_members}
use Rattle.kj_value.specs.Fields.{Pairs}
use Rattle.kube_meta.specs.View.{ObjectView}
use Rattle.kube_meta.specs.Document.{document}

-- with a resource version and a uid
abbrev pub with_numbers : List ℕ → List ℕ → ObjectView → ObjectView
with_numbers number uid x = record x { meta = record x.meta { resource_version = Some number; uid = Some uid } }

-- the bytes are the compact text of the document of x, which has neither a resource version nor a uid
pub record IsBare (x : ObjectView) (bytes : List ℕ) : Type 0 where
  pub no_number : x.meta.resource_version ≡ None
  pub no_uid : x.meta.uid ≡ None
  pub sound : IsSoundJson (document x)
  pub spelled : bytes ≡ text_of (document x)

-- what stands before the number, and between it and the uid
abbrev pub number_name : List ℕ
number_name = codes "\"resourceVersion\":\""

abbrev pub between : List ℕ
between = codes "\",\"uid\":\""

-- the document of x with a number and a uid that JSON spells as they stand is front, comma, both with their names, and back
abbrev pub AreParts : ObjectView → List ℕ → List ℕ → List ℕ → Type 0
AreParts x front comma back =
    (number uid : List ℕ) → flat_map escaped_byte number ≡ number → flat_map escaped_byte uid ≡ uid
    → ((((((front ++ comma) ++ number_name) ++ number) ++ between) ++ uid) ++ quote ∷ []) ++ back ≡ text_of (document (with_numbers number uid x))

-- ---- for private clauses: the fields of a document, parted at its metadata

abbrev pub metadata_name : List ℕ
metadata_name = codes "metadata"

-- fields of other names, whose values are sound
abbrev pub AreOthers : Pairs → Type 0
AreOthers [] = Unit {0}
AreOthers (e ∷ es) = (e.0 ≢ metadata_name) × IsSoundJson e.1 × AreOthers es

-- the bytes are the text of the fields es, of metadata of the fields os, and of the fields fs, with the brace that closes the document
pub record IsParted (es os fs : Pairs) (bytes : List ℕ) : Type 0 where
  pub others : AreOthers es
  pub sound : IsSoundJson (object (members_of os))
  pub spelled : bytes ≡ members_text (members_of (es ++ (metadata_name, object (members_of os)) ∷ fs)) ++ end_object ∷ []

-- the text from inside of the metadata on
abbrev pub inside_metadata : Pairs → Pairs → List ℕ
inside_metadata os fs = members_text (members_of os) ++ end_object ∷ (more_members (members_of fs) ++ end_object ∷ [])
