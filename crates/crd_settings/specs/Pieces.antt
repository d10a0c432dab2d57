-- The text of a definition's document in pieces, between which the flags and the stored versions stand. Public clauses cite
-- `AreItsPieces` and `CanShow`; the rest is for private ones.
use Rattle.std.specs.Prelude.{◌≡◌, ◌≤◌, ℕ, zero, suc, Bool, List, [], ◌∷◌, ◌++◌, length, map, slice_index_or, string_bytes, codes}
use Rattle.std.specs.Coded.{Π_prop, Coded-set, coded_list, coded_ℕ}
use Rattle.kj_value.specs.Json.{boolean, Items, no_items, item, Members, no_members, member}
use Rattle.kj_value.specs.Characters.{colon}
use Rattle.kj_value.specs.Text.{quoted, text_of}
use Rattle.kj_value.specs.Texts.{bytes_of}
use Rattle.api_calls.specs.Versions.{IsStoredList}
use Rattle.api_calls.specs.declared.flags.StoredList.{StoredList}
use Rattle.crd_reading.specs.View.{VersionView, DefinitionView}
use Rattle.crd_settings.specs.Shown.{document_with, show_room}
use Rattle.crd_settings.specs.declared.parts.Mark.{Mark}
use Rattle.crd_settings.specs.declared.cut.Part.{Part}
use Rattle.crd_settings.specs.declared.cut.Part.TheVariants.{Text, Served, Storage}
use Rattle.crd_settings.specs.declared.cut.Cut.{Cut}
use Rattle.crd_settings.specs.declared.pieces.Pieces.{Pieces}

-- ---- texts that are always the same

unfoldable pub before_name : List ℕ
before_name = codes "{\"apiVersion\":\"apiextensions.k8s.io/v1\",\"kind\":\"CustomResourceDefinition\",\"metadata\":{\"name\":"

unfoldable pub before_spec : List ℕ
before_spec = codes "},\"spec\":"

unfoldable pub before_stored : List ℕ
before_stored = codes ",\"status\":{\"storedVersions\":["

unfoldable pub behind_stored : List ℕ
behind_stored = codes "]}}"

-- what stands before the thing at a place of a list or an object
abbrev pub comma_before : ℕ → List ℕ
comma_before zero = []
comma_before (suc i) = codes ","

-- ---- the text of values, from a place on

abbrev pub named_text : ℕ → List ℕ → List ℕ → List ℕ
named_text i k value = comma_before i ++ (quoted k ++ colon ∷ value)

abbrev pub members_from : ℕ → Members → List ℕ
members_from i no_members = []
members_from i (member k j ms) = named_text i k (text_of j) ++ members_from (suc i) ms

abbrev pub items_from : ℕ → Items → List ℕ
items_from i no_items = []
items_from i (item j js) = (comma_before i ++ text_of j) ++ items_from (suc i) js

-- names, as they stand in quotes
abbrev pub names_from : ℕ → List (List ℕ) → List ℕ
names_from i [] = []
names_from i (t ∷ ts) = (comma_before i ++ t) ++ names_from (suc i) ts

-- ---- pieces

abbrev pub truth_text : Bool → List ℕ
truth_text b = text_of (boolean b)

abbrev pub part_text : (ℕ → Mark) → Part → List ℕ
part_text m (Text t) = t.bytes
part_text m (Served v) = truth_text (m v).served
part_text m (Storage v) = truth_text (m v).storage

abbrev pub parts_text : (ℕ → Mark) → List Part → List ℕ
parts_text m [] = []
parts_text m (p ∷ ps) = part_text m p ++ parts_text m ps

abbrev pub cut_text : (ℕ → Mark) → Cut → List ℕ
cut_text m c = parts_text m c.parts.items ++ string_bytes c.text

-- the one goes on behind the other with a text that depends on the flags
pub record GoesOn (before after : Cut) (more : (ℕ → Mark) → List ℕ) : Type 0 where
  pub text : (m : ℕ → Mark) → cut_text m after ≡ cut_text m before ++ more m

-- ---- the whole

abbrev pub joined : (ℕ → Mark) → List Part → List (List ℕ) → List ℕ
joined m parts stored = parts_text m parts ++ (names_from 0 stored ++ behind_stored)

-- the text at a place
abbrev pub name_at : List (List ℕ) → ℕ → List ℕ
name_at names v = slice_index_or names v []

-- ---- the pieces of a definition

-- the pieces are of the definition's text, and the names, in quotes, of its versions
pub record AreItsPieces (d : DefinitionView) (p : Pieces) : Type 0 where
  pub text : (m : ℕ → Mark) (stored : List (List ℕ)) → text_of (document_with d m stored) ≡ joined m p.parts.items (map quoted stored)
  pub names : map bytes_of p.names.items ≡ map (λ v. quoted v.name) d.versions
  pub room : p.room ≡ show_room d

-- they are so in one way at most
pub AreItsPieces-prop : (d : DefinitionView) (p : Pieces) → IsProp (AreItsPieces d p)
AreItsPieces-prop d p a b = λ i. record {
  text = Π_prop (λ m. Π_prop (λ stored. Coded-set (coded_list coded_ℕ) (text_of (document_with d m stored)) (joined m p.parts.items (map quoted stored)))) a.text b.text i;
  names = Coded-set (coded_list (coded_list coded_ℕ)) (map bytes_of p.names.items) (map (λ (v : VersionView). quoted v.name) d.versions) a.names b.names i;
  room = Coded-set coded_ℕ p.room (show_room d) a.room b.room i;
}

-- the pieces are some definition's, the stored versions are of its versions, and there is room for its longest text
pub record CanShow (p : Pieces) (stored : StoredList) (room : ℕ) : Type 0 where
  pub definition : DefinitionView
  pub pieces : AreItsPieces definition p
  pub known : IsStoredList (length definition.versions) stored
  pub fits : show_room definition ≤ room
