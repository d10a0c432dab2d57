-- The names in the objects of a definition (CustomResourceDefinition, apiextensions.k8s.io/v1), and the words of refusals.
use Rattle.std.specs.Prelude.{ℕ, List, codes}
use Rattle.crd_reading.specs.declared.words.Word.{Word}
use Rattle.crd_reading.specs.declared.words.Word.TheVariants.{ApiVersion, Categories, Conversion, Deprecated, Group, Kind, ListKind, Metadata, Name, Names, OpenApi, Plural, PreserveUnknownFields, PrinterColumns, Schema, Scope, Served, ShortNames, Singular, Spec, Status, Storage, Versions}

unfoldable pub spelled : Word → List ℕ
spelled ApiVersion = codes "apiVersion"
spelled Categories = codes "categories"
spelled Conversion = codes "conversion"
spelled Deprecated = codes "deprecated"
spelled Group = codes "group"
spelled Kind = codes "kind"
spelled ListKind = codes "listKind"
spelled Metadata = codes "metadata"
spelled Name = codes "name"
spelled Names = codes "names"
spelled OpenApi = codes "openAPIV3Schema"
spelled Plural = codes "plural"
spelled PreserveUnknownFields = codes "preserveUnknownFields"
spelled PrinterColumns = codes "additionalPrinterColumns"
spelled Schema = codes "schema"
spelled Scope = codes "scope"
spelled Served = codes "served"
spelled ShortNames = codes "shortNames"
spelled Singular = codes "singular"
spelled Spec = codes "spec"
spelled Status = codes "status"
spelled Storage = codes "storage"
spelled Versions = codes "versions"

-- a value that may not stand at its name, or a name that must be there and isn't
unfoldable pub shape_word : List ℕ
shape_word = codes "Shape"

-- a name that may not stand where it stands
unfoldable pub unknown_word : List ℕ
unknown_word = codes "Unknown"

-- ---- the one text of three names

unfoldable pub api_version : List ℕ
api_version = codes "apiextensions.k8s.io/v1"

unfoldable pub document_kind : List ℕ
document_kind = codes "CustomResourceDefinition"

unfoldable pub namespaced : List ℕ
namespaced = codes "Namespaced"
