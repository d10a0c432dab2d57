-- The places of a definition, and for each object a table of its names: which must be there, and what stands there.
use Rattle.std.specs.Prelude.{ℕ, List, [], ◌∷◌, Bool, true, false, cond}
use Rattle.std.specs.Str.{bytes_eq}
use Rattle.crd_reading.specs.Words.{spelled}
use Rattle.crd_reading.specs.declared.words.Word.{Word}
use Rattle.crd_reading.specs.declared.words.Word.TheVariants.{ApiVersion, Categories, Conversion, Deprecated, Group, Kind, ListKind, Metadata, Name, Names, OpenApi, Plural, PreserveUnknownFields, PrinterColumns, Schema, Scope, Served, ShortNames, Singular, Spec, Status, Storage, Versions}
use Rattle.crd_reading.specs.declared.places.Place.{Place}
use Rattle.crd_reading.specs.declared.places.Place.TheVariants.{Document, MetadataObject, SpecObject, NamesObject, VersionList, VersionObject, SchemaObject, ApiVersionText, KindText, ScopeText, AnyText, NameText, LabelText, KindName, Truth, Never, AnyObject, Any, Nowhere}
use Rattle.crd_reading.specs.declared.places.Row.{Row}

abbrev pub must : Word → Place → Row
must w p = record { named = w; required = true; place = p }

abbrev pub may : Word → Place → Row
may w p = record { named = w; required = false; place = p }

-- the names of the object at a place, in their order
abbrev pub rows : Place → List Row
rows Document =
    must ApiVersion ApiVersionText ∷ must Kind KindText ∷ must Metadata MetadataObject ∷ must Spec SpecObject ∷ may Status Any ∷ []
rows MetadataObject =
    must Name AnyText ∷ []
rows SpecObject =
    may Conversion Any ∷ must Group NameText ∷ must Names NamesObject ∷ may PreserveUnknownFields Never ∷ must Scope ScopeText ∷ must Versions VersionList ∷ []
rows NamesObject =
    may Categories Any ∷ must Kind KindName ∷ may ListKind KindName ∷ must Plural LabelText ∷ may ShortNames Any ∷ may Singular Any ∷ []
rows VersionList = []
rows VersionObject =
    may PrinterColumns Any ∷ may Deprecated Never ∷ must Name LabelText ∷ must Schema SchemaObject ∷ must Served Truth ∷ must Storage Truth ∷ []
rows SchemaObject =
    must OpenApi AnyObject ∷ []
rows ApiVersionText = []
rows KindText = []
rows ScopeText = []
rows AnyText = []
rows NameText = []
rows LabelText = []
rows KindName = []
rows Truth = []
rows Never = []
rows AnyObject = []
rows Any = []
rows Nowhere = []

-- the objects whose names are looked at
abbrev pub has_names : Place → Bool
has_names Document = true
has_names MetadataObject = true
has_names SpecObject = true
has_names NamesObject = true
has_names VersionList = false
has_names VersionObject = true
has_names SchemaObject = true
has_names ApiVersionText = false
has_names KindText = false
has_names ScopeText = false
has_names AnyText = false
has_names NameText = false
has_names LabelText = false
has_names KindName = false
has_names Truth = false
has_names Never = false
has_names AnyObject = false
has_names Any = false
has_names Nowhere = false

-- the one list whose items are looked at
abbrev pub has_items : Place → Bool
has_items Document = false
has_items MetadataObject = false
has_items SpecObject = false
has_items NamesObject = false
has_items VersionList = true
has_items VersionObject = false
has_items SchemaObject = false
has_items ApiVersionText = false
has_items KindText = false
has_items ScopeText = false
has_items AnyText = false
has_items NameText = false
has_items LabelText = false
has_items KindName = false
has_items Truth = false
has_items Never = false
has_items AnyObject = false
has_items Any = false
has_items Nowhere = false

-- a name that no row has is unknown, but for those of the metadata, which are passed over
abbrev pub other_place : Place → Place
other_place Document = Nowhere
other_place MetadataObject = Any
other_place SpecObject = Nowhere
other_place NamesObject = Nowhere
other_place VersionList = Nowhere
other_place VersionObject = Nowhere
other_place SchemaObject = Nowhere
other_place ApiVersionText = Nowhere
other_place KindText = Nowhere
other_place ScopeText = Nowhere
other_place AnyText = Nowhere
other_place NameText = Nowhere
other_place LabelText = Nowhere
other_place KindName = Nowhere
other_place Truth = Nowhere
other_place Never = Nowhere
other_place AnyObject = Nowhere
other_place Any = Nowhere
other_place Nowhere = Nowhere

abbrev pub place_at : List ℕ → List Row → Place → Place
place_at n [] p = p
place_at n (r ∷ rs) p = cond (bytes_eq n (spelled r.named)) r.place (place_at n rs p)

-- the place of the value at a name of the object there
abbrev pub place_in : Place → List ℕ → Place
place_in p n = place_at n (rows p) (other_place p)
