-- What a cache is seen as, of the pairs that it holds.
use Rattle.std.specs.Prelude.{List, map}
use Rattle.kj_value.specs.Txt.{Bytes}
use Rattle.form_cache.specs.Forms.{Form}
use Rattle.form_cache.specs.declared.name.FormName.{FormName}

abbrev pub form_of : FormName × Bytes → Form
form_of e = record { key = e.0.key; number = e.0.number; version = e.0.version; text = e.1.bytes }

abbrev pub shown : List (FormName × Bytes) → List Form
shown es = map form_of es
