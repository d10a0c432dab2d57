-- The keys of the objects of answers.
use Rattle.std.specs.Prelude.{List, [], ◌∷◌, IsTrue}
use Rattle.kj_value.specs.Json.{Json}
use Rattle.kube_meta.specs.Key.{KeyView}
use Rattle.kube_meta.specs.Names.{is_name, is_namespace}
use Rattle.wire_client.specs.Forms.{fields_of, key_in}
use Rattle.wire_client.specs.declared.reading.KeyTexts.{KeyTexts}

-- the key whose texts are lent
abbrev pub texts_key : KeyTexts → KeyView
texts_key k = record { ns = k.ns.now; name = k.name.now }

-- the object tells a namespace and a name
pub record IsKeyed (j : Json) : Type 0 where
  pub ns : IsTrue (is_namespace (key_in (fields_of j)).ns)
  pub name : IsTrue (is_name (key_in (fields_of j)).name)

abbrev pub AreKeyed : List Json → Type 0
AreKeyed [] = Unit {0}
AreKeyed (j ∷ js) = IsKeyed j × AreKeyed js
