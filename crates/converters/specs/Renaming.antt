-- What objects of a small definition are turned to: of group example.com, whose version v1 calls `host` what v1beta1 calls `address`.
use Rattle.std.specs.Prelude.{◌≡◌, ℕ, ◌&&◌, List, Option, None, Some, option_map, codes, bytes_eq, if◌then◌else◌}
use Rattle.kj_value.specs.Json.{Json, text, object}
use Rattle.kj_value.specs.Fields.{Pairs, field, with_field, without_field}
use Rattle.kube_meta.specs.View.{ObjectView}
use Rattle.object_reading.specs.Parts.{whole_in, body_in}
use Rattle.converters.specs.Turned.{Turned}
use Rattle.converters.specs.Turns.{Answer, answered, refused}

unfoldable pub v1 : List ℕ
v1 = codes "example.com/v1"

unfoldable pub v1beta1 : List ℕ
v1beta1 = codes "example.com/v1beta1"

-- the name of the field at a version and at another one
abbrev pub Names : Type 0
Names = List ℕ × List ℕ

unfoldable pub names_for : List ℕ → List ℕ → Option Names
names_for version to =
    if bytes_eq version v1beta1 && bytes_eq to v1 then Some (codes "address", codes "host")
    else (if bytes_eq version v1 && bytes_eq to v1beta1 then Some (codes "host", codes "address") else None)

-- with the value at the name, where there is one
abbrev pub put : List ℕ → Option Json → Pairs → Pairs
put name None es = es
put name (Some j) es = with_field name j es

-- what stands at one name stands at another
abbrev pub renamed : Names → Pairs → Pairs
renamed n es = put n.1 (field n.0 es) (without_field n.0 es)

-- the object at another version, with a field of another name
abbrev pub moved : ObjectView → List ℕ → Names → ObjectView
moved x to n = record x { api_version = to; body = renamed n x.body }

-- An object at the version stays as it is; there is none from or to any other version than these two.
unfoldable pub rename : Turned
rename x to = if bytes_eq x.api_version to then Some x else option_map (moved x to) (names_for x.api_version to)

-- ---- for private clauses

-- the fields of a document with a field renamed and another version
abbrev pub remade : Names → List ℕ → Pairs → Pairs
remade n to es =
    put (codes "metadata") (field (codes "metadata") es)
    (put (codes "kind") (field (codes "kind") (without_field (codes "metadata") es))
    (with_field (codes "apiVersion") (text to) (renamed n (body_in es))))

-- a document is what an object is turned to, or there is none
abbrev pub TurnsTo : ObjectView → List ℕ → Option Json → Type 0
TurnsTo x to None = rename x to ≡ None
TurnsTo x to (Some j) = rename x to ≡ Some (whole_in j)

-- what is told of a turn that was answered so
abbrev pub answer_to : Option Json → Answer
answer_to None = refused
answer_to (Some j) = answered j
