-- For private clauses: one turn, and what is tested of its answer.
use Rattle.std.specs.Prelude.{◌≡◌, ◌≤◌, ◌⊎◌, ⊤, ℕ, List, [], Option, None, Some}
use Rattle.kj_value.specs.Json.{Json, object, members_of, depth}
use Rattle.kj_value.specs.Fields.{Pairs, AreInOrder, field}
use Rattle.kube_meta.specs.View.{ObjectView}
use Rattle.kube_meta.specs.Document.{document}
use Rattle.object_reading.specs.Fields.{object_at}
use Rattle.object_reading.specs.Keeping.{KeepsRules}
use Rattle.object_reading.specs.Parts.{whole_in}
use Rattle.object_reading.specs.Written.{IsWritable}
use Rattle.struct_schema.specs.Shape.{Shape}
use Rattle.struct_schema.specs.Fault.{fault}
use Rattle.api_calls.specs.Versions.{AreStamps}
use Rattle.api_calls.specs.declared.versions.TheConstants.{OBJECT_LEVELS}
use Rattle.crd_meaning.specs.Definition.{Definition, version_at}
use Rattle.crd_meaning.specs.Objects.{IsMeta}
use Rattle.crd_meaning.specs.Admission.{IsFilling}
use Rattle.converters.specs.Turns.{Turn, answered, refused, failed, one_more}
use Rattle.crd_laws.specs.Hook.{version_text, Stands}
use Rattle.crd_laws.specs.Turning.{IsTakenAt, taken_of}
use Rattle.hook_versions.specs.declared.turning.Unturned.{Unturned}
use Rattle.hook_versions.specs.declared.turning.Unturned.TheVariants as unturned

-- the fields of the object that stands at the name
abbrev pub IsFieldsAt : Pairs → List ℕ → Option Pairs → Type 0
IsFieldsAt es name None = object_at (field name es) ≡ []
IsFieldsAt es name (Some ms) = object_at (field name es) ≡ ms

-- an object that is given to a converter: one of the definition, without a uid, whose document is within the levels
pub record IsSent (d : Definition) (x : ObjectView) : Type 0 where
  pub kind : x.kind ≡ d.view.kind
  pub rules : KeepsRules x.meta
  pub meta : IsMeta x.meta
  pub writable : IsWritable x
  pub no_uid : x.meta.uid ≡ None
  pub levels : depth (document x) ≤ OBJECT_LEVELS

-- the fields are valid, filled and within the levels
pub record Fits (s : Shape) (body : Pairs) : Type 0 where
  pub valid : fault s (object (members_of body)) ≡ None
  pub filled : IsFilling s body body
  pub levels : depth (object (members_of body)) ≤ OBJECT_LEVELS

-- of an object o that an answer to x is: it has the kind and the key of x, stands at the version, and its body fits
pub record HasParts (d : Definition) (v : ℕ) (x o : ObjectView) : Type 0 where
  pub version : o.api_version ≡ version_text d v
  pub kind : o.kind ≡ x.kind
  pub name : o.meta.name ≡ x.meta.name
  pub namespace : o.meta.namespace ≡ x.meta.namespace
  pub body : Fits (version_at d v).schema o.body

-- and y is x with its version, labels, annotations and body
pub record TakesParts (d : Definition) (v : ℕ) (x o y : ObjectView) : Type 0 where
  pub has : HasParts d v x o
  pub is : y ≡ record x { api_version = o.api_version; meta = record x.meta { labels = o.meta.labels; annotations = o.meta.annotations }; body = o.body }
  pub labels : AreInOrder o.meta.labels
  pub annotations : AreInOrder o.meta.annotations

-- y is taken of an answer to x at the version, and its metadata keep their rules
pub record IsTaken (d : Definition) (x : ObjectView) (v : ℕ) (answer : Json) (y : ObjectView) : Type 0 where
  pub good : IsTakenAt d v x answer
  pub is : y ≡ taken_of x answer
  pub labels : AreInOrder (whole_in answer).meta.labels
  pub annotations : AreInOrder (whole_in answer).meta.annotations
  pub rules : KeepsRules (taken_of x answer).meta

-- an object at a version that can be given to a converter
pub record IsStanding (d : Definition) (v : ℕ) (x : ObjectView) : Type 0 where
  pub stands : Stands d v x
  pub stamps : AreStamps x.meta.created x.meta.deleted x.meta.generation
  pub sent : IsSent d x

-- one turn was made, and y is taken of its answer
pub record Turns (d : Definition) (before now : Option (List Turn)) (x : ObjectView) (v : ℕ) (y : ObjectView) : Type 0 where
  pub answer : Json
  pub taken : IsTaken d x v answer y
  pub made : now ≡ one_more before (document x) (version_text d v) (answered answer)

-- one turn was made, and it was refused, or it failed, or nothing is taken of its answer
abbrev pub NoTurn : Definition → Option (List Turn) → Option (List Turn) → ObjectView → ℕ → Unturned → Type 0
NoTurn d before now x v unturned.Refused = now ≡ one_more before (document x) (version_text d v) refused
NoTurn d before now x v unturned.Failed =
    (now ≡ one_more before (document x) (version_text d v) failed)
    ⊎ ((j : Json) × (now ≡ one_more before (document x) (version_text d v) (answered j)) × (IsTakenAt d v x j → ⊥))
NoTurn d before now x v unturned.NoMemory = ⊤

-- P holds where the object was refused
abbrev pub OnRefused : Type 0 → Unturned → Type 0
OnRefused P unturned.Refused = P
OnRefused P unturned.Failed = ⊤
OnRefused P unturned.NoMemory = ⊤

-- the count of faults rose where the turn failed
abbrev pub OnFailed : Type 0 → Unturned → Type 0
OnFailed P unturned.Refused = ⊤
OnFailed P unturned.Failed = P
OnFailed P unturned.NoMemory = ⊤
