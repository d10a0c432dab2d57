-- What is taken of a converter's answers, and on which of its turns each answer of a definition rests. Here `ts` are the turns of one call.
use Rattle.std.specs.Prelude.{◌≡◌, ◌≢◌, ◌<◌, ◌≤◌, ◌⊎◌, ℕ, List, [], ◌∷◌, ◌++◌, Option, None, Some}
use Rattle.kj_value.specs.Json.{Json, depth}
use Rattle.kube_meta.specs.Document.{document}
use Rattle.kube_meta.specs.View.{ObjectView}
use Rattle.object_reading.specs.Parts.{whole_in}
use Rattle.object_reading.specs.Refusal.{refusal}
use Rattle.api_calls.specs.Meaning.{Request}
use Rattle.api_calls.specs.declared.versions.TheConstants.{OBJECT_LEVELS}
use Rattle.crd_meaning.specs.Definition.{Definition, count_of}
use Rattle.crd_meaning.specs.Admission.{Passes}
use Rattle.converters.specs.Turns.{Turn, Answer, answered, refused, failed}
use Rattle.crd_laws.specs.Hook.{version_text, IsBodyAt}

-- ---- one answer

-- the object of an answer to x: the version, the body, the labels and the annotations are the answer's, and all else is that of x
abbrev pub taken_of : ObjectView → Json → ObjectView
taken_of x j = record x {
  api_version = (whole_in j).api_version;
  meta = record x.meta { labels = (whole_in j).meta.labels; annotations = (whole_in j).meta.annotations };
  body = (whole_in j).body;
}

-- It is read, stands at the version, is the same object, and is valid, filled and at most 64 levels deep.
pub record IsTakenAt (d : Definition) (v : ℕ) (x : ObjectView) (j : Json) : Type 0 where
  pub read : refusal d.view.kind j ≡ None
  pub version : (whole_in j).api_version ≡ version_text d v
  pub kind : (whole_in j).kind ≡ x.kind
  pub name : (whole_in j).meta.name ≡ x.meta.name
  pub namespace : (whole_in j).meta.namespace ≡ x.meta.namespace
  pub uid : (whole_in j).meta.uid ≡ x.meta.uid
  pub body : IsBodyAt d v (whole_in j).body
  pub levels : depth (document (taken_of x j)) ≤ OBJECT_LEVELS

-- ---- the turns of a call

-- one of them
abbrev pub Made : List Turn → Turn → Type 0
Made [] t = ⊥
Made (u ∷ us) t = (u ≡ t) ⊎ Made us t

-- the turn of an object to a version that came to this
abbrev pub turn_to : Definition → ObjectView → ℕ → Answer → Turn
turn_to d x v a = record { object = document x; to = version_text d v; answer = a }

-- x was turned to the version v, and y is taken of the answer
pub record WasTurned (d : Definition) (ts : List Turn) (x : ObjectView) (v : ℕ) (y : ObjectView) : Type 0 where
  pub answer : Json
  pub made : Made ts (turn_to d x v (answered answer))
  pub good : IsTakenAt d v x answer
  pub taken : y ≡ taken_of x answer

-- x of version w as it is, where that is the version v, or else what it was turned to there
pub data Becomes (d : Definition) (ts : List Turn) (w : ℕ) (x : ObjectView) (v : ℕ) (y : ObjectView) : Type 0 where
  as_it_is : w ≡ v → y ≡ x → Becomes d ts w x v y
  by_turn : w ≢ v → WasTurned d ts x v y → Becomes d ts w x v y

-- of the turns that a call added P holds, where turns are told
abbrev pub OfTurns : Option (List Turn) → Option (List Turn) → (List Turn → Type 0) → Type 0
OfTurns None now P = now ≡ None
OfTurns (Some before) now P = (ts : List Turn) × (now ≡ Some (before ++ ts)) × P ts

-- ---- what answers rest on

-- each form of a hub value was turned to it
abbrev pub CameBack : Definition → List Turn → ObjectView → Type 0
CameBack d ts h = (v : ℕ) → v < count_of d → v ≢ d.hub → (x : ObjectView) × WasTurned d ts h v x × WasTurned d ts x d.hub h

-- of admission: the hub value is what the request's object becomes at the hub, and came back from each other version
pub record AdmitsBy (d : Definition) (ts : List Turn) (r : Request) (h : ObjectView) (e : Option ℕ) : Type 0 where
  pub object : ObjectView
  pub passes : Passes d r object e
  pub becomes : Becomes d ts r.version object d.hub h
  pub back : CameBack d ts h

-- of a refusal by the rule `Converted`: the turn of the request's object to the hub was refused
pub record RefusedBy (d : Definition) (ts : List Turn) (r : Request) : Type 0 where
  pub object : ObjectView
  pub number : Option ℕ
  pub passes : Passes d r object number
  pub turned : Made ts (turn_to d object d.hub refused)

-- The tool's fault: a turn failed, or was refused, or nothing is taken of its answer, or another object than the hub value came back.
pub data FailsBy (d : Definition) (ts : List Turn) : Type 0 where
  of_failed : (x : ObjectView) (v : ℕ) → Made ts (turn_to d x v failed) → FailsBy d ts
  of_refused : (x : ObjectView) (v : ℕ) → Made ts (turn_to d x v refused) → FailsBy d ts
  of_answer : (x : ObjectView) (v : ℕ) (j : Json) → Made ts (turn_to d x v (answered j)) → (IsTakenAt d v x j → ⊥) → FailsBy d ts
  of_another : (h x g : ObjectView) (v : ℕ) → WasTurned d ts h v x → WasTurned d ts x d.hub g → g ≢ h → FailsBy d ts
