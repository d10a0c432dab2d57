-- On which turns of a call the faults of a set rest.
use Rattle.std.specs.Prelude.{◌≡◌, ◌≢◌, ◌≤◌, ◌+◌, ◌*◌, ◌⊎◌, ⊤, ℕ, List, length, Option}
use Rattle.kj_value.specs.Json.{Json}
use Rattle.kj_value.specs.declared.rule.Rule.TheVariants as rule
use Rattle.kube_meta.specs.View.{ObjectView}
use Rattle.api_calls.specs.Cause.{cause_of}
use Rattle.api_calls.specs.Meaning.{Request, Fault, invalid}
use Rattle.api_calls.specs.declared.versions.ConvFault.{ConvFault}
use Rattle.api_calls.specs.declared.versions.ConvFault.TheVariants as conv
use Rattle.api_calls.specs.declared.versions.AdmitFault.{AdmitFault}
use Rattle.api_calls.specs.declared.versions.AdmitFault.TheVariants as admit
use Rattle.crd_meaning.specs.Definition.{Definition, count_of}
use Rattle.crd_meaning.specs.Request.{breaks}
use Rattle.crd_meaning.specs.Admission.{Passes}
use Rattle.crd_meaning.specs.Refusal.{object_path}
use Rattle.crd_admission.specs.Steps.{RefusesBody}
use Rattle.converters.specs.Turns.{Turn, answered, failed}
use Rattle.crd_laws.specs.Turning.{OfTurns, Made, turn_to, WasTurned, IsTakenAt, Becomes, CameBack, FailsBy, RefusedBy}

-- the tool's fault has its cause in a turn of the call
abbrev pub BlamesTurn : Definition → Option (List Turn) → Option (List Turn) → ConvFault → Type 0
BlamesTurn d before now conv.Tool = OfTurns before now (FailsBy d)
BlamesTurn d before now conv.NoMemory = ⊤

-- The same of admission: the turn of the request's object failed, or nothing is taken of its answer; or what that object becomes at the hub
-- was turned with a fault.
pub data FailsRequest (d : Definition) (r : Request) (ts : List Turn) : Type 0 where
  own_failed : (x : ObjectView) (e : Option ℕ) → Passes d r x e → Made ts (turn_to d x d.hub failed) → FailsRequest d r ts
  own_answer : (x : ObjectView) (e : Option ℕ) (j : Json) → Passes d r x e → Made ts (turn_to d x d.hub (answered j)) → (IsTakenAt d d.hub x j → ⊥) → FailsRequest d r ts
  later : (x h : ObjectView) (e : Option ℕ) → Passes d r x e → Becomes d ts r.version x d.hub h → FailsBy d ts → FailsRequest d r ts

-- the request's object became that hub value, which came back from each other version
pub record ComesBackBy (d : Definition) (r : Request) (ts : List Turn) : Type 0 where
  pub object : ObjectView
  pub hub : ObjectView
  pub number : Option ℕ
  pub passes : Passes d r object number
  pub becomes : Becomes d ts r.version object d.hub hub
  pub back : CameBack d ts hub

-- How many turns an admission took: at most two for each version but the hub, and one more only where the request's object stands elsewhere
-- and isn't what the hub value was turned to at its version.
pub data AreFew (d : Definition) (r : Request) (h : ObjectView) (ts : List Turn) : Type 0 where
  no_more : length ts + 2 ≤ 2 * count_of d → AreFew d r h ts
  one_more : (x y : ObjectView) (e : Option ℕ) → Passes d r x e → r.version ≢ d.hub → WasTurned d ts h r.version y → y ≢ x → length ts + 1 ≤ 2 * count_of d → AreFew d r h ts

-- Why an object is invalid: no turn was made, and the body is refused as it is; or its own turn to the hub was refused, and the rule is
-- `Converted`; or all turns were made, and the rule is `Size`.
abbrev pub BlamesObject : Definition → Option (List Turn) → Option (List Turn) → Request → Fault → Type 0
BlamesObject d before now r f =
    ((now ≡ before) × RefusesBody d r f)
    ⊎ (OfTurns before now (λ ts. RefusedBy d ts r) × ((n : List ℕ) × (f ≡ breaks n object_path rule.Converted)))
    ⊎ (OfTurns before now (ComesBackBy d r) × ((n : List ℕ) × (f ≡ breaks n object_path rule.Size)))

abbrev pub BlamesRequest : Definition → Option (List Turn) → Option (List Turn) → Request → AdmitFault → Type 0
BlamesRequest d before now r (admit.BadRequest why) = now ≡ before
BlamesRequest d before now r (admit.Invalid name cause) = BlamesObject d before now r (invalid name.bytes (cause_of cause))
BlamesRequest d before now r admit.Tool = OfTurns before now (FailsRequest d r)
BlamesRequest d before now r admit.NoMemory = ⊤
