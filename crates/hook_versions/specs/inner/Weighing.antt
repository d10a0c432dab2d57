-- For private clauses: a hub value on the way through its forms.
use Rattle.std.specs.Prelude.{◌≡◌, ◌≢◌, ◌<◌, ◌≤◌, ◌+◌, ◌*◌, ◌⊎◌, ⊤, ℕ, List, length, Option, None, Some, max, IsTrue, IfSome}
use Rattle.kj_value.specs.Json.{Json}
use Rattle.kj_value.specs.declared.rule.Rule.TheVariants as rule
use Rattle.kube_meta.specs.Shapes.{shaped}
use Rattle.kube_meta.specs.View.{ObjectView, object_of}
use Rattle.kube_meta.specs.declared.object.Shape.{Shape}
use Rattle.api_calls.specs.Cause.{cause_of}
use Rattle.api_calls.specs.Meaning.{Fault, invalid, chunks, measure}
use Rattle.api_calls.specs.declared.versions.Admitted.{Admitted}
use Rattle.api_calls.specs.declared.versions.AdmitFault.{AdmitFault}
use Rattle.api_calls.specs.declared.versions.AdmitFault.TheVariants as fault
use Rattle.api_calls.specs.declared.versions.ConvFault.{ConvFault}
use Rattle.api_calls.specs.declared.versions.ConvFault.TheVariants as conv
use Rattle.crd_meaning.specs.declared.limits.TheConstants.{MAX_MEASURE}
use Rattle.crd_meaning.specs.Definition.{Definition, count_of}
use Rattle.crd_meaning.specs.Request.{breaks}
use Rattle.crd_meaning.specs.Refusal.{object_path}
use Rattle.converters.specs.Turns.{Turn, answered, refused, failed}
use Rattle.crd_laws.specs.Hook.{Hooked, version_text, Near, IsForm, ComesBack}
use Rattle.crd_laws.specs.Turning.{IsTakenAt, WasTurned, FailsBy, Made, turn_to, OfTurns}
use Rattle.hook_versions.specs.inner.Steps.{IsSent, IsStanding}

-- what is known of a hub value before its forms are made
abbrev pub IsHubObject : Definition → ObjectView → Type 0
IsHubObject d h = IsStanding d d.hub h

-- ---- to the hub

-- an object that was turned to the hub value h
pub record IsOwnOf (k : Hooked) (h y : ObjectView) : Type 0 where
  pub sent : IsSent k.definition y
  pub turned : IsTrue k.honest → k.turned y (version_text k.definition k.definition.hub) ≡ Some h

-- by one of these turns, where there is such an object
abbrev pub IsOwn : Definition → List Turn → Option ObjectView → ObjectView → Type 0
IsOwn d ts None h = ⊤
IsOwn d ts (Some y) h = WasTurned d ts y d.hub h

-- how many turns that takes
abbrev pub own_turns : Option ObjectView → ℕ
own_turns None = 0
own_turns (Some y) = 1

-- h is what the object becomes at the hub: the object itself, and else what it was turned to
pub record IsPutAt (k : Hooked) (before now : Option (List Turn)) (v : ℕ) (x h : ObjectView) (own : Option ObjectView) : Type 0 where
  pub turns : OfTurns before now (λ ts. IsOwn k.definition ts own h × (length ts ≡ own_turns own))
  pub hub : IsHubObject k.definition h
  pub near : Near k.definition v h x
  pub turned : IsTrue k.honest → v ≢ k.definition.hub → k.turned x (version_text k.definition k.definition.hub) ≡ Some h
  pub mine : IfSome own (IsOwnOf k h)
  pub here : v ≡ k.definition.hub → own ≡ None
  pub elsewhere : v ≢ k.definition.hub → own ≡ Some x

-- the object's own turn to the hub was refused
pub record WasRefused (k : Hooked) (before now : Option (List Turn)) (v : ℕ) (x : ObjectView) (f : Fault) : Type 0 where
  pub elsewhere : v ≢ k.definition.hub
  pub turns : OfTurns before now (λ ts. Made ts (turn_to k.definition x k.definition.hub refused))
  pub none : IsTrue k.honest → k.turned x (version_text k.definition k.definition.hub) ≡ None
  pub told : f ≡ breaks x.meta.name object_path rule.Converted

-- the object's own turn to the hub failed, or nothing is taken of its answer
abbrev pub FailsOwn : Definition → ObjectView → List Turn → Type 0
FailsOwn d x ts =
    Made ts (turn_to d x d.hub failed)
    ⊎ ((j : Json) × Made ts (turn_to d x d.hub (answered j)) × (IsTakenAt d d.hub x j → ⊥))

abbrev pub IsNotPut : Hooked → Option (List Turn) → Option (List Turn) → ℕ → ObjectView → Type 0 → AdmitFault → Type 0
IsNotPut k before now v x rose (fault.BadRequest why) = ⊥
IsNotPut k before now v x rose (fault.Invalid name cause) = WasRefused k before now v x (invalid name.bytes (cause_of cause))
IsNotPut k before now v x rose fault.Tool = rose × OfTurns before now (FailsOwn k.definition x)
IsNotPut k before now v x rose fault.NoMemory = ⊤

-- ---- there and back

-- x wasn't turned back to h: a turn is at fault, or another object came back
abbrev pub IsNotBack : Definition → Option (List Turn) → Option (List Turn) → ObjectView → ObjectView → ConvFault → Type 0
IsNotBack d before now x h conv.Tool = OfTurns before now (λ ts. FailsBy d ts ⊎ ((g : ObjectView) × WasTurned d ts x d.hub g × (g ≢ h)))
IsNotBack d before now x h conv.NoMemory = ⊤

-- x was turned back to h by one turn; or it is the object that was turned to h before, and no turn was made
abbrev pub IsBackBy : Definition → Option (List Turn) → Option (List Turn) → Option ObjectView → ObjectView → ObjectView → Type 0
IsBackBy d before now own x h =
    (OfTurns before now (λ ts. (length ts ≡ 1) × WasTurned d ts x d.hub h) × (own ≢ Some x))
    ⊎ ((now ≡ before) × (own ≡ Some x))

-- the same, where the turn to x is among the turns
abbrev pub IsBackIn : Definition → List Turn → Option ObjectView → ObjectView → ObjectView → Type 0
IsBackIn d ts own x h =
    ((length ts ≡ 2) × WasTurned d ts x d.hub h × (own ≢ Some x))
    ⊎ ((length ts ≡ 1) × (own ≡ Some x))

-- h was turned to x at the version, and x was turned back to it
pub record IsBackAt (k : Hooked) (before now : Option (List Turn)) (own : Option ObjectView) (h : ObjectView) (v : ℕ) (x : ObjectView) : Type 0 where
  pub turns : OfTurns before now (λ ts. WasTurned k.definition ts h v x × IsBackIn k.definition ts own x h)
  pub near : Near k.definition v h x
  pub there : IsTrue k.honest → k.turned h (version_text k.definition v) ≡ Some x
  pub back : IsTrue k.honest → k.turned x (version_text k.definition k.definition.hub) ≡ Some h

-- the weight of what was weighed before and of an object of that measure more, where none measures too much
abbrev pub IsHeavier : Option ℕ → ℕ → Option ℕ → Type 0
IsHeavier None bytes weight = weight ≡ None
IsHeavier (Some most) bytes None = MAX_MEASURE < bytes
IsHeavier (Some most) bytes (Some weight) = (bytes ≤ MAX_MEASURE) × (weight ≡ max most (chunks bytes))

-- of the forms at the first versions one measures too much, or the greatest one weighs so much
abbrev pub WeighTo : Hooked → ObjectView → ℕ → Option ℕ → Type 0
WeighTo k h seen None = (v : ℕ) × (x : ObjectView) × (v < seen) × IsForm k v h x × (MAX_MEASURE < measure x)
WeighTo k h seen (Some most) =
    ((v : ℕ) (x : ObjectView) → v < seen → IsForm k v h x → (measure x ≤ MAX_MEASURE) × (chunks (measure x) ≤ most))
    × (((seen ≡ 0) × (most ≡ 0)) ⊎ ((v : ℕ) × (x : ObjectView) × (v < seen) × IsForm k v h x × (chunks (measure x) ≡ most)))

-- two turns for each of the first versions but the hub, and so many more
pub record AreWithin (d : Definition) (ts : List Turn) (seen more : ℕ) : Type 0 where
  pub before : length ts ≤ 2 * seen + more
  pub past : d.hub < seen → length ts + 2 ≤ 2 * seen + more

-- h was turned to an object at the version, and that one to h
abbrev pub CameBackAt : Definition → List Turn → ObjectView → ℕ → Type 0
CameBackAt d ts h v = (x : ObjectView) × WasTurned d ts h v x × WasTurned d ts x d.hub h

-- and that one isn't the object that was turned to h before
abbrev pub CameBackOtherwise : Definition → List Turn → Option ObjectView → ObjectView → ℕ → Type 0
CameBackOtherwise d ts own h v = (x : ObjectView) × WasTurned d ts h v x × WasTurned d ts x d.hub h × (own ≢ Some x)

-- h came back from each of the first versions: by a turn less, where the object that was turned to it before was one of its forms
abbrev pub HaveComeBack : Definition → List Turn → Option ObjectView → ObjectView → ℕ → Type 0
HaveComeBack d ts own h seen =
    (AreWithin d ts seen 0 × ((v : ℕ) → v < seen → v ≢ d.hub → CameBackAt d ts h v))
    ⊎ (AreWithin d ts seen (own_turns own) × ((v : ℕ) → v < seen → v ≢ d.hub → CameBackOtherwise d ts own h v))

-- the hub value comes back from the first versions, by turns of the call, of which one may have been made before
pub record AreBack (k : Hooked) (before now : Option (List Turn)) (own : Option ObjectView) (h : ObjectView) (seen : ℕ) (weight : Option ℕ) : Type 0 where
  pub turns : OfTurns before now (λ ts. IsOwn k.definition ts own h × HaveComeBack k.definition ts own h seen)
  pub comes : IsTrue k.honest → (v : ℕ) → v < seen → v ≢ k.definition.hub → ComesBack k v h
  pub weigh : IsTrue k.honest → WeighTo k h seen weight
  pub some : 0 < seen → IfSome weight (λ w. 0 < w)

-- turns were made, by which what is known up to one version is known up to another
pub record AreBackThen (k : Hooked) (before now : Option (List Turn)) (own : Option ObjectView) (h : ObjectView) (seen : ℕ) (weight : Option ℕ) (more : ℕ) (heavier : Option ℕ) : Type 0 where
  pub grew : OfTurns before now (λ ts. ⊤)
  pub then : (since : Option (List Turn)) → AreBack k since before own h seen weight → AreBack k since now own h more heavier

-- why it isn't admitted: it measures too much, or a turn is at fault
abbrev pub MayRefuse : Hooked → Option (List Turn) → Option (List Turn) → Option ObjectView → ObjectView → Type 0 → AdmitFault → Type 0
MayRefuse k before now own h rose (fault.BadRequest why) = ⊥
MayRefuse k before now own h rose (fault.Invalid name cause) =
    AreBackThen k before now own h 0 (Some 0) (count_of k.definition) None × (invalid name.bytes (cause_of cause) ≡ breaks h.meta.name object_path rule.Size)
MayRefuse k before now own h rose fault.Tool = rose × OfTurns before now (FailsBy k.definition)
MayRefuse k before now own h rose fault.NoMemory = ⊤

-- ---- what is kept

-- where a shape is kept, h becomes by it its form at the version
abbrev pub IsKept : Hooked → ℕ → ObjectView → Option Shape → Type 0
IsKept k v h o = IfSome o (λ p. IsForm k v h (shaped p h))

-- the hub value h is let in with the number e: it came back from each other version, and what it becomes at the storage version is kept
abbrev pub CameIn : Hooked → Option (List Turn) → Option (List Turn) → Option ObjectView → ObjectView → Option ℕ → ℕ → Admitted → Type 0
CameIn k before now own h e storage a =
    (object_of a.hub ≡ h) × (a.expected ≡ e) × IsKept k storage h a.shape × AreBackThen k before now own h 0 (Some 0) (count_of k.definition) (Some a.weight)
