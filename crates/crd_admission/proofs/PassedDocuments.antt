-- An object whose document passed each step, or the step that it didn't pass.
use Rattle.std.proofs.Common.{◌≡◌, ◌∙◌, ℕ, ◌≤◌, true, Option, Some, None, refl, ap, sym, subst, arith}
use Rattle.std.specs.Prelude.{is_none}
use Rattle.kj_value.specs.Json.{Json, object, members_of, depth}
use Rattle.kj_value.specs.Sound.{IsSoundJson}
use Rattle.kj_value.specs.Fields.{Pairs}
use Rattle.kube_meta.specs.View.{ObjectView}
use Rattle.object_reading.specs.Parts.{body_in}
use Rattle.object_reading.proofs.Lists.{pairs_members}
use Rattle.struct_schema.specs.Shape.{Shape}
use Rattle.struct_schema.specs.Filled.{Filled}
use Rattle.struct_schema.specs.Fault.{Fault as CheckFault, fault}
use Rattle.struct_schema.specs.OwnDefaults.{HasOwnDefaults}
use Rattle.struct_schema.specs.Valid.{valid}
use Rattle.struct_schema.proofs.Agrees.{agrees}
use Rattle.api_calls.specs.Meaning.{Fault}
use Rattle.crd_meaning.specs.Definition.{Definition}
use Rattle.crd_meaning.specs.Admission.{IsFilling}
use Rattle.crd_meaning.specs.Document.{early, IsGiven}
use Rattle.crd_meaning.specs.Converted.{schema_at, IsPassed}
use Rattle.crd_meaning.specs.Unconverted.{IsUnconverted, is_early, is_broken, badly_kept}
use Rattle.crd_admission.specs.NoHub.{IsUnreadAt}
use Rattle.crd_admission.specs.Low.{IsWithin, HasLowDefaults}
use Rattle.crd_admission.specs.Steps.{BreaksRule}
use Rattle.crd_admission.specs.inner.Documents.{IsOfVersion}
use Rattle.crd_admission.proofs.DocumentDepths.{body_within}

none_of : (o : Option CheckFault) → is_none o ≡ true → o ≡ None
none_of None e = refl
none_of (Some f) e = absurd (cc)

-- the laws of fillings
abbrev pub StaysFilled : Type 0
StaysFilled = (s : Shape) (j k : Json) → HasOwnDefaults s → Filled s j k → Filled s k k

abbrev pub StaysWithin : Type 0
StaysWithin =
    (s : Shape) (n : ℕ) (j k : Json) → IsSoundJson k → HasLowDefaults n s → IsWithin n j → Filled s j k → IsWithin n k

-- ---- x with its body filled is y

module _ (d : Definition) (es : Pairs) (v : ℕ) (x y : ObjectView) (given : IsGiven d (object (members_of es)) v x) (filling : IsFilling (schema_at d v) x.body y.body)
    (rest : y ≡ record x { body = y.body }) (sound : valid (schema_at d v) (object (members_of y.body)) ≡ true) where
  pub passes : IsPassed d (object (members_of es)) v y
  passes = record {
    taken = x;
    is = given;
    filling = filling;
    rest = rest;
    valid = none_of (fault (schema_at d v) (object (members_of y.body))) (agrees (schema_at d v) (object (members_of y.body)) ∙ sound);
  }

  within : depth (object (members_of es)) ≤ 64 → IsWithin 0 (object (members_of x.body))
  within levels =
      let body : x.body ≡ body_in es = ap (λ (w : ObjectView). w.body) given.object ∙ ap body_in (pairs_members es) in
      let least : depth (object (members_of x.body)) ≤ 64 = subst (λ (b : Pairs). depth (object (members_of b)) ≤ 64) (sym body) (body_within es levels) in
      omega (arith, least)

  pub of_version : StaysFilled → StaysWithin → HasOwnDefaults (schema_at d v) → HasLowDefaults 0 (schema_at d v) → depth (object (members_of es)) ≤ 64 → IsOfVersion d v y
  of_version again deep own low levels = record {
    known = given.known;
    version = ap (λ (w : ObjectView). w.api_version) rest ∙ given.version;
    body = record {
      valid = sound;
      filled = again (schema_at d v) (object (members_of x.body)) (object (members_of y.body)) own filling.filled;
      levels = deep (schema_at d v) 0 (object (members_of x.body)) (object (members_of y.body)) filling.sound low (within levels) filling.filled;
    };
  }

-- ---- refusals

pub early_refused : (d : Definition) (j : Json) (f : Fault) → early d j ≡ Some f → IsUnconverted d j f
early_refused d j f h = is_early h

pub broken_refused : (d : Definition) (j : Json) (v : ℕ) (x : ObjectView) (s : Shape) (f : Fault) → IsGiven d j v x → s ≡ schema_at d v → BreaksRule s x f → IsUnconverted d j f
broken_refused d j v x s f given same h =
    let b : BreaksRule (schema_at d v) x f = subst (λ (u : Shape). BreaksRule u x f) same h in
    is_broken (record { version = v; object = x; taken = given; cause = b.cause; told = b.told; broken = b.broken })

pub kept_refused : (d : Definition) (j : Json) (v : ℕ) (x : ObjectView) (f : Fault) → IsPassed d j v x → IsUnreadAt d v x f → IsUnconverted d j f
kept_refused d j v x f passed h =
    badly_kept (record { version = v; object = x; passed = passed; key = h.key; unread = h.unread; told = h.told })
