-- Whether a body passes the tests.
use Rattle.std.proofs.Common.{◌≡◌, ◌∙◌, ◌≤◌, Option, Some, None, refl, ap, sym, subst}
use Rattle.std.specs.Prelude.{IfSome, IfNone}
use Rattle.kj_value.specs.Json.{object, members_of, depth}
use Rattle.kj_value.specs.Kinds.{as_object}
use Rattle.kj_value.specs.KindLaws.{pairs_members}
use Rattle.kj_value.specs.Fields.{Pairs}
use Rattle.kj_value.specs.Sound.{IsSoundJson}
use Rattle.struct_schema.specs.Shape.{Shape}
use Rattle.struct_schema.specs.Fault.{fault}
use Rattle.struct_schema.specs.Filled.{Filled}
use Rattle.api_calls.specs.declared.versions.TheConstants.{OBJECT_LEVELS}
use Rattle.hook_versions.specs.inner.Steps.{Fits}

pub fit : (s : Shape) (body : Pairs) → IsSoundJson (object (members_of body))
    → (depth (object (members_of body)) ≤ OBJECT_LEVELS) × (fault s (object (members_of body)) ≡ None) × Filled s (object (members_of body)) (object (members_of body))
    → Fits s body
fit s body sound t = record { valid = t.1; filled = record { filled = t.2; sound = sound }; levels = t.0 }

pub is_body : (body : Pairs) (o : Option Pairs) (P : Pairs → Type 0) → o ≡ as_object (object (members_of body)) → P body → IfSome o (λ k. (k ≡ body) × P body)
is_body body o P e p = subst (λ (q : Option Pairs). IfSome q (λ k. (k ≡ body) × P body)) (sym (e ∙ ap Some (pairs_members body))) (refl, p)

pub not_none : (body : Pairs) (o : Option Pairs) (P : Type 0) → o ≡ as_object (object (members_of body)) → IfNone o P
not_none body o P e = subst (λ (q : Option Pairs). IfNone q P) (sym e) tt

pub unfit : (s : Shape) (body : Pairs) → ((depth (object (members_of body)) ≤ OBJECT_LEVELS) × (fault s (object (members_of body)) ≡ None) × Filled s (object (members_of body)) (object (members_of body)) → ⊥)
    → Fits s body → ⊥
unfit s body none f = none (f.levels, f.valid, f.filled.filled)
