-- What is given to a converter is the document of an object.
use Rattle.std.proofs.Common.{◌≡◌, ◌∙◌, ℕ, ◌≤◌, List, Option, Some, None, refl, ap, sym, subst}
use Rattle.std.specs.Prelude.{IsSome}
use Rattle.kj_value.specs.Json.{Json, depth}
use Rattle.kj_value.specs.Kinds.{as_object}
use Rattle.kube_meta.specs.Document.{document}
use Rattle.kube_meta.specs.View.{ObjectView}
use Rattle.api_calls.specs.declared.versions.TheConstants.{OBJECT_LEVELS}
use Rattle.crd_meaning.specs.Definition.{Definition}
use Rattle.converters.specs.Turned.{IsDocumentOf}
use Rattle.hook_versions.specs.inner.Steps.{IsSent}

written : (x : ObjectView) → IsSome (as_object (document x))
unfolding document
written x = refl

module _ (x y : ObjectView) (j : Json) (copied : y ≡ x) (e : j ≡ document y) where
  pub same_document : j ≡ document x
  same_document = e ∙ ap document copied

  pub is_object : IsSome (as_object j)
  is_object = subst (λ (k : Json). IsSome (as_object k)) (sym same_document) (written x)

  pub within : (d : Definition) → IsSent d x → depth j ≤ OBJECT_LEVELS
  within d s = subst (λ (k : Json). depth k ≤ OBJECT_LEVELS) (sym same_document) s.levels

  pub of_sent : (d : Definition) → IsSent d x → IsDocumentOf j x
  of_sent d s = record { writable = s.writable; is = same_document }
