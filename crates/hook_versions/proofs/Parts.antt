-- What is taken of an answer, part by part.
use Rattle.std.proofs.Common.{◌≡◌, ◌∙◌, ℕ, suc, ◌+◌, ◌≤◌, List, Option, Some, None, refl, sym, subst, arith}
use Rattle.std.specs.Prelude.{IsSome}
use Rattle.kj_value.specs.Json.{Json, list, items_of, members_of, depth, members_depth}
use Rattle.kube_meta.specs.View.{ObjectView}
use Rattle.object_reading.specs.Keeping.{KeepsRules}
use Rattle.object_reading.specs.Parts.{object_in, whole_in}
use Rattle.object_reading.specs.Refusal.{refusal}
use Rattle.object_reading.specs.Written.{IsWritable}
use Rattle.crd_meaning.specs.Definition.{Definition}
use Rattle.crd_meaning.proofs.Documents.{depth_document}
use Rattle.crd_laws.specs.Turning.{IsTakenAt, taken_of}
use Rattle.hook_versions.specs.inner.Steps.{IsSent, HasParts, TakesParts, IsTaken}

body_within : (a : ℕ) → suc a ≤ 64 → a ≤ 63
body_within a h = omega arith

owners_within : (a : ℕ) → 2 + a ≤ 64 → a ≤ 62
owners_within a h = omega arith

pub no_text : (o : Option (List ℕ)) → (IsSome o → ⊥) → o ≡ None
no_text None h = refl
no_text (Some s) h = absurd (h refl)

module _ (d : Definition) (v : ℕ) (x : ObjectView) (j : Json) where
  read_taken : IsSent d x → refusal d.view.kind j ≡ None → (whole_in j).meta.uid ≡ None → (y : ObjectView)
      → KeepsRules (object_in j).meta → IsWritable (object_in j) → TakesParts d v x (object_in j) y → IsTaken d x v j y
  read_taken sent accepted uid y rules writable t = record {
    good = record {
      read = accepted;
      version = t.has.version;
      kind = t.has.kind;
      name = t.has.name;
      namespace = t.has.namespace;
      uid = uid ∙ sym sent.no_uid;
      body = record { free = writable.body; valid = t.has.body.valid; filled = t.has.body.filled; levels = t.has.body.levels };
      levels = depth_document (taken_of x j) (body_within (members_depth (members_of (whole_in j).body)) t.has.body.levels) (owners_within (depth (list (items_of x.meta.owners))) sent.meta.levels);
    };
    is = t.is;
    labels = t.labels;
    annotations = t.annotations;
    rules = record {
      name = sent.rules.name;
      namespace = sent.rules.namespace;
      labels = rules.labels;
      annotations = rules.annotations;
      few = sent.rules.few;
      finalizers = sent.rules.finalizers;
      resource_version = sent.rules.resource_version;
    };
  }

  pub parts_taken : IsSent d x → refusal d.view.kind j ≡ None → (whole_in j).meta.uid ≡ None → (o y : ObjectView) → o ≡ object_in j
      → KeepsRules o.meta → IsWritable o → TakesParts d v x o y → IsTaken d x v j y
  parts_taken sent accepted uid o y is =
      subst (λ (w : ObjectView). KeepsRules w.meta → IsWritable w → TakesParts d v x w y → IsTaken d x v j y) (sym is) (read_taken sent accepted uid y)

  read_parts : IsTakenAt d v x j → HasParts d v x (object_in j)
  read_parts g = record {
    version = g.version;
    kind = g.kind;
    name = g.name;
    namespace = g.namespace;
    body = record { valid = g.body.valid; filled = g.body.filled; levels = g.body.levels };
  }

  pub taken_parts : (o : ObjectView) → o ≡ object_in j → IsTakenAt d v x j → HasParts d v x o
  taken_parts o is g = subst (HasParts d v x) (sym is) (read_parts g)
