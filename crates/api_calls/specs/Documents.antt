-- The documents that the server shows beside objects and refusals.
use Rattle.std.specs.Prelude.{◌≡◌, ◌≢◌, ◌↔◌, ℕ, pos, ◌<◌, true, List, [], ◌∷◌, ◌++◌, Option, None, Some, map, codes, decimal, nat_eq, if◌then◌else◌}
use Rattle.std.specs.Ordering.{nat_cmp, is_gt}
use Rattle.std.specs.declared.cmp.Ordering.TheVariants.{Greater}
use Rattle.std.specs.List.{IsDistinct}
use Rattle.std.specs.Cmp.Lexicographic.{slice_cmp}
use Rattle.kj_value.specs.Json.{Json, whole, text, list, object, no_members, members_of, items_of}
use Rattle.kj_value.specs.Text.{text_of}
use Rattle.kube_meta.specs.View.{ObjectView}
use Rattle.kube_meta.specs.Document.{document, optional}
use Rattle.kube_meta.specs.Plan.{Migration}
use Rattle.kube_meta.specs.declared.limits.Condition.{Condition}
use Rattle.kube_meta.specs.declared.limits.Condition.TheVariants.{Running, Succeeded, Failed}
use Rattle.api_calls.specs.Meaning.{Meaning}
use Rattle.api_calls.specs.Uid.{uid}
use Rattle.api_calls.specs.declared.flags.Flags.{Flags}
use Rattle.api_calls.specs.State.{served}
use Rattle.api_calls.specs.Legal.{Each, In}
use Rattle.api_calls.specs.Priority.{priority_cmp}

-- ---- objects

-- an object with its resource version, and the uid of the server's start and the object's creation
abbrev pub numbered : ℕ → ℕ → ℕ → ObjectView → ObjectView
numbered boot number born x = record x { meta = record x.meta { resource_version = Some (decimal number); uid = Some (uid boot born) } }

-- the text in which an object is shown
abbrev pub reply_text : ℕ → ℕ → ℕ → ObjectView → List ℕ
reply_text boot number born x = text_of (document (numbered boot number born x))

-- `GROUP/VERSION`
abbrev pub group_version : Meaning → ℕ → List ℕ
group_version m v = m.group ++ (codes "/" ++ m.name v)

-- what is left behind the last page isn't told
abbrev pub some_left : ℕ → Option Json
some_left n = if nat_eq n 0 then None else Some (whole (pos n))

-- a list of objects (API Concepts, "Retrieving large results sets in chunks"): the documents of a page, the token that goes on, the revision, and how many are left
unfoldable pub object_list : Meaning → ℕ → List Json → List ℕ → ℕ → ℕ → Json
object_list m v documents token number remaining = object (members_of (
    (codes "apiVersion", text (group_version m v))
    ∷ (codes "items", list (items_of documents))
    ∷ (codes "kind", text m.list_kind)
    ∷ (
      codes "metadata",
      object (members_of (
          (codes "continue", text token)
          ∷ optional (codes "remainingItemCount") (some_left remaining)
          ++ (codes "resourceVersion", text (decimal number))
          ∷ [])),
    )
    ∷ []))

-- the Status of an object that was deleted
unfoldable pub deleted_status : Meaning → List ℕ → List ℕ → Json
deleted_status m name id = object (members_of (
    (codes "apiVersion", text (codes "v1"))
    ∷ (
      codes "details",
      object (members_of (
          (codes "group", text m.group)
          ∷ (codes "kind", text m.plural)
          ∷ (codes "name", text name)
          ∷ (codes "uid", text id)
          ∷ [])),
    )
    ∷ (codes "kind", text (codes "Status"))
    ∷ (codes "metadata", object no_members)
    ∷ (codes "status", text (codes "Success"))
    ∷ []))

-- ---- the group

-- versions of which none stands before one that is to be preferred to it
abbrev pub AreRanked : Meaning → List ℕ → Type 0
AreRanked m [] = Unit {0}
AreRanked m (v ∷ vs) = Each (λ w. priority_cmp (m.name v) (m.name w) ≢ Greater) vs × AreRanked m vs

-- the served versions, each once, in the order of their priority
pub record AreOffered (m : Meaning) (f : Flags) (vs : List ℕ) : Type 0 where
  pub served : (v : ℕ) → In v vs ↔ ((v < m.count) × (served f v ≡ true))
  pub once : IsDistinct nat_eq vs
  pub ranked : AreRanked m vs

-- a version as its group tells it (GroupVersionForDiscovery)
abbrev pub group_member : Meaning → ℕ → Json
group_member m v = object (members_of ((codes "groupVersion", text (group_version m v)) ∷ (codes "version", text (m.name v)) ∷ []))

-- the APIGroup of a version that is preferred to every other, and of the others
unfoldable pub group_document : Meaning → ℕ → List ℕ → Json
group_document m v vs = object (members_of (
    (codes "apiVersion", text (codes "v1"))
    ∷ (codes "kind", text (codes "APIGroup"))
    ∷ (codes "name", text m.group)
    ∷ (codes "preferredVersion", group_member m v)
    ∷ (codes "versions", list (items_of (map (group_member m) (v ∷ vs))))
    ∷ []))

-- ---- migrations

abbrev pub migration_version : List ℕ
migration_version = codes "storagemigration.k8s.io/v1alpha1"

abbrev pub migration_kind : List ℕ
migration_kind = codes "StorageVersionMigration"

unfoldable pub condition_word : Condition → List ℕ
condition_word Running = codes "Running"
condition_word Succeeded = codes "Succeeded"
condition_word Failed = codes "Failed"

-- a StorageVersionMigration of this resource, with the condition that is true of it and the target
unfoldable pub migration_document : Meaning → Migration → Json
migration_document m q = object (members_of (
    (codes "apiVersion", text migration_version)
    ∷ (codes "kind", text migration_kind)
    ∷ (codes "metadata", object (members_of ((codes "name", text q.name) ∷ [])))
    ∷ (
      codes "spec",
      object (members_of (
          (codes "resource", object (members_of ((codes "group", text m.group) ∷ (codes "resource", text m.plural) ∷ []))) ∷ [])),
    )
    ∷ (
      codes "status",
      object (members_of ((
        codes "conditions",
        list (items_of (
            object (members_of ((codes "status", text (codes "True")) ∷ (codes "type", text (condition_word q.condition)) ∷ [])) ∷ [])),
      )
          ∷ (codes "storageVersion", text (m.name q.target))
          ∷ [])),
    )
    ∷ []))

-- a migration in its place among others that stand by name
abbrev pub placed : Migration → List Migration → List Migration
placed q [] = q ∷ []
placed q (r ∷ rs) = if is_gt (slice_cmp nat_cmp q.name r.name) then r ∷ placed q rs else q ∷ r ∷ rs

abbrev pub by_name : List Migration → List Migration
by_name [] = []
by_name (q ∷ qs) = placed q (by_name qs)

-- a list of migrations, by name
unfoldable pub migration_list : Meaning → List Migration → Json
migration_list m qs = object (members_of (
    (codes "apiVersion", text migration_version)
    ∷ (codes "items", list (items_of (map (migration_document m) (by_name qs))))
    ∷ (codes "kind", text (codes "StorageVersionMigrationList"))
    ∷ (codes "metadata", object no_members)
    ∷ []))

-- the name of the definition: `PLURAL.GROUP`
abbrev pub definition_name : Meaning → List ℕ
definition_name m = m.plural ++ (codes "." ++ m.group)
