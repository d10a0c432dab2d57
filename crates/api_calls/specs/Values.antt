-- What the server makes of an admitted hub value, which has no stamps and generation 0: stamps, generation, and the rules of finalizers.
use Rattle.std.specs.Prelude.{◌≡◌, ◌↔◌, ℕ, pos, ◌+ℤ◌, Bool, ◌&&◌, not, List, None, Some, length, is_some, nat_eq, if◌then◌else◌, IsTrue}
use Rattle.std.specs.List.{list_all, list_any}
use Rattle.std.specs.Str.{bytes_eq}
use Rattle.kube_meta.specs.View.{ObjectView}
use Rattle.api_calls.specs.Meaning.{stamped}

-- what a create stores
abbrev pub created_value : List ℕ → ObjectView → ObjectView
created_value stamp new = stamped new (Some stamp) None (pos 1)

-- what a replace makes of a new value: the stamps are the old one's, and the generation rises by one unless the bodies are the same
abbrev pub updated_value : Bool → ObjectView → ObjectView → ObjectView
updated_value same old new =
    stamped new old.meta.created old.meta.deleted (if same then old.meta.generation else old.meta.generation +ℤ pos 1)

abbrev pub IsUpdate : ObjectView → ObjectView → ObjectView → Type 0
IsUpdate old new h = (same : Bool) × (IsTrue same ↔ (new.body ≡ old.body)) × (h ≡ updated_value same old new)

-- it is being deleted
abbrev pub is_marked : ObjectView → Bool
is_marked h = is_some h.meta.deleted

abbrev pub has_finalizer : ObjectView → Bool
has_finalizer h = not (nat_eq (length h.meta.finalizers) 0)

-- a new value adds a finalizer to an old one
abbrev pub adds_finalizer : ObjectView → ObjectView → Bool
adds_finalizer old new = not (list_all (λ f. list_any (bytes_eq f) old.meta.finalizers) new.meta.finalizers)

-- while an object is being deleted no finalizer may be added
abbrev pub is_forbidden : ObjectView → ObjectView → Bool
is_forbidden old new = is_marked old && adds_finalizer old new

-- the update that removes the last finalizer of an object that is being deleted removes the object
abbrev pub is_release : ObjectView → ObjectView → Bool
is_release old new = is_marked old && not (has_finalizer new)
