-- Which bodies of a delete are served.
use Rattle.std.proofs.Common.{◌≡◌, ◌∙◌, ℕ, List, [], ◌∷◌, Some, length, ap, sym, subst, refl, inl, inr, arith}
use Rattle.kj_value.specs.Fault.{IsRefusedJson}
use Rattle.kj_value.specs.Fields.{Pairs}
use Rattle.kj_value.specs.Json.{Json, members_of, object}
use Rattle.kj_value.specs.KindLaws.{pairs_members}
use Rattle.kj_value.specs.Reading.{Reads}
use Rattle.kj_value.specs.declared.reading.JsonFault.TheVariants.{NotJson, TooDeep, NotWhole}
use Rattle.api_calls.specs.Bodies.{IsServedDelete, IsUnset, fields_in}
use Rattle.write_texts.specs.inner.Deleting.{HasUnset}
use Rattle.api_calls.proofs.Texts.{never_not_json, never_not_whole, never_too_deep}

-- an object has one list of fields
pub one-fields : (f g : Pairs) → object (members_of f) ≡ object (members_of g) → f ≡ g
one-fields f g same = sym (pairs_members f) ∙ ap (λ (j : Json). fields_in (Some j)) same ∙ pairs_members g

pub unset-of : (name : List ℕ) (j : Json) (fields : Pairs) (h : HasUnset j) → j ≡ object (members_of fields) → IsUnset name h.fields → IsUnset name fields
unset-of name j fields h is unset = subst (IsUnset name) (one-fields h.fields fields (sym h.is ∙ is)) unset

pub no-bytes : (body : List ℕ) → length body ≡ 0 → IsServedDelete body
no-bytes [] is = inl refl
no-bytes (b ∷ bs) is = absurd (omega (arith, is))

-- a body that is read is served where the value asks for nothing
pub read-served : (body : List ℕ) (j : Json) → Reads body 64 j → HasUnset j → IsServedDelete body
read-served body j reads h =
    inr (record { fields = h.fields; reads = subst (λ (x : Json). Reads body 64 x) h.is reads; preconditions = h.preconditions; dry_run = h.dry_run })

pub served-read : (body : List ℕ) (j : Json) → (length body ≡ 0 → ⊥) → ((k : Json) → Reads body 64 k → j ≡ k) → IsServedDelete body → HasUnset j
served-read body j some one (inl none) = absurd (some (ap length none))
served-read body j some one (inr h) =
    record { fields = h.fields; is = one (object (members_of h.fields)) h.reads; preconditions = h.preconditions; dry_run = h.dry_run }

-- one that isn't read is not served
unread : (body : List ℕ) → (length body ≡ 0 → ⊥) → ((k : Json) → Reads body 64 k → ⊥) → IsServedDelete body → ⊥
unread body some never (inl none) = some (ap length none)
unread body some never (inr h) = never (object (members_of h.fields)) h.reads

pub not_json-unserved : (body : List ℕ) → (length body ≡ 0 → ⊥) → IsRefusedJson body 64 NotJson → IsServedDelete body → ⊥
not_json-unserved body some refused = unread body some (λ k reads. never_not_json body k reads refused)

pub too_deep-unserved : (body : List ℕ) → (length body ≡ 0 → ⊥) → IsRefusedJson body 64 TooDeep → IsServedDelete body → ⊥
too_deep-unserved body some refused = unread body some (λ k reads. never_too_deep body k reads refused)

pub not_whole-unserved : (body : List ℕ) → (length body ≡ 0 → ⊥) → IsRefusedJson body 64 NotWhole → IsServedDelete body → ⊥
not_whole-unserved body some refused = unread body some (λ k reads. never_not_whole body k reads refused)
