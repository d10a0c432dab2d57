-- The reply that shows a migration by its name.
use Rattle.std.proofs.Common.{◌≡◌, ℕ, ◌<◌, List, [], ◌∷◌, Option, None, Some, Ok, Err, Bool, true, false, ap, sym, subst, refl, ◌∙◌}
use Rattle.std.specs.Prelude.{MatchOption, if◌then◌else◌}
use Rattle.kj_value.specs.Text.{text_of}
use Rattle.std.specs.Str.{bytes_eq}
use Rattle.kube_meta.specs.Plan.{Migration, named}
use Rattle.api_calls.specs.Meaning.{Meaning}
use Rattle.api_calls.specs.Documents.{migration_document}
use Rattle.api_calls.specs.Refusal as refusal
use Rattle.api_calls.specs.Replies.{Answer, code_ok, said, MigrationReply}
use Rattle.api_calls.specs.State.{State}
use Rattle.setting_texts.specs.Migrating.{HaveTargets}

pub named-target : (m : Meaning) (name : List ℕ) (qs : List Migration) (q : Migration) → HaveTargets m qs → named name qs ≡ Some q → q.target < m.count
named-target m name [] q h is = absurd (cc)
named-target m name (r ∷ qs) q h is = by (bytes_eq r.name name) is (named-target m name qs q h.1)
  where
    by : (b : Bool) → (if b then Some r else named name qs) ≡ Some q → (named name qs ≡ Some q → q.target < m.count) → q.target < m.count
    by true is more = let same : r ≡ q = cc in subst (λ (x : Migration). x.target < m.count) same h.0
    by false is more = more is

-- the reply that shows a migration that was found
pub named-reply : (m : Meaning) (s : State) (name : List ℕ) (qs : List Migration) (q : Migration) (text : List ℕ) → qs ≡ s.migrations → named name qs ≡ Some q
    → text ≡ text_of (migration_document m q) → MigrationReply m s name (Ok (record { code = 200; text = text })) None
named-reply m s name qs q text same found spelled = (
  refl,
  subst (λ (o : Option Migration). MatchOption o (Reply ≡ Err (refusal.not_found name)) (λ x. Reply ≡ said code_ok (text_of (migration_document m x)))) (sym found ∙ ap (λ (xs : List Migration). named name xs) same)
      (ap (λ (t : List ℕ). said 200 t) spelled),
)
  where
    Reply : Answer
    Reply = Ok (record { code = 200; text = text })
