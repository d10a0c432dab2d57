-- From what a step does to what a far end tells.
use Rattle.std.proofs.Common.{◌≡◌, refl, sym, ap, subst, ℕ, true, List, [], Option, None, Some, Result, Ok, Err}
use Rattle.std.specs.Prelude.{IfOk, IsSome}
use Rattle.std.specs.Io.KnownBytes.{prepend_known}
use Rattle.api_calls.specs.Meaning.{Meaning}
use Rattle.api_calls.specs.Reply.{ReplyView}
use Rattle.http_wire.specs.Head.{Request}
use Rattle.turn_cell.specs.declared.view.View.{View}
use Rattle.shared_api.specs.Passes.{ApiOf, IsOf, Known}
use Rattle.shared_api.specs.declared.cell.CoreBase.{CoreBase}
use Rattle.http_front.specs.One.{AnswersOne}
use Rattle.http_front.specs.Steps.{IsSameBut, Point}
use Rattle.far_server.specs.Serving.{IsServing}

-- of what is known the request is all, and nothing was written before its answer
pub alone : (Step : Point → Request → ReplyView → Point → Type 0) (p q : Point) (left : Option (List ℕ)) (held bytes before answer written : List ℕ) → held ≡ [] → before ≡ [] → answer ≡ written
    → AnswersOne Step true p q (prepend_known held (Some bytes)) left (Some before) (Some written) → AnswersOne Step true p q (Some bytes) left (Some []) (Some answer)
alone Step p q left held bytes before answer written none empty is d =
    subst (λ (h : List ℕ). AnswersOne Step true p q (prepend_known h (Some bytes)) left (Some []) (Some answer)) none
    (subst (λ (b : List ℕ). AnswersOne Step true p q (prepend_known held (Some bytes)) left (Some b) (Some answer)) empty
    (subst (λ (w : List ℕ). AnswersOne Step true p q (prepend_known held (Some bytes)) left (Some before) (Some w)) (sym is) d))

pub number_same : {B : Type 0} (v z : View B) → IsSameBut v z → z.number ≡ v.number
number_same {B} v z same = ap (λ (w : View B). w.number) same

-- what follows of both
pub of_both : {A E : Type 0} (P Q R : A → Type 0) (r : Result A E) → ((a : A) → P a → Q a → R a) → IfOk r P → IfOk r Q → IfOk r R
of_both P Q R (Ok a) both p q = both a p q
of_both P Q R (Err e) both p q = tt

pub serving : {V A : Type 0} (meaning : V → Meaning) (a : ApiOf (CoreBase V)) (p q : Known (CoreBase V) A) → IsOf meaning a p → IsOf meaning a q → IsSome p.view.number → IsServing meaning a p q
serving {V} {A} meaning a p q of other some = by p.view.number refl some
  where
    by : (o : Option ℕ) → p.view.number ≡ o → IsSome o → IsServing meaning a p q
    by None is none = cc
    by (Some n) is there = record { of = of; other = other; number = n; named = is }
