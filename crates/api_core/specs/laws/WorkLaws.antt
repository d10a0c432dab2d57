-- Laws of a worker's turn in two steps: what its first step or its second came to is how the whole turn comes out.
use Rattle.std.specs.Prelude.{◌≡◌, ◌≢◌, ℕ, ◌+◌, Bool, true, false, List, ◌++◌, Option, None, Some, if◌then◌else◌}
use Rattle.std.proofs.Common.{refl, ap, ◌∙◌, sym, subst}
use Rattle.kube_meta.specs.Key.{KeyView}
use Rattle.api_calls.specs.Item.{Item, entry, Touch}
use Rattle.api_calls.specs.Objects.{find}
use Rattle.api_calls.specs.State.{revision, state}
use Rattle.api_calls.specs.Legal.{legal}
use Rattle.api_calls.specs.Ends.{prepare, touched, missed, says, enters}
use Rattle.api_calls.specs.Work.{Turn, Work, work_of, is_ready, ready_turn, turn_decision, touch_decision, work_decision}
use Rattle.api_calls.specs.inner.WorkGuards.{IsPrepared}
use Rattle.api_calls.specs.Calls.{Server, work, worked, IsAsked, Comes, decided, moved, lost}
use Rattle.api_calls.specs.ReplyLaws.{turn-reply, touch-reply}
use Rattle.api_core.specs.laws.WorkRows.{work_of-claim}
use Rattle.api_core.specs.laws.PreparedLaws.{ready-first, missed-named}

-- a turn comes out so at a list
abbrev ComesOut : Server → Type 0 → List ℕ → List Item → List Item → Option ℕ → Turn → Type 0
ComesOut s rose stamp seen log c t = Comes s rose stamp seen log (work c) (worked t.decision.answer t.claim) t.decision.item

-- it is the one-thread server's
whole : (s : Server) (rose : Type 0) (stamp : List ℕ) (seen log : List Item) (c : Option ℕ) (t : Turn) → t ≡ work_decision (revision log + 1) (state s.meaning log) c
    → ComesOut s rose stamp seen log c t
whole s rose stamp seen log c t is =
    decided (work c) (worked t.decision.answer t.claim) t.decision.item
    (ap (λ (u : Turn). worked u.decision.answer u.claim) is, ap (λ (u : Turn). u.decision.item) is)

-- a first step that tells to prepare nothing is the whole turn
pub first-step : (s : Server) (rose : Type 0) (stamp : List ℕ) (seen log : List Item) (c : Option ℕ)
    → ((k : KeyView) (rv : ℕ) → (turn_decision (revision log + 1) (state s.meaning log) c).decision.answer ≢ prepare k rv)
    → ComesOut s rose stamp seen log c (turn_decision (revision log + 1) (state s.meaning log) c)
first-step s rose stamp seen log c over =
    whole s rose stamp seen log c (turn_decision (revision log + 1) (state s.meaning log) c) (turn-reply (revision log + 1) (state s.meaning log) c over)

-- A second step, with the object that the first step told to prepare, prepared for the claim's target: it touched that
-- object as the whole turn does, or another item named its key since, or the claim is lost.
pub second-step : (s : Server) (rose : Type 0) (stamp : List ℕ) (seen between since : List Item) (c : Option ℕ) (k : KeyView) (rv : ℕ)
    → legal s.meaning s.limits ((seen ++ between) ++ since)
    → (turn_decision (revision (seen ++ between) + 1) (state s.meaning (seen ++ between)) c).decision.answer ≡ prepare k rv
    → (p : IsPrepared c k rv (state s.meaning (seen ++ between)))
    → ComesOut s rose stamp seen ((seen ++ between) ++ since) c
    (touch_decision (revision ((seen ++ between) ++ since) + 1) (state s.meaning ((seen ++ between) ++ since)) c k rv p.work.target)
second-step s rose stamp seen between since c k rv l told p = by (work_of c (state s.meaning ((seen ++ between) ++ since))) refl
  where
    log : List Item
    log = (seen ++ between) ++ since

    asked : IsAsked s.meaning seen ((seen ++ between) ++ since) c k since
    asked = record { between = between; number = rv; told = told; goes_on = refl }

    touch_of : Work → Turn
    touch_of w = record { decision = enters (touched (revision ((seen ++ between) ++ since) + 1)) (entry (Touch k w.claim)); claim = Some w.claim }

    miss_of : Work → Turn
    miss_of w = record { decision = says missed; claim = Some w.claim }

    one : (w : Work) → work_of c (state s.meaning ((seen ++ between) ++ since)) ≡ Some w → (b : Bool)
        → is_ready w rv p.work.target (find k (state s.meaning ((seen ++ between) ++ since)).objects) ≡ b
        → touch_decision (revision ((seen ++ between) ++ since) + 1) (state s.meaning ((seen ++ between) ++ since)) c k rv p.work.target ≡ (if b then touch_of w else miss_of w)
    one w held b is =
        ap (ready_turn (revision ((seen ++ between) ++ since) + 1) (state s.meaning ((seen ++ between) ++ since)) k rv p.work.target) held
        ∙ ap (λ (t : Bool). if t then touch_of w else miss_of w) is

    ready : (w : Work) → work_of c (state s.meaning ((seen ++ between) ++ since)) ≡ Some w → (b : Bool)
        → is_ready w rv p.work.target (find k (state s.meaning ((seen ++ between) ++ since)).objects) ≡ b
        → ComesOut s rose stamp seen ((seen ++ between) ++ since) c (if b then touch_of w else miss_of w)
    ready w held true is =
        whole s rose stamp seen ((seen ++ between) ++ since) c (touch_of w)
        (sym (one w held true is)
        ∙ touch-reply (revision ((seen ++ between) ++ since) + 1) (state s.meaning ((seen ++ between) ++ since)) c k rv p.work.target (revision ((seen ++ between) ++ since) + 1)
        (ready-first s.meaning s.limits (seen ++ between) since c k rv p.work.target l p)
        (ap (λ (t : Turn). t.decision.answer) (one w held true is)))
    ready w held false is =
        subst (λ (claim : Option ℕ). Comes s rose stamp seen ((seen ++ between) ++ since) (work c) (worked missed claim) None)
        (work_of-claim c (state s.meaning ((seen ++ between) ++ since)) w held)
        (moved c (record {
          key = k;
          since = since;
          asked = asked;
          named = missed-named s.meaning s.limits (revision ((seen ++ between) ++ since) + 1) (seen ++ between) since c k rv l p
              (ap (λ (t : Turn). t.decision.answer) (one w held false is));
        }))

    by : (o : Option Work) → work_of c (state s.meaning ((seen ++ between) ++ since)) ≡ o
        → ComesOut s rose stamp seen ((seen ++ between) ++ since) c
        (ready_turn (revision ((seen ++ between) ++ since) + 1) (state s.meaning ((seen ++ between) ++ since)) k rv p.work.target o)
    by None held = lost c (record { key = k; since = since; asked = asked; lost = held })
    by (Some w) held = ready w held (is_ready w rv p.work.target (find k (state s.meaning ((seen ++ between) ++ since)).objects)) refl
