-- What the answers of a gate come to.
use Rattle.std.proofs.Common.{ℕ, ◌≡◌, ◌<◌, Bool, true, false, List, [], ◌∷◌, length, ap, sym, ◌∙◌, subst, arith}
use Rattle.std.specs.Prelude.{IsTrue}
use Rattle.api_calls.specs.Calls.{Server}
use Rattle.shared_api.specs.declared.step.TurnStep.{TurnStep}
use Rattle.shared_api.specs.declared.step.TurnStep.TheVariants.{Idle}
use Rattle.turn_cell.specs.declared.view.View.{View}
use Rattle.migrate_workers.specs.Works.{Question, asked, Asks, IsCounted, Works}
use Rattle.migrate_workers.specs.declared.working.WorkEnd.{WorkEnd}
use Rattle.migrate_workers.specs.declared.working.WorkEnd.TheVariants.{Stopped, Spent, Converter, NoMemory}
use Rattle.serve_many.specs.Helping.{TakesAll, Helps}

module _ {G : Type 0} (answers : G → TurnStep → Bool → G → Type 0) where
  -- no answer changes it
  asks_same : {X : Type 0} (of : G → X) → ((g : G) (last : TurnStep) (may : Bool) (h : G) → answers g last may h → of h ≡ of g)
      → (g : G) (qs : List Question) (h : G) → Asks answers g qs h → of h ≡ of g
  asks_same of keeps g [] h is = ap of (sym is)
  asks_same of keeps g (q ∷ qs) h asks = asks_same of keeps asks.0 qs h asks.2 ∙ keeps g q.0 q.1 asks.0 asks.1

  -- what holds where it says no
  asks_no : (P : G → Type 0) → ((g : G) (last : TurnStep) (h : G) → answers g last false h → P h)
      → (last : TurnStep) (steps : List TurnStep) (g h : G) → Asks answers g (asked last steps Stopped) h → P h
  asks_no P says last [] g h asks = subst P asks.2 (says g last asks.0 asks.1)
  asks_no P says last (s ∷ ss) g h asks = asks_no P says s ss asks.0 h asks.2

  module _ {B : Type 0} (s : Server) (most n m : ℕ) (v z : View B) (end : WorkEnd) (before after : G) (works : Works s most v z n m end answers before after) where
    pub works_same : {X : Type 0} (of : G → X) → ((g : G) (last : TurnStep) (may : Bool) (h : G) → answers g last may h → of h ≡ of g) → of after ≡ of before
    works_same of keeps = asks_same of keeps before (asked Idle works.ran.steps end) after works.ran.questions

    pub works_no : (P : G → Type 0) → ((g : G) (last : TurnStep) (h : G) → answers g last false h → P h) → end ≡ Stopped → P after
    works_no P says is = asks_no P says Idle works.ran.steps before after (subst (λ (e : WorkEnd). Asks answers before (asked Idle works.ran.steps e) after) is works.ran.questions)

-- ---- a gate that always says yes

untrue : false ≡ true → ⊥
untrue lies = grind arith

took_all : {G : Type 0} (most : ℕ) (steps : List TurnStep) (end : WorkEnd) (g h : G) → IsCounted most (length steps) end
    → Asks (λ (a : G) (last : TurnStep) (may : Bool) (b : G). IsTrue may) g (asked Idle steps end) h → TakesAll most (length steps) end
took_all {G = G} most steps Stopped g h counted asks =
    asks_no (λ (a : G) (last : TurnStep) (may : Bool) (b : G). IsTrue may) (λ _. ⊥) (λ a last b lies. untrue lies) Idle steps g h asks
took_all most steps Spent g h counted asks = counted
took_all most steps Converter g h counted asks = counted
took_all most steps NoMemory g h counted asks = counted

pub helps : {B G : Type 0} (s : Server) (most n m : ℕ) (v z : View B) (end : WorkEnd) (before after : G)
    → Works s most v z n m end (λ (a : G) (last : TurnStep) (may : Bool) (b : G). IsTrue may) before after → Helps s most n m v z
helps s most n m v z end before after works = record {
  steps = works.ran.steps;
  end = end;
  last = works.last;
  turns = works.ran.turns;
  took = took_all most works.ran.steps end before after works.ran.counted works.ran.questions;
  held = works.held;
  gave = works.gave;
  faults = works.faults;
}
