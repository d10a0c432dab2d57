-- Turns of a worker so far, and how they end.
use Rattle.std.proofs.Common.{◌≡◌, ◌<◌, ◌+◌, ℕ, Bool, true, false, List, [], ◌∷◌, ◌++◌, Ok, Err, length, ap, sym, subst, refl, ◌∙◌, arith}
use Rattle.api_calls.specs.Calls.{Server}
use Rattle.shared_api.specs.declared.step.TurnStep.{TurnStep}
use Rattle.shared_api.specs.declared.step.TurnStep.TheVariants.{Idle}
use Rattle.shared_api.specs.declared.step.WorkFault.{WorkFault}
use Rattle.shared_api.specs.declared.step.WorkFault.TheVariants as fault
use Rattle.migrate_workers.specs.Works.{Outcome, Question, At, IsTurn, AreTurns, outcomes, asked, Asks, IsCounted, Ran, end_of_fault}
use Rattle.migrate_workers.specs.declared.working.WorkEnd.TheVariants as ended

-- how the last of the turns came out
abbrev pub last_of : TurnStep → List TurnStep → TurnStep
last_of l [] = l
last_of l (s ∷ ss) = last_of s ss

-- ---- one more

turns-more : {B : Type 0} (s : Server) (p q r : At B) (os : List Outcome) (o : Outcome) → AreTurns s p os q → IsTurn s q r o → AreTurns s p (os ++ o ∷ []) r
turns-more {B = B} s p q r [] o is t = (r, subst (λ (x : At B). IsTurn s x r o) (sym is) t, refl)
turns-more s p q r (a ∷ os) o ts t = (ts.0, ts.1, turns-more s ts.0 q r os o ts.2 t)

outcomes-more : (ss : List TurnStep) (s : TurnStep) → outcomes (ss ++ s ∷ []) ended.Spent ≡ outcomes ss ended.Spent ++ Ok s ∷ []
outcomes-more [] s = refl
outcomes-more (x ∷ ss) s = ap (λ (os : List Outcome). Ok x ∷ os) (outcomes-more ss s)

outcomes-stopped : (ss : List TurnStep) → outcomes ss ended.Stopped ≡ outcomes ss ended.Spent
outcomes-stopped [] = refl
outcomes-stopped (x ∷ ss) = ap (λ (os : List Outcome). Ok x ∷ os) (outcomes-stopped ss)

outcomes-fault : (ss : List TurnStep) (f : WorkFault) → outcomes ss (end_of_fault f) ≡ outcomes ss ended.Spent ++ Err f ∷ []
outcomes-fault [] fault.Converter = refl
outcomes-fault [] fault.NoMemory = refl
outcomes-fault (x ∷ ss) f = ap (λ (os : List Outcome). Ok x ∷ os) (outcomes-fault ss f)

asked-more : (l : TurnStep) (ss : List TurnStep) (s : TurnStep) → asked l (ss ++ s ∷ []) ended.Spent ≡ asked l ss ended.Spent ++ (last_of l ss, true) ∷ []
asked-more l [] s = refl
asked-more l (x ∷ ss) s = ap (λ (qs : List Question). (l, true) ∷ qs) (asked-more x ss s)

asked-stopped : (l : TurnStep) (ss : List TurnStep) → asked l ss ended.Stopped ≡ asked l ss ended.Spent ++ (last_of l ss, false) ∷ []
asked-stopped l [] = refl
asked-stopped l (x ∷ ss) = ap (λ (qs : List Question). (l, true) ∷ qs) (asked-stopped x ss)

asked-fault : (l : TurnStep) (ss : List TurnStep) (f : WorkFault) → asked l ss (end_of_fault f) ≡ asked l ss ended.Spent ++ (last_of l ss, true) ∷ []
asked-fault l [] fault.Converter = refl
asked-fault l [] fault.NoMemory = refl
asked-fault l (x ∷ ss) f = ap (λ (qs : List Question). (l, true) ∷ qs) (asked-fault x ss f)

last-more : (l : TurnStep) (ss : List TurnStep) (s : TurnStep) → s ≡ last_of l (ss ++ s ∷ [])
last-more l [] s = refl
last-more l (x ∷ ss) s = last-more x ss s

length-more : (ss : List TurnStep) (s : TurnStep) → length (ss ++ s ∷ []) ≡ length ss + 1
length-more [] s = refl
length-more (x ∷ ss) s = let more = length-more ss s in omega (arith, more)

asks-more : {G : Type 0} (answers : G → TurnStep → Bool → G → Type 0) (g h k : G) (qs : List Question) (last : TurnStep) (may : Bool) → Asks answers g qs h → answers h last may k → Asks answers g (qs ++ (last, may) ∷ []) k
asks-more answers g h k [] last may is more = (k, subst (λ x. answers x last may k) (sym is) more, refl)
asks-more answers g h k (q ∷ qs) last may is more = (is.0, is.1, asks-more answers is.0 h k qs last may is.2 more)

-- ---- so far

-- so many turns came out as steps, and the gate said yes before each
pub record Going {B G : Type 0} (s : Server) (n : ℕ) (p q : At B) (before_next : TurnStep) (answers : G → TurnStep → Bool → G → Type 0) (before now : G) : Type 0 where
  pub steps : List TurnStep
  pub turns : AreTurns s p (outcomes steps ended.Spent) q
  pub counted : length steps ≡ n
  pub questions : Asks answers before (asked Idle steps ended.Spent) now
  pub last : before_next ≡ last_of Idle steps

pub going-begins : {B G : Type 0} (s : Server) (p : At B) (answers : G → TurnStep → Bool → G → Type 0) (before : G) → Going s 0 p p Idle answers before before
going-begins s p answers before = record { steps = []; turns = refl; counted = refl; questions = refl; last = refl }

module _ {B G : Type 0} (s : Server) (n : ℕ) (p q : At B) (last : TurnStep) (answers : G → TurnStep → Bool → G → Type 0) (before now after : G) (g : Going s n p q last answers before now) where
  -- the questions with one more
  more_asked : (may : Bool) → answers now last may after → Asks answers before (asked Idle g.steps ended.Spent ++ (last_of Idle g.steps, may) ∷ []) after
  more_asked may more = asks-more answers before now after (asked Idle g.steps ended.Spent) (last_of Idle g.steps) may g.questions (subst (λ (l : TurnStep). answers now l may after) g.last more)

  pub going-on : (r : At B) (step : TurnStep) → answers now last true after → IsTurn s q r (Ok step) → Going s (n + 1) p r step answers before after
  going-on r step more turn = record {
    steps = g.steps ++ step ∷ [];
    turns = subst (λ (os : List Outcome). AreTurns s p os r) (sym (outcomes-more g.steps step)) (turns-more s p q r (outcomes g.steps ended.Spent) (Ok step) g.turns turn);
    counted = length-more g.steps step ∙ ap (λ (k : ℕ). k + 1) g.counted;
    questions = subst (λ (qs : List Question). Asks answers before qs after) (sym (asked-more Idle g.steps step)) (more_asked true more);
    last = last-more Idle g.steps step;
  }

  pub ran-stopped : (most : ℕ) → n < most → answers now last false after → Ran s most p q ended.Stopped answers before after
  ran-stopped most few more = record {
    steps = g.steps;
    turns = subst (λ (os : List Outcome). AreTurns s p os q) (sym (outcomes-stopped g.steps)) g.turns;
    counted = (let is = g.counted in omega (arith, is, few));
    questions = subst (λ (qs : List Question). Asks answers before qs after) (sym (asked-stopped Idle g.steps)) (more_asked false more);
  }

  counted_fault : (most : ℕ) (f : WorkFault) → n < most → IsCounted most (length g.steps) (end_of_fault f)
  counted_fault most fault.Converter few = let is = g.counted in omega (arith, is, few)
  counted_fault most fault.NoMemory few = let is = g.counted in omega (arith, is, few)

  pub ran-failed : (most : ℕ) (r : At B) (f : WorkFault) → n < most → answers now last true after → IsTurn s q r (Err f) → Ran s most p r (end_of_fault f) answers before after
  ran-failed most r f few more turn = record {
    steps = g.steps;
    turns = subst (λ (os : List Outcome). AreTurns s p os r) (sym (outcomes-fault g.steps f)) (turns-more s p q r (outcomes g.steps ended.Spent) (Err f) g.turns turn);
    counted = counted_fault most f few;
    questions = subst (λ (qs : List Question). Asks answers before qs after) (sym (asked-fault Idle g.steps f)) (more_asked true more);
  }

pub ran-spent : {B G : Type 0} (s : Server) (n : ℕ) (p q : At B) (last : TurnStep) (answers : G → TurnStep → Bool → G → Type 0) (before now : G) → Going s n p q last answers before now
    → Ran s n p q ended.Spent answers before now
ran-spent s n p q last answers before now g = record { steps = g.steps; turns = g.turns; counted = g.counted; questions = g.questions }
