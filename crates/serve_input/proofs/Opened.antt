-- Conversations with a server that was opened.
use Rattle.std.proofs.Common.{◌≡◌, ℕ, List, [], Option, Some, None, refl, ap, sym, subst}
use Rattle.kube_meta.specs.declared.limits.TheConstants.Limits.{STANDING}
use Rattle.api_calls.specs.Item.{items}
use Rattle.api_calls.specs.Legal.{legal}
use Rattle.api_calls.specs.Meaning.{Meaning}
use Rattle.http_wire.specs.declared.limits.TheConstants.{MOST_REQUESTS}
use Rattle.turn_cell.specs.Views.{IsAlone, opening_view}
use Rattle.turn_cell.specs.declared.view.View.{View}
use Rattle.shared_api.specs.Base.{server_of}
use Rattle.shared_api.specs.Passes.{ApiOf}
use Rattle.shared_api.specs.declared.cell.CoreBase.{CoreBase}
use Rattle.http_front.specs.Link.{Links}
use Rattle.http_front.specs.Paced.{Paced}
use Rattle.serve_input.specs.Conversed.{At, AnswersAndWorks, Conversed, IsPaced, Start, Streams, front_of, link_end, opening}
use Rattle.serve_input.specs.declared.conversing.PipeEnd.{PipeEnd}

-- the first pass of a server has the number 0, and is alone
pub first_number : {B : Type 0} (base : B) (v : View B) → v ≡ opening_view base → v.number ≡ Some 0
first_number {B = B} base v new = ap (λ (w : View B). w.number) new

pub first_alone : {B : Type 0} (base : B) (v : View B) → v ≡ opening_view base → IsAlone v
first_alone {B = B} base v new = subst (λ (w : View B). IsAlone w) (sym new) refl

-- What the server has of its definition, its limits and its number is what it was opened with, and its first pass has seen nothing.
pub opened : {V : Type 0} (meaning : V → Meaning) (a : ApiOf (CoreBase V)) (v : View (CoreBase V)) (versions : V) (start : Start) (fails : Type 0) (turns : ℕ) (b : List ℕ)
    (left before written : Option (List ℕ)) (end : PipeEnd) (after : At)
    → a.base ≡ record { versions = versions; limits = STANDING; boot = start.boot } → v ≡ opening_view a.base → left ≡ Some b
    → legal (meaning a.base.versions) a.base.limits after.log
    → Links (AnswersAndWorks (record { server = server_of meaning a.base; told = start.told }) fails turns) MOST_REQUESTS ⊥ (link_end end)
    (record { log = items v.seen; claim = None }) after left before written
    → Conversed (front_of (meaning versions) start) fails turns b before written end
opened {V = V} meaning a v versions start fails turns b left before written end after base new known guards link = (
  after,
  subst (λ (c : CoreBase V). legal (meaning c.versions) c.limits after.log) base guards,
  subst (λ (k : Option (List ℕ)). Links (AnswersAndWorks (front_of (meaning versions) start) fails turns) MOST_REQUESTS ⊥ (link_end end) opening after k before written) known
      (subst (λ (c : CoreBase V). Links (AnswersAndWorks (record { server = server_of meaning c; told = start.told }) fails turns) MOST_REQUESTS ⊥ (link_end end) opening after left before written) base
      (subst (λ (w : View (CoreBase V)). Links (AnswersAndWorks (record { server = server_of meaning a.base; told = start.told }) fails turns) MOST_REQUESTS ⊥ (link_end end)
      (record { log = items w.seen; claim = None }) after left before written) new link)),
)

-- The same of how the conversation was paced, over an inbox that held nothing.
pub opened_paced : {V I O : Type 0} (meaning : V → Meaning) (a : ApiOf (CoreBase V)) (v : View (CoreBase V)) (versions : V) (start : Start) (fails : Type 0) (turns : ℕ) (s : Streams I O)
    (held behind : List ℕ) (end : PipeEnd) (after : At)
    → a.base ≡ record { versions = versions; limits = STANDING; boot = start.boot } → v ≡ opening_view a.base → held ≡ []
    → Paced s.tell (AnswersAndWorks (record { server = server_of meaning a.base; told = start.told }) fails turns) s.most (link_end end)
    (record { log = items v.seen; claim = None }) (record { held = held; input = s.input_before; output = s.output_before }) after (record { held = behind; input = s.input; output = s.output })
    → IsPaced s (front_of (meaning versions) start) fails turns end
opened_paced {V = V} meaning a v versions start fails turns s held behind end after base new empty paced = (
  after,
  behind,
  subst (λ (c : CoreBase V). Paced s.tell (AnswersAndWorks (record { server = server_of meaning c; told = start.told }) fails turns) s.most (link_end end)
      opening (record { held = []; input = s.input_before; output = s.output_before }) after (record { held = behind; input = s.input; output = s.output })) base
      (subst (λ (w : View (CoreBase V)). Paced s.tell (AnswersAndWorks (record { server = server_of meaning a.base; told = start.told }) fails turns) s.most (link_end end)
      (record { log = items w.seen; claim = None }) (record { held = []; input = s.input_before; output = s.output_before }) after (record { held = behind; input = s.input; output = s.output })) new
      (subst (λ (xs : List ℕ). Paced s.tell (AnswersAndWorks (record { server = server_of meaning a.base; told = start.told }) fails turns) s.most (link_end end)
      (record { log = items v.seen; claim = None }) (record { held = xs; input = s.input_before; output = s.output_before }) after (record { held = behind; input = s.input; output = s.output })) empty paced)),
)
