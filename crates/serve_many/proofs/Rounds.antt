-- The ways of a pass, and its rounds.
use Rattle.std.proofs.Common.{ℕ, ◌≡◌, List, Option, None, Some, MatchOption, refl, ap, sym, ◌∙◌, subst}
use mathlib.Core.List.{IsPrefix}
use Rattle.api_calls.specs.Calls.{Server}
use Rattle.api_calls.specs.Item.{Logged}
use Rattle.api_calls.specs.Meaning.{Meaning}
use Rattle.edge_io.specs.Connections.{Origin, Ending}
use Rattle.shared_api.specs.declared.cell.CoreBase.{CoreBase}
use Rattle.turn_cell.specs.laws.Laws.{prefix_self, prefix_trans}
use Rattle.turn_cell.specs.Turns.{Meets}
use Rattle.turn_cell.specs.Views.{halved}
use Rattle.turn_cell.specs.declared.view.View.{View}
use Rattle.serve_spans.proofs.Spans.{linked_grows}
use Rattle.serve_many.specs.Answered.{IsAnswered, Sides, front_of}
use Rattle.serve_many.specs.Helping.{HelpsOut, Goes, Rounds, begins, helps}
use Rattle.serve_many.specs.Jobs.{Serves, Worked}
use Rattle.serve_many.proofs.Answering.{answered_grows}

module _ {B : Type 0} where
  pub goes_self : (v : View B) → Goes v v
  goes_self v n named = (named, prefix_self v.seen)

  pub goes_same : (v z : View B) → z ≡ v → Goes v z
  goes_same v z same = subst (λ (q : View B). Goes v q) (sym same) (goes_self v)

  pub goes_on : (v w z : View B) → Goes v w → Goes w z → Goes v z
  goes_on v w z a b n named =
      let p = a n named in
      let q = b n p.0 in
      (q.0, prefix_trans v.seen w.seen z.seen p.1 q.1)

  pub goes_halved : (v z : View B) → z ≡ halved v → Goes v z
  goes_halved v z left n named = (ap (λ (q : View B). q.number) left ∙ named, subst (λ (q : List Logged). IsPrefix v.seen q) (sym (ap (λ (q : View B). q.seen) left)) (prefix_self v.seen))

  pub goes_met : (v w z : View B) → Meets v w z → Goes v z
  goes_met v w z met n named = (ap (λ (q : View B). q.number) met.0 ∙ named, met.1.0)

  pub goes_worked : (v z : View B) → Worked v z → Goes v z
  goes_worked v z worked n named = (ap (λ (q : View B). q.number) (worked n named).same ∙ named, (worked n named).grows)

  pub rounds_on : (s : Server) (most idle : ℕ) (v : View B) (count : ℕ) (y z : View B) → Rounds s most idle v count y → Goes y z → Rounds s most idle v count z
  rounds_on s most idle v count y z (begins x before) on = begins z (goes_on v y z before on)
  rounds_on s most idle v count y z (helps k j m a b x before turns rest) on = helps k j m a b z before turns (goes_on b y z rest on)

  pub rounds_from : (s : Server) (most idle : ℕ) (u v : View B) (count : ℕ) (z : View B) → Goes u v → Rounds s most idle v count z → Rounds s most idle u count z
  rounds_from s most idle u v count z from (begins x on) = begins z (goes_on u v z from on)
  rounds_from s most idle u v count z from (helps k j m a b x before turns rest) = helps k j m a b z (rounds_from s most idle u v k a from before) turns rest

pub goes_served : {V A I O : Type 0} (count : A → ℕ) (w : Sides I O) (meaning : V → Meaning) (base : CoreBase V) (told : Option (List ℕ)) (v : View (CoreBase V)) (o : Option Origin) (z : View (CoreBase V)) (e : Ending)
    → Serves count w meaning base told v o z e → Goes v z
goes_served {V = V} count w meaning base told v o z e serves n named =
    let l = serves n named in
    let f = front_of meaning base told in
    (ap (λ (q : View (CoreBase V)). q.number) l.same ∙ named, linked_grows (IsAnswered count w f) (answered_grows count w f) n v o z e l)
