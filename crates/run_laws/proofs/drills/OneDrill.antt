-- Two drills of one definition tell the same.
use Rattle.std.proofs.Common.{◌≡◌, ◌≢◌, ◌∙◌, ◌<◌, ℕ, ◌+◌, List, Option, None, Ok, Err, ap, subst, sym, refl, arith}
use Rattle.kj_value.specs.Json.{Json}
use Rattle.kj_value.specs.declared.reading.TheConstants.{MAX_JSON_LEVELS}
use Rattle.api_calls.specs.Calls.{Server, list}
use Rattle.api_calls.specs.Ends.{idle}
use Rattle.api_calls.specs.Item.{Item}
use Rattle.api_calls.specs.Legal.{legal}
use Rattle.api_calls.specs.Replies.{Answer, ListReply}
use Rattle.api_calls.specs.State.{state, revision}
use Rattle.api_calls.specs.Versions.{IsStamp}
use Rattle.drill_requests.specs.Bodies.{stamp, spoke_version, hub_version}
use Rattle.drill_requests.specs.Draws.{drawn, third_state, step_of}
use Rattle.drill_requests.specs.Replies.{AsRead, value, no_value, Shows, items_in, version_in}
use Rattle.drill_steps.specs.Calling.{Requests, Lists}
use Rattle.drill_steps.specs.Drilling.{Tells, summary}
use Rattle.drill_steps.specs.Steps.{Point, opening, turn_at, turned, Rests, last_turn, one_more_turn, TakesStep, TakesSteps, no_step, one_more_step}
use Rattle.run_laws.specs.Versions.{HasVersion}
use Rattle.run_laws.proofs.drills.Lawful.{Lawful}
use Rattle.run_laws.proofs.drills.OneReply.{place_is, list_one}
use Rattle.run_laws.proofs.drills.OneStep.{IsOneReading, reply, Whole, does_one, does_before, turned_before, turns_whole}
use Rattle.run_laws.proofs.drills.Whole.{whole-snap}

shown_one : IsOneReading → (a : Answer) (m n : ℕ) (u v : List ℕ) → Shows a m u → Shows a n v → (m ≡ n) × (u ≡ v)
shown_one one (Ok r) m n u v (value j reads p) (value k also q) =
    let same = one r.text MAX_JSON_LEVELS MAX_JSON_LEVELS j k reads also in
    (p.0 ∙ ap (λ (x : Json). items_in x) same ∙ sym q.0, p.1 ∙ ap (λ (x : Json). version_in x) same ∙ sym q.1)
shown_one one (Ok r) m n u v (value j reads p) (no_value none q) = absurd (none j reads)
shown_one one (Ok r) m n u v (no_value none p) (value k also q) = absurd (none k also)
shown_one one (Ok r) m n u v (no_value none p) (no_value never q) = (p.0 ∙ sym q.0, p.1 ∙ sym q.1)
shown_one one (Err e) m n u v p q = (p.0 ∙ sym q.0, p.1 ∙ sym q.1)

module _ (s : Server) (laws : Lawful s.meaning) (one_reading : IsOneReading) (stamps : IsStamp stamp) (has_spoke : HasVersion s.meaning spoke_version) (has_hub : HasVersion s.meaning hub_version) where
  abbrev AllWhole : List Item → Type 0
  AllWhole log = Whole s laws one_reading stamps has_spoke has_hub log

  abbrev IsLegal : List Item → Type 0
  IsLegal log = legal s.meaning s.limits log

  -- ---- steps

  steps_one : (start m n : ℕ) (q r : Point) → m ≡ n → TakesSteps s (opening start) m q → TakesSteps s (opening start) n r → IsLegal q.tally.log → IsLegal r.tally.log
      → (q ≡ r) × AllWhole q.tally.log
  steps_one start _ _ _ _ same no_step no_step l k = (refl, tt)
  steps_one start _ _ _ _ same no_step (one_more_step n mid r steps step) l k = absurd (omega (arith, same))
  steps_one start _ _ _ _ same (one_more_step m mid q steps step) no_step l k = absurd (omega (arith, same))
  steps_one start _ _ _ _ same (one_more_step m mid q steps step) (one_more_step n other r takes does) l k =
      let x = does_before s laws one_reading stamps has_spoke has_hub (step_of (drawn mid.drawing)) (record mid { drawing = third_state mid.drawing }) q step l in
      let y = does_before s laws one_reading stamps has_spoke has_hub (step_of (drawn other.drawing)) (record other { drawing = third_state other.drawing }) r does k in
      let less : m ≡ n = omega (arith, same) in
      let here = steps_one start m n mid other less steps takes x y in
      let to = does_one s laws one_reading stamps has_spoke has_hub (step_of (drawn mid.drawing)) (record mid { drawing = third_state mid.drawing }) q r step
      (subst (λ (u : Point). TakesStep s u r) (sym here.0) does) here.1 in
      (to.0, to.1 l)

  -- ---- turns until one has nothing to do

  rests_before : (p q : Point) → Rests s p q → IsLegal q.tally.log → IsLegal p.tally.log
  rests_before _ _ (last_turn p q is goes) l = turned_before s laws one_reading stamps has_spoke has_hub p (subst (λ (u : Point). IsLegal u.tally.log) goes l)
  rests_before _ _ (one_more_turn p q other rests) l = turned_before s laws one_reading stamps has_spoke has_hub p (rests_before (turned s p) q rests l)

  rests_one : (p q r : Point) → Rests s p q → Rests s p r → IsLegal q.tally.log → AllWhole p.tally.log → (q ≡ r) × AllWhole q.tally.log
  rests_one _ _ _ (last_turn p q is goes) (last_turn _ r at ends) l all = (
    goes ∙ sym ends,
    subst (λ (u : Point). AllWhole u.tally.log) (sym goes)
        (turns_whole s laws one_reading stamps has_spoke has_hub p (subst (λ (u : Point). IsLegal u.tally.log) goes l) all),
  )
  rests_one _ _ _ (last_turn p q is goes) (one_more_turn _ r other rests) l all = absurd (other is)
  rests_one _ _ _ (one_more_turn p q other rests) (last_turn _ r at ends) l all = absurd (other at)
  rests_one _ _ _ (one_more_turn p q other rests) (one_more_turn _ r also ends) l all =
      rests_one (turned s p) q r rests ends l (turns_whole s laws one_reading stamps has_spoke has_hub p (rests_before (turned s p) q rests l) all)

  -- ---- the list

  lists_one : (log : List Item) (m n : ℕ) (u v : List ℕ) → Lists s log m u → Lists s log n v → AllWhole log → (m ≡ n) × (u ≡ v)
  lists_one log m n u v x y all =
      let xv = place_is s.meaning spoke_version has_spoke x.v laws.names.differ x.place in
      let place : y.v ≡ x.v = place_is s.meaning spoke_version has_spoke y.v laws.names.differ y.place ∙ sym xv in
      let known : x.v < s.meaning.count = subst (λ (w : ℕ). w < s.meaning.count) (sym xv) has_spoke.known in
      let other = subst (λ (w : ℕ). Requests s log (list w None 0 None) y.answer y.after) place y.requests in
      let decides = ListReply s.meaning s.limits s.boot log x.v None 0 None in
      let answer : y.answer ≡ x.answer = list_one s.meaning laws s.limits s.boot log x.v y.answer x.answer other.item x.requests.item known
      (whole-snap s.meaning laws stamps log all) (reply decides y.answer other.item other.decides) (reply decides x.answer x.requests.item x.requests.decides) in
      shown_one one_reading x.answer m n u v x.shows (subst (λ (a : Answer). Shows a n v) answer y.shows)

  pub tells_one : (start count : ℕ) (a b : List ℕ) → Tells s start count a → Tells s start count b → a ≡ b
  tells_one start count a b x y =
      let p = x.drills in
      let q = y.drills in
      let stepped = steps_one start count count p.stepped q.stepped refl p.steps q.steps (rests_before p.stepped p.rested p.rests p.is_legal) (rests_before q.stepped q.rested q.rests q.is_legal) in
      let rested = rests_one p.stepped p.rested q.rested p.rests (subst (λ (u : Point). Rests s u q.rested) (sym stepped.0) q.rests) p.is_legal stepped.1 in
      let listed = lists_one p.rested.tally.log x.objects y.objects x.revision y.revision p.lists
      (subst (λ (u : Point). Lists s u.tally.log y.objects y.revision) (sym rested.0) q.lists) rested.1 in
      let counts : x.counts ≡ y.counts = p.counted ∙ ap (λ (u : Point). u.tally.counts) rested.0 ∙ sym q.counted in
      x.told ∙ ap (λ c. summary c x.objects x.revision) counts ∙ ap (λ (n : ℕ). summary y.counts n x.revision) listed.0
      ∙ ap (λ (v : List ℕ). summary y.counts y.objects v) listed.1 ∙ sym y.told
