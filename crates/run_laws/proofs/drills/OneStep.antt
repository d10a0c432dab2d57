-- A step of a drill leads to one point.
use Rattle.std.proofs.Common.{◌≡◌, ◌∙◌, ◌<◌, ℕ, ◌+◌, List, [], ◌∷◌, ◌++◌, Option, None, Some, Ok, Err, ap, subst, sym, refl}
use Rattle.kj_value.specs.Json.{Json}
use Rattle.kj_value.specs.Reading.{Reads}
use Rattle.kj_value.specs.Text.{text_of}
use Rattle.kj_value.specs.declared.reading.TheConstants.{MAX_JSON_LEVELS}
use Rattle.kube_meta.specs.Key.{KeyView}
use Rattle.api_calls.specs.Calls.{Server, Call, create, replace, get, delete, set_versions, start, list, Told, answered, Answers}
use Rattle.api_calls.specs.Ends.{grown}
use Rattle.api_calls.specs.laws.GrowthLaws.{legal-front}
use Rattle.api_calls.specs.Item.{Item}
use Rattle.api_calls.specs.Legal.{legal}
use Rattle.api_calls.specs.Refusal.{RefusalView}
use Rattle.api_calls.specs.Reply.{ReplyView}
use Rattle.api_calls.specs.Replies.{Answer, GetReply, CreateReply, ReplaceReply, DeleteReply, SetReply, StartReply}
use Rattle.api_calls.specs.State.{revision, state}
use Rattle.api_calls.specs.Versions.{IsStamp}
use Rattle.call_texts.specs.Places.{IsPlace}
use Rattle.drill_requests.specs.Bodies.{stamp, spoke_version, hub_version, spoke_body, hub_body, object_name, object_key, start_body}
use Rattle.drill_requests.specs.Replies.{AsRead, value, no_value, IsEdited, edited}
use Rattle.drill_requests.specs.declared.steps.Step.{Step}
use Rattle.drill_requests.specs.declared.steps.Step.TheVariants.{CreateSpoke, CreateHub, Edit, Delete, Turn, Switch}
use Rattle.drill_steps.specs.Calling.{Tally, Requests, request, CountsCreate, CountsReplace, PutsBack, Edits, CountsDelete, CountsSet, CountsStart, Switches}
use Rattle.drill_steps.specs.Counting.{one_more, with_create, with_replace, with_delete, with_refusal, with_setting}
use Rattle.drill_steps.specs.Settings.{switch_body}
use Rattle.drill_steps.specs.Steps.{Point, turned, Does}
use Rattle.run_laws.specs.Versions.{HasVersion}
use Rattle.run_laws.proofs.drills.Alike.{Alike, create_counts, replace_counts, delete_counts, setting_counts}
use Rattle.run_laws.proofs.drills.Lawful.{Lawful}
use Rattle.run_laws.proofs.drills.OneReply.{place_is, get_one, create_one, replace_one, delete_one, set_one, start_one}
use Rattle.run_laws.proofs.drills.Whole.{AreWhole, IsStampedOne, whole-grown, create_stamped, replace_stamped, delete_stamped, set_stamped, start_stamped, turn_stamped}

-- what bytes read as is one value
abbrev pub IsOneReading : Type 0
IsOneReading = (bytes : List ℕ) (m n : ℕ) (j k : Json) → Reads bytes m j → Reads bytes n k → j ≡ k

edited_one : IsOneReading → (t : ℕ) (got body other : List ℕ) → IsEdited t got body → IsEdited t got other → body ≡ other
edited_one one t got body other (value j reads is) (value k also at) = is ∙ ap (λ (x : Json). text_of (edited t x)) (one got MAX_JSON_LEVELS MAX_JSON_LEVELS j k reads also) ∙ sym at
edited_one one t got body other (value j reads is) (no_value none at) = absurd (none j reads)
edited_one one t got body other (no_value none is) (value k also at) = absurd (none k also)
edited_one one t got body other (no_value none is) (no_value never at) = is ∙ sym at

-- ---- requests

one_answer : (a b : Answer) → answered a ≡ answered b → a ≡ b
one_answer a b is = cc

-- an answer is the reply that is decided
pub reply : (R : Answer → Option Item → Type 0) (a : Answer) (i : Option Item) → Answers R (answered a) i → R a i
reply R a i d = subst (λ (x : Answer). R x i) (sym (one_answer a d.0 d.1)) d.2

same_tally : (q r : Tally) → q.log ≡ r.log → q.counts ≡ r.counts → q ≡ r
same_tally q r log counts = subst (λ c. q ≡ record { log = r.log; counts = c }) counts (subst (λ (l : List Item). q ≡ record { log = l; counts = q.counts }) log refl)

legal-before : (s : Server) (log : List Item) (i : Option Item) → legal s.meaning s.limits (grown log i) → legal s.meaning s.limits log
legal-before s log None l = l
legal-before s log (Some i) l = legal-front s.meaning s.limits log (i ∷ []) l

pub before : (s : Server) (log after : List Item) (c : Call) (a : Answer) → Requests s log c a after → legal s.meaning s.limits after → legal s.meaning s.limits log
before s log after c a r l = legal-before s log r.item (subst (λ (is : List Item). legal s.meaning s.limits is) r.grows l)

module _ (s : Server) (laws : Lawful s.meaning) (one_reading : IsOneReading) (stamps : IsStamp stamp) (has_spoke : HasVersion s.meaning spoke_version) (has_hub : HasVersion s.meaning hub_version) where
  abbrev pub Whole : List Item → Type 0
  Whole log = AreWhole s.meaning laws stamps log

  -- where a request leads: to one history, which stays whole
  pub record Leads (log after other : List Item) (a b : Answer) : Type 0 where
    pub alike : Alike a b
    pub same : after ≡ other
    pub whole : legal s.meaning s.limits after → Whole log → Whole after

  leads : (log : List Item) (c : Call) (after other : List Item) (a b : Answer) (p : Requests s log c a after) (q : Requests s log c b other)
      → Alike a b × (p.item ≡ q.item) → IsStampedOne p.item → Leads log after other a b
  leads log c after other a b p q one stamped = record {
    alike = one.0;
    same = p.grows ∙ ap (λ (i : Option Item). grown log i) one.1 ∙ sym q.grows;
    whole = λ l all. subst (λ (is : List Item). Whole is) (sym p.grows)
        (whole-grown s.meaning laws stamps s.limits log p.item (subst (λ (is : List Item). legal s.meaning s.limits is) p.grows l) stamped all);
  }

  creates_one : (version body : List ℕ) (p q r : Tally) → HasVersion s.meaning version → CountsCreate s version body p q → CountsCreate s version body p r
      → (q ≡ r) × (legal s.meaning s.limits q.log → Whole p.log → Whole q.log)
  creates_one version body p q r has x y =
      let place : y.v ≡ x.v = place_is s.meaning version has y.v laws.names.differ y.place ∙ sym (place_is s.meaning version has x.v laws.names.differ x.place) in
      let other = subst (λ (v : ℕ). Requests s p.log (create (request v None body)) y.answer r.log) place y.requests in
      let decides = (CreateReply s.meaning s.limits s.boot (revision p.log + 1) (state s.meaning p.log) (request x.v None body) stamp) in
      let to = leads p.log (create (request x.v None body)) q.log r.log x.answer y.answer x.requests other
      (create_one s.meaning laws s.limits s.boot (revision p.log + 1) (state s.meaning p.log) (request x.v None body) stamp x.answer y.answer x.requests.item other.item
      (reply decides x.answer x.requests.item x.requests.decides) (reply decides y.answer other.item other.decides))
      (create_stamped s.meaning s.limits s.boot (revision p.log + 1) (state s.meaning p.log) (request x.v None body) stamp x.answer x.requests.item (reply decides x.answer x.requests.item x.requests.decides)) in
      (same_tally q r to.same (x.counts ∙ create_counts x.answer y.answer p to.alike ∙ sym y.counts), to.whole)

  replaces_one : (n t : ℕ) (got : List ℕ) (p q r : Tally) → CountsReplace s n t got p q → CountsReplace s n t got p r
      → (q ≡ r) × (legal s.meaning s.limits q.log → Whole p.log → Whole q.log)
  replaces_one n t got p q r x y =
      let place : y.v ≡ x.v = place_is s.meaning spoke_version has_spoke y.v laws.names.differ y.place ∙ sym (place_is s.meaning spoke_version has_spoke x.v laws.names.differ x.place) in
      let body : y.body ≡ x.body = edited_one one_reading t got y.body x.body y.edited x.edited in
      let other = subst (λ (b : List ℕ). Requests s p.log (replace (request x.v (Some (object_name n)) b) (object_key n)) y.answer r.log) body
      (subst (λ (v : ℕ). Requests s p.log (replace (request v (Some (object_name n)) y.body) (object_key n)) y.answer r.log) place y.requests) in
      let asked = request x.v (Some (object_name n)) x.body in
      let decides = (ReplaceReply s.meaning s.limits s.boot (revision p.log + 1) (state s.meaning p.log) asked (object_key n)) in
      let to = leads p.log (replace asked (object_key n)) q.log r.log x.answer y.answer x.requests other
      (replace_one s.meaning laws s.limits s.boot (revision p.log + 1) (state s.meaning p.log) asked (object_key n) x.answer y.answer x.requests.item other.item
      (reply decides x.answer x.requests.item x.requests.decides) (reply decides y.answer other.item other.decides))
      (replace_stamped s.meaning s.limits s.boot (revision p.log + 1) (state s.meaning p.log) asked (object_key n) x.answer x.requests.item (reply decides x.answer x.requests.item x.requests.decides)) in
      (same_tally q r to.same (x.counts ∙ replace_counts x.answer y.answer p to.alike ∙ sym y.counts), to.whole)

  puts_one : (n t : ℕ) (a : Answer) (p q r : Tally) → PutsBack s n t a p q → PutsBack s n t a p r
      → (q ≡ r) × (legal s.meaning s.limits q.log → Whole p.log → Whole q.log)
  puts_one n t (Ok got) p q r x y = replaces_one n t got.text p q r x y
  puts_one n t (Err e) p q r x y = (x ∙ sym y, λ l all. subst (λ (u : Tally). Whole u.log) (sym x) all)

  edits_one : (n t : ℕ) (p q r : Tally) → Edits s n t p q → Edits s n t p r → Whole p.log → (q ≡ r) × (legal s.meaning s.limits q.log → Whole q.log)
  edits_one n t p q r x y all =
      let xv = place_is s.meaning spoke_version has_spoke x.v laws.names.differ x.place in
      let place : y.v ≡ x.v = place_is s.meaning spoke_version has_spoke y.v laws.names.differ y.place ∙ sym xv in
      let other = subst (λ (v : ℕ). Requests s p.log (get v (object_key n)) y.answer y.mid) place y.requests in
      let decides = (GetReply s.meaning s.boot (state s.meaning p.log) x.v (object_key n)) in
      let mine = reply decides x.answer x.requests.item x.requests.decides in
      let yours = reply decides y.answer other.item other.decides in
      let known : x.v < s.meaning.count = subst (λ (v : ℕ). v < s.meaning.count) (sym xv) has_spoke.known in
      let answer : y.answer ≡ x.answer = get_one s.meaning laws s.boot (state s.meaning p.log) x.v (object_key n) y.answer x.answer other.item x.requests.item known all yours mine in
      let x_mid : x.mid ≡ p.log = x.requests.grows ∙ ap (λ (i : Option Item). grown p.log i) mine.0 in
      let y_mid : y.mid ≡ p.log = other.grows ∙ ap (λ (i : Option Item). grown p.log i) yours.0 in
      let put = subst (λ (l : List Item). PutsBack s n t x.answer (record p { log = l }) q) x_mid x.puts in
      let also = subst (λ (a : Answer). PutsBack s n t a p r) answer (subst (λ (l : List Item). PutsBack s n t y.answer (record p { log = l }) r) y_mid y.puts) in
      let to = puts_one n t x.answer p q r put also in
      (to.0, λ l. to.1 l all)

  deletes_one : (n : ℕ) (p q r : Tally) → CountsDelete s n p q → CountsDelete s n p r → (q ≡ r) × (legal s.meaning s.limits q.log → Whole p.log → Whole q.log)
  deletes_one n p q r x y =
      let place : y.v ≡ x.v = place_is s.meaning hub_version has_hub y.v laws.names.differ y.place ∙ sym (place_is s.meaning hub_version has_hub x.v laws.names.differ x.place) in
      let other = subst (λ (v : ℕ). Requests s p.log (delete v (object_key n) []) y.answer r.log) place y.requests in
      let decides = (DeleteReply s.meaning s.boot (revision p.log + 1) (state s.meaning p.log) x.v [] (object_key n) stamp) in
      let to = leads p.log (delete x.v (object_key n) []) q.log r.log x.answer y.answer x.requests other
      (delete_one s.meaning laws s.boot (revision p.log + 1) (state s.meaning p.log) x.v (object_key n) stamp x.answer y.answer x.requests.item other.item
      (reply decides x.answer x.requests.item x.requests.decides) (reply decides y.answer other.item other.decides))
      (delete_stamped s.meaning s.boot (revision p.log + 1) (state s.meaning p.log) x.v (object_key n) [] x.answer x.requests.item (reply decides x.answer x.requests.item x.requests.decides)) in
      (same_tally q r to.same (x.counts ∙ delete_counts x.answer y.answer p to.alike ∙ sym y.counts), to.whole)

  sets_one : (switches : ℕ) (p q r : Tally) → CountsSet s switches p q → CountsSet s switches p r → (q ≡ r) × (legal s.meaning s.limits q.log → Whole p.log → Whole q.log)
  sets_one switches p q r x y =
      let decides = (SetReply s.meaning (state s.meaning p.log) (switch_body switches)) in
      let to = leads p.log (set_versions (switch_body switches)) q.log r.log x.answer y.answer x.requests y.requests
      (set_one s.meaning laws (state s.meaning p.log) (switch_body switches) x.answer y.answer x.requests.item y.requests.item
      (reply decides x.answer x.requests.item x.requests.decides) (reply decides y.answer y.requests.item y.requests.decides))
      (set_stamped s.meaning (state s.meaning p.log) (switch_body switches) x.answer x.requests.item (reply decides x.answer x.requests.item x.requests.decides)) in
      (same_tally q r to.same (x.counts ∙ setting_counts x.answer y.answer p to.alike ∙ sym y.counts), to.whole)

  starts_one : (switches : ℕ) (p q r : Tally) → CountsStart s switches p q → CountsStart s switches p r → (q ≡ r) × (legal s.meaning s.limits q.log → Whole p.log → Whole q.log)
  starts_one switches p q r x y =
      let decides = (StartReply s.meaning s.limits (state s.meaning p.log) (start_body switches)) in
      let to = leads p.log (start (start_body switches)) q.log r.log x.answer y.answer x.requests y.requests
      (start_one s.meaning laws s.limits (state s.meaning p.log) (start_body switches) x.answer y.answer x.requests.item y.requests.item
      (reply decides x.answer x.requests.item x.requests.decides) (reply decides y.answer y.requests.item y.requests.decides))
      (start_stamped s.meaning s.limits (state s.meaning p.log) (start_body switches) x.answer x.requests.item (reply decides x.answer x.requests.item x.requests.decides)) in
      (same_tally q r to.same (x.counts ∙ setting_counts x.answer y.answer p to.alike ∙ sym y.counts), to.whole)

  switches_one : (switches : ℕ) (p q r : Tally) → Switches s switches p q → Switches s switches p r → (q ≡ r) × (legal s.meaning s.limits q.log → Whole p.log → Whole q.log)
  switches_one switches p q r x y =
      let mid = sets_one switches p x.mid y.mid x.sets y.sets in
      let to = starts_one switches x.mid q r x.starts (subst (λ (u : Tally). CountsStart s switches u r) (sym mid.0) y.starts) in
      (to.0, λ l all. to.1 l (mid.1 (before s x.mid.log q.log (start (start_body switches)) x.starts.answer x.starts.requests l) all))

  -- ---- steps

  turned_whole : (p : Point) → legal s.meaning s.limits (turned s p).tally.log → Whole p.tally.log → Whole (turned s p).tally.log
  turned_whole p l all = whole-grown s.meaning laws stamps s.limits p.tally.log _ l (turn_stamped (revision p.tally.log + 1) (state s.meaning p.tally.log) p.claim) all

  pub does_one : (step : Step) (p q r : Point) → Does s step p q → Does s step p r → Whole p.tally.log → (q ≡ r) × (legal s.meaning s.limits q.tally.log → Whole q.tally.log)
  does_one (CreateSpoke n t) p q r x y all =
      let to = creates_one spoke_version (spoke_body n t) p.tally q.tally r.tally has_spoke x.0 y.0 in
      (x.1 ∙ ap (λ (u : Tally). record p { tally = u }) to.0 ∙ sym y.1, λ l. to.1 l all)
  does_one (CreateHub n t) p q r x y all =
      let to = creates_one hub_version (hub_body n t) p.tally q.tally r.tally has_hub x.0 y.0 in
      (x.1 ∙ ap (λ (u : Tally). record p { tally = u }) to.0 ∙ sym y.1, λ l. to.1 l all)
  does_one (Edit n t) p q r x y all =
      let to = edits_one n t p.tally q.tally r.tally x.0 y.0 all in
      (x.1 ∙ ap (λ (u : Tally). record p { tally = u }) to.0 ∙ sym y.1, to.1)
  does_one (Delete n) p q r x y all =
      let to = deletes_one n p.tally q.tally r.tally x.0 y.0 in
      (x.1 ∙ ap (λ (u : Tally). record p { tally = u }) to.0 ∙ sym y.1, λ l. to.1 l all)
  does_one Turn p q r x y all = (x ∙ sym y, λ l. subst (λ (u : Point). Whole u.tally.log) (sym x) (turned_whole p (subst (λ (u : Point). legal s.meaning s.limits u.tally.log) x l) all))
  does_one Switch p q r x y all =
      let to = switches_one p.switches p.tally q.tally r.tally x.0 y.0 in
      (x.1 ∙ ap (λ (u : Tally). record p { switches = one_more p.switches; tally = u }) to.0 ∙ sym y.1, λ l. to.1 l all)

  -- the history before a step is legal where the one behind it is
  pub does_before : (step : Step) (p q : Point) → Does s step p q → legal s.meaning s.limits q.tally.log → legal s.meaning s.limits p.tally.log
  does_before (CreateSpoke n t) p q x l = before s p.tally.log q.tally.log _ x.0.answer x.0.requests l
  does_before (CreateHub n t) p q x l = before s p.tally.log q.tally.log _ x.0.answer x.0.requests l
  does_before (Edit n t) p q x l = before s p.tally.log x.0.mid _ x.0.answer x.0.requests (puts x.0.answer x.0.puts)
    where
      puts : (a : Answer) → PutsBack s n t a (record p.tally { log = x.0.mid }) q.tally → legal s.meaning s.limits x.0.mid
      puts (Ok got) put = before s x.0.mid q.tally.log _ put.answer put.requests l
      puts (Err e) put = subst (λ (u : Tally). legal s.meaning s.limits u.log) put l
  does_before (Delete n) p q x l = before s p.tally.log q.tally.log _ x.0.answer x.0.requests l
  does_before Turn p q x l = legal-before s p.tally.log _ (subst (λ (u : Point). legal s.meaning s.limits u.tally.log) x l)
  does_before Switch p q x l = before s p.tally.log x.0.mid.log _ x.0.sets.answer x.0.sets.requests (before s x.0.mid.log q.tally.log _ x.0.starts.answer x.0.starts.requests l)

  pub turned_before : (p : Point) → legal s.meaning s.limits (turned s p).tally.log → legal s.meaning s.limits p.tally.log
  turned_before p l = legal-before s p.tally.log _ l

  pub turns_whole : (p : Point) → legal s.meaning s.limits (turned s p).tally.log → Whole p.tally.log → Whole (turned s p).tally.log
  turns_whole p l all = turned_whole p l all
