-- From the body of a start to the texts that show it.
use Rattle.std.proofs.Common.{◌≡◌, ◌∙◌, ◌<◌, ◌+◌, ℕ, zero, suc, List, [], ◌∷◌, ◌++◌, Option, None, Some, Ok, Err, length, get_or, ap, sym, subst, refl, inl, inr, arith, append_assoc}
use Rattle.std.specs.Prelude.{◌⊎◌}
use Rattle.kj_value.specs.Json.{Json, object, members_of}
use Rattle.kj_value.specs.Fields.{Pairs, field}
use Rattle.kj_value.specs.KindLaws.{pairs_members}
use Rattle.kj_value.specs.Seen.{json}
use Rattle.kj_value.specs.declared.value.JVal.{JVal}
use Rattle.kj_value.specs.declared.value.JVal.TheVariants.{Obj}
use Rattle.kj_value.specs.Text.{quoted}
use Rattle.kj_value.specs.Txt.{Bytes}
use Rattle.kube_meta.specs.Plan.{Migration}
use Rattle.kube_meta.specs.declared.limits.Condition.TheVariants.{Running}
use Rattle.api_calls.specs.Bodies.{RefusesStart, fields_in}
use Rattle.api_calls.specs.Documents.{condition_word}
use Rattle.api_calls.specs.Cause.{cause_of, why_of}
use Rattle.api_calls.specs.Meaning.{Meaning, bad_request, invalid}
use Rattle.api_calls.specs.Refusal as refusal
use Rattle.api_calls.specs.Refusal.{RefusalView}
use Rattle.api_calls.specs.Replies.{Answer, start_answer}
use Rattle.api_calls.specs.Versions.{Refused}
use Rattle.api_calls.specs.declared.versions.AdmitFault.{AdmitFault}
use Rattle.api_calls.specs.declared.versions.AdmitFault.TheVariants as admits
use Rattle.api_core.specs.Ends.{start_end}
use Rattle.migrate_core.specs.declared.ends.StartEnd.{StartEnd}
use Rattle.migrate_core.specs.declared.ends.StartEnd.TheVariants as core
use Rattle.call_texts.specs.Told.{Came}
use Rattle.call_texts.specs.Faults.{unstarted}
use Rattle.call_texts.specs.PageTexts.{two_ends}
use Rattle.setting_texts.specs.inner.SettingTexts.{before_name, before_storage, migration_text, resource_text, target_text, untargeted_text}
use Rattle.setting_texts.specs.Starting.{HasTarget, HasTexts, IsUnstarted, running_text}
use Rattle.setting_texts.proofs.Joined.{text_of-migration}

-- ---- the body

-- the value at a name of an object that stands there
pub inside-of : (name : List ℕ) (o r : Option Json) (v : JVal) (fields : Pairs) → o ≡ Some (json v) → v ≡ Obj fields → r ≡ field name fields → r ≡ field name (fields_in o)
inside-of name o r v fields there is found =
    let at : o ≡ Some (object (members_of fields)) = there ∙ ap (λ (x : JVal). Some (json x)) is in
    found ∙ (ap (field name) (sym (pairs_members fields)) ∙ ap (λ (p : Option Json). field name (fields_in p)) (sym at))

-- a body that starts no migration
pub came-unstarted : (m : Meaning) (body : List ℕ) (fault : AdmitFault) (e : RefusalView) → Refused (RefusesStart m body) ⊥ fault
    → (e ≡ refusal.no_memory) ⊎ (e ≡ unstarted fault) → Came ⊥ (IsUnstarted m body) (Err e) None
came-unstarted m body fault e refused (inl none) = subst (λ (x : RefusalView). Came ⊥ (IsUnstarted m body) (Err x) None) (sym none) refl
came-unstarted m body fault e refused (inr is) = subst (λ (x : RefusalView). Came ⊥ (IsUnstarted m body) (Err x) None) (sym is) (by fault refused)
  where
    by : (f : AdmitFault) → Refused (RefusesStart m body) ⊥ f → Came ⊥ (IsUnstarted m body) (Err (unstarted f)) None
    by (admits.BadRequest why) h = (bad_request (why_of why), h, refl, refl)
    by (admits.Invalid name cause) h = (invalid name.bytes (cause_of cause), h, refl, refl)
    by admits.Tool h = absurd h
    by admits.NoMemory h = refl

-- ---- the texts

abbrev answer_with : List ℕ → Answer
answer_with text = Ok (record { code = 201; text = text })

split-text : (a n r c b q e : List ℕ) → (a ++ (n ++ (r ++ (c ++ b)))) ++ (q ++ e) ≡ a ++ (n ++ (r ++ (c ++ (b ++ (q ++ e)))))
split-text a n r c b q e = simp append_assoc

-- what stands before the target, and the rest
pub targeted : (m : Meaning) (q : Migration) → untargeted_text m q.name q.condition ++ target_text m q.target ≡ migration_text m q
targeted m q = split-text before_name (quoted q.name) (resource_text m) (condition_word q.condition) before_storage (quoted (m.name q.target)) two_ends

pub running-text : (m : Meaning) (name : List ℕ) (target : ℕ) → untargeted_text m name Running ++ target_text m target ≡ running_text m name target
running-text m name target =
    targeted m (record { name = name; target = target; condition = Running })
    ∙ sym (text_of-migration m (record { name = name; target = target; condition = Running }))

texts-more : (m : Meaning) (name : List ℕ) (v : ℕ) (ts : List Bytes) (t : Bytes) → HasTexts m name v ts → t.bytes ≡ running_text m name (v + length ts) → HasTexts m name v (ts ++ t ∷ [])
texts-more m name v [] t h is =
    let e : v + 0 ≡ v = omega arith in (is ∙ ap (running_text m name) e, tt)
texts-more m name v (s ∷ ts) t h is =
    let e : v + suc (length ts) ≡ suc v + length ts = omega arith in
    (h.0, texts-more m name (suc v) ts t h.1 (is ∙ ap (running_text m name) e))

more-length : (ts : List Bytes) (t : Bytes) → length (ts ++ t ∷ []) ≡ length ts + 1
more-length [] t = omega arith
more-length (s ∷ ts) t = let more = more-length ts t in omega (arith, more)

-- one text more
pub texts-step : (m : Meaning) (name : List ℕ) (v : ℕ) (ts new : List Bytes) (t : Bytes) → HasTexts m name 0 ts → length ts ≡ v → t.bytes ≡ running_text m name v → new ≡ ts ++ t ∷ []
    → HasTexts m name 0 new × (length new ≡ v + 1)
texts-step m name v ts new t h count is put =
    let e : v ≡ 0 + length ts = omega (arith, count) in
    let more = more-length ts t in (
      subst (λ (xs : List Bytes). HasTexts m name 0 xs) (sym put) (texts-more m name 0 ts t h (is ∙ ap (running_text m name) e)),
      ap (λ (xs : List Bytes). length xs) put ∙ omega (arith, more, count),
    )

text-at : (m : Meaning) (name : List ℕ) (v : ℕ) (ts : List Bytes) (i : ℕ) (d : Bytes) → HasTexts m name v ts → i < length ts → (get_or ts i d).bytes ≡ running_text m name (v + i)
text-at m name v [] i d h short = absurd (omega (arith, short))
text-at m name v (t ∷ ts) zero d h short =
    let e : v ≡ v + 0 = omega arith in h.0 ∙ ap (running_text m name) e
text-at m name v (t ∷ ts) (suc i) d h short =
    let e : suc v + i ≡ v + suc i = omega arith in
    text-at m name (suc v) ts i d h.1 (omega (arith, short)) ∙ ap (running_text m name) e

-- the answer to a start that was entered
pub started-reply : (m : Meaning) (name : List ℕ) (ts : List Bytes) (e : StartEnd) (target : ℕ) (t : Bytes) → HasTexts m name 0 ts → length ts ≡ m.count → HasTarget m.count (start_end e)
    → e ≡ core.Done target → t ≡ get_or ts target t → answer_with t.bytes ≡ start_answer m name (start_end e)
started-reply m name ts e target t texts count known is at =
    let short : target < m.count = subst (λ (x : StartEnd). HasTarget m.count (start_end x)) is known in
    let fits : target < length ts = subst (λ (n : ℕ). target < n) (sym count) short in
    let e : 0 + target ≡ target = omega arith in
    let spelled : t.bytes ≡ running_text m name target = ap (λ (x : Bytes). x.bytes) at ∙ text-at m name 0 ts target t texts fits ∙ ap (running_text m name) e in
    ap answer_with spelled ∙ ap (λ (x : StartEnd). start_answer m name (start_end x)) (sym is)
