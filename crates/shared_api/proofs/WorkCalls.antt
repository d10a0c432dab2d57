-- The call of a worker's turn, from its turns.
use Rattle.std.proofs.Common.{◌≡◌, ◌++◌, ◌+◌, ℕ, List, [], Option, None, Some, Ok, Err, ap, sym, subst, refl, ◌∙◌}
use Rattle.std.specs.Prelude.{◌≢◌, pos, IsTrue, IsErrOf, OnErr, Result}
use Rattle.api_calls.specs.declared.versions.ConvFault.{ConvFault}
use Rattle.api_calls.specs.declared.versions.ConvFault.TheVariants as conv
use Rattle.shared_api.specs.Faults.{work_fault}
use Rattle.std.proofs.lemmas.List.{append-nil}
use Rattle.kube_meta.specs.Key.{KeyView}
use Rattle.kube_meta.specs.View.{ObjectView}
use Rattle.api_calls.specs.Calls.{Server, Told, worked, failed, no_memory, converter, work, Comes}
use Rattle.api_calls.specs.Calls as calls
use Rattle.api_calls.specs.laws.ObjectLaws.{each-find}
use Rattle.api_calls.specs.Ends.{TurnEnd, prepare}
use Rattle.api_calls.specs.Item.{Logged, Item, items}
use Rattle.api_calls.specs.LegalLists.{IsCounted}
use Rattle.api_calls.specs.Legal.{key_of, legal}
use Rattle.api_calls.specs.Meaning.{Meaning, Weighs}
use Rattle.api_calls.specs.Objects.{Stored, find}
use Rattle.api_calls.specs.State.{revision, state}
use Rattle.api_calls.specs.Versions.{IgnoresStamps, IsStored}
use Rattle.api_calls.specs.Work.{Turn, Work, first_turn, prepare_turn}
use Rattle.api_calls.specs.inner.WorkGuards.{IsPrepared, turn-prepares}
use Rattle.api_calls.proofs.Generations.{counted-all}
use Rattle.api_calls.proofs.Sound.{sound-all}
use Rattle.api_core.specs.Keeps.{IsText}
use Rattle.api_core.specs.laws.KeptLaws.{find-key, found-keyed}
use Rattle.api_core.specs.laws.ListLaws.{items-append}
use Rattle.api_core.specs.laws.PreparedLaws.{work-storage}
use Rattle.api_core.specs.laws.WorkLaws.{first-step, second-step}
use Rattle.api_core.specs.laws.WorkRows.{work_of-claim}
use Rattle.api_core.specs.declared.seen.Prepared.{Prepared}
use Rattle.api_core.specs.declared.seen.Seen.{Seen}
use Rattle.turn_cell.specs.declared.view.View.{View}
use Rattle.turn_cell.specs.Turns.{Turned}
use Rattle.turn_cell.specs.laws.Laws.{turns_join}
use Rattle.shared_api.specs.Answered.{CallsOn}
use Rattle.shared_api.specs.Steps.{IsStep, IsTold, IsToPrepare, failure_of}
use Rattle.shared_api.specs.inner.Working.{BeginsTurn, IsCopy, IsReady, Touches, first_of, second_of}
use Rattle.shared_api.specs.declared.step.Begun.{Begun}
use Rattle.shared_api.specs.declared.step.Begun.TheVariants as begun
use Rattle.shared_api.specs.declared.step.TurnStep.{TurnStep}
use Rattle.shared_api.specs.declared.step.TurnStep.TheVariants as step
use Rattle.shared_api.specs.declared.step.WorkFault.{WorkFault}
use Rattle.shared_api.specs.declared.step.WorkFault.TheVariants as fault
use Rattle.shared_api.proofs.Working.{prepare-none, prepared-there}

-- ---- what is prepared

-- an object that was seen has a stored text, and, where it is known what values mean, a weight and a generation
pub record Said (m : Meaning) (seen : Seen) : Type 0 where
  pub value : ObjectView
  pub stored : IsStored m seen.at value seen.bytes.bytes
  pub weighs : IsTrue m.honest → Weighs m value seen.weight
  pub generation : IsTrue m.honest → (n : ℕ) × (value.meta.generation ≡ pos n)

pub copy-said : (s : Server) (log : List Item) (k : KeyView) (target : ℕ) (seen : Seen) → IgnoresStamps s.meaning → legal s.meaning s.limits log → IsCopy s.meaning log k target seen
    → Said s.meaning seen
copy-said s log k target seen ignores l copy =
    let text = copy.keeps.text in
    record {
      value = text.value;
      stored = subst (λ (v : ℕ). IsStored s.meaning v text.value seen.bytes.bytes) (sym copy.keeps.at) text.stored;
      weighs = λ honest.
          let keyed = found-keyed s.meaning s.limits log k copy.object honest ignores l copy.there in
          subst (λ (w : ℕ). Weighs s.meaning text.value w) (sym copy.keeps.weight)
          (subst (λ (h : ObjectView). Weighs s.meaning h copy.object.weight) (sym (text.same honest)) keyed.1);
      generation = λ honest.
          let counted = each-find (λ e. IsCounted (revision log) e.h) k (state s.meaning log).objects copy.object (counted-all s.meaning s.limits log honest l) copy.there in
          (counted.number, ap (λ (h : ObjectView). h.meta.generation) (text.same honest) ∙ counted.is);
    }

-- what was prepared of it is ready
pub copy-ready : (s : Server) (log : List Item) (claim : Option ℕ) (k : KeyView) (rv target : ℕ) (seen : Seen) (p : Prepared) → IgnoresStamps s.meaning → legal s.meaning s.limits log
    → (first_of s.meaning log claim).decision.answer ≡ prepare k rv → IsCopy s.meaning log k target seen
    → p.key ≡ seen.key → p.at ≡ target → p.weight ≡ seen.weight
    → ((h : ObjectView) → IsStored s.meaning seen.at h seen.bytes.bytes → IsText s.meaning target h p.bytes.bytes)
    → IsReady s.meaning log claim rv p
copy-ready s log claim k rv target seen p ignores l told copy key at weight text =
    let asked = turn-prepares (revision log + 1) (state s.meaning log) claim k rv told in
    let there = prepared-there s.meaning s.limits log claim k rv l asked in
    let object : copy.object ≡ asked.object = (let seen_there = copy.there in cc (seen_there, there)) in
    let under : k ≡ p.key = sym (key ∙ copy.keeps.key ∙ find-key k (state s.meaning log).objects copy.object copy.there) in
    let kept = copy.keeps.text in
    let made = text kept.value (subst (λ (v : ℕ). IsStored s.meaning v kept.value seen.bytes.bytes) (sym copy.keeps.at) kept.stored) in
    let storage = work-storage claim (state s.meaning log) asked.work (sound-all s.meaning s.limits log l) asked.held in
    let here : IsPrepared claim p.key rv (state s.meaning log) = subst (λ (j : KeyView). IsPrepared claim j rv (state s.meaning log)) under asked in
    record {
      asked = record { work = asked.work; held = asked.held; object = asked.object; first = asked.first; key = asked.key ∙ under; number = asked.number; inside = here.inside; away = asked.away };
      target = at ∙ copy.storage ∙ sym storage;
      there = subst (λ (j : KeyView). find j (state s.meaning log).objects ≡ Some asked.object) under there;
      weight = weight ∙ copy.keeps.weight ∙ ap (λ (e : Stored). e.weight) object;
      value = record {
        value = λ honest.
            let keyed = found-keyed s.meaning s.limits log k copy.object honest ignores l copy.there in
            record {
              whole = subst (λ (h : ObjectView). s.meaning.whole h) (kept.same honest ∙ ap (λ (e : Stored). e.h) object) kept.stored.whole;
              key = ap (λ (e : Stored). key_of e.h) (sym object) ∙ keyed.0 ∙ under;
              weighs = subst (λ (w : ℕ). Weighs s.meaning asked.object.h w) (sym (weight ∙ copy.keeps.weight))
                  (subst (λ (e : Stored). Weighs s.meaning e.h copy.object.weight) object keyed.1);
            };
        text = record {
          value = made.value;
          stored = subst (λ (v : ℕ). IsStored s.meaning v made.value p.bytes.bytes) (sym at) made.stored;
          same = λ honest. made.same honest ∙ kept.same honest ∙ ap (λ (e : Stored). e.h) object;
        };
      };
    }

-- ---- the call

-- what a pass has seen afterwards, where nothing was entered
seen-none : {B : Type 0} (v z : View B) (log : List Logged) → Turned v z log None → z.seen ≡ log
seen-none {B = B} v z log turned = ap (λ (q : View B). q.seen) turned.3 ∙ append-nil log

no_prepare : (r : TurnStep) (e : TurnEnd) → IsStep r e → (k : KeyView) (rv : ℕ) → e ≢ prepare k rv
no_prepare step.Idle e is k rv told = cc
no_prepare step.Claimed e is k rv told = cc
no_prepare step.Touched e is k rv told = let at = is.1 in cc (at, told)
no_prepare step.Moved e is k rv told = cc
no_prepare step.RangeDone e is k rv told = cc
no_prepare step.Finished e is k rv told = let at = is.1 in cc (at, told)

-- a first turn that is the whole
pub ended_calls : {B : Type 0} (s : Server) (rose : Type 0) (v z : View B) (claim left : Option ℕ) (r : TurnStep) → BeginsTurn s v z claim left (begun.Ended r)
    → (t : Told) × IsTold (Ok r) left t × CallsOn s rose [] v z (work claim) t
ended_calls s rose v z claim left r b =
    let log : List Item = items b.log in
    let t : Turn = first_of s.meaning log claim in (
      worked t.decision.answer left,
      (t.decision.answer, b.tells, refl),
      record {
        log = b.log;
        item = t.decision.item;
        turned = b.writes.turned;
        legal = b.writes.after;
        comes = subst (λ (c : Option ℕ). Comes s rose [] (items v.seen) log (work claim) (worked t.decision.answer c) t.decision.item) (sym b.leaves)
            (first-step s rose [] (items v.seen) log claim (no_prepare r t.decision.answer b.tells));
      },
    )

-- a first turn that told to prepare leaves the worker its claim
pub prepare-leaves : (m : Meaning) (log : List Item) (claim : Option ℕ) (k : KeyView) (rv : ℕ) → (first_of m log claim).decision.answer ≡ prepare k rv → (first_of m log claim).claim ≡ claim
prepare-leaves m log claim k rv told =
    let p = turn-prepares (revision log + 1) (state m log) claim k rv told in
    ap (λ (o : Option Work). (first_turn (revision log + 1) (state m log) o).claim) p.held
    ∙ ap (λ (o : Option Stored). (prepare_turn p.work o).claim) p.first
    ∙ sym (work_of-claim claim (state m log) p.work p.held)

-- a first turn that told to prepare entered nothing
pub begun-none : {B : Type 0} (s : Server) (v z : View B) (claim left : Option ℕ) (r : Begun) (k : KeyView) (rv : ℕ) (b : BeginsTurn s v z claim left r)
    → (first_of s.meaning (items b.log) claim).decision.answer ≡ prepare k rv → Turned v z b.log None
begun-none {B = B} s v z claim left r k rv b told =
    subst (λ (i : Option Item). Turned v z b.log i) (prepare-none (revision (items b.log) + 1) (state s.meaning (items b.log)) claim k rv told) b.writes.turned

-- a call that failed after its first turn
pub failed_calls : {B : Type 0} (s : Server) (rose : Type 0) (v z : View B) (claim left : Option ℕ) (r : Begun) (k : KeyView) (rv : ℕ) (f : WorkFault) (b : BeginsTurn s v z claim left r)
    → (first_of s.meaning (items b.log) claim).decision.answer ≡ prepare k rv → (f ≡ fault.Converter → rose)
    → (t : Told) × IsTold (Err f) left t × CallsOn s rose [] v z (work claim) t
failed_calls s rose v z claim left r k rv f b told rises = (
  failed (failure_of f) left,
  refl,
  record {
    log = b.log;
    item = None;
    turned = begun-none s v z claim left r k rv b told;
    legal = b.writes.after;
    comes = subst (λ (c : Option ℕ). Comes s rose [] (items v.seen) (items b.log) (work claim) (failed (failure_of f) c) None)
        (sym (b.leaves ∙ prepare-leaves s.meaning (items b.log) claim k rv told)) (by f rises);
  },
)
  where
    by : (f : WorkFault) → (f ≡ fault.Converter → rose) → Comes s rose [] (items v.seen) (items b.log) (work claim) (failed (failure_of f) claim) None
    by fault.Converter rises = calls.not_converted (work claim) (failed converter claim) (rises refl) tt refl
    by fault.NoMemory rises = calls.wants_memory (work claim) (failed no_memory claim) refl

-- and it was told to prepare at the list that the pass then sees
pub failed_asked : {B : Type 0} (s : Server) (v z : View B) (claim left : Option ℕ) (r : Begun) (k : KeyView) (rv : ℕ) (b : BeginsTurn s v z claim left r)
    → (first_of s.meaning (items b.log) claim).decision.answer ≡ prepare k rv → IsToPrepare s.meaning (items z.seen) claim
failed_asked s v z claim left r k rv b told =
    subst (λ (log : List Logged). IsToPrepare s.meaning (items log) claim) (sym (seen-none v z b.log (begun-none s v z claim left r k rv b told))) (k, rv, told)

pub on_err : {T E : Type 0} (r : Result T E) (P : Type 0) → P → OnErr r P
on_err (Ok x) P p = tt
on_err (Err e) P p = p

-- the second step, at a later list
second-at : (s : Server) (rose : Type 0) (seen between since : List Item) (claim : Option ℕ) (k : KeyView) (rv at : ℕ) (first : List Item) → first ≡ seen ++ between
    → (log : List Item) → log ≡ first ++ since → legal s.meaning s.limits log → (first_of s.meaning first claim).decision.answer ≡ prepare k rv
    → (p : IsPrepared claim k rv (state s.meaning first)) → at ≡ p.work.target
    → Comes s rose [] seen log (work claim) (worked (second_of s.meaning log claim k rv at).decision.answer (second_of s.meaning log claim k rv at).claim) (second_of s.meaning log claim k rv at).decision.item
second-at s rose seen between since claim k rv at first is =
    subst
    (λ (f : List Item). (log : List Item) → log ≡ f ++ since → legal s.meaning s.limits log → (first_of s.meaning f claim).decision.answer ≡ prepare k rv
    → (p : IsPrepared claim k rv (state s.meaning f)) → at ≡ p.work.target
    → Comes s rose [] seen log (work claim) (worked (second_of s.meaning log claim k rv at).decision.answer (second_of s.meaning log claim k rv at).claim) (second_of s.meaning log claim k rv at).decision.item)
    (sym is) (λ log on.
    subst
    (λ (n : List Item). legal s.meaning s.limits n → (first_of s.meaning (seen ++ between) claim).decision.answer ≡ prepare k rv
    → (p : IsPrepared claim k rv (state s.meaning (seen ++ between))) → at ≡ p.work.target
    → Comes s rose [] seen n (work claim) (worked (second_of s.meaning n claim k rv at).decision.answer (second_of s.meaning n claim k rv at).claim) (second_of s.meaning n claim k rv at).decision.item)
    (sym on) (λ l told p target.
    subst
    (λ (a : ℕ). Comes s rose [] seen ((seen ++ between) ++ since) (work claim)
    (worked (second_of s.meaning ((seen ++ between) ++ since) claim k rv a).decision.answer (second_of s.meaning ((seen ++ between) ++ since) claim k rv a).claim)
    (second_of s.meaning ((seen ++ between) ++ since) claim k rv a).decision.item)
    (sym target) (second-step s rose [] seen between since claim k rv l told p)))

-- a call of two turns
pub touched_calls : {B : Type 0} (s : Server) (rose : Type 0) (v y z : View B) (claim mid left : Option ℕ) (r : Begun) (k : KeyView) (rv : ℕ) (p : Prepared) (e : TurnStep)
    (b : BeginsTurn s v y claim mid r) → (first_of s.meaning (items b.log) claim).decision.answer ≡ prepare k rv → k ≡ p.key → IsReady s.meaning (items b.log) claim rv p
    → Touches s y z mid left p.key rv p.at e
    → (t : Told) × IsTold (Ok e) left t × CallsOn s rose [] v z (work claim) t
touched_calls {B = B} s rose v y z claim mid left r k rv p e b told under ready second =
    let none = begun-none s v y claim mid r k rv b told in
    let stays : mid ≡ claim = b.leaves ∙ prepare-leaves s.meaning (items b.log) claim k rv told in
    let seen : y.seen ≡ b.log = seen-none v y b.log none in
    let t = subst (λ (c : Option ℕ). Touches s y z c left p.key rv p.at e) stays second in
    let log : List Item = items t.log in
    let turn : Turn = second_of s.meaning log claim p.key rv p.at in
    let before = none.0 in
    let after = t.writes.turned.0 in
    let first : items b.log ≡ items v.seen ++ items before.0 = ap items (sym before.1) ∙ items-append v.seen before.0 in
    let on : log ≡ items b.log ++ items after.0 =
    ap items (sym after.1) ∙ items-append y.seen after.0 ∙ ap (λ (l : List Logged). items l ++ items after.0) seen in (
      worked turn.decision.answer left,
      (turn.decision.answer, t.step, refl),
      record {
        log = t.log;
        item = turn.decision.item;
        turned = turns_join v y z b.log t.log turn.decision.item none t.writes.turned;
        legal = t.writes.after;
        comes = subst (λ (c : Option ℕ). Comes s rose [] (items v.seen) log (work claim) (worked turn.decision.answer c) turn.decision.item) (sym t.leaves)
            (second-at s rose (items v.seen) (items before.0) (items after.0) claim p.key rv p.at (items b.log) first log on t.writes.legal.guards
            (told ∙ ap (λ (j : KeyView). prepare j rv) under) ready.asked ready.target);
      },
    )

-- ---- what the second turn asks

-- the key of a copy is that of what was prepared of it
pub copy-key : (m : Meaning) (log : List Item) (k : KeyView) (target : ℕ) (seen : Seen) (p : Prepared) → IsCopy m log k target seen → p.key ≡ seen.key → k ≡ p.key
copy-key m log k target seen p copy key = sym (key ∙ copy.keeps.key ∙ find-key k (state m log).objects copy.object copy.there)

-- what is ready at the list of the first turn is so at what the pass then has seen
pub ready-seen : {B : Type 0} (s : Server) (v y : View B) (claim mid : Option ℕ) (r : Begun) (k : KeyView) (rv : ℕ) (p : Prepared) (b : BeginsTurn s v y claim mid r)
    → (first_of s.meaning (items b.log) claim).decision.answer ≡ prepare k rv → IsReady s.meaning (items b.log) claim rv p → IsReady s.meaning (items y.seen) mid rv p
ready-seen {B = B} s v y claim mid r k rv p b told ready =
    subst (λ (log : List Logged). IsReady s.meaning (items log) mid rv p) (sym (seen-none v y b.log (begun-none s v y claim mid r k rv b told)))
    (subst (λ (c : Option ℕ). IsReady s.meaning (items b.log) c rv p) (sym (b.leaves ∙ prepare-leaves s.meaning (items b.log) claim k rv told)) ready)

-- the converter's fault alone is told as one
pub fault-rose : (rose : Type 0) (x : ConvFault) → (IsErrOf {T = Prepared} {E = ConvFault} (Err x) conv.Tool → rose) → work_fault x ≡ fault.Converter → rose
fault-rose rose conv.Tool rises is = rises refl
fault-rose rose conv.NoMemory rises is = cc
