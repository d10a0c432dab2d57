-- A claim that is taken, step by step; and what is left of a worker's work.
use Rattle.std.proofs.Common.{◌≡◌, ℕ, ◌+◌, List, [], ◌∷◌, Bool, true, false, Option, None, Some, Bor, ap, refl, sym, ◌∙◌, not, is_some, replicate}
use Rattle.std.specs.Option.{option_copied}
use Rattle.std.specs.Prelude.{◌&&◌, if◌then◌else◌}
use Rattle.std.specs.List.{list_any}
use Rattle.kube_meta.specs.Key.{KeyView}
use Rattle.kube_meta.specs.declared.limits.Condition.{Condition}
use Rattle.kube_meta.specs.declared.limits.Condition.TheVariants.{Succeeded, Failed}
use Rattle.kube_meta.specs.Plan.{Bound, Start, Span, Slot, Free, Plan, Migration, slot_count, stopped, give_back, free_slot, running, runs, ended, span_of, is_done, is_end, is_free, is_loose, hold_loose, hold_free, next_bound, may_claim, claimed, pass_key}
use Rattle.migrate_core.specs.declared.records.Row.{Row}
use Rattle.migrate_core.specs.Rows.{elsewhere, keys}
use Rattle.migrate_core.specs.inner.Slots.{plan_of}
use Rattle.migrate_core.specs.View.{MigrationsView}
use Rattle.migrate_core.specs.Moves.{work_of, work_in, work_under, IsInWork, takes_claim, after_claim, after_pass, after_step, after_advance, after_give_back, after_mark, after_fail}
use Rattle.migrate_core.proofs.Changes.{hold_loose-none}

-- there is a free slot, and keys are left
abbrev pub has_next : Bound → List Slot → Bool
has_next cursor ss = not (is_end cursor) && list_any is_free ss

-- ---- where no slot is loose: `later` are the same slots

pub may_next : (c : ℕ) (cursor : Bound) (ss later : List Slot) (b : Bool) → list_any is_loose ss ≡ false → later ≡ hold_loose c ss → b ≡ has_next cursor later
    → b ≡ may_claim (plan_of cursor ss c)
may_next c cursor ss later b none same is = rw none (is ∙ ap (λ (t : List Slot). has_next cursor t) (same ∙ hold_loose-none c ss none))

pub slots_next : (c : ℕ) (cursor : Bound) (ss later new : List Slot) (ks : List KeyView) (b : Bool) → list_any is_loose ss ≡ false → later ≡ hold_loose c ss
    → new ≡ (if b then hold_free c (record { after = cursor; upto = next_bound cursor ks }) later else later)
    → new ≡ (if b then (claimed c ks (plan_of cursor ss c)).slots else ss)
slots_next c cursor ss later new ks b none same is =
    rw none
    (is
    ∙ ap (λ (t : List Slot). if b then hold_free c (record { after = cursor; upto = next_bound cursor ks }) t else t) (same ∙ hold_loose-none c ss none))

-- ---- the whole plan

abbrev pub seen : List Migration → ℕ → Bound → List Slot → ℕ → MigrationsView
seen items limit cursor slots last = record { items = items; plan = plan_of cursor slots last; limit = limit }

last_is : (c : ℕ) (b : Bool) (p q : Plan) → p.last ≡ c → q.last ≡ c → (if b then p else q).last ≡ c
last_is c true p q g h = g
last_is c false p q g h = h

claimed_last : (c : ℕ) (ks : List KeyView) (p : Plan) → (claimed c ks p).last ≡ c
claimed_last c ks p =
    last_is c (list_any is_loose p.slots) (record p { slots = hold_loose c p.slots; last = c })
    (record p { cursor = next_bound p.cursor ks; slots = hold_free c (record { after = p.cursor; upto = next_bound p.cursor ks }) p.slots; last = c }) refl refl

pub takes : (items : List Migration) (limit last : ℕ) (cursor : Bound) (ss : List Slot) (b : Bool) → is_some (running items) ≡ true → b ≡ may_claim (plan_of cursor ss (last + 1))
    → b ≡ takes_claim (seen items limit cursor ss last)
takes items limit last cursor ss b run is = rw run is

pub taken : (items : List Migration) (limit last : ℕ) (cursor bound : Bound) (ss slots : List Slot) (rows : List Row) → is_some (running items) ≡ true → true ≡ may_claim (plan_of cursor ss (last + 1))
    → bound ≡ (claimed (last + 1) (keys rows) (plan_of cursor ss (last + 1))).cursor → slots ≡ (claimed (last + 1) (keys rows) (plan_of cursor ss (last + 1))).slots
    → seen items limit bound slots (last + 1) ≡ after_claim rows (seen items limit cursor ss last)
taken items limit last cursor bound ss slots rows run may at held =
    let room : may_claim (plan_of cursor ss (last + 1)) ≡ true = sym may in
    let p : Plan = claimed (last + 1) (keys rows) (plan_of cursor ss (last + 1)) in
    rw (run, room)
    (ap (λ (b : Bound). seen items limit b slots (last + 1)) at
    ∙ ap (λ (t : List Slot). seen items limit p.cursor t (last + 1)) held
    ∙ ap (λ (n : ℕ). seen items limit p.cursor p.slots n) (sym (claimed_last (last + 1) (keys rows) (plan_of cursor ss (last + 1)))))

pub untaken : (items : List Migration) (limit last : ℕ) (cursor bound : Bound) (ss slots : List Slot) (rows : List Row) → is_some (running items) ≡ true → false ≡ may_claim (plan_of cursor ss (last + 1))
    → bound ≡ cursor → slots ≡ ss → seen items limit bound slots last ≡ after_claim rows (seen items limit cursor ss last)
untaken items limit last cursor bound ss slots rows run may at held =
    let none : may_claim (plan_of cursor ss (last + 1)) ≡ false = sym may in
    rw (run, none) (ap (λ (b : Bound). seen items limit b slots last) at ∙ ap (λ (t : List Slot). seen items limit cursor t last) held)

-- ---- where a migration is marked

ended-idle : (c : Condition) (ms : List Migration) → running ms ≡ None → ended c ms ≡ ms
ended-idle c [] h = refl
ended-idle c (m ∷ ms) h = by (runs m.condition) h (ended-idle c ms)
  where
    by : (b : Bool) → (if b then Some m else running ms) ≡ None → (running ms ≡ None → ended c ms ≡ ms) → (if b then record m { condition = c } else m) ∷ ended c ms ≡ m ∷ ms
    by true h more = cc
    by false h more = ap (λ (t : List Migration). m ∷ t) (more h)

pub marked : (items : List Migration) (limit last : ℕ) (cursor : Bound) (ss : List Slot) → is_done (plan_of cursor ss last) ≡ true
    → seen (ended Succeeded items) limit cursor ss last ≡ after_mark (seen items limit cursor ss last)
marked items limit last cursor ss done = by (running items) refl
  where
    by : (o : Option Migration) → running items ≡ o → seen (ended Succeeded items) limit cursor ss last ≡ after_mark (seen items limit cursor ss last)
    by None is = rw is (ap (λ (t : List Migration). seen t limit cursor ss last) (ended-idle Succeeded items is))
    by (Some m) is = rw (is, done) refl

-- ---- where a key is passed

pub passed_on : (w : Option ℕ) (c : ℕ) (k : KeyView) (v : MigrationsView) → w ≡ Some c → IsInWork k (work_of w v) → record v { plan = pass_key c k v.plan } ≡ after_pass (work_of w v) k v
passed_on None c k v is h = cc
passed_on (Some d) c k v is h = under (running v.items) h
  where
    same : c ≡ d
    same = cc

    inside : (t : ℕ) (r : Option Span) → IsInWork k (work_in d t r) → record v { plan = pass_key c k v.plan } ≡ after_pass (work_in d t r) k v
    inside t None h = absurd h
    inside t (Some r) h = ap (λ (n : ℕ). record v { plan = pass_key n k v.plan }) same

    under : (o : Option Migration) → IsInWork k (work_under o d v.plan.slots) → record v { plan = pass_key c k v.plan } ≡ after_pass (work_under o d v.plan.slots) k v
    under None h = absurd h
    under (Some m) h = inside m.target (span_of d v.plan.slots) h

-- ---- what a call finds, and what it leaves

pub copied_is_some : {A : Type 0} (o : Option (Bor A)) (p : Option A) → option_copied o ≡ p → is_some o ≡ is_some p
copied_is_some None p h = ap is_some h
copied_is_some (Some x) p h = ap is_some h

pub given_back : (w : Option ℕ) (c : ℕ) (v : MigrationsView) → w ≡ Some c → is_some (running v.items) ≡ true → is_some (span_of c v.plan.slots) ≡ true
    → record v { plan = give_back c v.plan } ≡ after_give_back (work_of w v) v
given_back w c v is run held = under (running v.items) run ∙ ap (λ (o : Option ℕ). after_give_back (work_of o v) v) (sym is)
  where
    inside : (t : ℕ) (r : Option Span) → is_some r ≡ true → record v { plan = give_back c v.plan } ≡ after_give_back (work_in c t r) v
    inside t None h = cc
    inside t (Some r) h = refl

    under : (o : Option Migration) → is_some o ≡ true → record v { plan = give_back c v.plan } ≡ after_give_back (work_under o c v.plan.slots) v
    under None h = cc
    under (Some m) h = inside m.target (span_of c v.plan.slots) held

pub advanced : (w : Option ℕ) (c : ℕ) (m : Migration) (r : Span) (v : MigrationsView) (rows : List Row) → w ≡ Some c → Some m ≡ running v.items → Some r ≡ span_of c v.plan.slots
    → elsewhere r m.target rows ≡ None → record v { plan = free_slot c v.plan } ≡ after_advance (work_of w v) rows v
advanced w c m r v rows is run held none =
    ap (λ (o : Option Row). after_step c o v) (sym none)
    ∙ ap (λ (o : Option Span). after_advance (work_in c m.target o) rows v) held
    ∙ ap (λ (o : Option Migration). after_advance (work_under o c v.plan.slots) rows v) run
    ∙ ap (λ (o : Option ℕ). after_advance (work_of o v) rows v) (sym is)

pub failed : (items : List Migration) (limit last : ℕ) (cursor : Bound) (ss : List Slot) → is_some (running items) ≡ true
    → seen (ended Failed items) limit Start (replicate slot_count Free) last ≡ after_fail (seen items limit cursor ss last)
failed items limit last cursor ss run = by (running items) run
  where
    by : (o : Option Migration) → is_some o ≡ true
        → seen (ended Failed items) limit Start (replicate slot_count Free) last ≡ record { items = ended Failed items; plan = stopped o (plan_of cursor ss last); limit = limit }
    by None h = cc
    by (Some m) h = refl
