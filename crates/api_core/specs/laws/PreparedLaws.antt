-- Laws of what a worker was told to prepare: it stays the first of its claim's range that stands elsewhere, along every legal list, until it is written or the claim is lost.
use Rattle.std.specs.Prelude.{◌≡◌, ◌≢◌, ◌⊎◌, ℕ, ◌+◌, ◌≤◌, Bool, true, false, not, ◌&&◌, List, [], ◌∷◌, ◌++◌, Option, None, Some, nat_eq, replicate, if◌then◌else◌}
use Rattle.std.proofs.Common.{refl, ap, ◌∙◌, sym, subst, inl, inr, arith, eq-eqb}
use Rattle.std.proofs.lemmas.Bool.{cases_lt}
use Rattle.std.specs.Ordering.{match_ordering}
use Rattle.std.specs.declared.cmp.Ordering.{Ordering}
use Rattle.std.specs.declared.cmp.Ordering.TheVariants.{Less, Equal, Greater}
use Rattle.kube_meta.specs.Key.{KeyView, key_cmp}
use Rattle.kube_meta.specs.Plan.{Span, Slot, Free, Held, Loose, Plan, Migration, After, in_span, span_of, changed, claimed, cleared, stopped, pass_key, slot_count, running}
use Rattle.kube_meta.specs.declared.limits.Limits.{Limits}
use Rattle.kube_meta.specs.declared.limits.Condition.TheVariants.{Succeeded, Failed}
use Rattle.api_calls.specs.Meaning.{Meaning}
use Rattle.api_calls.specs.Item.{Create, Replace, Mark, Release, Touch, Delete, SetVersions, Trim, StartMigration, MarkSucceeded, Claim, RangeDone, GiveBack, Item, entry, note}
use Rattle.api_calls.specs.Named.{IsNamed, Spares}
use Rattle.api_calls.specs.Objects.{Stored, find, put, without, updated, moved, marked_at, elsewhere, keys, born_or}
use Rattle.api_calls.specs.State.{State, target_of, moved_storage, effect, number_after, number_from, opening, state_from, state}
use Rattle.api_calls.specs.Legal.{Each, In, MayTouch, IsHeld, guard, legal_from, legal}
use Rattle.api_calls.specs.LegalLists.{IsRising, IsSoundState}
use Rattle.api_calls.specs.Ends.{TurnEnd, touched, missed, says, enters}
use Rattle.api_calls.specs.Work.{Turn, Work, work_in, work_under, work_of, is_ready, ready_turn, touch_decision}
use Rattle.api_calls.specs.inner.WorkGuards.{work_of-held, IsPrepared}
use Rattle.api_calls.proofs.Order.{itself, exact, turned, behind, same_left}
use Rattle.api_calls.proofs.Lists.{each, each-put, each-without, each-updated}
use Rattle.api_calls.proofs.Finds.{find-put, find-put_other, find-none, find-without_other, find-updated_other}
use Rattle.api_calls.proofs.Numbers.{each_self}
use Rattle.api_calls.proofs.Snaps.{in-find}
use Rattle.api_calls.proofs.Standing.{each-elsewhere}
use Rattle.api_calls.proofs.Parts.{state_from-append, legal_from-append}
use Rattle.api_calls.proofs.Sound.{sound-step, sound-from, sound-opening, touch_target, none-ended}
use Rattle.api_core.specs.inner.SlotLaws.{IsOnce, slots_of, number, none-held, some-held, free-slots, span-changed_other, slots-changed, slots-freed, span-claimed, last-claimed, once-claimed, once-fewer}
use Rattle.api_core.specs.laws.KeptLaws.{same_or_not, find-key, object-stays, named-or_spared}

differ : (x v : ℕ) → nat_eq x v ≡ false → x ≢ v
differ x v is same = let equal = eq-eqb x v same in cc

unequal : (x v : ℕ) → x ≢ v → nat_eq x v ≡ false
unequal x v ne = by (nat_eq x v) refl
  where
    by : (b : Bool) → nat_eq x v ≡ b → b ≡ false
    by true is = absurd (ne (number x v is))
    by false is = refl

abbrev answer_of : Turn → TurnEnd
answer_of t = t.decision.answer

-- ---- the work of a claim

work-unheld : (c : ℕ) (s : State) → span_of c s.plan.slots ≡ None → work_of (Some c) s ≡ None
work-unheld c s is = by (running s.migrations)
  where
    by : (o : Option Migration) → work_under o c s.plan.slots ≡ None
    by None = refl
    by (Some q) = ap (work_in c q.target) is

work-idle : (c : ℕ) (s : State) → running s.migrations ≡ None → work_of (Some c) s ≡ None
work-idle c s is = ap (λ (o : Option Migration). work_under o c s.plan.slots) is

-- the work is that of another state with these migrations and this span
work-same : (c : ℕ) (s t : State) → s.migrations ≡ t.migrations → span_of c s.plan.slots ≡ span_of c t.plan.slots → work_of (Some c) s ≡ work_of (Some c) t
work-same c s t migrations span = by (running s.migrations) ∙ ap (λ (ms : List Migration). work_under (running ms) c t.plan.slots) migrations
  where
    by : (o : Option Migration) → work_under o c s.plan.slots ≡ work_under o c t.plan.slots
    by None = refl
    by (Some q) = ap (work_in c q.target) span

work-plan : (c : ℕ) (s : State) (p : Plan) → span_of c p.slots ≡ span_of c s.plan.slots → work_of (Some c) (record s { plan = p }) ≡ work_of (Some c) s
work-plan c s p is = by (running s.migrations)
  where
    by : (o : Option Migration) → work_under o c p.slots ≡ work_under o c s.plan.slots
    by None = refl
    by (Some q) = ap (work_in c q.target) is

-- a claim's target is the storage version
pub work-storage : (c : Option ℕ) (s : State) (w : Work) → IsSoundState s → work_of c s ≡ Some w → w.target ≡ s.flags.storage
work-storage c s w sound is = let held = work_of-held c s w is in sym held.target ∙ (sound.plan held.held.migration held.held.runs).target

work-held : (c : ℕ) (s : State) (h : IsHeld c s) → work_of (Some c) s ≡ Some (record { claim = c; span = h.span; target = h.migration.target })
work-held c s h = ap (λ (o : Option Migration). work_under o c s.plan.slots) h.runs ∙ ap (work_in c h.migration.target) h.held

-- ---- the first that stands elsewhere

-- no object of a span that stands elsewhere has a key before this one
abbrev IsLeast : Span → ℕ → KeyView → List Stored → Type 0
IsLeast r v k es = Each (λ f. in_span r f.key ≡ true → f.at ≢ v → key_cmp f.key k ≢ Less) es

-- an object of the span that stands elsewhere, before which there is none, is the first
first-is : (r : Span) (v : ℕ) (k : KeyView) (es : List Stored) (e : Stored) → find k es ≡ Some e → in_span r k ≡ true → e.at ≢ v → IsLeast r v k es → elsewhere r v es ≡ Some e
first-is r v k [] e there inside away least = cc
first-is r v k (f ∷ es) e there inside away least =
    by (key_cmp k f.key) refl (in_span r f.key) refl (nat_eq f.at v) refl there (λ found. first-is r v k es e found inside away least.1)
  where
    by : (o : Ordering) → key_cmp k f.key ≡ o → (a : Bool) → in_span r f.key ≡ a → (b : Bool) → nat_eq f.at v ≡ b → match_ordering o None (Some f) (find k es) ≡ Some e
        → (find k es ≡ Some e → elsewhere r v es ≡ Some e) → (if a && not b then Some f else elsewhere r v es) ≡ Some e
    by Less is a is_a b is_b there more = cc
    by Equal is true is_a true is_b there more = let same : f ≡ e = cc in absurd (away (ap (λ (g : Stored). g.at) (sym same) ∙ number f.at v is_b))
    by Equal is true is_a false is_b there more = there
    by Equal is false is_a b is_b there more = let both : true ≡ false = sym inside ∙ ap (in_span r) (exact k f.key is) ∙ is_a in cc
    by Greater is true is_a true is_b there more = more there
    by Greater is true is_a false is_b there more = absurd (least.0 is_a (differ f.at v is_b) (turned k f.key is))
    by Greater is false is_a b is_b there more = more there

-- before the first there is none
first-least : (r : Span) (v : ℕ) (es : List Stored) (e : Stored) → IsRising es → elsewhere r v es ≡ Some e → IsLeast r v e.key es
first-least r v [] e rising is = tt
first-least r v (f ∷ es) e rising is = by (in_span r f.key) refl (nat_eq f.at v) refl is (first-least r v es e rising.1)
  where
    here : f ≡ e → IsLeast r v e.key (f ∷ es)
    here same =
        subst (λ (g : Stored). IsLeast r v g.key (f ∷ es)) same (
          (λ ins far less. let one = itself f.key in cc),
          each (λ g. key_cmp f.key g.key ≡ Less) (λ g. in_span r g.key ≡ true → g.at ≢ v → key_cmp g.key f.key ≢ Less) es rising.0
              (λ g after ins far less. let back = behind f.key g.key after in cc),
        )

    by : (a : Bool) → in_span r f.key ≡ a → (b : Bool) → nat_eq f.at v ≡ b → (if a && not b then Some f else elsewhere r v es) ≡ Some e
        → (elsewhere r v es ≡ Some e → IsLeast r v e.key es) → IsLeast r v e.key (f ∷ es)
    by true is_a false is_b is more = here (let same : f ≡ e = cc in same)
    by true is_a true is_b is more = ((λ ins far less. far (number f.at v is_b)), more is)
    by false is_a b is_b is more = ((λ ins far less. let both : true ≡ false = sym ins ∙ is_a in cc), more is)

-- ---- the claim's key, in a state

-- where the claim is held and the key's object stands elsewhere than at v, the key is in the claim's span, and before it nothing of the span stands elsewhere
abbrev IsAhead : ℕ → KeyView → ℕ → State → Type 0
IsAhead c k v s = (w : Work) → work_of (Some c) s ≡ Some w → (e : Stored) → find k s.objects ≡ Some e → e.at ≢ v → (in_span w.span k ≡ true) × IsLeast w.span v k s.objects

-- where the claim is held, the storage version is this one
abbrev IsHeldAt : ℕ → ℕ → State → Type 0
IsHeldAt c t s = (w : Work) → work_of (Some c) s ≡ Some w → s.flags.storage ≡ t

record KeepsNext (c : ℕ) (k : KeyView) (t : ℕ) (s : State) : Type 0 where
  claim : c ≤ s.plan.last
  once : IsOnce c s.plan
  ahead : IsAhead c k s.flags.storage s
  storage : IsHeldAt c t s

module _ (c : ℕ) (k : KeyView) (t : ℕ) where
  storage-unheld : (s : State) → work_of (Some c) s ≡ None → IsHeldAt c t s
  storage-unheld s none w held = let both : None ≡ Some w = sym none ∙ held in cc

  storage-plan : (s : State) (p : Plan) → span_of c p.slots ≡ span_of c s.plan.slots → IsHeldAt c t s → IsHeldAt c t (record s { plan = p })
  storage-plan s p same h w held = h w (sym (work-plan c s p same) ∙ held)

  ahead-unheld : (v : ℕ) (s : State) → work_of (Some c) s ≡ None → IsAhead c k v s
  ahead-unheld v s none w held e there away = let both : None ≡ Some w = sym none ∙ held in cc

  ahead-put : (x : Stored) (s : State) → x.at ≡ s.flags.storage → IsAhead c k s.flags.storage s → IsAhead c k s.flags.storage (record s { objects = put x s.objects })
  ahead-put x s at h w held e there away = by (same_or_not k x.key)
    where
      by : (k ≡ x.key) ⊎ (k ≢ x.key) → (in_span w.span k ≡ true) × IsLeast w.span s.flags.storage k (put x s.objects)
      by (inl same) =
          let found : find k (put x s.objects) ≡ Some x = ap (λ (q : KeyView). find q (put x s.objects)) same ∙ find-put x s.objects in
          let both : Some x ≡ Some e = sym found ∙ there in
          let one : x ≡ e = cc in
          absurd (away (ap (λ (g : Stored). g.at) (sym one) ∙ at))
      by (inr other) =
          let old = h w (work-same c s (record s { objects = put x s.objects }) refl refl ∙ held) e (sym (find-put_other k x s.objects other) ∙ there) away in
          (old.0, each-put (λ f. in_span w.span f.key ≡ true → f.at ≢ s.flags.storage → key_cmp f.key k ≢ Less) x s.objects (λ ins far. absurd (far at)) old.1)

  -- what is found after a change of the key's object stands where the change puts it
  found-updated : (f : Stored → Stored) (v : ℕ) (es : List Stored) (e : Stored) → ((g : Stored) → (f g).key ≡ g.key) → ((g : Stored) → (f g).at ≡ v) → find k (updated f k es) ≡ Some e → e.at ≡ v
  found-updated f v [] e key at is = cc
  found-updated f v (g ∷ es) e key at is = by (key_cmp k g.key) refl is (found-updated f v es e key at)
    where
      by : (o : Ordering) → key_cmp k g.key ≡ o → find k (match_ordering o (g ∷ es) (f g ∷ es) (g ∷ updated f k es)) ≡ Some e
          → (find k (updated f k es) ≡ Some e → e.at ≡ v) → e.at ≡ v
      by Less o is more =
          let none : find k (g ∷ es) ≡ None = ap (λ (q : Ordering). match_ordering q None (Some g) (find k es)) o in
          let both : None ≡ Some e = sym none ∙ is in cc
      by Equal o is more =
          let here : find k (f g ∷ es) ≡ Some (f g) = ap (λ (q : Ordering). match_ordering q None (Some (f g)) (find k es)) (ap (key_cmp k) (key g) ∙ o) in
          let both : Some (f g) ≡ Some e = sym here ∙ is in
          let one : f g ≡ e = cc in
          ap (λ (q : Stored). q.at) (sym one) ∙ at g
      by Greater o is more =
          let later : find k (g ∷ updated f k es) ≡ find k (updated f k es) = ap (λ (q : Ordering). match_ordering q None (Some g) (find k (updated f k es))) o in
          more (sym later ∙ is)

  ahead-updated : (f : Stored → Stored) (j : KeyView) (s : State) → ((g : Stored) → (f g).key ≡ g.key) → ((g : Stored) → (f g).at ≡ s.flags.storage) → IsAhead c k s.flags.storage s
      → IsAhead c k s.flags.storage (record s { objects = updated f j s.objects })
  ahead-updated f j s key at h w held e there away = by (same_or_not k j)
    where
      by : (k ≡ j) ⊎ (k ≢ j) → (in_span w.span k ≡ true) × IsLeast w.span s.flags.storage k (updated f j s.objects)
      by (inl same) =
          absurd (away (found-updated f s.flags.storage s.objects e key at (ap (λ (q : KeyView). find k (updated f q s.objects)) same ∙ there)))
      by (inr other) =
          let old = h w (work-same c s (record s { objects = updated f j s.objects }) refl refl ∙ held) e (sym (find-updated_other f k j s.objects key other) ∙ there) away in
          (old.0, each-updated (λ g. in_span w.span g.key ≡ true → g.at ≢ s.flags.storage → key_cmp g.key k ≢ Less) f j s.objects (λ g p ins far. absurd (far (at g))) old.1)

  gone : (es : List Stored) → IsRising es → find k (without k es) ≡ None
  gone [] rising = refl
  gone (g ∷ es) rising = by (key_cmp k g.key) refl (gone es rising.1)
    where
      by : (o : Ordering) → key_cmp k g.key ≡ o → find k (without k es) ≡ None → find k (match_ordering o (g ∷ es) es (g ∷ without k es)) ≡ None
      by Less o more = ap (λ (q : Ordering). match_ordering q None (Some g) (find k es)) o
      by Equal o more = find-none k es (each (λ f. key_cmp g.key f.key ≡ Less) (λ f. key_cmp k f.key ≡ Less) es rising.0 (λ f less. same_left k g.key f.key o less))
      by Greater o more = ap (λ (q : Ordering). match_ordering q None (Some g) (find k (without k es))) o ∙ more

  ahead-without : (j : KeyView) (s : State) → IsSoundState s → IsAhead c k s.flags.storage s → IsAhead c k s.flags.storage (record s { objects = without j s.objects })
  ahead-without j s sound h w held e there away = by (same_or_not k j)
    where
      by : (k ≡ j) ⊎ (k ≢ j) → (in_span w.span k ≡ true) × IsLeast w.span s.flags.storage k (without j s.objects)
      by (inl same) =
          let none : find k (without j s.objects) ≡ None = ap (λ (q : KeyView). find k (without q s.objects)) (sym same) ∙ gone s.objects sound.rising in
          let both : None ≡ Some e = sym none ∙ there in cc
      by (inr other) =
          let old = h w (work-same c s (record s { objects = without j s.objects }) refl refl ∙ held) e (sym (find-without_other k j s.objects sound.rising other) ∙ there) away in
          (old.0, each-without (λ g. in_span w.span g.key ≡ true → g.at ≢ s.flags.storage → key_cmp g.key k ≢ Less) j s.objects old.1)

  ahead-plan : (v : ℕ) (s : State) (p : Plan) → span_of c p.slots ≡ span_of c s.plan.slots → IsAhead c k v s → IsAhead c k v (record s { plan = p })
  ahead-plan v s p same h w held e there away = h w (sym (work-plan c s p same) ∙ held) e there away

  -- ---- a touch

  -- by the claim itself none but the key's object is touched, while that stands elsewhere
  touched-first : (j : KeyView) (s : State) → MayTouch j c s → IsSoundState s → IsAhead c k s.flags.storage s → (e : Stored) → find k s.objects ≡ Some e → e.at ≢ s.flags.storage → k ≡ j
  touched-first j s g sound h e there away =
      let target = (sound.plan g.claim.migration g.claim.runs).target in
      let old = h (record { claim = c; span = g.claim.span; target = g.claim.migration.target }) (work-held c s g.claim) e there away in
      let first = first-is g.claim.span s.flags.storage k s.objects e there old.0 away old.1 in
      let told : elsewhere g.claim.span s.flags.storage s.objects ≡ Some g.first =
      subst (λ (t : ℕ). elsewhere g.claim.span t s.objects ≡ Some g.first) target g.is_first in
      let both : Some e ≡ Some g.first = sym first ∙ told in
      let one : e ≡ g.first = cc in
      sym (find-key k s.objects e there) ∙ ap (λ (f : Stored). f.key) one ∙ g.under

  ahead-touch : (n : ℕ) (j : KeyView) (d : ℕ) (s : State) → MayTouch j d s → IsSoundState s → IsAhead c k s.flags.storage s
      → IsAhead c k s.flags.storage (record s { objects = updated (moved n (target_of s)) j s.objects; plan = pass_key d j s.plan })
  ahead-touch n j d s g sound h w held e there away = by (same_or_not k j) (nat_eq d c) refl
    where
      key : (f : Stored) → (moved n (target_of s) f).key ≡ f.key
      key f = refl

      at : (f : Stored) → (moved n (target_of s) f).at ≡ s.flags.storage
      at f = touch_target s sound

      by : (k ≡ j) ⊎ (k ≢ j) → (b : Bool) → nat_eq d c ≡ b → (in_span w.span k ≡ true) × IsLeast w.span s.flags.storage k (updated (moved n (target_of s)) j s.objects)
      by (inl same) b is =
          absurd (away (found-updated (moved n (target_of s)) s.flags.storage s.objects e key at
          (ap (λ (q : KeyView). find k (updated (moved n (target_of s)) q s.objects)) same ∙ there)))
      by (inr other) true is =
          let found = sym (find-updated_other (moved n (target_of s)) k j s.objects key other) ∙ there in
          let mine : MayTouch j c s = subst (λ (x : ℕ). MayTouch j x s) (number d c is) g in
          absurd (other (touched-first j s mine sound h e found away))
      by (inr other) false is =
          let same : span_of c (pass_key d j s.plan).slots ≡ span_of c s.plan.slots =
          span-changed_other (λ r. Held d (record r { after = After j })) d c s.plan.slots is
          (λ r ts. ap (λ (b : Bool). if b then Some (record r { after = After j }) else span_of c ts) is) in
          ahead-plan s.flags.storage (record s { objects = updated (moved n (target_of s)) j s.objects }) (pass_key d j s.plan) same
          (ahead-updated (moved n (target_of s)) j s key at h) w held e there away

  -- ---- every item

  keeps-objects : (s : State) (es : List Stored) → IsAhead c k s.flags.storage (record s { objects = es }) → KeepsNext c k t s → KeepsNext c k t (record s { objects = es })
  keeps-objects s es ahead h = record { claim = h.claim; once = h.once; ahead = ahead; storage = λ w held. h.storage w (work-same c s (record s { objects = es }) refl refl ∙ held) }

  -- a slot of the claim d became one that holds none
  keeps-freed : (f : Span → Slot) (d : ℕ) (s : State) → ((r : Span) (ts : List Slot) → span_of c (f r ∷ ts) ≡ span_of c ts) → ((r : Span) (ts : List Slot) → slots_of c (f r ∷ ts) ≡ slots_of c ts)
      → IsHeld d s → KeepsNext c k t s → KeepsNext c k t (record s { plan = record s.plan { slots = changed f d s.plan.slots } })
  keeps-freed f d s skips uncounted g h = record {
    claim = h.claim;
    once = once-fewer c s.plan (changed f d s.plan.slots)
        (slots-changed f d c s.plan.slots (λ r ts. let same = uncounted r ts in omega (arith, same))) h.once;
    ahead = by (nat_eq d c) refl;
    storage = stays (nat_eq d c) refl;
  }
    where
      unheld : nat_eq d c ≡ true → work_of (Some c) (record s { plan = record s.plan { slots = changed f d s.plan.slots } }) ≡ None
      unheld is =
          let mine : IsHeld c s = subst (λ (x : ℕ). IsHeld x s) (number d c is) g in
          let none : slots_of c (changed f d s.plan.slots) ≡ 0 =
          subst (λ (x : ℕ). slots_of c (changed f x s.plan.slots) ≡ 0) (sym (number d c is)) (slots-freed f c s.plan.slots mine.span mine.held h.once.once uncounted) in
          work-unheld c (record s { plan = record s.plan { slots = changed f d s.plan.slots } }) (none-held c (changed f d s.plan.slots) none)

      stays : (b : Bool) → nat_eq d c ≡ b → IsHeldAt c t (record s { plan = record s.plan { slots = changed f d s.plan.slots } })
      stays true is = storage-unheld (record s { plan = record s.plan { slots = changed f d s.plan.slots } }) (unheld is)
      stays false is = storage-plan s (record s.plan { slots = changed f d s.plan.slots }) (span-changed_other f d c s.plan.slots is skips) h.storage

      by : (b : Bool) → nat_eq d c ≡ b → IsAhead c k s.flags.storage (record s { plan = record s.plan { slots = changed f d s.plan.slots } })
      by true is = ahead-unheld s.flags.storage (record s { plan = record s.plan { slots = changed f d s.plan.slots } }) (unheld is)
      by false is =
          ahead-plan s.flags.storage s (record s.plan { slots = changed f d s.plan.slots }) (span-changed_other f d c s.plan.slots is skips) h.ahead

  once-cleared : (p : Plan) → IsOnce c (cleared p)
  once-cleared p = record {
    once = (let none = free-slots c slot_count in omega (arith, none));
    fresh = λ less. free-slots c slot_count;
  }

  unheld-cleared : (p : Plan) → span_of c (cleared p).slots ≡ None
  unheld-cleared p = none-held c (replicate slot_count Free) (free-slots c slot_count)

  last-stopped : (o : Option Migration) (p : Plan) → (stopped o p).last ≡ p.last
  last-stopped None p = refl
  last-stopped (Some q) p = refl

  once-stopped : (o : Option Migration) (p : Plan) → IsOnce c p → IsOnce c (stopped o p)
  once-stopped None p h = h
  once-stopped (Some q) p h = once-cleared p

  keeps-step : (m : Meaning) (limits : Limits) (n : ℕ) (i : Item) (s : State) → guard m limits s i → IsSoundState s → KeepsNext c k t s → KeepsNext c k t (effect n i s)
  keeps-step m limits n (entry (Create j h w)) s g sound keeps =
      let x : Stored = record { key = j; h = h; number = n; at = s.flags.storage; born = n; weight = w } in
      keeps-objects s (put (record { key = j; h = h; number = n; at = s.flags.storage; born = n; weight = w }) s.objects)
      (ahead-put (record { key = j; h = h; number = n; at = s.flags.storage; born = n; weight = w }) s refl keeps.ahead) keeps
  keeps-step m limits n (entry (Replace j over h w)) s g sound keeps =
      keeps-objects s (put (record { key = j; h = h; number = n; at = s.flags.storage; born = born_or (find j s.objects) n; weight = w }) s.objects)
      (ahead-put (record { key = j; h = h; number = n; at = s.flags.storage; born = born_or (find j s.objects) n; weight = w }) s refl keeps.ahead) keeps
  keeps-step m limits n (entry (Mark j over stamp)) s g sound keeps =
      keeps-objects s (updated (marked_at n s.flags.storage stamp) j s.objects)
      (ahead-updated (marked_at n s.flags.storage stamp) j s (λ e. refl) (λ e. refl) keeps.ahead) keeps
  keeps-step m limits n (entry (Release j over)) s g sound keeps = keeps-objects s (without j s.objects) (ahead-without j s sound keeps.ahead) keeps
  keeps-step m limits n (entry (Touch j d)) s g sound keeps = record {
    claim = keeps.claim;
    once = once-fewer c s.plan (changed (λ r. Held d (record r { after = After j })) d s.plan.slots)
        (slots-changed (λ r. Held d (record r { after = After j })) d c s.plan.slots (λ r ts. omega arith)) keeps.once;
    ahead = ahead-touch n j d s g sound keeps.ahead;
    storage = by (nat_eq d c) refl;
  }
    where
      by : (b : Bool) → nat_eq d c ≡ b → IsHeldAt c t (effect n (entry (Touch j d)) s)
      by true is =
          let mine : MayTouch j c s = subst (λ (x : ℕ). MayTouch j x s) (number d c is) g in
          λ w held. keeps.storage (record { claim = c; span = mine.claim.span; target = mine.claim.migration.target }) (work-held c s mine.claim)
      by false is =
          storage-plan (record s { objects = updated (moved n (target_of s)) j s.objects }) (pass_key d j s.plan)
          (span-changed_other (λ r. Held d (record r { after = After j })) d c s.plan.slots is
          (λ r ts. ap (λ (b : Bool). if b then Some (record r { after = After j }) else span_of c ts) is)) (λ w held. keeps.storage w (work-same c s (record s { objects = updated (moved n (target_of s)) j s.objects }) refl refl ∙ held))
  keeps-step m limits n (entry (Delete j)) s g sound keeps = keeps-objects s (without j s.objects) (ahead-without j s sound keeps.ahead) keeps
  keeps-step m limits n (entry (SetVersions f)) s g sound keeps = by (nat_eq f.storage s.flags.storage) refl
    where
      by : (b : Bool) → nat_eq f.storage s.flags.storage ≡ b → KeepsNext c k t (if b then record s { flags = f } else moved_storage f s)
      by true is = record {
        claim = keeps.claim;
        once = keeps.once;
        ahead = subst (λ (v : ℕ). IsAhead c k v (record s { flags = f })) (sym (number f.storage s.flags.storage is)) (λ w held e there away. keeps.ahead w (work-same c s (record s { flags = f }) refl refl ∙ held) e there away);
        storage = λ w held. number f.storage s.flags.storage is ∙ keeps.storage w (work-same c s (record s { flags = f }) refl refl ∙ held);
      }
      by false is = record {
        claim = subst (λ (x : ℕ). c ≤ x) (sym (last-stopped (running s.migrations) s.plan)) keeps.claim;
        once = once-stopped (running s.migrations) s.plan keeps.once;
        ahead = ahead-unheld f.storage (moved_storage f s) (work-idle c (moved_storage f s) (none-ended Failed s.migrations refl));
        storage = storage-unheld (moved_storage f s) (work-idle c (moved_storage f s) (none-ended Failed s.migrations refl));
      }
  keeps-step m limits n (entry (Trim keep)) s g sound keeps = record {
    claim = keeps.claim;
    once = keeps.once;
    ahead = λ w held e there away. keeps.ahead w (work-same c s (record s { stored = keep }) refl refl ∙ held) e there away;
    storage = λ w held. keeps.storage w (work-same c s (record s { stored = keep }) refl refl ∙ held);
  }
  keeps-step m limits n (entry (StartMigration name)) s g sound keeps = record {
    claim = keeps.claim;
    once = once-cleared s.plan;
    ahead = ahead-unheld s.flags.storage (effect n (entry (StartMigration name)) s) (work-unheld c (effect n (entry (StartMigration name)) s) (unheld-cleared s.plan));
    storage = storage-unheld (effect n (entry (StartMigration name)) s) (work-unheld c (effect n (entry (StartMigration name)) s) (unheld-cleared s.plan));
  }
  keeps-step m limits n (entry MarkSucceeded) s g sound keeps = record {
    claim = keeps.claim;
    once = keeps.once;
    ahead = ahead-unheld s.flags.storage (effect n (entry MarkSucceeded) s) (work-idle c (effect n (entry MarkSucceeded) s) (none-ended Succeeded s.migrations refl));
    storage = storage-unheld (effect n (entry MarkSucceeded) s) (work-idle c (effect n (entry MarkSucceeded) s) (none-ended Succeeded s.migrations refl));
  }
  keeps-step m limits n (note (Claim d)) s g sound keeps = record {
    claim = (let next = g.next in let last = last-claimed d (keys s.objects) s.plan in let was = keeps.claim in omega (arith, next, last, was));
    once = once-claimed d c (keys s.objects) s.plan g.next keeps.once;
    ahead = ahead-plan s.flags.storage s (claimed d (keys s.objects) s.plan) (span-claimed d c (keys s.objects) s.plan other) keeps.ahead;
    storage = storage-plan s (claimed d (keys s.objects) s.plan) (span-claimed d c (keys s.objects) s.plan other) keeps.storage;
  }
    where
      by : (b : Bool) → nat_eq d c ≡ b → b ≡ false
      by true is = let same = number d c is in let next = g.next in let was = keeps.claim in absurd (omega (arith, same, next, was))
      by false is = refl

      other : nat_eq d c ≡ false
      other = by (nat_eq d c) refl
  keeps-step m limits n (note (RangeDone d)) s g sound keeps = keeps-freed (λ r. Free) d s (λ r ts. refl) (λ r ts. refl) g.claim keeps
  keeps-step m limits n (note (GiveBack d)) s g sound keeps = keeps-freed (λ r. Loose r) d s (λ r ts. refl) (λ r ts. refl) g keeps

  keeps-from : (m : Meaning) (limits : Limits) (n : ℕ) (s : State) (log : List Item) → legal_from m limits n s log → IsSoundState s → KeepsNext c k t s → KeepsNext c k t (state_from n s log)
  keeps-from m limits n s [] l sound keeps = keeps
  keeps-from m limits n s (i ∷ log) l sound keeps =
      keeps-from m limits (number_after n i) (effect n i s) log l.1 (sound-step m limits n i s l.0 sound) (keeps-step m limits n i s l.0 sound keeps)

-- ---- each claim is in one slot

once-step : (c : ℕ) (m : Meaning) (limits : Limits) (n : ℕ) (i : Item) (s : State) → guard m limits s i → IsOnce c s.plan → IsOnce c (effect n i s).plan
once-step c m limits n (entry (Create k h w)) s g once = once
once-step c m limits n (entry (Replace k over h w)) s g once = once
once-step c m limits n (entry (Mark k over stamp)) s g once = once
once-step c m limits n (entry (Release k over)) s g once = once
once-step c m limits n (entry (Touch k d)) s g once =
    once-fewer c s.plan (changed (λ r. Held d (record r { after = After k })) d s.plan.slots)
    (slots-changed (λ r. Held d (record r { after = After k })) d c s.plan.slots (λ r ts. omega arith)) once
once-step c m limits n (entry (Delete k)) s g once = once
once-step c m limits n (entry (SetVersions f)) s g once = by (nat_eq f.storage s.flags.storage) (running s.migrations)
  where
    none : slots_of c (replicate slot_count Free) ≡ 0
    none = free-slots c slot_count

    stop : (o : Option Migration) → IsOnce c (stopped o s.plan)
    stop None = once
    stop (Some q) = record { once = omega (arith, none); fresh = λ less. none }

    by : (b : Bool) (o : Option Migration) → IsOnce c (if b then record s { flags = f } else moved_storage f s).plan
    by true o = once
    by false o = stop (running s.migrations)
once-step c m limits n (entry (Trim keep)) s g once = once
once-step c m limits n (entry (StartMigration name)) s g once =
    let none = free-slots c slot_count in record { once = omega (arith, none); fresh = λ less. free-slots c slot_count }
once-step c m limits n (entry MarkSucceeded) s g once = once
once-step c m limits n (note (Claim d)) s g once = once-claimed d c (keys s.objects) s.plan g.next once
once-step c m limits n (note (RangeDone d)) s g once =
    once-fewer c s.plan (changed (λ r. Free) d s.plan.slots) (slots-changed (λ r. Free) d c s.plan.slots (λ r ts. omega arith)) once
once-step c m limits n (note (GiveBack d)) s g once =
    once-fewer c s.plan (changed (λ r. Loose r) d s.plan.slots) (slots-changed (λ r. Loose r) d c s.plan.slots (λ r ts. omega arith)) once

once-from : (c : ℕ) (m : Meaning) (limits : Limits) (n : ℕ) (s : State) (log : List Item) → legal_from m limits n s log → IsOnce c s.plan → IsOnce c (state_from n s log).plan
once-from c m limits n s [] l once = once
once-from c m limits n s (i ∷ log) l once = once-from c m limits (number_after n i) (effect n i s) log l.1 (once-step c m limits n i s l.0 once)

-- a claim is in one slot at most
pub claims-once : (m : Meaning) (limits : Limits) (log : List Item) (c : ℕ) → legal m limits log → IsOnce c (state m log).plan
claims-once m limits log c l = once-from c m limits 2 (opening m) log l (let none = free-slots c slot_count in record { once = omega (arith, none); fresh = λ less. free-slots c slot_count })

-- ---- the laws

-- a claim that is held was taken
held-taken : (c : ℕ) (s : State) (w : Work) → IsOnce c s.plan → work_of (Some c) s ≡ Some w → c ≤ s.plan.last
held-taken c s w once is =
    let held = work_of-held (Some c) s w is in
    let claim : w.claim ≡ c = work-claim (running s.migrations) is in
    by claim held.held
  where
    with_span : (q : Migration) (o : Option Span) → work_in c q.target o ≡ Some w → w.claim ≡ c
    with_span q None is = cc
    with_span q (Some r) is = let it : record { claim = c; span = r; target = q.target } ≡ w = cc in ap (λ (x : Work). x.claim) (sym it)

    work-claim : (o : Option Migration) → work_under o c s.plan.slots ≡ Some w → w.claim ≡ c
    work-claim None is = cc
    work-claim (Some q) is = with_span q (span_of c s.plan.slots) is

    by : w.claim ≡ c → IsHeld w.claim s → c ≤ s.plan.last
    by claim h =
        let mine : span_of c s.plan.slots ≡ Some h.span = subst (λ (x : ℕ). span_of x s.plan.slots ≡ Some h.span) claim h.held in
        let some = some-held c s.plan.slots h.span mine in
        elim (cases_lt s.plan.last c) [ inl less ↦ (let none = once.fresh less in absurd (omega (arith, some, none))) | inr most ↦ most ]

-- what a worker is told to prepare is the first of its claim's range that stands elsewhere, in the state of that turn
begins : (m : Meaning) (limits : Limits) (log : List Item) (c : ℕ) (k : KeyView) (rv : ℕ) → legal m limits log → IsPrepared (Some c) k rv (state m log)
    → KeepsNext c k (state m log).flags.storage (state m log)
begins m limits log c k rv l p = record {
  claim = held-taken c (state m log) p.work (claims-once m limits log c l) p.held;
  once = claims-once m limits log c l;
  ahead = λ w held e there away. (
      let both : Some p.work ≡ Some w = sym p.held ∙ held in
      let one : p.work ≡ w = cc in
      subst (λ (x : Work). (in_span x.span k ≡ true) × IsLeast x.span (state m log).flags.storage k (state m log).objects) one (p.inside, least)
      );
  storage = λ w held. refl;
}
  where
    sound : IsSoundState (state m log)
    sound = sound-from m limits 2 (opening m) log l (sound-opening m)

    target : p.work.target ≡ (state m log).flags.storage
    target = work-storage (Some c) (state m log) p.work sound p.held

    least : IsLeast p.work.span (state m log).flags.storage k (state m log).objects
    least =
        subst (λ (j : KeyView). IsLeast p.work.span (state m log).flags.storage j (state m log).objects) p.key
        (first-least p.work.span (state m log).flags.storage (state m log).objects p.object sound.rising
        (subst (λ (v : ℕ). elsewhere p.work.span v (state m log).objects ≡ Some p.object) target p.first))

-- what is kept since then
since : (m : Meaning) (limits : Limits) (log more : List Item) (c : ℕ) (k : KeyView) (rv : ℕ) → legal m limits (log ++ more) → IsPrepared (Some c) k rv (state m log)
    → KeepsNext c k (state m log).flags.storage (state m (log ++ more))
since m limits log more c k rv l p =
    let parts = legal_from-append m limits 2 (opening m) log more l in
    let sound = sound-from m limits 2 (opening m) log parts.0 (sound-opening m) in
    subst (KeepsNext c k (state m log).flags.storage) (sym (state_from-append 2 (opening m) log more))
    (keeps-from c k (state m log).flags.storage m limits (number_from 2 log) (state m log) more parts.1 sound (begins m limits log c k rv parts.0 p))

-- What a worker was told to prepare stays the first of its claim's range that stands elsewhere, as long as the claim is
-- held and the object stands elsewhere, whatever else was entered since.
pub stays-first : (m : Meaning) (limits : Limits) (log more : List Item) (c : Option ℕ) (k : KeyView) (rv : ℕ) → legal m limits (log ++ more) → IsPrepared c k rv (state m log)
    → (w : Work) → work_of c (state m (log ++ more)) ≡ Some w → (e : Stored) → find k (state m (log ++ more)).objects ≡ Some e → e.at ≢ w.target
    → elsewhere w.span w.target (state m (log ++ more)).objects ≡ Some e
stays-first m limits log more None k rv l p w held e there away = cc
stays-first m limits log more (Some c) k rv l p w held e there away =
    let keeps = since m limits log more c k rv l p in
    let target = work-storage (Some c) (state m (log ++ more)) w (sound-from m limits 2 (opening m) (log ++ more) l (sound-opening m)) held in
    let ahead = keeps.ahead w held e there (λ at. away (at ∙ sym target)) in
    subst (λ (v : ℕ). elsewhere w.span v (state m (log ++ more)).objects ≡ Some e) (sym target)
    (first-is w.span (state m (log ++ more)).flags.storage k (state m (log ++ more)).objects e there ahead.0 (λ at. away (at ∙ sym target)) ahead.1)

-- as long as the claim is held, its target is the one for which was prepared
pub target-stays : (m : Meaning) (limits : Limits) (log more : List Item) (c : Option ℕ) (k : KeyView) (rv : ℕ) → legal m limits (log ++ more) → (p : IsPrepared c k rv (state m log))
    → (w : Work) → work_of c (state m (log ++ more)) ≡ Some w → w.target ≡ p.work.target
target-stays m limits log more None k rv l p w held = cc
target-stays m limits log more (Some c) k rv l p w held =
    let keeps = since m limits log more c k rv l p in
    let parts = legal_from-append m limits 2 (opening m) log more l in
    let now = work-storage (Some c) (state m (log ++ more)) w (sound-from m limits 2 (opening m) (log ++ more) l (sound-opening m)) held in
    let earlier = work-storage (Some c) (state m log) p.work (sound-from m limits 2 (opening m) log parts.0 (sound-opening m)) p.held in
    now ∙ keeps.storage w held ∙ sym earlier

-- a prepared object that is ready stands at its number, and elsewhere
ready-is : (w : Work) (rv at : ℕ) (o : Option Stored) → is_ready w rv at o ≡ true → (e : Stored) × (o ≡ Some e) × (e.number ≡ rv) × (e.at ≢ w.target)
ready-is w rv at None is = cc
ready-is w rv at (Some e) is = by (nat_eq e.number rv) refl (nat_eq e.at w.target) refl (nat_eq at w.target) is
  where
    by : (a : Bool) → nat_eq e.number rv ≡ a → (b : Bool) → nat_eq e.at w.target ≡ b → (d : Bool) → (a && not b && d) ≡ true
        → (f : Stored) × (Some e ≡ Some f) × (f.number ≡ rv) × (f.at ≢ w.target)
    by true is_a false is_b d is = (e, refl, number e.number rv is_a, differ e.at w.target is_b)
    by true is_a true is_b d is = cc
    by false is_a b is_b d is = cc

-- a prepared object that is ready is the first of the claim's range that stands elsewhere
pub ready-first : (m : Meaning) (limits : Limits) (log more : List Item) (c : Option ℕ) (k : KeyView) (rv at : ℕ) → legal m limits (log ++ more) → IsPrepared c k rv (state m log)
    → (w : Work) → work_of c (state m (log ++ more)) ≡ Some w → is_ready w rv at (find k (state m (log ++ more)).objects) ≡ true
    → (e : Stored) × (elsewhere w.span w.target (state m (log ++ more)).objects ≡ Some e) × (e.key ≡ k)
ready-first m limits log more c k rv at l p w held is =
    let (e, there, numbered, away) = ready-is w rv at (find k (state m (log ++ more)).objects) is in
    (e, stays-first m limits log more c k rv l p w held e there away, find-key k (state m (log ++ more)).objects e there)

-- what is found elsewhere stands under its key
elsewhere-found : (r : Span) (v : ℕ) (es : List Stored) (e : Stored) → IsRising es → elsewhere r v es ≡ Some e → find e.key es ≡ Some e
elsewhere-found r v es e rising is = in-find es e rising (each-elsewhere (λ f. In f es) r v es e (each_self es) is)

-- A worker whose second turn finds its object moved, which it prepared for the target of the first, wrote nothing over what
-- another item of that key had made of it.
pub missed-named : (m : Meaning) (limits : Limits) (n : ℕ) (log more : List Item) (c : Option ℕ) (k : KeyView) (rv : ℕ) → legal m limits (log ++ more) → (p : IsPrepared c k rv (state m log))
    → (touch_decision n (state m (log ++ more)) c k rv p.work.target).decision.answer ≡ missed → IsNamed k more
missed-named m limits n log more c k rv l p is =
    elim (named-or_spared k more) [ inl named ↦ named | inr spared ↦ absurd (by (work_of c (state m (log ++ more))) refl (found spared) is) ]
  where
    found : Each (Spares k) more → find k (state m (log ++ more)).objects ≡ Some p.object
    found spared =
        let parts = legal_from-append m limits 2 (opening m) log more l in
        let sound = sound-from m limits 2 (opening m) log parts.0 (sound-opening m) in
        object-stays m limits log more k l spared
        ∙ subst (λ (j : KeyView). find j (state m log).objects ≡ Some p.object) p.key
        (elsewhere-found p.work.span p.work.target (state m log).objects p.object sound.rising p.first)

    ready : (w : Work) → work_of c (state m (log ++ more)) ≡ Some w → find k (state m (log ++ more)).objects ≡ Some p.object
        → is_ready w rv p.work.target (find k (state m (log ++ more)).objects) ≡ true
    ready w held there =
        let target = target-stays m limits log more c k rv l p w held in
        let at_number = eq-eqb p.object.number rv p.number in
        let at_target = eq-eqb p.work.target w.target (sym target) in
        let away : nat_eq p.object.at w.target ≡ false = unequal p.object.at w.target (λ at. p.away (at ∙ target)) in
        ap (is_ready w rv p.work.target) there ∙ rw at_number (rw away (rw at_target refl))

    by : (o : Option Work) → work_of c (state m (log ++ more)) ≡ o → find k (state m (log ++ more)).objects ≡ Some p.object
        → (ready_turn n (state m (log ++ more)) k rv p.work.target o).decision.answer ≡ missed → ⊥
    by None held there is = cc
    by (Some w) held there is =
        let done : (ready_turn n (state m (log ++ more)) k rv p.work.target (Some w)).decision.answer ≡ touched n =
        ap (λ (b : Bool). answer_of (if b then record { decision = enters (touched n) (entry (Touch k w.claim)); claim = Some w.claim } else record { decision = says missed; claim = Some w.claim }))
        (ready w held there) in cc
