-- Every item keeps a state sound.
use Rattle.std.proofs.Common.{◌≡◌, ℕ, List, [], ◌∷◌, ◌++◌, Option, None, Some, Bool, true, false, ap, refl, sym, ◌∙◌, subst, nat_eq, arith, eq-eqb}
use Rattle.std.specs.Prelude.{◌&&◌, ◌||◌, not, if◌then◌else◌, MatchBool}
use Rattle.std.specs.List.{list_any}
use Rattle.std.specs.Ordering.{is_gt}
use Rattle.std.proofs.lemmas.Bool.Decides.{nat_tests}
use Rattle.kube_meta.specs.Key.{KeyView, key_cmp}
use Rattle.kube_meta.specs.Plan.{Bound, Start, After, End, Span, Slot, Free, Held, Loose, Plan, Migration, passed, in_span, reserves, covered, runs, running, ended, stopped, cleared, claimed, pass_key, free_slot, give_back, is_end, is_free, is_done}
use Rattle.kube_meta.specs.declared.limits.Limits.{Limits}
use Rattle.kube_meta.specs.declared.limits.Condition.{Condition}
use Rattle.kube_meta.specs.declared.limits.Condition.TheVariants.{Running, Succeeded, Failed}
use Rattle.api_calls.specs.declared.flags.Flags.{Flags}
use Rattle.api_calls.specs.Meaning.{Meaning}
use Rattle.api_calls.specs.Item.{Create, Replace, Mark, Release, Touch, Delete, SetVersions, Trim, StartMigration, MarkSucceeded, Claim, RangeDone, GiveBack, Item, entry, note}
use Rattle.api_calls.specs.Objects.{Stored, find, put, without, updated, moved, marked_at, elsewhere, keys, born_or}
use Rattle.api_calls.specs.State.{State, has, joined, target_or, target_of, moved_storage, entry_effect, note_effect, effect, number_after, opening, state_from, state}
use Rattle.api_calls.specs.Legal.{Each, IsHeld, MayTouch, MayClaim, MayEnd, MaySucceed, MayStart, guard, legal_from, legal}
use Rattle.api_calls.specs.LegalLists.{IsSoundState, AtMostOneRuns, KeepsPlan}
use Rattle.api_calls.proofs.Lists.{each, each_two, each-put, each-without, each-updated, rising-put, rising-without, rising-updated, each-first}
use Rattle.kube_meta.specs.laws.PlanLaws.{covered-changed, covered-claimed}

pub number : (m n : ℕ) → nat_eq m n ≡ true → m ≡ n
number m n h = grind (arith, nat_tests)

pub each_all : {X : Type 0} (P : X → Type 0) (xs : List X) → ((x : X) → P x) → Each P xs
each_all P [] f = tt
each_all P (x ∷ xs) f = (f x, each_all P xs f)

-- ---- migrations

pub none-ended : (c : Condition) (ms : List Migration) → runs c ≡ false → running (ended c ms) ≡ None
none-ended c [] h = refl
none-ended c (m ∷ ms) h = by (runs m.condition) refl (none-ended c ms h)
  where
    by : (b : Bool) → runs m.condition ≡ b → running (ended c ms) ≡ None
        → (if runs (if b then record m { condition = c } else m).condition then Some (if b then record m { condition = c } else m) else running (ended c ms)) ≡ None
    by true is more = rw h more
    by false is more = rw is more

pub one-none : (ms : List Migration) → running ms ≡ None → AtMostOneRuns ms
one-none [] h = tt
one-none (m ∷ ms) h = by (runs m.condition) h (one-none ms)
  where
    by : (b : Bool) → (if b then Some m else running ms) ≡ None → (running ms ≡ None → AtMostOneRuns ms) → MatchBool b (running ms ≡ None) (AtMostOneRuns ms)
    by true h more = cc
    by false h more = more h

pub started : (ms : List Migration) (m : Migration) → running ms ≡ None → runs m.condition ≡ true → (running (ms ++ m ∷ []) ≡ Some m) × AtMostOneRuns (ms ++ m ∷ [])
started [] m none h = (rw h refl, rw h refl)
started (l ∷ ms) m none h = by (runs l.condition) none (started ms m)
  where
    by : (b : Bool) → (if b then Some l else running ms) ≡ None
        → (running ms ≡ None → runs m.condition ≡ true → (running (ms ++ m ∷ []) ≡ Some m) × AtMostOneRuns (ms ++ m ∷ []))
        → ((if b then Some l else running (ms ++ m ∷ [])) ≡ Some m) × MatchBool b (running (ms ++ m ∷ []) ≡ None) (AtMostOneRuns (ms ++ m ∷ []))
    by true none more = cc
    by false none more = more none h

-- ---- the stored list

has-last : (xs : List ℕ) (v : ℕ) → has (xs ++ v ∷ []) v ≡ true
has-last [] v = let e = eq-eqb v v refl in rw e refl
has-last (x ∷ xs) v = by (nat_eq x v) (has-last xs v)
  where
    by : (b : Bool) → has (xs ++ v ∷ []) v ≡ true → (b || has (xs ++ v ∷ []) v) ≡ true
    by true h = refl
    by false h = h

has-more : (xs : List ℕ) (v w : ℕ) → has xs w ≡ true → has (xs ++ v ∷ []) w ≡ true
has-more [] v w h = cc
has-more (x ∷ xs) v w h = by (nat_eq x w) h (has-more xs v w)
  where
    by : (b : Bool) → (b || has xs w) ≡ true → (has xs w ≡ true → has (xs ++ v ∷ []) w ≡ true) → (b || has (xs ++ v ∷ []) w) ≡ true
    by true h more = refl
    by false h more = more h

pub has-joined : (xs : List ℕ) (v : ℕ) → has (joined xs v) v ≡ true
has-joined xs v = by (has xs v) refl
  where
    by : (b : Bool) → has xs v ≡ b → has (if b then xs else xs ++ v ∷ []) v ≡ true
    by true is = is
    by false is = has-last xs v

pub has-kept : (xs : List ℕ) (v w : ℕ) → has xs w ≡ true → has (joined xs v) w ≡ true
has-kept xs v w h = by (has xs v)
  where
    by : (b : Bool) → has (if b then xs else xs ++ v ∷ []) w ≡ true
    by true = h
    by false = has-more xs v w h

-- ---- the moves

pub sound-put : (x : Stored) (s : State) → x.at ≡ s.flags.storage → IsSoundState s → IsSoundState (record s { objects = put x s.objects })
sound-put x s at h = record {
  rising = rising-put x s.objects h.rising;
  one = h.one;
  storage = h.storage;
  stored = each-put (λ e. has s.stored e.at ≡ true) x s.objects (ap (has s.stored) at ∙ h.storage) h.stored;
  plan = λ m is. record {
    target = (h.plan m is).target;
    done = each-put (λ e. covered s.plan e.key ≡ true → e.at ≡ m.target) x s.objects (λ c. at ∙ sym (h.plan m is).target) (h.plan m is).done;
  };
}

-- a span that begins later
later_span : (r : Span) (k x : KeyView) → is_gt (key_cmp x k) ≡ true → in_span r x ≡ true → in_span (record r { after = After k }) x ≡ true
later_span r k x gt h = by (is_gt (key_cmp x k)) gt (not (passed r.after x)) h
  where
    by : (b : Bool) → b ≡ true → (a : Bool) → (a && passed r.upto x) ≡ true → (not (not b) && passed r.upto x) ≡ true
    by true gt true h = h
    by true gt false h = cc
    by false gt a h = cc

sound-touched : (n : ℕ) (k : KeyView) (c : ℕ) (s : State) → MayTouch k c s → IsSoundState s → IsSoundState (record s { objects = updated (moved n s.flags.storage) k s.objects; plan = pass_key c k s.plan })
sound-touched n k c s g h = record {
  rising = rising-updated (moved n s.flags.storage) k s.objects (λ e. refl) h.rising;
  one = h.one;
  storage = h.storage;
  stored = each-updated (λ e. has s.stored e.at ≡ true) (moved n s.flags.storage) k s.objects (λ e p. h.storage) h.stored;
  plan = λ m is.
      let same : g.claim.migration ≡ m = let both : Some g.claim.migration ≡ Some m = sym g.claim.runs ∙ is in cc in
      let target = (h.plan m is).target in
      let first : elsewhere g.claim.span s.flags.storage s.objects ≡ Some g.first =
      subst (λ (v : ℕ). elsewhere g.claim.span v s.objects ≡ Some g.first) (ap (λ (q : Migration). q.target) same ∙ target) g.is_first in
      record {
        target = target;
        done = each-first (λ e. covered s.plan e.key ≡ true → e.at ≡ m.target) (λ e. covered (pass_key c k s.plan) e.key ≡ true → e.at ≡ m.target)
            n s.flags.storage k g.claim.span
            (λ e gt p cov. p (covered-changed e.key (λ r. Held c (record r { after = After k })) c s.plan g.claim.span g.claim.held (later_span g.claim.span k e.key gt) cov))
            (λ e out p cov. outside m e (in_span g.claim.span e.key) refl (nat_eq e.at s.flags.storage) refl out target p cov)
            (λ e p cov. sym target)
            s.objects g.first g.under h.rising first (h.plan m is).done;
      };
}
  where
    outside : (m : Migration) (e : Stored) (a : Bool) → in_span g.claim.span e.key ≡ a → (b : Bool) → nat_eq e.at s.flags.storage ≡ b → (a && not b) ≡ false
        → m.target ≡ s.flags.storage → (covered s.plan e.key ≡ true → e.at ≡ m.target) → covered (pass_key c k s.plan) e.key ≡ true → e.at ≡ m.target
    outside m e a is_a true is_b out target p cov = number e.at s.flags.storage is_b ∙ sym target
    outside m e true is_a false is_b out target p cov = cc
    outside m e false is_a false is_b out target p cov =
        p (covered-changed e.key (λ r. Held c (record r { after = After k })) c s.plan g.claim.span g.claim.held (λ ins. cc) cov)

-- the target of a running migration is the storage version
pub touch_target : (s : State) → IsSoundState s → target_of s ≡ s.flags.storage
touch_target s h = by (running s.migrations) refl
  where
    by : (o : Option Migration) → running s.migrations ≡ o → target_or o s.flags.storage ≡ s.flags.storage
    by None is = refl
    by (Some m) is = (h.plan m is).target

sound-touch : (n : ℕ) (k : KeyView) (c : ℕ) (s : State) → MayTouch k c s → IsSoundState s → IsSoundState (entry_effect n (Touch k c) s)
sound-touch n k c s g h =
    subst (λ (v : ℕ). IsSoundState (record s { objects = updated (moved n v) k s.objects; plan = pass_key c k s.plan })) (sym (touch_target s h)) (sound-touched n k c s g h)

-- a value got a deletion stamp, and stands at the storage version
sound-mark : (n : ℕ) (k : KeyView) (stamp : List ℕ) (s : State) → IsSoundState s → IsSoundState (record s { objects = updated (marked_at n s.flags.storage stamp) k s.objects })
sound-mark n k stamp s h = record {
  rising = rising-updated (marked_at n s.flags.storage stamp) k s.objects (λ e. refl) h.rising;
  one = h.one;
  storage = h.storage;
  stored = each-updated (λ e. has s.stored e.at ≡ true) (marked_at n s.flags.storage stamp) k s.objects (λ e p. h.storage) h.stored;
  plan = λ m is. record {
    target = (h.plan m is).target;
    done = each-updated (λ e. covered s.plan e.key ≡ true → e.at ≡ m.target) (marked_at n s.flags.storage stamp) k s.objects
        (λ e p cov. sym (h.plan m is).target) (h.plan m is).done;
  };
}

sound-without : (k : KeyView) (s : State) → IsSoundState s → IsSoundState (record s { objects = without k s.objects })
sound-without k s h = record {
  rising = rising-without k s.objects h.rising;
  one = h.one;
  storage = h.storage;
  stored = each-without (λ e. has s.stored e.at ≡ true) k s.objects h.stored;
  plan = λ q is. record {
    target = (h.plan q is).target;
    done = each-without (λ e. covered s.plan e.key ≡ true → e.at ≡ q.target) k s.objects (h.plan q is).done;
  };
}

sound-none : (s : State) (flags : Flags) (stored : List ℕ) (ms : List Migration) (plan : Plan) → running ms ≡ None → has stored flags.storage ≡ true
    → Each (λ e. has stored e.at ≡ true) s.objects → IsSoundState s
    → IsSoundState (record { flags = flags; stored = stored; objects = s.objects; migrations = ms; plan = plan })
sound-none s flags stored ms plan none storage all h = record {
  rising = h.rising;
  one = one-none ms none;
  storage = storage;
  stored = all;
  plan = λ m is. let both : None ≡ Some m = sym none ∙ is in cc;
}

sound-set : (n : ℕ) (f : Flags) (s : State) → IsSoundState s → IsSoundState (entry_effect n (SetVersions f) s)
sound-set n f s h = by (nat_eq f.storage s.flags.storage) refl
  where
    by : (b : Bool) → nat_eq f.storage s.flags.storage ≡ b → IsSoundState (if b then record s { flags = f } else moved_storage f s)
    by true is =
        let same : f.storage ≡ s.flags.storage = number f.storage s.flags.storage is in
        record {
          rising = h.rising;
          one = h.one;
          storage = ap (has s.stored) same ∙ h.storage;
          stored = h.stored;
          plan = λ m is. record { target = (h.plan m is).target ∙ sym same; done = (h.plan m is).done };
        }
    by false is =
        sound-none s f (joined s.stored f.storage) (ended Failed s.migrations) (stopped (running s.migrations) s.plan) (none-ended Failed s.migrations refl)
        (has-joined s.stored f.storage)
        (each (λ e. has s.stored e.at ≡ true) (λ e. has (joined s.stored f.storage) e.at ≡ true) s.objects h.stored (λ e p. has-kept s.stored f.storage e.at p)) h

sound-start : (limits : Limits) (n : ℕ) (name : List ℕ) (s : State) → MayStart limits name s → IsSoundState s → IsSoundState (entry_effect n (StartMigration name) s)
sound-start limits n name s g h =
    let new : Migration = record { name = name; target = s.flags.storage; condition = Running } in
    let after = started s.migrations (record { name = name; target = s.flags.storage; condition = Running }) g.idle refl in
    record {
      rising = h.rising;
      one = after.1;
      storage = h.storage;
      stored = h.stored;
      plan = λ m is.
          let both : Some (record { name = name; target = s.flags.storage; condition = Running }) ≡ Some m = sym after.0 ∙ is in
          let same : record { name = name; target = s.flags.storage; condition = Running } ≡ m = cc in
          record {
            target = ap (λ (q : Migration). q.target) (sym same);
            done = each_all (λ e. covered (cleared s.plan) e.key ≡ true → e.at ≡ m.target) s.objects (λ e cov. cc);
          };
    }

-- a plan under which no more is covered
sound-plan : (p : Plan) (s : State) → ((m : Migration) → running s.migrations ≡ Some m → KeepsPlan m s → Each (λ e. covered p e.key ≡ true → e.at ≡ m.target) s.objects)
    → IsSoundState s → IsSoundState (record s { plan = p })
sound-plan p s fewer h = record {
  rising = h.rising;
  one = h.one;
  storage = h.storage;
  stored = h.stored;
  plan = λ m is. record { target = (h.plan m is).target; done = fewer m is (h.plan m is) };
}

sound-claim : (c : ℕ) (s : State) → MayClaim c s → IsSoundState s → IsSoundState (note_effect (Claim c) s)
sound-claim c s g h =
    sound-plan (claimed c (keys s.objects) s.plan) s
    (λ m is keeps. each (λ e. covered s.plan e.key ≡ true → e.at ≡ m.target) (λ e. covered (claimed c (keys s.objects) s.plan) e.key ≡ true → e.at ≡ m.target) s.objects keeps.done
    (λ e p cov. p (covered-claimed e.key c (keys s.objects) s.plan g.room cov))) h

pub none_elsewhere : (r : Span) (v : ℕ) (es : List Stored) → elsewhere r v es ≡ None → Each (λ e. (in_span r e.key && not (nat_eq e.at v)) ≡ false) es
none_elsewhere r v [] h = tt
none_elsewhere r v (e ∷ es) h = by (in_span r e.key && not (nat_eq e.at v)) h (none_elsewhere r v es)
  where
    by : (b : Bool) → (if b then Some e else elsewhere r v es) ≡ None → (elsewhere r v es ≡ None → Each (λ e. (in_span r e.key && not (nat_eq e.at v)) ≡ false) es)
        → (b ≡ false) × Each (λ e. (in_span r e.key && not (nat_eq e.at v)) ≡ false) es
    by true h more = cc
    by false h more = (refl, more h)

sound-done : (c : ℕ) (s : State) → MayEnd c s → IsSoundState s → IsSoundState (note_effect (RangeDone c) s)
sound-done c s g h =
    sound-plan (free_slot c s.plan) s
    (λ m is keeps.
    let same : g.claim.migration ≡ m = let both : Some g.claim.migration ≡ Some m = sym g.claim.runs ∙ is in cc in
    let none : elsewhere g.claim.span m.target s.objects ≡ None =
    subst (λ (q : Migration). elsewhere g.claim.span q.target s.objects ≡ None) same g.nothing in
    each_two (λ e. (in_span g.claim.span e.key && not (nat_eq e.at m.target)) ≡ false) (λ e. covered s.plan e.key ≡ true → e.at ≡ m.target)
    (λ e. covered (free_slot c s.plan) e.key ≡ true → e.at ≡ m.target) s.objects (none_elsewhere g.claim.span m.target s.objects none) keeps.done
    (λ e out p cov. outside m e (in_span g.claim.span e.key) refl (nat_eq e.at m.target) refl out p cov)) h
  where
    outside : (m : Migration) (e : Stored) (a : Bool) → in_span g.claim.span e.key ≡ a → (b : Bool) → nat_eq e.at m.target ≡ b → (a && not b) ≡ false
        → (covered s.plan e.key ≡ true → e.at ≡ m.target) → covered (free_slot c s.plan) e.key ≡ true → e.at ≡ m.target
    outside m e a is_a true is_b out p cov = number e.at m.target is_b
    outside m e true is_a false is_b out p cov = cc
    outside m e false is_a false is_b out p cov =
        p (covered-changed e.key (λ r. Free) c s.plan g.claim.span g.claim.held (λ ins. cc) cov)

sound-back : (c : ℕ) (s : State) → IsHeld c s → IsSoundState s → IsSoundState (note_effect (GiveBack c) s)
sound-back c s g h =
    sound-plan (give_back c s.plan) s
    (λ m is keeps. each (λ e. covered s.plan e.key ≡ true → e.at ≡ m.target) (λ e. covered (give_back c s.plan) e.key ≡ true → e.at ≡ m.target) s.objects keeps.done
    (λ e p cov. p (covered-changed e.key (λ r. Loose r) c s.plan g.span g.held (λ ins. ins) cov))) h

pub sound-step : (m : Meaning) (limits : Limits) (n : ℕ) (i : Item) (s : State) → guard m limits s i → IsSoundState s → IsSoundState (effect n i s)
sound-step m limits n (entry (Create k h w)) s g sound =
    sound-put (record { key = k; h = h; number = n; at = s.flags.storage; born = n; weight = w }) s refl sound
sound-step m limits n (entry (Replace k over h w)) s g sound =
    sound-put (record { key = k; h = h; number = n; at = s.flags.storage; born = born_or (find k s.objects) n; weight = w }) s refl sound
sound-step m limits n (entry (Mark k over stamp)) s g sound = sound-mark n k stamp s sound
sound-step m limits n (entry (Release k over)) s g sound = sound-without k s sound
sound-step m limits n (entry (Touch k c)) s g sound = sound-touch n k c s g sound
sound-step m limits n (entry (Delete k)) s g sound = sound-without k s sound
sound-step m limits n (entry (SetVersions f)) s g sound = sound-set n f s sound
sound-step m limits n (entry (Trim keep)) s g sound = record {
  rising = sound.rising;
  one = sound.one;
  storage = g.storage;
  stored = g.kept;
  plan = λ q is. record { target = (sound.plan q is).target; done = (sound.plan q is).done };
}
sound-step m limits n (entry (StartMigration name)) s g sound = sound-start limits n name s g sound
sound-step m limits n (entry MarkSucceeded) s g sound =
    sound-none s s.flags s.stored (ended Succeeded s.migrations) s.plan (none-ended Succeeded s.migrations refl) sound.storage sound.stored sound
sound-step m limits n (note (Claim c)) s g sound = sound-claim c s g sound
sound-step m limits n (note (RangeDone c)) s g sound = sound-done c s g sound
sound-step m limits n (note (GiveBack c)) s g sound = sound-back c s g sound

pub sound-from : (m : Meaning) (limits : Limits) (n : ℕ) (s : State) (log : List Item) → legal_from m limits n s log → IsSoundState s → IsSoundState (state_from n s log)
sound-from m limits n s [] l h = h
sound-from m limits n s (i ∷ log) l h = sound-from m limits (number_after n i) (effect n i s) log l.1 (sound-step m limits n i s l.0 h)

pub sound-opening : (m : Meaning) → IsSoundState (opening m)
sound-opening m = record {
  rising = tt;
  one = tt;
  storage = let e = eq-eqb m.opening.storage m.opening.storage refl in rw e refl;
  stored = tt;
  plan = λ q is. cc;
}

pub sound-all : (m : Meaning) (limits : Limits) (log : List Item) → legal m limits log → IsSoundState (state m log)
sound-all m limits log l = sound-from m limits 2 (opening m) log l (sound-opening m)

at_end : (b : Bound) → is_end b ≡ true → (x : KeyView) → passed b x ≡ true
at_end Start h x = h
at_end (After k) h x = cc
at_end End h x = refl

none_reserved : (x : KeyView) (ss : List Slot) → list_any (λ s. not (is_free s)) ss ≡ false → list_any (reserves x) ss ≡ false
none_reserved x [] h = refl
none_reserved x (Free ∷ ss) h = none_reserved x ss h
none_reserved x (Held c r ∷ ss) h = cc
none_reserved x (Loose r ∷ ss) h = cc

both_true : (a b : Bool) → (a && not b) ≡ true → (a ≡ true) × (b ≡ false)
both_true true true h = cc
both_true true false h = (refl, refl)
both_true false b h = cc

-- where every key was handed out and no claim is left, all is done
pub finished : (m : Migration) (s : State) → IsSoundState s → running s.migrations ≡ Some m → is_done s.plan ≡ true → MaySucceed s
finished m s h is done =
    let parts = both_true (is_end s.plan.cursor) (list_any (λ t. not (is_free t)) s.plan.slots) done in
    record {
      migration = m;
      runs = is;
      target = (h.plan m is).target;
      stands = each (λ e. covered s.plan e.key ≡ true → e.at ≡ m.target) (λ e. e.at ≡ m.target) s.objects (h.plan m is).done
          (λ e p. p (
          let none = none_reserved e.key s.plan.slots parts.1 in
          let over = at_end s.plan.cursor parts.0 e.key in
          rw (none, over) refl));
    }
