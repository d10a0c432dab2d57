-- What a key holds after each change of the objects.
use Rattle.std.proofs.Common.{◌≡◌, ◌≢◌, ℕ, ◌+◌, List, [], ◌∷◌, ◌++◌, Option, None, Some, Bool, true, false, ap, refl, sym, ◌∙◌, subst}
use Rattle.std.specs.Prelude.{if◌then◌else◌, nat_eq}
use Rattle.std.specs.Ordering.{match_ordering}
use Rattle.std.specs.declared.cmp.Ordering.{Ordering}
use Rattle.std.specs.declared.cmp.Ordering.TheVariants.{Less, Equal, Greater}
use Rattle.kube_meta.specs.Key.{KeyView, key_cmp}
use Rattle.kube_meta.specs.View.{ObjectView}
use Rattle.kube_meta.specs.declared.limits.Limits.{Limits}
use Rattle.api_calls.specs.Meaning.{Meaning}
use Rattle.api_calls.specs.Item.{Entry, Create, Replace, Mark, Release, Touch, Delete, SetVersions, Trim, StartMigration, MarkSucceeded, Claim, RangeDone, GiveBack, Item, entry, note}
use Rattle.api_calls.specs.Objects.{Stored, find, put, without, updated, moved, marked_at, born_or}
use Rattle.api_calls.specs.State.{State, has, target_of, moved_storage, entry_effect, effect, number_after, number_from, opening, state_from, state}
use Rattle.api_calls.specs.Legal.{Each, guard, legal_from, legal}
use Rattle.api_calls.specs.LegalLists.{IsRising, IsSoundState, Leaves, Writes}
use Rattle.api_calls.proofs.Order.{itself, exact, chain}
use Rattle.api_calls.proofs.Lists.{each}
use Rattle.api_calls.proofs.Parts.{state_from-append, legal_from-append}
use Rattle.api_calls.proofs.Sound.{sound-step, sound-from, sound-opening}

pub find-put : (x : Stored) (es : List Stored) → find x.key (put x es) ≡ Some x
find-put x [] = let e = itself x.key in rw e refl
find-put x (e ∷ es) = by (key_cmp x.key e.key) refl (find-put x es)
  where
    by : (o : Ordering) → key_cmp x.key e.key ≡ o → find x.key (put x es) ≡ Some x → find x.key (match_ordering o (x ∷ e ∷ es) (x ∷ es) (e ∷ put x es)) ≡ Some x
    by Less is more = let e = itself x.key in rw e refl
    by Equal is more = let e = itself x.key in rw e refl
    by Greater is more = rw is more

pub find-put_other : (k : KeyView) (x : Stored) (es : List Stored) → k ≢ x.key → find k (put x es) ≡ find k es
find-put_other k x [] ne = by (key_cmp k x.key) refl
  where
    by : (o : Ordering) → key_cmp k x.key ≡ o → match_ordering o None (Some x) None ≡ None
    by Less is = refl
    by Equal is = absurd (ne (exact k x.key is))
    by Greater is = refl
find-put_other k x (e ∷ es) ne = by (key_cmp x.key e.key) refl (find-put_other k x es ne)
  where
    first : key_cmp x.key e.key ≡ Less → (o : Ordering) → key_cmp k x.key ≡ o → match_ordering o None (Some x) (find k (e ∷ es)) ≡ find k (e ∷ es)
    first is Less less = let l = chain k x.key e.key less is in rw l refl
    first is Equal same = absurd (ne (exact k x.key same))
    first is Greater more = refl

    over : key_cmp x.key e.key ≡ Equal → (o : Ordering) → key_cmp k e.key ≡ o → match_ordering o None (Some x) (find k es) ≡ match_ordering o None (Some e) (find k es)
    over is Less h = refl
    over is Equal h = absurd (ne (exact k e.key h ∙ sym (exact x.key e.key is)))
    over is Greater h = refl

    by : (o : Ordering) → key_cmp x.key e.key ≡ o → find k (put x es) ≡ find k es → find k (match_ordering o (x ∷ e ∷ es) (x ∷ es) (e ∷ put x es)) ≡ find k (e ∷ es)
    by Less is more = first is (key_cmp k x.key) refl
    by Equal is more =
        ap (λ (j : KeyView). match_ordering (key_cmp k j) None (Some x) (find k es)) (exact x.key e.key is) ∙ over is (key_cmp k e.key) refl
    by Greater is more = ap (λ (r : Option Stored). match_ordering (key_cmp k e.key) None (Some e) r) more

pub find-none : (k : KeyView) (es : List Stored) → Each (λ f. key_cmp k f.key ≡ Less) es → find k es ≡ None
find-none k [] h = refl
find-none k (e ∷ es) h = let l = h.0 in rw l refl

pub find-without_other : (k j : KeyView) (es : List Stored) → IsRising es → k ≢ j → find k (without j es) ≡ find k es
find-without_other k j [] r ne = refl
find-without_other k j (e ∷ es) r ne = by (key_cmp j e.key) refl (find-without_other k j es r.1 ne)
  where
    gone : key_cmp j e.key ≡ Equal → (o : Ordering) → key_cmp k e.key ≡ o → find k es ≡ match_ordering o None (Some e) (find k es)
    gone is Less h = find-none k es (each (λ f. key_cmp e.key f.key ≡ Less) (λ f. key_cmp k f.key ≡ Less) es r.0 (λ f l. chain k e.key f.key h l))
    gone is Equal h = absurd (ne (exact k e.key h ∙ sym (exact j e.key is)))
    gone is Greater h = refl

    by : (o : Ordering) → key_cmp j e.key ≡ o → find k (without j es) ≡ find k es → find k (match_ordering o (e ∷ es) es (e ∷ without j es)) ≡ find k (e ∷ es)
    by Less is more = refl
    by Equal is more = gone is (key_cmp k e.key) refl
    by Greater is more = ap (λ (r : Option Stored). match_ordering (key_cmp k e.key) None (Some e) r) more

-- a key holds a value
abbrev pub HasValue : KeyView → ObjectView → List Stored → Type 0
HasValue k h es = (e : Stored) × (find k es ≡ Some e) × (e.h ≡ h)

-- a change that leaves keys and values
pub value-updated : (f : Stored → Stored) (j k : KeyView) (h : ObjectView) (es : List Stored) → ((e : Stored) → (f e).key ≡ e.key) → ((e : Stored) → (f e).h ≡ e.h)
    → HasValue k h es → HasValue k h (updated f j es)
value-updated f j k h [] key value has = has
value-updated f j k h (e ∷ es) key value has = by (key_cmp j e.key) (value-updated f j k h es key value) has
  where
    here : (o : Ordering) → (g : Stored) × (match_ordering o None (Some e) (find k es) ≡ Some g) × (g.h ≡ h)
        → (g : Stored) × (match_ordering o None (Some (f e)) (find k es) ≡ Some g) × (g.h ≡ h)
    here Less (g, is, same) = cc
    here Equal (g, is, same) = let eq : e ≡ g = cc in (f e, refl, value e ∙ ap (λ (q : Stored). q.h) eq ∙ same)
    here Greater (g, is, same) = (g, is, same)

    behind : (o : Ordering) → (HasValue k h es → HasValue k h (updated f j es)) → (g : Stored) × (match_ordering o None (Some e) (find k es) ≡ Some g) × (g.h ≡ h)
        → (g : Stored) × (match_ordering o None (Some e) (find k (updated f j es)) ≡ Some g) × (g.h ≡ h)
    behind Less more (g, is, same) = cc
    behind Equal more (g, is, same) = (g, is, same)
    behind Greater more (g, is, same) = more (g, is, same)

    by : (o : Ordering) → (HasValue k h es → HasValue k h (updated f j es)) → HasValue k h (e ∷ es)
        → HasValue k h (match_ordering o (e ∷ es) (f e ∷ es) (e ∷ updated f j es))
    by Less more has = has
    by Equal more has =
        subst (λ (q : KeyView). (g : Stored) × (match_ordering (key_cmp k q) None (Some (f e)) (find k es) ≡ Some g) × (g.h ≡ h)) (sym (key e)) (here (key_cmp k e.key) has)
    by Greater more has = behind (key_cmp k e.key) more has

pub find-updated : (f : Stored → Stored) (k : KeyView) (e : Stored) (es : List Stored) → ((e : Stored) → (f e).key ≡ e.key) → find k es ≡ Some e → find k (updated f k es) ≡ Some (f e)
find-updated f k e [] key is = cc
find-updated f k e (g ∷ es) key is = by (key_cmp k g.key) refl is (find-updated f k e es key)
  where
    by : (o : Ordering) → key_cmp k g.key ≡ o → match_ordering o None (Some g) (find k es) ≡ Some e → (find k es ≡ Some e → find k (updated f k es) ≡ Some (f e))
        → find k (match_ordering o (g ∷ es) (f g ∷ es) (g ∷ updated f k es)) ≡ Some (f e)
    by Less at is more = cc
    by Equal at is more =
        let same : g ≡ e = cc in let there : key_cmp k (f g).key ≡ Equal = ap (key_cmp k) (key g) ∙ at in rw there (ap (λ (q : Stored). Some (f q)) same)
    by Greater at is more = rw at (more is)

pub find-updated_other : (f : Stored → Stored) (k j : KeyView) (es : List Stored) → ((e : Stored) → (f e).key ≡ e.key) → k ≢ j → find k (updated f j es) ≡ find k es
find-updated_other f k j [] key ne = refl
find-updated_other f k j (e ∷ es) key ne = by (key_cmp j e.key) refl (find-updated_other f k j es key ne)
  where
    here : key_cmp j e.key ≡ Equal → (o : Ordering) → key_cmp k e.key ≡ o → match_ordering o None (Some (f e)) (find k es) ≡ match_ordering o None (Some e) (find k es)
    here is Less h = refl
    here is Equal h = absurd (ne (exact k e.key h ∙ sym (exact j e.key is)))
    here is Greater h = refl

    by : (o : Ordering) → key_cmp j e.key ≡ o → find k (updated f j es) ≡ find k es → find k (match_ordering o (e ∷ es) (f e ∷ es) (e ∷ updated f j es)) ≡ find k (e ∷ es)
    by Less is more = refl
    by Equal is more =
        ap (λ (q : KeyView). match_ordering (key_cmp k q) None (Some (f e)) (find k es)) (key e) ∙ here is (key_cmp k e.key) refl
    by Greater is more = ap (λ (r : Option Stored). match_ordering (key_cmp k e.key) None (Some e) r) more

value-put : (k : KeyView) (h : ObjectView) (x : Stored) (es : List Stored) → k ≢ x.key → HasValue k h es → HasValue k h (put x es)
value-put k h x es ne (e, is, same) = (e, find-put_other k x es ne ∙ is, same)

pub stays-step : (m : Meaning) (limits : Limits) (n : ℕ) (k : KeyView) (h : ObjectView) (i : Item) (s : State) → guard m limits s i → IsSoundState s → Leaves k i → HasValue k h s.objects
    → HasValue k h (effect n i s).objects
stays-step m limits n k h (entry (Create j g w)) s may sound leaves (e, is, same) =
    value-put k h (record { key = j; h = g; number = n; at = s.flags.storage; born = n; weight = w }) s.objects
    (λ one. let there : find j s.objects ≡ Some e = ap (λ (q : KeyView). find q s.objects) (sym one) ∙ is in let absent = may.absent in cc) (e, is, same)
stays-step m limits n k h (entry (Replace j over g w)) s may sound leaves has =
    value-put k h (record { key = j; h = g; number = n; at = s.flags.storage; born = born_or (find j s.objects) n; weight = w }) s.objects leaves has
stays-step m limits n k h (entry (Mark j over stamp)) s may sound leaves (e, is, same) =
    (e, find-updated_other (marked_at n s.flags.storage stamp) k j s.objects (λ e. refl) leaves ∙ is, same)
stays-step m limits n k h (entry (Release j over)) s may sound leaves (e, is, same) = (e, find-without_other k j s.objects sound.rising leaves ∙ is, same)
stays-step m limits n k h (entry (Touch j c)) s may sound leaves has = value-updated (moved n (target_of s)) j k h s.objects (λ e. refl) (λ e. refl) has
stays-step m limits n k h (entry (Delete j)) s may sound leaves (e, is, same) = (e, find-without_other k j s.objects sound.rising leaves ∙ is, same)
stays-step m limits n k h (entry (SetVersions f)) s may sound leaves has = by (nat_eq f.storage s.flags.storage)
  where
    by : (b : Bool) → HasValue k h (if b then record s { flags = f } else moved_storage f s).objects
    by true = has
    by false = has
stays-step m limits n k h (entry (Trim keep)) s may sound leaves has = has
stays-step m limits n k h (entry (StartMigration name)) s may sound leaves has = has
stays-step m limits n k h (entry MarkSucceeded) s may sound leaves has = has
stays-step m limits n k h (note (Claim c)) s may sound leaves has = has
stays-step m limits n k h (note (RangeDone c)) s may sound leaves has = has
stays-step m limits n k h (note (GiveBack c)) s may sound leaves has = has

stays-from : (m : Meaning) (limits : Limits) (n : ℕ) (k : KeyView) (h : ObjectView) (s : State) (log : List Item) → legal_from m limits n s log → IsSoundState s → Each (Leaves k) log
    → HasValue k h s.objects → HasValue k h (state_from n s log).objects
stays-from m limits n k h s [] l sound leaves has = has
stays-from m limits n k h s (i ∷ log) l sound leaves has =
    stays-from m limits (number_after n i) k h (effect n i s) log l.1 (sound-step m limits n i s l.0 sound) leaves.1
    (stays-step m limits n k h i s l.0 sound leaves.0 has)

put-value : (k : KeyView) (h : ObjectView) (x : Stored) (es : List Stored) → x.key ≡ k → x.h ≡ h → HasValue k h (put x es)
put-value k h x es key is = (x, ap (λ (q : KeyView). find q (put x es)) (sym key) ∙ find-put x es, is)

written : (n : ℕ) (k : KeyView) (h : ObjectView) (e : Entry) (s : State) → Writes s k h e → HasValue k h (entry_effect n e s).objects
written n k h (Create j g w) s is =
    put-value k h (record { key = j; h = g; number = n; at = s.flags.storage; born = n; weight = w }) s.objects is.0 is.1
written n k h (Replace j over g w) s is =
    put-value k h (record { key = j; h = g; number = n; at = s.flags.storage; born = born_or (find j s.objects) n; weight = w }) s.objects is.0 is.1
written n k h (Mark j over stamp) s (same, e, is, value) = (
  marked_at n s.flags.storage stamp e,
  ap (λ (q : KeyView). find k (updated (marked_at n s.flags.storage stamp) q s.objects)) same
      ∙ find-updated (marked_at n s.flags.storage stamp) k e s.objects (λ e. refl) is,
  value,
)
written n k h (Release j over) s is = absurd is
written n k h (Touch j c) s is = absurd is
written n k h (Delete j) s is = absurd is
written n k h (SetVersions f) s is = absurd is
written n k h (Trim keep) s is = absurd is
written n k h (StartMigration name) s is = absurd is
written n k h MarkSucceeded s is = absurd is

pub stays-all : (m : Meaning) (limits : Limits) (before after : List Item) (write : Entry) (k : KeyView) (h : ObjectView) → legal m limits (before ++ entry write ∷ after)
    → Writes (state m before) k h write → Each (Leaves k) after → HasValue k h (state m (before ++ entry write ∷ after)).objects
stays-all m limits before after write k h l is leaves =
    let parts = legal_from-append m limits 2 (opening m) before (entry write ∷ after) l in
    let sound = sound-from m limits 2 (opening m) before parts.0 (sound-opening m) in
    subst (λ (s : State). HasValue k h s.objects) (sym (state_from-append 2 (opening m) before (entry write ∷ after)))
    (stays-from m limits (number_from 2 before + 1) k h (effect (number_from 2 before) (entry write) (state m before)) after parts.1.1
    (sound-step m limits (number_from 2 before) (entry write) (state m before) parts.1.0 sound) leaves
    (written (number_from 2 before) k h write (state m before) is))
