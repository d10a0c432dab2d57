-- What holds of the objects of a history: their values are whole and weigh what is said of them, and they stand under keys that a client takes.
use Rattle.kube_meta.specs.View.{ObjectView}
use Rattle.std.proofs.Common.{◌≡◌, ◌∙◌, sym, subst, ℕ, ◌<◌, ◌^◌, ◌≤◌, pos, Bool, true, false, nat_eq, List, [], ◌∷◌, ◌++◌, None, Some, arith, Option, length, ap}
use Rattle.std.specs.Prelude.{IsTrue, if◌then◌else◌}
use Rattle.std.specs.Ordering.{match_ordering}
use Rattle.std.specs.declared.cmp.Ordering.{Ordering}
use Rattle.std.specs.declared.cmp.Ordering.TheVariants.{Less, Equal, Greater}
use Rattle.kube_meta.specs.Key.{KeyView, key_cmp}
use Rattle.kube_meta.specs.declared.limits.Limits.{Limits}
use Rattle.api_calls.specs.Item.{Create, Replace, Mark, Release, Touch, Delete, SetVersions, Trim, StartMigration, MarkSucceeded, Claim, RangeDone, GiveBack, Item, entry, note}
use Rattle.api_calls.specs.Legal.{Each, guard, key_of, legal, legal_from}
use Rattle.api_calls.specs.LegalLists.{IsCounted}
use Rattle.api_calls.specs.Meaning.{Meaning, Weighs, stamped}
use Rattle.api_calls.specs.Objects.{Stored, born_or, find, marked_at, moved, updated, marked}
use Rattle.api_calls.specs.State.{State, effect, moved_storage, number_after, number_from, opening, revision, state, state_from, target_of}
use Rattle.api_calls.specs.Versions.{IgnoresStamps, IsOneToOne}
use Rattle.api_calls.specs.laws.GrowthLaws.{next_number-revision}
use Rattle.api_calls.specs.laws.ObjectLaws.{each-find}
use Rattle.api_calls.proofs.Generations.{counted-all}
use Rattle.api_calls.proofs.Lists.{each, each-put, each-updated, each-without, each_two}
use Rattle.api_calls.proofs.Numbers.{numbered-from, numbered-opening}
use Rattle.api_calls.proofs.Tokens.{name_fits, namespace_fits}
use Rattle.http_routes.specs.Paths.{IsKey}
use Rattle.place.specs.Place.{Names}
use Rattle.far_laws.specs.TakenBack.{IsLight}
use Rattle.far_laws.specs.Answering.{GoesOn}
use Rattle.far_laws.proofs.Histories.{few_before, legal_before}
use Rattle.far_laws.proofs.Paging.{IsKnown}
use Rattle.far_laws.proofs.Values.{find_key}
use Rattle.far_laws.specs.Speaking.{AreNames, front}
use Rattle.run_laws.specs.Light.{EntersLight, HasShortKind}
use Rattle.run_laws.specs.Placed.{IsNamed}
use Rattle.run_laws.specs.Replying.{CreatesNamed, IsPlaceOf, replying}

-- what holds of the one object that changes, and of all before
each-changed : (P : Stored → Type 0) (f : Stored → Stored) (k : KeyView) (es : List Stored) (old : Stored) → find k es ≡ Some old → P (f old) → Each P es → Each P (updated f k es)
each-changed P f k [] old found new all = tt
each-changed P f k (e ∷ es) old found new all = by (key_cmp k e.key) found (λ there. each-changed P f k es old there new all.1)
  where
    by : (o : Ordering) → match_ordering o None (Some e) (find k es) ≡ Some old → (find k es ≡ Some old → Each P (updated f k es))
        → Each P (match_ordering o (e ∷ es) (f e ∷ es) (e ∷ updated f k es))
    by Less found more = all
    by Equal found more = let same : e ≡ old = cc in (subst (λ (q : Stored). P (f q)) (sym same) new, all.1)
    by Greater found more = (all.0, more found)

-- a whole value of its weight under its key
pub record IsHeld (m : Meaning) (e : Stored) : Type 0 where
  pub whole : m.whole e.h
  pub key : key_of e.h ≡ e.key
  pub weighs : Weighs m e.h e.weight
  pub valid : IsKey e.key
  pub light : IsLight m e.h

-- a deletion stamp isn't measured
light_marked : (m : Meaning) (h : ObjectView) (stamp : List ℕ) → IgnoresStamps m → IsLight m h → IsLight m (marked stamp h)
light_marked m h stamp ignores light v x known p =
    light v (stamped x h.meta.created h.meta.deleted h.meta.generation) known (ignores.pair v (marked stamp h) x h.meta.created h.meta.deleted h.meta.generation p)

module _ (m : Meaning) (limits : Limits) (honest : IsTrue m.honest) (ignores : IgnoresStamps m) where
  abbrev AreHeld : State → Type 0
  AreHeld s = Each (IsHeld m) s.objects

  held-step : (n : ℕ) (i : Item) (s : State) → guard m limits s i → CreatesNamed i → EntersLight m i → AreHeld s → AreHeld (effect n i s)
  held-step n (entry (Create k h w)) s g named light all =
      let v = g.value honest in
      each-put (IsHeld m) (record { key = k; h = h; number = n; at = s.flags.storage; born = n; weight = w }) s.objects
      (record { whole = v.whole; key = v.key; weighs = v.weighs; valid = named; light = light }) all
  held-step n (entry (Replace k over h w)) s g named light all =
      let v = g.value honest in
      let old = each-find (IsHeld m) k s.objects g.stands.old all g.stands.there in
      each-put (IsHeld m) (record { key = k; h = h; number = n; at = s.flags.storage; born = born_or (find k s.objects) n; weight = w }) s.objects
      (record { whole = v.whole; key = v.key; weighs = v.weighs; valid = subst IsKey (find_key k s.objects g.stands.old g.stands.there) old.valid; light = light }) all
  held-step n (entry (Mark k over stamp)) s g named light all =
      let v = g.value honest in
      let old = each-find (IsHeld m) k s.objects g.stands.old all g.stands.there in
      each-changed (IsHeld m) (marked_at n s.flags.storage stamp) k s.objects g.stands.old g.stands.there
      (record { whole = v.whole; key = v.key ∙ sym (find_key k s.objects g.stands.old g.stands.there); weighs = v.weighs; valid = old.valid; light = light_marked m g.stands.old.h stamp ignores old.light }) all
  held-step n (entry (Release k over)) s g named light all = each-without (IsHeld m) k s.objects all
  held-step n (entry (Touch k c)) s g named light all =
      each-updated (IsHeld m) (moved n (target_of s)) k s.objects (λ e p. record { whole = p.whole; key = p.key; weighs = p.weighs; valid = p.valid; light = p.light }) all
  held-step n (entry (Delete k)) s g named light all = each-without (IsHeld m) k s.objects all
  held-step n (entry (SetVersions f)) s g named light all = by (nat_eq f.storage s.flags.storage)
    where
      by : (b : Bool) → Each (IsHeld m) (if b then record s { flags = f } else moved_storage f s).objects
      by true = all
      by false = all
  held-step n (entry (Trim keep)) s g named light all = all
  held-step n (entry (StartMigration name)) s g named light all = all
  held-step n (entry MarkSucceeded) s g named light all = all
  held-step n (note (Claim c)) s g named light all = all
  held-step n (note (RangeDone c)) s g named light all = all
  held-step n (note (GiveBack c)) s g named light all = all

  held-from : (n : ℕ) (s : State) (log : List Item) → legal_from m limits n s log → Each CreatesNamed log → Each (EntersLight m) log → AreHeld s → AreHeld (state_from n s log)
  held-from n s [] l named light all = all
  held-from n s (i ∷ log) l named light all = held-from (number_after n i) (effect n i s) log l.1 named.1 light.1 (held-step n i s l.0 named.0 light.0 all)

  pub held-all : (log : List Item) → legal m limits log → Each CreatesNamed log → Each (EntersLight m) log → Each (IsHeld m) (state m log).objects
  held-all log l named light = held-from 2 (opening m) log l named light tt

-- ---- of a history before

each_first : (P : Item → Type 0) (log more : List Item) → Each P (log ++ more) → Each P log
each_first P [] more all = tt
each_first P (i ∷ log) more all = (all.0, each_first P log more all.1)

pub all_before : (P : Item → Type 0) (log last : List Item) → Each P last → GoesOn log last → Each P log
all_before P log last all to = each_first P log to.0 (subst (λ (l : List Item). Each P l) to.1 all)

-- numbers of 64 bits
pub few_numbers : (m : Meaning) (log : List Item) → revision log < 2 ^ 64 → Each (λ e. e.number < 2 ^ 64) (state m log).objects
few_numbers m log few =
    each (λ e. e.number < number_from 2 log) (λ e. e.number < 2 ^ 64) (state m log).objects below
    (λ e h. let next = next_number-revision log in omega (arith, h, few, next))
  where
    below : Each (λ e. e.number < number_from 2 log) (state m log).objects
    below = (numbered-from 2 (opening m) log (numbered-opening m)).below

-- ---- all of it

-- what is known of an object that is shown
pub record IsReady (m : Meaning) (e : Stored) : Type 0 where
  pub held : IsHeld m e
  pub few : e.number < 2 ^ 64
  pub count : ℕ
  pub counts : e.h.meta.generation ≡ pos count

pub all_named : (m : Meaning) (es : List Stored) → Each (IsReady m) es → Each (IsNamed m) es
all_named m es ready = each (IsReady m) (IsNamed m) es ready (λ e r. record { whole = r.held.whole; key = r.held.key; valid = r.held.valid; number = r.few })

pub all_held : (m : Meaning) (es : List Stored) → Each (IsReady m) es → Each (IsHeld m) es
all_held m es ready = each (IsReady m) (IsHeld m) es ready (λ e r. r.held)

-- What is known of a server and its last history.
pub record Facts (m : Meaning) (limits : Limits) (boot : ℕ) (clock : Option (List ℕ)) (n : Names) (last : List Item) : Type 0 where
  pub names : AreNames n
  pub place : IsPlaceOf m n
  pub named : Each CreatesNamed last
  pub known : IsKnown m limits boot n (replying (front m limits boot clock)) last
  pub ignores : IgnoresStamps m
  pub one : IsOneToOne m
  pub light : Each (EntersLight m) last
  pub kind : HasShortKind m

pub ready_at : (m : Meaning) (limits : Limits) (boot : ℕ) (clock : Option (List ℕ)) (n : Names) (last : List Item) → Facts m limits boot clock n last → (log : List Item) → GoesOn log last
    → Each (IsReady m) (state m log).objects
ready_at m limits boot clock n last facts log to =
    let k = facts.known in
    let objects : List Stored = (state m log).objects in
    let legal_log = legal_before m limits log last k.legal to in
    let held = held-all m limits k.honest facts.ignores log legal_log (all_before CreatesNamed log last facts.named to) (all_before (EntersLight m) log last facts.light to) in
    let few = few_numbers m log (few_before log last k.counted to) in
    let counted = counted-all m limits log k.honest legal_log in
    each_two (λ e. IsHeld m e × (e.number < 2 ^ 64)) (λ e. IsCounted (revision log) e.h) (IsReady m) objects
    (each_two (IsHeld m) (λ e. e.number < 2 ^ 64) (λ e. IsHeld m e × (e.number < 2 ^ 64)) objects held few (λ e a b. (a, b))) counted
    (λ e a b. record { held = a.0; few = a.1; count = b.number; counts = b.is })

-- the names of a resource are short
pub plural_few : (m : Meaning) (limits : Limits) (boot : ℕ) (clock : Option (List ℕ)) (n : Names) (last : List Item) → Facts m limits boot clock n last → length m.plural ≤ 253
plural_few m limits boot clock n last facts =
    let few = namespace_fits n.plural facts.names.plural in
    let same : length n.plural ≡ length m.plural = ap (λ (s : List ℕ). length s) facts.place.plural in
    omega (arith, few, same)

pub group_few : (m : Meaning) (limits : Limits) (boot : ℕ) (clock : Option (List ℕ)) (n : Names) (last : List Item) → Facts m limits boot clock n last → length m.group ≤ 253
group_few m limits boot clock n last facts =
    let few = name_fits n.group facts.names.group in
    let same : length n.group ≡ length m.group = ap (λ (s : List ℕ). length s) facts.place.group in
    omega (arith, few, same)
