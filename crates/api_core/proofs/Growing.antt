-- A core that stands for a list goes on to stand for the list and one item more.
use Rattle.std.proofs.Common.{◌≡◌, ℕ, ◌+◌, ◌≤◌, List, [], ◌∷◌, ◌++◌, Option, None, Some, ap, sym, subst, refl, ◌∙◌, arith}
use Rattle.kube_meta.specs.Key.{KeyView}
use Rattle.kube_meta.specs.Plan.{Plan}
use Rattle.kube_meta.specs.declared.limits.Limits.{Limits}
use Rattle.kube_meta.specs.WindowPairs.{AllPair}
use Rattle.record_store.specs.ByKey.{find as find_record, put as put_record}
use Rattle.record_store.specs.View.{Item as RecordItem, StoreView, item_key}
use Rattle.record_store.specs.Moves.{replaced, with_new, new_item, removed, removed_found}
use Rattle.record_store.specs.declared.record.NewRecord.{NewRecord}
use Rattle.migrate_core.specs.View.{MigrationsView}
use Rattle.api_calls.specs.declared.flags.Flags.{Flags}
use Rattle.api_calls.specs.Meaning.{Meaning}
use Rattle.api_calls.specs.Item.{Entry, Note, Item, entry, note}
use Rattle.api_calls.specs.Objects.{Stored, find, put, without}
use Rattle.api_calls.specs.State.{State, entry_effect, effect, next_number, revision, state}
use Rattle.api_calls.specs.Legal.{legal, guard, entry_guard}
use Rattle.api_calls.specs.Snap.{past, entry_past, item_past, floor, window}
use Rattle.api_calls.specs.laws.GrowthLaws.{next_number-more, next_number-revision, state-more, legal-more}
use Rattle.api_core.specs.View.{CoreView}
use Rattle.api_core.specs.Keeps.{KeepsObject, KeepsPast, IsFound}
use Rattle.api_core.specs.Stands.{IsPresent, IsPast, HasLimits, Stands}
use Rattle.api_core.specs.laws.PairLaws.{pairs-find, pairs-put, pairs-without}
use Rattle.api_core.proofs.Superseding.{window-same, window-more}

-- ---- numbers

-- an entry has the next number, and a note has none
pub revision-entry : (log : List Item) (e : Entry) → revision (log ++ entry e ∷ []) ≡ revision log + 1
revision-entry log e =
    let after = next_number-revision (log ++ entry e ∷ []) in
    let more = next_number-more log (entry e) in
    let before = next_number-revision log in
    omega (arith, after, more, before)

pub revision-note : (log : List Item) (x : Note) → revision (log ++ note x ∷ []) ≡ revision log
revision-note log x =
    let after = next_number-revision (log ++ note x ∷ []) in
    let more = next_number-more log (note x) in
    let before = next_number-revision log in
    omega (arith, after, more, before)

-- ---- any item

pub stands-more : (m : Meaning) (c d : CoreView) (log : List Item) (i : Item) → Stands m c log → guard m c.limits (state m log) i
    → d.limits ≡ c.limits → HasLimits d → d.revision ≡ revision (log ++ i ∷ []) → d.store.last ≤ d.revision
    → IsPresent m d (effect (next_number log) i (state m log)) → IsPast m d (log ++ i ∷ []) → Stands m d (log ++ i ∷ [])
stands-more m c d log i h g same limits number dated present past = record {
  legal = subst (λ (l : Limits). legal m l (log ++ i ∷ [])) (sym same) (legal-more m c.limits log i h.legal g);
  limits = limits;
  revision = number;
  dated = dated;
  present = subst (IsPresent m d) (sym (state-more m log i)) present;
  past = past;
}

-- ---- an entry that writes a record

-- the core after a record was written
abbrev pub written : CoreView → NewRecord → MigrationsView → CoreView
written c new ms = record c { revision = c.revision + 1; store = with_new (c.revision + 1) new c.store; migrations = ms }

-- the store after a record was written where this stood
abbrev over : ℕ → NewRecord → StoreView → Option RecordItem → StoreView
over now new s o = record (replaced now o s) { items = put_record item_key (new_item now new o) s.items; last = now }

-- the record that is written, and the object that the entry puts
pub record Puts (m : Meaning) (c : CoreView) (log : List Item) (new : NewRecord) (ms : MigrationsView) (e : Entry) : Type 0 where
  pub object : Stored
  pub plan : Plan
  pub may : entry_guard m c.limits (state m log) e
  pub effect : entry_effect (next_number log) e (state m log) ≡ record (state m log) { objects = put object (state m log).objects; plan = plan }
  pub past : entry_past (next_number log) e (state m log) ≡ past (next_number log) (find new.key (state m log).objects)
  pub keeps : KeepsObject m (new_item (c.revision + 1) new (find_record item_key new.key c.store.items)) object
  pub migrations : ms.items ≡ c.migrations.items
  pub limit : ms.limit ≡ c.migrations.limit
  pub plan_is : ms.plan ≡ plan

pub written-stands : (m : Meaning) (c : CoreView) (log : List Item) (new : NewRecord) (ms : MigrationsView) (e : Entry) → Stands m c log → Puts m c log new ms e
    → Stands m (written c new ms) (log ++ entry e ∷ [])
written-stands m c log new ms e h p =
    by (find_record item_key new.key c.store.items) refl (find new.key (state m log).objects) refl
    (pairs-find m new.key c.store.items (state m log).objects h.present.records)
  where
    number : c.revision + 1 ≡ revision (log ++ entry e ∷ [])
    number = ap (λ (n : ℕ). n + 1) h.revision ∙ sym (revision-entry log e)

    next : c.revision + 1 ≡ next_number log
    next = ap (λ (n : ℕ). n + 1) h.revision ∙ sym (next_number-revision log)

    -- where the store has these items, window and floor
    there : (s : StoreView) → s.limits ≡ c.limits → s.last ≡ c.revision + 1
        → s.items ≡ put_record item_key (new_item (c.revision + 1) new (find_record item_key new.key c.store.items)) c.store.items
        → AllPair (KeepsPast m) s.window (window c.limits m (log ++ entry e ∷ [])) → s.floor ≡ floor c.limits m (log ++ entry e ∷ [])
        → Stands m (record c { revision = c.revision + 1; store = s; migrations = ms }) (log ++ entry e ∷ [])
    there s limits last items olds floor_is =
        let records = pairs-put m (new_item (c.revision + 1) new (find_record item_key new.key c.store.items)) p.object c.store.items (state m log).objects p.keeps h.present.records in
        let its : AllPair (KeepsObject m) s.items (put p.object (state m log).objects) =
        subst (λ (xs : List RecordItem). AllPair (KeepsObject m) xs (put p.object (state m log).objects)) (sym items) records in
        let present : IsPresent m (record c { revision = c.revision + 1; store = s; migrations = ms }) (record (state m log) { objects = put p.object (state m log).objects; plan = p.plan }) = record {
          flags = h.present.flags;
          stored = h.present.stored;
          migrations = p.migrations ∙ h.present.migrations;
          plan = p.plan_is;
          records = its;
        } in
        stands-more m c (record c { revision = c.revision + 1; store = s; migrations = ms }) log (entry e) h p.may refl
        (record { store = limits; migrations = p.limit ∙ h.limits.migrations }) number (omega (arith, last))
        (subst (IsPresent m (record c { revision = c.revision + 1; store = s; migrations = ms })) (sym p.effect) present)
        (record { window = olds; floor = floor_is })

    by : (o : Option RecordItem) → find_record item_key new.key c.store.items ≡ o → (q : Option Stored) → find new.key (state m log).objects ≡ q → IsFound m o q
        → Stands m (written c new ms) (log ++ entry e ∷ [])
    by None is (Some f) at found = absurd found
    by (Some x) is None at found = absurd found
    by None is None at found =
        let none : entry_past (next_number log) e (state m log) ≡ [] = p.past ∙ ap (past (next_number log)) at in
        let same = window-same m c.limits log (entry e) none in
        let store_is : with_new (c.revision + 1) new c.store ≡ over (c.revision + 1) new c.store None = ap (over (c.revision + 1) new c.store) is in
        let items = ap (λ (o : Option RecordItem). put_record item_key (new_item (c.revision + 1) new o) c.store.items) (sym is) in
        let stands = there (over (c.revision + 1) new c.store None) h.limits.store refl items
        (subst (λ ps. AllPair (KeepsPast m) c.store.window ps) (sym same.0) h.past.window) (h.past.floor ∙ sym same.1) in
        subst (λ (s : StoreView). Stands m (record c { revision = c.revision + 1; store = s; migrations = ms }) (log ++ entry e ∷ [])) (sym store_is) stands
    by (Some x) is (Some f) at found =
        let past_is : entry_past (next_number log) e (state m log) ≡ past (next_number log) (Some f) = p.past ∙ ap (past (next_number log)) at in
        let more = window-more m c.limits log (entry e) c.store (c.revision + 1) x f h.limits.store h.past.window h.past.floor next found past_is in
        let store_is : with_new (c.revision + 1) new c.store ≡ over (c.revision + 1) new c.store (Some x) = ap (over (c.revision + 1) new c.store) is in
        let items = ap (λ (o : Option RecordItem). put_record item_key (new_item (c.revision + 1) new o) c.store.items) (sym is) in
        let stands = there (over (c.revision + 1) new c.store (Some x)) h.limits.store refl items more.0 more.1 in
        subst (λ (s : StoreView). Stands m (record c { revision = c.revision + 1; store = s; migrations = ms }) (log ++ entry e ∷ [])) (sym store_is) stands

-- ---- an entry that removes a record

-- the core after the record of a key was removed
abbrev pub dropped : CoreView → KeyView → CoreView
dropped c k = record c { revision = c.revision + 1; store = removed (c.revision + 1) k c.store }

pub dropped-stands : (m : Meaning) (c : CoreView) (log : List Item) (k : KeyView) (e : Entry) (x : RecordItem) (f : Stored) → Stands m c log
    → find_record item_key k c.store.items ≡ Some x → find k (state m log).objects ≡ Some f → KeepsObject m x f
    → entry_guard m c.limits (state m log) e
    → entry_effect (next_number log) e (state m log) ≡ record (state m log) { objects = without k (state m log).objects }
    → entry_past (next_number log) e (state m log) ≡ past (next_number log) (find k (state m log).objects)
    → Stands m (dropped c k) (log ++ entry e ∷ [])
dropped-stands m c log k e x f h is at keeps may effect_is past_is =
    subst (λ (s : StoreView). Stands m (record c { revision = c.revision + 1; store = s }) (log ++ entry e ∷ [])) (sym store_is) stands
  where
    number : c.revision + 1 ≡ revision (log ++ entry e ∷ [])
    number = ap (λ (n : ℕ). n + 1) h.revision ∙ sym (revision-entry log e)

    next : c.revision + 1 ≡ next_number log
    next = ap (λ (n : ℕ). n + 1) h.revision ∙ sym (next_number-revision log)

    store_is : removed (c.revision + 1) k c.store ≡ removed_found (c.revision + 1) k (Some x) c.store
    store_is = ap (λ (o : Option RecordItem). removed_found (c.revision + 1) k o c.store) is

    stands : Stands m (record c { revision = c.revision + 1; store = removed_found (c.revision + 1) k (Some x) c.store }) (log ++ entry e ∷ [])
    stands =
        let more = window-more m c.limits log (entry e) c.store (c.revision + 1) x f h.limits.store h.past.window h.past.floor next keeps
        (past_is ∙ ap (past (next_number log)) at) in
        let present : IsPresent m (record c { revision = c.revision + 1; store = removed_found (c.revision + 1) k (Some x) c.store }) (record (state m log) { objects = without k (state m log).objects }) = record {
          flags = h.present.flags;
          stored = h.present.stored;
          migrations = h.present.migrations;
          plan = h.present.plan;
          records = pairs-without m k c.store.items (state m log).objects h.present.records;
        } in
        stands-more m c (record c { revision = c.revision + 1; store = removed_found (c.revision + 1) k (Some x) c.store }) log (entry e) h may refl
        (record { store = h.limits.store; migrations = h.limits.migrations }) number (omega arith)
        (subst (IsPresent m (record c { revision = c.revision + 1; store = removed_found (c.revision + 1) k (Some x) c.store })) (sym effect_is) present)
        (record { window = more.0; floor = more.1 })

-- ---- an item that leaves the records

-- the core after flags, stored list, migrations or plan were changed
abbrev pub settled : CoreView → Flags → List ℕ → MigrationsView → ℕ → CoreView
settled c f vs ms r = record c { flags = f; stored = vs; migrations = ms; revision = r }

pub settled-stands : (m : Meaning) (c : CoreView) (log : List Item) (f : Flags) (vs : List ℕ) (ms : MigrationsView) (r : ℕ) (i : Item) (t : State) → Stands m c log
    → guard m c.limits (state m log) i → effect (next_number log) i (state m log) ≡ t → item_past (next_number log) i (state m log) ≡ []
    → r ≡ revision (log ++ i ∷ []) → c.revision ≤ r
    → f ≡ t.flags → vs ≡ t.stored → ms.items ≡ t.migrations → ms.plan ≡ t.plan → ms.limit ≡ c.migrations.limit → t.objects ≡ (state m log).objects
    → Stands m (settled c f vs ms r) (log ++ i ∷ [])
settled-stands m c log f vs ms r i t h may effect_is none number later flags stored items plan limit objects =
    let same = window-same m c.limits log i none in
    let records = subst (λ (es : List Stored). AllPair (KeepsObject m) c.store.items es) (sym objects) h.present.records in
    let dated = h.dated in
    let present : IsPresent m (settled c f vs ms r) t = record { flags = flags; stored = stored; migrations = items; plan = plan; records = records } in
    stands-more m c (settled c f vs ms r) log i h may refl (record { store = h.limits.store; migrations = limit ∙ h.limits.migrations }) number (omega (arith, dated, later))
    (subst (IsPresent m (settled c f vs ms r)) (sym effect_is) present)
    (record { window = subst (λ ps. AllPair (KeepsPast m) c.store.window ps) (sym same.0) h.past.window; floor = h.past.floor ∙ sym same.1 })
