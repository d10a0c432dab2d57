-- A core's migrations and records as those of the state that it stands for, and how it goes on by an item that leaves every record as it is.
use Rattle.std.specs.Prelude.{◌≡◌, ℕ, ◌+◌, ◌≤◌, List, [], ◌∷◌, ◌++◌, map}
use Rattle.std.proofs.Common.{refl, ap, sym, ◌∙◌, subst, arith, append-nil}
use Rattle.kube_meta.specs.WindowPairs.{AllPair}
use Rattle.kube_meta.specs.Window.{floor_from, newest}
use Rattle.record_store.specs.View.{Item as RecordItem}
use Rattle.migrate_core.specs.declared.records.Row.{Row}
use Rattle.migrate_core.specs.View.{MigrationsView}
use Rattle.api_calls.specs.declared.flags.Flags.{Flags}
use Rattle.api_calls.specs.Meaning.{Meaning}
use Rattle.api_calls.specs.Item.{Item}
use Rattle.api_calls.specs.Objects.{Stored}
use Rattle.api_calls.specs.State.{State, effect, number_after, next_number, state}
use Rattle.api_calls.specs.Legal.{guard}
use Rattle.api_calls.specs.Snap.{Past, by_number, past_weight, item_past, superseded}
use Rattle.api_calls.specs.laws.GrowthLaws.{next_number-more, next_number-revision, state-more, legal-more, superseded-more}
use Rattle.api_core.specs.View.{CoreView}
use Rattle.api_core.specs.Keeps.{KeepsObject, KeepsPast}
use Rattle.api_core.specs.Stands.{IsPresent, Stands}
use Rattle.api_core.specs.laws.WorkRows.{row_of, rows_of, migrations_of}

-- ---- the parts

pub migrations-stand : (m : Meaning) (c : CoreView) (log : List Item) → Stands m c log → c.migrations ≡ migrations_of c.limits (state m log)
migrations-stand m c log st = λ i. record { items = st.present.migrations i; plan = st.present.plan i; limit = st.limits.migrations i }

-- a record of the store as a migration reads it
abbrev pub item_row : RecordItem → Row
item_row x = record { key = x.key; at = x.at; rv = x.rv }

pub rows-pair : (m : Meaning) (xs : List RecordItem) (es : List Stored) → AllPair (KeepsObject m) xs es → map item_row xs ≡ rows_of es
rows-pair m [] [] p = refl
rows-pair m (x ∷ xs) (e ∷ es) p =
    let row : item_row x ≡ row_of e = λ i. record { key = p.0.key i; at = p.0.at i; rv = p.0.number i } in
    ap (λ (r : Row). r ∷ map item_row xs) row ∙ ap (λ (rs : List Row). row_of e ∷ rs) (rows-pair m xs es p.1)
rows-pair m [] (e ∷ es) p = absurd p
rows-pair m (x ∷ xs) [] p = absurd p

pub rows-stand : (m : Meaning) (c : CoreView) (log : List Item) → Stands m c log → map item_row c.store.items ≡ rows_of (state m log).objects
rows-stand m c log st = rows-pair m c.store.items (state m log).objects st.present.records

-- ---- one item more

-- what an item makes of a state whose objects it leaves
pub record LeavesObjects (m : Meaning) (log : List Item) (i : Item) : Type 0 where
  pub objects : (effect (next_number log) i (state m log)).objects ≡ (state m log).objects
  pub past : item_past (next_number log) i (state m log) ≡ []

pub stands-still : (m : Meaning) (c : CoreView) (log : List Item) (i : Item) (f : Flags) (ss : List ℕ) (r : ℕ) (ms : MigrationsView)
    → Stands m c log → guard m c.limits (state m log) i → LeavesObjects m log i
    → number_after (next_number log) i ≡ r + 1 → c.revision ≤ r
    → f ≡ (effect (next_number log) i (state m log)).flags
    → ss ≡ (effect (next_number log) i (state m log)).stored
    → ms ≡ migrations_of c.limits (effect (next_number log) i (state m log))
    → Stands m (record c { flags = f; stored = ss; revision = r; migrations = ms }) (log ++ i ∷ [])
stands-still m c log i f ss r ms st g leaves number later f_is ss_is ms_is = record {
  legal = legal-more m c.limits log i st.legal g;
  limits = record { store = st.limits.store; migrations = ap (λ (v : MigrationsView). v.limit) ms_is };
  revision =
      let more = next_number-more log i in
      let last = next_number-revision (log ++ i ∷ []) in
      omega (arith, more, last, number);
  dated = let dated = st.dated in omega (arith, dated, later);
  present = subst (λ (s : State). IsPresent m (record c { flags = f; stored = ss; revision = r; migrations = ms }) s) (sym (state-more m log i)) (record {
    flags = f_is;
    stored = ss_is;
    migrations = ap (λ (v : MigrationsView). v.items) ms_is;
    plan = ap (λ (v : MigrationsView). v.plan) ms_is;
    records = subst (λ (es : List Stored). AllPair (KeepsObject m) c.store.items es) (sym leaves.objects) st.present.records;
  });
  past = record {
    window = subst (λ (ps : List Past). AllPair (KeepsPast m) c.store.window (newest past_weight c.limits ps)) (sym same) st.past.window;
    floor = st.past.floor ∙ ap (λ (ps : List Past). floor_from by_number past_weight c.limits 1 ps) (sym same);
  };
}
  where
    same : superseded m (log ++ i ∷ []) ≡ superseded m log
    same = superseded-more m log i ∙ ap (λ (ps : List Past). superseded m log ++ ps) leaves.past ∙ append-nil (superseded m log)

-- a core whose migrations are those of another stands for the same list
pub stands-same : (m : Meaning) (c : CoreView) (log : List Item) (ms : MigrationsView) → Stands m c log → ms ≡ migrations_of c.limits (state m log)
    → Stands m (record c { migrations = ms }) log
stands-same m c log ms st is =
    let same : c.migrations ≡ ms = migrations-stand m c log st ∙ sym is in
    subst (λ (v : MigrationsView). Stands m (record c { migrations = v }) log) same st

-- the next entry's number is the one behind the revision
pub number-stand : (m : Meaning) (c : CoreView) (log : List Item) → Stands m c log → next_number log ≡ c.revision + 1
number-stand m c log st = next_number-revision log ∙ ap (λ (n : ℕ). n + 1) (sym st.revision)
