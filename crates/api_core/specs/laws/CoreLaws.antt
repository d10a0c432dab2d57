-- Laws of a core at a later turn: what its calls ask of a prepared value is had from what was seen or told at an earlier one.
use Rattle.std.specs.Prelude.{◌≡◌, ◌≢◌, ℕ, List, ◌++◌, Option, None, Some, IsTrue, option_map}
use Rattle.std.proofs.Common.{refl, ap, sym, ◌∙◌, subst}
use Rattle.kube_meta.specs.Key.{KeyView}
use Rattle.record_store.specs.ByKey.{find as find_record}
use Rattle.record_store.specs.View.{Item as RecordItem, item_key}
use Rattle.migrate_core.specs.declared.records.Row.{Row}
use Rattle.migrate_core.specs.Rows as rows
use Rattle.migrate_core.specs.Moves as moves
use Rattle.api_calls.specs.Meaning.{Meaning}
use Rattle.api_calls.specs.Item.{Item}
use Rattle.api_calls.specs.Objects.{Stored, find, elsewhere}
use Rattle.api_calls.specs.State.{state}
use Rattle.api_calls.specs.Work.{Work, work_of}
use Rattle.api_calls.specs.inner.WorkGuards.{IsPrepared}
use Rattle.api_core.specs.declared.seen.Prepared.{Prepared}
use Rattle.api_core.specs.View.{CoreView}
use Rattle.api_core.specs.Keeps.{IsFound}
use Rattle.api_core.specs.Stands.{Stands}
use Rattle.api_core.specs.Prepared.{FitsAt, KnownAt}
use Rattle.api_core.specs.laws.PairLaws.{pairs-find}
use Rattle.api_core.specs.laws.WorkRows.{row_of, elsewhere-rows}
use Rattle.api_core.specs.Steps.{migrations-stand, rows-stand}
use Rattle.api_core.specs.Ready.{IsFirst, IsNext}
use Rattle.api_core.specs.laws.KeptLaws.{find-key}
use Rattle.api_core.specs.laws.ListLaws.{states-one_value}
use Rattle.api_core.specs.laws.PreparedLaws.{stays-first}

-- an object that stands at the number at which one was seen is the one that was seen
pub same-later : (m : Meaning) (log more : List Item) (k : KeyView) (e f : Stored) → find k (state m log).objects ≡ Some e → find k (state m (log ++ more)).objects ≡ Some f → f.number ≡ e.number
    → e ≡ f
same-later m log more k e f seen there at =
    states-one_value m log more e f
    (subst (λ (j : KeyView). find j (state m log).objects ≡ Some e) (sym (find-key k (state m log).objects e seen)) seen)
    (subst (λ (j : KeyView). find j (state m (log ++ more)).objects ≡ Some f) (sym (find-key k (state m (log ++ more)).objects f there)) there)
    (sym at)

-- what was known of it is known later
pub known-later : (m : Meaning) (log more : List Item) (k : KeyView) (e : Stored) (P : Stored → Type 0) → find k (state m log).objects ≡ Some e → (IsTrue m.honest → P e)
    → KnownAt m (log ++ more) k e.number P
known-later m log more k e P seen known f there at honest = subst P (same-later m log more k e f seen there at) (known honest)

-- what was prepared for it fits it later
pub fits-later : (m : Meaning) (c : CoreView) (log more : List Item) (k : KeyView) (e : Stored) (p : Prepared) → Stands m c (log ++ more) → find k (state m log).objects ≡ Some e
    → p.key ≡ k → p.weight ≡ e.weight → FitsAt k e.number p (find_record item_key k c.store.items)
fits-later m c log more k e p st seen key weight =
    by (find_record item_key k c.store.items) (find k (state m (log ++ more)).objects) refl (pairs-find m k c.store.items (state m (log ++ more)).objects st.present.records)
  where
    by : (x : Option RecordItem) (f : Option Stored) → find k (state m (log ++ more)).objects ≡ f → IsFound m x f → FitsAt k e.number p x
    by None f there found = tt
    by (Some x) None there found = absurd found
    by (Some x) (Some f) there found = λ at. (
        let same = same-later m log more k e f seen there (sym found.number ∙ at) in
        (key, weight ∙ ap (λ (g : Stored). g.weight) same ∙ sym found.weight)
        )

-- what a worker was told to prepare comes next later
pub next-later : (m : Meaning) (c : CoreView) (log more : List Item) (claim : Option ℕ) (k : KeyView) (number : ℕ) → Stands m c (log ++ more) → IsPrepared claim k number (state m log)
    → IsNext (moves.work_of claim c.migrations) k c.store.items (find_record item_key k c.store.items)
next-later m c log more claim k number st p =
    let work : moves.work_of claim c.migrations ≡ work_of claim (state m (log ++ more)) = ap (moves.work_of claim) (migrations-stand m c (log ++ more) st) in
    subst (λ (o : Option Work). IsNext o k c.store.items (find_record item_key k c.store.items)) (sym work)
    (by (work_of claim (state m (log ++ more))) refl (find_record item_key k c.store.items) (find k (state m (log ++ more)).objects) refl
    (pairs-find m k c.store.items (state m (log ++ more)).objects st.present.records))
  where
    first : (w : Work) → work_of claim (state m (log ++ more)) ≡ Some w → (e : Stored) → find k (state m (log ++ more)).objects ≡ Some e → e.at ≢ w.target → IsFirst w k c.store.items
    first w held e there away = record {
      row = row_of e;
      first = ap (λ (rs : List Row). rows.elsewhere w.span w.target rs) (rows-stand m c (log ++ more) st)
          ∙ elsewhere-rows w.span w.target (state m (log ++ more)).objects
          ∙ ap (option_map row_of) (stays-first m c.limits log more claim k number st.legal p w held e there away);
      under = find-key k (state m (log ++ more)).objects e there;
    }

    by : (o : Option Work) → work_of claim (state m (log ++ more)) ≡ o → (x : Option RecordItem) (e : Option Stored) → find k (state m (log ++ more)).objects ≡ e → IsFound m x e
        → IsNext o k c.store.items x
    by None held x e there found = tt
    by (Some w) held None e there found = tt
    by (Some w) held (Some x) None there found = absurd found
    by (Some w) held (Some x) (Some e) there found = λ away. first w held e there (λ same. away (found.at ∙ same))
