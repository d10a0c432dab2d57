-- What is known of the objects of a list is known of the records of a core that stands for it.
use Rattle.std.specs.Prelude.{◌≡◌, ℕ, ◌+◌, List, Option, None, Some}
use Rattle.std.proofs.Common.{sym, ◌∙◌, subst}
use Rattle.kube_meta.specs.Key.{KeyView}
use Rattle.record_store.specs.ByKey.{find as find_record}
use Rattle.record_store.specs.View.{Item as RecordItem, item_key}
use Rattle.migrate_core.specs.Moves as moves
use Rattle.api_calls.specs.Meaning.{Meaning}
use Rattle.api_calls.specs.Item.{Item}
use Rattle.api_calls.specs.Objects.{Stored, find}
use Rattle.api_calls.specs.State.{revision, state}
use Rattle.api_calls.specs.inner.WorkGuards.{turn-prepares}
use Rattle.api_core.specs.declared.seen.Prepared.{Prepared}
use Rattle.api_core.specs.View.{CoreView}
use Rattle.api_core.specs.Keeps.{IsFound}
use Rattle.api_core.specs.Stands.{Stands}
use Rattle.api_core.specs.Prepared.{FitsAt}
use Rattle.api_core.specs.laws.PairLaws.{pairs-find}
use Rattle.api_core.specs.Ready.{IsNext}
use Rattle.api_core.specs.laws.CoreLaws.{next-later}
use Rattle.core_laws.specs.Known.{Matches, WasAsked}

found-fits : (m : Meaning) (k : KeyView) (expected : ℕ) (p : Prepared) (x : Option RecordItem) (e : Option Stored) → IsFound m x e → Matches k expected p e → FitsAt k expected p x
found-fits m k expected p None None f h = tt
found-fits m k expected p None (Some e) f h = absurd f
found-fits m k expected p (Some x) None f h = absurd f
found-fits m k expected p (Some x) (Some e) f h = λ at. (let both = h (sym f.number ∙ at) in (both.0, both.1 ∙ sym f.weight))

pub fits : (m : Meaning) (c : CoreView) (log : List Item) → Stands m c log → (k : KeyView) (expected : ℕ) (p : Prepared)
    → Matches k expected p (find k (state m log).objects) → FitsAt k expected p (find_record item_key k c.store.items)
fits m c log st k expected p h =
    found-fits m k expected p (find_record item_key k c.store.items) (find k (state m log).objects)
    (pairs-find m k c.store.items (state m log).objects st.present.records) h

-- what a worker was told to prepare comes next, whatever was entered since
pub next : (m : Meaning) (c : CoreView) (log : List Item) → Stands m c log → (claim : Option ℕ) (k : KeyView) (number : ℕ) → WasAsked m log claim k number
    → IsNext (moves.work_of claim c.migrations) k c.store.items (find_record item_key k c.store.items)
next m c log st claim k number asked =
    next-later m c asked.before asked.since claim k number (subst (Stands m c) (sym asked.goes_on) st)
    (turn-prepares (revision asked.before + 1) (state m asked.before) claim k number asked.told)
