-- What the caller of a turn knows of the object that it prepared, and when that is touched.
use Rattle.std.specs.Prelude.{◌≡◌, ◌≢◌, ℕ, Bool, false, not, ◌&&◌, List, Option, None, Some, map, nat_eq}
use Rattle.std.proofs.Common.{refl}
use Rattle.kube_meta.specs.Key.{KeyView}
use Rattle.record_store.specs.View.{Item as RecordItem}
use Rattle.migrate_core.specs.declared.records.Row.{Row}
use Rattle.migrate_core.specs.Rows.{elsewhere}
use Rattle.migrate_core.specs.declared.ends.Advance.TheVariants as advance
use Rattle.migrate_core.specs.Moves.{Work, advance_end, next_step}
use Rattle.api_core.specs.declared.ends.TurnEnd.{TurnEnd}
use Rattle.api_core.specs.declared.ends.TurnEnd.TheVariants as turn
use Rattle.api_core.specs.Steps.{item_row}

-- a record stands at a number and elsewhere, and was prepared for the target
abbrev pub is_ready_item : ℕ → ℕ → ℕ → Option RecordItem → Bool
is_ready_item rv at target None = false
is_ready_item rv at target (Some x) = nat_eq x.rv rv && not (nat_eq x.at target) && nat_eq at target

-- the first record of a claim's range that stands elsewhere has this key
pub record IsFirst (w : Work) (k : KeyView) (xs : List RecordItem) : Type 0 where
  pub row : Row
  pub first : elsewhere w.span w.target (map item_row xs) ≡ Some row
  pub under : row.key ≡ k

-- where the claim is held and the key's record stands elsewhere, the key is the first such key of the claim's range
abbrev pub IsNext : Option Work → KeyView → List RecordItem → Option RecordItem → Type 0
IsNext None k xs o = Unit {0}
IsNext (Some w) k xs None = Unit {0}
IsNext (Some w) k xs (Some x) = x.at ≢ w.target → IsFirst w k xs

-- ---- what a turn tells to prepare

-- of the end that tells a key and its number
abbrev pub IfPrepare : TurnEnd → (KeyView → Type 0) → Type 0
IfPrepare turn.Idle P = Unit {0}
IfPrepare turn.Claimed P = Unit {0}
IfPrepare (turn.Prepare k rv) P = P k
IfPrepare (turn.Touched rv) P = Unit {0}
IfPrepare turn.Moved P = Unit {0}
IfPrepare turn.RangeDone P = Unit {0}
IfPrepare (turn.Finished rv) P = Unit {0}

-- the key that an advance tells is the first of the claim's range that stands elsewhere
pub next-advance : (w : Option Work) (k : KeyView) (rv : ℕ) (xs : List RecordItem) (o : Option RecordItem) → advance.Prepare k rv ≡ advance_end w (map item_row xs) → IsNext w k xs o
next-advance None k rv xs o is = cc
next-advance (Some w) k rv xs None is = tt
next-advance (Some w) k rv xs (Some x) is = λ other. by (elsewhere w.span w.target (map item_row xs)) refl is
  where
    by : (r : Option Row) → elsewhere w.span w.target (map item_row xs) ≡ r → advance.Prepare k rv ≡ next_step r → IsFirst w k xs
    by None first is = cc
    by (Some r) first is = record { row = r; first = first; under = (let e : r.key ≡ k = cc in e) }
