-- The records of a store as rows: their order, and the next one.
use Rattle.std.proofs.Common.{◌≡◌, ◌∙◌, List, [], ◌∷◌, Option, None, Some, Bool, true, false, cond, not, refl, ap, sym, map}
use Rattle.std.specs.Prelude.{find as first, option_map, if◌then◌else◌}
use Rattle.kube_meta.specs.Key.{KeyView}
use Rattle.kube_meta.specs.Plan.{Bound, passed}
use Rattle.record_store.specs.ByKey as by_key
use Rattle.record_store.specs.declared.row.Record.{Record}
use Rattle.record_store.specs.View.{Item, item_key, record_of}
use Rattle.migrate_core.specs.declared.records.Row.{Row}
use Rattle.migrate_core.specs.Rows as rows
use Rattle.api_core.specs.Steps.{item_row}

pub rows-rise : (xs : List Item) → by_key.KeysRise (map item_key xs) → rows.KeysRise (rows.keys (map item_row xs))
rows-rise [] h = tt
rows-rise (x ∷ []) h = (tt, tt)
rows-rise (x ∷ y ∷ xs) h = (h.0, rows-rise (y ∷ xs) h.1)

first-rows : (b : Bound) (xs : List Item) → rows.first_behind b (map item_row xs) ≡ option_map item_row (first (λ x. not (passed b x.key)) xs)
first-rows b [] = refl
first-rows b (x ∷ xs) = by (passed b x.key) (first-rows b xs)
  where
    by : (c : Bool) → rows.first_behind b (map item_row xs) ≡ option_map item_row (first (λ x. not (passed b x.key)) xs)
        → (if c then rows.first_behind b (map item_row xs) else Some (item_row x)) ≡ option_map item_row (cond (not c) (Some x) (first (λ x. not (passed b x.key)) xs))
    by true more = more
    by false more = refl

abbrev told : KeyView × Record → Row
told p = record { key = p.0; at = p.1.at; rv = p.1.rv }

abbrev both : Item → KeyView × Record
both x = (x.key, record_of x)

pub next-rows : (b : Bound) (xs : List Item) (o : Option (KeyView × Record)) → o ≡ option_map (λ x. (x.key, record_of x)) (first (λ x. not (passed b x.key)) xs)
    → option_map told o ≡ rows.first_behind b (map item_row xs)
next-rows b xs o is = ap (option_map told) is ∙ by (first (λ x. not (passed b x.key)) xs) ∙ sym (first-rows b xs)
  where
    by : (p : Option Item) → option_map told (option_map both p) ≡ option_map item_row p
    by None = refl
    by (Some x) = refl
