-- The objects of a state as a migration reads them, and the migrations of a state: what the migrations' calls say of these is what the state's words say of the objects.
use Rattle.std.specs.Prelude.{◌≡◌, ℕ, Bool, true, false, not, ◌&&◌, List, [], ◌∷◌, Option, None, Some, map, option_map, nat_eq, if◌then◌else◌}
use Rattle.std.proofs.Common.{refl, ap}
use Rattle.kube_meta.specs.Key.{KeyView}
use Rattle.kube_meta.specs.Plan.{Span, Migration, in_span, running, span_of}
use Rattle.kube_meta.specs.declared.limits.Limits.{Limits}
use Rattle.migrate_core.specs.declared.records.Row.{Row}
use Rattle.migrate_core.specs.View.{MigrationsView}
use Rattle.migrate_core.specs.Rows as rows
use Rattle.api_calls.specs.Objects.{Stored, elsewhere, keys}
use Rattle.api_calls.specs.State.{State}
use Rattle.api_calls.specs.Work.{Work, work_in, work_under, work_of}

-- an object as a migration reads it
abbrev pub row_of : Stored → Row
row_of e = record { key = e.key; at = e.at; rv = e.number }

abbrev pub rows_of : List Stored → List Row
rows_of es = map row_of es

-- the migrations of a state, with their limit
abbrev pub migrations_of : Limits → State → MigrationsView
migrations_of limits s = record { items = s.migrations; plan = s.plan; limit = limits.migrations }

-- ---- keys and records that stand elsewhere

pub keys-rows : (es : List Stored) → rows.keys (rows_of es) ≡ keys es
keys-rows [] = refl
keys-rows (e ∷ es) = ap (λ (ks : List KeyView). e.key ∷ ks) (keys-rows es)

pub elsewhere-rows : (r : Span) (v : ℕ) (es : List Stored) → rows.elsewhere r v (rows_of es) ≡ option_map row_of (elsewhere r v es)
elsewhere-rows r v [] = refl
elsewhere-rows r v (e ∷ es) = by (in_span r e.key && not (nat_eq e.at v)) (elsewhere-rows r v es)
  where
    by : (b : Bool) → rows.elsewhere r v (rows_of es) ≡ option_map row_of (elsewhere r v es)
        → (if b then Some (row_of e) else rows.elsewhere r v (rows_of es)) ≡ option_map row_of (if b then Some e else elsewhere r v es)
    by true more = refl
    by false more = more

-- ---- the work of a claim

-- the work of a worker is that of its claim
pub work_of-claim : (c : Option ℕ) (s : State) (w : Work) → work_of c s ≡ Some w → c ≡ Some w.claim
work_of-claim None s w is = cc
work_of-claim (Some c) s w is = by (running s.migrations) is
  where
    with_span : (q : Migration) (o : Option Span) → work_in c q.target o ≡ Some w → Some c ≡ Some w.claim
    with_span q None is = cc
    with_span q (Some r) is =
        let it : record { claim = c; span = r; target = q.target } ≡ w = cc in
        ap (λ (x : Work). Some x.claim) it

    by : (o : Option Migration) → work_under o c s.plan.slots ≡ Some w → Some c ≡ Some w.claim
    by None is = cc
    by (Some q) is = with_span q (span_of c s.plan.slots) is
