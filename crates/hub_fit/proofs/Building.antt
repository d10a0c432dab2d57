-- What building needs of the refusals, one step at a time.
use Rattle.std.proofs.Common.{◌≡◌, ℕ, List, [], ◌∷◌, ◌++◌, Bool, true, ◌&&◌, Option, Some, None, refl, ap}
use Rattle.std.specs.Prelude.{option_map}
use Rattle.struct_schema.specs.Shape.{Shape}
use Rattle.hub_cells.specs.Level.{Name, Inners, no_inner, inner}
use Rattle.hub_cells.specs.SeenFit.{inners_of}
use Rattle.hub_cells.specs.declared.fitted.Inner.{Inner}
use Rattle.hub_rules.specs.Rule.{Rule, within, Rules, rule}
use Rattle.hub_rules.specs.Refusal.{Spot, Fault, told, node_at, is_closed, alike_required, schema_passes, refused, schema_differs, head_spot, twice, missing, schema_spot, level_spot, level_fault, within_fault, inner_fault, fault, under, root_fault, at_root, fit_fault}
use Rattle.hub_cells.specs.Level.{Cell, Level, level}
use Rattle.hub_cells.specs.Fit.{IsFitted}
use Rattle.hub_fit.specs.Chosen as chosen
use Rattle.hub_fit.specs.Chosen.{cells_of, fit_of, level_of}
use Rattle.hub_fit.specs.inner.InnerFits.{joined}
use Rattle.hub_fit.proofs.CellFits.{and_left, and_right}
use Rattle.hub_fit.proofs.Holds.{none_left, none_right, passed, passed_on}

no_told : (o : Option Spot) → option_map told o ≡ None → o ≡ None
no_told None e = refl
no_told (Some p) e = absurd (cc)

no_under : (a b : Name) (o : Option Fault) → under a b o ≡ None → o ≡ None
no_under a b None e = refl
no_under a b (Some f) e = absurd (cc)

pub no_level : (s h : Shape) (rs : Rules) → fault s h rs ≡ None → level_spot s h rs ≡ None
no_level s h rs e = no_told (level_spot s h rs) (none_left (level_fault s h rs) (inner_fault s h rs) e)

pub no_inner_fault : (s h : Shape) (rs : Rules) → fault s h rs ≡ None → inner_fault s h rs ≡ None
no_inner_fault s h rs e = none_right (level_fault s h rs) (inner_fault s h rs) e

pub no_within : (s h : Shape) (a b : Name) (ts : Rules) → within_fault s h (within a b ts) ≡ None → fault (node_at a s) (node_at b h) ts ≡ None
no_within s h a b ts e = no_under a b (fault (node_at a s) (node_at b h) ts) e

pub closed_spoke : (s h : Shape) (a b : Name) (ts : Rules) → schema_passes s h (within a b ts) ≡ true → is_closed (node_at a s) ≡ true
closed_spoke s h a b ts e =
    and_left (is_closed (node_at a s)) (is_closed (node_at b h)) (and_left (is_closed (node_at a s) && is_closed (node_at b h)) (alike_required a b s h) e)

pub closed_hub : (s h : Shape) (a b : Name) (ts : Rules) → schema_passes s h (within a b ts) ≡ true → is_closed (node_at b h) ≡ true
closed_hub s h a b ts e =
    and_right (is_closed (node_at a s)) (is_closed (node_at b h)) (and_left (is_closed (node_at a s) && is_closed (node_at b h)) (alike_required a b s h) e)

pub here_passes : (s h : Shape) (r : Rule) (rs : Rules) → refused schema_differs s h (rule r rs) ≡ None → schema_passes s h r ≡ true
here_passes s h r rs e = passed (schema_passes s h r) (refused schema_differs s h rs) (head_spot schema_differs r) e

pub later_pass : (s h : Shape) (r : Rule) (rs : Rules) → refused schema_differs s h (rule r rs) ≡ None → refused schema_differs s h rs ≡ None
later_pass s h r rs e = passed_on (schema_passes s h r) (refused schema_differs s h rs) (head_spot schema_differs r) e

pub joined_push : (xs : List Inner) (x : Inner) (is : Inners) → joined (xs ++ x ∷ []) is ≡ joined xs (inner x.spoke.bytes x.hub.bytes x.required x.fitted.level is)
joined_push [] x is = refl
joined_push (y ∷ xs) x is = ap (inner y.spoke.bytes y.hub.bytes y.required y.fitted.level) (joined_push xs x is)

pub joined_all : (xs : List Inner) → joined xs no_inner ≡ inners_of xs
joined_all [] = refl
joined_all (y ∷ xs) = ap (inner y.spoke.bytes y.hub.bytes y.required y.fitted.level) (joined_all xs)

pub root_closed : (s h : Shape) (rs : Rules) → fit_fault s h rs ≡ None → (is_closed s ≡ true) × (is_closed h ≡ true) × (fault s h rs ≡ None)
root_closed s h rs e =
    let root = none_left (root_fault s h) (fault s h rs) e in
    let both : (is_closed s && is_closed h) ≡ true = passed (is_closed s && is_closed h) _ (at_root schema_differs) root in
    (and_left (is_closed s) (is_closed h) both, and_right (is_closed s) (is_closed h) both, none_right (root_fault s h) (fault s h rs) e)

pub built : (n : ℕ) (s h : Shape) (rs : Rules) (u v : Shape) (cs : List Cell) (is : Inners) → u ≡ s → v ≡ h → cs ≡ cells_of n s h rs → is ≡ chosen.inners_of n s h rs → IsFitted (fit_of n s h rs) → IsFitted (record { spoke = u; hub = v; depth = n; level = level cs is })
built n s h rs u v cs is e f g i t = rw (e, f, g, i) t

pub inner_same : (a b c d : Name) (r q : Bool) (l m : Level) (is : Inners) → a ≡ c → b ≡ d → r ≡ q → l ≡ m → inner a b r l is ≡ inner c d q m is
inner_same a b c d r q l m is e f g i = cc

pub level_same : (m n : ℕ) (s t h u : Shape) (rs : Rules) → m ≡ n → s ≡ t → h ≡ u → level_of m s h rs ≡ level_of n t u rs
level_same m n s t h u rs e f g = rw (e, f, g) refl

pub no_refused : (s h : Shape) (rs : Rules) → fault s h rs ≡ None → refused schema_differs s h rs ≡ None
no_refused s h rs e =
    none_left (refused schema_differs s h rs) _ (none_left (schema_spot s h rs) _ (none_right (missing s h rs) _ (none_right (twice rs) _ (no_level s h rs e))))

pub built_is : (n : ℕ) (s h : Shape) (rs : Rules) (u v : Shape) (cs : List Cell) (is : Inners) → u ≡ s → v ≡ h → cs ≡ cells_of n s h rs → is ≡ chosen.inners_of n s h rs
    → record { spoke = u; hub = v; depth = n; level = level cs is } ≡ fit_of n s h rs
built_is n s h rs u v cs is e f g i = rw (e, f, g, i) refl
