-- For private clauses: that what stands inside rules fits, and inner objects put before others.
use Rattle.std.specs.Prelude.{ℕ, suc, List, [], ◌∷◌}
use Rattle.struct_schema.specs.Shape.{Shape}
use Rattle.hub_cells.specs.Level.{Inners, inner}
use Rattle.hub_cells.specs.Fit.{IsFitted}
use Rattle.hub_cells.specs.declared.fitted.Inner.{Inner}
use Rattle.hub_rules.specs.Rule.{Rule, same, within, spoke_only, hub_only, split, table, scale, Rules, no_rules, rule}
use Rattle.hub_rules.specs.Refusal.{node_at}
use Rattle.hub_fit.specs.Chosen.{fit_of}

abbrev pub InnerFits : ℕ → Shape → Shape → Rule → Type 0
InnerFits n s h (same a b) = Unit {0}
InnerFits n s h (within a b ts) = IsFitted (fit_of (suc n) (node_at a s) (node_at b h) ts)
InnerFits n s h (spoke_only a) = Unit {0}
InnerFits n s h (hub_only b) = Unit {0}
InnerFits n s h (split a b c) = Unit {0}
InnerFits n s h (table a b ps x y) = Unit {0}
InnerFits n s h (scale a b k) = Unit {0}

abbrev pub AllInnerFit : ℕ → Shape → Shape → Rules → Type 0
AllInnerFit n s h no_rules = Unit {0}
AllInnerFit n s h (rule r rs) = InnerFits n s h r × AllInnerFit n s h rs

abbrev pub joined : List Inner → Inners → Inners
joined [] is = is
joined (x ∷ xs) is = inner x.spoke.bytes x.hub.bytes x.required x.fitted.level (joined xs is)
