use Rattle.std.proofs.Common.{◌≡◌, ◌<◌, ◌≤◌, ◌+◌, ℕ, suc, List, ◌∷◌, map, drop, drop-cons, None, true, refl, ap, ap₂, sym, subst, ◌∙◌, arith}
use Rattle.std.proofs.lemmas.List.{at_drop_all, drop_all}
use Rattle.struct_schema.specs.Shape.{Shape}
use Rattle.struct_schema.specs.ShapeOf.{shape_of}
use Rattle.hub_cells.specs.Fit.{Fit, IsFitted}
use Rattle.hub_cells.specs.declared.fitted.Inner.{Inner}
use Rattle.hub_rules.specs.Rule.{Rule, Rules, within, rules_of, inner_depth, rule_depth}
use Rattle.hub_rules.specs.Seen.{rule}
use Rattle.hub_rules.specs.laws.Inside.{line_depth}
use Rattle.hub_rules.specs.declared.rules.Line.{Line}
use Rattle.hub_rules.specs.Refusal.{is_closed, fault, inner_fault, within_fault, refused, schema_differs, schema_passes, node_at}
use Rattle.hub_fit.specs.Chosen.{cells_of, fit_of, with_inner, inners_of}
use Rattle.hub_fit.specs.inner.InnerFits.{InnerFits, AllInnerFit, joined}
use Rattle.hub_fit.proofs.Holds.{none_left, none_right}
use Rattle.hub_fit.proofs.LevelFits.{level_fits}
use Rattle.hub_fit.proofs.Building.{built, built_is, no_refused, no_inner_fault, inner_same, level_same, no_level, no_within, closed_spoke, closed_hub, here_passes, later_pass, joined_push, joined_all}
use Rattle.hub_fit.proofs.fitting.+build.Goals as goal

pub build-new-requires : goal.build-new-requires
build-new-requires t c =
    let n = c.args.depth in
    let s = shape_of c.args.s.now in
    let h = shape_of c.args.h.now in
    let rs = rules_of c.args.rules.now in
    let same = c.as_slice-lines.ensures.value in
    let inside : AllInnerFit n s h rs = subst (λ (x : List Rule). AllInnerFit n s h (rules_of x)) same c.in_ok-inner.ensures.fitted in
    let whole : IsFitted (fit_of n s h rs) = level_fits n s h rs c.names_differ.ensures c.as_slice-lines.ensures.sound c.requires.spoke c.requires.hub (no_level s h rs c.requires.fits) inside in
    built n s h rs _ _ _ _ c.in_ok-spoke.ensures c.in_ok-hub.ensures (c.in_ok-cells.ensures ∙ ap (λ (x : List Rule). cells_of n s h (rules_of x)) same) (c.in_ok-inner.ensures.inners ∙ ap (λ (x : List Rule). inners_of n s h (rules_of x)) same) whole

pub build-returns-clause-fitted : goal.build-returns-clause-fitted
build-returns-clause-fitted t c =
    let n = c.args.depth in
    let s = shape_of c.args.s.now in
    let h = shape_of c.args.h.now in
    let rs = rules_of c.args.rules.now in
    let inside : AllInnerFit n s h rs = subst (λ (x : List Rule). AllInnerFit n s h (rules_of x)) c.as_slice-lines.ensures.value c.in_ok-inner.ensures.fitted in
    level_fits n s h rs c.names_differ.ensures c.as_slice-lines.ensures.sound c.requires.spoke c.requires.hub (no_level s h rs c.requires.fits) inside

pub inner-push_inner-requires : goal.inner-push_inner-requires
inner-push_inner-requires t c =
    let i = c.loop-line.line-index in
    let s = shape_of c.args.s.now in
    let h = shape_of c.args.h.now in
    let item = c.line-item.result in
    let rest = drop (i + 1) c.args.lines.now in
    let next : suc i ≡ i + 1 = omega arith in
    let step : drop i c.args.lines.now ≡ item ∷ rest =
    drop-cons c.args.lines.now i item c.loop-line-test.true ∙ ap₂ (λ (y : Line) (m : ℕ). y ∷ drop m c.args.lines.now) (sym c.line-item.is) next in
    let d : rule_depth (rule item) ≤ inner_depth (rules_of (map rule c.args.lines.now)) = line_depth c.args.lines.now (map rule c.args.lines.now) i item refl c.loop-line-test.true c.line-item.is in
    let p = subst (λ (ls : List Line). refused schema_differs s h (rules_of (map rule ls)) ≡ None) step c.loop-line.invariant.schemas in
    let q = subst (λ (ls : List Line). inner_fault s h (rules_of (map rule ls)) ≡ None) step c.loop-line.invariant.fits in
    (omega (arith, d), (here_passes s h (rule item) (rules_of (map rule rest)) p, (none_left (within_fault s h (rule item)) (inner_fault s h (rules_of (map rule rest))) q, omega (arith, d, c.requires.depth))))

pub inner-loop-line-preserved : goal.inner-loop-line-preserved
inner-loop-line-preserved t c =
    let i = c.loop-line.line-index in
    let n = c.args.depth in
    let s = shape_of c.args.s.now in
    let h = shape_of c.args.h.now in
    let item = c.line-item.result in
    let rest = drop (i + 1) c.args.lines.now in
    let next : suc i ≡ i + 1 = omega arith in
    let step : drop i c.args.lines.now ≡ item ∷ rest =
    drop-cons c.args.lines.now i item c.loop-line-test.true ∙ ap₂ (λ (y : Line) (m : ℕ). y ∷ drop m c.args.lines.now) (sym c.line-item.is) next in
    let p = subst (λ (ls : List Line). refused schema_differs s h (rules_of (map rule ls)) ≡ None) step c.loop-line.invariant.schemas in
    let q = subst (λ (ls : List Line). inner_fault s h (rules_of (map rule ls)) ≡ None) step c.loop-line.invariant.fits in
    let d : n + inner_depth (rules_of (map rule (item ∷ rest))) < 4294967296 = subst (λ (ls : List Line). n + inner_depth (rules_of (map rule ls)) < 4294967296) step c.loop-line.invariant.depth in record {
      schemas = later_pass s h (rule item) (rules_of (map rule rest)) p;
      fits = none_right (within_fault s h (rule item)) (inner_fault s h (rules_of (map rule rest))) q;
      depth = omega (arith, d);
      inners = c.in_ok-push_inner.ensures.inners (inners_of n s h (rules_of (map rule rest))) ∙ ap (λ (ls : List Line). joined c.loop-line.inner.items (inners_of n s h (rules_of (map rule ls)))) (sym step) ∙ c.loop-line.invariant.inners;
      fitted = λ x. c.loop-line.invariant.fitted (subst (λ (ls : List Line). AllInnerFit n s h (rules_of (map rule ls))) (sym step) (c.in_ok-push_inner.ensures.fitted, x));
    }

pub inner-returns-clause-inners : goal.inner-returns-clause-inners
inner-returns-clause-inners t c =
    let n = c.args.depth in
    let s = shape_of c.args.s.now in
    let h = shape_of c.args.h.now in
    let xs = c.loop-line.inner.items in
    sym (joined_all xs) ∙ sym (at_drop_all (λ (ls : List Line). joined xs (inners_of n s h (rules_of (map rule ls)))) c.args.lines.now c.loop-line.line-index (omega arith)) ∙ c.loop-line.invariant.inners

pub push_inner-build-requires : goal.push_inner-build-requires
push_inner-build-requires t c =
    let n = c.args.depth in
    let s = shape_of c.args.s.now in
    let h = shape_of c.args.h.now in
    let a = c.in-Object.a.bytes in
    let b = c.in-Object.b.bytes in
    let ts = rules_of c.in-Object.rules in
    let q : schema_passes s h (within a b ts) ≡ true = subst (λ (l : Line). schema_passes s h (rule l) ≡ true) c.in-Object.is c.requires.schema in
    let w : within_fault s h (within a b ts) ≡ None = subst (λ (l : Line). within_fault s h (rule l) ≡ None) c.in-Object.is c.requires.fits in
    let m : rule_depth (rule c.args.line.now) ≡ suc (inner_depth ts) = ap (λ (l : Line). rule_depth (rule l)) c.in-Object.is in (
      omega (arith, m),
      (
        subst (λ (x : Shape). is_closed x ≡ true) (sym c.node_at.ensures) (closed_spoke s h a b ts q),
        (
          subst (λ (x : Shape). is_closed x ≡ true) (sym c.node_at-in-Object.ensures) (closed_hub s h a b ts q),
          (subst (λ (x : Shape). fault x (shape_of c.node_at-in-Object.result.now) ts ≡ None) (sym c.node_at.ensures) (subst (λ (y : Shape). fault (node_at a s) y ts ≡ None) (sym c.node_at-in-Object.ensures) (no_within s h a b ts w)), omega (arith, m, c.requires.depth)),
        ),
      ),
    )

pub push_inner-returns-in_ok-push-in-Object-clause-inners : goal.push_inner-returns-in_ok-push-in-Object-clause-inners
push_inner-returns-in_ok-push-in-Object-clause-inners t c is =
    let n = c.args.depth in
    let s = shape_of c.args.s.now in
    let h = shape_of c.args.h.now in
    let a = c.in-Object.a.bytes in
    let b = c.in-Object.b.bytes in
    let ts = rules_of c.in-Object.rules in
    let next : n + 1 ≡ suc n = omega arith in
    let levels = ap (λ (f : Fit). f.level) c.in_ok-fitted-in-Object.ensures.level ∙ level_same (n + 1) (suc n) _ (node_at a s) _ (node_at b h) ts next c.node_at.ensures c.node_at-in-Object.ensures in
    ap (λ (xs : List Inner). joined xs is) c.in_ok-push-in-Object.ensures.items ∙ joined_push c.args.inner.now.items _ is
    ∙ ap (joined c.args.inner.now.items) (inner_same _ _ a b _ _ _ _ is (c.in_ok-spoke-in-Object.ensures ∙ c.as_str.ensures) (c.in_ok-hub-in-Object.ensures ∙ c.as_str-in-Object.ensures) c.is_required-required.ensures levels)
    ∙ ap (λ (l : Line). joined c.args.inner.now.items (with_inner n s h (rule l) is)) (sym c.in-Object.is)

pub push_inner-returns-in-Same-clause-inners : goal.push_inner-returns-in-Same-clause-inners
push_inner-returns-in-Same-clause-inners t c is =
    ap (λ (l : Line). joined c.args.inner.now.items (with_inner c.args.depth (shape_of c.args.s.now) (shape_of c.args.h.now) (rule l) is)) (sym c.in-Same.is)

pub push_inner-returns-in-Same-clause-fitted : goal.push_inner-returns-in-Same-clause-fitted
push_inner-returns-in-Same-clause-fitted t c = subst (λ (l : Line). InnerFits c.args.depth (shape_of c.args.s.now) (shape_of c.args.h.now) (rule l)) (sym c.in-Same.is) tt

pub push_inner-returns-in-SpokeOnly-clause-inners : goal.push_inner-returns-in-SpokeOnly-clause-inners
push_inner-returns-in-SpokeOnly-clause-inners t c is =
    ap (λ (l : Line). joined c.args.inner.now.items (with_inner c.args.depth (shape_of c.args.s.now) (shape_of c.args.h.now) (rule l) is)) (sym c.in-SpokeOnly.is)

pub push_inner-returns-in-SpokeOnly-clause-fitted : goal.push_inner-returns-in-SpokeOnly-clause-fitted
push_inner-returns-in-SpokeOnly-clause-fitted t c = subst (λ (l : Line). InnerFits c.args.depth (shape_of c.args.s.now) (shape_of c.args.h.now) (rule l)) (sym c.in-SpokeOnly.is) tt

pub push_inner-returns-in-HubOnly-clause-inners : goal.push_inner-returns-in-HubOnly-clause-inners
push_inner-returns-in-HubOnly-clause-inners t c is =
    ap (λ (l : Line). joined c.args.inner.now.items (with_inner c.args.depth (shape_of c.args.s.now) (shape_of c.args.h.now) (rule l) is)) (sym c.in-HubOnly.is)

pub push_inner-returns-in-HubOnly-clause-fitted : goal.push_inner-returns-in-HubOnly-clause-fitted
push_inner-returns-in-HubOnly-clause-fitted t c = subst (λ (l : Line). InnerFits c.args.depth (shape_of c.args.s.now) (shape_of c.args.h.now) (rule l)) (sym c.in-HubOnly.is) tt

pub push_inner-returns-in-Split-clause-inners : goal.push_inner-returns-in-Split-clause-inners
push_inner-returns-in-Split-clause-inners t c is =
    ap (λ (l : Line). joined c.args.inner.now.items (with_inner c.args.depth (shape_of c.args.s.now) (shape_of c.args.h.now) (rule l) is)) (sym c.in-Split.is)

pub push_inner-returns-in-Split-clause-fitted : goal.push_inner-returns-in-Split-clause-fitted
push_inner-returns-in-Split-clause-fitted t c = subst (λ (l : Line). InnerFits c.args.depth (shape_of c.args.s.now) (shape_of c.args.h.now) (rule l)) (sym c.in-Split.is) tt

pub push_inner-returns-in-Table-clause-inners : goal.push_inner-returns-in-Table-clause-inners
push_inner-returns-in-Table-clause-inners t c is =
    ap (λ (l : Line). joined c.args.inner.now.items (with_inner c.args.depth (shape_of c.args.s.now) (shape_of c.args.h.now) (rule l) is)) (sym c.in-Table.is)

pub push_inner-returns-in-Table-clause-fitted : goal.push_inner-returns-in-Table-clause-fitted
push_inner-returns-in-Table-clause-fitted t c = subst (λ (l : Line). InnerFits c.args.depth (shape_of c.args.s.now) (shape_of c.args.h.now) (rule l)) (sym c.in-Table.is) tt

pub push_inner-returns-in-Scale-clause-inners : goal.push_inner-returns-in-Scale-clause-inners
push_inner-returns-in-Scale-clause-inners t c is =
    ap (λ (l : Line). joined c.args.inner.now.items (with_inner c.args.depth (shape_of c.args.s.now) (shape_of c.args.h.now) (rule l) is)) (sym c.in-Scale.is)

pub push_inner-returns-in-Scale-clause-fitted : goal.push_inner-returns-in-Scale-clause-fitted
push_inner-returns-in-Scale-clause-fitted t c = subst (λ (l : Line). InnerFits c.args.depth (shape_of c.args.s.now) (shape_of c.args.h.now) (rule l)) (sym c.in-Scale.is) tt

pub push_inner-returns-in_ok-push-in-Object-clause-fitted : goal.push_inner-returns-in_ok-push-in-Object-clause-fitted
push_inner-returns-in_ok-push-in-Object-clause-fitted t c =
    let n = c.args.depth in
    let s = shape_of c.args.s.now in
    let h = shape_of c.args.h.now in
    let a = c.in-Object.a.bytes in
    let b = c.in-Object.b.bytes in
    let ts = rules_of c.in-Object.rules in
    let next : n + 1 ≡ suc n = omega arith in
    let x : IsFitted (fit_of (n + 1) (node_at a s) (shape_of c.node_at-in-Object.result.now) ts) =
    subst (λ (x : Shape). IsFitted (fit_of (n + 1) x (shape_of c.node_at-in-Object.result.now) ts)) c.node_at.ensures c.in_ok-fitted-in-Object.ensures.fitted in
    let y : IsFitted (fit_of (n + 1) (node_at a s) (node_at b h) ts) = subst (λ (y : Shape). IsFitted (fit_of (n + 1) (node_at a s) y ts)) c.node_at-in-Object.ensures x in
    subst (λ (l : Line). InnerFits n s h (rule l)) (sym c.in-Object.is) (subst (λ (m : ℕ). IsFitted (fit_of m (node_at a s) (node_at b h) ts)) next y)

pub inner-returns-clause-fitted : goal.inner-returns-clause-fitted
inner-returns-clause-fitted t c =
    let n = c.args.depth in
    let s = shape_of c.args.s.now in
    let h = shape_of c.args.h.now in
    c.loop-line.invariant.fitted (subst (λ (ls : List Line). AllInnerFit n s h (rules_of (map rule ls))) (sym (drop_all c.loop-line.line-index c.args.lines.now (omega (arith, c.loop-line-test.false)))) tt)

pub build-returns-clause-level : goal.build-returns-clause-level
build-returns-clause-level t c =
    let n = c.args.depth in
    let s = shape_of c.args.s.now in
    let h = shape_of c.args.h.now in
    let same = c.as_slice-lines.ensures.value in
    c.new.ensures
    ∙ built_is n s h (rules_of c.args.rules.now) _ _ _ _ c.in_ok-spoke.ensures c.in_ok-hub.ensures (c.in_ok-cells.ensures ∙ ap (λ (x : List Rule). cells_of n s h (rules_of x)) same) (c.in_ok-inner.ensures.inners ∙ ap (λ (x : List Rule). inners_of n s h (rules_of x)) same)

pub build-inner-requires : goal.build-inner-requires
build-inner-requires t c =
    let s = shape_of c.args.s.now in
    let h = shape_of c.args.h.now in
    let rs = rules_of c.args.rules.now in
    let same : rs ≡ rules_of (map rule c.as_slice-lines.result.now) = ap rules_of (sym c.as_slice-lines.ensures.value) in
    let deep : inner_depth rs ≡ inner_depth (rules_of (map rule c.as_slice-lines.result.now)) = ap inner_depth same in (
      omega (arith, deep, c.decreases),
      (
        subst (λ (x : Rules). refused schema_differs s h x ≡ None) same (no_refused s h rs c.requires.fits),
        (subst (λ (x : Rules). inner_fault s h x ≡ None) same (no_inner_fault s h rs c.requires.fits), omega (arith, deep, c.requires.depth)),
      ),
    )
