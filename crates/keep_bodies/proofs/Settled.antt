-- What is taken over twice has the entries that are alive.
use Rattle.std.proofs.Common.{◌≡◌, List, [], ◌∷◌, Bool, true, Option, Some, None, ap, sym, subst, ◌∙◌}
use Rattle.kept_entries.specs.Entry.{are_in_order}
use Rattle.hub_cells.specs.Side.{Side, spoke, hub, other}
use Rattle.hub_cells.specs.Level.{Cell, Level, level, Inners, no_inner, inner}
use Rattle.hub_cells.specs.Fit.{Fit, IsFitted}
use Rattle.keep_laws.specs.Marked.{Marks, Marked, MarkedInners, OrAbsent, AreGood, IsGood, InnersGood}
use Rattle.keep_laws.specs.Settle.{CellsAllowed, IsAllowed, InnersAllowed, settled, converted}
use Rattle.keep_laws.specs.Whole.{Held, Ready, IsWholeOnSide, marks_of}

pub ready : (f : Fit) → IsFitted f → Ready f.level
ready f h = record { fits = h.fits; spoke_names = h.no_name_twice spoke; hub_names = h.no_name_twice hub }

cells_allowed : (d : Side) (cs : List Cell) (ms : Marks cs) → AreGood d cs ms → CellsAllowed d cs ms
cells_allowed d [] ms g = tt
cells_allowed d (c ∷ cs) ms g = (g.0.0, cells_allowed d cs ms.1 g.1)

or_absent_both : {A : Type 0} {P Q : A → Type 0} → ((a : A) → P a → Q a) → (r : Bool) (o : Option A) → OrAbsent r P o → OrAbsent r Q o
or_absent_both f r None h = h
or_absent_both f r (Some a) h = f a h

mutual
  pub good_allowed : (d : Side) (l : Level) (m : Marked l) → IsGood d l m → IsAllowed d l m
  good_allowed d (level cs is) m g = (cells_allowed d cs m.0 g.0, inners_allowed d is m.1 g.1)

  inners_allowed : (d : Side) (is : Inners) (ms : MarkedInners is) → InnersGood d is ms → InnersAllowed d is ms
  inners_allowed d no_inner ms g = tt
  inners_allowed d (inner a b r l is) ms g =
      (or_absent_both (λ m h. good_allowed d l m h) r ms.0 g.0, inners_allowed d is ms.1 g.1)

pub back_allowed : (d e : Side) (l : Level) (x r : Held) → e ≡ other d → r ≡ converted d l x → IsWholeOnSide (other d) l (converted d l x) → IsAllowed e l (marks_of e l r)
back_allowed d e l x r s q w =
    let P : Side → Type 0 = λ f. IsAllowed f l (marks_of f l r) in
    let R : Held → Type 0 = λ y. IsAllowed (other d) l (marks_of (other d) l y) in
    subst P (sym s) (subst R (sym q) (good_allowed (other d) l (marks_of (other d) l (converted d l x)) w.good))

pub back_entries : (d e : Side) (l : Level) (x r b : Held) → e ≡ other d → r ≡ converted d l x → b ≡ converted e l r → converted (other d) l (converted d l x) ≡ settled d l x → b.entries ≡ (settled d l x).entries
back_entries d e l x r b s q t h =
    ap (λ (y : Held). y.entries) (t ∙ ap (λ (f : Side). converted f l r) s ∙ ap (converted (other d) l) q ∙ h)

pub there_in_order : (d : Side) (l : Level) (x r : Held) → r ≡ converted d l x → are_in_order (converted d l x).entries ≡ true → are_in_order r.entries ≡ true
there_in_order d l x r q h = subst (λ (y : Held). are_in_order y.entries ≡ true) (sym q) h
