-- Where there is no first late name, none is late.
use Rattle.std.proofs.Common.{◌≡◌, ℕ, List, [], ◌∷◌, ◌++◌, map, Bool, true, false, cond, Option, Some, None, refl, ap, sym, ◌∙◌}
use Rattle.std.specs.Prelude.{fold, is_some}
use Rattle.std.proofs.lemmas.Bool.{false≢true}
use Rattle.struct_schema.specs.Fault.{lesser}
use Rattle.hub_cells.specs.Side.{hub}
use Rattle.hub_cells.specs.Level.{Name, Cell, names, Level, level, Inners, no_inner, inner}
use Rattle.std.specs.Ordering.{nat_cmp, is_lt}
use Rattle.std.specs.Cmp.Lexicographic.{slice_cmp}
use Rattle.hub_fills.specs.Lookups.{level_in}
use Rattle.hub_fills.specs.Late.{is_late, NoneLate, NoLate, NoLateWithin}
use Rattle.hub_fills.specs.LateNames.{joined, late_cells, late_in, late_within, late_among, first_late}
use Rattle.hub_fills.specs.Sound.{EachLevel}

lesser_some : (m n : List ℕ) → is_some (lesser (Some m) n) ≡ true
lesser_some m n = by_test (is_lt (slice_cmp nat_cmp n m))
  where
    by_test : (b : Bool) → is_some (cond b (Some n) (Some m)) ≡ true
    by_test true = refl
    by_test false = refl

fold_some : (ns : List (List ℕ)) (o : Option (List ℕ)) → is_some o ≡ true → is_some (fold lesser o ns) ≡ true
fold_some [] o h = h
fold_some (n ∷ ns) None h = absurd (false≢true h)
fold_some (n ∷ ns) (Some m) h = fold_some ns (lesser (Some m) n) (lesser_some m n)

none_there : (ps : List (List Name)) → fold lesser None (map joined ps) ≡ None → ps ≡ []
none_there [] e = refl
none_there (p ∷ ps) e = absurd (false≢true (ap is_some (sym e) ∙ fold_some (map joined ps) (Some (joined p)) refl))

left_none : {A : Type 0} (xs ys : List A) → xs ++ ys ≡ [] → xs ≡ []
left_none [] ys e = refl
left_none (x ∷ xs) ys e = absurd (cc)

right_none : {A : Type 0} (xs ys : List A) → xs ++ ys ≡ [] → ys ≡ []
right_none [] ys e = e
right_none (x ∷ xs) ys e = absurd (cc)

cells_none : (ms : List (Option Level)) (path : List Name) (cs : List Cell) → late_cells ms path cs ≡ [] → NoneLate ms cs
cells_none ms path [] e = tt
cells_none ms path (c ∷ cs) e = by_test (is_late ms c) refl e (cells_none ms path cs)
  where
    by_test : (b : Bool) → is_late ms c ≡ b → cond b ((path ++ names hub c) ∷ late_cells ms path cs) (late_cells ms path cs) ≡ [] → (late_cells ms path cs ≡ [] → NoneLate ms cs) → (is_late ms c ≡ false) × NoneLate ms cs
    by_test true q f later = absurd (cc)
    by_test false q f later = (q, later f)

mutual
  level_none : (ms : List (Option Level)) (path : List Name) (l : Level) → late_in ms path l ≡ [] → NoLate ms l
  level_none ms path (level cs is) e =
      (cells_none ms path cs (left_none (late_cells ms path cs) (late_within ms path is) e), within_none ms path is (right_none (late_cells ms path cs) (late_within ms path is) e))

  within_none : (ms : List (Option Level)) (path : List Name) (is : Inners) → late_within ms path is ≡ [] → NoLateWithin ms is
  within_none ms path no_inner e = tt
  within_none ms path (inner a b r l is) e =
      (level_none (map (level_in b) ms) (path ++ b ∷ []) l (left_none (late_in (map (level_in b) ms) (path ++ b ∷ []) l) (late_within ms path is) e), within_none ms path is (right_none (late_in (map (level_in b) ms) (path ++ b ∷ []) l) (late_within ms path is) e))

among_none : (ms os : List (Option Level)) → late_among ms os ≡ [] → EachLevel (NoLate ms) os
among_none ms [] e = tt
among_none ms (None ∷ os) e = (tt, among_none ms os e)
among_none ms (Some l ∷ os) e =
    (level_none ms [] l (left_none (late_in ms [] l) (late_among ms os) e), among_none ms os (right_none (late_in ms [] l) (late_among ms os) e))

pub none_late : (ms : List (Option Level)) → first_late ms ≡ None → EachLevel (NoLate ms) ms
none_late ms e = among_none ms ms (none_there (late_among ms ms) e)
