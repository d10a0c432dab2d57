-- The fields that are written of good marks are known.
use Rattle.std.proofs.Common.{◌≡◌, ℕ, suc, ◌+◌, List, [], ◌∷◌, ◌++◌, length, Bool, Option, Some, None, Ordering, Less, Equal, Greater, nat_cmp, length-append, refl, ap, ap₂, sym, subst, ◌∙◌, arith}
use Rattle.std.specs.Ordering.{match_ordering, ordering_reverse}
use Rattle.std.specs.Cmp.Lexicographic.{slice_cmp}
use Rattle.std.proofs.lemmas.Cmp.{nat_list_cmp_total}
use Rattle.std.proofs.lemmas.List.{map-append}
use Rattle.kj_value.specs.Json.{Json}
use Rattle.kj_value.specs.Fields.{Pairs, field, with_field}
use Rattle.kj_value.specs.KindLaws.{pairs_members}
use Rattle.hub_cells.specs.Side.{Side}
use Rattle.hub_cells.specs.Cell.{Tuple}
use Rattle.hub_cells.specs.Level.{Name, tuple_of, Cell, Level, level, Inners, no_inner, inner, names, named, cells_names, inner_names, NoNameTwice, NoneTwice}
use Rattle.keep_laws.specs.Entry.{put}
use Rattle.keep_laws.specs.Marked.{Marks, Marked, MarkedInners, AreGood, OrAbsent, IsGood, InnersGood, there}
use Rattle.keep_laws.specs.Body.{as_field, cells_values, body, inner_values}
use Rattle.keep_laws.specs.Known.{IsBelow, IsRising, IfPresent, IsKnown, InnersKnown}
use Rattle.keep_laws.proofs.Fields.{allowed_length, put_back, part_named}
use Rattle.keep_laws.proofs.Back.{cons_head, cons_tail, tuple_length}

-- ---- what is put rises

below_all : (k n : Name) (ps : Pairs) → slice_cmp nat_cmp k n ≡ Less → IsBelow n ps → IsBelow k ps
below_all k n [] l b = tt
below_all k n (p ∷ ps) l b = (nat_list_cmp_total.trans k n p.0 l b.0, below_all k n ps l b.1)

below_with : (l n : Name) (j : Json) (ps : Pairs) → slice_cmp nat_cmp l n ≡ Less → IsBelow l ps → IsBelow l (with_field n j ps)
below_with l n j [] h b = (h, tt)
below_with l n j (p ∷ ps) h b = by_order (below_with l n j ps h b.1) (slice_cmp nat_cmp n p.0)
  where
    by_order : IsBelow l (with_field n j ps) → (o : Ordering) → IsBelow l (match_ordering o ((n, j) ∷ p ∷ ps) ((p.0, j) ∷ ps) (p ∷ with_field n j ps))
    by_order later Less = (h, b)
    by_order later Equal = b
    by_order later Greater = (b.0, later)

rising_with : (n : Name) (j : Json) (ps : Pairs) → IsRising ps → IsRising (with_field n j ps)
rising_with n j [] r = (tt, tt)
rising_with n j (p ∷ ps) r = by_order (rising_with n j ps r.1) (slice_cmp nat_cmp n p.0) refl
  where
    by_order : IsRising (with_field n j ps) → (o : Ordering) → slice_cmp nat_cmp n p.0 ≡ o → IsRising (match_ordering o ((n, j) ∷ p ∷ ps) ((p.0, j) ∷ ps) (p ∷ with_field n j ps))
    by_order later Less q = ((q, below_all n p.0 ps q r.0), r)
    by_order later Equal q = r
    by_order later Greater q = (below_with p.0 n j ps (nat_list_cmp_total.antisymm p.0 n ∙ ap ordering_reverse q) r.0, later)

pub rising_put : (ns : List Name) (os : Tuple) (ps : Pairs) → IsRising ps → IsRising (put ns os ps)
rising_put [] os ps r = r
rising_put (n ∷ ns) [] ps r = r
rising_put (n ∷ ns) (None ∷ os) ps r = rising_put ns os ps r
rising_put (n ∷ ns) (Some j ∷ os) ps r = rising_put ns os (with_field n j ps) (rising_with n j ps r)

-- ---- the values of inner objects behind those of cells

second_part : {A : Type 0} (xs ys vs ws : List A) → length xs ≡ length vs → xs ++ ys ≡ vs ++ ws → ys ≡ ws
second_part [] ys [] ws l e = e
second_part [] ys (v ∷ vs) ws l e = absurd (omega (arith, l))
second_part (x ∷ xs) ys [] ws l e = absurd (omega (arith, l))
second_part (x ∷ xs) ys (v ∷ vs) ws l e =
    second_part xs ys vs ws (omega (arith, l)) (cons_tail x v (xs ++ ys) (vs ++ ws) e)

cells_length : (d : Side) (cs : List Cell) (ms : Marks cs) (ns : List Name) (os : Tuple) → AreGood d cs ms → length os ≡ length ns → length (cells_values cs ms os) ≡ length (cells_names d cs ns)
cells_length d [] ms ns os g e = e
cells_length d (c ∷ cs) ms ns os g e =
    length-append ms.0.0 (cells_values cs ms.1 os) ∙ ap₂ (λ (i j : ℕ). i + j) (allowed_length d c ms.0.0 g.0.0) (cells_length d cs ms.1 ns os g.1 e) ∙ sym (length-append (names d c) (cells_names d cs ns))

inner_length : (d : Side) (is : Inners) (ms : MarkedInners is) → length (inner_values d is ms) ≡ length (inner_names d is)
inner_length d no_inner ms = refl
inner_length d (inner a b rq l is) ms = ap suc (inner_length d is ms.1)

inner_part : (d : Side) (cs : List Cell) (ms : Marks cs) (ns : List Name) (os : Tuple) (x : Pairs) → AreGood d cs ms → tuple_of (cells_names d cs ns) x ≡ cells_values cs ms os → tuple_of ns x ≡ os
inner_part d [] ms ns os x g e = e
inner_part d (c ∷ cs) ms ns os x g e =
    let own = names d c in
    let rest = cells_names d cs ns in
    inner_part d cs ms.1 ns os x g.1 (second_part (tuple_of own x) (tuple_of rest x) ms.0.0 (cells_values cs ms.1 os) (tuple_length own x ∙ sym (allowed_length d c ms.0.0 g.0.0)) (sym (map-append (λ n. field n x) own rest) ∙ e))

-- ---- level by level

inner_known : (rq : Bool) (d : Side) (l : Level) → ((m : Marked l) → IsGood d l m → IsKnown d l (body d l m)) → (o : Option (Marked l)) → OrAbsent rq (IsGood d l) o → IfPresent (IsKnown d l) (as_field (there (body d l) o))
inner_known rq d l go None g = tt
inner_known rq d l go (Some m) g = subst (IsKnown d l) (sym (pairs_members (body d l m))) (go m g)

mutual
  pub body_known : (d : Side) (l : Level) (m : Marked l) → NoNameTwice d l → IsGood d l m → IsKnown d l (body d l m)
  body_known d (level cs is) m a g =
      let ns = cells_names d cs (inner_names d is) in
      let os = cells_values cs m.0 (inner_values d is m.1) in
      let x = put ns os [] in
      let all : tuple_of ns x ≡ os = put_back ns os a.0 (cells_length d cs m.0 (inner_names d is) (inner_values d is m.1) g.0 (inner_length d is m.1)) in
      (rising_put ns os [] tt, part_named ns os, inners_known d is m.1 x a.1 g.1 (inner_part d cs m.0 (inner_names d is) (inner_values d is m.1) x g.0 all))

  pub inners_known : (d : Side) (is : Inners) (ms : MarkedInners is) (x : Pairs) → NoneTwice d is → InnersGood d is ms → tuple_of (inner_names d is) x ≡ inner_values d is ms → InnersKnown d is x
  inners_known d no_inner ms x a g e = tt
  inners_known d (inner p q rq l is) ms x a g e =
      let n = named d p q in
      let own : field n x ≡ as_field (there (body d l) ms.0) = cons_head (field n x) (as_field (there (body d l) ms.0)) (tuple_of (inner_names d is) x) (inner_values d is ms.1) e in
      let rest : tuple_of (inner_names d is) x ≡ inner_values d is ms.1 = cons_tail (field n x) (as_field (there (body d l) ms.0)) (tuple_of (inner_names d is) x) (inner_values d is ms.1) e in
      (subst (λ (o : Option Json). IfPresent (IsKnown d l) o) (sym own) (inner_known rq d l (λ m h. body_known d l m a.0 h) ms.0 g.0), inners_known d is ms.1 x a.1 g.1 rest)
