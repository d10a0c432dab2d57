-- A body all of whose names are known is what is written of the marks that it is read as.
use Rattle.std.proofs.Common.{◌≡◌, List, [], ◌∷◌, ◌++◌, Bool, true, false, Option, Some, None, Ordering, Less, Equal, Greater, nat_cmp, is_eq, bytes_eq, refl, ap, ap₂, sym, subst, ◌∙◌, arith}
use Rattle.std.specs.Ordering.{match_ordering, ordering_reverse}
use Rattle.std.specs.Cmp.Lexicographic.{slice_cmp}
use Rattle.std.proofs.lemmas.Cmp.{nat_list_cmp_total}
use Rattle.std.proofs.lemmas.List.{map-append}
use Rattle.std.proofs.lemmas.Slice.Eq.{bytes_eq-Decides}
use Rattle.kj_value.specs.Json.{Json, null, boolean, whole, text, list, object, Members, members_of}
use Rattle.kj_value.specs.Fields.{Pairs, field, with_field}
use Rattle.kj_value.specs.KindLaws.{members_pairs}
use Rattle.hub_cells.specs.Side.{Side, other}
use Rattle.hub_cells.specs.Cell.{Tuple}
use Rattle.hub_cells.specs.Level.{Name, tuple_of}
use Rattle.kept_entries.specs.declared.entry.Entry.{Entry}
use Rattle.keep_laws.specs.Entry.{put, all_named, inside}
use Rattle.hub_cells.specs.Fit.{has_name}
use Rattle.hub_cells.specs.Level.{Cell, Level, level, Inners, no_inner, inner, names, named, cells_names, inner_names, IsFresh, AreDistinct, NoNameTwice, NoneTwice}
use Rattle.keep_laws.specs.Marked.{there}
use Rattle.keep_laws.specs.Body.{pairs_of, as_object, object_in, as_field, read_cells, read, read_inners, cells_values, body, inner_values}
use Rattle.keep_laws.specs.Known.{IsBelow, IsRising, IsObject, IfPresent, IsKnown, InnersKnown}
use Rattle.keep_laws.proofs.Fields.{at_same, at_other, equal_same, put_back, put_fresh}
use Rattle.keep_laws.proofs.Back.{tuple_length, cons_head, cons_tail}

some_some : {A : Type 0} (x y : A) → Some x ≡ Some y → x ≡ y
some_some x y e = cc

none_some : {A : Type 0} (x : A) → None ≡ Some x → ⊥
none_some x e = cc

less_apart : (k n : Name) → slice_cmp nat_cmp k n ≡ Less → k ≡ n → ⊥
less_apart k n l e = not_equal (sym l ∙ subst (λ (m : Name). slice_cmp nat_cmp k m ≡ Equal) e (same k))
  where
    not_equal : Less ≡ Equal → ⊥
    not_equal p = subst (λ (o : Ordering). elim o as (λ _. Type 0) [ Less ↦ Unit {0} | Equal ↦ ⊥ | Greater ↦ ⊥ ]) p tt

    same : (n : Name) → slice_cmp nat_cmp n n ≡ Equal
    same n = by_order (slice_cmp nat_cmp n n) (at_same n)
      where
        by_order : (o : Ordering) → is_eq o ≡ true → o ≡ Equal
        by_order Less p = grind (arith, p)
        by_order Equal p = refl
        by_order Greater p = grind (arith, p)

greater_less : (k l : Name) → slice_cmp nat_cmp k l ≡ Greater → slice_cmp nat_cmp l k ≡ Less
greater_less k l e = nat_list_cmp_total.antisymm l k ∙ ap ordering_reverse e

below_all : (k n : Name) (ps : Pairs) → slice_cmp nat_cmp k n ≡ Less → IsBelow n ps → IsBelow k ps
below_all k n [] l b = tt
below_all k n (p ∷ ps) l b = (nat_list_cmp_total.trans k n p.0 l b.0, below_all k n ps l b.1)

field_below : (k : Name) (ps : Pairs) → IsBelow k ps → field k ps ≡ None
field_below k [] b = refl
field_below k (p ∷ ps) b = rw b.0 (field_below k ps b.1)

field_first : (p : Name × Json) (ps : Pairs) → field p.0 (p ∷ ps) ≡ Some p.1
field_first p ps = rw (at_same p.0) refl

field_later : (k : Name) (p : Name × Json) (ps : Pairs) → (k ≡ p.0 → ⊥) → field k (p ∷ ps) ≡ field k ps
field_later k p ps h = rw (at_other k p.0 h) refl

-- two rising lists that answer alike are one
pub same_rising : (ps qs : Pairs) → IsRising ps → IsRising qs → ((k : Name) → field k ps ≡ field k qs) → ps ≡ qs
same_rising [] [] r s h = refl
same_rising [] (q ∷ qs) r s h = absurd (none_some q.1 (h q.0 ∙ field_first q qs))
same_rising (p ∷ ps) [] r s h = absurd (none_some p.1 (sym (h p.0) ∙ field_first p ps))
same_rising (p ∷ ps) (q ∷ qs) r s h = by_order (same_rising ps qs r.1 s.1) (slice_cmp nat_cmp p.0 q.0) refl
  where
    by_name : (e : p.0 ≡ q.0) (k : Name) (b : Bool) → bytes_eq k p.0 ≡ b → field k ps ≡ field k qs
    by_name e k true t =
        let is : k ≡ p.0 = (bytes_eq-Decides k p.0).0 t in
        field_below k ps (subst (λ (m : Name). IsBelow m ps) (sym is) r.0) ∙ sym (field_below k qs (subst (λ (m : Name). IsBelow m qs) (sym (is ∙ e)) s.0))
    by_name e k false t =
        let apart : k ≡ p.0 → ⊥ = λ i. not_both (bytes_eq k p.0) ((bytes_eq-Decides k p.0).1 i) t in
        sym (field_later k p ps apart) ∙ h k ∙ field_later k q qs (λ i. apart (i ∙ sym e))
      where
        not_both : (b : Bool) → b ≡ true → b ≡ false → ⊥
        not_both b x y = grind arith

    by_order : (((k : Name) → field k ps ≡ field k qs) → ps ≡ qs) → (o : Ordering) → slice_cmp nat_cmp p.0 q.0 ≡ o → p ∷ ps ≡ q ∷ qs
    by_order later Less l =
        absurd (none_some p.1 (sym (field_below p.0 (q ∷ qs) (l, below_all p.0 q.0 qs l s.0)) ∙ sym (h p.0) ∙ field_first p ps))
    by_order later Equal l =
        let e = equal_same p.0 q.0 l in
        let v : p.1 ≡ q.1 = some_some p.1 q.1 (sym (field_first p ps) ∙ h p.0 ∙ ap (λ (k : Name). field k (q ∷ qs)) e ∙ field_first q qs) in
        ap₂ (λ (x : Name × Json) (xs : Pairs). x ∷ xs) (ap₂ (λ (k : Name) (j : Json). (k, j)) e v) (later (λ k. by_name e k (bytes_eq k p.0) refl))
    by_order later Greater l =
        let g = greater_less p.0 q.0 l in
        absurd (none_some q.1 (sym (field_below q.0 (p ∷ ps) (g, below_all q.0 p.0 ps g r.0)) ∙ h q.0 ∙ field_first q qs))

-- ---- what is put rises

below_with : (l n : Name) (j : Json) (ps : Pairs) → slice_cmp nat_cmp l n ≡ Less → IsBelow l ps → IsBelow l (with_field n j ps)
below_with l n j [] h b = (h, tt)
below_with l n j (p ∷ ps) h b = by_order (below_with l n j ps h b.1) (slice_cmp nat_cmp n p.0)
  where
    by_order : IsBelow l (with_field n j ps) → (o : Ordering) → IsBelow l (match_ordering o ((n, j) ∷ p ∷ ps) ((p.0, j) ∷ ps) (p ∷ with_field n j ps))
    by_order later Less = (h, b)
    by_order later Equal = b
    by_order later Greater = (b.0, later)

rising_with : (n : Name) (j : Json) (ps : Pairs) → IsRising ps → IsRising (with_field n j ps)
rising_with n j [] r = (tt, tt)
rising_with n j (p ∷ ps) r = by_order (rising_with n j ps r.1) (slice_cmp nat_cmp n p.0) refl
  where
    by_order : IsRising (with_field n j ps) → (o : Ordering) → slice_cmp nat_cmp n p.0 ≡ o → IsRising (match_ordering o ((n, j) ∷ p ∷ ps) ((p.0, j) ∷ ps) (p ∷ with_field n j ps))
    by_order later Less q = ((q, below_all n p.0 ps q r.0), r)
    by_order later Equal q = r
    by_order later Greater q = (below_with p.0 n j ps (greater_less n p.0 q) r.0, later)

rising_put : (ns : List Name) (os : Tuple) (ps : Pairs) → IsRising ps → IsRising (put ns os ps)
rising_put [] os ps r = r
rising_put (n ∷ ns) [] ps r = r
rising_put (n ∷ ns) (None ∷ os) ps r = rising_put ns os ps r
rising_put (n ∷ ns) (Some j ∷ os) ps r = rising_put ns os (with_field n j ps) (rising_with n j ps r)

-- ---- a level's fields, read and put

true_false : (b : Bool) → b ≡ true → b ≡ false → ⊥
true_false b x y = grind arith

unknown : (k : Name) (ns : List Name) (ps : Pairs) → has_name k ns ≡ false → all_named ns ps ≡ true → field k ps ≡ None
unknown k ns [] f a = refl
unknown k ns (p ∷ ps) f a =
    let head : has_name p.0 ns ≡ true = grind (arith, a) in
    let tail : all_named ns ps ≡ true = grind (arith, a) in
    field_later k p ps (λ e. true_false (has_name k ns) (subst (λ (m : Name). has_name m ns ≡ true) (sym e) head) f) ∙ unknown k ns ps f tail

fresh_from : (k : Name) (ns : List Name) → has_name k ns ≡ false → IsFresh k ns
fresh_from k [] h = tt
fresh_from k (n ∷ ns) h =
    (λ e. true_false (bytes_eq k n) ((bytes_eq-Decides k n).1 e) (grind (arith, h)), fresh_from k ns (grind (arith, h)))

at_name : (k : Name) (ns : List Name) (ps qs : Pairs) → has_name k ns ≡ true → tuple_of ns ps ≡ tuple_of ns qs → field k ps ≡ field k qs
at_name k [] ps qs h e = absurd (true_false false h refl)
at_name k (n ∷ ns) ps qs h e = by_name (λ i. at_name k ns ps qs i (cons_tail (field n ps) (field n qs) (tuple_of ns ps) (tuple_of ns qs) e)) (bytes_eq k n) refl
  where
    by_name : (has_name k ns ≡ true → field k ps ≡ field k qs) → (b : Bool) → bytes_eq k n ≡ b → field k ps ≡ field k qs
    by_name later true q =
        subst (λ (m : Name). field m ps ≡ field m qs) (sym ((bytes_eq-Decides k n).0 q)) (cons_head (field n ps) (field n qs) (tuple_of ns ps) (tuple_of ns qs) e)
    by_name later false q = later (grind (arith, h, q))

pub put_read : (ns : List Name) (ps : Pairs) → AreDistinct ns → IsRising ps → all_named ns ps ≡ true → put ns (tuple_of ns ps) [] ≡ ps
put_read ns ps d r a =
    let os = tuple_of ns ps in
    same_rising (put ns os []) ps (rising_put ns os [] tt) r (λ k. by_name k (has_name k ns) refl)
  where
    by_name : (k : Name) (b : Bool) → has_name k ns ≡ b → field k (put ns (tuple_of ns ps) []) ≡ field k ps
    by_name k true h = at_name k ns (put ns (tuple_of ns ps) []) ps h (put_back ns (tuple_of ns ps) d (tuple_length ns ps))
    by_name k false h = put_fresh k ns (tuple_of ns ps) [] (fresh_from k ns h) ∙ sym (unknown k ns ps h a)

cells_read : (d : Side) (cs : List Cell) (x : Pairs) (es : List Entry) (ns : List Name) (os : Tuple) → os ≡ tuple_of ns x → cells_values cs (read_cells d cs x es) os ≡ tuple_of (cells_names d cs ns) x
cells_read d [] x es ns os e = e
cells_read d (c ∷ cs) x es ns os e =
    ap (λ (t : Tuple). tuple_of (names d c) x ++ t) (cells_read d cs x es ns os e) ∙ sym (map-append (λ n. field n x) (names d c) (cells_names d cs ns))

object_read : (P : Pairs → Type 0) (f : Pairs → Pairs) → ((y : Pairs) → P y → f y ≡ y) → (j : Json) → IsObject P j → as_field (there f (as_object j)) ≡ Some j
object_read P f h (object ms) p = ap (λ (qs : Pairs). Some (object (members_of qs))) (h (pairs_of ms) p) ∙ ap (λ (ns : Members). Some (object ns)) (members_pairs ms)
object_read P f h null p = absurd p
object_read P f h (boolean b) p = absurd p
object_read P f h (whole z) p = absurd p
object_read P f h (text s) p = absurd p
object_read P f h (list js) p = absurd p

present_read : (P : Pairs → Type 0) (f : Pairs → Pairs) → ((y : Pairs) → P y → f y ≡ y) → (o : Option Json) → IfPresent P o → as_field (there f (object_in o)) ≡ o
present_read P f h None p = refl
present_read P f h (Some j) p = object_read P f h j p

pub there_there : {A B C : Type 0} (f : B → C) (g : A → B) (o : Option A) → there f (there g o) ≡ there (λ x. f (g x)) o
there_there f g None = refl
there_there f g (Some x) = refl

mutual
  pub body_read : (d : Side) (l : Level) (x : Pairs) (es : List Entry) → NoNameTwice d l → IsKnown d l x → body d l (read d l x es) ≡ x
  body_read d (level cs is) x es a k =
      ap (λ (os : Tuple). put (cells_names d cs (inner_names d is)) os []) (cells_read d cs x es (inner_names d is) (inner_values d is (read_inners d is x es)) (inners_body_read d is x es a.1 k.2))
      ∙ put_read (cells_names d cs (inner_names d is)) x a.0 k.0 k.1

  pub inners_body_read : (d : Side) (is : Inners) (x : Pairs) (es : List Entry) → NoneTwice d is → InnersKnown d is x → inner_values d is (read_inners d is x es) ≡ tuple_of (inner_names d is) x
  inners_body_read d no_inner x es a k = refl
  inners_body_read d (inner p q rq l is) x es a k =
      let es_in = inside (named (other d) p q) es in
      let first = ap as_field (there_there (body d l) (λ y. read d l y es_in) (object_in (field (named d p q) x))) ∙ present_read (IsKnown d l) (λ y. body d l (read d l y es_in)) (λ y h. body_read d l y es_in a.0 h) (field (named d p q) x) k.0 in
      ap₂ (λ (o : Option Json) (os : Tuple). o ∷ os) first (inners_body_read d is x es a.1 k.1)
