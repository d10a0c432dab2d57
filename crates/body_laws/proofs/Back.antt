-- Over to the other side and back, a body is what it was: of a cell, of a level's cells, of an object inside, and so of a level.
use Rattle.std.proofs.Common.{◌≡◌, ℕ, suc, ◌+◌, List, [], ◌∷◌, ◌++◌, length, Bool, true, false, ◌&&◌, ◌==◌, cond, Option, Some, None, length-append, refl, ap, ap₂, sym, subst, ◌∙◌, arith}
use Rattle.std.proofs.lemmas.List.{map-append}
use Rattle.kj_value.specs.Json.{Json, null, boolean, whole, text, list, object, members_of}
use Rattle.kj_value.specs.Fields.{Pairs, field}
use Rattle.kj_value.specs.Kinds.{pairs_of}
use Rattle.kj_value.specs.KindLaws.{pairs_members, members_pairs}
use Rattle.hub_cells.specs.Side.{Side, spoke, hub, other}
use Rattle.hub_cells.specs.Cell.{Tuple}
use Rattle.hub_cells.specs.Level.{Name, named, tuple_of}
use Rattle.body_laws.specs.Cell.{Cell, IsCell, tuple_same}
use Rattle.body_laws.specs.Frame.{Level, level, Inners, no_inner, inner, cells_names, inner_names, AreCells, IsFrame, AreFrames}
use Rattle.body_laws.specs.Kept.{CellsKept, Kept, InnersKept, nothing}
use Rattle.body_laws.specs.Over.{put, own, alive, tuple_over, unmatched, tuple_left, cells_over, cells_left, value_over, value_left, over, inners_over, left, inners_left}
use Rattle.body_laws.specs.Body.{WhereObject, IsBody, InnersBody}
use Rattle.body_laws.proofs.Cells.{tuple_is, same_tuple}
use Rattle.body_laws.proofs.Fields.{cons_head, cons_tail, tuple_length, put_own_back, whole_again, own_again}

pub turn : (d : Side) → other (other d) ≡ d
turn spoke = refl
turn hub = refl

two_parts : {A : Type 0} (xs ys vs ws : List A) → length xs ≡ length vs → xs ++ ys ≡ vs ++ ws → (xs ≡ vs) × (ys ≡ ws)
two_parts [] ys [] ws l e = (refl, e)
two_parts [] ys (v ∷ vs) ws l e = absurd (omega (arith, l))
two_parts (x ∷ xs) ys [] ws l e = absurd (omega (arith, l))
two_parts (x ∷ xs) ys (v ∷ vs) ws l e =
    let rest = two_parts xs ys vs ws (omega (arith, l)) (cons_tail x v (xs ++ ys) (vs ++ ws) e) in
    (ap₂ (λ z zs. z ∷ zs) (cons_head x v (xs ++ ys) (vs ++ ws) e) rest.0, rest.1)

-- ---- what is kept counts

both : (a b : Bool) → a ≡ true → b ≡ true → (a && b) ≡ true
both a b p q = grind arith

first : (a b : Bool) → (a && b) ≡ true → a ≡ true
first a b p = grind arith

second : (a b : Bool) → (a && b) ≡ true → b ≡ true
second a b p = grind arith

same_length : (m n : ℕ) → m ≡ n → (m == n) ≡ true
same_length m n e = grind arith

length_same : (m n : ℕ) → (m == n) ≡ true → m ≡ n
length_same m n e = grind arith

pub is_alive : (d : Side) (c : Cell) (t was : Tuple) → length was ≡ length (c.names (other d)) → c.shown (other d) was ≡ t → alive d c t was ≡ true
is_alive d c t was w e =
    both (length was == length (c.names (other d))) (tuple_same (c.shown (other d) was) t) (same_length (length was) (length (c.names (other d))) w) (same_tuple (c.shown (other d) was) t e)

pub alive_width : (d : Side) (c : Cell) (t was : Tuple) → alive d c t was ≡ true → length was ≡ length (c.names (other d))
alive_width d c t was h =
    length_same (length was) (length (c.names (other d))) (first (length was == length (c.names (other d))) (tuple_same (c.shown (other d) was) t) h)

pub alive_shown : (d : Side) (c : Cell) (t was : Tuple) → alive d c t was ≡ true → c.shown (other d) was ≡ t
alive_shown d c t was h =
    tuple_is (c.shown (other d) was) t (second (length was == length (c.names (other d))) (tuple_same (c.shown (other d) was) t) h)

-- ---- a cell

-- what is shown for t, beside t where it doesn't match
pub fresh_alive : (d : Side) (c : Cell) (t : Tuple) → length t ≡ length (c.names d) → alive (other d) c (c.shown d t) t ≡ true
fresh_alive d c t w =
    is_alive (other d) c (c.shown d t) t (w ∙ ap (λ (s : Side). length (c.names s)) (sym (turn d))) (ap (λ (s : Side). c.shown s t) (turn d))

fresh_back : (d : Side) (c : Cell) (t : Tuple) → IsCell c → length t ≡ length (c.names d) → tuple_over (other d) c (c.shown d t) (unmatched d c t) ≡ t
fresh_back d c t i w = by_match (c.matches d t) refl
  where
    by_match : (b : Bool) → c.matches d t ≡ b → tuple_over (other d) c (c.shown d t) (cond b None (Some t)) ≡ t
    by_match true q = (i.law d t (c.shown d t) (record { shown = refl; matches = q })).shown
    by_match false q = rw (fresh_alive d c t w) refl

pub tuple_back : (d : Side) (c : Cell) (t : Tuple) (k : Option Tuple) → IsCell c → length t ≡ length (c.names d) → tuple_over (other d) c (tuple_over d c t k) (tuple_left d c t k) ≡ t
tuple_back d c t None i w = fresh_back d c t i w
tuple_back d c t (Some was) i w = by_test (alive d c t was) refl
  where
    by_test : (b : Bool) → alive d c t was ≡ b → tuple_over (other d) c (cond b was (c.shown d t)) (cond b None (unmatched d c t)) ≡ t
    by_test true q = alive_shown d c t was q
    by_test false q = fresh_back d c t i w

pub over_width : (d : Side) (c : Cell) (t : Tuple) (k : Option Tuple) → IsCell c → length t ≡ length (c.names d) → length (tuple_over d c t k) ≡ length (c.names (other d))
over_width d c t None i w = i.width d t w
over_width d c t (Some was) i w = by_test (alive d c t was) refl
  where
    by_test : (b : Bool) → alive d c t was ≡ b → length (cond b was (c.shown d t)) ≡ length (c.names (other d))
    by_test true q = alive_width d c t was q
    by_test false q = i.width d t w

-- ---- the cells of a level, and what is read at their names

cells_width : (d : Side) (cs : List Cell) (x : Pairs) (k : CellsKept cs) → AreCells cs → length (cells_over d cs x k) ≡ length (cells_names (other d) cs)
cells_width d [] x k i = refl
cells_width d (c ∷ cs) x k i =
    length-append (tuple_over d c (tuple_of (c.names d) x) k.0) (cells_over d cs x k.1) ∙ ap₂ (λ (m n : ℕ). m + n) (over_width d c (tuple_of (c.names d) x) k.0 i.0 (tuple_length (c.names d) x)) (cells_width d cs x k.1 i.1) ∙ sym (length-append (c.names (other d)) (cells_names (other d) cs))

inners_width : (d : Side) (is : Inners) (x : Pairs) (k : InnersKept is) → length (inners_over d is x k) ≡ length (inner_names (other d) is)
inners_width d no_inner x k = refl
inners_width d (inner a b l is) x k = ap suc (inners_width d is x k.1)

-- at the names of the first part stand the first values, and at the others the others
pub parts_read : (ns ms : List Name) (y : Pairs) (os qs : Tuple) → length os ≡ length ns → tuple_of (ns ++ ms) y ≡ os ++ qs → (tuple_of ns y ≡ os) × (tuple_of ms y ≡ qs)
parts_read ns ms y os qs w e =
    two_parts (tuple_of ns y) (tuple_of ms y) os qs (tuple_length ns y ∙ sym w) (sym (map-append (λ (n : Name). field n y) ns ms) ∙ e)

pub level_read : (d : Side) (cs : List Cell) (is : Inners) (x : Pairs) (k : Kept (level cs is)) → IsFrame (level cs is) → (tuple_of (cells_names (other d) cs) (over d (level cs is) x k) ≡ cells_over d cs x k.1) × (tuple_of (inner_names (other d) is) (over d (level cs is) x k) ≡ inners_over d is x k.2)
level_read d cs is x k f =
    let w = cells_width d cs x k.1 f.0 in
    let whole : length (cells_over d cs x k.1 ++ inners_over d is x k.2) ≡ length (cells_names (other d) cs ++ inner_names (other d) is) = length-append (cells_over d cs x k.1) (inners_over d is x k.2) ∙ ap₂ (λ (m n : ℕ). m + n) w (inners_width d is x k.2) ∙ sym (length-append (cells_names (other d) cs) (inner_names (other d) is)) in
    parts_read (cells_names (other d) cs) (inner_names (other d) is) (over d (level cs is) x k) (cells_over d cs x k.1) (inners_over d is x k.2) w (put_own_back (cells_names (other d) cs ++ inner_names (other d) is) (cells_over d cs x k.1 ++ inners_over d is x k.2) k.0 (f.1 (other d)) whole)

-- the first cell's values, and those of the others
pub cell_read : (d : Side) (c : Cell) (cs : List Cell) (x y : Pairs) (k : CellsKept (c ∷ cs)) → AreCells (c ∷ cs) → tuple_of (cells_names (other d) (c ∷ cs)) y ≡ cells_over d (c ∷ cs) x k → (tuple_of (c.names (other d)) y ≡ tuple_over d c (tuple_of (c.names d) x) k.0) × (tuple_of (cells_names (other d) cs) y ≡ cells_over d cs x k.1)
cell_read d c cs x y k i e =
    parts_read (c.names (other d)) (cells_names (other d) cs) y (tuple_over d c (tuple_of (c.names d) x) k.0) (cells_over d cs x k.1) (over_width d c (tuple_of (c.names d) x) k.0 i.0 (tuple_length (c.names d) x)) e

cells_back : (d : Side) (cs : List Cell) (x y : Pairs) (k : CellsKept cs) → AreCells cs → tuple_of (cells_names (other d) cs) y ≡ cells_over d cs x k → cells_over (other d) cs y (cells_left d cs x k) ≡ tuple_of (cells_names d cs) x
cells_back d [] x y k i e = refl
cells_back d (c ∷ cs) x y k i e =
    let r = cell_read d c cs x y k i e in
    let t = tuple_of (c.names d) x in
    let here : tuple_over (other d) c (tuple_of (c.names (other d)) y) (tuple_left d c t k.0) ≡ t = ap (λ (u : Tuple). tuple_over (other d) c u (tuple_left d c t k.0)) r.0 ∙ tuple_back d c t k.0 i.0 (tuple_length (c.names d) x) in
    ap₂ (λ (u v : Tuple). u ++ v) here (cells_back d cs x y k.1 i.1 r.1) ∙ sym (map-append (λ (n : Name). field n x) (c.names d) (cells_names d cs))

-- ---- an object inside

value_back : {K : Type 0} (n : K) (f : Pairs → Pairs) (g : Pairs → K) (h : Pairs → K → Pairs) (P : Pairs → Type 0) → ((z : Pairs) → P z → h (f z) (g z) ≡ z) → (v : Option Json) → WhereObject P v → value_over (λ y. h y (value_left n g v)) (value_over f v) ≡ v
value_back n f g h P e None p = refl
value_back n f g h P e (Some null) p = refl
value_back n f g h P e (Some (boolean b)) p = refl
value_back n f g h P e (Some (whole z)) p = refl
value_back n f g h P e (Some (text t)) p = refl
value_back n f g h P e (Some (list js)) p = refl
value_back {K} n f g h P e (Some (object ms)) p =
    let z = pairs_of ms in
    let again : h (pairs_of (members_of (f z))) (g z) ≡ z = ap (λ (w : Pairs). h w (g z)) (pairs_members (f z)) ∙ e z p in
    ap (λ (w : Pairs). Some (object (members_of w))) again ∙ ap (λ m. Some (object m)) (members_pairs ms)

-- ---- a level

mutual
  pub over_back : (d : Side) (l : Level) (x : Pairs) (k : Kept l) → IsFrame l → IsBody d l x → over (other d) l (over d l x k) (left d l x k) ≡ x
  over_back d (level cs is) x k f p =
      let y = over d (level cs is) x k in
      let r = level_read d cs is x k f in
      let os = cells_over (other d) cs y (cells_left d cs x k.1) ++ inners_over (other d) is y (inners_left d is x k.2) in
      let ns = cells_names d cs ++ inner_names d is in
      let values : os ≡ tuple_of ns x = ap₂ (λ (u v : Tuple). u ++ v) (cells_back d cs x y k.1 f.0 r.0) (inners_back d is x y k.2 f.2 p.1 r.1) ∙ sym (map-append (λ (n : Name). field n x) (cells_names d cs) (inner_names d is)) in
      subst (λ (s : Side). put (cells_names s cs ++ inner_names s is) os (own (cells_names s cs ++ inner_names s is) (own ns x)) ≡ x) (sym (turn d)) (whole_again ns os (own ns x) x (f.1 d) p.0 values (own_again ns x))

  inners_back : (d : Side) (is : Inners) (x y : Pairs) (k : InnersKept is) → AreFrames is → InnersBody d is x → tuple_of (inner_names (other d) is) y ≡ inners_over d is x k → inners_over (other d) is y (inners_left d is x k) ≡ tuple_of (inner_names d is) x
  inners_back d no_inner x y k f p e = refl
  inners_back d (inner a b l is) x y k f p e =
      let v = field (named d a b) x in
      let w = field (named (other d) a b) y in
      let z = value_over (λ u. over d l u k.0) v in
      let here : w ≡ z = cons_head w z (tuple_of (inner_names (other d) is) y) (inners_over d is x k.1) e in
      let later = cons_tail w z (tuple_of (inner_names (other d) is) y) (inners_over d is x k.1) e in
      let kept = value_left (nothing l) (λ u. left d l u k.0) v in
      let back : value_over (λ u. over (other d) l u kept) w ≡ v = ap (λ (o : Option Json). value_over (λ u. over (other d) l u kept) o) here ∙ value_back (nothing l) (λ u. over d l u k.0) (λ u. left d l u k.0) (over (other d) l) (IsBody d l) (λ u q. over_back d l u k.0 f.0 q) v p.0 in
      ap₂ (λ (o : Option Json) (os : Tuple). o ∷ os) back (inners_back d is x y k.1 f.1 p.1 later)
