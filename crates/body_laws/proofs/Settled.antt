-- Over and back takes out what is dead, and nothing else; and what is dead changes nothing. So one step settles.
use Rattle.std.proofs.Common.{◌≡◌, List, [], ◌∷◌, ◌++◌, length, Bool, true, false, ◌&&◌, cond, Option, Some, None, refl, ap, ap₂, sym, subst, ◌∙◌}
use Rattle.std.specs.Prelude.{not}
use Rattle.kj_value.specs.Json.{Json, null, boolean, whole, text, list, object, members_of}
use Rattle.kj_value.specs.Fields.{Pairs, field}
use Rattle.kj_value.specs.Kinds.{pairs_of}
use Rattle.kj_value.specs.KindLaws.{pairs_members}
use Rattle.hub_cells.specs.Side.{Side, other}
use Rattle.hub_cells.specs.Cell.{Tuple}
use Rattle.hub_cells.specs.Level.{named, tuple_of}
use Rattle.body_laws.specs.Cell.{Cell, Match, IsCell}
use Rattle.body_laws.specs.Frame.{Level, level, Inners, no_inner, inner, cells_names, inner_names, AreCells, IsFrame, AreFrames}
use Rattle.body_laws.specs.Kept.{CellsKept, Kept, InnersKept, nothing}
use Rattle.body_laws.specs.Over.{put, own, alive, tuple_over, unmatched, tuple_left, cells_over, cells_left, value_over, value_left, over, inners_over, left, inners_left, Held, crossed, settled}
use Rattle.body_laws.specs.Body.{IsBody}
use Rattle.body_laws.specs.Alive.{living, cells_living, all_living, inners_living, without_dead, IsSettled}
use Rattle.body_laws.proofs.Fields.{cons_head, cons_tail, tuple_length, own_again, own_put}
use Rattle.body_laws.proofs.Back.{turn, fresh_alive, alive_shown, cell_read, level_read, over_back}

-- ---- a cell: what is left of what was kept, once it is back

fresh_left : (d : Side) (c : Cell) (t : Tuple) → IsCell c → length t ≡ length (c.names d) → tuple_left (other d) c (c.shown d t) (unmatched d c t) ≡ None
fresh_left d c t i w = by_match (c.matches d t) refl
  where
    by_match : (b : Bool) → c.matches d t ≡ b → tuple_left (other d) c (c.shown d t) (cond b None (Some t)) ≡ None
    by_match true q = ap (λ (b : Bool). cond b None (Some (c.shown d t))) (i.law d t (c.shown d t) (record { shown = refl; matches = q })).matches
    by_match false q = ap (λ (b : Bool). cond b None (unmatched (other d) c (c.shown d t))) (fresh_alive d c t w)

tuple_settled : (d : Side) (c : Cell) (t : Tuple) (k : Option Tuple) → IsCell c → length t ≡ length (c.names d) → tuple_left (other d) c (tuple_over d c t k) (tuple_left d c t k) ≡ living d c t k
tuple_settled d c t None i w = fresh_left d c t i w
tuple_settled d c t (Some was) i w = by_test (alive d c t was)
  where
    by_match : (b : Bool) → cond b None (Some was) ≡ cond (true && not b) (Some was) None
    by_match true = refl
    by_match false = refl

    by_test : (b : Bool) → tuple_left (other d) c (cond b was (c.shown d t)) (cond b None (unmatched d c t)) ≡ cond (b && not (c.matches (other d) was)) (Some was) None
    by_test true = by_match (c.matches (other d) was)
    by_test false = fresh_left d c t i w

cells_settled : (d : Side) (cs : List Cell) (x y : Pairs) (k : CellsKept cs) → AreCells cs → tuple_of (cells_names (other d) cs) y ≡ cells_over d cs x k → cells_left (other d) cs y (cells_left d cs x k) ≡ cells_living d cs x k
cells_settled d [] x y k i e = refl
cells_settled d (c ∷ cs) x y k i e =
    let r = cell_read d c cs x y k i e in
    let t = tuple_of (c.names d) x in
    let here : tuple_left (other d) c (tuple_of (c.names (other d)) y) (tuple_left d c t k.0) ≡ living d c t k.0 = ap (λ (u : Tuple). tuple_left (other d) c u (tuple_left d c t k.0)) r.0 ∙ tuple_settled d c t k.0 i.0 (tuple_length (c.names d) x) in
    ap₂ (λ (o : Option Tuple) (ks : CellsKept cs). (o, ks)) here (cells_settled d cs x y k.1 i.1 r.1)

value_settled : {K : Type 0} (n : K) (f : Pairs → Pairs) (g : Pairs → K) (h : Pairs → K → K) (s : Pairs → K) → ((z : Pairs) → h (f z) (g z) ≡ s z) → (v : Option Json) → value_left n (λ y. h y (value_left n g v)) (value_over f v) ≡ value_left n s v
value_settled n f g h s e None = refl
value_settled n f g h s e (Some null) = refl
value_settled n f g h s e (Some (boolean b)) = refl
value_settled n f g h s e (Some (whole z)) = refl
value_settled n f g h s e (Some (text t)) = refl
value_settled n f g h s e (Some (list js)) = refl
value_settled n f g h s e (Some (object ms)) =
    let z = pairs_of ms in ap (λ (w : Pairs). h w (g z)) (pairs_members (f z)) ∙ e z

mutual
  pub left_living : (d : Side) (l : Level) (x : Pairs) (k : Kept l) → IsFrame l → left (other d) l (over d l x k) (left d l x k) ≡ all_living d l x k
  left_living d (level cs is) x k f =
      let y = over d (level cs is) x k in
      let r = level_read d cs is x k f in
      let fields = own_put (cells_names (other d) cs ++ inner_names (other d) is) (cells_over d cs x k.1 ++ inners_over d is x k.2) k.0 in
      let cells = cells_settled d cs x y k.1 f.0 r.0 in
      let inners = inners_settled d is x y k.2 f.2 r.1 in
      λ i. (fields i, cells i, inners i)

  inners_settled : (d : Side) (is : Inners) (x y : Pairs) (k : InnersKept is) → AreFrames is → tuple_of (inner_names (other d) is) y ≡ inners_over d is x k → inners_left (other d) is y (inners_left d is x k) ≡ inners_living d is x k
  inners_settled d no_inner x y k f e = refl
  inners_settled d (inner a b l is) x y k f e =
      let v = field (named d a b) x in
      let w = field (named (other d) a b) y in
      let z = value_over (λ (u : Pairs). over d l u k.0) v in
      let kept = value_left (nothing l) (λ (u : Pairs). left d l u k.0) v in
      let here = ap (λ (o : Option Json). value_left (nothing l) (λ (u : Pairs). left (other d) l u kept) o) (cons_head w z (tuple_of (inner_names (other d) is) y) (inners_over d is x k.1) e) in
      let first = here ∙ value_settled (nothing l) (λ (u : Pairs). over d l u k.0) (λ (u : Pairs). left d l u k.0) (left (other d) l) (λ (u : Pairs). all_living d l u k.0) (λ (u : Pairs). left_living d l u k.0 f.0) v in
      ap₂ (λ (p : Kept l) (q : InnersKept is). (p, q)) first (inners_settled d is x y k.1 f.1 (cons_tail w z (tuple_of (inner_names (other d) is) y) (inners_over d is x k.1) e))

pub settled_living : (d : Side) (l : Level) (x : Held l) → IsFrame l → IsBody d l x.fields → settled d l x ≡ without_dead d l x
settled_living d l x f p =
    let fields = over_back d l x.fields x.kept f p in
    let kept = left_living d l x.fields x.kept f in
    λ i. record { fields = fields i; kept = kept i }

-- ---- what is dead changes nothing

-- what is kept and matches is what goes over anyhow
kept_match : (d : Side) (c : Cell) (t was : Tuple) → IsCell c → alive d c t was ≡ true → c.matches (other d) was ≡ true → Match c d t was
kept_match d c t was i a m =
    subst (λ (s : Side). Match c s t was) (turn d) (i.law (other d) was t (record { shown = alive_shown d c t was a; matches = m }))

module _ (d : Side) (c : Cell) (t was : Tuple) (i : IsCell c) where
  over_some : (a m : Bool) → alive d c t was ≡ a → c.matches (other d) was ≡ m → tuple_over d c t (cond (a && not m) (Some was) None) ≡ cond a was (c.shown d t)
  over_some true true p q = (kept_match d c t was i p q).shown
  over_some true false p q = ap (λ (b : Bool). cond b was (c.shown d t)) p
  over_some false m p q = refl

  left_some : (a m : Bool) → alive d c t was ≡ a → c.matches (other d) was ≡ m → tuple_left d c t (cond (a && not m) (Some was) None) ≡ cond a None (unmatched d c t)
  left_some true true p q = ap (λ (b : Bool). cond b None (Some t)) (kept_match d c t was i p q).matches
  left_some true false p q = ap (λ (b : Bool). cond b None (unmatched d c t)) p
  left_some false m p q = refl

over_living : (d : Side) (c : Cell) (t : Tuple) (k : Option Tuple) → IsCell c → tuple_over d c t (living d c t k) ≡ tuple_over d c t k
over_living d c t None i = refl
over_living d c t (Some was) i = over_some d c t was i (alive d c t was) (c.matches (other d) was) refl refl

tuple_living : (d : Side) (c : Cell) (t : Tuple) (k : Option Tuple) → IsCell c → tuple_left d c t (living d c t k) ≡ tuple_left d c t k
tuple_living d c t None i = refl
tuple_living d c t (Some was) i = left_some d c t was i (alive d c t was) (c.matches (other d) was) refl refl

cells_over_living : (d : Side) (cs : List Cell) (x : Pairs) (k : CellsKept cs) → AreCells cs → cells_over d cs x (cells_living d cs x k) ≡ cells_over d cs x k
cells_over_living d [] x k i = refl
cells_over_living d (c ∷ cs) x k i =
    ap₂ (λ (u v : Tuple). u ++ v) (over_living d c (tuple_of (c.names d) x) k.0 i.0) (cells_over_living d cs x k.1 i.1)

cells_left_living : (d : Side) (cs : List Cell) (x : Pairs) (k : CellsKept cs) → AreCells cs → cells_left d cs x (cells_living d cs x k) ≡ cells_left d cs x k
cells_left_living d [] x k i = refl
cells_left_living d (c ∷ cs) x k i =
    ap₂ (λ (o : Option Tuple) (ks : CellsKept cs). (o, ks)) (tuple_living d c (tuple_of (c.names d) x) k.0 i.0) (cells_left_living d cs x k.1 i.1)

value_living : {K : Type 0} (n : K) (g : Pairs → K) (h f : Pairs → K → Pairs) (k : K) → ((z : Pairs) → h z (g z) ≡ f z k) → (v : Option Json) → value_over (λ y. h y (value_left n g v)) v ≡ value_over (λ y. f y k) v
value_living n g h f k e None = refl
value_living n g h f k e (Some null) = refl
value_living n g h f k e (Some (boolean b)) = refl
value_living n g h f k e (Some (whole z)) = refl
value_living n g h f k e (Some (text t)) = refl
value_living n g h f k e (Some (list js)) = refl
value_living n g h f k e (Some (object ms)) = ap (λ (w : Pairs). Some (object (members_of w))) (e (pairs_of ms))

kept_living : {K : Type 0} (n : K) (g : Pairs → K) (h f : Pairs → K → K) (k : K) → ((z : Pairs) → h z (g z) ≡ f z k) → (v : Option Json) → value_left n (λ y. h y (value_left n g v)) v ≡ value_left n (λ y. f y k) v
kept_living n g h f k e None = refl
kept_living n g h f k e (Some null) = refl
kept_living n g h f k e (Some (boolean b)) = refl
kept_living n g h f k e (Some (whole z)) = refl
kept_living n g h f k e (Some (text t)) = refl
kept_living n g h f k e (Some (list js)) = refl
kept_living n g h f k e (Some (object ms)) = e (pairs_of ms)

mutual
  over_all_living : (d : Side) (l : Level) (x : Pairs) (k : Kept l) → IsFrame l → over d l x (all_living d l x k) ≡ over d l x k
  over_all_living d (level cs is) x k f =
      let ns = cells_names (other d) cs ++ inner_names (other d) is in
      let values = ap₂ (λ (u v : Tuple). u ++ v) (cells_over_living d cs x k.1 f.0) (inners_over_living d is x k.2 f.2) in
      ap₂ (λ (os : Tuple) (ps : Pairs). put ns os ps) values (own_again ns k.0)

  inners_over_living : (d : Side) (is : Inners) (x : Pairs) (k : InnersKept is) → AreFrames is → inners_over d is x (inners_living d is x k) ≡ inners_over d is x k
  inners_over_living d no_inner x k f = refl
  inners_over_living d (inner a b l is) x k f =
      ap₂ (λ (o : Option Json) (os : Tuple). o ∷ os) (value_living (nothing l) (λ (u : Pairs). all_living d l u k.0) (over d l) (over d l) k.0 (λ (u : Pairs). over_all_living d l u k.0 f.0) (field (named d a b) x)) (inners_over_living d is x k.1 f.1)

mutual
  left_all_living : (d : Side) (l : Level) (x : Pairs) (k : Kept l) → IsFrame l → left d l x (all_living d l x k) ≡ left d l x k
  left_all_living d (level cs is) x k f =
      let cells = cells_left_living d cs x k.1 f.0 in
      let inners = inners_left_living d is x k.2 f.2 in
      λ i. (own (cells_names d cs ++ inner_names d is) x, cells i, inners i)

  inners_left_living : (d : Side) (is : Inners) (x : Pairs) (k : InnersKept is) → AreFrames is → inners_left d is x (inners_living d is x k) ≡ inners_left d is x k
  inners_left_living d no_inner x k f = refl
  inners_left_living d (inner a b l is) x k f =
      ap₂ (λ (p : Kept l) (q : InnersKept is). (p, q)) (kept_living (nothing l) (λ (u : Pairs). all_living d l u k.0) (left d l) (left d l) k.0 (λ (u : Pairs). left_all_living d l u k.0 f.0) (field (named d a b) x)) (inners_left_living d is x k.1 f.1)

pub dead_harmless : (d : Side) (l : Level) (x : Held l) → IsFrame l → crossed d l (without_dead d l x) ≡ crossed d l x
dead_harmless d l x f =
    let fields = over_all_living d l x.fields x.kept f in
    let kept = left_all_living d l x.fields x.kept f in
    λ i. record { fields = fields i; kept = kept i }

-- ---- one step settles

-- what an object settles to goes over as the object does
settled_over : (d : Side) (l : Level) (x : Held l) → IsFrame l → IsBody d l x.fields → crossed d l (settled d l x) ≡ crossed d l x
settled_over d l x f p = ap (crossed d l) (settled_living d l x f p) ∙ dead_harmless d l x f

pub settles_once : (d : Side) (l : Level) (x : Held l) → IsFrame l → IsBody d l x.fields → IsSettled d l (settled d l x)
settles_once d l x f p = ap (crossed (other d) l) (settled_over d l x f p)

-- for an equation of the one side, that of the other
turned_over : (d : Side) (l : Level) (x : Held l) → crossed d l (settled d l x) ≡ crossed d l x → IsSettled (other d) l (crossed d l x)
turned_over d l x e = subst (λ (s : Side). crossed s l (settled d l x) ≡ crossed d l x) (sym (turn d)) e

pub over_is_settled : (d : Side) (l : Level) (x : Held l) → IsFrame l → IsBody d l x.fields → IsSettled (other d) l (crossed d l x)
over_is_settled d l x f p = turned_over d l x (settled_over d l x f p)

pub settled_is_over : (d : Side) (l : Level) (x : Held l) → IsSettled d l x → IsSettled (other d) l (crossed d l x)
settled_is_over d l x e = turned_over d l x (ap (crossed d l) e)
