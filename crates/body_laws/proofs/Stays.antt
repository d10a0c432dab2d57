-- What a client didn't touch at the other side stays.
use Rattle.std.proofs.Common.{◌≡◌, List, [], ◌∷◌, ◌++◌, length, Option, Some, None, ap, sym, subst, ◌∙◌}
use Rattle.kj_value.specs.Json.{Json, null, boolean, whole, text, list, object, members_of}
use Rattle.kj_value.specs.Fields.{Pairs, field}
use Rattle.kj_value.specs.Kinds.{pairs_of}
use Rattle.kj_value.specs.KindLaws.{pairs_members}
use Rattle.hub_cells.specs.Side.{Side, other}
use Rattle.hub_cells.specs.Cell.{Tuple}
use Rattle.hub_cells.specs.Level.{Name, named, tuple_of}
use Rattle.body_laws.specs.Cell.{Cell}
use Rattle.body_laws.specs.Frame.{Level, level, Inners, no_inner, inner, cells_names, inner_names, AreCells, IsFrame, AreFrames}
use Rattle.body_laws.specs.Kept.{CellsKept, Kept, InnersKept, nothing}
use Rattle.body_laws.specs.Over.{put, own, tuple_over, tuple_left, cells_over, cells_left, value_over, value_left, over, inners_over, left, inners_left}
use Rattle.body_laws.specs.Stays.{CellsStay, OwnStays, object_in, Inside, Stays, InnersStay}
use Rattle.body_laws.proofs.Fields.{cons_head, cons_tail, tuple_length, put_other, own_other}
use Rattle.body_laws.proofs.Back.{turn, over_width, tuple_back, parts_read, cell_read, level_read}

cells_stay : (d : Side) (cs : List Cell) (x y z w : Pairs) (k : CellsKept cs) → AreCells cs → tuple_of (cells_names (other d) cs) y ≡ cells_over d cs x k → tuple_of (cells_names d cs) w ≡ cells_over (other d) cs z (cells_left d cs x k) → CellsStay d cs x y z w
cells_stay d [] x y z w k i e f = tt
cells_stay d (c ∷ cs) x y z w k i e f =
    let t = tuple_of (c.names d) x in
    let r = cell_read d c cs x y k i e in
    let left_c = tuple_left d c t k.0 in
    let back : Tuple = tuple_over (other d) c (tuple_of (c.names (other d)) z) left_c in
    let width : length back ≡ length (c.names d) = over_width (other d) c (tuple_of (c.names (other d)) z) left_c i.0 (tuple_length (c.names (other d)) z) ∙ ap (λ (s : Side). length (c.names s)) (turn d) in
    let s = parts_read (c.names d) (cells_names d cs) w back (cells_over (other d) cs z (cells_left d cs x k.1)) width f in
    (λ q. s.0 ∙ ap (λ (u : Tuple). tuple_over (other d) c u left_c) (q ∙ r.0) ∙ tuple_back d c t k.0 i.0 (tuple_length (c.names d) x), cells_stay d cs x y z w k.1 i.1 r.1 s.1)

-- an object at a name of x that went over by f, and an object z there that came back by h
object_stays : {K : Type 0} (n : K) (f : Pairs → Pairs) (g : Pairs → K) (h : Pairs → K → Pairs) (R : Pairs → Pairs → Pairs → Pairs → Type 0) → ((x z : Pairs) → R x (f x) z (h z (g x))) → (v u : Option Json) → Inside R (object_in v) (object_in (value_over f v)) (object_in u) (object_in (value_over (λ y. h y (value_left n g v)) u))
object_stays n f g h R e None u = tt
object_stays n f g h R e (Some null) u = tt
object_stays n f g h R e (Some (boolean b)) u = tt
object_stays n f g h R e (Some (whole i)) u = tt
object_stays n f g h R e (Some (text t)) u = tt
object_stays n f g h R e (Some (list js)) u = tt
object_stays n f g h R e (Some (object ms)) None = tt
object_stays n f g h R e (Some (object ms)) (Some null) = tt
object_stays n f g h R e (Some (object ms)) (Some (boolean b)) = tt
object_stays n f g h R e (Some (object ms)) (Some (whole i)) = tt
object_stays n f g h R e (Some (object ms)) (Some (text t)) = tt
object_stays n f g h R e (Some (object ms)) (Some (list js)) = tt
object_stays n f g h R e (Some (object ms)) (Some (object ns)) =
    let x = pairs_of ms in
    let z = pairs_of ns in
    subst (λ (y : Pairs). R x y z (pairs_of (members_of (h z (g x))))) (sym (pairs_members (f x))) (subst (λ (w : Pairs). R x (f x) z w) (sym (pairs_members (h z (g x)))) (e x z))

-- a value of the side's name n in w, where that is how it comes back
abbrev At : Side → Name → Name → Pairs → Option Json
At d a b x = field (named d a b) x

mutual
  pub untouched : (d : Side) (l : Level) (x z : Pairs) (k : Kept l) → IsFrame l → Stays d l x (over d l x k) z (over (other d) l z (left d l x k))
  untouched d (level cs is) x z k f =
      let y = over d (level cs is) x k in
      let r = level_read d cs is x k f in
      let kept = left d (level cs is) x k in
      let w = over (other d) (level cs is) z kept in
      let os = cells_over (other d) cs z kept.1 ++ inners_over (other d) is z kept.2 in
      let ns = cells_names d cs ++ inner_names d is in
      let s = level_read (other d) cs is z kept f in
      let cells : tuple_of (cells_names d cs) w ≡ cells_over (other d) cs z kept.1 = subst (λ (e : Side). tuple_of (cells_names e cs) w ≡ cells_over (other d) cs z kept.1) (turn d) s.0 in
      let inners : tuple_of (inner_names d is) w ≡ inners_over (other d) is z kept.2 = subst (λ (e : Side). tuple_of (inner_names e is) w ≡ inners_over (other d) is z kept.2) (turn d) s.1 in
      let fields : OwnStays ns x w = subst (λ (e : Side). OwnStays ns x (put (cells_names e cs ++ inner_names e is) os (own (cells_names e cs ++ inner_names e is) (own ns x)))) (sym (turn d)) (λ j h. put_other j ns os (own ns (own ns x)) h ∙ own_other j ns (own ns x) h ∙ own_other j ns x h) in
      (cells_stay d cs x y z w k.1 f.0 r.0 cells, fields, inners_stay d is x y z w k.2 f.2 r.1 inners)

  inners_stay : (d : Side) (is : Inners) (x y z w : Pairs) (k : InnersKept is) → AreFrames is → tuple_of (inner_names (other d) is) y ≡ inners_over d is x k → tuple_of (inner_names d is) w ≡ inners_over (other d) is z (inners_left d is x k) → InnersStay d is x y z w
  inners_stay d no_inner x y z w k f e g = tt
  inners_stay d (inner a b l is) x y z w k f e g =
      let v = At d a b x in
      let u = At (other d) a b z in
      let kept = value_left (nothing l) (λ (q : Pairs). left d l q k.0) v in
      let there = value_over (λ (q : Pairs). over d l q k.0) v in
      let back = value_over (λ (q : Pairs). over (other d) l q kept) u in
      let here : At (other d) a b y ≡ there = cons_head (At (other d) a b y) there (tuple_of (inner_names (other d) is) y) (inners_over d is x k.1) e in
      let again : At d a b w ≡ back = cons_head (At d a b w) back (tuple_of (inner_names d is) w) (inners_over (other d) is z (inners_left d is x k.1)) g in
      let first = object_stays (nothing l) (λ (q : Pairs). over d l q k.0) (λ (q : Pairs). left d l q k.0) (over (other d) l) (Stays d l) (λ (p q : Pairs). untouched d l p q k.0 f.0) v u in
      let second = subst (λ (o : Option Json). Inside (Stays d l) (object_in v) (object_in o) (object_in u) (object_in back)) (sym here) first in
      (subst (λ (o : Option Json). Inside (Stays d l) (object_in v) (object_in (At (other d) a b y)) (object_in u) (object_in o)) (sym again) second, inners_stay d is x y z w k.1 f.1 (cons_tail (At (other d) a b y) there (tuple_of (inner_names (other d) is) y) (inners_over d is x k.1) e) (cons_tail (At d a b w) back (tuple_of (inner_names d is) w) (inners_over (other d) is z (inners_left d is x k.1)) g))
