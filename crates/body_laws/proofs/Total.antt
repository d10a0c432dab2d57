-- What goes over is a body, and with nothing kept it has only names of its levels.
use Rattle.std.proofs.Common.{◌≡◌, [], ◌∷◌, ◌++◌, Bool, true, false, cond, Option, Some, None, nat_cmp, is_eq, sym, subst}
use Rattle.std.specs.Cmp.Lexicographic.{slice_cmp}
use Rattle.kj_value.specs.Json.{Json, null, boolean, whole, text, list, object, members_of}
use Rattle.kj_value.specs.Fields.{Pairs, field}
use Rattle.kj_value.specs.Kinds.{pairs_of}
use Rattle.kj_value.specs.KindLaws.{pairs_members, members_pairs}
use Rattle.kj_value.specs.Sound.{IsSoundJson, AreRising}
use Rattle.hub_cells.specs.Side.{Side, other}
use Rattle.hub_cells.specs.Level.{Name, named, tuple_of}
use Rattle.body_laws.specs.Frame.{Level, level, Inners, no_inner, inner, cells_names, inner_names, IsFrame, AreFrames}
use Rattle.body_laws.specs.Kept.{Kept, InnersKept, nothing, nothing_inside, no_cells}
use Rattle.body_laws.specs.Over.{own, cells_over, value_over, over, inners_over}
use Rattle.body_laws.specs.Body.{WhereObject, IsBody, InnersBody}
use Rattle.body_laws.specs.Known.{IsKnown, InnersKnown}
use Rattle.body_laws.proofs.Fields.{cons_head, cons_tail, put_other, rising_put, rising_own, rising_fields}
use Rattle.body_laws.proofs.Back.{level_read}

object_over : (P : Pairs → Type 0) (f : Pairs → Pairs) → ((y : Pairs) → P (f y)) → (v : Option Json) → WhereObject P (value_over f v)
object_over P f h None = tt
object_over P f h (Some null) = tt
object_over P f h (Some (boolean b)) = tt
object_over P f h (Some (whole z)) = tt
object_over P f h (Some (text t)) = tt
object_over P f h (Some (list js)) = tt
object_over P f h (Some (object ms)) = subst P (sym (pairs_members (f (pairs_of ms)))) (h (pairs_of ms))

mutual
  pub over_body : (d : Side) (l : Level) (x : Pairs) (k : Kept l) → IsFrame l → IsBody (other d) l (over d l x k)
  over_body d (level cs is) x k f =
      let ns = cells_names (other d) cs ++ inner_names (other d) is in
      (rising_put ns (cells_over d cs x k.1 ++ inners_over d is x k.2) (own ns k.0) (rising_own ns k.0), inners_body d is x (over d (level cs is) x k) k.2 f.2 (level_read d cs is x k f).1)

  inners_body : (d : Side) (is : Inners) (x y : Pairs) (k : InnersKept is) → AreFrames is → tuple_of (inner_names (other d) is) y ≡ inners_over d is x k → InnersBody (other d) is y
  inners_body d no_inner x y k f e = tt
  inners_body d (inner a b l is) x y k f e =
      let v = value_over (λ u. over d l u k.0) (field (named d a b) x) in
      let w = field (named (other d) a b) y in
      (subst (WhereObject (IsBody (other d) l)) (sym (cons_head w v (tuple_of (inner_names (other d) is) y) (inners_over d is x k.1) e)) (object_over (IsBody (other d) l) (λ u. over d l u k.0) (λ u. over_body d l u k.0 f.0) (field (named d a b) x)), inners_body d is x y k.1 f.1 (cons_tail w v (tuple_of (inner_names (other d) is) y) (inners_over d is x k.1) e))

-- ---- with nothing kept

mutual
  pub over_known : (d : Side) (l : Level) (x : Pairs) → IsFrame l → IsKnown (other d) l (over d l x (nothing l))
  over_known d (level cs is) x f =
      let ns = cells_names (other d) cs ++ inner_names (other d) is in
      (λ k h. put_other k ns (cells_over d cs x (no_cells cs) ++ inners_over d is x (nothing_inside is)) [] h, inners_known d is x (over d (level cs is) x (nothing (level cs is))) f.2 (level_read d cs is x (nothing (level cs is)) f).1)

  inners_known : (d : Side) (is : Inners) (x y : Pairs) → AreFrames is → tuple_of (inner_names (other d) is) y ≡ inners_over d is x (nothing_inside is) → InnersKnown (other d) is y
  inners_known d no_inner x y f e = tt
  inners_known d (inner a b l is) x y f e =
      let v = value_over (λ u. over d l u (nothing l)) (field (named d a b) x) in
      let w = field (named (other d) a b) y in
      (subst (WhereObject (IsKnown (other d) l)) (sym (cons_head w v (tuple_of (inner_names (other d) is) y) (inners_over d is x (nothing_inside is)) e)) (object_over (IsKnown (other d) l) (λ u. over d l u (nothing l)) (λ u. over_known d l u f.0) (field (named d a b) x)), inners_known d is x y f.1 (cons_tail w v (tuple_of (inner_names (other d) is) y) (inners_over d is x (nothing_inside is)) e))

-- ---- every object of the program is a body

abbrev WhereSound : Option Json → Type 0
WhereSound None = Unit {0}
WhereSound (Some j) = IsSoundJson j

sound_at : (k : Name) (x : Pairs) → AreRising (members_of x) → WhereSound (field k x)
sound_at k [] r = tt
sound_at k (p ∷ ps) r = by_test (is_eq (slice_cmp nat_cmp k p.0)) (sound_at k ps r.2)
  where
    by_test : (b : Bool) → WhereSound (field k ps) → WhereSound (cond b (Some p.1) (field k ps))
    by_test true h = r.1
    by_test false h = h

sound_object : (P : Pairs → Type 0) → ((y : Pairs) → AreRising (members_of y) → P y) → (v : Option Json) → WhereSound v → WhereObject P v
sound_object P h None s = tt
sound_object P h (Some null) s = tt
sound_object P h (Some (boolean b)) s = tt
sound_object P h (Some (whole z)) s = tt
sound_object P h (Some (text t)) s = tt
sound_object P h (Some (list js)) s = tt
sound_object P h (Some (object ms)) s = h (pairs_of ms) (subst AreRising (sym (members_pairs ms)) s)

mutual
  pub sound_body : (d : Side) (l : Level) (x : Pairs) → AreRising (members_of x) → IsBody d l x
  sound_body d (level cs is) x r = (rising_fields x r, sound_inners d is x r)

  sound_inners : (d : Side) (is : Inners) (x : Pairs) → AreRising (members_of x) → InnersBody d is x
  sound_inners d no_inner x r = tt
  sound_inners d (inner a b l is) x r =
      (sound_object (IsBody d l) (λ (y : Pairs) s. sound_body d l y s) (field (named d a b) x) (sound_at (named d a b) x r), sound_inners d is x r)
