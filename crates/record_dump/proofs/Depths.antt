-- An object is no deeper without what a server sets anew.
use Rattle.std.proofs.Common.{◌≡◌, ℕ, suc, ◌≤◌, max, List, [], ◌∷◌, Bool, true, false, cond, Option, Some, None, Ordering, Less, Equal, Greater, nat_cmp, arith}
use Rattle.std.specs.Prelude.{codes}
use Rattle.std.specs.Cmp.Lexicographic.{slice_cmp}
use Rattle.std.specs.BTreeMap.{is_at}
use Rattle.std.specs.Ordering.{match_ordering}
use Rattle.kj_value.specs.Json.{Json, null, boolean, whole, text, list, object, members_of, depth, members_depth}
use Rattle.kj_value.specs.Fields.{Pairs, field, with_field, without_field}
use Rattle.kj_value.specs.KindLaws.{members_pairs}
use Rattle.object_reading.specs.Fields.{object_at}
use Rattle.wire_client.specs.Forms.{fields_of}
use Rattle.record_dump.specs.Lines.{carried, dumped}

abbrev depth_at : Option Json → ℕ
depth_at None = 0
depth_at (Some j) = depth j

first_most : (a b : ℕ) → a ≤ max a b
first_most a b = omega arith

second_most : (n a b : ℕ) → n ≤ b → n ≤ max a b
second_most n a b h = omega arith

both_most : (n a b : ℕ) → n ≤ b → max a n ≤ max a b
both_most n a b h = omega arith

field_depth : (k : List ℕ) (es : Pairs) → depth_at (field k es) ≤ members_depth (members_of es)
field_depth k [] = omega arith
field_depth k (e ∷ es) = by_test (is_at (slice_cmp nat_cmp k) e.0) (field_depth k es)
  where
    by_test : (b : Bool) → depth_at (field k es) ≤ members_depth (members_of es) → depth_at (cond b (Some e.1) (field k es)) ≤ max (depth e.1) (members_depth (members_of es))
    by_test true h = first_most (depth e.1) (members_depth (members_of es))
    by_test false h = second_most (depth_at (field k es)) (depth e.1) (members_depth (members_of es)) h

removed_depth : (k : List ℕ) (es : Pairs) → members_depth (members_of (without_field k es)) ≤ members_depth (members_of es)
removed_depth k [] = omega arith
removed_depth k (e ∷ es) = by_test (is_at (slice_cmp nat_cmp k) e.0) (removed_depth k es)
  where
    by_test : (b : Bool) → members_depth (members_of (without_field k es)) ≤ members_depth (members_of es)
        → members_depth (members_of (cond b es (e ∷ without_field k es))) ≤ max (depth e.1) (members_depth (members_of es))
    by_test true h = second_most (members_depth (members_of es)) (depth e.1) (members_depth (members_of es)) (omega arith)
    by_test false h = both_most (members_depth (members_of (without_field k es))) (depth e.1) (members_depth (members_of es)) h

before_most : (v a b : ℕ) → max v (max a b) ≤ max v (max a b)
before_most v a b = omega arith

over_most : (v a b : ℕ) → max v b ≤ max v (max a b)
over_most v a b = omega arith

behind_most : (n v a b : ℕ) → n ≤ max v b → max a n ≤ max v (max a b)
behind_most n v a b h = omega arith

put_depth : (k : List ℕ) (v : Json) (es : Pairs) → members_depth (members_of (with_field k v es)) ≤ max (depth v) (members_depth (members_of es))
put_depth k v [] = omega arith
put_depth k v (e ∷ es) = by_order (slice_cmp nat_cmp k e.0) (put_depth k v es)
  where
    by_order : (o : Ordering) → members_depth (members_of (with_field k v es)) ≤ max (depth v) (members_depth (members_of es))
        → members_depth (members_of (match_ordering o ((k, v) ∷ e ∷ es) ((e.0, v) ∷ es) (e ∷ with_field k v es))) ≤ max (depth v) (max (depth e.1) (members_depth (members_of es)))
    by_order Less h = before_most (depth v) (depth e.1) (members_depth (members_of es))
    by_order Equal h = over_most (depth v) (depth e.1) (members_depth (members_of es))
    by_order Greater h = behind_most (members_depth (members_of (with_field k v es))) (depth v) (depth e.1) (members_depth (members_of es)) h

at_least_one : (n : ℕ) → suc 0 ≤ max 1 n
at_least_one n = omega arith

itself_most : (n : ℕ) → suc n ≤ max 1 (suc n)
itself_most n = omega arith

object_depth : (o : Option Json) → suc (members_depth (members_of (object_at o))) ≤ max 1 (depth_at o)
object_depth None = at_least_one 0
object_depth (Some null) = at_least_one 0
object_depth (Some (boolean b)) = at_least_one 0
object_depth (Some (whole z)) = at_least_one 0
object_depth (Some (text s)) = at_least_one 0
object_depth (Some (list js)) = at_least_one (depth (list js))
object_depth (Some (object ms)) = rw (members_pairs ms) (itself_most (members_depth ms))

five_steps : (a b c d e f : ℕ) → a ≤ b → b ≤ c → c ≤ d → d ≤ e → e ≤ f → a ≤ f
five_steps a b c d e f p q r s t = omega arith

carried_depth : (ms : Pairs) → members_depth (members_of (carried ms)) ≤ members_depth (members_of ms)
carried_depth ms =
    let a = without_field (codes "creationTimestamp") ms in
    let b = without_field (codes "deletionTimestamp") a in
    let c = without_field (codes "generation") b in
    let d = without_field (codes "resourceVersion") c in
    five_steps (members_depth (members_of (without_field (codes "uid") d))) (members_depth (members_of d)) (members_depth (members_of c)) (members_depth (members_of b)) (members_depth (members_of a)) (members_depth (members_of ms))
    (removed_depth (codes "uid") d) (removed_depth (codes "resourceVersion") c) (removed_depth (codes "generation") b) (removed_depth (codes "deletionTimestamp") a) (removed_depth (codes "creationTimestamp") ms)

-- p: with the metadata put; c: what is carried; m: the metadata; f: at its name; w: without it; t: all fields; d: the value
put_low : (p c m f w t d : ℕ) → p ≤ max (suc c) w → c ≤ m → suc m ≤ max 1 f → f ≤ t → w ≤ t → suc t ≤ max 1 d → d ≤ 66 → suc p ≤ 100
put_low p c m f w t d h i j k l n o = omega arith

pub dumped_low : (j k : Json) → k ≡ dumped j → depth j ≤ 66 → depth k ≤ 100
unfolding dumped
dumped_low j k is low =
    let fs = fields_of j in
    let meta = field (codes "metadata") fs in
    let kept = carried (object_at meta) in
    let rest = without_field (codes "metadata") fs in
    rw is
    (put_low (members_depth (members_of (with_field (codes "metadata") (object (members_of kept)) rest))) (members_depth (members_of kept)) (members_depth (members_of (object_at meta))) (depth_at meta) (members_depth (members_of rest)) (members_depth (members_of fs)) (depth j)
    (put_depth (codes "metadata") (object (members_of kept)) rest) (carried_depth (object_at meta)) (object_depth meta) (field_depth (codes "metadata") fs) (removed_depth (codes "metadata") fs) (object_depth (Some j)) low)
