-- Fields and items as lists, and how deep they are.
use Rattle.std.proofs.Common.{◌≡◌, ℕ, suc, ◌+◌, ◌≤◌, max, List, [], ◌∷◌, Bool, true, false, cond, Option, Some, None, nat_cmp, refl, arith}
use Rattle.std.specs.Prelude.{codes}
use Rattle.std.specs.Cmp.Lexicographic.{slice_cmp}
use Rattle.std.specs.BTreeMap.{is_at}
use Rattle.kj_value.specs.Json.{Json, null, boolean, whole, text, list, object, items_of, members_of, depth, items_depth, members_depth}
use Rattle.kj_value.specs.Fields.{Pairs, field, without_field}
use Rattle.kj_value.specs.KindLaws.{members_pairs, items_list}
use Rattle.object_reading.specs.Fields.{pairs_of, given, object_at, list_at}
use Rattle.object_reading.specs.Parts.{text_or_empty, body_in}

-- ---- what stands at a name

abbrev depth_at : Option Json → ℕ
depth_at None = 0
depth_at (Some j) = depth j

first_most : (a b : ℕ) → a ≤ max a b
first_most a b = omega arith

second_most : (n a b : ℕ) → n ≤ b → n ≤ max a b
second_most n a b h = omega arith

both_most : (n a b : ℕ) → n ≤ b → max a n ≤ max a b
both_most n a b h = omega arith

field_depth : (k : List ℕ) (es : Pairs) → depth_at (field k es) ≤ members_depth (members_of es)
field_depth k [] = omega arith
field_depth k (e ∷ es) = by_test (is_at (slice_cmp nat_cmp k) e.0) (field_depth k es)
  where
    by_test : (b : Bool) → depth_at (field k es) ≤ members_depth (members_of es) → depth_at (cond b (Some e.1) (field k es)) ≤ max (depth e.1) (members_depth (members_of es))
    by_test true h = first_most (depth e.1) (members_depth (members_of es))
    by_test false h = second_most (depth_at (field k es)) (depth e.1) (members_depth (members_of es)) h

removed_depth : (k : List ℕ) (es : Pairs) → members_depth (members_of (without_field k es)) ≤ members_depth (members_of es)
removed_depth k [] = omega arith
removed_depth k (e ∷ es) = by_test (is_at (slice_cmp nat_cmp k) e.0) (removed_depth k es)
  where
    by_test : (b : Bool) → members_depth (members_of (without_field k es)) ≤ members_depth (members_of es)
        → members_depth (members_of (cond b es (e ∷ without_field k es))) ≤ max (depth e.1) (members_depth (members_of es))
    by_test true h = second_most (members_depth (members_of es)) (depth e.1) (members_depth (members_of es)) (omega arith)
    by_test false h = both_most (members_depth (members_of (without_field k es))) (depth e.1) (members_depth (members_of es)) h

three_steps : (a b c d : ℕ) → a ≤ b → b ≤ c → c ≤ d → suc a ≤ suc d
three_steps a b c d p q r = omega arith

-- a body is no deeper than its document
pub body_depth : (es : Pairs) → depth (object (members_of (body_in es))) ≤ depth (object (members_of es))
body_depth es =
    let m = without_field (codes "metadata") es in
    let k = without_field (codes "kind") m in
    three_steps (members_depth (members_of (without_field (codes "apiVersion") k))) (members_depth (members_of k)) (members_depth (members_of m)) (members_depth (members_of es)) (removed_depth (codes "apiVersion") k) (removed_depth (codes "kind") m) (removed_depth (codes "metadata") es)

-- ---- the owners in the metadata

at_least_one : (n : ℕ) → suc 0 ≤ max 1 n
at_least_one n = omega arith

inside_depth : (k : List ℕ) (o : Option Json) → suc (depth_at (field k (object_at o))) ≤ max 1 (depth_at o)
inside_depth k None = at_least_one 0
inside_depth k (Some null) = at_least_one 0
inside_depth k (Some (boolean b)) = at_least_one 0
inside_depth k (Some (whole z)) = at_least_one 0
inside_depth k (Some (text s)) = at_least_one 0
inside_depth k (Some (list js)) = at_least_one (depth (list js))
inside_depth k (Some (object ms)) =
    deeper (depth_at (field k (pairs_of ms))) (members_depth ms) (rw members_pairs at (field_depth k (pairs_of ms)))
  where
    deeper : (a b : ℕ) → a ≤ b → suc a ≤ max 1 (suc b)
    deeper a b h = omega arith

list_depth : (o : Option Json) → depth (list (items_of (list_at o))) ≤ max 1 (depth_at o)
list_depth None = at_least_one 0
list_depth (Some null) = at_least_one 0
list_depth (Some (boolean b)) = at_least_one 0
list_depth (Some (whole z)) = at_least_one 0
list_depth (Some (text s)) = at_least_one 0
list_depth (Some (list js)) = rw (items_list js) (second_most (suc (items_depth js)) 1 (suc (items_depth js)) (omega arith))
list_depth (Some (object ms)) = at_least_one (depth (object ms))

owners_fit : (a b c d n : ℕ) → 3 ≤ n → a ≤ max 1 b → suc b ≤ max 1 c → c ≤ d → suc d ≤ n → 2 + a ≤ n
owners_fit a b c d n m p q r s = omega arith

pub owners_depth : (n : ℕ) (es : Pairs) → 3 ≤ n → depth (object (members_of es)) ≤ n
    → 2 + depth (list (items_of (list_at (field (codes "ownerReferences") (object_at (field (codes "metadata") es)))))) ≤ n
owners_depth n es m h =
    let meta = field (codes "metadata") es in
    let owners = field (codes "ownerReferences") (object_at meta) in
    owners_fit (depth (list (items_of (list_at owners)))) (depth_at owners) (depth_at meta) (members_depth (members_of es)) n m (list_depth owners) (inside_depth (codes "ownerReferences") meta) (field_depth (codes "metadata") es) h

-- ---- a null field is absent

pub given_text : (o : Option Json) → text_or_empty (given o) ≡ text_or_empty o
given_text None = refl
given_text (Some null) = refl
given_text (Some (boolean b)) = refl
given_text (Some (whole z)) = refl
given_text (Some (text s)) = refl
given_text (Some (list js)) = refl
given_text (Some (object ms)) = refl
