-- Tests joined by and, in another order.
use Rattle.std.proofs.Common.{◌≡◌, Bool, true, false, ◌&&◌, refl, ap, ◌∙◌}

pub with_false : (a : Bool) → a && false ≡ false
with_false true = refl
with_false false = refl

pub assoc : (a b c : Bool) → (a && b) && c ≡ a && (b && c)
assoc true b c = refl
assoc false b c = refl

-- one test from inside to the front
pub second_first : (r x s : Bool) → r && (x && s) ≡ x && (r && s)
second_first true true s = refl
second_first true false s = refl
second_first false true s = refl
second_first false false s = refl

all_false : (p q u v : Bool) (s : Bool) → s ≡ false → p && (q && (u && (v && s))) ≡ false
all_false true true true true s h = h
all_false true true true false s h = refl
all_false true true false v s h = refl
all_false true false u v s h = refl
all_false false q u v s h = refl

-- the tests of a node, as the walk has them and as they are said
pub regroup : (p a x q b y u t v m z : Bool) → ((p && a) && x) && (((q && b) && y) && ((u && (t && v)) && (m && z))) ≡ ((p && (q && (u && v))) && (a && (b && (t && z)))) && (x && (y && m))
regroup false a x q b y u t v m z = refl
regroup true a x false b y u t v m z =
    ap (λ (c : Bool). c) (with_false (a && x))
regroup true a x true b y false t v m z =
    ap (λ (c : Bool). (a && x) && c) (with_false (b && y)) ∙ with_false (a && x)
regroup true a x true b y true t false m z =
    ap (λ (c : Bool). (a && x) && ((b && y) && (c && (m && z)))) (with_false t) ∙ ap (λ (c : Bool). (a && x) && c) (with_false (b && y)) ∙ with_false (a && x)
regroup true false x true b y true t true m z = refl
regroup true true x true false y true t true m z = with_false x
regroup true true x true true y true false true m z = ap (λ (c : Bool). x && c) (with_false y) ∙ with_false x
regroup true true x true true y true true true m false =
    ap (λ (c : Bool). x && (y && c)) (with_false m) ∙ ap (λ (c : Bool). x && c) (with_false y) ∙ with_false x
regroup true true x true true y true true true m true = ap (λ (c : Bool). x && (y && c)) (right m)
  where
    right : (c : Bool) → c && true ≡ c
    right true = refl
    right false = refl

pub regroup_meta : (p t v z : Bool) → p && (t && (v && z)) ≡ (p && v) && (t && z)
regroup_meta false t v z = refl
regroup_meta true t false z = with_false t
regroup_meta true t true z = refl
