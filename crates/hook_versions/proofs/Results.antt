-- What is said of a value that is there is carried on.
use Rattle.std.proofs.Common.{◌≡◌, ◌⊎◌, inl, inr, Option, Some, None, sym, subst}
use Rattle.std.specs.Prelude.{IfOk, IfErr, IfSome, Result, Ok, Err, option_map}

pub one_ok : {A E : Type 0} (P Q : A → Type 0) (r : Result A E) → ((a : A) → P a → Q a) → IfOk r P → IfOk r Q
one_ok P Q (Ok a) f p = f a p
one_ok P Q (Err e) f p = tt

pub one_err : {A E : Type 0} (P Q : E → Type 0) (r : Result A E) → ((e : E) → P e → Q e) → IfErr r P → IfErr r Q
one_err P Q (Ok a) f p = tt
one_err P Q (Err e) f p = f e p

pub both_ok : {A E H : Type 0} (P Q R : A → Type 0) (r : Result A E) → ((a : A) → P a → (H → Q a) → R a) → IfOk r P → (H → IfOk r Q) → IfOk r R
both_ok P Q R (Ok a) f p q = f a p q
both_ok P Q R (Err e) f p q = tt

pub some_ok : {A E : Type 0} (P Q : A → Type 0) (r : Result (Option A) E) → ((a : A) → P a → Q a) → IfOk r (λ o. IfSome o P) → IfOk r (λ o. IfSome o Q)
some_ok P Q (Ok (Some a)) f p = f a p
some_ok P Q (Ok None) f p = tt
some_ok P Q (Err e) f p = tt

pub some_of : (A : Type 0) (P : A → Type 0) (o : Option A) (a : A) → o ≡ Some a → IfSome o P → P a
some_of A P o a e h = let there : IfSome (Some a) P = subst (λ (p : Option A). IfSome p P) e h in there

pub some_seen : {A B : Type 0} (f : A → B) (P : B → Type 0) (o : Option A) → IfSome (option_map f o) P → IfSome o (λ a. P (f a))
some_seen f P (Some a) h = h
some_seen f P None h = tt

pub some_more : {A : Type 0} (P Q : A → Type 0) (o : Option A) → ((a : A) → P a → Q a) → IfSome o P → IfSome o Q
some_more P Q (Some a) f h = f a h
some_more P Q None f h = tt

pub some_either : {A : Type 0} (P : A → Type 0) (o p q : Option A) → (o ≡ p) ⊎ (o ≡ q) → IfSome p P → IfSome q P → IfSome o P
some_either P o p q (inl e) h g = subst (λ r. IfSome r P) (sym e) h
some_either P o p q (inr e) h g = subst (λ r. IfSome r P) (sym e) g
