-- Answers that are counted alike, and choices that are made alike.
use Rattle.std.proofs.Common.{◌≡◌, ℕ, Bool, true, false, Option, None, Some, Ok, Err, ap, subst, sym, refl, ◌∙◌}
use Rattle.std.specs.Prelude.{MatchBool, MatchOption, if◌then◌else◌, IsTrue, ◌↔◌}
use Rattle.api_calls.specs.Meaning.{Meaning, Fault, bad_request, invalid}
use Rattle.api_calls.specs.Objects.{Stored}
use Rattle.api_calls.specs.Refusal.{RefusalView, SubjectView}
use Rattle.api_calls.specs.Replies.{Answer, fault_refusal, body_refusal, start_refusal}
use Rattle.drill_steps.specs.Calling.{Tally}
use Rattle.drill_steps.specs.Counting.{one_more, is_miss, with_refusal, with_create, with_replace, with_delete, with_setting}

-- ---- choices

pub on_test : {A B C D R : Type 0} (b : Bool) → MatchBool b A C → MatchBool b B D → (A → B → R) → (C → D → R) → R
on_test true p q f g = f p q
on_test false p q f g = g p q

pub on_found : {A B R : Type 0} {P Q : Stored → Type 0} (o : Option Stored) → MatchOption o A P → MatchOption o B Q → (A → B → R) → ((e : Stored) → o ≡ Some e → P e → Q e → R) → R
on_found None p q f g = f p q
on_found (Some e) p q f g = g e refl p q

pub one_bool : (P : Type 0) (x y : Bool) → (IsTrue x ↔ P) → (IsTrue y ↔ P) → x ≡ y
one_bool P true true p q = refl
one_bool P false false p q = refl
one_bool P true false p q = sym (q.1 (p.0 refl))
one_bool P false true p q = p.1 (q.0 refl)

-- ---- answers

-- both are replies, or both are misses, or neither is
abbrev pub Alike : Answer → Answer → Type 0
Alike (Ok r) (Ok t) = Unit {0}
Alike (Err e) (Err f) = is_miss e ≡ is_miss f
Alike (Ok r) (Err f) = ⊥
Alike (Err e) (Ok t) = ⊥

itself : (a : Answer) → Alike a a
itself (Ok r) = tt
itself (Err e) = refl

pub same_alike : (a b : Answer) → a ≡ b → Alike a b
same_alike a b is = subst (λ (x : Answer). Alike a x) is (itself a)

pub refused_alike : (a b : Answer) (e f : RefusalView) → a ≡ Err e → b ≡ Err f → is_miss e ≡ is_miss f → Alike a b
refused_alike a b e f p q same = subst (λ (x : Answer). Alike x b) (sym p) (subst (λ (y : Answer). Alike (Err e) y) (sym q) same)

-- no fault of a request is a miss
pub fault_missed : (m : Meaning) (f : Fault) → is_miss (fault_refusal m f) ≡ false
fault_missed m (bad_request why) = refl
fault_missed m (invalid name cause) = refl

pub body_missed : (subject : SubjectView) (f : Fault) → is_miss (body_refusal subject f) ≡ false
body_missed subject (bad_request why) = refl
body_missed subject (invalid name cause) = refl

pub start_missed : (f : Fault) → is_miss (start_refusal f) ≡ false
start_missed (bad_request why) = refl
start_missed (invalid name cause) = refl

-- ---- counts

pub refusal_counts : (e f : RefusalView) (p : Tally) → is_miss e ≡ is_miss f → with_refusal e p.counts ≡ with_refusal f p.counts
refusal_counts e f p is = ap (λ (b : Bool). if b then record p.counts { missed = one_more p.counts.missed } else record p.counts { refused = one_more p.counts.refused }) is

pub create_counts : (a b : Answer) (p : Tally) → Alike a b → with_create a p.counts ≡ with_create b p.counts
create_counts (Ok r) (Ok t) p h = refl
create_counts (Err e) (Err f) p h = refusal_counts e f p h
create_counts (Ok r) (Err f) p h = absurd h
create_counts (Err e) (Ok t) p h = absurd h

pub replace_counts : (a b : Answer) (p : Tally) → Alike a b → with_replace a p.counts ≡ with_replace b p.counts
replace_counts (Ok r) (Ok t) p h = refl
replace_counts (Err e) (Err f) p h = refusal_counts e f p h
replace_counts (Ok r) (Err f) p h = absurd h
replace_counts (Err e) (Ok t) p h = absurd h

pub delete_counts : (a b : Answer) (p : Tally) → Alike a b → with_delete a p.counts ≡ with_delete b p.counts
delete_counts (Ok r) (Ok t) p h = refl
delete_counts (Err e) (Err f) p h = refusal_counts e f p h
delete_counts (Ok r) (Err f) p h = absurd h
delete_counts (Err e) (Ok t) p h = absurd h

pub setting_counts : (a b : Answer) (p : Tally) → Alike a b → with_setting a p.counts ≡ with_setting b p.counts
setting_counts (Ok r) (Ok t) p h = refl
setting_counts (Err e) (Err f) p h = refusal_counts e f p h
setting_counts (Ok r) (Err f) p h = absurd h
setting_counts (Err e) (Ok t) p h = absurd h
