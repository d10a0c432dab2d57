-- What is read one after the other, and rules by their names.
use Rattle.std.proofs.Common.{◌≡◌, ℕ, List, Bool, true, false, cond, Option, Some, None, Result, Ok, Err, refl, sym, ap, subst, ◌∙◌}
use Rattle.std.specs.Prelude.{IfOk}
use Rattle.std.specs.Str.{bytes_eq}
use Rattle.kj_value.specs.Json.{Json}
use Rattle.kj_value.specs.declared.error.NoMemory.{NoMemory}
use Rattle.hub_cells.specs.Level.{Name}
use Rattle.hub_rules.specs.Rule.{Rule}
use Rattle.hub_rules.specs.Seen.{rule as rule_seen}
use Rattle.hub_rules.specs.declared.rules.Line.{Line}
use Rattle.struct_schema.specs.PathText.{Path}
use Rattle.rule_reading.specs.Tried.{as_read, both}
use Rattle.rule_reading.specs.Shapes.{ended}
use Rattle.rule_reading.specs.Told.{answer}
use Rattle.rule_reading.specs.Words.{word}
use Rattle.rule_reading.specs.RuleRead.{same_read, spoke_only_read, hub_only_read, split_read, table_read, scale_read, plain_read}
use Rattle.rule_reading.specs.declared.spot.Spot.{Spot}
use Rattle.rule_reading.specs.declared.words.Word.TheVariants as w

-- ---- two things, and nothing beyond them

pub first_stops : {A B C : Type 0} (f : A × B → C) (o : Option Path) (x : Result A Path) (y : Result B Path) {p : Path} → Err p ≡ x → Err p ≡ ended o (as_read f (both x y))
first_stops {A} {B} {C} f o x y {p} e =
    let T : Result C Path = Err p in subst (λ (z : Result A Path). T ≡ ended o (as_read f (both z y))) e refl

pub second_stops : {A B C : Type 0} (f : A × B → C) (o : Option Path) (x : Result A Path) (y : Result B Path) {a : A} {p : Path} → Ok a ≡ x → Err p ≡ y → Err p ≡ ended o (as_read f (both x y))
second_stops {A} {B} {C} f o x y {a} {p} e1 e2 =
    let T : Result C Path = Err p in
    subst (λ (z : Result A Path). T ≡ ended o (as_read f (both z y))) e1 (subst (λ (z : Result B Path). T ≡ ended o (as_read f (both (Ok a) z))) e2 refl)

pub beyond_stops : {A B C : Type 0} (f : A × B → C) (o : Option Path) (x : Result A Path) (y : Result B Path) {a : A} {b : B} {p : Path} → Ok a ≡ x → Ok b ≡ y → Some p ≡ o → Err p ≡ ended o (as_read f (both x y))
beyond_stops {A} {B} {C} f o x y {a} {b} {p} e1 e2 e3 =
    let T : Result C Path = Err p in
    subst (λ (z : Result A Path). T ≡ ended o (as_read f (both z y))) e1 (subst (λ (z : Result B Path). T ≡ ended o (as_read f (both (Ok a) z))) e2
    (subst (λ (z : Option Path). T ≡ ended z (Ok (f (a, b)))) e3 refl))

pub both_read : {A B C : Type 0} (f : A × B → C) (o : Option Path) (x : Result A Path) (y : Result B Path) {a : A} {b : B} → Ok a ≡ x → Ok b ≡ y → None ≡ o → Ok (f (a, b)) ≡ ended o (as_read f (both x y))
both_read {A} {B} {C} f o x y {a} {b} e1 e2 e3 =
    let T : Result C Path = Ok (f (a, b)) in
    subst (λ (z : Result A Path). T ≡ ended o (as_read f (both z y))) e1 (subst (λ (z : Result B Path). T ≡ ended o (as_read f (both (Ok a) z))) e2
    (subst (λ (z : Option Path). T ≡ ended z (Ok (f (a, b)))) e3 refl))

-- ---- the second of two as another call reads it, and then nothing beyond

second_as : {A B C : Type 0} (f : A × B → C) (a : A) (y : Result B Path) → as_read (λ b. f (a, b)) y ≡ as_read f (both (Ok a) y)
second_as {A} {B} {C} f a (Ok b) = refl
second_as {A} {B} {C} f a (Err p) = refl

pub last_read : {A B C : Type 0} (f : A × B → C) (o : Option Path) (x : Result A Path) (y : Result B Path) {a : A} {r : Result C Path} → Ok a ≡ x → r ≡ as_read (λ b. f (a, b)) y → ended o r ≡ ended o (as_read f (both x y))
last_read {A} {B} {C} f o x y {a} e1 e2 = ap (ended o) (e2 ∙ second_as f a y ∙ ap (λ (z : Result A Path). as_read f (both z y)) e1)

pub something_beyond : {C : Type 0} {o : Option Path} {p : Path} (t : C) → Some p ≡ o → Err p ≡ ended o (Ok t)
something_beyond {C} {o} {p} t e = let T : Result C Path = Err p in subst (λ (z : Option Path). T ≡ ended z (Ok t)) e refl

pub nothing_beyond : {C : Type 0} {o : Option Path} (t : C) → None ≡ o → Ok t ≡ ended o (Ok t)
nothing_beyond {C} t e = let T : Result C Path = Ok t in subst (λ (z : Option Path). T ≡ ended z T) e refl

-- ---- a plain rule by its name

pub is_word : (k t n : List ℕ) {r b : Bool} → r ≡ bytes_eq k t → t ≡ n → r ≡ b → bytes_eq k n ≡ b
is_word k t n e same is = ap (bytes_eq k) (sym same) ∙ sym e ∙ is

pub told_as : (t : Result (Result Line Spot) NoMemory) {x y : Result Rule Path} → x ≡ y → IfOk t (λ r. answer rule_seen r ≡ x) → IfOk t (λ r. answer rule_seen r ≡ y)
told_as t same h = subst (λ (z : Result Rule Path). IfOk t (λ r. answer rule_seen r ≡ z)) same h

here_by : {A : Type 0} {b : Bool} (x y : A) → b ≡ true → x ≡ cond b x y
here_by x y e = sym (ap (λ (b : Bool). cond b x y) e)

not_by : {A : Type 0} {b : Bool} (x y : A) → b ≡ false → y ≡ cond b x y
not_by x y e = sym (ap (λ (b : Bool). cond b x y) e)

pub same_is : (k : Name) (j : Json) → bytes_eq k (word w.Same) ≡ true → same_read j ≡ plain_read k j
same_is k j e1 = here_by _ _ e1

pub spoke_only_is : (k : Name) (j : Json) → bytes_eq k (word w.Same) ≡ false → bytes_eq k (word w.SpokeOnly) ≡ true → spoke_only_read j ≡ plain_read k j
spoke_only_is k j e1 e2 = here_by _ _ e2 ∙ not_by _ _ e1

pub hub_only_is : (k : Name) (j : Json) → bytes_eq k (word w.Same) ≡ false → bytes_eq k (word w.SpokeOnly) ≡ false → bytes_eq k (word w.HubOnly) ≡ true → hub_only_read j ≡ plain_read k j
hub_only_is k j e1 e2 e3 = here_by _ _ e3 ∙ not_by _ _ e2 ∙ not_by _ _ e1

pub split_is : (k : Name) (j : Json) → bytes_eq k (word w.Same) ≡ false → bytes_eq k (word w.SpokeOnly) ≡ false → bytes_eq k (word w.HubOnly) ≡ false → bytes_eq k (word w.Split) ≡ true → split_read j ≡ plain_read k j
split_is k j e1 e2 e3 e4 = here_by _ _ e4 ∙ not_by _ _ e3 ∙ not_by _ _ e2 ∙ not_by _ _ e1

pub table_is : (k : Name) (j : Json) → bytes_eq k (word w.Same) ≡ false → bytes_eq k (word w.SpokeOnly) ≡ false → bytes_eq k (word w.HubOnly) ≡ false → bytes_eq k (word w.Split) ≡ false → bytes_eq k (word w.Table) ≡ true
    → table_read j ≡ plain_read k j
table_is k j e1 e2 e3 e4 e5 = here_by _ _ e5 ∙ not_by _ _ e4 ∙ not_by _ _ e3 ∙ not_by _ _ e2 ∙ not_by _ _ e1

pub scale_is : (k : Name) (j : Json) → bytes_eq k (word w.Same) ≡ false → bytes_eq k (word w.SpokeOnly) ≡ false → bytes_eq k (word w.HubOnly) ≡ false → bytes_eq k (word w.Split) ≡ false → bytes_eq k (word w.Table) ≡ false
    → bytes_eq k (word w.Scale) ≡ true → scale_read j ≡ plain_read k j
scale_is k j e1 e2 e3 e4 e5 e6 = here_by _ _ e6 ∙ not_by _ _ e5 ∙ not_by _ _ e4 ∙ not_by _ _ e3 ∙ not_by _ _ e2 ∙ not_by _ _ e1
