-- A body is found in one way: to be no JSON, too deep, of numbers that aren't all whole, or one value. So a fault of a body that
-- depends on what is found of it alone has one cause.
use Rattle.std.proofs.Common.{◌≡◌, ◌∙◌, ℕ, ◌<◌, ◌≤◌, List, Option, Some, None, Bool, true, false, subst, ap, sym, refl, arith}
use Rattle.std.specs.Prelude.{nat_le}
use Rattle.std.proofs.lemmas.Bool.Decides.{nat_tests}
use Rattle.serde_json.specs.Data as serde
use Rattle.kj_value.specs.Json.{Json}
use Rattle.kj_value.specs.Reading.{Reads, IsReading, json_of}
use Rattle.kj_value.specs.Fault.{IsRefusedJson}
use Rattle.kj_value.specs.declared.reading.JsonFault.TheVariants.{NotJson, TooDeep, NotWhole}
use Rattle.api_calls.specs.Cause as why
use Rattle.api_calls.specs.Meaning.{Fault, bad_request}

pub data Finding : Type 0 where
  not_json : Finding
  too_deep : Finding
  not_whole : Finding
  value : Json → Finding

-- that is found of the bytes, at so many levels
abbrev pub Finds : List ℕ → ℕ → Finding → Type 0
Finds body levels not_json = IsRefusedJson body levels NotJson
Finds body levels too_deep = IsRefusedJson body levels TooDeep
Finds body levels not_whole = IsRefusedJson body levels NotWhole
Finds body levels (value j) = Reads body levels j

-- the fault that follows of what is found; of a value, one that P tells
abbrev pub Follows : (Json → Fault → Type 0) → Finding → Fault → Type 0
Follows P not_json f = f ≡ bad_request why.not_json
Follows P too_deep f = f ≡ bad_request why.too_deep
Follows P not_whole f = f ≡ bad_request why.not_whole
Follows P (value j) f = P j f

pub record IsFaulty (body : List ℕ) (levels : ℕ) (P : Json → Fault → Type 0) (f : Fault) : Type 0 where
  pub finding : Finding
  pub finds : Finds body levels finding
  pub follows : Follows P finding f

-- ---- one finding

one_data : (body : List ℕ) (d e : serde.Data) → IsReading body d → IsReading body e → d ≡ e
one_data body d e a b = let same : Some d ≡ Some e = sym a.1 ∙ b.1 in cc

pub one_json : (body : List ℕ) (levels : ℕ) (i j : Json) → Reads body levels i → Reads body levels j → i ≡ j
one_json body levels i j a b =
    let same : Some i ≡ Some j = sym a.3 ∙ ap json_of (one_data body a.0 b.0 a.1 b.1) ∙ b.3 in cc

deep_within : (body : List ℕ) (levels : ℕ) (d e : serde.Data) → IsReading body d → levels < serde.depth d → IsReading body e → serde.depth e ≤ levels → ⊥
deep_within body levels d e a deep b within =
    let same : serde.depth d ≡ serde.depth e = ap serde.depth (one_data body d e a b) in
    omega (arith, same, deep, within)

whole_value : (body : List ℕ) (d e : serde.Data) (j : Json) → IsReading body d → json_of d ≡ None → IsReading body e → json_of e ≡ Some j → ⊥
whole_value body d e j a none b some =
    let same : None ≡ Some j = sym none ∙ ap json_of (one_data body d e a b) ∙ some in cc

pub one_finding : (body : List ℕ) (levels : ℕ) (v w : Finding) → Finds body levels v → Finds body levels w → v ≡ w
one_finding body levels not_json not_json a b = refl
one_finding body levels not_json too_deep a b = absurd (a b.0 b.1)
one_finding body levels not_json not_whole a b = absurd (a b.0 b.1)
one_finding body levels not_json (value j) a b = absurd (a b.0 b.1)
one_finding body levels too_deep not_json a b = absurd (b a.0 a.1)
one_finding body levels too_deep too_deep a b = refl
one_finding body levels too_deep not_whole a b = absurd (deep_within body levels a.0 b.0 a.1 a.2 b.1 b.2)
one_finding body levels too_deep (value j) a b = absurd (deep_within body levels a.0 b.0 a.1 a.2 b.1 b.2)
one_finding body levels not_whole not_json a b = absurd (b a.0 a.1)
one_finding body levels not_whole too_deep a b = absurd (deep_within body levels b.0 a.0 b.1 b.2 a.1 a.2)
one_finding body levels not_whole not_whole a b = refl
one_finding body levels not_whole (value j) a b = absurd (whole_value body a.0 b.0 j a.1 a.3 b.1 b.3)
one_finding body levels (value j) not_json a b = absurd (b a.0 a.1)
one_finding body levels (value j) too_deep a b = absurd (deep_within body levels b.0 a.0 b.1 b.2 a.1 a.2)
one_finding body levels (value j) not_whole a b = absurd (whole_value body b.0 a.0 j b.1 b.3 a.1 a.3)
one_finding body levels (value i) (value j) a b = ap value (one_json body levels i j a b)

pub some_finding : (body : List ℕ) (levels : ℕ) → ((v : Finding) → Finds body levels v → ⊥) → ⊥
some_finding body levels never = never not_json read
  where
    by_tests : (d : serde.Data) → IsReading body d → (b : Bool) (o : Option Json) → nat_le (serde.depth d) levels ≡ b → json_of d ≡ o → ⊥
    by_tests d reading false o p q =
        let deep : levels < serde.depth d = grind (arith, nat_tests) in never too_deep (d, reading, deep)
    by_tests d reading true None p q =
        let within : serde.depth d ≤ levels = grind (arith, nat_tests) in never not_whole (d, reading, within, q)
    by_tests d reading true (Some j) p q =
        let within : serde.depth d ≤ levels = grind (arith, nat_tests) in never (value j) (d, reading, within, q)

    read : (d : serde.Data) → IsReading body d → ⊥
    read d reading = by_tests d reading (nat_le (serde.depth d) levels) (json_of d) refl refl

-- ---- one fault

same_follows : (P : Json → Fault → Type 0) → ((j : Json) (f g : Fault) → P j f → P j g → f ≡ g) → (v : Finding) (f g : Fault) → Follows P v f → Follows P v g → f ≡ g
same_follows P one not_json f g p q = p ∙ sym q
same_follows P one too_deep f g p q = p ∙ sym q
same_follows P one not_whole f g p q = p ∙ sym q
same_follows P one (value j) f g p q = one j f g p q

pub one_fault : (body : List ℕ) (levels : ℕ) (P : Json → Fault → Type 0) → ((j : Json) (f g : Fault) → P j f → P j g → f ≡ g)
    → (f g : Fault) → IsFaulty body levels P f → IsFaulty body levels P g → f ≡ g
one_fault body levels P one f g a b =
    same_follows P one b.finding f g
    (subst (λ (v : Finding). Follows P v f) (one_finding body levels a.finding b.finding a.finds b.finds) a.follows) b.follows

-- a body that is read as a value is faulty only where P tells a fault of it
pub told_of : (body : List ℕ) (levels : ℕ) (P : Json → Fault → Type 0) (j : Json) (f : Fault) → Reads body levels j → IsFaulty body levels P f → P j f
told_of body levels P j f reads a =
    subst (λ (v : Finding). Follows P v f) (one_finding body levels a.finding (value j) a.finds reads) a.follows
