-- What is read of bytes is a JSON value: its numbers have 64 bits, and the names of its objects rise.
use Rattle.std.proofs.Common.{◌≡◌, ◌∙◌, ℕ, zero, suc, ◌<◌, ◌≤◌, ◌^◌, List, Bool, true, false, Option, Some, None, Ordering, Less, Equal, Greater, nat_cmp, refl, ap, subst, arith}
use Rattle.std.specs.Prelude.{pos, neg_ℤ, ◌&&◌, option_map, option_and_then, nat_lt, nat_le, FitsSigned, if◌then◌else◌}
use Rattle.std.specs.Int.{w64}
use Rattle.std.specs.Ordering.{match_ordering, ordering_reverse}
use Rattle.std.specs.Cmp.Lexicographic.{slice_cmp}
use Rattle.std.specs.Prelude.{◌==◌, drop, slice_index}
use Rattle.std.specs.Float.{binary64, float_is_finite}
use Rattle.std.specs.Float.Numeral.{minus, Parts, scan_numeral, numeral_digits, nearest_float}
use Rattle.std.proofs.lemmas.Cmp.{nat_list_cmp_total}
use Rattle.std.proofs.lemmas.Bool.Decides.{nat_tests}
use Rattle.json.specs.Lex.{tokens}
use Rattle.json.specs.Json as grammar
use Rattle.serde_json.specs.Data as serde
use Rattle.serde_json.specs.Read as reader
use Rattle.serde_json.specs.Read.{number_of}
use Rattle.serde_json.specs.Find.{as_i64}
use Rattle.kj_value.specs.Json.{Json, whole, list, object, item, Members, member}
use Rattle.kj_value.specs.Sound.{ComesFirst, IsSoundJson, AreSoundItems, AreRising}
use Rattle.kj_value.specs.Reading.{json_of, items_json, members_json, Reads}

-- ---- what is there

abbrev If : {A : Type 0} → (A → Type 0) → Option A → Type 0
If P None = Unit {0}
If P (Some a) = P a

if_map : {A B : Type 0} (P : A → Type 0) (Q : B → Type 0) (f : A → B) (o : Option A) → ((a : A) → P a → Q (f a)) → If P o → If Q (option_map f o)
if_map P Q f None g h = tt
if_map P Q f (Some a) g h = g a h

if_then : {A B : Type 0} (P : A → Type 0) (Q : B → Type 0) (f : A → Option B) (o : Option A) → ((a : A) → P a → If Q (f a)) → If P o → If Q (option_and_then f o)
if_then P Q f None g h = tt
if_then P Q f (Some a) g h = g a h

then_any : {A B : Type 0} (Q : B → Type 0) (f : A → Option B) (o : Option A) → ((a : A) → If Q (f a)) → If Q (option_and_then f o)
then_any Q f None g = tt
then_any Q f (Some a) g = g a

chosen : {A : Type 0} (P : A → Type 0) (b : Bool) (x y : Option A) → (b ≡ true → If P x) → If P y → If P (if b then x else y)
chosen P true x y g h = g refl
chosen P false x y g h = h

-- ---- the data that a text is

abbrev FitsNum : serde.Num → Type 0
FitsNum (serde.unsigned n) = Unit {0}
FitsNum (serde.negative z) = FitsSigned w64 z
FitsNum (serde.float x) = Unit {0}

abbrev IsFirst : List ℕ → serde.Members → Type 0
IsFirst k serde.no_members = Unit {0}
IsFirst k (serde.member l d ms) = slice_cmp nat_cmp k l ≡ Less

abbrev mutual
  IsSoundData : serde.Data → Type 0
  IsSoundData serde.null = Unit {0}
  IsSoundData (serde.boolean b) = Unit {0}
  IsSoundData (serde.number n) = FitsNum n
  IsSoundData (serde.string s) = Unit {0}
  IsSoundData (serde.array ds) = AreSoundData ds
  IsSoundData (serde.object ms) = AreRisingData ms

  AreSoundData : serde.Items → Type 0
  AreSoundData serde.no_items = Unit {0}
  AreSoundData (serde.item d ds) = IsSoundData d × AreSoundData ds

  AreRisingData : serde.Members → Type 0
  AreRisingData serde.no_members = Unit {0}
  AreRisingData (serde.member k d ms) = IsFirst k ms × IsSoundData d × AreRisingData ms

first-put : (l k : List ℕ) (d : serde.Data) (ms : serde.Members) → slice_cmp nat_cmp l k ≡ Less → IsFirst l ms → IsFirst l (serde.put k d ms)
first-put l k d serde.no_members p h = p
first-put l k d (serde.member m e ms) p h = by_order (slice_cmp nat_cmp k m)
  where
    by_order : (o : Ordering) → IsFirst l (match_ordering o (serde.member k d (serde.member m e ms)) (serde.member m d ms) (serde.member m e (serde.put k d ms)))
    by_order Less = p
    by_order Equal = h
    by_order Greater = h

greater_less : (k l : List ℕ) → slice_cmp nat_cmp k l ≡ Greater → slice_cmp nat_cmp l k ≡ Less
greater_less k l e = nat_list_cmp_total.antisymm l k ∙ ap ordering_reverse e

rising-put : (k : List ℕ) (d : serde.Data) (ms : serde.Members) → IsSoundData d → AreRisingData ms → AreRisingData (serde.put k d ms)
rising-put k d serde.no_members s h = (tt, s, tt)
rising-put k d (serde.member m e ms) s h = by_order (rising-put k d ms s h.2) (slice_cmp nat_cmp k m) refl
  where
    by_order : AreRisingData (serde.put k d ms) → (o : Ordering) → slice_cmp nat_cmp k m ≡ o → AreRisingData (match_ordering o (serde.member k d (serde.member m e ms)) (serde.member m d ms) (serde.member m e (serde.put k d ms)))
    by_order r Less q = (q, s, h)
    by_order r Equal q = (h.0, s, h.2)
    by_order r Greater q = (first-put m k d ms (greater_less k m q) h.0, h.1, r)

-- ---- numbers

and_last : (a b : Bool) → a && b ≡ true → b ≡ true
and_last true b h = h
and_last false b h = absurd (cc)

negative_fits : (n : ℕ) → n ≤ 2 ^ 63 → FitsSigned w64 (neg_ℤ (pos n))
negative_fits zero h = omega (arith, h)
negative_fits (suc n) h = omega (arith, h)

float_fits : (b : Bool) (p : Parts) → If FitsNum (reader.float_of b p)
float_fits b p =
    chosen FitsNum (float_is_finite (nearest_float binary64 b p)) (Some (serde.float (nearest_float binary64 b p))) None (λ q. tt) tt

from_fits : (b : Bool) (p : Parts) → If FitsNum (reader.number_from b p)
from_fits false p =
    chosen FitsNum (reader.is_integer p && nat_lt (numeral_digits p) (2 ^ 64)) (Some (serde.unsigned (numeral_digits p))) (reader.float_of false p) (λ q. tt) (float_fits false p)
from_fits true p =
    chosen FitsNum (reader.is_integer p && nat_lt 0 (numeral_digits p) && nat_le (numeral_digits p) (2 ^ 63)) (Some (serde.negative (neg_ℤ (pos (numeral_digits p))))) (reader.float_of true p) (λ q.
    let last = and_last (reader.is_integer p && nat_lt 0 (numeral_digits p)) (nat_le (numeral_digits p) (2 ^ 63)) q in
    let most : numeral_digits p ≤ 2 ^ 63 = grind (arith, nat_tests) in
    negative_fits (numeral_digits p) most) (float_fits true p)

number_fits : (s : List ℕ) → If FitsNum (number_of s)
unfolding number_of
number_fits s =
    chosen FitsNum (slice_index s 0 == minus) (reader.number_from true (scan_numeral (drop 1 s))) (reader.number_from false (scan_numeral s)) (λ q. from_fits true (scan_numeral (drop 1 s))) (from_fits false (scan_numeral s))

-- ---- values

mutual
  of_json : (t : grammar.Json) → If IsSoundData (reader.of_json t)
  of_json grammar.null = tt
  of_json (grammar.boolean b) = tt
  of_json (grammar.number s) = if_map FitsNum IsSoundData serde.number (number_of s) (λ n h. h) (number_fits s)
  of_json (grammar.string s) = tt
  of_json (grammar.array ts) = if_map AreSoundData IsSoundData serde.array (reader.of_items ts) (λ ds h. h) (of_items ts)
  of_json (grammar.object ms) = if_map AreRisingData IsSoundData serde.object (reader.of_members ms serde.no_members) (λ ns h. h) (of_members ms serde.no_members tt)

  of_items : (ts : grammar.Items) → If AreSoundData (reader.of_items ts)
  of_items grammar.no_items = tt
  of_items (grammar.item t ts) =
      if_then IsSoundData AreSoundData (λ d. option_map (serde.item d) (reader.of_items ts)) (reader.of_json t) (λ d h. if_map AreSoundData AreSoundData (serde.item d) (reader.of_items ts) (λ ds k. (h, k)) (of_items ts)) (of_json t)

  of_members : (ms : grammar.Members) (found : serde.Members) → AreRisingData found → If AreRisingData (reader.of_members ms found)
  of_members grammar.no_members found h = h
  of_members (grammar.member k t ms) found h =
      if_then IsSoundData AreRisingData (λ d. reader.of_members ms (serde.put k d found)) (reader.of_json t) (λ d s. of_members ms (serde.put k d found) (rising-put k d found s h)) (of_json t)

-- what begins no earlier than the data do
abbrev RisesAs : serde.Members → Members → Type 0
RisesAs ms ks = AreRising ks × ((l : List ℕ) → IsFirst l ms → ComesFirst l ks)

int_fits : (n : serde.Num) → FitsNum n → If (λ z. FitsSigned w64 z) (as_i64 n)
int_fits (serde.unsigned n) h = chosen (λ z. FitsSigned w64 z) (nat_lt n (2 ^ 63)) (Some (pos n)) None (λ q. below q) tt
  where
    below : nat_lt n (2 ^ 63) ≡ true → FitsSigned w64 (pos n)
    below q =
        let less : n < 2 ^ 63 = grind (arith, nat_tests) in
        omega (arith, less)
int_fits (serde.negative z) h = h
int_fits (serde.float x) h = tt

mutual
  json_sound : (d : serde.Data) → IsSoundData d → If IsSoundJson (json_of d)
  json_sound serde.null h = tt
  json_sound (serde.boolean b) h = tt
  json_sound (serde.number n) h = if_map (λ z. FitsSigned w64 z) IsSoundJson whole (as_i64 n) (λ z k. k) (int_fits n h)
  json_sound (serde.string s) h = tt
  json_sound (serde.array ds) h = if_map AreSoundItems IsSoundJson list (items_json ds) (λ js k. k) (items_sound ds h)
  json_sound (serde.object ms) h = if_map (RisesAs ms) IsSoundJson object (members_json ms) (λ ks r. r.0) (members_sound ms h)

  items_sound : (ds : serde.Items) → AreSoundData ds → If AreSoundItems (items_json ds)
  items_sound serde.no_items h = tt
  items_sound (serde.item d ds) h =
      if_then IsSoundJson AreSoundItems (λ j. option_map (item j) (items_json ds)) (json_of d) (λ j s. if_map AreSoundItems AreSoundItems (item j) (items_json ds) (λ js k. (s, k)) (items_sound ds h.1)) (json_sound d h.0)

  members_sound : (ms : serde.Members) → AreRisingData ms → If (RisesAs ms) (members_json ms)
  members_sound serde.no_members h = (tt, λ l p. tt)
  members_sound (serde.member k d ms) h =
      if_then IsSoundJson (RisesAs (serde.member k d ms)) (λ j. option_map (member k j) (members_json ms)) (json_of d) (λ j s. if_map (RisesAs ms) (RisesAs (serde.member k d ms)) (member k j) (members_json ms) (λ ks r. ((r.1 k h.0, s, r.0), λ l p. p)) (members_sound ms h.2)) (json_sound d h.1)

-- ---- bytes

data_sound : (bytes : List ℕ) → If IsSoundData (reader.read bytes)
data_sound bytes =
    then_any IsSoundData reader.of_json (option_and_then (λ p. grammar.if_last p.0 p.1) (grammar.value reader.max_depth (tokens bytes))) (λ t. of_json t)

pub reads_sound : (bytes : List ℕ) (n : ℕ) (j : Json) → Reads bytes n j → IsSoundJson j
reads_sound bytes n j r =
    let is_sound : IsSoundData r.0 = subst (If IsSoundData) r.1.1 (data_sound bytes) in
    subst (If IsSoundJson) r.3 (json_sound r.0 is_sound)
