-- A text reads as a value, from what `serde_json` reads in it.
use Rattle.std.proofs.Common.{◌≡◌, ◌<◌, ◌≤◌, ℕ, zero, suc, List, [], ◌∷◌, Bool, true, false, ◌&&◌, Some, refl, arith}
use Rattle.std.specs.Prelude.{ℤ, pos, negsuc, nat_lt, slice_index}
use Rattle.std.specs.List.{list_all}
use Rattle.std.proofs.lemmas.Bool.Decides.{nat_tests}
use Rattle.std.proofs.lemmas.Str.{IsUtf8-from_ascii}
use Rattle.serde_json.specs.Data as serde
use Rattle.serde_json.specs.Read as text_reader
use Rattle.kj_value.specs.Json.{Json, null, boolean, whole, text, list, object, Items, no_items, item, Members, no_members, member}
use Rattle.kj_value.specs.Reading.{json_of, Reads}

-- what `serde_json` reads in the text of a value
abbrev pub number_of : ℤ → serde.Num
number_of (pos n) = serde.unsigned n
number_of (negsuc n) = serde.negative (negsuc n)

abbrev mutual
  pub data_of : Json → serde.Data
  data_of null = serde.null
  data_of (boolean b) = serde.boolean b
  data_of (whole z) = serde.number (number_of z)
  data_of (text t) = serde.string t
  data_of (list js) = serde.array (items_data js)
  data_of (object ms) = serde.object (members_data ms)

  pub items_data : Items → serde.Items
  items_data no_items = serde.no_items
  items_data (item j js) = serde.item (data_of j) (items_data js)

  pub members_data : Members → serde.Members
  members_data no_members = serde.no_members
  members_data (member k j ms) = serde.member k (data_of j) (members_data ms)

-- a text of ASCII, as a test
abbrev pub is_low : ℕ → Bool
is_low b = nat_lt b 128

both_low : (a b : Bool) → a && b ≡ true → (a ≡ true) × (b ≡ true)
both_low true b h = (refl, h)
both_low false b h = absurd (cc)

below : (x : ℕ) → is_low x ≡ true → x < 128
below x h = grind (arith, nat_tests)

ascii : (bs : List ℕ) → list_all is_low bs ≡ true → (i : ℕ) → slice_index bs i < 128
ascii [] h i = omega arith
ascii (x ∷ xs) h zero = below x (both_low (is_low x) (list_all is_low xs) h).0
ascii (x ∷ xs) h (suc i) = ascii xs (both_low (is_low x) (list_all is_low xs) h).1 i

pub reads_as : (bytes : List ℕ) (j : Json) → list_all is_low bytes ≡ true → text_reader.read bytes ≡ Some (data_of j) → serde.depth (data_of j) ≤ 100 → json_of (data_of j) ≡ Some j → Reads bytes 100 j
reads_as bytes j low read shallow whole_numbers =
    (data_of j, (IsUtf8-from_ascii bytes (ascii bytes low), read), shallow, whole_numbers)
