-- Which texts are resource versions of a submitted object: empty, or the decimal text of a number below 2^64.
use Rattle.std.specs.Prelude.{◌≡◌, ℕ, ◌^◌, ◌<◌, Bool, ◌&&◌, ◌||◌, List, length, ◌==◌, nat_lt, decimal}
use Rattle.std.specs.Str.{bytes_eq}
use Rattle.std.specs.Str.Parse.{digits_value}

-- the decimal text, without leading zeros, of the number that its digits write
unfoldable pub is_number : List ℕ → Bool
is_number s = nat_lt (digits_value 10 s) (2 ^ 64) && bytes_eq (decimal (digits_value 10 s)) s

abbrev pub is_resource_version : List ℕ → Bool
is_resource_version s = (length s == 0) || is_number s

-- the text is the decimal text of a number
abbrev pub HasNumber : List ℕ → Type 0
HasNumber s = (n : ℕ) × (n < 2 ^ 64) × (decimal n ≡ s)
