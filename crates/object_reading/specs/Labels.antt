-- Which texts are keys and values of labels, and which are keys of annotations (Kubernetes, Labels and Selectors, and Annotations).
use Rattle.std.specs.Prelude.{ℕ, ◌-◌, Bool, false, ◌&&◌, ◌||◌, not, List, [], ◌∷◌, Option, None, Some, length, slice_get, nat_eq, ◌==◌, nat_le, nat_lt, if◌then◌else◌}
use Rattle.std.specs.Char.{is_ascii_alphanumeric}
use Rattle.std.specs.List.{list_all, slice_split, starts_with, ends_with, position_or_len, before_first, after_first}
use Rattle.kube_meta.specs.Names.{hyphen, dot, has_good_ends, is_name}
use Rattle.kube_meta.specs.declared.key.TheConstants.{NAME_BYTES}
use Rattle.object_reading.specs.declared.labels.TheConstants.{KEY_NAME_BYTES}

-- `_`
abbrev pub underscore : ℕ
underscore = 95

-- `/`
abbrev pub slash : ℕ
slash = 47

-- a letter or a digit stands there
abbrev pub is_alphanumeric : Option ℕ → Bool
is_alphanumeric None = false
is_alphanumeric (Some b) = is_ascii_alphanumeric b

abbrev pub is_key_byte : ℕ → Bool
is_key_byte b = is_ascii_alphanumeric b || (b == hyphen) || (b == underscore) || (b == dot)

-- 1 to 63 bytes of letters, digits, `-`, `_` and `.`, first and last a letter or digit
unfoldable pub is_key_name : List ℕ → Bool
is_key_name s =
    nat_le (length s) KEY_NAME_BYTES && is_alphanumeric (slice_get s 0) && is_alphanumeric (slice_get s (length s - 1)) && list_all is_key_byte s

-- a label of a name, where letters may be capitals
abbrev pub is_prefix_byte : ℕ → Bool
is_prefix_byte b = is_ascii_alphanumeric b || (b == hyphen)

abbrev pub is_prefix_part : List ℕ → Bool
is_prefix_part part = has_good_ends part && list_all is_prefix_byte part

-- a name where letters may be capitals: parts with dots between them, at most 253 bytes in all
unfoldable pub is_prefix : List ℕ → Bool
is_prefix s = nat_le (length s) NAME_BYTES && list_all is_prefix_part (slice_split (λ b. b == dot) s)

abbrev pub is_slash : ℕ → Bool
is_slash b = b == slash

abbrev pub has_slash : List ℕ → Bool
has_slash s = nat_lt (position_or_len is_slash s) (length s)

-- the name alone, or a prefix of that kind, the first `/` and the name
abbrev pub is_key : (List ℕ → Bool) → List ℕ → Bool
is_key prefix s = if has_slash s then prefix (before_first is_slash s) && is_key_name (after_first is_slash s) else is_key_name s

-- the prefix is a name
unfoldable pub is_label_key : List ℕ → Bool
is_label_key s = is_key is_name s

-- the prefix may have capitals
unfoldable pub is_annotation_key : List ℕ → Bool
is_annotation_key s = is_key is_prefix s

-- empty, or as the name in a key
unfoldable pub is_label_value : List ℕ → Bool
is_label_value s = (length s == 0) || is_key_name s
