-- Which texts are namespaces and which are names, by the labels and subdomain names of RFC 1123 that Kubernetes takes.
use Rattle.std.specs.Prelude.{ℕ, Bool, ◌&&◌, ◌||◌, not, List, [], ◌∷◌, length, nat_eq, ◌==◌, nat_le}
use Rattle.std.specs.Char.{is_ascii_lowercase, is_ascii_digit}
use Rattle.std.specs.List.{list_all, slice_split, starts_with, ends_with}
use Rattle.kube_meta.specs.declared.key.TheConstants.{NAMESPACE_BYTES, NAME_BYTES}

-- `-`
abbrev pub hyphen : ℕ
hyphen = 45

-- `.`
abbrev pub dot : ℕ
dot = 46

abbrev pub is_label_byte : ℕ → Bool
is_label_byte b = is_ascii_lowercase b || is_ascii_digit b || (b == hyphen)

-- not empty, first and last no hyphen
abbrev pub has_good_ends : List ℕ → Bool
has_good_ends part =
    nat_le 1 (length part) && not (starts_with nat_eq part (hyphen ∷ [])) && not (ends_with nat_eq part (hyphen ∷ []))

-- that, of lower-case letters, digits and hyphens
abbrev pub is_label : List ℕ → Bool
is_label part = has_good_ends part && list_all is_label_byte part

-- a label of at most 63 bytes
unfoldable pub is_namespace : List ℕ → Bool
is_namespace text = nat_le (length text) NAMESPACE_BYTES && is_label text

-- labels with dots between them, at most 253 bytes in all
unfoldable pub is_name : List ℕ → Bool
is_name text = nat_le (length text) NAME_BYTES && list_all is_label (slice_split (λ b. b == dot) text)
