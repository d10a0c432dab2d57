-- The limits of a cache of forms.
use Rattle.std.specs.Prelude.{ℕ}

-- how many forms the cache of one pass holds at most
abbrev pub forms_of_a_pass : ℕ
forms_of_a_pass = 256

-- how many bytes a text has at most that is kept
abbrev pub longest_text : ℕ
longest_text = 16384
