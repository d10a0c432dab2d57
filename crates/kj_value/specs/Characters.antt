-- The ASCII codes that the grammar of JSON names (RFC 8259, sections 2 and 7).
use Rattle.std.specs.Prelude.{ℕ}

abbrev pub quote : ℕ
quote = 34

abbrev pub backslash : ℕ
backslash = 92

abbrev pub begin_list : ℕ
begin_list = 91

abbrev pub end_list : ℕ
end_list = 93

abbrev pub begin_object : ℕ
begin_object = 123

abbrev pub end_object : ℕ
end_object = 125

abbrev pub colon : ℕ
colon = 58

abbrev pub comma : ℕ
comma = 44

abbrev pub backspace : ℕ
backspace = 8

abbrev pub tab : ℕ
tab = 9

abbrev pub line_feed : ℕ
line_feed = 10

abbrev pub form_feed : ℕ
form_feed = 12

abbrev pub carriage_return : ℕ
carriage_return = 13

-- the least code that is no control
abbrev pub space : ℕ
space = 32
