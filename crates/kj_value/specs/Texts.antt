-- A text as its bytes, and a field of a map of texts as the pair of its name's bytes and its text's.
use Rattle.std.specs.Prelude.{ℕ, List}
use Rattle.kj_value.specs.declared.txt.Txt.{Txt}
use Rattle.kj_value.specs.declared.texts.TextField.{TextField}

abbrev pub bytes_of : Txt → List ℕ
bytes_of t = t.bytes

abbrev pub text_pair : TextField → List ℕ × List ℕ
text_pair f = (f.name.bytes, f.value.bytes)
