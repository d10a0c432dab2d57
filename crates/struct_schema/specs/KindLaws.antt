-- A number for each kind and format, for the logic's store and for comparing.
use Rattle.std.specs.Prelude.{◌≡◌, ℕ, cond, ◌==◌, refl}
use Rattle.struct_schema.specs.declared.kind.NodeKind.{NodeKind}
use Rattle.struct_schema.specs.declared.kind.NodeKind.TheVariants.{Object, Array, Text, Whole, Truth, IntOrText, Any}
use Rattle.struct_schema.specs.declared.kind.IntFormat.{IntFormat}
use Rattle.struct_schema.specs.declared.kind.IntFormat.TheVariants.{Int32, Int64}

abbrev pub kind_number : NodeKind → ℕ
kind_number Object = 0
kind_number Array = 1
kind_number Text = 2
kind_number Whole = 3
kind_number Truth = 4
kind_number IntOrText = 5
kind_number Any = 6

abbrev pub kind_back : ℕ → NodeKind
kind_back n =
    cond (n == 0) Object (cond (n == 1) Array (cond (n == 2) Text (cond (n == 3) Whole (cond (n == 4) Truth (cond (n == 5) IntOrText Any)))))

pub kind_back-kind_number : (k : NodeKind) → kind_back (kind_number k) ≡ k
kind_back-kind_number Object = refl
kind_back-kind_number Array = refl
kind_back-kind_number Text = refl
kind_back-kind_number Whole = refl
kind_back-kind_number Truth = refl
kind_back-kind_number IntOrText = refl
kind_back-kind_number Any = refl

abbrev pub format_number : IntFormat → ℕ
format_number Int32 = 0
format_number Int64 = 1

abbrev pub format_back : ℕ → IntFormat
format_back n = cond (n == 0) Int32 Int64

pub format_back-format_number : (f : IntFormat) → format_back (format_number f) ≡ f
format_back-format_number Int32 = refl
format_back-format_number Int64 = refl
