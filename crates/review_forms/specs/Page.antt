-- A text that is being written, which has a greatest length.
use Rattle.std.specs.Prelude.{ℕ, List}

pub record PageView : Type 0 where
  pub text : List ℕ
  pub most : ℕ
