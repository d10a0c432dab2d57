-- A converter that has asked nothing.
use Rattle.std.specs.Prelude.{◌≡◌, ℕ, List, [], IfSome}
use Rattle.link_converter.specs.Asking.{ConverterState}

-- it asks for that path, made no exchange, and neither it nor its link has failed
pub record IsNew (path : List ℕ) (c : ConverterState) : Type 0 where
  pub exchanges : IfSome c.exchanges (λ es. es ≡ [])
  pub link_faults : c.link_faults ≡ 0
  pub target : c.target ≡ path
  pub asked : c.asked ≡ 0
  pub faults : c.faults ≡ 0
