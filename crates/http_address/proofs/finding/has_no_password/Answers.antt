use Rattle.std.proofs.Common.{sym, ◌∙◌, ap, List, ℕ, None, Some, if◌then◌else◌}
use Rattle.url.specs.Input.{is_empty}
use Rattle.http_address.proofs.Passwords.{no_password}
use Rattle.http_address.proofs.finding.has_no_password.Goals as goal

pub returns : goal.returns
returns c = (
  λ t. no_password c.args.url.now.password (sym c.password.ensures ∙ c.is_absent.ensures.0 t),
  λ e. c.is_absent.ensures.1 (c.password.ensures ∙ ap (λ (p : List ℕ). if is_empty p then None else Some p) e),
)
