use Rattle.std.proofs.Common.{sym, ◌∙◌}
use Rattle.http_address.proofs.finding.is_plain.Goals as goal

pub returns : goal.returns
returns c = (
  λ t. record {
    scheme = sym c.scheme.ensures.value ∙ c.is_http.ensures.0 c.if-not-is_http.false;
    username = sym c.username.ensures ∙ c.is_nothing.ensures.0 c.if-not-is_nothing.false;
    password = c.has_no_password.ensures.0 c.if-not-has_no_password.false;
    query = sym c.query.ensures.value ∙ c.is_absent.ensures.0 c.if-not-is_absent.false;
    fragment = sym c.fragment.ensures.value ∙ c.is_absent-2.ensures.0 t;
  },
  λ p. c.is_absent-2.ensures.1 (c.fragment.ensures.value ∙ p.fragment),
)
