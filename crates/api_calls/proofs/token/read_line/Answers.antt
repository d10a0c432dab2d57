use Rattle.api_calls.proofs.Tokens.{namespace_fits, name_fits}
use Rattle.api_calls.proofs.token.read_line.Goals as goal

pub of-requires-clause-ns_fits : goal.of-requires-clause-ns_fits
of-requires-clause-ns_fits c = namespace_fits _ c.in-Some.ensures.0.ns

pub of-requires-clause-name_fits : goal.of-requires-clause-name_fits
of-requires-clause-name_fits c = name_fits _ c.in-Some.ensures.0.name
