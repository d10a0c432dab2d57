use Rattle.keep_laws.proofs.Canonical.{whole_in_order}
use Rattle.keep_laws.proofs.body_laws.rising_entries.Goals as goal

pub returns : goal.returns
returns c = whole_in_order
