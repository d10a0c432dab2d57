use Rattle.far_laws.proofs.legal_lists.Pages.{left}
use Rattle.far_laws.proofs.legal_lists.left_behind.Goals as goal

pub returns : goal.returns
returns c = λ es ns after front rest e rising is. left ns after es front rest e rising is
