-- What a cache ends as, once the text that was found in it is no longer lent.
use Rattle.std.specs.Prelude.{◌≡◌, List, ⊤}
use Rattle.std.specs.Borrow.{Fml, MutBor, follows_so}
use mathlib.Core.Option.{none}
use Rattle.form_cache.specs.Forms.{Form, Forms, forms_of}
use Rattle.form_cache.specs.contracts.cache.FormCache.{the_row}

-- it holds these forms, in this order, and takes as many as before
abbrev pub EndsAs : MutBor Forms → List Form → Fml
EndsAs c fs = follows_so the_row the_row c.ghost_name none (λ _ _. ⊤) (λ n. n ≡ forms_of fs c.now.most)
