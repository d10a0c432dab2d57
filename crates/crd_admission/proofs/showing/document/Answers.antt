use Rattle.std.proofs.Common.{refl}
use Rattle.crd_meaning.specs.Converted.{document_with}
use Rattle.crd_admission.proofs.showing.document.Goals as goal

pub returns : goal.returns
unfolding document_with
returns c =
    rw (
      c.in_ok-set-3.ensures.ok,
      c.in_ok-of-3.ensures,
      c.in_ok-metadata.ensures,
      c.notes_of.ensures,
      c.fields_of.ensures,
      c.in_ok-set-2.ensures.ok,
      c.in_ok-of-2.ensures,
      c.in_ok-set.ensures.ok,
      c.in_ok-of.ensures,
    ) refl
