use Rattle.std.proofs.Common.{inr, subst}
use Rattle.kj_value.specs.Seen.{json}
use Rattle.crd_reading.specs.First.{first_refusal}
use Rattle.crd_reading.specs.Told.{NamesDefinitionFault as NamesRefusal}
use Rattle.crd_reading.specs.declared.reading.DefinitionFault.{DefinitionFault}
use Rattle.crd_loading.proofs.Fits.{definition_is}
use Rattle.crd_loading.proofs.loading.load_definition.Goals as goal

pub returns-in-Err-Refused-clause-err : goal.returns-in-Err-Refused-clause-err
returns-in-Err-Refused-clause-err c =
    inr (record {
      document = json c.in-Ok.document;
      reads = rw c.in-Ok.is at c.in_ok-unread.ensures.ok;
      refused = definition_is (first_refusal (json c.in-Ok.document)) c.in-Err-Refused.path c.in-Err-Refused.word (subst (λ (e : DefinitionFault). NamesRefusal (first_refusal (json c.in-Ok.document)) e) c.in-Err-Refused.field-0-is c.in-Err-Refused.ensures.refused);
    })
