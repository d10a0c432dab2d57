use Rattle.std.proofs.Common.{◌≡◌, ℕ, List, Some}
use Rattle.std.specs.Prelude.{option_map}
use Rattle.kj_value.specs.Seen.{json}
use Rattle.object_reading.specs.Fields.{given}
use Rattle.object_reading.specs.Refusal.{first_holding}
use Rattle.crd_meaning.specs.Request.{metadata_fault}
use Rattle.crd_meaning.specs.Document.{judged_metadata}
use Rattle.crd_admission.specs.inner.Documents.{IsBadMetadata}
use Rattle.crd_admission.proofs.Refusing.{refused_more}
use Rattle.crd_admission.proofs.DocumentRows.{told_alike}
use Rattle.crd_admission.proofs.reading.submitted.Goals as goal

pub broken-requires : goal.broken-requires
broken-requires c = (given (Some (json c.in_ok-copy.field-0)), c.in-Err.ensures.refused)

pub returns-in_ok-broken-in-Err-clause-refused : goal.returns-in_ok-broken-in-Err-clause-refused
returns-in_ok-broken-in-Err-clause-refused c =
    let j = json c.args.metadata.now in
    let k = json c.in_ok-copy.field-0 in
    let name : List ℕ = c.in_ok-name-in-Err.name.bytes in
    refused_more (λ f. option_map (metadata_fault name) (first_holding (judged_metadata (given (Some k)))) ≡ Some f) (IsBadMetadata j) c.in_ok-broken-in-Err.field-0
    (λ f h. told_alike name k j f c.in_ok-name-in-Err.ensures c.in_ok-copy.ensures h) (c.in_ok-broken-in-Err.ensures (given (Some k)) c.in-Err.ensures.refused)
