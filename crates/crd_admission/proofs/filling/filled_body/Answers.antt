use Rattle.std.proofs.Common.{◌≡◌, sym, subst}
use Rattle.std.specs.Prelude.{option_map}
use Rattle.kj_value.specs.Json.{Json, object, members_of}
use Rattle.kj_value.specs.Seen.{json}
use Rattle.struct_schema.specs.Fault.{fault}
use Rattle.struct_schema.specs.ShapeOf.{shape_of}
use Rattle.crd_meaning.specs.Refusal.{cause_at}
use Rattle.crd_admission.specs.Steps.{TellsCause}
use Rattle.crd_admission.proofs.Ready.{names_told}
use Rattle.crd_admission.proofs.filling.filled_body.Goals as goal

pub returns-in-Err-check-clause-broken : goal.returns-in-Err-check-clause-broken
returns-in-Err-check-clause-broken c = λ k f.
    let s = shape_of c.args.s.now in
    let same : object (members_of k) ≡ json c.in-Ok.v =
    c.one_filling.ensures s (object (members_of c.args.body)) (object (members_of k)) (json c.in-Ok.v) f.sound c.in-Ok.ensures.sound f.filled c.in-Ok.ensures.filled in
    let told = names_told (fault s (json c.in-Ok.v)) c.in-Err-check.fault c.in-Err-check.ensures.first in
    subst (λ (j : Json). TellsCause c.in-Err-check.fault (option_map cause_at (fault s j))) (sym same) told
