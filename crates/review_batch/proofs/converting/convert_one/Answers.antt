use Rattle.kj_value.specs.Seen.{json}
use Rattle.api_calls.specs.Cause.{why_of, cause_of}
use Rattle.api_calls.specs.Versions.{Refused}
use Rattle.crd_meaning.specs.Unconverted.{IsUnconverted}
use Rattle.crd_versions.specs.Set.{definition_of}
use Rattle.review_batch.proofs.Invalid.{never_bad, from_loaded}
use Rattle.review_batch.proofs.converting.convert_one.Goals as goal

pub returns-in-Err-Invalid : goal.returns-in-Err-Invalid
returns-in-Err-Invalid c =
    let d = definition_of c.args.set.now in
    let why : Refused (IsUnconverted d (json c.args.object)) ⊥ c.in-Err-Invalid.field-0 = c.in-Err-Invalid.ensures.refused in
    let is : IsUnconverted d (json c.args.object) _ = rw c.in-Err-Invalid.field-0-is at why in
    record {
      none = λ k h. from_loaded d c.args.set.now.loaded (λ l. c.one_value.ensures.excludes d l (json c.args.object) c.args.to k _ h is);
      name = c.in-Err-Invalid.field-0-0.bytes;
      cause = cause_of c.in-Err-Invalid.cause;
      why = is;
      told = c.in_ok-blame-in-Err-Invalid.ensures;
    }

pub unreachable-requires : goal.unreachable-requires
unreachable-requires c =
    let d = definition_of c.args.set.now in
    let why : Refused (IsUnconverted d (json c.args.object)) ⊥ c.in-Err-BadRequest.field-0 = c.in-Err-BadRequest.ensures.refused in
    never_bad d (why_of c.in-Err-BadRequest.field-0-0) (json c.args.object) c.requires.kind (rw c.in-Err-BadRequest.field-0-is at why)
