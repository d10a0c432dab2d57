use Rattle.std.proofs.Common.{◌∙◌, codes, ap, Option}
use Rattle.kj_value.specs.Json.{Json}
use Rattle.kj_value.specs.Fields.{Pairs, field}
use Rattle.object_reading.specs.Fields.{given}
use Rattle.review_forms.specs.Response.{put}
use Rattle.review_forms.proofs.Names.{annotations_stay}
use Rattle.review_forms.proofs.restoring.metadata_taken.Goals as goal

pub returns : goal.returns
returns c =
    let labels = c.remove-labels.ensures.value in
    let stay = c.remove-annotations.ensures.value ∙ (ap (field (codes "annotations")) c.remove-labels.ensures.fields ∙ annotations_stay c.args.given) in
    c.in_ok-put-2.ensures
    ∙ (ap (λ (o : Option Json). put (codes "annotations") (given o) c.put.new.fields) stay
    ∙ ap (λ (es : Pairs). put (codes "annotations") (given (field (codes "annotations") c.args.given)) es) (c.in_ok-put.ensures ∙ ap (λ (o : Option Json). put (codes "labels") (given o) c.args.sent) labels))
