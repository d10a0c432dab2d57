use Rattle.std.proofs.Common.{◌≡◌, sym, subst}
use Rattle.std.specs.Prelude.{IfSome, IfOk}
use Rattle.kube_meta.specs.View.{ObjectView, object_of}
use Rattle.kube_meta.specs.declared.object.Object.{Object}
use Rattle.object_reading.specs.Parts.{parts_in}
use Rattle.object_reading.specs.Written.{IsMoment}
use Rattle.object_reading.proofs.Documents.{document_back}
use Rattle.object_reading.proofs.reading.written_fields.Goals as goal

pub returns : goal.returns
returns c = λ x w e.
    let back : parts_in c.args.fields ≡ x = document_back x c.args.fields w e in
    let created = subst (λ (y : ObjectView). IfSome y.meta.created IsMoment) (sym back) w.created in
    let deleted = subst (λ (y : ObjectView). IfSome y.meta.deleted IsMoment) (sym back) w.deleted in
    subst (λ (y : ObjectView). IfOk c.object_of.result (λ (o : Object). object_of o ≡ y)) back (c.object_of.ensures.whole created deleted)
