use Rattle.kube_meta.specs.View.{object_of}
use Rattle.document_text.specs.Shown.{with_given}
use Rattle.document_text.proofs.Rising.{metadata_rise, document_sound}
use Rattle.document_text.proofs.writing.in_order.Goals as goal

pub returns : goal.returns
returns c = λ number uid.
    let x = with_given number uid (object_of c.args.object.now) in
    document_sound x c.len.ensures.sound (metadata_rise x.meta c.len-3.ensures.order c.len-4.ensures.order c.len-2.ensures.sound c.fits.ensures)
