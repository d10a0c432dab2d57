use Rattle.std.proofs.Common.{◌≡◌, Option, Some, sym, subst}
use Rattle.std.specs.Prelude.{IfSome}
use Rattle.kube_meta.specs.View.{ObjectView, object_of}
use Rattle.kube_meta.specs.Shapes.{shaped}
use Rattle.kube_meta.specs.declared.object.Shape.{Shape}
use Rattle.write_texts.proofs.prepare.stored_form.Goals as goal

pub returns-clause-form : goal.returns-clause-form
returns-clause-form g c =
    let m = g.V.Versions.meaning c.args.lent.now.versions.now in
    let h : ObjectView = object_of c.args.hub.now in
    subst (λ (x : ObjectView). m.pair c.args.storage h x) (sym c.in_ok-form.ensures) (subst (λ (o : Option Shape). IfSome o (λ p. m.pair c.args.storage h (shaped p h))) c.in-Some.is c.requires.shape)
