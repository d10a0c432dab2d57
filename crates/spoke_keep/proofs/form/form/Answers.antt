use Rattle.std.proofs.Common.{◌≡◌, sym, subst}
use Rattle.kube_meta.specs.View.{ObjectView, object_of}
use Rattle.kube_meta.specs.Shapes.{shaped}
use Rattle.kube_meta.specs.declared.object.Object.{Object}
use Rattle.keep_laws.specs.Pair.{IsPairOf}
use Rattle.keep_laws.specs.WholeHub.{IsSettledAt}
use Rattle.spoke_keep.proofs.Steps.{if_ok}
use Rattle.spoke_keep.proofs.form.form.Goals as goal

pub returns-in-Ok-clause-pair : goal.returns-in-Ok-clause-pair
returns-in-Ok-clause-pair c =
    let h : ObjectView = object_of c.args.h.now in
    if_ok (λ (x : Object). object_of x ≡ shaped c.in-Ok.made h) (λ (x : Object). IsPairOf c.args.all.now c.args.s.now (object_of x) h) c.copy_shaped.result (λ x e. subst (λ (y : ObjectView). IsPairOf c.args.all.now c.args.s.now y h) (sym e) c.in-Ok.ensures.pair) c.copy_shaped.ensures

pub returns-in-Ok-clause-settled : goal.returns-in-Ok-clause-settled
returns-in-Ok-clause-settled c =
    let h : ObjectView = object_of c.args.h.now in
    if_ok (λ (x : Object). object_of x ≡ shaped c.in-Ok.made h) (λ (x : Object). IsSettledAt c.args.all.now c.args.s.now (object_of x)) c.copy_shaped.result (λ x e. subst (λ (y : ObjectView). IsSettledAt c.args.all.now c.args.s.now y) (sym e) c.in-Ok.ensures.settled) c.copy_shaped.ensures
