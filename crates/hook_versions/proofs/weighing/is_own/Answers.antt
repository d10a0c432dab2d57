use Rattle.std.proofs.Common.{◌≡◌, Option, Some, IsTrue, sym, ap, subst}
use Rattle.std.specs.Prelude.{◌↔◌, IfOk, option_map}
use Rattle.kube_meta.specs.View.{ObjectView, object_of}
use Rattle.kube_meta.specs.declared.object.Object.{Object}
use Rattle.hook_versions.proofs.Results.{one_ok}
use Rattle.hook_versions.proofs.weighing.is_own.Goals as goal

one_object : (x y : ObjectView) → Some x ≡ Some y → x ≡ y
one_object x y e = cc

pub returns : goal.returns
returns c =
    let own = object_of c.in-Some.own in
    let form = object_of c.args.form.now in
    subst (λ (p : Option Object). IfOk c.is_same.result (λ b. IsTrue b ↔ (option_map object_of p ≡ Some form))) (sym c.in-Some.is)
    (one_ok (λ b. IsTrue b ↔ (own ≡ form)) (λ b. IsTrue b ↔ (Some own ≡ Some form)) c.is_same.result (λ b p. (λ t. ap Some (p.0 t), λ e. p.1 (one_object own form e))) c.is_same.ensures)
