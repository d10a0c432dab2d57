use Rattle.std.proofs.Common.{sym, subst}
use Rattle.std.specs.Prelude.{IsTrue}
use Rattle.kube_meta.specs.Key.{KeyView}
use Rattle.kube_meta.specs.Names.{is_name, is_namespace}
use Rattle.far_migrate.proofs.Objects.{keyed_last}
use Rattle.far_migrate.proofs.ordering.last_of.Goals as goal

pub copied-requires-clause-ns : goal.copied-requires-clause-ns
copied-requires-clause-ns c =
    let keyed = keyed_last c.args.objects.now c.in-Some.object.now c.in-Some.ensures.value c.requires in
    subst (λ (k : KeyView). IsTrue (is_namespace k.ns)) (sym c.key_texts.ensures) keyed.ns

pub copied-requires-clause-name : goal.copied-requires-clause-name
copied-requires-clause-name c =
    let keyed = keyed_last c.args.objects.now c.in-Some.object.now c.in-Some.ensures.value c.requires in
    subst (λ (k : KeyView). IsTrue (is_name k.name)) (sym c.key_texts.ensures) keyed.name
