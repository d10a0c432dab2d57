use Rattle.std.proofs.Common.{ap, ◌∙◌}
use Rattle.kube_meta.specs.View.{MetaView, Texts, meta_of}
use Rattle.hook_versions.proofs.answers.with_texts.Goals as goal

pub returns : goal.returns
returns c =
    ap (λ (m : MetaView). record m { labels = c.replace-labels.result }) c.in_ok-meta.ensures
    ∙ ap (λ (t : Texts). record (meta_of c.args.m.now) { labels = t; annotations = c.replace-annotations.result }) c.replace-labels.ensures.value
    ∙ ap (λ (t : Texts). record (meta_of c.args.m.now) { labels = c.args.of.labels; annotations = t }) c.replace-annotations.ensures.value
