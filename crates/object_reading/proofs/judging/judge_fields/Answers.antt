use Rattle.std.proofs.Common.{refl, ap, sym, ◌∙◌, not}
use Rattle.std.specs.Prelude.{codes}
use Rattle.kube_meta.specs.Names.{is_namespace}
use Rattle.object_reading.specs.Numbers.{is_resource_version}
use Rattle.object_reading.specs.Rules.{keeps, is_text, is_list, any_list, are_labels, are_annotations, are_finalizers, is_named}
use Rattle.object_reading.specs.Refusal.{bad_meta, bad_name, judged_fields}
use Rattle.object_reading.proofs.Holding.{none_first, told_at}
use Rattle.object_reading.proofs.judging.judge_fields.Goals as goal

pub returns-then-not-annotations_ok-clause-refused : goal.returns-then-not-annotations_ok-clause-refused
returns-then-not-annotations_ok-clause-refused c =
    let p = ap not (sym (c.if-not-annotations_ok.ensures ∙ ap (keeps are_annotations) c.given.ensures)) in
    c.broken.ensures _ (told_at (judged_fields c.args.metadata.now) 0 (bad_meta (codes "annotations")) tt (p, refl))

pub returns-then-not-finalizers_ok-clause-refused : goal.returns-then-not-finalizers_ok-clause-refused
returns-then-not-finalizers_ok-clause-refused c =
    let p = ap not (sym (c.if-not-annotations_ok.ensures ∙ ap (keeps are_annotations) c.given.ensures)) in
    let q = ap not (sym (c.if-not-finalizers_ok.ensures ∙ ap (keeps are_finalizers) c.given-2.ensures)) in
    c.broken-then-not-finalizers_ok.ensures _ (told_at (judged_fields c.args.metadata.now) 1 (bad_meta (codes "finalizers")) (p, tt) (q, refl))

pub returns-then-not-labels_ok-clause-refused : goal.returns-then-not-labels_ok-clause-refused
returns-then-not-labels_ok-clause-refused c =
    let p = ap not (sym (c.if-not-annotations_ok.ensures ∙ ap (keeps are_annotations) c.given.ensures)) in
    let q = ap not (sym (c.if-not-finalizers_ok.ensures ∙ ap (keeps are_finalizers) c.given-2.ensures)) in
    let r = ap not (sym (c.if-not-labels_ok.ensures ∙ ap (keeps are_labels) c.given-3.ensures)) in
    c.broken-then-not-labels_ok.ensures _ (told_at (judged_fields c.args.metadata.now) 2 (bad_meta (codes "labels")) (p, (q, tt)) (r, refl))

pub returns-then-not-namespace_field_ok-clause-refused : goal.returns-then-not-namespace_field_ok-clause-refused
returns-then-not-namespace_field_ok-clause-refused c =
    let p = ap not (sym (c.if-not-annotations_ok.ensures ∙ ap (keeps are_annotations) c.given.ensures)) in
    let q = ap not (sym (c.if-not-finalizers_ok.ensures ∙ ap (keeps are_finalizers) c.given-2.ensures)) in
    let r = ap not (sym (c.if-not-labels_ok.ensures ∙ ap (keeps are_labels) c.given-3.ensures)) in
    let s = ap not (sym (c.if-not-namespace_field_ok.ensures ∙ ap (keeps (is_text is_namespace)) c.given-4.ensures)) in
    c.broken-then-not-namespace_field_ok.ensures _ (told_at (judged_fields c.args.metadata.now) 3 (bad_meta (codes "namespace")) (p, (q, (r, tt))) (s, refl))

pub returns-then-not-owners_ok-clause-refused : goal.returns-then-not-owners_ok-clause-refused
returns-then-not-owners_ok-clause-refused c =
    let p = ap not (sym (c.if-not-annotations_ok.ensures ∙ ap (keeps are_annotations) c.given.ensures)) in
    let q = ap not (sym (c.if-not-finalizers_ok.ensures ∙ ap (keeps are_finalizers) c.given-2.ensures)) in
    let r = ap not (sym (c.if-not-labels_ok.ensures ∙ ap (keeps are_labels) c.given-3.ensures)) in
    let s = ap not (sym (c.if-not-namespace_field_ok.ensures ∙ ap (keeps (is_text is_namespace)) c.given-4.ensures)) in
    let u = ap not (sym (c.if-not-owners_ok.ensures ∙ ap (keeps (is_list any_list)) c.given-5.ensures)) in
    c.broken-then-not-owners_ok.ensures _ (told_at (judged_fields c.args.metadata.now) 4 (bad_meta (codes "ownerReferences")) (p, (q, (r, (s, tt)))) (u, refl))

pub returns-then-not-resource_version_field_ok-clause-refused : goal.returns-then-not-resource_version_field_ok-clause-refused
returns-then-not-resource_version_field_ok-clause-refused c =
    let p = ap not (sym (c.if-not-annotations_ok.ensures ∙ ap (keeps are_annotations) c.given.ensures)) in
    let q = ap not (sym (c.if-not-finalizers_ok.ensures ∙ ap (keeps are_finalizers) c.given-2.ensures)) in
    let r = ap not (sym (c.if-not-labels_ok.ensures ∙ ap (keeps are_labels) c.given-3.ensures)) in
    let s = ap not (sym (c.if-not-namespace_field_ok.ensures ∙ ap (keeps (is_text is_namespace)) c.given-4.ensures)) in
    let u = ap not (sym (c.if-not-owners_ok.ensures ∙ ap (keeps (is_list any_list)) c.given-5.ensures)) in
    let v = ap not (sym (c.if-not-resource_version_field_ok.ensures ∙ ap (keeps (is_text is_resource_version)) c.given-6.ensures)) in
    c.broken-then-not-resource_version_field_ok.ensures _ (told_at (judged_fields c.args.metadata.now) 5 (bad_meta (codes "resourceVersion")) (p, (q, (r, (s, (u, tt))))) (v, refl))

pub returns-then-not-name_field_ok-clause-refused : goal.returns-then-not-name_field_ok-clause-refused
returns-then-not-name_field_ok-clause-refused c =
    let p = ap not (sym (c.if-not-annotations_ok.ensures ∙ ap (keeps are_annotations) c.given.ensures)) in
    let q = ap not (sym (c.if-not-finalizers_ok.ensures ∙ ap (keeps are_finalizers) c.given-2.ensures)) in
    let r = ap not (sym (c.if-not-labels_ok.ensures ∙ ap (keeps are_labels) c.given-3.ensures)) in
    let s = ap not (sym (c.if-not-namespace_field_ok.ensures ∙ ap (keeps (is_text is_namespace)) c.given-4.ensures)) in
    let u = ap not (sym (c.if-not-owners_ok.ensures ∙ ap (keeps (is_list any_list)) c.given-5.ensures)) in
    let v = ap not (sym (c.if-not-resource_version_field_ok.ensures ∙ ap (keeps (is_text is_resource_version)) c.given-6.ensures)) in
    let w = ap not (sym (c.if-not-name_field_ok.ensures ∙ ap is_named c.given-7.ensures)) in
    told_at (judged_fields c.args.metadata.now) 6 bad_name (p, (q, (r, (s, (u, (v, tt)))))) (w, refl)

pub returns-clause-accepted : goal.returns-clause-accepted
returns-clause-accepted c =
    let p = ap not (sym (c.if-not-annotations_ok.ensures ∙ ap (keeps are_annotations) c.given.ensures)) in
    let q = ap not (sym (c.if-not-finalizers_ok.ensures ∙ ap (keeps are_finalizers) c.given-2.ensures)) in
    let r = ap not (sym (c.if-not-labels_ok.ensures ∙ ap (keeps are_labels) c.given-3.ensures)) in
    let s = ap not (sym (c.if-not-namespace_field_ok.ensures ∙ ap (keeps (is_text is_namespace)) c.given-4.ensures)) in
    let u = ap not (sym (c.if-not-owners_ok.ensures ∙ ap (keeps (is_list any_list)) c.given-5.ensures)) in
    let v = ap not (sym (c.if-not-resource_version_field_ok.ensures ∙ ap (keeps (is_text is_resource_version)) c.given-6.ensures)) in
    let w = ap not (sym (c.if-not-name_field_ok.ensures ∙ ap is_named c.given-7.ensures)) in
    none_first (judged_fields c.args.metadata.now) (p, (q, (r, (s, (u, (v, (w, tt)))))))
