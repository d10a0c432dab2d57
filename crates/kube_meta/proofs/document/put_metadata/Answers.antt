use Rattle.std.proofs.Common.{◌≡◌, ◌++◌, map, refl}
use Rattle.std.specs.Prelude.{option_map, codes}
use Rattle.kj_value.specs.Json.{text}
use Rattle.kj_value.specs.Fields.{Pairs}
use Rattle.kube_meta.specs.View.{meta_of}
use Rattle.kube_meta.specs.Document.{optional, some_text, some_texts, some_list, some_generation, metadata}
use Rattle.kube_meta.proofs.InOrder.{put_next}
use Rattle.kube_meta.proofs.document.put_metadata.Goals as goal

pub returns : goal.returns
unfolding metadata
returns c =
    let m = meta_of c.args.m.now in
    let p1 : Pairs = optional (codes "annotations") (some_texts m.annotations) in
    let e1 : c.put.new.fields ≡ p1 = put_next _ _ _ _ _ _ c.in_ok-put.ensures.fields c.in_ok-annotations.ensures c.requires in
    let p2 : Pairs = p1 ++ optional (codes "creationTimestamp") (option_map text m.created) in
    let e2 : c.put-2.new.fields ≡ p2 = put_next _ _ _ _ _ _ c.in_ok-put-2.ensures.fields c.in_ok-created.ensures e1 in
    let p3 : Pairs = p2 ++ optional (codes "deletionTimestamp") (option_map text m.deleted) in
    let e3 : c.put-3.new.fields ≡ p3 = put_next _ _ _ _ _ _ c.in_ok-put-3.ensures.fields c.in_ok-deleted.ensures e2 in
    let p4 : Pairs = p3 ++ optional (codes "finalizers") (some_list (map text m.finalizers)) in
    let e4 : c.put-4.new.fields ≡ p4 = put_next _ _ _ _ _ _ c.in_ok-put-4.ensures.fields c.in_ok-finalizers.ensures e3 in
    let p5 : Pairs = p4 ++ optional (codes "generation") (some_generation m.generation) in
    let e5 : c.put-5.new.fields ≡ p5 = put_next _ _ _ _ _ _ c.in_ok-put-5.ensures.fields c.some_generation.ensures e4 in
    let p6 : Pairs = p5 ++ optional (codes "labels") (some_texts m.labels) in
    let e6 : c.put-6.new.fields ≡ p6 = put_next _ _ _ _ _ _ c.in_ok-put-6.ensures.fields c.in_ok-labels.ensures e5 in
    let p7 : Pairs = p6 ++ optional (codes "name") (some_text m.name) in
    let e7 : c.put-7.new.fields ≡ p7 = put_next _ _ _ _ _ _ c.in_ok-put-7.ensures.fields c.take_text.ensures e6 in
    let p8 : Pairs = p7 ++ optional (codes "namespace") (some_text m.namespace) in
    let e8 : c.put-8.new.fields ≡ p8 = put_next _ _ _ _ _ _ c.in_ok-put-8.ensures.fields c.take_text-2.ensures e7 in
    let p9 : Pairs = p8 ++ optional (codes "ownerReferences") (some_list m.owners) in
    let e9 : c.put-9.new.fields ≡ p9 = put_next _ _ _ _ _ _ c.in_ok-put-9.ensures.fields c.take_list.ensures e8 in
    let p10 : Pairs = p9 ++ optional (codes "resourceVersion") (option_map text m.resource_version) in
    let e10 : c.put-10.new.fields ≡ p10 = put_next _ _ _ _ _ _ c.in_ok-put-10.ensures.fields c.take_given.ensures e9 in
    let p11 : Pairs = p10 ++ optional (codes "uid") (option_map text m.uid) in
    let e11 : c.put-11.new.fields ≡ p11 = put_next _ _ _ _ _ _ c.in_ok-put-11.ensures.fields c.take_given-2.ensures e10 in
    e11

pub put-requires-2 : goal.put-requires-2
put-requires-2 c = c.in_ok-put.ensures.later (codes "creationTimestamp") refl

pub put-requires-3 : goal.put-requires-3
put-requires-3 c = c.in_ok-put-2.ensures.later (codes "deletionTimestamp") refl

pub put-requires-4 : goal.put-requires-4
put-requires-4 c = c.in_ok-put-3.ensures.later (codes "finalizers") refl

pub put-requires-5 : goal.put-requires-5
put-requires-5 c = c.in_ok-put-4.ensures.later (codes "generation") refl

pub put-requires-6 : goal.put-requires-6
put-requires-6 c = c.in_ok-put-5.ensures.later (codes "labels") refl

pub put-requires-7 : goal.put-requires-7
put-requires-7 c = c.in_ok-put-6.ensures.later (codes "name") refl

pub put-requires-8 : goal.put-requires-8
put-requires-8 c = c.in_ok-put-7.ensures.later (codes "namespace") refl

pub put-requires-9 : goal.put-requires-9
put-requires-9 c = c.in_ok-put-8.ensures.later (codes "ownerReferences") refl

pub put-requires-10 : goal.put-requires-10
put-requires-10 c = c.in_ok-put-9.ensures.later (codes "resourceVersion") refl

pub put-requires-11 : goal.put-requires-11
put-requires-11 c = c.in_ok-put-10.ensures.later (codes "uid") refl
