use Rattle.std.proofs.Common.{◌++◌, codes, map, option_map, subst}
use Rattle.std.proofs.lemmas.Result.{on_ok_weaker}
use Rattle.kj_value.specs.Json.{text}
use Rattle.kj_value.specs.Fields.{Pairs}
use Rattle.kube_meta.specs.View.{meta_of}
use Rattle.kube_meta.specs.Document.{optional, some_text, some_texts, some_list, some_generation}
use Rattle.document_text.specs.Sent.{Grows, fields_events}
use Rattle.document_text.proofs.Sending.{fields_then}
use Rattle.document_text.proofs.writing.send_others.Goals as goal

pub returns : goal.returns
returns g c =
    let written = g.S.Serializer.written in
    let m = meta_of c.args.m.now in
    let old = written c.args.out.now in
    let s1 = written c.send_texts.new.out in
    let s2 = written c.send_stamp.new.out in
    let s3 = written c.send_stamp-2.new.out in
    let s4 = written c.send_list.new.out in
    let s5 = written c.send_generation.new.out in
    let s6 = written c.send_texts-2.new.out in
    let s7 = written c.send_some.new.out in
    let s8 = written c.send_some-2.new.out in
    let s9 = written c.send_items.new.out in
    let p1 : Pairs = optional (codes "annotations") (some_texts m.annotations) in
    let p2 : Pairs = p1 ++ optional (codes "creationTimestamp") (option_map text m.created) in
    let p3 : Pairs = p2 ++ optional (codes "deletionTimestamp") (option_map text m.deleted) in
    let p4 : Pairs = p3 ++ optional (codes "finalizers") (some_list (map text m.finalizers)) in
    let p5 : Pairs = p4 ++ optional (codes "generation") (some_generation m.generation) in
    let p6 : Pairs = p5 ++ optional (codes "labels") (some_texts m.labels) in
    let p7 : Pairs = p6 ++ optional (codes "name") (some_text m.name) in
    let p8 : Pairs = p7 ++ optional (codes "namespace") (some_text m.namespace) in
    let e2 = fields_then p1 _ old s1 s2 c.in_ok-send_texts.ensures c.in_ok-send_stamp.ensures in
    let e3 = fields_then p2 _ old s2 s3 e2 c.in_ok-send_stamp-2.ensures in
    let e4 = fields_then p3 _ old s3 s4 e3 c.in_ok-send_list.ensures in
    let e5 = fields_then p4 _ old s4 s5 e4 c.in_ok-send_generation.ensures in
    let e6 = fields_then p5 _ old s5 s6 e5 c.in_ok-send_texts-2.ensures in
    let e7 = fields_then p6 _ old s6 s7 e6 (subst (λ bs. Grows (fields_events (optional (codes "name") (some_text bs))) s6 s7) c.as_str.ensures c.in_ok-send_some.ensures) in
    let e8 = fields_then p7 _ old s7 s8 e7 (subst (λ bs. Grows (fields_events (optional (codes "namespace") (some_text bs))) s7 s8) c.as_str-2.ensures c.in_ok-send_some-2.ensures) in
    on_ok_weaker c.send_items.result (λ h. fields_then p8 _ old s8 s9 e8 h) c.send_items.ensures
