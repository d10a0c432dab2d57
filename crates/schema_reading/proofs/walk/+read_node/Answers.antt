use Rattle.std.proofs.Common.{◌≡◌, ◌≤◌, ℕ, ◌+◌, List, Option, None, map, take, drop, ap, sym, subst, ◌∙◌, arith}
use Rattle.std.proofs.lemmas.List.{take_all}
use Rattle.kj_value.specs.Json.{Json, object, depth, members_depth, members_of}
use Rattle.kj_value.specs.Seen.{json}
use Rattle.kj_value.specs.Pair.{pair_of}
use Rattle.kj_value.specs.Sound.{AreRising}
use Rattle.kj_value.specs.Fields.{AreInOrder}
use Rattle.kj_value.specs.declared.value.Field.{Field}
use Rattle.struct_schema.specs.Shape.{Shape, own, some_shape, some_map, shapes_of}
use Rattle.struct_schema.specs.ShapeOf.{shape_of}
use Rattle.schema_reading.specs.Words.{word}
use Rattle.schema_reading.specs.ShapeRead.{bare_read, shapes_read}
use Rattle.schema_reading.specs.Visit.{Refusal, first, after}
use Rattle.schema_reading.specs.Visits.{inner_visits, map_visits}
use Rattle.schema_reading.specs.Told.{StopsSchemaReading, Passes}
use Rattle.schema_reading.specs.declared.words.Keyword.TheVariants.{Properties}
use Rattle.schema_reading.proofs.Found.{kept_in_order, pushed, skipped, shapes-kept, value_depth, inner_visits-none, inner_read-none, inner_read-some, map_read-some}
use Rattle.schema_reading.proofs.Inner.{stops_inner, passes_inner, passes_none, stops_map, passes_map, stopped_node, stopped_meta, goes_node, goes_meta, GoesOn, From}
use Rattle.schema_reading.proofs.Whole.{object_by, Last, pass_1, pass_2, stop_additional, stop_inner, stop_items, stop_element, stop_type, stop_map, stop_default, pass_all, same_parts}
use Rattle.struct_schema.specs.declared.kind.NodeKind.{NodeKind}
use Rattle.kj_value.specs.laws.Inside.{field_depth}
use Rattle.schema_reading.proofs.walk.+read_node.Goals as goal
use Rattle.schema_reading.proofs.walk.+read_node.Goals.{read_map-in-Some+in-Ok, read_map-in-None+in-Ok-read_node+in_ok-of-in-Ok-read_node+in_ok-push-in-Ok-read_node}

pub read_inner-read_node-requires : goal.read_inner-read_node-requires
read_inner-read_node-requires t c =
    let h : depth (json c.in-Some.doc.now) ≤ members_depth (members_of c.args.fields.now) = value_depth (word c.args.keyword) (members_of c.args.fields.now) (json c.in-Some.doc.now) (sym c.in-Some.ensures) in
    (omega (arith, h, c.decreases), omega (arith, c.requires))

pub read_inner-returns-in-None-clause-read : goal.read_inner-returns-in-None-clause-read
read_inner-returns-in-None-clause-read t c =
    sym (inner_read-none c.args.keyword (members_of c.args.fields.now) (sym c.in-None.ensures))

pub read_inner-returns-in-None-clause-walk : goal.read_inner-returns-in-None-clause-walk
read_inner-returns-in-None-clause-walk t c =
    passes_none c.args.nodes.now (inner_visits c.args.keyword c.args.depth (members_of c.args.fields.now)) (inner_visits-none c.args.keyword c.args.depth (members_of c.args.fields.now) (sym c.in-None.ensures))

pub read_inner-returns-in-Err-clause-walk : goal.read_inner-returns-in-Err-clause-walk
read_inner-returns-in-Err-clause-walk t c =
    stops_inner c.args.keyword c.args.nodes.now c.args.depth (members_of c.args.fields.now) (json c.in-Some.doc.now) c.word.result.now c.in-Err.stop c.under_name.result (sym c.in-Some.ensures) c.word.ensures c.in-Err.ensures.walk c.under_name.ensures

pub read_inner-returns-in_ok-new-in-Ok-clause-read : goal.read_inner-returns-in_ok-new-in-Ok-clause-read
read_inner-returns-in_ok-new-in-Ok-clause-read t c =
    ap some_shape (c.in_ok-new-in-Ok.ensures ∙ c.in-Ok.ensures.read) ∙ sym (inner_read-some c.args.keyword (members_of c.args.fields.now) (json c.in-Some.doc.now) (sym c.in-Some.ensures))

pub read_inner-returns-in_ok-new-in-Ok-clause-walk : goal.read_inner-returns-in_ok-new-in-Ok-clause-walk
read_inner-returns-in_ok-new-in-Ok-clause-walk t c =
    passes_inner c.args.keyword c.args.nodes.now c.read_node.new.nodes c.args.depth (members_of c.args.fields.now) (json c.in-Some.doc.now) (sym c.in-Some.ensures) c.in-Ok.ensures.walk

pub read_properties-read_map-requires : goal.read_properties-read_map-requires
read_properties-read_map-requires t c =
    let h : depth (object (members_of c.in-Some.named.now)) ≤ members_depth (members_of c.args.fields.now) = value_depth (word Properties) (members_of c.args.fields.now) (object (members_of c.in-Some.named.now)) c.in-Some.ensures in
    (omega (arith, h, c.decreases), omega (arith, c.requires))

pub read_properties-returns-in-None-clause-read : goal.read_properties-returns-in-None-clause-read
read_properties-returns-in-None-clause-read t c = sym (c.in-None.ensures c.args.root c.args.depth).1

pub read_properties-returns-in-None-clause-walk : goal.read_properties-returns-in-None-clause-walk
read_properties-returns-in-None-clause-walk t c =
    passes_none c.args.nodes.now (map_visits c.args.root c.args.depth (members_of c.args.fields.now)) (c.in-None.ensures c.args.root c.args.depth).0

pub read_properties-returns-in-Err-clause-walk : goal.read_properties-returns-in-Err-clause-walk
read_properties-returns-in-Err-clause-walk t c =
    stops_map c.args.root c.args.nodes.now c.args.depth (members_of c.args.fields.now) c.in-Some.named.now c.word.result.now c.in-Err.stop c.under_name.result c.in-Some.ensures c.word.ensures c.in-Err.ensures.walk c.under_name.ensures

pub read_properties-returns-in-Ok-clause-read : goal.read_properties-returns-in-Ok-clause-read
read_properties-returns-in-Ok-clause-read t c =
    ap some_map c.in-Ok.ensures.read ∙ sym (map_read-some c.args.root (members_of c.args.fields.now) (object (members_of c.in-Some.named.now)) c.in-Some.ensures)

pub read_properties-returns-in-Ok-clause-walk : goal.read_properties-returns-in-Ok-clause-walk
read_properties-returns-in-Ok-clause-walk t c =
    passes_map c.args.root c.args.nodes.now c.read_map.new.nodes c.args.depth (members_of c.args.fields.now) c.in-Some.named.now c.in-Some.ensures c.in-Ok.ensures.walk

pub read_object-returns-in-Err-clause-walk : goal.read_object-returns-in-Err-clause-walk
read_object-returns-in-Err-clause-walk t c =
    subst (λ (q : Option NodeKind). StopsSchemaReading (first c.args.nodes.now (object_by q (bare_read c.args.root (members_of c.args.fields.now)) c.args.root c.args.depth (members_of c.args.fields.now))) c.in-Err.stop) c.node_kind-kind.ensures (stop_additional c.node_kind-kind.result (bare_read c.args.root (members_of c.args.fields.now)) c.args.root c.args.depth (members_of c.args.fields.now) c.args.nodes.now c.in-Err.stop c.in-Err.ensures)

pub read_object-returns-in-Err-read_inner-clause-walk : goal.read_object-returns-in-Err-read_inner-clause-walk
read_object-returns-in-Err-read_inner-clause-walk t c =
    subst (λ (q : Option NodeKind). StopsSchemaReading (first c.args.nodes.now (object_by q (bare_read c.args.root (members_of c.args.fields.now)) c.args.root c.args.depth (members_of c.args.fields.now))) c.in-Err-read_inner.stop) c.node_kind-kind.ensures (stop_inner c.node_kind-kind.result (bare_read c.args.root (members_of c.args.fields.now)) c.args.root c.args.depth (members_of c.args.fields.now) c.args.nodes.now c.in-Err-read_inner.stop c.in-Ok.ensures c.in-Err-read_inner.ensures.walk)

pub read_object-returns-in-Err-try_items-clause-walk : goal.read_object-returns-in-Err-try_items-clause-walk
read_object-returns-in-Err-try_items-clause-walk t c =
    subst (λ (q : Option NodeKind). StopsSchemaReading (first c.args.nodes.now (object_by q (bare_read c.args.root (members_of c.args.fields.now)) c.args.root c.args.depth (members_of c.args.fields.now))) c.in-Err-try_items.stop) c.node_kind-kind.ensures (stop_items c.node_kind-kind.result (bare_read c.args.root (members_of c.args.fields.now)) c.args.root c.args.depth (members_of c.args.fields.now) c.args.nodes.now c.read_inner.new.nodes c.in-Err-try_items.stop (pass_1 c.node_kind-kind.result (bare_read c.args.root (members_of c.args.fields.now)) c.args.root c.args.depth (members_of c.args.fields.now) c.args.nodes.now c.read_inner.new.nodes c.in-Ok.ensures c.in-Ok-read_inner.ensures.walk) c.in-Err-try_items.ensures)

pub read_object-returns-in-Err-read_inner-2-clause-walk : goal.read_object-returns-in-Err-read_inner-2-clause-walk
read_object-returns-in-Err-read_inner-2-clause-walk t c =
    subst (λ (q : Option NodeKind). StopsSchemaReading (first c.args.nodes.now (object_by q (bare_read c.args.root (members_of c.args.fields.now)) c.args.root c.args.depth (members_of c.args.fields.now))) c.in-Err-read_inner-2.stop) c.node_kind-kind.ensures (stop_element c.node_kind-kind.result (bare_read c.args.root (members_of c.args.fields.now)) c.args.root c.args.depth (members_of c.args.fields.now) c.args.nodes.now c.read_inner.new.nodes c.in-Err-read_inner-2.stop (pass_1 c.node_kind-kind.result (bare_read c.args.root (members_of c.args.fields.now)) c.args.root c.args.depth (members_of c.args.fields.now) c.args.nodes.now c.read_inner.new.nodes c.in-Ok.ensures c.in-Ok-read_inner.ensures.walk) c.in-Ok-try_items.ensures c.in-Err-read_inner-2.ensures.walk)

pub read_object-returns-in-Err-try_type-clause-walk : goal.read_object-returns-in-Err-try_type-clause-walk
read_object-returns-in-Err-try_type-clause-walk t c =
    subst (λ (q : Option NodeKind). StopsSchemaReading (first c.args.nodes.now (object_by q (bare_read c.args.root (members_of c.args.fields.now)) c.args.root c.args.depth (members_of c.args.fields.now))) c.in-Err-try_type.stop) c.node_kind-kind.ensures (stop_type c.node_kind-kind.result (bare_read c.args.root (members_of c.args.fields.now)) c.args.root c.args.depth (members_of c.args.fields.now) c.args.nodes.now c.read_inner.new.nodes c.read_inner-2.new.nodes c.in-Err-try_type.stop (pass_1 c.node_kind-kind.result (bare_read c.args.root (members_of c.args.fields.now)) c.args.root c.args.depth (members_of c.args.fields.now) c.args.nodes.now c.read_inner.new.nodes c.in-Ok.ensures c.in-Ok-read_inner.ensures.walk) (pass_2 c.node_kind-kind.result (bare_read c.args.root (members_of c.args.fields.now)) c.args.root c.args.depth (members_of c.args.fields.now) c.read_inner.new.nodes c.read_inner-2.new.nodes c.in-Ok-try_items.ensures c.in-Ok-read_inner-2.ensures.walk) c.in-Err-try_type.ensures)

pub read_object-returns-in-Err-read_properties-clause-walk : goal.read_object-returns-in-Err-read_properties-clause-walk
read_object-returns-in-Err-read_properties-clause-walk t c =
    subst (λ (q : Option NodeKind). StopsSchemaReading (first c.args.nodes.now (object_by q (bare_read c.args.root (members_of c.args.fields.now)) c.args.root c.args.depth (members_of c.args.fields.now))) c.in-Err-read_properties.stop) c.node_kind-kind.ensures (stop_map c.node_kind-kind.result (bare_read c.args.root (members_of c.args.fields.now)) c.args.root c.args.depth (members_of c.args.fields.now) c.args.nodes.now c.read_inner.new.nodes c.read_inner-2.new.nodes c.in-Err-read_properties.stop (pass_1 c.node_kind-kind.result (bare_read c.args.root (members_of c.args.fields.now)) c.args.root c.args.depth (members_of c.args.fields.now) c.args.nodes.now c.read_inner.new.nodes c.in-Ok.ensures c.in-Ok-read_inner.ensures.walk) (pass_2 c.node_kind-kind.result (bare_read c.args.root (members_of c.args.fields.now)) c.args.root c.args.depth (members_of c.args.fields.now) c.read_inner.new.nodes c.read_inner-2.new.nodes c.in-Ok-try_items.ensures c.in-Ok-read_inner-2.ensures.walk) c.in-Ok-try_type.ensures c.in-Err-read_properties.ensures.walk)

pub read_object-returns-in-Err-read_default-clause-walk : goal.read_object-returns-in-Err-read_default-clause-walk
read_object-returns-in-Err-read_default-clause-walk t c =
    let bare : shape_of c.with_parts-bare.result ≡ (bare_read c.args.root (members_of c.args.fields.now)) = c.with_parts-bare.ensures ∙ same_parts _ _ _ _ _ _ _ _ (ap own c.in_ok-own.ensures) c.in-Ok-read_properties.ensures.read c.in-Ok-read_inner.ensures.read c.in-Ok-read_inner-2.ensures.read in
    let last : StopsSchemaReading (first 0 (Last c.args.root (bare_read c.args.root (members_of c.args.fields.now)) (members_of c.args.fields.now))) c.in-Err-read_default.stop = subst (λ (s : Shape). StopsSchemaReading (first 0 (Last c.args.root s (members_of c.args.fields.now))) c.in-Err-read_default.stop) bare c.in-Err-read_default.ensures.walk in
    subst (λ (q : Option NodeKind). StopsSchemaReading (first c.args.nodes.now (object_by q (bare_read c.args.root (members_of c.args.fields.now)) c.args.root c.args.depth (members_of c.args.fields.now))) c.in-Err-read_default.stop) c.node_kind-kind.ensures (stop_default c.node_kind-kind.result (bare_read c.args.root (members_of c.args.fields.now)) c.args.root c.args.depth (members_of c.args.fields.now) c.args.nodes.now c.read_inner.new.nodes c.read_inner-2.new.nodes c.read_properties.new.nodes c.in-Err-read_default.stop (pass_1 c.node_kind-kind.result (bare_read c.args.root (members_of c.args.fields.now)) c.args.root c.args.depth (members_of c.args.fields.now) c.args.nodes.now c.read_inner.new.nodes c.in-Ok.ensures c.in-Ok-read_inner.ensures.walk) (pass_2 c.node_kind-kind.result (bare_read c.args.root (members_of c.args.fields.now)) c.args.root c.args.depth (members_of c.args.fields.now) c.read_inner.new.nodes c.read_inner-2.new.nodes c.in-Ok-try_items.ensures c.in-Ok-read_inner-2.ensures.walk) c.in-Ok-try_type.ensures c.in-Ok-read_properties.ensures.walk last)

pub read_object-returns-in-Ok-read_default-clause-walk : goal.read_object-returns-in-Ok-read_default-clause-walk
read_object-returns-in-Ok-read_default-clause-walk t c =
    let bare : shape_of c.with_parts-bare.result ≡ (bare_read c.args.root (members_of c.args.fields.now)) = c.with_parts-bare.ensures ∙ same_parts _ _ _ _ _ _ _ _ (ap own c.in_ok-own.ensures) c.in-Ok-read_properties.ensures.read c.in-Ok-read_inner.ensures.read c.in-Ok-read_inner-2.ensures.read in
    let last : first 0 (Last c.args.root (bare_read c.args.root (members_of c.args.fields.now)) (members_of c.args.fields.now)) ≡ None = subst (λ (s : Shape). first 0 (Last c.args.root s (members_of c.args.fields.now)) ≡ None) bare c.in-Ok-read_default.ensures.walk in
    subst (λ (q : Option NodeKind). Passes c.args.nodes.now c.read_properties.new.nodes (object_by q (bare_read c.args.root (members_of c.args.fields.now)) c.args.root c.args.depth (members_of c.args.fields.now))) c.node_kind-kind.ensures (pass_all c.node_kind-kind.result (bare_read c.args.root (members_of c.args.fields.now)) c.args.root c.args.depth (members_of c.args.fields.now) c.args.nodes.now c.read_inner.new.nodes c.read_inner-2.new.nodes c.read_properties.new.nodes (pass_1 c.node_kind-kind.result (bare_read c.args.root (members_of c.args.fields.now)) c.args.root c.args.depth (members_of c.args.fields.now) c.args.nodes.now c.read_inner.new.nodes c.in-Ok.ensures c.in-Ok-read_inner.ensures.walk) (pass_2 c.node_kind-kind.result (bare_read c.args.root (members_of c.args.fields.now)) c.args.root c.args.depth (members_of c.args.fields.now) c.read_inner.new.nodes c.read_inner-2.new.nodes c.in-Ok-try_items.ensures c.in-Ok-read_inner-2.ensures.walk) c.in-Ok-try_type.ensures c.in-Ok-read_properties.ensures.walk last)

pub read_map-returns-in-Err-clause-walk : goal.read_map-returns-in-Err-clause-walk
read_map-returns-in-Err-clause-walk t c =
    subst (λ (o : Option Refusal). StopsSchemaReading o c.under_name.result) c.loop-f.invariant.refusal (stopped_meta c.args.root c.loop-f.nodes c.args.depth c.as_slice-f-items.result.now c.loop-f.f-index c.f-item.result c.in-Some.text.now c.as_str.result.now c.as_str-in-Err.result.now c.in-Err.stop c.under_name.result c.loop-f-test.true c.f-item.is c.in-Some.ensures c.as_str.ensures c.as_str-in-Err.ensures c.in-Err.ensures c.under_name.ensures)

pub read_map-read_node-requires : goal.read_map-read_node-requires
read_map-read_node-requires t c =
    let h : depth (json c.f-item.result.value) ≤ members_depth (members_of c.args.named.now) = field_depth c.as_slice-f-items.result.now c.args.named.now c.loop-f.f-index c.f-item.result c.as_slice-f-items.ensures.value c.loop-f-test.true c.f-item.is in
    (omega (arith, h, c.decreases), omega (arith, c.requires))

pub read_map-returns-in-Err-read_node-clause-walk : goal.read_map-returns-in-Err-read_node-clause-walk
read_map-returns-in-Err-read_node-clause-walk t c =
    subst (λ (o : Option Refusal). StopsSchemaReading o c.under_name-in-Err-read_node.result) c.loop-f.invariant.refusal (stopped_node c.args.root c.loop-f.nodes c.args.depth c.as_slice-f-items.result.now c.loop-f.f-index c.f-item.result c.as_str.result.now c.as_str-in-Err-read_node.result.now c.in-Err-read_node.stop c.under_name-in-Err-read_node.result c.loop-f-test.true c.f-item.is c.in-None.ensures c.as_str.ensures c.as_str-in-Err-read_node.ensures c.in-Err-read_node.ensures.walk c.under_name-in-Err-read_node.ensures)

pub read_map-push-requires : goal.read_map-push-requires
read_map-push-requires t c =
    let rising : AreRising (members_of (map pair_of c.as_slice-f-items.result.now)) = subst (λ (es : List (List ℕ × Json)). AreRising (members_of es)) (sym c.as_slice-f-items.ensures.value) c.as_slice-f-items.ensures.sound in
    subst (λ (es : List (List ℕ × Shape)). AreInOrder es) (sym (pushed c.args.root c.as_slice-f-items.result.now c.loop-f.f-index c.f-item.result c.as_str.result.now c.in_ok-of-in-Ok-read_node.field-0.bytes (shape_of c.in-Ok-read_node.schema) c.loop-f.map c.loop-f-test.true c.f-item.is c.loop-f.invariant.read c.in-None.ensures c.as_str.ensures (c.in_ok-of-in-Ok-read_node.ensures ∙ c.as_str-in-Ok-read_node.ensures) c.in-Ok-read_node.ensures.read)) (kept_in_order c.args.root (c.loop-f.f-index + 1) c.as_slice-f-items.result.now rising)

pub read_map-loop-f-preserved : goal.read_map-loop-f-preserved
read_map-loop-f-preserved t c =
    elim c.match-passed_type.branch [
      | read_map-in-Some+in-Ok w ↦
          let g : GoesOn c.loop-f.nodes c.loop-f.nodes c.args.root c.args.depth c.as_slice-f-items.result.now c.loop-f.f-index = goes_meta c.args.root c.loop-f.nodes c.args.depth c.as_slice-f-items.result.now c.loop-f.f-index c.f-item.result w.in-Some.text.now c.as_str.result.now c.loop-f-test.true c.f-item.is w.in-Some.ensures c.as_str.ensures w.in-Ok.ensures in
          record {
            read = w.map-is ∙ skipped c.args.root c.as_slice-f-items.result.now c.loop-f.f-index c.f-item.result c.as_str.result.now w.in-Some.text.now c.loop-f.map c.loop-f-test.true c.f-item.is c.loop-f.invariant.read w.in-Some.ensures c.as_str.ensures;
            refusal = ap (λ (n : ℕ). first n (From c.args.root c.args.depth (drop (c.loop-f.f-index + 1) c.as_slice-f-items.result.now))) w.nodes-is ∙ g.refusal ∙ c.loop-f.invariant.refusal;
            count = ap (λ (n : ℕ). after n (From c.args.root c.args.depth (drop (c.loop-f.f-index + 1) c.as_slice-f-items.result.now))) w.nodes-is ∙ g.count ∙ c.loop-f.invariant.count;
          }
      | read_map-in-None+in-Ok-read_node+in_ok-of-in-Ok-read_node+in_ok-push-in-Ok-read_node w ↦
          let g : GoesOn c.loop-f.nodes w.read_node.new.nodes c.args.root c.args.depth c.as_slice-f-items.result.now c.loop-f.f-index = goes_node c.args.root c.loop-f.nodes w.read_node.new.nodes c.args.depth c.as_slice-f-items.result.now c.loop-f.f-index c.f-item.result c.as_str.result.now c.loop-f-test.true c.f-item.is w.in-None.ensures c.as_str.ensures w.in-Ok-read_node.ensures.walk in
          record {
            read = w.map-is ∙ w.in_ok-push-in-Ok-read_node.ensures.ok ∙ pushed c.args.root c.as_slice-f-items.result.now c.loop-f.f-index c.f-item.result c.as_str.result.now w.in_ok-of-in-Ok-read_node.field-0.bytes (shape_of w.in-Ok-read_node.schema) c.loop-f.map c.loop-f-test.true c.f-item.is c.loop-f.invariant.read w.in-None.ensures c.as_str.ensures (w.in_ok-of-in-Ok-read_node.ensures ∙ w.as_str-in-Ok-read_node.ensures) w.in-Ok-read_node.ensures.read;
            refusal = ap (λ (n : ℕ). first n (From c.args.root c.args.depth (drop (c.loop-f.f-index + 1) c.as_slice-f-items.result.now))) w.nodes-is ∙ g.refusal ∙ c.loop-f.invariant.refusal;
            count = ap (λ (n : ℕ). after n (From c.args.root c.args.depth (drop (c.loop-f.f-index + 1) c.as_slice-f-items.result.now))) w.nodes-is ∙ g.count ∙ c.loop-f.invariant.count;
          }
    ]

pub read_map-returns-clause-read : goal.read_map-returns-clause-read
read_map-returns-clause-read t c =
    ap shapes_of c.loop-f.invariant.read ∙ shapes-kept c.args.root (map pair_of (take c.loop-f.f-index c.as_slice-f-items.result.now)) ∙ ap (λ (gs : List Field). shapes_read c.args.root (members_of (map pair_of gs))) (take_all c.loop-f.f-index c.as_slice-f-items.result.now (omega (arith, c.loop-f-test.false))) ∙ ap (λ (es : List (List ℕ × Json)). shapes_read c.args.root (members_of es)) c.as_slice-f-items.ensures.value
