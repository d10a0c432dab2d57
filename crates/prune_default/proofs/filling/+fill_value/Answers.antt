use Rattle.std.proofs.Common.{◌≡◌, ◌≤◌, ◌+◌, length, ◌++◌, ℕ, List, [], ◌∷◌, map, Option, Some, None, option_map, ap, sym, subst, ◌∙◌, append_assoc, arith}
use Rattle.std.specs.Prelude.{IfOk}
use Rattle.std.specs.Vec.Iter.{into_iter_items}
use Rattle.std.proofs.lemmas.Result.{IfOk-weaker}
use Rattle.std.proofs.lemmas.List.{nil_from_length, append-nil}
use Rattle.kj_value.specs.Json.{Json, depth, items_depth, members_depth, items_of, members_of}
use Rattle.kj_value.specs.Seen.{json}
use Rattle.kj_value.specs.Pair.{pair_of}
use Rattle.kj_value.specs.Fields.{Pairs}
use Rattle.kj_value.specs.Sound.{AreRising}
use Rattle.kj_value.specs.laws.Inside.{depth_middle, depth_middle_field}
use Rattle.kj_value.specs.declared.value.JVal.{JVal}
use Rattle.kj_value.specs.declared.value.Field.{Field}
use Rattle.struct_schema.specs.Shape.{Shape, MaybeShape, some_shape, map_of, maybe_of}
use Rattle.struct_schema.specs.ShapeOf.{shape_of}
use Rattle.struct_schema.specs.Names.{value_at, shape_for}
use Rattle.struct_schema.specs.Filled.{EachItem, ItemFilled, RestFilled}
use Rattle.struct_schema.specs.laws.NameLaws.{gone}
use Rattle.prune_default.specs.inner.Missing.{or_value}
use Rattle.prune_default.specs.Size.{size, items_size, members_size}
use Rattle.prune_default.proofs.Lookup.{rising_end}
use Rattle.prune_default.proofs.Sizes.{items_size-push}
use Rattle.prune_default.proofs.Level.{name_filled, names_turn, rest_none, each_push, each_same}
use Rattle.prune_default.proofs.filling.+fill_value.Goals as goal

pub fill_items-fill_item-requires : goal.fill_items-fill_item-requires
fill_items-fill_item-requires t c =
    let l = c.loop-x in
    let done = l.invariant.0 in
    let left = into_iter_items c.next.new.self in
    let x = c.in-Some.x in
    let step : into_iter_items l.x-iterator ≡ x ∷ left = c.in-Some.ensures.steps.0 in
    let all : c.args.items ≡ done ++ json x ∷ map json left = l.invariant.1 ∙ ap (λ (vs : List JVal). done ++ map json vs) step in
    let deep : depth (json x) ≤ items_depth (items_of c.args.items) = subst (λ (js : List Json). depth (json x) ≤ items_depth (items_of js)) (sym all) (depth_middle done (json x) (map json left)) in
    (omega (arith, deep), tt)

pub fill_items-loop-x-preserved : goal.fill_items-loop-x-preserved
fill_items-loop-x-preserved t c =
    let l = c.loop-x in
    let done = l.invariant.0 in
    let left = into_iter_items c.next.new.self in
    let x = c.in-Some.x in
    let step : into_iter_items l.x-iterator ≡ x ∷ left = c.in-Some.ensures.steps.0 in
    let all : c.args.items ≡ done ++ json x ∷ map json left = l.invariant.1 ∙ ap (λ (vs : List JVal). done ++ map json vs) step in
    let more = each_push (λ a b. ItemFilled (some_shape (shape_of c.args.node.now)) a b) done l.filled (json x) (json c.in_ok-fill_item.field-0) l.invariant.2 c.in_ok-fill_item.ensures.filled in
    let size_step : items_size (items_of (map json (into_iter_items l.x-iterator))) ≡ (1 + size (json x)) + items_size (items_of (map json left)) = ap (λ (vs : List JVal). items_size (items_of (map json vs))) step in
    let size_push : items_size (items_of c.push.new.self) ≡ items_size (items_of l.filled) + (1 + size (json c.in_ok-fill_item.field-0)) = ap (λ (js : List Json). items_size (items_of js)) c.in_ok-push.ensures.ok ∙ items_size-push l.filled (json c.in_ok-fill_item.field-0) in
    (done ++ json x ∷ [], all ∙ sym (append_assoc done (json x ∷ []) (map json left)), subst (λ (js : List Json). EachItem (λ a b. ItemFilled (some_shape (shape_of c.args.node.now)) a b) (items_of (done ++ json x ∷ [])) (items_of js)) (sym c.in_ok-push.ensures.ok) more, omega (arith, l.invariant.3, size_step, size_push, c.in_ok-fill_item.ensures.within))

pub fill_list-returns-in-None-clause-filled : goal.fill_list-returns-in-None-clause-filled
fill_list-returns-in-None-clause-filled t c =
    subst (λ (m : Option Shape). EachItem (λ a b. ItemFilled (maybe_of m) a b) (items_of c.args.items) (items_of c.args.items)) (sym c.in-None.is) (each_same (items_of c.args.items))

pub fill_list-returns-in-Some-clause-filled : goal.fill_list-returns-in-Some-clause-filled
fill_list-returns-in-Some-clause-filled t c =
    subst (λ (m : MaybeShape). IfOk c.fill_items.result (λ js. EachItem (λ a b. ItemFilled m a b) (items_of c.args.items) (items_of js))) (ap some_shape c.get.ensures ∙ ap maybe_of (sym c.in-Some.is)) c.fill_items.ensures.filled

pub fill_names-fill_name-requires : goal.fill_names-fill_name-requires
fill_names-fill_name-requires t c =
    let l = c.loop-f in
    let done = l.invariant.0 in
    let left = into_iter_items c.next.new.self in
    let f = c.in-Some.f in
    let step : into_iter_items l.f-iterator ≡ f ∷ left = c.in-Some.ensures.steps.0 in
    let all : c.args.fields ≡ done ++ pair_of f ∷ map pair_of left = l.invariant.1 ∙ ap (λ (fs : List Field). done ++ map pair_of fs) step in
    let deep : depth (json f.value) ≤ members_depth (members_of c.args.fields) = subst (λ (es : Pairs). depth (json f.value) ≤ members_depth (members_of es)) (sym all) (depth_middle_field done (pair_of f) (map pair_of left)) in
    (omega (arith, deep), tt)

pub fill_names-loop-f-preserved : goal.fill_names-loop-f-preserved
fill_names-loop-f-preserved t c =
    let l = c.loop-f in
    let s = shape_of c.args.s.now in
    let done = l.invariant.0 in
    let left = into_iter_items c.next.new.self in
    let f = c.in-Some.f in
    let step : into_iter_items l.f-iterator ≡ f ∷ left = c.in-Some.ensures.steps.0 in
    let all : c.args.fields ≡ done ++ pair_of f ∷ map pair_of left = l.invariant.1 ∙ ap (λ (fs : List Field). done ++ map pair_of fs) step in
    let rising : AreRising (members_of (pair_of f ∷ map pair_of left)) = rising_end done (pair_of f ∷ map pair_of left) (subst (λ (es : Pairs). AreRising (members_of es)) all c.into_vec-f-items.ensures.sound) in
    let before = λ (n : List ℕ) (x : Option Json). subst (λ (fs : List Field). RestFilled (shape_for s n) c.args.s.now.preserve (value_at n (members_of (map pair_of fs))) x → RestFilled (shape_for s n) c.args.s.now.preserve (value_at n (members_of c.args.fields)) (or_value x (value_at n (members_of l.kept)))) step (l.invariant.2 n x) in
    let here : RestFilled (shape_for s f.name.bytes) c.args.s.now.preserve (Some (json f.value)) (option_map json c.in_ok-value.value) = subst (λ (k : List ℕ). RestFilled (shape_for s k) c.args.s.now.preserve (Some (json f.value)) (option_map json c.in_ok-value.value)) c.as_str.ensures c.in_ok-value.ensures.filled in
    let size_step : members_size (members_of (map pair_of (into_iter_items l.f-iterator))) ≡ (length f.name.bytes + 4 + size (json f.value)) + members_size (members_of (map pair_of left)) = ap (λ (fs : List Field). members_size (members_of (map pair_of fs))) step in (
      done ++ pair_of f ∷ [],
      all ∙ sym (append_assoc done (pair_of f ∷ []) (map pair_of left)),
      λ n w. names_turn s c.args.s.now.preserve n f.name.bytes (json f.value) (option_map json c.in_ok-value.value) (map pair_of left) (value_at n (members_of c.args.fields)) (value_at n (members_of l.kept)) (value_at n (members_of c.keep.new.kept)) w (before n) here (gone f.name.bytes (members_of (map pair_of left)) rising.0 rising.2) (c.in_ok-keep.ensures.kept n),
      omega (arith, l.invariant.3, size_step, c.in_ok-keep.ensures.within, c.in_ok-value.ensures.within),
    )

pub fill_names-returns-clause-filled : goal.fill_names-returns-clause-filled
fill_names-returns-clause-filled t c =
    let l = c.loop-f in
    let s = shape_of c.args.s.now in
    let none : into_iter_items l.f-iterator ≡ [] = nil_from_length _ (grind (arith, c.in-None.ensures.steps.0)) in
    λ n. l.invariant.2 n None (subst (λ (fs : List Field). RestFilled (shape_for s n) c.args.s.now.preserve (value_at n (members_of (map pair_of fs))) None) (sym none) (rest_none (shape_for s n) c.args.s.now.preserve))

pub fill_object-returns-clause-filled : goal.fill_object-returns-clause-filled
fill_object-returns-clause-filled t c =
    IfOk-weaker c.set_defaults.result _ _ (λ ns h n. name_filled (map_of c.args.s.now.properties) (maybe_of c.args.s.now.additional) c.args.s.now.preserve n _ _ _ (c.in_ok-kept.ensures.filled n) (h n)) c.set_defaults.ensures.set

pub fill_object-returns-clause-within : goal.fill_object-returns-clause-within
fill_object-returns-clause-within t c =
    IfOk-weaker c.set_defaults.result _ _ (λ ns h. omega (arith, h, c.in_ok-kept.ensures.within)) c.set_defaults.ensures.within

pub fill_names-returns-clause-within : goal.fill_names-returns-clause-within
fill_names-returns-clause-within t c = omega (arith, c.loop-f.invariant.3)

pub fill_items-returns-clause-within : goal.fill_items-returns-clause-within
fill_items-returns-clause-within t c = omega (arith, c.loop-x.invariant.3)

pub fill_items-returns-clause-filled : goal.fill_items-returns-clause-filled
fill_items-returns-clause-filled t c =
    let l = c.loop-x in
    let done = l.invariant.0 in
    let none : into_iter_items l.x-iterator ≡ [] = nil_from_length _ (grind (arith, c.in-None.ensures.steps.0)) in
    let all : c.args.items ≡ done = l.invariant.1 ∙ ap (λ (vs : List JVal). done ++ map json vs) none ∙ append-nil done in
    subst (λ (js : List Json). EachItem (λ a b. ItemFilled (some_shape (shape_of c.args.node.now)) a b) (items_of js) (items_of l.filled)) (sym all) l.invariant.2
