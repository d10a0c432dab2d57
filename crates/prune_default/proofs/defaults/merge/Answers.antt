use Rattle.std.proofs.Common.{◌≡◌, ◌≤◌, ◌+◌, length, arith, ◌++◌, List, [], ◌∷◌, map, ap, sym, subst, ◌∙◌, append_assoc}
use Rattle.std.proofs.lemmas.List.{nil_from_length}
use Rattle.std.specs.Vec.Iter.{into_iter_items}
use Rattle.kj_value.specs.Json.{members_of}
use Rattle.kj_value.specs.Seen.{json}
use Rattle.kj_value.specs.Pair.{pair_of}
use Rattle.kj_value.specs.Fields.{Pairs}
use Rattle.kj_value.specs.Sound.{AreRising}
use Rattle.kj_value.specs.declared.value.Field.{Field}
use Rattle.struct_schema.specs.Shape.{shapes_of}
use Rattle.struct_schema.specs.ShapeOf.{named_shape}
use Rattle.struct_schema.specs.Names.{value_at}
use Rattle.struct_schema.specs.laws.NameLaws.{gone}
use Rattle.prune_default.specs.inner.Missing.{first_default, or_value}
use Rattle.prune_default.proofs.Lookup.{rising_end, value_at-with}
use Rattle.prune_default.specs.Size.{size, members_size}
use Rattle.prune_default.proofs.Missing.{merge_turn}
use Rattle.prune_default.proofs.Sizes.{members_size-with}
use Rattle.prune_default.proofs.defaults.merge.Goals as goal

pub loop-f-preserved : goal.loop-f-preserved
loop-f-preserved c =
    let l = c.loop-f in
    let done = l.invariant.0 in
    let f = c.in-Some.f in
    let left = into_iter_items c.next.new.self in
    let step : into_iter_items l.f-iterator ≡ f ∷ left = c.in-Some.ensures.steps.0 in
    let all : c.args.fields ≡ done ++ pair_of f ∷ map pair_of left = l.invariant.1 ∙ ap (λ (fs : List Field). done ++ map pair_of fs) step in
    let rising : AreRising (members_of (pair_of f ∷ map pair_of left)) = rising_end done (pair_of f ∷ map pair_of left) (subst (λ (es : Pairs). AreRising (members_of es)) all c.into_vec-f-items.ensures.sound) in
    let size_step : members_size (members_of (map pair_of (into_iter_items l.f-iterator))) ≡ (length f.name.bytes + 4 + size (json f.value)) + members_size (members_of (map pair_of left)) = ap (λ (fs : List Field). members_size (members_of (map pair_of fs))) step in
    let size_set : members_size (members_of c.set.new.self) ≤ members_size (members_of c.set_before.new.filled) + (length f.name.bytes + 4 + size (json f.value)) = subst (λ (es : Pairs). members_size (members_of es) ≤ members_size (members_of c.set_before.new.filled) + (length f.name.bytes + 4 + size (json f.value))) (sym c.in_ok-set.ensures.ok) (members_size-with f.name.bytes (json f.value) c.set_before.new.filled) in (
      done ++ pair_of f ∷ [],
      all ∙ sym (append_assoc done (pair_of f ∷ []) (map pair_of left)),
      λ n. merge_turn n f.name.bytes (json f.value) (map pair_of left) (value_at n (members_of l.filled)) (value_at n (members_of c.set_before.new.filled)) _ (first_default n (shapes_of (map named_shape l.rest.now))) (first_default n (shapes_of (map named_shape c.in_ok-rest.rest.now))) _ (gone f.name.bytes (members_of (map pair_of left)) rising.0 rising.2)
          (ap (λ (fs : List Field). or_value (value_at n (members_of (map pair_of fs))) (or_value (value_at n (members_of l.filled)) (first_default n (shapes_of (map named_shape l.rest.now))))) (sym step) ∙ l.invariant.2 n) (c.in_ok-rest.ensures.set n) (ap (λ (es : Pairs). value_at n (members_of es)) c.in_ok-set.ensures.ok ∙ value_at-with n f.name.bytes (json f.value) c.set_before.new.filled),
      omega (arith, l.invariant.3, size_step, size_set, c.in_ok-rest.ensures.within),
    )

pub returns-clause-set : goal.returns-clause-set
returns-clause-set c =
    let l = c.loop-f in
    let none : into_iter_items l.f-iterator ≡ [] = nil_from_length _ (grind (arith, c.in-None.ensures.steps.0)) in
    λ n. c.in_ok-set_all.ensures.set n
    ∙ ap (λ (fs : List Field). or_value (value_at n (members_of (map pair_of fs))) (or_value (value_at n (members_of l.filled)) (first_default n (shapes_of (map named_shape l.rest.now))))) (sym none) ∙ l.invariant.2 n

pub returns-clause-within : goal.returns-clause-within
returns-clause-within c = omega (arith, c.in_ok-set_all.ensures.within, c.loop-f.invariant.3)
