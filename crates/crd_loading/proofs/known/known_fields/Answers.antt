use Rattle.std.proofs.Common.{◌≡◌, ◌++◌, [], ◌∷◌, ℕ, List, map, ap, sym, subst, ◌∙◌, append_assoc}
use Rattle.std.specs.Vec.Iter.{into_iter_items}
use Rattle.kj_value.specs.Json.{Json, members_of}
use Rattle.kj_value.specs.Seen.{json}
use Rattle.kj_value.specs.Pair.{pair_of}
use Rattle.kj_value.specs.Sound.{AreRising}
use Rattle.kj_value.specs.Fields.{Pairs, with_field}
use Rattle.kj_value.specs.declared.value.Field.{Field}
use Rattle.crd_reading.specs.Seen.{version_of}
use Rattle.crd_loading.specs.Known.{known_field, mapped}
use Rattle.crd_loading.proofs.Fields.{rebuilt}
use Rattle.crd_loading.proofs.known.known_fields.Goals as goal

pub loop-f-preserved : goal.loop-f-preserved
loop-f-preserved c =
    let l = c.loop-f in
    let g : List ℕ → Json → Json = known_field (map version_of c.args.versions.now) in
    let done : Pairs = l.invariant.0 in
    let left = into_iter_items c.next.new.self in
    let f : Field = c.in-Some.f in
    let step : into_iter_items l.f-iterator ≡ f ∷ left = c.in-Some.ensures.steps.0 in
    let all : c.args.fields ≡ done ++ pair_of f ∷ map pair_of left = l.invariant.1 ∙ ap (λ (fs : List Field). done ++ map pair_of fs) step in
    let rising : AreRising (members_of (done ++ pair_of f ∷ map pair_of left)) = subst (λ (es : Pairs). AreRising (members_of es)) all c.into_vec-f-items.ensures.sound in
    let value : json c.in_ok-field.field ≡ g f.name.bytes (json f.value) = c.in_ok-field.ensures ∙ ap (λ (n : List ℕ). g n (json f.value)) c.as_str.ensures in (
      done ++ pair_of f ∷ [],
      all ∙ sym (append_assoc done (pair_of f ∷ []) (map pair_of left)),
      c.in_ok-set.ensures.ok ∙ ap (λ (es : Pairs). with_field f.name.bytes (json c.in_ok-field.field) es) l.invariant.2 ∙ ap (λ (j : Json). with_field f.name.bytes j (mapped g done)) value ∙ rebuilt g done (pair_of f) (map pair_of left) rising,
    )
