use Rattle.std.proofs.Common.{◌≡◌, ◌∙◌, ◌∷◌, [], length, refl, ap, arith}
use Rattle.api_calls.proofs.Fields.{added_next}
use Rattle.write_texts.proofs.Sealing.{sealed}
use Rattle.write_texts.proofs.seal.seal_text.Goals as goal

pub returns : goal.returns
returns c = λ x b.
    let f1 = added_next _ _ [] _ _ c.add.ensures.bytes refl c.in_ok-front.ensures.empty in
    let f2 = added_next _ _ _ _ _ c.add-2.ensures.bytes refl f1 in
    let f3 = added_next _ _ _ _ _ c.add-3.ensures.bytes refl f2 in
    let b1 = added_next _ _ [] _ _ c.in_ok-push_str.ensures.bytes refl c.in_ok-back.ensures.bytes in
    let b2 = added_next _ _ _ _ _ c.in_ok-push_str-2.ensures.bytes refl b1 in
    let back : c.of_string.result.bytes ≡ 34 ∷ c.parts.result.2.now = c.of_string.ensures ∙ b2 in
    let long = ap length back in
    let whole = c.parts.ensures.lengths.0 in
    let short = c.parts.ensures.lengths.1 in
    let r0 = c.in_ok-front.ensures.room in
    let r1 = c.add.ensures.room in
    let r2 = c.add-2.ensures.room in
    let r3 = c.add-3.ensures.room in
    sealed x c.parts.result.0.now c.parts.result.1.now c.parts.result.2.now (record { front = c.add-3.new.self; back = c.of_string.result }) (c.parts.ensures.parts x b) f3 back (omega (arith, long, whole, short, r0, r1, r2, r3))
