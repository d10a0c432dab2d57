use Rattle.std.proofs.Common.{◌≡◌, ◌++◌, ◌∷◌, [], ℕ, List, map, take, ◌∙◌, ap, sym, subst, arith}
use Rattle.std.proofs.lemmas.List.{map_more, map-append, take_all}
use Rattle.kj_value.specs.Fields.{AreInOrder}
use Rattle.kj_value.specs.Texts.{text_pair}
use Rattle.kj_value.specs.declared.texts.TextField.{TextField}
use Rattle.kj_value.proofs.texts.TextMap.copied.Goals as goal

pub loop-t-preserved : goal.loop-t-preserved
loop-t-preserved c =
    let ts = c.as_slice-t-items.result.now in
    let l = c.loop-t in
    let t = c.t-item.result in
    let before = map text_pair (take l.t-index ts) in
    let name = c.in_ok-name.name.bytes in
    let value = c.in_ok-value.value.bytes in
    let named : name ≡ t.name.bytes = c.in_ok-name.ensures ∙ c.as_str.ensures in
    let valued : value ≡ t.value.bytes = c.in_ok-value.ensures ∙ c.as_str-in-loop-t.ensures in
    ap (λ (fs : List TextField). map text_pair fs) c.in_ok-push.ensures.items ∙ map-append text_pair l.copies.items _
    ∙ ap (λ (ps : List (List ℕ × List ℕ)). ps ++ (name, value) ∷ []) l.invariant
    ∙ ap (λ n. before ++ (n, value) ∷ []) named
    ∙ ap (λ v. before ++ (t.name.bytes, v) ∷ []) valued
    ∙ ap (λ f. before ++ text_pair f ∷ []) c.t-item.is
    ∙ sym (map_more text_pair ts l.t-index t c.loop-t-test.true)

pub invariant_of-result : goal.invariant_of-result
invariant_of-result c =
    let ts = c.as_slice-t-items.result.now in
    let same = c.loop-t.invariant ∙ ap (λ (fs : List TextField). map text_pair fs) (take_all c.loop-t.t-index ts (omega (arith, c.loop-t-test.false))) ∙ c.as_slice-t-items.ensures.value in
    subst (λ (ps : List (List ℕ × List ℕ)). AreInOrder ps) (sym same) c.len.ensures.order

pub returns : goal.returns
returns c =
    let ts = c.as_slice-t-items.result.now in
    c.loop-t.invariant ∙ ap (λ (fs : List TextField). map text_pair fs) (take_all c.loop-t.t-index ts (omega (arith, c.loop-t-test.false))) ∙ c.as_slice-t-items.ensures.value
