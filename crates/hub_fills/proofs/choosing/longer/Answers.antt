use Rattle.std.proofs.Common.{map, ℕ, ◌++◌, ◌∷◌, [], ap, ap₂, ◌∙◌, List}
use Rattle.std.proofs.lemmas.List.{take_all, map-append}
use Rattle.kj_value.specs.Texts.{bytes_of}
use Rattle.kj_value.specs.declared.txt.Txt.{Txt}
use Rattle.hub_fills.proofs.Growing.{mapped_step}
use Rattle.hub_fills.proofs.choosing.longer.Goals as goal

pub loop-k-preserved : goal.loop-k-preserved
loop-k-preserved c =
    mapped_step bytes_of bytes_of c.loop-k.names.items c.push.new.self.items c.in_ok-of.field-0 c.args.path.now c.loop-k.k-index c.k-item.result c.loop-k-test.true c.k-item.is c.in_ok-push.ensures.items
    (c.in_ok-of.ensures ∙ c.as_str.ensures) c.loop-k.invariant

pub returns : goal.returns
returns c =
    ap (map bytes_of) c.in_ok-push-2.ensures.items ∙ map-append bytes_of c.loop-k.names.items (c.in_ok-of-2.field-0 ∷ [])
    ∙ ap₂ (λ (ks : List (List ℕ)) (k : List ℕ). ks ++ k ∷ []) (c.loop-k.invariant ∙ ap (λ (ks : List Txt). map bytes_of ks) (take_all c.loop-k.k-index c.args.path.now c.loop-k-test.false)) (c.in_ok-of-2.ensures ∙ c.as_str-2.ensures)
