use Rattle.std.proofs.Common.{ℕ, map, ◌++◌, ◌∷◌, [], ap, sym, ◌∙◌, List, string_bytes}
use Rattle.std.proofs.lemmas.List.{drop_all}
use Rattle.kj_value.specs.Texts.{bytes_of}
use Rattle.kj_value.specs.declared.txt.Txt.{Txt}
use Rattle.hub_fills.specs.LateNames.{joined}
use Rattle.hub_fills.proofs.Growing.{path_step}
use Rattle.hub_fills.proofs.lateness.path_text.Goals as goal

pub loop-k-preserved : goal.loop-k-preserved
loop-k-preserved c =
    path_step (string_bytes c.loop-k.text) (string_bytes c.push_str.new.self) (string_bytes c.push_str-in-loop-k.new.self) c.args.path.now c.loop-k.k-index c.k-item.result c.as_str.result.now c.args.name.now.bytes _
    c.loop-k-test.true c.k-item.is c.as_str.ensures c.in_ok-push_str.ensures.bytes c.in_ok-push_str-2.ensures.bytes c.loop-k.invariant

pub returns : goal.returns
returns c =
    let t = string_bytes c.loop-k.text in
    c.of_string.ensures ∙ c.in_ok-push_str-3.ensures.bytes ∙ ap (λ (x : List ℕ). t ++ x) c.as_str-2.ensures
    ∙ ap (λ (ks : List Txt). t ++ joined (map bytes_of ks ++ c.args.name.now.bytes ∷ [])) (sym (drop_all c.loop-k.k-index c.args.path.now c.loop-k-test.false)) ∙ c.loop-k.invariant
