use Rattle.std.proofs.Common.{List, ◌++◌, map, sym, ap, ◌∙◌}
use Rattle.std.specs.Prelude.{string_bytes}
use Rattle.std.proofs.lemmas.List.{append-nil, drop_all}
use Rattle.kj_value.specs.Texts.{bytes_of}
use Rattle.kj_value.specs.declared.txt.Txt.{Txt}
use Rattle.crd_settings.specs.Pieces.{names_from}
use Rattle.crd_settings.proofs.Named.{name_here}
use Rattle.crd_settings.proofs.pieces.all_names.Goals as goal

pub loop-i-preserved : goal.loop-i-preserved
loop-i-preserved c =
    let l = c.loop-i in
    name_here c.args.names.now l.i c.index-names-i.result (string_bytes l.text) (string_bytes c.push_str-in-loop-i.new.self) c.loop-i-test.true c.index-names-i.is c.comma_before.ensures c.as_str.ensures
    (c.in_ok-push_str-2.ensures.bytes ∙ ap (λ t. t ++ c.as_str.result.now) c.in_ok-push_str.ensures.bytes) ∙ l.invariant

pub returns : goal.returns
returns c =
    let l = c.loop-i in
    c.of_string.ensures ∙ sym (append-nil (string_bytes l.text))
    ∙ ap (λ (t : List Txt). string_bytes l.text ++ names_from l.i (map bytes_of t)) (sym (drop_all l.i c.args.names.now c.loop-i-test.false)) ∙ l.invariant
