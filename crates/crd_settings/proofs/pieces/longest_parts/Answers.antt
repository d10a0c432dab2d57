use Rattle.std.proofs.Common.{List, ◌++◌, sym, ap, ◌∙◌}
use Rattle.std.specs.Prelude.{string_bytes}
use Rattle.std.proofs.lemmas.List.{append-nil, drop_all}
use Rattle.crd_settings.specs.Shown.{unmarked}
use Rattle.crd_settings.specs.Pieces.{parts_text}
use Rattle.crd_settings.specs.declared.cut.Part.{Part}
use Rattle.crd_settings.proofs.Named.{part_here}
use Rattle.crd_settings.proofs.pieces.longest_parts.Goals as goal

pub loop-part-preserved : goal.loop-part-preserved
loop-part-preserved c =
    let l = c.loop-part in
    part_here unmarked c.args.parts.now l.part-index c.part-item.result (string_bytes l.text) (string_bytes c.push_str.new.self) c.loop-part-test.true c.part-item.is c.longest_part.ensures c.in_ok-push_str.ensures.bytes ∙ l.invariant

pub returns : goal.returns
returns c =
    let l = c.loop-part in
    c.of_string.ensures ∙ sym (append-nil (string_bytes l.text))
    ∙ ap (λ (t : List Part). string_bytes l.text ++ parts_text unmarked t) (sym (drop_all l.part-index c.args.parts.now c.loop-part-test.false)) ∙ l.invariant
