use Rattle.std.proofs.Common.{List, ℕ, ◌++◌, map, ap, sym, ◌∙◌}
use Rattle.std.specs.Prelude.{string_bytes}
use Rattle.kj_value.specs.Json.{Json}
use Rattle.kj_value.specs.Text.{quoted, text_of}
use Rattle.crd_reading.specs.Spelled.{full_name}
use Rattle.crd_settings.specs.Flags.{spec_with}
use Rattle.crd_settings.specs.Pieces.{before_name, before_spec, before_stored, behind_stored, names_from, parts_text}
use Rattle.crd_settings.specs.declared.cut.Part.{Part}
use Rattle.crd_settings.proofs.Texts.{document-text, gathered}
use Rattle.crd_settings.proofs.pieces.parts.Goals as goal

pub returns : goal.returns
returns c = λ m stored.
    let d = c.args.definition.now in
    document-text d m stored
    ∙ ap (λ (t : List ℕ). t ++ (names_from 0 (map quoted stored) ++ behind_stored))
    (sym (c.in_ok-parts.ensures m
    ∙ gathered m before_name (quoted (full_name d)) before_spec (text_of (spec_with m d.spec)) before_stored
    c.in_ok-begun.ensures c.in_ok-named.ensures c.in_ok-outer.ensures c.in_ok-inner.ensures c.in_ok-whole.ensures
    (ap (λ (ps : List Part). parts_text m ps ++ string_bytes c.new-2.result) c.new.ensures.items ∙ c.new-2.ensures.bytes)
    c.before_name.ensures
    (c.as_str-2.ensures ∙ (c.in_ok-name-2.ensures ∙ ap quoted (c.as_str.ensures ∙ c.in_ok-name.ensures)))
    c.before_spec.ensures
    (ap (λ (j : Json). text_of (spec_with m j)) c.spec.ensures)
    c.before_stored.ensures))
