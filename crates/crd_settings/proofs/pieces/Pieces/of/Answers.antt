use Rattle.std.proofs.Common.{List, length, map, ap, ◌∙◌}
use Rattle.kj_value.specs.Text.{quoted}
use Rattle.kj_value.specs.Texts.{bytes_of}
use Rattle.crd_reading.specs.View.{VersionView}
use Rattle.crd_settings.specs.Shown.{unmarked}
use Rattle.crd_settings.specs.Pieces.{joined}
use Rattle.crd_settings.proofs.Room.{longest-text}
use Rattle.crd_settings.proofs.pieces.Pieces.of.Goals as goal

pub returns : goal.returns
returns c =
    let names = c.in_ok-names.ensures ∙ ap (λ (vs : List VersionView). map (λ (v : VersionView). quoted v.name) vs) c.versions.ensures.value in
    record {
      text = c.in_ok-parts.ensures;
      names = names;
      room =
          c.len-room.ensures
          ∙ (ap length (c.in_ok-longest.ensures ∙ (λ i. joined unmarked (c.as_slice.ensures.value i) (map bytes_of (c.as_slice-2.ensures.value i))))
          ∙ longest-text c.args.definition.now c.in_ok-parts.parts.items (map bytes_of c.in_ok-names.names.items) c.in_ok-parts.ensures names);
    }
