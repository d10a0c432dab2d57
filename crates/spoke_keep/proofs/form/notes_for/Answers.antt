use Rattle.std.proofs.Common.{◌∙◌, ap}
use Rattle.hub_cells.specs.Level.{Name}
use Rattle.kj_value.specs.Fields.{without_field}
use Rattle.keep_laws.specs.Keys.{hub_key}
use Rattle.keep_laws.specs.Notes.{with_note}
use Rattle.spoke_keep.proofs.form.notes_for.Goals as goal

pub returns-in-Ok-put_kept : goal.returns-in-Ok-put_kept
returns-in-Ok-put_kept c =
    let n = c.in-Ok-put_kept.ensures in
    (n.0, n.1, n.2 ∙ ap (λ (j : Name). with_note j n.0 c.remove.new.self) c.hub_key.ensures ∙ ap (with_note hub_key n.0) (c.remove.ensures.fields ∙ ap (without_field c.args.key.now) c.in-Ok.ensures))
