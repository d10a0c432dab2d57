use Rattle.std.specs.Prelude.{option_map}
use Rattle.kj_value.specs.Texts.{bytes_of}
use Rattle.spoke_keep.proofs.Steps.{on_ok}
use Rattle.spoke_keep.proofs.notes.put_kept.Goals as goal

pub returns-in-Ok : goal.returns-in-Ok
returns-in-Ok c = on_ok c.put_note.result (λ e. (option_map bytes_of c.in-Ok.note, c.in-Ok.ensures, e)) c.put_note.ensures
