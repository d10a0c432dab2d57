use Rattle.std.proofs.Common.{◌≤◌, sym, subst}
use Rattle.kj_value.specs.Json.{Json, depth}
use Rattle.write_texts.proofs.StatusFields.{depth-deleted_status}
use Rattle.write_texts.proofs.deleted.deleted_text.Goals as goal

pub write-requires : goal.write-requires
write-requires g c =
    subst (λ (j : Json). depth j ≤ 100) (sym c.in_ok-status.ensures)
    (depth-deleted_status (g.V.Versions.meaning c.args.lent.now.versions.now) c.args.name.now c.in_ok-id.id.bytes)
