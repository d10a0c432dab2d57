use Rattle.std.proofs.Common.{◌≡◌, [], ◌++◌, List, map, refl, sym, subst}
use Rattle.std.specs.Prelude.{OnOk}
use Rattle.kept_entries.specs.declared.entry.Entry.{Entry}
use Rattle.hub_cells.specs.Side.{other}
use Rattle.hub_cells.specs.Level.{names}
use Rattle.hub_cells.specs.Seen.{side, cell}
use Rattle.keep_laws.specs.Entry.{put}
use Rattle.keep_laws.specs.Body.{entry_of}
use Rattle.keep_bodies.specs.inner.Left.{entries_left}
use Rattle.keep_bodies.specs.inner.Names.{name_list}
use Rattle.keep_bodies.specs.inner.Turned.{turned}
use Rattle.keep_bodies.specs.inner.Over.{mark_over}
use Rattle.keep_bodies.proofs.Tests.{same_fields, same_entries, none_left}
use Rattle.keep_bodies.proofs.crossing.cross_cell.Goals as goal

pub returns-then-is_same-clause-fields : goal.returns-then-is_same-clause-fields
returns-then-is_same-clause-fields c =
    same_fields c.copy_over.result (side c.args.from) (side c.other.result) (cell c.args.c.now) c.args.x.now c.args.fields.now c.copy_over.new.into (entries_left c.args.kept.now) (name_list c.names_on.result.now) (name_list c.names_on-then-is_same.result.now) (c.if-is_same.ensures refl) c.names_on.ensures c.other.ensures c.names_on-then-is_same.ensures c.copy_over.ensures

pub returns-then-is_same-clause-entries : goal.returns-then-is_same-clause-entries
returns-then-is_same-clause-entries c =
    same_entries c.copy_over.result (side c.args.from) (cell c.args.c.now) c.args.x.now (entries_left c.args.kept.now) (map turned c.args.entries.now.items) (c.if-is_same.ensures refl)

pub returns-then-is_empty-clause-fields : goal.returns-then-is_empty-clause-fields
returns-then-is_empty-clause-fields c =
    let d = side c.args.from in
    let k = cell c.args.c.now in
    subst (λ (es : List Entry). OnOk c.cross_bare.result (c.cross_bare.new.fields ≡ put (names (other d) k) (mark_over d k c.args.x.now es).0 c.args.fields.now)) (sym (none_left c.args.kept.now c.if-is_empty.ensures)) c.cross_bare.ensures.fields

pub returns-then-is_empty-clause-entries : goal.returns-then-is_empty-clause-entries
returns-then-is_empty-clause-entries c =
    let d = side c.args.from in
    let k = cell c.args.c.now in
    subst (λ (es : List Entry). OnOk c.cross_bare.result (map turned c.cross_bare.new.entries.items ≡ map turned c.args.entries.now.items ++ entry_of (names d k) (mark_over d k c.args.x.now es).1 [])) (sym (none_left c.args.kept.now c.if-is_empty.ensures))
    c.cross_bare.ensures.entries

pub returns-clause-fields : goal.returns-clause-fields
returns-clause-fields c = c.cross_kept.ensures.fields

pub returns-clause-entries : goal.returns-clause-entries
returns-clause-entries c = c.cross_kept.ensures.entries
