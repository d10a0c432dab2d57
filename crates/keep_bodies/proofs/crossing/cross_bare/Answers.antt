use Rattle.std.proofs.Common.{◌∷◌, [], Some, map, ap, ◌∙◌}
use Rattle.kj_value.specs.Seen.{json}
use Rattle.hub_cells.specs.Seen.{side, cell}
use Rattle.hub_cells.specs.Level.{allows}
use Rattle.keep_bodies.specs.inner.Names.{name_list}
use Rattle.keep_bodies.specs.inner.Turned.{turned}
use Rattle.keep_bodies.proofs.Tests.{one_here, one_absent, none_absent, absent_fields, absent_entries}
use Rattle.keep_bodies.proofs.crossing.cross_bare.Goals as goal

pub cross_values-requires : goal.cross_values-requires
cross_values-requires c =
    c.allowed_crosses.ensures (cell c.args.c.now) (side c.args.from) (Some (json c.in_ok-copy-in-Some.field-0) ∷ []) c.requires.fits (ap (allows (side c.args.from) (cell c.args.c.now)) (one_here (side c.args.from) (cell c.args.c.now) c.args.x.now (name_list c.names_on-own.result.now) c.in-One.n.text.bytes c.as_str.result.now _ _ c.names_on-own.ensures (ap name_list c.in-One.is) c.as_str.ensures c.in-Some.ensures c.in_ok-copy-in-Some.ensures) ∙ c.requires.allowed)

pub returns-in-Empty-clause-fields : goal.returns-in-Empty-clause-fields
returns-in-Empty-clause-fields c =
    absent_fields (side c.args.from) (cell c.args.c.now) c.args.x.now c.args.fields.now c.requires.fits (none_absent (side c.args.from) (cell c.args.c.now) c.args.x.now (name_list c.names_on-own.result.now) c.names_on-own.ensures (ap name_list c.in-Empty.is))

pub returns-in-Empty-clause-entries : goal.returns-in-Empty-clause-entries
returns-in-Empty-clause-entries c =
    absent_entries (side c.args.from) (cell c.args.c.now) c.args.x.now (map turned c.args.entries.now.items) c.requires.fits (none_absent (side c.args.from) (cell c.args.c.now) c.args.x.now (name_list c.names_on-own.result.now) c.names_on-own.ensures (ap name_list c.in-Empty.is))

pub returns-in-None-clause-fields : goal.returns-in-None-clause-fields
returns-in-None-clause-fields c =
    absent_fields (side c.args.from) (cell c.args.c.now) c.args.x.now c.args.fields.now c.requires.fits (one_absent (side c.args.from) (cell c.args.c.now) c.args.x.now (name_list c.names_on-own.result.now) c.in-One.n.text.bytes c.as_str.result.now c.names_on-own.ensures (ap name_list c.in-One.is) c.as_str.ensures c.in-None.ensures)

pub returns-in-None-clause-entries : goal.returns-in-None-clause-entries
returns-in-None-clause-entries c =
    absent_entries (side c.args.from) (cell c.args.c.now) c.args.x.now (map turned c.args.entries.now.items) c.requires.fits (one_absent (side c.args.from) (cell c.args.c.now) c.args.x.now (name_list c.names_on-own.result.now) c.in-One.n.text.bytes c.as_str.result.now c.names_on-own.ensures (ap name_list c.in-One.is) c.as_str.ensures c.in-None.ensures)
