-- That a loaded definition may go to other threads, and be looked at by them: each of its parts may, from the lowest up.
use denote.Param.Send.{IsSend, IsSync, sendable}
use denote.Param.SendFields.{declared_send, declared_sync, variants_send, variants_sync}
use Rattle.std.proofs.Crossing.{crosses}
use Rattle.std.proofs.MapsCrossing as maps
use Rattle.kj_value.proofs.txt.Txt.TheSendSync as txt
use Rattle.kj_value.proofs.texts.TextList.TheSendSync as texts
use Rattle.kj_value.proofs.value.JFields.TheLaws.TheKnot as values
use Rattle.struct_schema.proofs.schema.SchemaBox.TheLaws.TheKnot as schemas
use Rattle.struct_schema.specs.contracts.places.Places as Places
use Rattle.struct_schema.specs.contracts.choices.Listed as Listed
use Rattle.struct_schema.specs.contracts.choices.Choices as Choices
use Rattle.struct_schema.specs.contracts.required.Required as Required
use Rattle.struct_schema.specs.contracts.schema.Schema as Schema
use Rattle.hub_cells.proofs.fitted.Fitted.TheLaws.TheKnot as fitteds
use Rattle.hub_cells.specs.contracts.cell.Name as Name
use Rattle.hub_cells.specs.contracts.cell.Names as Names
use Rattle.hub_cells.specs.contracts.cell.CellKind as CellKind
use Rattle.hub_cells.specs.contracts.cell.Cell as Cell
use Rattle.hub_cells.specs.contracts.fitted.Fitted as Fitted
use Rattle.hub_fills.proofs.fills.Fills.TheLaws.TheKnot as fills
use Rattle.hub_fills.specs.contracts.fills.Fills as Fills
use Rattle.spoke_keep.specs.contracts.spokes.Spoke as Spoke
use Rattle.spoke_keep.specs.contracts.spokes.Spokes as Spokes
use Rattle.crd_reading.specs.contracts.definition.Version as Version
use Rattle.crd_reading.specs.contracts.definition.Definition as Definition
use Rattle.crd_loading.specs.contracts.versions.LoadedVersions as LoadedVersions
use Rattle.crd_settings.proofs.pieces.Pieces.TheSendSync as pieces
use Rattle.crd_versions.specs.contracts.set.VersionSet as VersionSet

-- ---- to another thread

places_send : IsSend Places.the_row
places_send = search (sendable, crosses, maps.crosses) depth 60 fits 200000

places_sync : IsSync Places.the_row
places_sync = search (sendable, crosses, maps.crosses) depth 60 fits 200000

listed_send : IsSend Listed.the_row
listed_send = search (places_send, values.crosses, sendable, crosses) depth 60 fits 200000

listed_sync : IsSync Listed.the_row
listed_sync = search (places_sync, values.crosses, sendable, crosses) depth 60 fits 200000

choices_send : IsSend Choices.the_row
choices_send = search (listed_send, listed_sync, sendable, crosses) depth 60 fits 200000

schema_send : IsSend Schema.the_row
schema_send = search (schemas.crosses, values.crosses, choices_send, places_send, txt.the_send, texts.the_send, sendable, crosses, maps.crosses) depth 60 fits 200000

name_send : IsSend Name.the_row
name_send = declared_send Name.the_type (txt.the_send, (schema_send, (search sendable, tt)))

names_send : IsSend Names.the_row
names_send = variants_send Names.enum (tt, ((name_send, tt), ((name_send, (name_send, tt)), tt)))

kind_send : IsSend CellKind.the_row
kind_send = search (values.crosses, places_send, txt.the_send, sendable, crosses, maps.crosses) depth 60 fits 200000

cell_send : IsSend Cell.the_row
cell_send = declared_send Cell.the_type (names_send, (names_send, (kind_send, (search sendable, tt))))

fitted_send : IsSend Fitted.the_row
fitted_send = search (fitteds.crosses, cell_send, schema_send, txt.the_send, sendable, crosses, maps.crosses) depth 60 fits 200000

spoke_send : IsSend Spoke.the_row
spoke_send = search (fitted_send, txt.the_send, sendable, crosses, maps.crosses) depth 60 fits 200000

fills_send : IsSend Fills.the_row
fills_send = search (fills.crosses, values.crosses, sendable, crosses, maps.crosses) depth 60 fits 200000

spokes_send : IsSend Spokes.the_row
spokes_send = search (spoke_send, fills_send, txt.the_send, sendable, crosses, maps.crosses) depth 60 fits 200000

version_send : IsSend Version.the_row
version_send = declared_send Version.the_type (txt.the_send, (search sendable, (search sendable, (schema_send, tt))))

pub definition_send : IsSend Definition.the_row
definition_send = search (version_send, values.crosses, txt.the_send, sendable, crosses, maps.crosses) depth 60 fits 200000

loaded_send : IsSend LoadedVersions.the_row
loaded_send = search (definition_send, spokes_send, sendable, crosses, maps.crosses) depth 60 fits 200000

pub set_send : IsSend VersionSet.the_row
set_send = search (loaded_send, pieces.the_send, sendable, crosses, maps.crosses) depth 60 fits 200000

-- ---- by several

choices_sync : IsSync Choices.the_row
choices_sync = search (listed_send, listed_sync, sendable, crosses) depth 60 fits 200000

required_sync : IsSync Required.the_row
required_sync = search (places_sync, texts.the_sync, sendable, crosses) depth 60 fits 200000

schema_sync : IsSync Schema.the_row
schema_sync = search (schemas.crosses, values.crosses, choices_sync, required_sync, txt.the_sync, sendable, crosses, maps.crosses) depth 60 fits 200000

name_sync : IsSync Name.the_row
name_sync = declared_sync Name.the_type (txt.the_sync, (schema_sync, (search sendable, tt)))

names_sync : IsSync Names.the_row
names_sync = variants_sync Names.enum (tt, ((name_sync, tt), ((name_sync, (name_sync, tt)), tt)))

kind_sync : IsSync CellKind.the_row
kind_sync = search (values.crosses, places_sync, txt.the_sync, sendable, crosses, maps.crosses) depth 60 fits 200000

cell_sync : IsSync Cell.the_row
cell_sync = declared_sync Cell.the_type (names_sync, (names_sync, (kind_sync, (search sendable, tt))))

fitted_sync : IsSync Fitted.the_row
fitted_sync = search (fitteds.crosses, cell_sync, schema_sync, txt.the_sync, sendable, crosses, maps.crosses) depth 60 fits 200000

spoke_sync : IsSync Spoke.the_row
spoke_sync = search (fitted_sync, txt.the_sync, sendable, crosses, maps.crosses) depth 60 fits 200000

fills_sync : IsSync Fills.the_row
fills_sync = search (fills.crosses, values.crosses, sendable, crosses, maps.crosses) depth 60 fits 200000

spokes_sync : IsSync Spokes.the_row
spokes_sync = search (spoke_sync, fills_sync, txt.the_sync, sendable, crosses, maps.crosses) depth 60 fits 200000

version_sync : IsSync Version.the_row
version_sync = declared_sync Version.the_type (txt.the_sync, (search sendable, (search sendable, (schema_sync, tt))))

pub definition_sync : IsSync Definition.the_row
definition_sync = search (version_sync, values.crosses, txt.the_sync, sendable, crosses, maps.crosses) depth 60 fits 200000

loaded_sync : IsSync LoadedVersions.the_row
loaded_sync = search (definition_sync, spokes_sync, sendable, crosses, maps.crosses) depth 60 fits 200000

pub set_sync : IsSync VersionSet.the_row
set_sync = search (loaded_sync, pieces.the_sync, sendable, crosses, maps.crosses) depth 60 fits 200000
