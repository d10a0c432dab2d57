-- What a version of the program is.
use Rattle.struct_schema.specs.ShapeOf.{shape_of}
use Rattle.crd_reading.specs.View.{VersionView}
use Rattle.crd_reading.specs.declared.definition.Version.{Version}

abbrev pub version_of : Version → VersionView
version_of v =
    record { name = v.name.bytes; served = v.served; storage = v.storage; schema = shape_of v.schema }
