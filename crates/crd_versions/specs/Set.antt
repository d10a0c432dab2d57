-- What the versions of a definition show.
use Rattle.crd_meaning.specs.Definition.{Definition}
use Rattle.crd_versions.specs.declared.set.VersionSet.{VersionSet}

-- the definition that was loaded
abbrev pub definition_of : VersionSet → Definition
definition_of s = s.set
