-- For private clauses: faults of a definition's calls, as a worker is told them.
use Rattle.api_calls.specs.declared.versions.ConvFault.{ConvFault}
use Rattle.api_calls.specs.declared.versions.ConvFault.TheVariants as converts
use Rattle.shared_api.specs.declared.step.WorkFault.{WorkFault}
use Rattle.shared_api.specs.declared.step.WorkFault.TheVariants as works

abbrev pub work_fault : ConvFault → WorkFault
work_fault converts.Tool = works.Converter
work_fault converts.NoMemory = works.NoMemory
