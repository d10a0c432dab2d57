-- What an answer that gives nothing means: the first refusal, or want of memory.
use Rattle.std.specs.Prelude.{Option}
use Rattle.hub_rules.specs.Refusal.{Fault}
use Rattle.hub_rules.specs.Told.{NamesFitFault}
use Rattle.hub_rules.specs.declared.refusal.FitFault.{FitFault}
use Rattle.hub_rules.specs.declared.refusal.FitFault.TheVariants.{NameTwice, NameMissing, SchemaDiffers, UnpairedDefault, RequiredLost, RangeLost, NoMemory}

abbrev pub RefusesFit : Option Fault → FitFault → Type 0
RefusesFit o (NameTwice path) = NamesFitFault o (NameTwice path)
RefusesFit o (NameMissing path) = NamesFitFault o (NameMissing path)
RefusesFit o (SchemaDiffers path) = NamesFitFault o (SchemaDiffers path)
RefusesFit o (UnpairedDefault path) = NamesFitFault o (UnpairedDefault path)
RefusesFit o (RequiredLost path) = NamesFitFault o (RequiredLost path)
RefusesFit o (RangeLost path) = NamesFitFault o (RangeLost path)
RefusesFit o NoMemory = Unit {0}
