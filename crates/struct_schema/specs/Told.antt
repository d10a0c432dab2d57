-- How a fault is told by an answer: by its path as text and its rule, or where memory ran out by want of memory alone.
use Rattle.std.specs.Prelude.{◌≡◌, Option, Some, None}
use Rattle.struct_schema.specs.Path.{path_text, starts_named}
use Rattle.struct_schema.specs.Fault.{Fault}
use Rattle.struct_schema.specs.declared.trouble.CheckFault.{CheckFault}
use Rattle.struct_schema.specs.declared.trouble.CheckFault.TheVariants.{Broken, NoMemory}
use Rattle.struct_schema.specs.declared.trouble.Stop.{Stop}
use Rattle.struct_schema.specs.declared.trouble.Stop.TheVariants.{Found, Starved}

-- there is a fault, and it is this one unless memory ran out
abbrev pub NamesCheckFault : Option Fault → CheckFault → Type 0
NamesCheckFault None e = ⊥
NamesCheckFault (Some f) (Broken path rule) = (path.bytes ≡ path_text f.path) × (rule ≡ f.rule)
NamesCheckFault (Some f) NoMemory = Unit {0}

-- for private clauses: the same on the way out of the walk
abbrev pub StopsCheck : Option Fault → Stop → Type 0
StopsCheck None e = ⊥
StopsCheck (Some f) (Found b) =
    (b.path.bytes ≡ path_text f.path) × (b.named ≡ starts_named f.path) × (b.rule ≡ f.rule)
StopsCheck (Some f) Starved = Unit {0}
