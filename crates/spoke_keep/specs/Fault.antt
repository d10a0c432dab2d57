-- Which annotation a fault names.
use Rattle.std.specs.Prelude.{◌≡◌, ℕ, List, Bool, false, Option, None, Some, slice_get}
use Rattle.kube_meta.specs.View.{Texts}
use Rattle.kept_entries.specs.declared.entry.Entry.{Entry}
use Rattle.kept_entries.specs.Text.{IsKept}
use Rattle.hub_cells.specs.Level.{Name}
use Rattle.keep_laws.specs.Spokes.{Spoke, Spokes}
use Rattle.keep_laws.specs.Keys.{KeyKind}
use Rattle.keep_laws.specs.Over.{IsRead, IsFirstBad}
use Rattle.spoke_keep.specs.declared.fault.KeepFault.{KeepFault}
use Rattle.spoke_keep.specs.declared.fault.KeepFault.TheVariants.{BadKept, NoMemory}

-- the first by key that is read, on the side `own`, and spells no entries; want of memory may come for any
abbrev pub IsFaultOf : Spokes → Option Name → Texts → KeepFault → Type 0
IsFaultOf all own ns (BadKept a) = IsFirstBad all own ns a.bytes
IsFaultOf all own ns NoMemory = Unit {0}

-- the same of an object at a place
abbrev pub IsFaultAt : Spokes → Option ℕ → Texts → KeepFault → Type 0
IsFaultAt all None ns e = IsFaultOf all None ns e
IsFaultAt all (Some v) ns e = (s : Spoke) → slice_get all.items v ≡ Some s → IsFaultOf all (Some s.name) ns e

-- ---- for private clauses

abbrev pub IsNoKeptText : Name → Type 0
IsNoKeptText t = (es : List Entry) → IsKept t es → ⊥

abbrev pub IsBadText : Name → Name → KeepFault → Type 0
IsBadText k t (BadKept a) = (a.bytes ≡ k) × IsNoKeptText t
IsBadText k t NoMemory = Unit {0}

abbrev pub IsBadNote : Name → Name → Option Name → Type 0
IsBadNote a k None = ⊥
IsBadNote a k (Some t) = (a ≡ k) × IsNoKeptText t

abbrev pub IsBadAt : Name → Option Name → KeepFault → Type 0
IsBadAt k o (BadKept a) = IsBadNote a.bytes k o
IsBadAt k o NoMemory = Unit {0}

abbrev pub IsBadOther : Bool → Name → Name → KeepFault → Type 0
IsBadOther own k t (BadKept a) = (a.bytes ≡ k) × IsNoKeptText t × (own ≡ false)
IsBadOther own k t NoMemory = Unit {0}

abbrev pub IsBadRead : Option Name → KeyKind → Name → Name → KeepFault → Type 0
IsBadRead own c k t (BadKept a) = (a.bytes ≡ k) × IsNoKeptText t × IsRead own c
IsBadRead own c k t NoMemory = Unit {0}
