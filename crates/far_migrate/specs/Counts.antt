-- What becomes of the objects of a list that are put back, and how many there are of each kind.
use Rattle.std.specs.Prelude.{◌≡◌, ◌+◌, ⊤, ℕ}
use Rattle.far_migrate.specs.declared.tally.Tally.{Tally}
use Rattle.far_migrate.specs.declared.tally.FarFault.{FarFault}
use Rattle.far_migrate.specs.declared.tally.FarFault.TheVariants as faults

-- of one object
pub data Kind : Type 0 where
  -- the put was answered with another number, or with the same
  written unchanged : Kind
  -- a put, or a get after a put that was refused, was answered that nothing is there
  gone : Kind
  -- four puts were refused since the object had changed
  contested : Kind

-- how many objects the pages of a list have had, and what became of them
pub record Counts : Type 0 where
  pub listed : ℕ
  pub written : ℕ
  pub unchanged : ℕ
  pub gone : ℕ
  pub contested : ℕ

abbrev pub nothing : Counts
nothing = record { listed = 0; written = 0; unchanged = 0; gone = 0; contested = 0 }

-- a page of so many
abbrev pub with_page : ℕ → Counts → Counts
with_page n t = record t { listed = t.listed + n }

-- one more of that kind
abbrev pub counted : Kind → Counts → Counts
counted written t = record t { written = t.written + 1 }
counted unchanged t = record t { unchanged = t.unchanged + 1 }
counted gone t = record t { gone = t.gone + 1 }
counted contested t = record t { contested = t.contested + 1 }

-- all objects that were listed were put back
abbrev pub AddsUp : Counts → Type 0
AddsUp t = t.listed ≡ t.written + t.unchanged + t.gone + t.contested

abbrev pub counts_of : Tally → Counts
counts_of t = record { listed = t.listed; written = t.written; unchanged = t.unchanged; gone = t.gone; contested = t.contested }

-- why there is no tally
pub data Fault : Type 0 where
  -- an exchange failed
  link : Fault
  -- an answer for which there is no rule, by its code; 0 where it has another form, order or length
  answer : ℕ → Fault
  -- seventeen lists were answered that their tokens are too old
  restarted : Fault
  -- want of memory
  memory : Fault

abbrev pub fault_of : FarFault → Fault
fault_of faults.LinkFault = link
fault_of (faults.Answer code) = answer code
fault_of faults.Restarted = restarted
fault_of faults.NoMemory = memory

-- P holds where the exchange failed
abbrev pub OnLink : Type 0 → FarFault → Type 0
OnLink P faults.LinkFault = P
OnLink P (faults.Answer c) = ⊤
OnLink P faults.Restarted = ⊤
OnLink P faults.NoMemory = ⊤
