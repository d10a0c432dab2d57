-- What follows of a restoring's outcome.
use Rattle.std.proofs.Common.{◌≡◌, ◌≢◌, ◌∙◌, ◌<◌, ℕ, List, refl, sym, arith}
use Rattle.edge_io.specs.Connections.{AddsOne}
use Rattle.edge_io.specs.Exchanges.{Exchange}
use Rattle.tcp_links.specs.Links.{Ending}
use Rattle.place.specs.Place.{Names}
use Rattle.record_dump.specs.Restores.{Restores, none_yet}
use Rattle.record_dump.specs.Told.{IsPosted}
use Rattle.record_dump.specs.declared.ends.RestoreEnd.TheVariants as restores
use Rattle.far_lines.specs.declared.end.LoadEnd.{LoadEnd}
use Rattle.far_lines.specs.declared.end.LoadEnd.TheVariants as loads
use Rattle.kubeconv_cmd.specs.World.{World, linked, linked_before, InputFails, OutputFails, OutputStays, Says}
use Rattle.kubeconv_cmd.specs.Remote.{LoadOutcome, restored, unloaded}
use Rattle.kubeconv_cmd.specs.Status.{bad_line, load_told, status_told}
use Rattle.kubeconv_cmd.specs.declared.status.TheConstants.{DONE, BAD_WORDS, BAD_INPUT, READ_FAILED, WRITE_FAILED, NO_MEMORY, CUT, TOO_MANY, LINK_FAILED, BAD_ANSWER}
use Rattle.run_laws.specs.Backups.{LoadedWhole}
use Rattle.run_laws.proofs.DumpLaws.{unplaced_never}

-- it ends with no other status
never : (n : ℕ) → n ≢ DONE → n ≢ LINK_FAILED → n ≢ READ_FAILED → n ≢ BAD_INPUT → n ≢ CUT → n ≢ TOO_MANY → n ≢ BAD_ANSWER → n ≢ NO_MEMORY → n ≢ WRITE_FAILED → (end : LoadEnd) → n ≡ status_told (load_told end) → ⊥
never n d l r i c t a m f (loads.Restored (restores.Done created present)) = d
never n d l r i c t a m f (loads.Restored restores.LinkFault) = l
never n d l r i c t a m f (loads.Restored restores.ReadFault) = r
never n d l r i c t a m f (loads.Restored (restores.BadLine number)) = i
never n d l r i c t a m f (loads.Restored (restores.Cut number)) = c
never n d l r i c t a m f (loads.Restored restores.TooMany) = t
never n d l r i c t a m f (loads.Restored (restores.Answer number code)) = a
never n d l r i c t a m f (loads.Restored restores.NoMemory) = m
never n d l r i c t a m f (loads.WriteFault created present) = f

pub load_never : (n : ℕ) → n ≢ DONE → n ≢ LINK_FAILED → n ≢ READ_FAILED → n ≢ BAD_INPUT → n ≢ CUT → n ≢ TOO_MANY → n ≢ BAD_ANSWER → n ≢ NO_MEMORY → n ≢ WRITE_FAILED → n ≢ BAD_WORDS
    → {F S K E A L I O : Type 0} (w : World F S K E A L I O) (url : List ℕ) (s : ℕ) → LoadOutcome w url s → s ≡ n → ⊥
load_never n d l r i c t a m f b w url s (restored end told at cause ended unwritten wrote silent) e = never n d l r i c t a m f end (sym e ∙ told.status_is)
load_never n d l r i c t a m f b w url s (unloaded u) e = unplaced_never n m b w url s u e

pub load_reading : {F S K E A L I O : Type 0} (w : World F S K E A L I O) (url : List ℕ) (s : ℕ) → LoadOutcome w url s → s ≡ READ_FAILED → InputFails w
load_reading w url s (restored (loads.Restored (restores.Done created present)) told at cause ended unwritten wrote silent) e = absurd (omega (arith, told.status_is, e))
load_reading w url s (restored (loads.Restored restores.LinkFault) told at cause ended unwritten wrote silent) e = absurd (omega (arith, told.status_is, e))
load_reading w url s (restored (loads.Restored restores.ReadFault) told at cause ended unwritten wrote silent) e = cause
load_reading w url s (restored (loads.Restored (restores.BadLine number)) told at cause ended unwritten wrote silent) e = absurd (omega (arith, told.status_is, e))
load_reading w url s (restored (loads.Restored (restores.Cut number)) told at cause ended unwritten wrote silent) e = absurd (omega (arith, told.status_is, e))
load_reading w url s (restored (loads.Restored restores.TooMany) told at cause ended unwritten wrote silent) e = absurd (omega (arith, told.status_is, e))
load_reading w url s (restored (loads.Restored (restores.Answer number code)) told at cause ended unwritten wrote silent) e = absurd (omega (arith, told.status_is, e))
load_reading w url s (restored (loads.Restored restores.NoMemory) told at cause ended unwritten wrote silent) e = absurd (omega (arith, told.status_is, e))
load_reading w url s (restored (loads.WriteFault created present) told at cause ended unwritten wrote silent) e = absurd (omega (arith, told.status_is, e))
load_reading w url s (unloaded u) e = absurd (unplaced_never READ_FAILED (λ e. omega (arith, e)) (λ e. omega (arith, e)) w url s u e)

pub load_writing : {F S K E A L I O : Type 0} (w : World F S K E A L I O) (url : List ℕ) (s : ℕ) → LoadOutcome w url s → s ≡ WRITE_FAILED → OutputFails w
load_writing w url s (restored (loads.Restored (restores.Done created present)) told at cause ended unwritten wrote silent) e = absurd (omega (arith, told.status_is, e))
load_writing w url s (restored (loads.Restored restores.LinkFault) told at cause ended unwritten wrote silent) e = absurd (omega (arith, told.status_is, e))
load_writing w url s (restored (loads.Restored restores.ReadFault) told at cause ended unwritten wrote silent) e = absurd (omega (arith, told.status_is, e))
load_writing w url s (restored (loads.Restored (restores.BadLine number)) told at cause ended unwritten wrote silent) e = absurd (omega (arith, told.status_is, e))
load_writing w url s (restored (loads.Restored (restores.Cut number)) told at cause ended unwritten wrote silent) e = absurd (omega (arith, told.status_is, e))
load_writing w url s (restored (loads.Restored restores.TooMany) told at cause ended unwritten wrote silent) e = absurd (omega (arith, told.status_is, e))
load_writing w url s (restored (loads.Restored (restores.Answer number code)) told at cause ended unwritten wrote silent) e = absurd (omega (arith, told.status_is, e))
load_writing w url s (restored (loads.Restored restores.NoMemory) told at cause ended unwritten wrote silent) e = absurd (omega (arith, told.status_is, e))
load_writing w url s (restored (loads.WriteFault created present) told at cause ended unwritten wrote silent) e = unwritten
load_writing w url s (unloaded u) e = absurd (unplaced_never WRITE_FAILED (λ e. omega (arith, e)) (λ e. omega (arith, e)) w url s u e)

-- the status of a link that failed has a link whose count rose
pub load_linking : {F S K E A L I O : Type 0} (w : World F S K E A L I O) (url : List ℕ) (s : ℕ) → LoadOutcome w url s → s ≡ LINK_FAILED → (e : Ending) × AddsOne (linked_before w) (linked w) e × (0 < e.faults)
load_linking w url s (restored (loads.Restored (restores.Done created present)) told at cause ended unwritten wrote silent) e = absurd (omega (arith, told.status_is, e))
load_linking w url s (restored (loads.Restored restores.LinkFault) told at cause ended unwritten wrote silent) e = (at.loaded.ending, at.loaded.back, at.loaded.broke refl)
load_linking w url s (restored (loads.Restored restores.ReadFault) told at cause ended unwritten wrote silent) e = absurd (omega (arith, told.status_is, e))
load_linking w url s (restored (loads.Restored (restores.BadLine number)) told at cause ended unwritten wrote silent) e = absurd (omega (arith, told.status_is, e))
load_linking w url s (restored (loads.Restored (restores.Cut number)) told at cause ended unwritten wrote silent) e = absurd (omega (arith, told.status_is, e))
load_linking w url s (restored (loads.Restored restores.TooMany) told at cause ended unwritten wrote silent) e = absurd (omega (arith, told.status_is, e))
load_linking w url s (restored (loads.Restored (restores.Answer number code)) told at cause ended unwritten wrote silent) e = absurd (omega (arith, told.status_is, e))
load_linking w url s (restored (loads.Restored restores.NoMemory) told at cause ended unwritten wrote silent) e = absurd (omega (arith, told.status_is, e))
load_linking w url s (restored (loads.WriteFault created present) told at cause ended unwritten wrote silent) e = absurd (omega (arith, told.status_is, e))
load_linking w url s (unloaded u) e = absurd (unplaced_never LINK_FAILED (λ e. omega (arith, e)) (λ e. omega (arith, e)) w url s u e)

-- with a status that stands for no numbers it writes nothing
pub load_silent : {F S K E A L I O : Type 0} (w : World F S K E A L I O) (url : List ℕ) (s : ℕ) → LoadOutcome w url s → s ≢ DONE → s ≢ WRITE_FAILED → OutputStays w
load_silent w url s (restored (loads.Restored (restores.Done created present)) told at cause ended unwritten wrote silent) d f = absurd (d told.status_is)
load_silent w url s (restored (loads.Restored restores.LinkFault) told at cause ended unwritten wrote silent) d f = silent
load_silent w url s (restored (loads.Restored restores.ReadFault) told at cause ended unwritten wrote silent) d f = silent
load_silent w url s (restored (loads.Restored (restores.BadLine number)) told at cause ended unwritten wrote silent) d f = silent
load_silent w url s (restored (loads.Restored (restores.Cut number)) told at cause ended unwritten wrote silent) d f = silent
load_silent w url s (restored (loads.Restored restores.TooMany) told at cause ended unwritten wrote silent) d f = silent
load_silent w url s (restored (loads.Restored (restores.Answer number code)) told at cause ended unwritten wrote silent) d f = silent
load_silent w url s (restored (loads.Restored restores.NoMemory) told at cause ended unwritten wrote silent) d f = silent
load_silent w url s (restored (loads.WriteFault created present) told at cause ended unwritten wrote silent) d f = absurd (f told.status_is)
load_silent w url s (unloaded u) d f = u.silent

-- a restoring that is done read the whole input and posted each line, and its numbers were written
pub load_done : ((n : Names) (bytes : List ℕ) (es : List Exchange) (c p : ℕ) → Restores n none_yet bytes es (restores.Done c p) → IsPosted n bytes es c p)
    → {F S K E A L I O : Type 0} (w : World F S K E A L I O) (url : List ℕ) (s : ℕ) → LoadOutcome w url s → s ≡ DONE → LoadedWhole w url
load_done all w url s (restored (loads.Restored (restores.Done created present)) told at cause ended unwritten wrote silent) e =
    record {
      place = at.place;
      is = at.is;
      ending = at.loaded.ending;
      back = at.loaded.back;
      exchanges = at.loaded.exchanges;
      made = at.loaded.made;
      bytes = at.loaded.bytes;
      read = at.loaded.read;
      end = ended;
      created = created;
      present = present;
      posted = all at.place.names at.loaded.bytes at.loaded.exchanges created present at.loaded.restores;
      wrote = wrote.0;
      handed_on = wrote.1;
    }
load_done all w url s (restored (loads.Restored restores.LinkFault) told at cause ended unwritten wrote silent) e = absurd (omega (arith, told.status_is, e))
load_done all w url s (restored (loads.Restored restores.ReadFault) told at cause ended unwritten wrote silent) e = absurd (omega (arith, told.status_is, e))
load_done all w url s (restored (loads.Restored (restores.BadLine number)) told at cause ended unwritten wrote silent) e = absurd (omega (arith, told.status_is, e))
load_done all w url s (restored (loads.Restored (restores.Cut number)) told at cause ended unwritten wrote silent) e = absurd (omega (arith, told.status_is, e))
load_done all w url s (restored (loads.Restored restores.TooMany) told at cause ended unwritten wrote silent) e = absurd (omega (arith, told.status_is, e))
load_done all w url s (restored (loads.Restored (restores.Answer number code)) told at cause ended unwritten wrote silent) e = absurd (omega (arith, told.status_is, e))
load_done all w url s (restored (loads.Restored restores.NoMemory) told at cause ended unwritten wrote silent) e = absurd (omega (arith, told.status_is, e))
load_done all w url s (restored (loads.WriteFault created present) told at cause ended unwritten wrote silent) e = absurd (omega (arith, told.status_is, e))
load_done all w url s (unloaded u) e = absurd (unplaced_never DONE (λ e. omega (arith, e)) (λ e. omega (arith, e)) w url s u e)

-- a line that is refused has its number on the error stream
pub load_refused : {F S K E A L I O : Type 0} (w : World F S K E A L I O) (url : List ℕ) (s : ℕ) → LoadOutcome w url s → s ≡ BAD_INPUT → (number : ℕ) × Says w (bad_line number)
load_refused w url s (restored (loads.Restored (restores.Done created present)) told at cause ended unwritten wrote silent) e = absurd (omega (arith, told.status_is, e))
load_refused w url s (restored (loads.Restored restores.LinkFault) told at cause ended unwritten wrote silent) e = absurd (omega (arith, told.status_is, e))
load_refused w url s (restored (loads.Restored restores.ReadFault) told at cause ended unwritten wrote silent) e = absurd (omega (arith, told.status_is, e))
load_refused w url s (restored (loads.Restored (restores.BadLine number)) told at cause ended unwritten wrote silent) e = (number, told.says)
load_refused w url s (restored (loads.Restored (restores.Cut number)) told at cause ended unwritten wrote silent) e = absurd (omega (arith, told.status_is, e))
load_refused w url s (restored (loads.Restored restores.TooMany) told at cause ended unwritten wrote silent) e = absurd (omega (arith, told.status_is, e))
load_refused w url s (restored (loads.Restored (restores.Answer number code)) told at cause ended unwritten wrote silent) e = absurd (omega (arith, told.status_is, e))
load_refused w url s (restored (loads.Restored restores.NoMemory) told at cause ended unwritten wrote silent) e = absurd (omega (arith, told.status_is, e))
load_refused w url s (restored (loads.WriteFault created present) told at cause ended unwritten wrote silent) e = absurd (omega (arith, told.status_is, e))
load_refused w url s (unloaded u) e = absurd (unplaced_never BAD_INPUT (λ e. omega (arith, e)) (λ e. omega (arith, e)) w url s u e)
