-- What follows of a dump's outcome.
use Rattle.std.proofs.Common.{◌≡◌, ◌≢◌, ◌∙◌, ◌<◌, ℕ, List, refl, sym, arith}
use Rattle.edge_io.specs.Connections.{AddsOne}
use Rattle.edge_io.specs.Exchanges.{Exchange}
use Rattle.tcp_links.specs.Links.{Ending}
use Rattle.place.specs.Place.{Names}
use Rattle.place.specs.declared.PlaceFault.{PlaceFault}
use Rattle.place.specs.declared.PlaceFault.TheVariants as places
use Rattle.record_dump.specs.Dumps.{Dumps, at_first}
use Rattle.record_dump.specs.Told.{IsWhole}
use Rattle.record_dump.specs.declared.ends.DumpEnd.{DumpEnd}
use Rattle.record_dump.specs.declared.ends.DumpEnd.TheVariants as dumps
use Rattle.kubeconv_cmd.specs.World.{World, linked, linked_before, OutputFails}
use Rattle.kubeconv_cmd.specs.Remote.{DumpOutcome, dumped, undumped, Unplaced}
use Rattle.kubeconv_cmd.specs.Status.{dump_told, place_told, status_told}
use Rattle.kubeconv_cmd.specs.declared.status.TheConstants.{DONE, BAD_WORDS, WRITE_FAILED, NO_MEMORY, LINK_FAILED, BAD_ANSWER, UNSETTLED}
use Rattle.run_laws.specs.Backups.{DumpedWhole}

-- where no place was had there are two statuses
place_never : (n : ℕ) → n ≢ NO_MEMORY → n ≢ BAD_WORDS → (fault : PlaceFault) → n ≡ status_told (place_told fault) → ⊥
place_never n m b places.BadPlace = b
place_never n m b places.NoMemory = m

pub unplaced_never : (n : ℕ) → n ≢ NO_MEMORY → n ≢ BAD_WORDS → {F S K E A L I O : Type 0} (w : World F S K E A L I O) (url : List ℕ) (s : ℕ) → Unplaced w url s → s ≡ n → ⊥
unplaced_never n m b w url s u e = place_never n m b u.fault (sym e ∙ u.is_told.status_is)

-- it ends with no other status
never : (n : ℕ) → n ≢ DONE → n ≢ LINK_FAILED → n ≢ WRITE_FAILED → n ≢ BAD_ANSWER → n ≢ UNSETTLED → n ≢ NO_MEMORY → (end : DumpEnd) → n ≡ status_told (dump_told end) → ⊥
never n d l f a u m (dumps.Done lines) = d
never n d l f a u m dumps.LinkFault = l
never n d l f a u m dumps.WriteFault = f
never n d l f a u m (dumps.Answer code) = a
never n d l f a u m dumps.Expired = u
never n d l f a u m dumps.NoMemory = m

pub dump_never : (n : ℕ) → n ≢ DONE → n ≢ LINK_FAILED → n ≢ WRITE_FAILED → n ≢ BAD_ANSWER → n ≢ UNSETTLED → n ≢ NO_MEMORY → n ≢ BAD_WORDS
    → {F S K E A L I O : Type 0} (w : World F S K E A L I O) (url : List ℕ) (s : ℕ) → DumpOutcome w url s → s ≡ n → ⊥
dump_never n d l f a u m b w url s (dumped end told at cause handed broken) e = never n d l f a u m end (sym e ∙ told.status_is)
dump_never n d l f a u m b w url s (undumped v) e = unplaced_never n m b w url s v e

pub dump_writing : {F S K E A L I O : Type 0} (w : World F S K E A L I O) (url : List ℕ) (s : ℕ) → DumpOutcome w url s → s ≡ WRITE_FAILED → OutputFails w
dump_writing w url s (dumped (dumps.Done lines) told at cause handed broken) e = absurd (omega (arith, told.status_is, e))
dump_writing w url s (dumped dumps.LinkFault told at cause handed broken) e = absurd (omega (arith, told.status_is, e))
dump_writing w url s (dumped dumps.WriteFault told at cause handed broken) e = cause
dump_writing w url s (dumped (dumps.Answer code) told at cause handed broken) e = absurd (omega (arith, told.status_is, e))
dump_writing w url s (dumped dumps.Expired told at cause handed broken) e = absurd (omega (arith, told.status_is, e))
dump_writing w url s (dumped dumps.NoMemory told at cause handed broken) e = absurd (omega (arith, told.status_is, e))
dump_writing w url s (undumped u) e = absurd (unplaced_never WRITE_FAILED (λ e. omega (arith, e)) (λ e. omega (arith, e)) w url s u e)

-- the status of a link that failed has a link whose count rose
pub dump_linking : {F S K E A L I O : Type 0} (w : World F S K E A L I O) (url : List ℕ) (s : ℕ) → DumpOutcome w url s → s ≡ LINK_FAILED → (e : Ending) × AddsOne (linked_before w) (linked w) e × (0 < e.faults)
dump_linking w url s (dumped (dumps.Done lines) told at cause handed broken) e = absurd (omega (arith, told.status_is, e))
dump_linking w url s (dumped dumps.LinkFault told at cause handed broken) e = (at.dumped.ending, at.dumped.back, at.dumped.broke refl)
dump_linking w url s (dumped dumps.WriteFault told at cause handed broken) e = absurd (omega (arith, told.status_is, e))
dump_linking w url s (dumped (dumps.Answer code) told at cause handed broken) e = absurd (omega (arith, told.status_is, e))
dump_linking w url s (dumped dumps.Expired told at cause handed broken) e = absurd (omega (arith, told.status_is, e))
dump_linking w url s (dumped dumps.NoMemory told at cause handed broken) e = absurd (omega (arith, told.status_is, e))
dump_linking w url s (undumped u) e = absurd (unplaced_never LINK_FAILED (λ e. omega (arith, e)) (λ e. omega (arith, e)) w url s u e)

-- a dump that is done is one whole list
pub dump_done : ((n : Names) (es : List Exchange) (bytes : List ℕ) (k : ℕ) → Dumps n at_first es bytes (dumps.Done k) → IsWhole n es bytes k)
    → {F S K E A L I O : Type 0} (w : World F S K E A L I O) (url : List ℕ) (s : ℕ) → DumpOutcome w url s → s ≡ DONE → DumpedWhole w url
dump_done one w url s (dumped (dumps.Done lines) told at cause handed broken) e =
    record {
      place = at.place;
      is = at.is;
      ending = at.dumped.ending;
      back = at.dumped.back;
      exchanges = at.dumped.exchanges;
      made = at.dumped.made;
      bytes = at.dumped.bytes;
      count = lines;
      whole = one at.place.names at.dumped.exchanges at.dumped.bytes lines at.dumped.dumps;
      wrote = at.dumped.wrote;
      handed_on = handed;
    }
dump_done one w url s (dumped dumps.LinkFault told at cause handed broken) e = absurd (omega (arith, told.status_is, e))
dump_done one w url s (dumped dumps.WriteFault told at cause handed broken) e = absurd (omega (arith, told.status_is, e))
dump_done one w url s (dumped (dumps.Answer code) told at cause handed broken) e = absurd (omega (arith, told.status_is, e))
dump_done one w url s (dumped dumps.Expired told at cause handed broken) e = absurd (omega (arith, told.status_is, e))
dump_done one w url s (dumped dumps.NoMemory told at cause handed broken) e = absurd (omega (arith, told.status_is, e))
dump_done one w url s (undumped u) e = absurd (unplaced_never DONE (λ e. omega (arith, e)) (λ e. omega (arith, e)) w url s u e)
