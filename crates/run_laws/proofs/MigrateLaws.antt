-- What follows of a migration's outcome.
use Rattle.std.proofs.Common.{◌≡◌, ◌≢◌, ◌∙◌, ◌<◌, ℕ, List, Option, refl, sym, subst, arith}
use Rattle.edge_io.specs.Connections.{AddsOne}
use Rattle.tcp_links.specs.Links.{Ending}
use Rattle.far_migrate.specs.declared.tally.FarFault.{FarFault}
use Rattle.far_migrate.specs.declared.tally.FarFault.TheVariants as faults
use Rattle.far_migrate.specs.Counts.{fault_of}
use Rattle.far_migrate.specs.Puts.{failed}
use Rattle.far_lines.specs.Migrated.{Migrated}
use Rattle.far_lines.specs.Ends.{CameOf, IfSilent, OnUnwritten, at_place, broke, fault_end, placeless, put_back, unmade, unread}
use Rattle.far_lines.specs.declared.end.MigrateEnd.{MigrateEnd}
use Rattle.far_lines.specs.declared.end.MigrateEnd.TheVariants as migrated
use Rattle.kubeconv_cmd.specs.World.{World, flushed, linked, linked_before, written, written_before, OutputFails, OutputStays}
use Rattle.kubeconv_cmd.specs.Remote.{MigrateOutcome}
use Rattle.kubeconv_cmd.specs.Status.{migration_told, status_told}
use Rattle.kubeconv_cmd.specs.declared.status.TheConstants.{DONE, BAD_WORDS, WRITE_FAILED, NO_MEMORY, LINK_FAILED, BAD_ANSWER, UNSETTLED}

-- it ends with no other status
never : (n : ℕ) → n ≢ DONE → n ≢ UNSETTLED → n ≢ WRITE_FAILED → n ≢ BAD_ANSWER → n ≢ LINK_FAILED → n ≢ NO_MEMORY → n ≢ BAD_WORDS → (end : MigrateEnd) → n ≡ status_told (migration_told end) → ⊥
never n d u f a l m b migrated.Done = d
never n d u f a l m b migrated.Contested = u
never n d u f a l m b migrated.BadPlace = b
never n d u f a l m b migrated.LinkFault = l
never n d u f a l m b (migrated.Answer code) = a
never n d u f a l m b migrated.Restarted = u
never n d u f a l m b migrated.WriteFault = f
never n d u f a l m b migrated.NoMemory = m

pub migrate_never : (n : ℕ) → n ≢ DONE → n ≢ UNSETTLED → n ≢ WRITE_FAILED → n ≢ BAD_ANSWER → n ≢ LINK_FAILED → n ≢ NO_MEMORY → n ≢ BAD_WORDS
    → {F S K E A L I O : Type 0} (w : World F S K E A L I O) (url : List ℕ) (s : ℕ) → MigrateOutcome w url s → s ≡ n → ⊥
migrate_never n d u f a l m b w url s out e = never n d u f a l m b out.end (sym e ∙ out.is_told.status_is)

-- with a status that stands for no tally it writes nothing
silent_end : (end : MigrateEnd) (s : ℕ) (P : Type 0) → s ≡ status_told (migration_told end) → IfSilent P end → s ≢ DONE → s ≢ UNSETTLED → s ≢ WRITE_FAILED → P
silent_end migrated.Done s P is silent d u f = absurd (d is)
silent_end migrated.Contested s P is silent d u f = absurd (u is)
silent_end migrated.BadPlace s P is silent d u f = silent
silent_end migrated.LinkFault s P is silent d u f = silent
silent_end (migrated.Answer code) s P is silent d u f = silent
silent_end migrated.Restarted s P is silent d u f = silent
silent_end migrated.WriteFault s P is silent d u f = absurd (f is)
silent_end migrated.NoMemory s P is silent d u f = silent

pub migrate_silent : {F S K E A L I O : Type 0} (w : World F S K E A L I O) (url : List ℕ) (s : ℕ) → MigrateOutcome w url s → s ≢ DONE → s ≢ UNSETTLED → s ≢ WRITE_FAILED → OutputStays w
migrate_silent w url s out d u f = silent_end out.end s (OutputStays w) out.is_told.status_is out.silent d u f

writing_end : (end : MigrateEnd) (s : ℕ) (P : Type 0) → s ≡ status_told (migration_told end) → OnUnwritten P end → s ≡ WRITE_FAILED → P
writing_end migrated.Done s P is cause e = absurd (omega (arith, is, e))
writing_end migrated.Contested s P is cause e = absurd (omega (arith, is, e))
writing_end migrated.BadPlace s P is cause e = absurd (omega (arith, is, e))
writing_end migrated.LinkFault s P is cause e = absurd (omega (arith, is, e))
writing_end (migrated.Answer code) s P is cause e = absurd (omega (arith, is, e))
writing_end migrated.Restarted s P is cause e = absurd (omega (arith, is, e))
writing_end migrated.WriteFault s P is cause e = cause
writing_end migrated.NoMemory s P is cause e = absurd (omega (arith, is, e))

pub migrate_writing : {F S K E A L I O : Type 0} (w : World F S K E A L I O) (url : List ℕ) (s : ℕ) → MigrateOutcome w url s → s ≡ WRITE_FAILED → OutputFails w
migrate_writing w url s out e = writing_end out.end s (OutputFails w) out.is_told.status_is out.cause e

linking_end : (end : MigrateEnd) (s : ℕ) → s ≡ status_told (migration_told end) → s ≡ LINK_FAILED → end ≡ migrated.LinkFault
linking_end migrated.Done s is e = absurd (omega (arith, is, e))
linking_end migrated.Contested s is e = absurd (omega (arith, is, e))
linking_end migrated.BadPlace s is e = absurd (omega (arith, is, e))
linking_end migrated.LinkFault s is e = refl
linking_end (migrated.Answer code) s is e = absurd (omega (arith, is, e))
linking_end migrated.Restarted s is e = absurd (omega (arith, is, e))
linking_end migrated.WriteFault s is e = absurd (omega (arith, is, e))
linking_end migrated.NoMemory s is e = absurd (omega (arith, is, e))

only_link : (fault : FarFault) → migrated.LinkFault ≡ fault_end fault → fault ≡ faults.LinkFault
only_link faults.LinkFault e = refl
only_link (faults.Answer code) e = absurd cc
only_link faults.Restarted e = absurd cc
only_link faults.NoMemory e = absurd cc

link_of : (url : List ℕ) (linked_before linked : Option (List Ending)) (before written flushed : Option (List ℕ)) → CameOf url linked_before linked before written flushed migrated.LinkFault
    → (e : Ending) × AddsOne linked_before linked e × (0 < e.faults)
link_of url b n before written flushed (at_place p is (put_back t m told)) = absurd told
link_of url b n before written flushed (at_place p is (broke fault same m)) =
    let here = subst (λ (f : FarFault). Migrated p.names b n (failed (fault_of f))) (only_link fault same) m in (here.ending, here.back, here.broke refl)
link_of url b n before written flushed (at_place p is (unmade same stays)) = absurd cc
link_of url b n before written flushed (placeless same none stays) = absurd cc
link_of url b n before written flushed (unread same stays) = absurd cc

-- the status of a link that failed has a link whose count rose
pub migrate_linking : {F S K E A L I O : Type 0} (w : World F S K E A L I O) (url : List ℕ) (s : ℕ) → MigrateOutcome w url s → s ≡ LINK_FAILED → (e : Ending) × AddsOne (linked_before w) (linked w) e × (0 < e.faults)
migrate_linking w url s out e = link_of url _ _ _ _ _ (subst (λ (x : MigrateEnd). CameOf url (linked_before w) (linked w) (written_before w) (written w) (flushed w) x) (linking_end out.end s out.is_told.status_is e) out.came)
