-- What a migration over one new link says of that link.
use Rattle.std.proofs.Common.{◌≡◌, ◌∙◌, ◌<◌, ℕ, List, [], ◌++◌, Option, None, Some, Result, Ok, Err, inl, inr, ap, sym, subst, arith}
use Rattle.std.specs.Prelude.{IfSome, IfErr, option_map}
use Rattle.edge_io.specs.Causes.{Rose}
use Rattle.edge_io.specs.Exchanges.{Exchange}
use Rattle.place.specs.Place.{Names}
use Rattle.tcp_links.specs.Links.{Ending}
use Rattle.far_migrate.specs.Counts.{Counts, OnLink, answer, fault_of, link, memory, restarted}
use Rattle.far_migrate.specs.Migrates.{Migrates, tally_of}
use Rattle.far_migrate.specs.Puts.{Handled, all, failed}
use Rattle.far_migrate.specs.declared.tally.Tally.{Tally}
use Rattle.far_migrate.specs.declared.tally.FarFault.{FarFault}
use Rattle.far_migrate.specs.declared.tally.FarFault.TheVariants as faults
use Rattle.far_lines.specs.Migrated.{Comes}
use Rattle.far_lines.specs.Ends.{Came, put_back, broke, unmade, Told, fault_end}
use Rattle.far_lines.specs.declared.end.MigrateEnd.{MigrateEnd}

-- what is told of a link that had made no exchange
pub only_these : (n : Names) (h : Handled) (before now : Option (List Exchange)) (es : List Exchange) → IfSome before (λ made. made ≡ [])
    → now ≡ option_map (λ made. made ++ es) before → Migrates n es h → IfSome now (λ made. Migrates n made h)
only_these n h None now es none grown m = subst (λ (o : Option (List Exchange)). IfSome o (λ made. Migrates n made h)) (sym grown) tt
only_these n h (Some made) now es none grown m =
    let is : now ≡ Some es = grown ∙ ap (λ (l : List Exchange). Some (l ++ es)) none in
    subst (λ (o : Option (List Exchange)). IfSome o (λ made. Migrates n made h)) (sym is) m

-- a link that hadn't failed, and over which a migration broke, has failed
pub has_failed : (r : Result Tally FarFault) (before now : ℕ) → before ≡ 0 → IfErr r (OnLink (Rose before now)) → tally_of r ≡ failed link → 0 < now
has_failed (Ok t) before now none rose is = absurd (cc)
has_failed (Err faults.LinkFault) before now none rose is = omega (arith, none, rose)
has_failed (Err (faults.Answer code)) before now none rose is = absurd (cc)
has_failed (Err faults.Restarted) before now none rose is = absurd (cc)
has_failed (Err faults.NoMemory) before now none rose is = absurd (cc)

-- ---- what is told of a place

module _ (n : Names) (linked_before linked : Option (List Ending)) (before written flushed : Option (List ℕ)) where
  pub came_tally : (t : Counts) (e : MigrateEnd) → Comes n linked_before linked (all t) → Told t before written flushed e → Came n linked_before linked before written flushed e
  came_tally t e (inl m) told = put_back t m told
  came_tally t e (inr none) told = absurd (let bad : all t ≡ failed memory = none.0 in cc)

  pub came_fault : (fault : FarFault) (e : MigrateEnd) → e ≡ fault_end fault → Comes n linked_before linked (failed (fault_of fault)) → Came n linked_before linked before written flushed e
  came_fault fault e is (inl m) = broke fault is m
  came_fault faults.LinkFault e is (inr none) = absurd (let bad : failed link ≡ failed memory = none.0 in cc)
  came_fault (faults.Answer code) e is (inr none) = absurd (let bad : failed (answer code) ≡ failed memory = none.0 in cc)
  came_fault faults.Restarted e is (inr none) = absurd (let bad : failed restarted ≡ failed memory = none.0 in cc)
  came_fault faults.NoMemory e is (inr none) = unmade is none.1
