-- The history is legal, item by item.
use Rattle.std.proofs.Common.{◌≡◌, ◌≢◌, ℕ, zero, suc, true, false, List, [], ◌∷◌, length, take, lit<, ap, refl, inl, inr, arith}
use Rattle.std.specs.Prelude.{codes, nat_eq}
use Rattle.std.specs.Fmt.{digits}
use Rattle.std.proofs.lemmas.Bool.Decides.{nat_tests}
use Rattle.kube_meta.specs.Document.{metadata, document}
use Rattle.kube_meta.specs.Plan.{Migration, After, Start, End}
use Rattle.kube_meta.specs.declared.limits.Condition.TheVariants.{Running}
use Rattle.api_calls.specs.declared.flags.Flags.{Flags}
use Rattle.api_calls.specs.Meaning.{Weighs}
use Rattle.api_calls.specs.Item.{Create, SetVersions, StartMigration, Touch, MarkSucceeded, Trim, Claim, RangeDone, entry, note, items, items_of}
use Rattle.api_calls.specs.Objects.{Stored}
use Rattle.api_calls.specs.State.{State, state}
use Rattle.api_calls.specs.Legal.{IsLegal, guard, legal, CountsFrom}
use Rattle.versions_fixture.specs.Definition.{storing, two_names, weight_of}
use Rattle.versions_fixture.specs.Example.{example}
use Rattle.versions_fixture.specs.History.{history, key, narrow}
use Rattle.versions_fixture.specs.Laws.{legal_storing, weighs}
use Rattle.versions_fixture.proofs.Whole.{parts, whole}

one_chunk : weight_of parts ≡ 1
unfolding document metadata digits
one_chunk = refl

weighs_one : Weighs two_names example 1
weighs_one = subst_weight one_chunk (weighs parts)
  where
    subst_weight : {w : ℕ} → weight_of parts ≡ w → Weighs two_names example (weight_of parts) → Weighs two_names example w
    subst_weight e h = rw (← e) h

storage_differs : storing 0 ≢ storing 1
storage_differs e = let is : true ≡ false = ap (λ (f : Flags). nat_eq f.storage 0) e in cc

abbrev moving : Migration
moving = record { name = codes "to-v1"; target = 0; condition = Running }

-- the object as the migration finds it, and as it leaves it
abbrev found : Stored
found = record { key = key; h = example; number = 2; at = 1; born = 2; weight = 1 }

-- the state before an item
abbrev before : ℕ → State
before n = state two_names (take n (items history))

guards : legal two_names narrow (items history)
guards = (created, (switched, (started, (claimed, (touched, (done, (succeeded, (trimmed, tt))))))))
  where
    created : guard two_names narrow (before 0) (entry (Create key example 1))
    created = record {
      absent = refl;
      value = λ honest. record { whole = whole; key = refl; weighs = weighs_one };
      fresh = λ honest. record { generation = refl; unmarked = refl };
      room = refl;
    }

    switched : guard two_names narrow (before 1) (entry (SetVersions (storing 0)))
    switched = record { differ = storage_differs; flags = legal_storing 0 (lit< tt) }

    started : guard two_names narrow (before 2) (entry (StartMigration (codes "to-v1")))
    started = record { fresh = tt; idle = refl; room = refl }

    claimed : guard two_names narrow (before 3) (note (Claim 1))
    claimed = record { migration = moving; runs = refl; next = refl; room = refl }

    touched : guard two_names narrow (before 4) (entry (Touch key 1))
    touched = record {
      claim = record { migration = moving; runs = refl; span = record { after = Start; upto = End }; held = refl };
      first = found;
      is_first = refl;
      under = refl;
    }

    done : guard two_names narrow (before 5) (note (RangeDone 1))
    done = record {
      claim = record { migration = moving; runs = refl; span = record { after = After key; upto = End }; held = refl };
      nothing = refl;
    }

    succeeded : guard two_names narrow (before 6) (entry MarkSucceeded)
    succeeded = record { migration = moving; runs = refl; target = refl; stands = (refl, tt) }

    trimmed : guard two_names narrow (before 7) (entry (Trim (0 ∷ [])))
    trimmed = record {
      part = inr (inl (refl, tt));
      fewer = λ e. (let is : true ≡ false = ap (λ (vs : List ℕ). nat_eq (length vs) 1) e in cc);
      storage = refl;
      kept = (refl, tt);
    }

counts : (p : ℕ) → CountsFrom 0 (items_of p history)
counts zero = (refl, (refl, (refl, (refl, tt))))
counts (suc zero) = (refl, (refl, (refl, (refl, tt))))
counts (suc (suc p)) =
    let no_client : nat_eq 0 (suc (suc p)) ≡ false = grind (arith, nat_tests) in
    let no_worker : nat_eq 1 (suc (suc p)) ≡ false = grind (arith, nat_tests) in
    rw (no_client, no_worker) tt

pub lawful : IsLegal two_names narrow history
lawful = record { guards = guards; counts = counts }
