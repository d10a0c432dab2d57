-- The ends of the changes of flags, stored list and migrations, over what a core is seen as.
use Rattle.std.proofs.Common.{◌≡◌, ◌∙◌, ℕ, ◌+◌, ◌<◌, ◌≤◌, List, length, Option, None, Some, Bool, false, refl, ap, sym, subst, arith, filter, nat_eq, eq-eqb, ◌≢◌}
use Rattle.std.proofs.lemmas.Bool.Decides.{nat_tests}
use Rattle.std.specs.Prelude.{if◌then◌else◌}
use Rattle.kube_meta.specs.Key.{KeyView}
use Rattle.kube_meta.specs.declared.limits.Limits.{Limits}
use Rattle.record_store.specs.View.{StoreView, item_key}
use Rattle.record_store.specs.Standing.{item_at, first_held as first_standing}
use Rattle.migrate_core.specs.View.{MigrationsView}
use Rattle.migrate_core.specs.Moves as moves
use Rattle.migrate_core.specs.declared.ends.StartEnd.{StartEnd}
use Rattle.migrate_core.specs.declared.ends.StartEnd.TheVariants as start
use Rattle.api_calls.specs.declared.flags.Flags.{Flags}
use Rattle.api_calls.specs.declared.flags.StoredList.{StoredList}
use Rattle.api_calls.specs.Meaning.{Meaning}
use Rattle.api_calls.specs.Versions.{AreFlags, AreVersions, versions_of}
use Rattle.api_calls.specs.Item.{Item}
use Rattle.api_calls.specs.State.{has, joined, next_number, state}
use Rattle.api_calls.specs.Legal.{legal}
use Rattle.api_calls.specs.LegalLists.{IsSoundState}
use Rattle.api_calls.specs.Ends as ends
use Rattle.api_calls.specs.Ends.{EndsAsDecided, bound}
use Rattle.api_calls.specs.Settings.{same_flags, set_decision, first_unknown, trim_decision, start_decision}
use Rattle.api_core.proofs.Sets.{Decided, start-decided}
use Rattle.api_core.specs.Steps.{migrations-stand}
use Rattle.api_core.proofs.StoredLists.{room-joined, are_versions-joined, are_versions-filter}
use Rattle.api_core.specs.inner.TrimLaws.{unkept, until, held_from}
use Rattle.api_core.proofs.SettingSteps.{set-entered, trim-held_end, trim-unchanged, trim-entered, start-entered}
use Rattle.api_core.specs.CoreOf.{CoreOf, StandsFor, IsCore}

-- a core by its parts
abbrev pub shown : {V : Type 0} → V → Limits → ℕ → Flags → StoredList → ℕ → StoreView → MigrationsView → CoreOf V
shown versions limits boot flags stored revision store migrations = record {
  versions = versions;
  view = record {
    limits = limits;
    boot = boot;
    flags = flags;
    stored = versions_of stored;
    revision = revision;
    store = store;
    migrations = migrations;
  };
}

-- every legal list has a sound state
abbrev pub AreSound : {V : Type 0} → (V → Meaning) → Type 0
AreSound {V} meaning = (it : CoreOf V) (limits : Limits) (log : List Item) → legal (meaning it.versions) limits log → IsSoundState (state (meaning it.versions) log)

-- ---- flags and stored list are of known versions

pub set-room : (count last revision : ℕ) (f g : Flags) (l : StoredList) → count ≤ 8 → IsCore count last revision f l → AreFlags count g
    → has (versions_of l) g.storage ≡ false → length (versions_of l) < 8
set-room count last revision f g l small c flags none = room-joined count g.storage (versions_of l) c.is_list.versions flags.storage small none

pub set-kept : (count last revision : ℕ) (f g : Flags) (l r : StoredList) → count ≤ 8 → IsCore count last revision f l → AreFlags count g
    → versions_of r ≡ joined (versions_of l) g.storage → r.len ≤ 8 → IsCore count last (revision + 1) g r
set-kept count last revision f g l r small c flags is len = record {
  dated = (let dated = c.dated in omega (arith, dated));
  begun = omega arith;
  are_flags = flags;
  is_list = record {
    len = len;
    versions = subst (λ (vs : List ℕ). AreVersions count vs) (sym is) (are_versions-joined count g.storage (versions_of l) c.is_list.versions flags.storage small);
  };
}

pub trim-kept : (count last revision : ℕ) (f : Flags) (l r : StoredList) (p : ℕ → Bool) → IsCore count last revision f l
    → versions_of r ≡ filter p (versions_of l) → r.len ≤ 8 → IsCore count last (revision + 1) f r
trim-kept count last revision f l r p c is len = record {
  dated = (let dated = c.dated in omega (arith, dated));
  begun = omega arith;
  are_flags = c.are_flags;
  is_list = record { len = len; versions = subst (λ (vs : List ℕ). AreVersions count vs) (sym is) (are_versions-filter count p (versions_of l) c.is_list.versions) };
}

not_none : (len n : ℕ) → len ≡ n → len ≢ 0 → nat_eq n 0 ≡ false
not_none len n is other = grind (arith, nat_tests)

module _ {V : Type 0} (meaning : V → Meaning) where
  -- ---- flags

  abbrev pub left_storage : CoreOf V → ℕ → CoreOf V
  left_storage x v = record x { view = record x.view { migrations = if nat_eq v x.view.flags.storage then x.view.migrations else moves.after_fail x.view.migrations } }

  abbrev pub after_set : CoreOf V → Flags → List ℕ → CoreOf V
  after_set x f ss = record x { view = record x.view { flags = f; stored = ss; revision = x.view.revision + 1 } }

  pub set-flags : (now x : CoreOf V) (f : Flags) → x ≡ left_storage now f.storage → AreFlags (meaning now.versions).count f → AreFlags (meaning x.versions).count f
  set-flags now x f is flags = subst (λ (y : CoreOf V). AreFlags (meaning y.versions).count f) (sym is) flags

  pub set-other : (now x : CoreOf V) (f : Flags) (b : Bool) → x ≡ now → b ≡ same_flags f x.view.flags → b ≡ false → same_flags f now.view.flags ≡ false
  set-other now x f b is tested other = ap (λ (y : CoreOf V). same_flags f y.view.flags) (sym is) ∙ sym tested ∙ other

  pub set-turn_done : (now x : CoreOf V) (f : Flags) (ss : List ℕ) → AreSound meaning → AreFlags (meaning now.versions).count f → same_flags f now.view.flags ≡ false
      → x ≡ left_storage now f.storage → ss ≡ joined x.view.stored f.storage
      → (log : List Item) → StandsFor meaning now log
      → EndsAsDecided bound (StandsFor meaning (after_set x f ss)) log (set_decision (state (meaning now.versions) log) f) (ends.set ss)
  set-turn_done now x f ss sound flags other is ss_is log st =
      subst (λ (y : CoreOf V). EndsAsDecided bound (StandsFor meaning (after_set y f ss)) log (set_decision (state (meaning now.versions) log) f) (ends.set ss)) (sym is)
      (set-entered (meaning now.versions) now.view log st f (now.view.revision + 1) ss (left_storage now f.storage).view.migrations
      (sound now now.view.limits log st.legal) flags other refl (ss_is ∙ ap (λ (y : CoreOf V). joined y.view.stored f.storage) is) refl)

  -- ---- the stored list

  -- what the store tells of some versions
  abbrev pub held_at : CoreOf V → List ℕ → Option (ℕ × Option KeyView)
  held_at x us = held_from x.view.flags.storage us (first_standing item_at item_key (until x.view.flags.storage us) x.view.store.items)

  held_by : (now x : CoreOf V) (keep us : List ℕ) (o : Option (ℕ × Option KeyView)) → x ≡ now → us ≡ unkept keep x.view.stored → o ≡ held_at now us → o ≡ held_at x (unkept keep x.view.stored)
  held_by now x keep us o is us_is held =
      held ∙ ap (held_at now) us_is ∙ ap (λ (y : CoreOf V). held_at y (unkept keep x.view.stored)) (sym is)

  pub trim-turn_held : (now x : CoreOf V) (keep us : List ℕ) (v : ℕ) (k : Option KeyView) → x ≡ now → None ≡ first_unknown x.view.stored keep → us ≡ unkept keep x.view.stored → Some (v, k) ≡ held_at now us
      → (log : List Item) → StandsFor meaning now log → EndsAsDecided bound (StandsFor meaning now) log (trim_decision (state (meaning now.versions) log) keep) (ends.still_stored v k)
  trim-turn_held now x keep us v k is none us_is held =
      subst (λ (y : CoreOf V). (log : List Item) → StandsFor meaning y log → EndsAsDecided bound (StandsFor meaning y) log (trim_decision (state (meaning y.versions) log) keep) (ends.still_stored v k)) is
      (λ log st. trim-held_end (meaning x.versions) x.view log st keep v k (sym none) (held_by now x keep us (Some (v, k)) is us_is held))

  pub trim-turn_same : (now x : CoreOf V) (keep us : List ℕ) (len : ℕ) → x ≡ now → None ≡ first_unknown x.view.stored keep → us ≡ unkept keep x.view.stored → None ≡ held_at now us
      → len ≡ length (unkept keep x.view.stored) → len ≡ 0
      → (log : List Item) → StandsFor meaning now log
      → EndsAsDecided bound (StandsFor meaning now) log (trim_decision (state (meaning now.versions) log) keep) (ends.untrimmed x.view.flags x.view.stored)
  trim-turn_same now x keep us len is none us_is free counted all =
      subst (λ (y : CoreOf V). (log : List Item) → StandsFor meaning y log → EndsAsDecided bound (StandsFor meaning y) log (trim_decision (state (meaning y.versions) log) keep) (ends.untrimmed x.view.flags x.view.stored)) is
      (λ log st. trim-unchanged (meaning x.versions) x.view log st keep (sym none) (held_by now x keep us None is us_is free) (let test = eq-eqb (length (unkept keep x.view.stored)) 0 (sym counted ∙ all) in test))

  abbrev pub after_trim : CoreOf V → List ℕ → CoreOf V
  after_trim x ss = record x { view = record x.view { stored = ss; revision = x.view.revision + 1 } }

  pub trim-turn_done : (now x : CoreOf V) (keep us ss : List ℕ) (len : ℕ) → AreSound meaning → x ≡ now → None ≡ first_unknown x.view.stored keep → us ≡ unkept keep x.view.stored → None ≡ held_at now us
      → len ≡ length (unkept keep x.view.stored) → len ≢ 0 → ss ≡ filter (has keep) x.view.stored
      → (log : List Item) → StandsFor meaning now log
      → EndsAsDecided bound (StandsFor meaning (after_trim x ss)) log (trim_decision (state (meaning now.versions) log) keep) (ends.trimmed x.view.flags ss)
  trim-turn_done now x keep us ss len sound is none us_is free counted some ss_is =
      subst (λ (y : CoreOf V). (log : List Item) → StandsFor meaning y log → EndsAsDecided bound (StandsFor meaning (after_trim x ss)) log (trim_decision (state (meaning y.versions) log) keep) (ends.trimmed x.view.flags ss)) is
      (λ log st. trim-entered (meaning x.versions) x.view log st keep (x.view.revision + 1) ss (sound x x.view.limits log st.legal) (sym none) (held_by now x keep us None is us_is free) (not_none len (length (unkept keep x.view.stored)) counted some) refl ss_is)

  -- ---- the start of a migration

  abbrev pub after_start : CoreOf V → ℕ → MigrationsView → CoreOf V
  after_start x r ms = record x { view = record x.view { revision = r; migrations = ms } }

  decided : (x : CoreOf V) (name : List ℕ) (end : StartEnd) (ms : MigrationsView) → end ≡ moves.start_end name x.view.flags.storage x.view.migrations
      → ms ≡ moves.after_start end name x.view.migrations
      → (log : List Item) → StandsFor meaning x log → Decided x.view.limits (next_number log) (state (meaning x.versions) log) name end ms
  decided x name end ms end_is ms_is log st =
      let same = migrations-stand (meaning x.versions) x.view log st in
      start-decided x.view.limits (next_number log) (state (meaning x.versions) log) name end ms
      (end_is ∙ ap (λ (f : Flags). moves.start_end name f.storage x.view.migrations) st.present.flags
      ∙ ap (λ (v : MigrationsView). moves.start_end name (state (meaning x.versions) log).flags.storage v) same)
      (ms_is ∙ ap (λ (v : MigrationsView). moves.after_start end name v) same)

  pub start-turn_done : (now x : CoreOf V) (name : List ℕ) (target : ℕ) (ms : MigrationsView) → x ≡ now
      → start.Done target ≡ moves.start_end name x.view.flags.storage x.view.migrations → ms ≡ moves.after_start (start.Done target) name x.view.migrations
      → (log : List Item) → StandsFor meaning now log
      → EndsAsDecided bound (StandsFor meaning (after_start x (x.view.revision + 1) ms)) log (start_decision now.view.limits (state (meaning now.versions) log) name) (ends.started target)
  start-turn_done now x name target ms is end_is ms_is =
      subst (λ (y : CoreOf V). (log : List Item) → StandsFor meaning y log
      → EndsAsDecided bound (StandsFor meaning (after_start x (x.view.revision + 1) ms)) log (start_decision y.view.limits (state (meaning y.versions) log) name) (ends.started target)) is
      (λ log st. start-entered (meaning x.versions) x.view log st name target (x.view.revision + 1) ms (decided x name (start.Done target) ms end_is ms_is log st) refl)
