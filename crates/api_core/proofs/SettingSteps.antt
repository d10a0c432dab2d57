-- A change of the flags, a trim and the start of a migration on a core that stands for a list, by how they ended.
use Rattle.std.specs.Prelude.{◌≡◌, ℕ, ◌+◌, true, false, List, length, Option, None, Some, filter, nat_eq, if◌then◌else◌}
use Rattle.std.specs.List.{list_all}
use Rattle.std.proofs.Common.{refl, ap, sym, ◌∙◌, subst, arith}
use Rattle.kube_meta.specs.Key.{KeyView}
use Rattle.migrate_core.specs.declared.ends.StartEnd.{StartEnd}
use Rattle.migrate_core.specs.declared.ends.StartEnd.TheVariants as start
use Rattle.migrate_core.specs.View.{MigrationsView}
use Rattle.migrate_core.specs.Moves as moves
use Rattle.api_calls.specs.declared.flags.Flags.{Flags}
use Rattle.api_calls.specs.Meaning.{Meaning}
use Rattle.api_calls.specs.Versions.{AreFlags}
use Rattle.api_calls.specs.Item.{Item, entry, SetVersions, Trim, StartMigration}
use Rattle.api_calls.specs.State.{State, has, joined, next_number, state}
use Rattle.api_calls.specs.LegalLists.{IsSoundState}
use Rattle.api_calls.specs.Ends as ends
use Rattle.api_calls.specs.Ends.{EndsAsDecided, bound, says, Decision}
use Rattle.api_calls.specs.Settings.{same_flags, set_decision, first_unknown, first_held, trim_decision, start_decision}
use Rattle.api_calls.specs.laws.SettingGuards.{set-guard, trim-guard, start-guard}
use Rattle.record_store.specs.Standing.{item_at, first_held as first_standing}
use Rattle.record_store.specs.View.{item_key}
use Rattle.api_core.specs.View.{CoreView}
use Rattle.api_core.specs.Stands.{Stands}
use Rattle.api_core.specs.Ends.{start_end}
use Rattle.api_core.specs.laws.WorkRows.{migrations_of}
use Rattle.api_core.proofs.Sets.{after_storage, set-same, set-done, set-effect, Stays, Decided}
use Rattle.api_core.specs.inner.TrimLaws.{unkept, until, held_from, first_held-parts, pairs-first_held, trim-unknown, trim-held, trim-same, trim-done, all-unkept}
use Rattle.api_core.specs.Steps.{migrations-stand, stands-still, stands-same, number-stand}

module _ (m : Meaning) (c : CoreView) (log : List Item) (st : Stands m c log) where
  abbrev s : State
  s = state m log

  entered_number : (r : ℕ) → r ≡ c.revision + 1 → next_number log + 1 ≡ r + 1
  entered_number r next = let number = number-stand m c log st in omega (arith, number, next)

  -- nothing is entered: the core stays
  said : {A : Type 0} (d : Decision A) (a b : A) → d ≡ says b → a ≡ b → EndsAsDecided bound (Stands m c) log d a
  said {A} d a b is same = subst (λ (e : Decision A). EndsAsDecided bound (Stands m c) log e a) (sym is) (same, st)

  -- ---- flags

  pub set-unchanged : (f : Flags) → same_flags f c.flags ≡ true → EndsAsDecided bound (Stands m c) log (set_decision s f) (ends.unchanged c.stored)
  set-unchanged f same =
      said (set_decision s f) (ends.unchanged c.stored) (ends.unchanged s.stored)
      (set-same s f (ap (same_flags f) (sym st.present.flags) ∙ same)) (ap ends.unchanged st.present.stored)

  -- the migrations after another storage version
  abbrev pub moved : ℕ → MigrationsView
  moved v = if nat_eq v c.flags.storage then c.migrations else moves.after_fail c.migrations

  pub set-entered : (f : Flags) (r : ℕ) (ss : List ℕ) (ms : MigrationsView) → IsSoundState s → AreFlags m.count f → same_flags f c.flags ≡ false
      → r ≡ c.revision + 1 → ss ≡ joined c.stored f.storage → ms ≡ moved f.storage
      → EndsAsDecided bound (Stands m (record c { flags = f; stored = ss; revision = r; migrations = ms })) log (set_decision s f) (ends.set ss)
  set-entered f r ss ms sound flags other next ss_is ms_is =
      let differ : same_flags f s.flags ≡ false = ap (same_flags f) (sym st.present.flags) ∙ other in
      let is = set-done s f differ in
      let parts = set-effect c.limits (next_number log) f s sound.storage in
      let list : ss ≡ joined s.stored f.storage = ss_is ∙ ap (λ (xs : List ℕ). joined xs f.storage) st.present.stored in
      let after : ms ≡ after_storage f.storage s (migrations_of c.limits s) =
      ms_is ∙ ap (λ (v : ℕ). if nat_eq f.storage v then c.migrations else moves.after_fail c.migrations) (ap (λ (g : Flags). g.storage) st.present.flags)
      ∙ ap (λ (v : MigrationsView). after_storage f.storage s v) (migrations-stand m c log st) in
      subst (λ (d : Decision ends.SetEnd). EndsAsDecided bound (Stands m (record c { flags = f; stored = ss; revision = r; migrations = ms })) log d (ends.set ss)) (sym is) (
        ap ends.set list,
        stands-still m c log (entry (SetVersions f)) f ss r ms st
            (set-guard m c.limits s f (entry (SetVersions f)) flags (ap (λ (d : Decision ends.SetEnd). d.item) is))
            (record { objects = parts.objects; past = refl }) (entered_number r next) (omega (arith, next))
            (sym parts.flags) (list ∙ sym parts.stored) (after ∙ sym parts.migrations),
      )

  -- ---- the stored list

  pub trim-unknown_end : (keep : List ℕ) (v : ℕ) → first_unknown c.stored keep ≡ Some v → EndsAsDecided bound (Stands m c) log (trim_decision s keep) (ends.unknown v)
  trim-unknown_end keep v is =
      said (trim_decision s keep) (ends.unknown v) (ends.unknown v)
      (trim-unknown s keep v (ap (λ (xs : List ℕ). first_unknown xs keep) (sym st.present.stored) ∙ is)) refl

  -- what the store tells of the versions that aren't kept is what holds them
  pub trim-first : (keep : List ℕ)
      → held_from c.flags.storage (unkept keep c.stored) (first_standing item_at item_key (until c.flags.storage (unkept keep c.stored)) c.store.items)
      ≡ first_held keep s s.stored
  trim-first keep =
      let storage : c.flags.storage ≡ s.flags.storage = ap (λ (f : Flags). f.storage) st.present.flags in
      ap (λ (v : ℕ). held_from v (unkept keep c.stored) (first_standing item_at item_key (until v (unkept keep c.stored)) c.store.items)) storage
      ∙ ap (λ (xs : List ℕ). held_from s.flags.storage (unkept keep xs) (first_standing item_at item_key (until s.flags.storage (unkept keep xs)) c.store.items)) st.present.stored
      ∙ ap (λ (o : Option (ℕ × KeyView)). held_from s.flags.storage (unkept keep s.stored) o)
      (pairs-first_held m (until s.flags.storage (unkept keep s.stored)) c.store.items s.objects st.present.records)
      ∙ sym (first_held-parts keep s s.stored)

  -- every version that is to be kept is known
  known : (keep : List ℕ) → first_unknown c.stored keep ≡ None → first_unknown s.stored keep ≡ None
  known keep is = ap (λ (xs : List ℕ). first_unknown xs keep) (sym st.present.stored) ∙ is

  abbrev pub held_now : List ℕ → Option (ℕ × Option KeyView)
  held_now keep = held_from c.flags.storage (unkept keep c.stored) (first_standing item_at item_key (until c.flags.storage (unkept keep c.stored)) c.store.items)

  pub trim-held_end : (keep : List ℕ) (v : ℕ) (k : Option KeyView) → first_unknown c.stored keep ≡ None → Some (v, k) ≡ held_now keep
      → EndsAsDecided bound (Stands m c) log (trim_decision s keep) (ends.still_stored v k)
  trim-held_end keep v k none held =
      said (trim_decision s keep) (ends.still_stored v k) (ends.still_stored v k)
      (trim-held s keep (v, k) (known keep none) (sym (trim-first keep) ∙ sym held)) refl

  all_kept : (keep : List ℕ) → list_all (has keep) s.stored ≡ nat_eq (length (unkept keep c.stored)) 0
  all_kept keep = all-unkept keep s.stored ∙ ap (λ (xs : List ℕ). nat_eq (length (unkept keep xs)) 0) (sym st.present.stored)

  pub trim-unchanged : (keep : List ℕ) → first_unknown c.stored keep ≡ None → None ≡ held_now keep → nat_eq (length (unkept keep c.stored)) 0 ≡ true
      → EndsAsDecided bound (Stands m c) log (trim_decision s keep) (ends.untrimmed c.flags c.stored)
  trim-unchanged keep none free all =
      said (trim_decision s keep) (ends.untrimmed c.flags c.stored) (ends.untrimmed s.flags s.stored)
      (trim-same s keep (known keep none) (sym (trim-first keep) ∙ sym free) (all_kept keep ∙ all))
      (ap (λ (f : Flags). ends.untrimmed f c.stored) st.present.flags ∙ ap (λ (xs : List ℕ). ends.untrimmed s.flags xs) st.present.stored)

  pub trim-entered : (keep : List ℕ) (r : ℕ) (ss : List ℕ) → IsSoundState s → first_unknown c.stored keep ≡ None → None ≡ held_now keep → nat_eq (length (unkept keep c.stored)) 0 ≡ false
      → r ≡ c.revision + 1 → ss ≡ filter (has keep) c.stored
      → EndsAsDecided bound (Stands m (record c { stored = ss; revision = r })) log (trim_decision s keep) (ends.trimmed c.flags ss)
  trim-entered keep r ss sound none free some next ss_is =
      let is = trim-done s keep (known keep none) (sym (trim-first keep) ∙ sym free) (all_kept keep ∙ some) in
      let list : ss ≡ filter (has keep) s.stored = ss_is ∙ ap (λ (xs : List ℕ). filter (has keep) xs) st.present.stored in
      subst (λ (d : Decision ends.TrimEnd). EndsAsDecided bound (Stands m (record c { stored = ss; revision = r })) log d (ends.trimmed c.flags ss)) (sym is) (
        ap (λ (f : Flags). ends.trimmed f ss) st.present.flags ∙ ap (λ (xs : List ℕ). ends.trimmed s.flags xs) list,
        stands-still m c log (entry (Trim (filter (has keep) s.stored))) c.flags ss r c.migrations st
            (trim-guard m c.limits s keep (entry (Trim (filter (has keep) s.stored))) sound (ap (λ (d : Decision ends.TrimEnd). d.item) is))
            (record { objects = refl; past = refl }) (entered_number r next) (omega (arith, next))
            st.present.flags list (migrations-stand m c log st),
      )

  -- ---- the start of a migration

  pub start-entered : (name : List ℕ) (target r : ℕ) (ms : MigrationsView) → Decided c.limits (next_number log) s name (start.Done target) ms → r ≡ c.revision + 1
      → EndsAsDecided bound (Stands m (record c { revision = r; migrations = ms })) log (start_decision c.limits s name) (ends.started target)
  start-entered name target r ms p next =
      subst (λ (d : Decision ends.StartEnd). EndsAsDecided bound (Stands m (record c { revision = r; migrations = ms })) log d (ends.started target)) (sym p.decision) (
        refl,
        stands-still m c log (entry (StartMigration name)) c.flags c.stored r ms st
            (start-guard m c.limits s name (entry (StartMigration name)) (ap (λ (d : Decision ends.StartEnd). d.item) p.decision))
            (record { objects = refl; past = refl }) (entered_number r next) (omega (arith, next))
            st.present.flags st.present.stored p.changed,
      )

  pub start-refused : (name : List ℕ) (end : StartEnd) (ms : MigrationsView) → Stays c.limits s name end ms
      → EndsAsDecided bound (Stands m (record c { migrations = ms })) log (start_decision c.limits s name) (start_end end)
  start-refused name end ms p =
      subst (λ (d : Decision ends.StartEnd). EndsAsDecided bound (Stands m (record c { migrations = ms })) log d (start_end end)) (sym p.decision)
      (refl, stands-same m c log ms st p.same)
