-- How a delete and a release end at a list.
use Rattle.std.proofs.Common.{◌≡◌, ℕ, ◌+◌, List, None, Some, true, false, ap, sym, subst, refl, ◌∙◌}
use Rattle.std.specs.Prelude.{option_map}
use Rattle.kube_meta.specs.Key.{KeyView}
use Rattle.record_store.specs.declared.row.Record.{Record}
use Rattle.record_store.specs.ByKey.{find as find_record}
use Rattle.record_store.specs.View.{StoreView, item_key, record_of}
use Rattle.record_store.specs.Moves.{removed}
use Rattle.api_calls.specs.Meaning.{Meaning}
use Rattle.api_calls.specs.Item.{Item, Entry, entry, Delete, Release}
use Rattle.api_calls.specs.Objects.{Stored, find, without}
use Rattle.api_calls.specs.State.{entry_effect, served, next_number, revision, state}
use Rattle.api_calls.specs.Legal.{entry_guard}
use Rattle.api_calls.specs.Snap.{past, entry_past}
use Rattle.api_calls.specs.Ends.{WriteEnd, done, unserved, gone, newer, Decision, enters, EndsAsDecided, bound}
use Rattle.api_calls.specs.Writes.{delete_commit, release_commit, at_number}
use Rattle.api_core.specs.View.{CoreView}
use Rattle.api_core.specs.Stands.{Stands}
use Rattle.api_core.specs.Prepared.{KnownAt, IsFree, IsEnding}
use Rattle.api_core.proofs.Growing.{dropped, dropped-stands}
use Rattle.api_core.specs.laws.DecideLaws.{entered, served_at, AtNumber, ends-unserved, ends-gone, ends-newer, at-number, decides-next}

module _ (m : Meaning) (c : CoreView) (log : List Item) (stands : Stands m c log) where
  -- the object at a number is removed by an entry
  abbrev removes : Entry → Stored → Decision WriteEnd
  removes e f = enters (done (revision log + 1) f.born) (entry e)

  removed_done : (v : ℕ) (k : KeyView) (over : ℕ) (e : Entry) (r : Record) (a : AtNumber m c log k over r) → served c.flags v ≡ true
      → entry_guard m c.limits (state m log) e
      → entry_effect (next_number log) e (state m log) ≡ record (state m log) { objects = without k (state m log).objects }
      → entry_past (next_number log) e (state m log) ≡ past (next_number log) (find k (state m log).objects)
      → EndsAsDecided bound (Stands m (dropped c k)) log (served_at (state m log) v k over (removes e)) (done (c.revision + 1) r.born)
  removed_done v k over e r a may guarded effect_is past_is =
      let number : revision log + 1 ≡ c.revision + 1 = ap (λ (n : ℕ). n + 1) (sym stands.revision) in
      let born : a.object.born ≡ r.born = sym a.keeps.born ∙ ap (λ (q : Record). q.born) a.told in
      entered (Stands m (dropped c k)) log (served_at (state m log) v k over (removes e)) (done (c.revision + 1) r.born) (entry e)
      (decides-next m c log stands v k over (removes e) r a may ∙ ap (λ (n : ℕ). enters (done n a.object.born) (entry e)) number
      ∙ ap (λ (b : ℕ). enters (done (c.revision + 1) b) (entry e)) born)
      (dropped-stands m c log k e a.item a.object stands a.found a.there a.keeps guarded effect_is past_is)

  -- ---- a delete

  pub delete-unserved : (v : ℕ) (k : KeyView) (over : ℕ) → served c.flags v ≡ false → EndsAsDecided bound (Stands m c) log (delete_commit (revision log + 1) (state m log) v k over) unserved
  delete-unserved v k over is = ends-unserved m c log stands v (at_number over (find k (state m log).objects) (removes (Delete k))) is

  pub delete-gone : (v : ℕ) (k : KeyView) (over : ℕ) → served c.flags v ≡ true → option_map record_of (find_record item_key k c.store.items) ≡ None
      → EndsAsDecided bound (Stands m c) log (delete_commit (revision log + 1) (state m log) v k over) gone
  delete-gone v k over may is = ends-gone m c log stands v k over (removes (Delete k)) may is

  pub delete-newer : (v : ℕ) (k : KeyView) (over : ℕ) (r : Record) → served c.flags v ≡ true → option_map record_of (find_record item_key k c.store.items) ≡ Some r → (r.rv ≡ over → ⊥)
      → EndsAsDecided bound (Stands m c) log (delete_commit (revision log + 1) (state m log) v k over) (newer r.rv)
  delete-newer v k over r may is other = ends-newer m c log stands v k over (removes (Delete k)) r may is other

  delete_done : (v : ℕ) (k : KeyView) (over : ℕ) (r : Record) → KnownAt m log k over IsFree → served c.flags v ≡ true
      → option_map record_of (find_record item_key k c.store.items) ≡ Some r → r.rv ≡ over
      → EndsAsDecided bound (Stands m (dropped c k)) log (delete_commit (revision log + 1) (state m log) v k over) (done (c.revision + 1) r.born)
  delete_done v k over r known may is at =
      let a = at-number m c log stands k over r is at in
      removed_done v k over (Delete k) r a may (record { old = a.object; there = a.there; free = λ honest. known a.object a.there a.at_number honest }) refl refl

  pub delete-removed : (v : ℕ) (k : KeyView) (over : ℕ) (r : Record) (s : StoreView) → KnownAt m log k over IsFree → served c.flags v ≡ true
      → option_map record_of (find_record item_key k c.store.items) ≡ Some r → r.rv ≡ over → s ≡ removed (c.revision + 1) k c.store
      → EndsAsDecided bound (Stands m (record c { revision = c.revision + 1; store = s })) log (delete_commit (revision log + 1) (state m log) v k over) (done (c.revision + 1) r.born)
  delete-removed v k over r s known may is at store_is =
      subst (λ (t : StoreView). EndsAsDecided bound (Stands m (record c { revision = c.revision + 1; store = t })) log (delete_commit (revision log + 1) (state m log) v k over) (done (c.revision + 1) r.born))
      (sym store_is) (delete_done v k over r known may is at)

  -- ---- a release

  pub release-unserved : (v : ℕ) (k : KeyView) (over : ℕ) → served c.flags v ≡ false → EndsAsDecided bound (Stands m c) log (release_commit (revision log + 1) (state m log) v k over) unserved
  release-unserved v k over is = ends-unserved m c log stands v (at_number over (find k (state m log).objects) (removes (Release k over))) is

  pub release-gone : (v : ℕ) (k : KeyView) (over : ℕ) → served c.flags v ≡ true → option_map record_of (find_record item_key k c.store.items) ≡ None
      → EndsAsDecided bound (Stands m c) log (release_commit (revision log + 1) (state m log) v k over) gone
  release-gone v k over may is = ends-gone m c log stands v k over (removes (Release k over)) may is

  pub release-newer : (v : ℕ) (k : KeyView) (over : ℕ) (r : Record) → served c.flags v ≡ true → option_map record_of (find_record item_key k c.store.items) ≡ Some r → (r.rv ≡ over → ⊥)
      → EndsAsDecided bound (Stands m c) log (release_commit (revision log + 1) (state m log) v k over) (newer r.rv)
  release-newer v k over r may is other = ends-newer m c log stands v k over (removes (Release k over)) r may is other

  release_done : (v : ℕ) (k : KeyView) (over : ℕ) (r : Record) → KnownAt m log k over IsEnding → served c.flags v ≡ true
      → option_map record_of (find_record item_key k c.store.items) ≡ Some r → r.rv ≡ over
      → EndsAsDecided bound (Stands m (dropped c k)) log (release_commit (revision log + 1) (state m log) v k over) (done (c.revision + 1) r.born)
  release_done v k over r known may is at =
      let a = at-number m c log stands k over r is at in
      removed_done v k over (Release k over) r a may
      (record { stands = record { old = a.object; there = a.there; at_number = a.at_number }; marked = λ honest. known a.object a.there a.at_number honest }) refl refl

  pub release-removed : (v : ℕ) (k : KeyView) (over : ℕ) (r : Record) (s : StoreView) → KnownAt m log k over IsEnding → served c.flags v ≡ true
      → option_map record_of (find_record item_key k c.store.items) ≡ Some r → r.rv ≡ over → s ≡ removed (c.revision + 1) k c.store
      → EndsAsDecided bound (Stands m (record c { revision = c.revision + 1; store = s })) log (release_commit (revision log + 1) (state m log) v k over) (done (c.revision + 1) r.born)
  release-removed v k over r s known may is at store_is =
      subst (λ (t : StoreView). EndsAsDecided bound (Stands m (record c { revision = c.revision + 1; store = t })) log (release_commit (revision log + 1) (state m log) v k over) (done (c.revision + 1) r.born))
      (sym store_is) (release_done v k over r known may is at)
