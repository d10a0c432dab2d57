-- Turns that end with a decision: what is said or entered, and the decisions on the object that stands at a number.
use Rattle.std.proofs.Common.{◌≡◌, ℕ, List, [], ◌∷◌, ◌++◌, Option, None, Some, Bool, true, false, ap, sym, subst, refl, ◌∙◌, arith, eq-eqb}
use Rattle.std.specs.Prelude.{not, option_map, nat_eq, if◌then◌else◌}
use Rattle.std.proofs.lemmas.Bool.Decides.{nat_tests}
use Rattle.kube_meta.specs.Key.{KeyView}
use Rattle.record_store.specs.declared.row.Record.{Record}
use Rattle.record_store.specs.ByKey.{find as find_record}
use Rattle.record_store.specs.View.{Item as RecordItem, item_key, record_of}
use Rattle.record_store.specs.Room.{unless_full}
use Rattle.record_store.specs.declared.answer.PutEnd.TheVariants.{Done, Present, Gone, Moved, Full}
use Rattle.kube_meta.specs.declared.limits.Room.{Room}
use Rattle.api_calls.specs.declared.flags.Flags.{Flags}
use Rattle.api_calls.specs.Meaning.{Meaning}
use Rattle.api_calls.specs.Item.{Item}
use Rattle.api_calls.specs.Objects.{Stored, find}
use Rattle.api_calls.specs.State.{State, served, state}
use Rattle.api_calls.specs.Ends.{WriteEnd, unserved, gone, newer, Decision, says, enters, EndsAsDecided, bound}
use Rattle.api_calls.specs.Writes.{at_number}
use Rattle.api_core.specs.View.{CoreView}
use Rattle.api_core.specs.Keeps.{KeepsObject, IsFound}
use Rattle.api_core.specs.Stands.{Stands}
use Rattle.api_core.specs.laws.PairLaws.{pairs-find, looked-some, looked-none}

-- ---- ends

pub said : (P : List Item → Type 0) (log : List Item) (d : Decision WriteEnd) (a : WriteEnd) → d ≡ says a → P log → EndsAsDecided bound P log d a
said P log d a is h = subst (λ (e : Decision WriteEnd). EndsAsDecided bound P log e a) (sym is) (refl, h)

pub entered : (P : List Item → Type 0) (log : List Item) (d : Decision WriteEnd) (a : WriteEnd) (i : Item) → d ≡ enters a i → P (log ++ i ∷ []) → EndsAsDecided bound P log d a
entered P log d a i is h = subst (λ (e : Decision WriteEnd). EndsAsDecided bound P log e a) (sym is) (refl, h)

-- ---- tests

pub unequal : (a b : ℕ) → (a ≡ b → ⊥) → nat_eq a b ≡ false
unequal a b h = grind (arith, nat_tests, h)

-- what is answered by the room
pub unless-done : (o : Option Room) → unless_full o ≡ Done → o ≡ None
unless-done None is = refl
unless-done (Some r) is = cc

pub unless-full : (o : Option Room) (r : Room) → unless_full o ≡ Full r → o ≡ Some r
unless-full None r is = cc
unless-full (Some q) r is = let same : q ≡ r = cc in ap (λ (t : Room). Some t) same

pub unless-present : (o : Option Room) → unless_full o ≡ Present → ⊥
unless-present None is = cc
unless-present (Some r) is = cc

pub unless-gone : (o : Option Room) → unless_full o ≡ Gone → ⊥
unless-gone None is = cc
unless-gone (Some r) is = cc

pub unless-moved : (o : Option Room) (n : ℕ) → unless_full o ≡ Moved n → ⊥
unless-moved None n is = cc
unless-moved (Some r) n is = cc

-- a found record keeps a found object
pub found-none : (m : Meaning) (o : Option RecordItem) (q : Option Stored) → IsFound m o q → o ≡ None → q ≡ None
found-none m None None f is = refl
found-none m None (Some e) f is = absurd f
found-none m (Some x) q f is = cc

pub found-some : (m : Meaning) (o : Option RecordItem) (q : Option Stored) (x : RecordItem) → IsFound m o q → o ≡ Some x → (e : Stored) × (q ≡ Some e) × KeepsObject m x e
found-some m None q x f is = cc
found-some m (Some y) None x f is = absurd f
found-some m (Some y) (Some e) x f is = let same : y ≡ x = cc in (e, refl, subst (λ (z : RecordItem). KeepsObject m z e) same f)

-- ---- the object that stands at a number

-- what is decided of it, where the version is served
abbrev pub served_at : State → ℕ → KeyView → ℕ → (Stored → Decision WriteEnd) → Decision WriteEnd
served_at s v k over next = if not (served s.flags v) then says unserved else at_number over (find k s.objects) next

-- a record and the object that it keeps, which stands at a number
pub record AtNumber (m : Meaning) (c : CoreView) (log : List Item) (k : KeyView) (over : ℕ) (r : Record) : Type 0 where
  pub item : RecordItem
  pub object : Stored
  pub found : find_record item_key k c.store.items ≡ Some item
  pub there : find k (state m log).objects ≡ Some object
  pub keeps : KeepsObject m item object
  pub told : record_of item ≡ r
  pub at_number : object.number ≡ over

module _ (m : Meaning) (c : CoreView) (log : List Item) (stands : Stands m c log) where
  pub served-same : (v : ℕ) (b : Bool) → served c.flags v ≡ b → served (state m log).flags v ≡ b
  served-same v b is = ap (λ (f : Flags). served f v) (sym stands.present.flags) ∙ is

  pub decides-unserved : (v : ℕ) (d : Decision WriteEnd) → served c.flags v ≡ false → (if not (served (state m log).flags v) then says unserved else d) ≡ says unserved
  decides-unserved v d is = ap (λ (b : Bool). if not b then says unserved else d) (served-same v false is)

  pub decides-served : (v : ℕ) (d : Decision WriteEnd) → served c.flags v ≡ true → (if not (served (state m log).flags v) then says unserved else d) ≡ d
  decides-served v d is = ap (λ (b : Bool). if not b then says unserved else d) (served-same v true is)

  -- the version isn't served
  pub ends-unserved : (v : ℕ) (d : Decision WriteEnd) → served c.flags v ≡ false → EndsAsDecided bound (Stands m c) log (if not (served (state m log).flags v) then says unserved else d) unserved
  ends-unserved v d is = said (Stands m c) log (if not (served (state m log).flags v) then says unserved else d) unserved (decides-unserved v d is) stands

  pub absent : (k : KeyView) → find_record item_key k c.store.items ≡ None → find k (state m log).objects ≡ None
  absent k is = found-none m (find_record item_key k c.store.items) (find k (state m log).objects) (pairs-find m k c.store.items (state m log).objects stands.present.records) is

  pub present : (k : KeyView) (x : RecordItem) → find_record item_key k c.store.items ≡ Some x → (e : Stored) × (find k (state m log).objects ≡ Some e) × KeepsObject m x e
  present k x is = found-some m (find_record item_key k c.store.items) (find k (state m log).objects) x (pairs-find m k c.store.items (state m log).objects stands.present.records) is

  -- no object has the key
  pub ends-gone : (v : ℕ) (k : KeyView) (over : ℕ) (next : Stored → Decision WriteEnd) → served c.flags v ≡ true
      → option_map record_of (find_record item_key k c.store.items) ≡ None
      → EndsAsDecided bound (Stands m c) log (served_at (state m log) v k over next) gone
  ends-gone v k over next may is =
      let none = absent k (looked-none (find_record item_key k c.store.items) is) in
      said (Stands m c) log (served_at (state m log) v k over next) gone
      (decides-served v (at_number over (find k (state m log).objects) next) may ∙ ap (λ (o : Option Stored). at_number over o next) none) stands

  -- it stands at another number
  pub ends-newer : (v : ℕ) (k : KeyView) (over : ℕ) (next : Stored → Decision WriteEnd) (r : Record) → served c.flags v ≡ true
      → option_map record_of (find_record item_key k c.store.items) ≡ Some r → (r.rv ≡ over → ⊥)
      → EndsAsDecided bound (Stands m c) log (served_at (state m log) v k over next) (newer r.rv)
  ends-newer v k over next r may is other =
      let (x, found, told) = looked-some (find_record item_key k c.store.items) r is in
      let (e, there, keeps) = present k x found in
      let number : e.number ≡ r.rv = sym keeps.number ∙ ap (λ (q : Record). q.rv) told in
      let differs : nat_eq e.number over ≡ false = unequal e.number over (λ same. other (sym number ∙ same)) in
      said (Stands m c) log (served_at (state m log) v k over next) (newer r.rv)
      (decides-served v (at_number over (find k (state m log).objects) next) may ∙ ap (λ (o : Option Stored). at_number over o next) there
      ∙ ap (λ (b : Bool). if b then next e else says (newer e.number)) differs ∙ ap (λ (n : ℕ). says (newer n)) number) stands

  -- it stands at the number
  pub at-number : (k : KeyView) (over : ℕ) (r : Record) → option_map record_of (find_record item_key k c.store.items) ≡ Some r → r.rv ≡ over → AtNumber m c log k over r
  at-number k over r is at =
      let (x, found, told) = looked-some (find_record item_key k c.store.items) r is in
      let (e, there, keeps) = present k x found in
      record {
        item = x;
        object = e;
        found = found;
        there = there;
        keeps = keeps;
        told = told;
        at_number = sym keeps.number ∙ ap (λ (q : Record). q.rv) told ∙ at;
      }

  pub decides-next : (v : ℕ) (k : KeyView) (over : ℕ) (next : Stored → Decision WriteEnd) (r : Record) (a : AtNumber m c log k over r) → served c.flags v ≡ true
      → served_at (state m log) v k over next ≡ next a.object
  decides-next v k over next r a may =
      let same : nat_eq a.object.number over ≡ true = eq-eqb a.object.number over a.at_number in
      decides-served v (at_number over (find k (state m log).objects) next) may ∙ ap (λ (o : Option Stored). at_number over o next) a.there
      ∙ ap (λ (b : Bool). if b then next a.object else says (newer a.object.number)) same

  -- the storage version is the one of the flags
  pub storage-same : (at : ℕ) (b : Bool) → nat_eq at c.flags.storage ≡ b → nat_eq at (state m log).flags.storage ≡ b
  storage-same at b is = ap (λ (f : Flags). nat_eq at f.storage) (sym stands.present.flags) ∙ is
