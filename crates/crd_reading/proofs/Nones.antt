-- Where nothing is refused, and tests that hold together.
use Rattle.std.proofs.Common.{◌≡◌, ℕ, List, Bool, true, false, ◌&&◌, cond, Option, Some, None, refl}
use Rattle.struct_schema.specs.Fault.{or_else, unless}
use Rattle.crd_reading.specs.Refusal.{Refusal, under_name, under_item}
use Rattle.crd_reading.specs.Walk.{absent}

pub both : (a b : Bool) → (a && b) ≡ true → (a ≡ true) × (b ≡ true)
both true b h = (refl, h)
both false b h = absurd (cc)

pub joined : (a b : Bool) → a ≡ true → b ≡ true → (a && b) ≡ true
joined true b h k = k
joined false b h k = absurd (cc)

pub neither : (a b : Option Refusal) → or_else a b ≡ None → (a ≡ None) × (b ≡ None)
neither None b h = (refl, h)
neither (Some r) b h = absurd (cc)

pub none_of : (a b : Option Refusal) → a ≡ None → b ≡ None → or_else a b ≡ None
none_of None b h k = k
none_of (Some r) b h k = absurd (cc)

pub held : (b : Bool) (r : Refusal) (o : Option Refusal) → unless b r o ≡ None → (b ≡ true) × (o ≡ None)
held true r o h = (refl, h)
held false r o h = absurd (cc)

pub passed : (b : Bool) (r : Refusal) (o : Option Refusal) → b ≡ true → o ≡ None → unless b r o ≡ None
passed true r o h k = k
passed false r o h k = absurd (cc)

pub none_under : (n : List ℕ) (o : Option Refusal) → under_name n o ≡ None → o ≡ None
none_under n None h = refl
none_under n (Some r) h = absurd (cc)

pub under_none : (n : List ℕ) (o : Option Refusal) → o ≡ None → under_name n o ≡ None
under_none n None h = refl
under_none n (Some r) h = absurd (cc)

pub none_in_item : (i : ℕ) (o : Option Refusal) → under_item i o ≡ None → o ≡ None
none_in_item i None h = refl
none_in_item i (Some r) h = absurd (cc)

pub item_none : (i : ℕ) (o : Option Refusal) → o ≡ None → under_item i o ≡ None
item_none i None h = refl
item_none i (Some r) h = absurd (cc)

pub none_absent : (o : Option (List ℕ)) → absent o ≡ None → o ≡ None
none_absent None h = refl
none_absent (Some n) h = absurd (cc)

pub absent_none : (o : Option (List ℕ)) → o ≡ None → absent o ≡ None
absent_none None h = refl
absent_none (Some n) h = absurd (cc)

-- what is looked at only behind a guard
pub guarded : (b : Bool) (o : Option Refusal) (s : Bool) → cond b o None ≡ None → (o ≡ None → s ≡ true) → cond b s true ≡ true
guarded true o s h f = f h
guarded false o s h f = refl

pub unguarded : (b : Bool) (o : Option Refusal) (s : Bool) → cond b s true ≡ true → (s ≡ true → o ≡ None) → cond b o None ≡ None
unguarded true o s h f = f h
unguarded false o s h f = refl
