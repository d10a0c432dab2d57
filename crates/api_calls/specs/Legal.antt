-- Which lists of items may be a server's history: each item has its guard in the state before it, and the items of each pass are counted.
use Rattle.std.specs.Prelude.{◌≡◌, ◌≢◌, ℕ, pos, ◌+ℤ◌, ◌+◌, ◌⊎◌, true, List, [], ◌∷◌, None, Some, IsTrue, IsSome}
use Rattle.kube_meta.specs.Key.{KeyView}
use Rattle.kube_meta.specs.View.{ObjectView}
use Rattle.kube_meta.specs.Plan.{Migration, Span, running, span_of, may_claim}
use Rattle.kube_meta.specs.declared.limits.Limits.{Limits}
use Rattle.api_calls.specs.declared.flags.Flags.{Flags}
use Rattle.api_calls.specs.Meaning.{Meaning, Weighs}
use Rattle.api_calls.specs.Versions.{AreFlags}
use Rattle.api_calls.specs.Item.{Entry, Create, Replace, Mark, Release, Touch, Delete, SetVersions, Trim, StartMigration, MarkSucceeded, Note, Claim, RangeDone, GiveBack, Item, entry, note, Logged, items, items_of}
use Rattle.api_calls.specs.Objects.{Stored, find, elsewhere, marked}
use Rattle.api_calls.specs.State.{State, has, opening, effect, number_after}
use Rattle.api_calls.specs.Room.{lacking, lacking_chunks, lacking_migrations}

-- a property of each element
abbrev pub Each : {X : Type 0} → (X → Type 0) → List X → Type 0
Each P [] = Unit {0}
Each P (x ∷ xs) = P x × Each P xs

-- one of the elements
abbrev pub In : {X : Type 0} → X → List X → Type 0
In x [] = ⊥
In x (y ∷ ys) = (x ≡ y) ⊎ In x ys

-- ---- values

abbrev pub key_of : ObjectView → KeyView
key_of h = record { ns = h.meta.namespace; name = h.meta.name }

-- a value that may be stored under a key
pub record IsValue (m : Meaning) (k : KeyView) (h : ObjectView) (w : ℕ) : Type 0 where
  pub whole : m.whole h
  pub key : key_of h ≡ k
  pub weighs : Weighs m h w

abbrev pub HasFinalizer : ObjectView → Type 0
HasFinalizer h = h.meta.finalizers ≢ []

-- it is being deleted
abbrev pub IsMarked : ObjectView → Type 0
IsMarked h = IsSome h.meta.deleted

-- a value that a create may store
pub record IsNew (h : ObjectView) : Type 0 where
  pub generation : h.meta.generation ≡ pos 1
  pub unmarked : h.meta.deleted ≡ None

-- a value may follow an old one: the stamps stay, the generation rises by one where the body differs, and while it is being deleted no finalizer is added and one is left
pub record Follows (old h : ObjectView) : Type 0 where
  pub created : h.meta.created ≡ old.meta.created
  pub deleted : h.meta.deleted ≡ old.meta.deleted
  pub generation : ((h.body ≢ old.body) × (h.meta.generation ≡ old.meta.generation +ℤ pos 1)) ⊎ ((h.body ≡ old.body) × (h.meta.generation ≡ old.meta.generation))
  pub held : IsMarked h → HasFinalizer h
  pub fewer : IsMarked h → Each (λ f. In f old.meta.finalizers) h.meta.finalizers

-- ---- guards of the entries

-- What is said of a hub value is said where it is known what values mean.
pub record MayCreate (m : Meaning) (limits : Limits) (k : KeyView) (h : ObjectView) (w : ℕ) (s : State) : Type 0 where
  pub absent : find k s.objects ≡ None
  pub value : IsTrue m.honest → IsValue m k h w
  pub fresh : IsTrue m.honest → IsNew h
  pub room : lacking limits s.objects w ≡ None

-- the object of a key stands at a number
pub record HasNumber (k : KeyView) (over : ℕ) (s : State) : Type 0 where
  pub old : Stored
  pub there : find k s.objects ≡ Some old
  pub at_number : old.number ≡ over

pub record MayReplace (m : Meaning) (limits : Limits) (k : KeyView) (over : ℕ) (h : ObjectView) (w : ℕ) (s : State) : Type 0 where
  pub stands : HasNumber k over s
  pub value : IsTrue m.honest → IsValue m k h w
  pub follows : IsTrue m.honest → Follows stands.old.h h
  -- an equal value changes the version at which it is stored, at least
  pub changes : IsTrue m.honest → h ≡ stands.old.h → stands.old.at ≢ s.flags.storage
  pub room : lacking_chunks limits s.objects stands.old.weight w ≡ None

pub record MayMark (m : Meaning) (k : KeyView) (over : ℕ) (stamp : List ℕ) (s : State) : Type 0 where
  pub stands : HasNumber k over s
  pub held : IsTrue m.honest → HasFinalizer stands.old.h
  pub unmarked : IsTrue m.honest → stands.old.h.meta.deleted ≡ None
  -- the value with the stamp may be stored under the key, with the weight that it had: so the stamp is one that a value may have
  pub value : IsTrue m.honest → IsValue m k (marked stamp stands.old.h) stands.old.weight

pub record MayRelease (m : Meaning) (k : KeyView) (over : ℕ) (s : State) : Type 0 where
  pub stands : HasNumber k over s
  pub marked : IsTrue m.honest → IsMarked stands.old.h

pub record MayDelete (m : Meaning) (k : KeyView) (s : State) : Type 0 where
  pub old : Stored
  pub there : find k s.objects ≡ Some old
  pub free : IsTrue m.honest → old.h.meta.finalizers ≡ []

-- a claim is in a held slot of the migration that runs
pub record IsHeld (c : ℕ) (s : State) : Type 0 where
  pub migration : Migration
  pub runs : running s.migrations ≡ Some migration
  pub span : Span
  pub held : span_of c s.plan.slots ≡ Some span

-- the first object of a claim's span that stands elsewhere has this key
pub record MayTouch (k : KeyView) (c : ℕ) (s : State) : Type 0 where
  pub claim : IsHeld c s
  pub first : Stored
  pub is_first : elsewhere claim.span claim.migration.target s.objects ≡ Some first
  pub under : first.key ≡ k

pub record MaySet (m : Meaning) (f : Flags) (s : State) : Type 0 where
  pub differ : f ≢ s.flags
  -- one version is served, and the storage version is a version
  pub flags : AreFlags m.count f

-- part of a list, in its order
abbrev pub IsPart : List ℕ → List ℕ → Type 0
IsPart [] xs = Unit {0}
IsPart (k ∷ ks) [] = ⊥
IsPart (k ∷ ks) (x ∷ xs) = ((k ≡ x) × IsPart ks xs) ⊎ IsPart (k ∷ ks) xs

pub record MayTrim (keep : List ℕ) (s : State) : Type 0 where
  pub part : IsPart keep s.stored
  pub fewer : keep ≢ s.stored
  pub storage : has keep s.flags.storage ≡ true
  pub kept : Each (λ e. has keep e.at ≡ true) s.objects

pub record MayStart (limits : Limits) (name : List ℕ) (s : State) : Type 0 where
  pub fresh : Each (λ m. m.name ≢ name) s.migrations
  pub idle : running s.migrations ≡ None
  pub room : lacking_migrations limits s.migrations ≡ None

pub record MaySucceed (s : State) : Type 0 where
  pub migration : Migration
  pub runs : running s.migrations ≡ Some migration
  pub target : migration.target ≡ s.flags.storage
  pub stands : Each (λ e. e.at ≡ migration.target) s.objects

abbrev pub entry_guard : Meaning → Limits → State → Entry → Type 0
entry_guard m limits s (Create k h w) = MayCreate m limits k h w s
entry_guard m limits s (Replace k over h w) = MayReplace m limits k over h w s
entry_guard m limits s (Mark k over stamp) = MayMark m k over stamp s
entry_guard m limits s (Release k over) = MayRelease m k over s
entry_guard m limits s (Touch k c) = MayTouch k c s
entry_guard m limits s (Delete k) = MayDelete m k s
entry_guard m limits s (SetVersions f) = MaySet m f s
entry_guard m limits s (Trim keep) = MayTrim keep s
entry_guard m limits s (StartMigration name) = MayStart limits name s
entry_guard m limits s MarkSucceeded = MaySucceed s

-- ---- guards of the notes

pub record MayClaim (c : ℕ) (s : State) : Type 0 where
  pub migration : Migration
  pub runs : running s.migrations ≡ Some migration
  pub next : c ≡ s.plan.last + 1
  pub room : may_claim s.plan ≡ true

pub record MayEnd (c : ℕ) (s : State) : Type 0 where
  pub claim : IsHeld c s
  pub nothing : elsewhere claim.span claim.migration.target s.objects ≡ None

abbrev pub note_guard : State → Note → Type 0
note_guard s (Claim c) = MayClaim c s
note_guard s (RangeDone c) = MayEnd c s
note_guard s (GiveBack c) = IsHeld c s

-- ---- lists

abbrev pub guard : Meaning → Limits → State → Item → Type 0
guard m limits s (entry e) = entry_guard m limits s e
guard m limits s (note x) = note_guard s x

abbrev pub legal_from : Meaning → Limits → ℕ → State → List Item → Type 0
legal_from m limits n s [] = Unit {0}
legal_from m limits n s (i ∷ log) = guard m limits s i × legal_from m limits (number_after n i) (effect n i s) log

-- each item's guard holds in the state before it
abbrev pub legal : Meaning → Limits → List Item → Type 0
legal m limits log = legal_from m limits 2 (opening m) log

-- counted n, n + 1, n + 2 and on
abbrev pub CountsFrom : ℕ → List Logged → Type 0
CountsFrom n [] = Unit {0}
CountsFrom n (l ∷ log) = (l.nth ≡ n) × CountsFrom (n + 1) log

-- a legal list, in which the items of each pass are counted 0, 1, 2 and on
pub record IsLegal (m : Meaning) (limits : Limits) (log : List Logged) : Type 0 where
  pub guards : legal m limits (items log)
  pub counts : (p : ℕ) → CountsFrom 0 (items_of p log)
