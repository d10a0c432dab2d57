-- The plan of a storage migration: a cursor up to which keys were handed out, and sixteen slots for the claims on ranges of keys.
use Rattle.std.specs.Prelude.{ℕ, ◌-◌, Bool, true, false, not, ◌&&◌, List, [], ◌∷◌, Option, None, Some, drop, filter, nat_eq, if◌then◌else◌, replicate}
use Rattle.std.specs.List.{list_any}
use Rattle.std.specs.Ordering.{is_gt}
use Rattle.std.specs.Str.{bytes_eq}
use Rattle.kube_meta.specs.Key.{KeyView, key_cmp}
use Rattle.kube_meta.specs.declared.limits.Condition.{Condition}
use Rattle.kube_meta.specs.declared.limits.Condition.TheVariants.{Running, Succeeded, Failed}

-- a migration: its name, the version that objects are moved to, and how it stands
pub record Migration : Type 0 where
  pub name : List ℕ
  pub target : ℕ
  pub condition : Condition

-- a place between the keys, in their order
pub data Bound : Type 0 where
  Start : Bound
  After : KeyView → Bound
  End : Bound

-- the keys behind one bound, up to another
pub record Span : Type 0 where
  pub after : Bound
  pub upto : Bound

-- a place for one claim: free, held by the claim of a number, or loose; the last two have a span
pub data Slot : Type 0 where
  Free : Slot
  Held : ℕ → Span → Slot
  Loose : Span → Slot

pub record Plan : Type 0 where
  pub cursor : Bound
  pub slots : List Slot
  -- the last claim number
  pub last : ℕ

-- ---- keys and spans

-- a key is at or before a bound
abbrev pub passed : Bound → KeyView → Bool
passed Start x = false
passed (After k) x = not (is_gt (key_cmp x k))
passed End x = true

abbrev pub in_span : Span → KeyView → Bool
in_span r x = not (passed r.after x) && passed r.upto x

-- a slot has work left at a key, or may have
abbrev pub reserves : KeyView → Slot → Bool
reserves x Free = false
reserves x (Held c r) = in_span r x
reserves x (Loose r) = in_span r x

-- nothing is left to do at a key: it was handed out, and no claim has it any more
abbrev pub covered : Plan → KeyView → Bool
covered p x = passed p.cursor x && not (list_any (reserves x) p.slots)

-- ---- the plan at first

-- how many claims there are at a time, and how many keys a claim has at most
abbrev pub slot_count : ℕ
slot_count = 16

abbrev pub span_keys : ℕ
span_keys = 32

abbrev pub opening_plan : Plan
opening_plan = record { cursor = Start; slots = replicate slot_count Free; last = 0 }

-- a plan in which nothing was handed out; claim numbers go on
abbrev pub cleared : Plan → Plan
cleared p = record { cursor = Start; slots = replicate slot_count Free; last = p.last }

-- ---- the moves of a claim that is held

abbrev pub is_free : Slot → Bool
is_free Free = true
is_free (Held c r) = false
is_free (Loose r) = false

abbrev pub is_loose : Slot → Bool
is_loose Free = false
is_loose (Held c r) = false
is_loose (Loose r) = true

abbrev pub is_end : Bound → Bool
is_end Start = false
is_end (After k) = false
is_end End = true

-- the span of a claim that is held
abbrev pub span_of : ℕ → List Slot → Option Span
span_of c [] = None
span_of c (Free ∷ ss) = span_of c ss
span_of c (Held d r ∷ ss) = if nat_eq d c then Some r else span_of c ss
span_of c (Loose r ∷ ss) = span_of c ss

-- the slots, in which the slot of a held claim became another
abbrev pub changed : (Span → Slot) → ℕ → List Slot → List Slot
changed f c [] = []
changed f c (Free ∷ ss) = Free ∷ changed f c ss
changed f c (Held d r ∷ ss) = if nat_eq d c then f r ∷ ss else Held d r ∷ changed f c ss
changed f c (Loose r ∷ ss) = Loose r ∷ changed f c ss

-- a claim's span begins behind a key from now on
abbrev pub pass_key : ℕ → KeyView → Plan → Plan
pass_key c k p = record p { slots = changed (λ r. Held c (record r { after = After k })) c p.slots }

-- a claim is done
abbrev pub free_slot : ℕ → Plan → Plan
free_slot c p = record p { slots = changed (λ r. Free) c p.slots }

-- a claim is given back
abbrev pub give_back : ℕ → Plan → Plan
give_back c p = record p { slots = changed (λ r. Loose r) c p.slots }

-- ---- a new claim

-- the loose slot of least place, held by a claim
abbrev pub hold_loose : ℕ → List Slot → List Slot
hold_loose c [] = []
hold_loose c (Free ∷ ss) = Free ∷ hold_loose c ss
hold_loose c (Held d r ∷ ss) = Held d r ∷ hold_loose c ss
hold_loose c (Loose r ∷ ss) = Held c r ∷ ss

-- the free slot of least place, held by a claim with a span
abbrev pub hold_free : ℕ → Span → List Slot → List Slot
hold_free c span [] = []
hold_free c span (Free ∷ ss) = Held c span ∷ ss
hold_free c span (Held d r ∷ ss) = Held d r ∷ hold_free c span ss
hold_free c span (Loose r ∷ ss) = Loose r ∷ hold_free c span ss

-- where a span ends, among the keys that begin with the last one that it may have
abbrev pub end_among : List KeyView → Bound
end_among [] = End
end_among (k ∷ []) = End
end_among (k ∷ l ∷ ks) = After k

-- a new span ends with its thirty-second key, and at the end where no more keys stand there
abbrev pub next_bound : Bound → List KeyView → Bound
next_bound cursor keys = end_among (drop (span_keys - 1) (filter (λ k. not (passed cursor k)) keys))

-- a claim can be taken: a loose slot, or a free one where the cursor isn't at the end
abbrev pub may_claim : Plan → Bool
may_claim p = if list_any is_loose p.slots then true else not (is_end p.cursor) && list_any is_free p.slots

-- the plan after a claim was taken, where these keys stand
abbrev pub claimed : ℕ → List KeyView → Plan → Plan
claimed c keys p =
    if list_any is_loose p.slots then record p { slots = hold_loose c p.slots; last = c }
    else record p {
      cursor = next_bound p.cursor keys;
      slots = hold_free c (record { after = p.cursor; upto = next_bound p.cursor keys }) p.slots;
      last = c;
    }

-- every key was handed out, and no claim is left
abbrev pub is_done : Plan → Bool
is_done p = is_end p.cursor && not (list_any (λ s. not (is_free s)) p.slots)

-- ---- the migrations

abbrev pub runs : Condition → Bool
runs Running = true
runs Succeeded = false
runs Failed = false

-- the migration that runs
abbrev pub running : List Migration → Option Migration
running [] = None
running (m ∷ ms) = if runs m.condition then Some m else running ms

-- the migration of a name
abbrev pub named : List ℕ → List Migration → Option Migration
named name [] = None
named name (m ∷ ms) = if bytes_eq m.name name then Some m else named name ms

-- the running migration has ended like this
abbrev pub ended : Condition → List Migration → List Migration
ended c [] = []
ended c (m ∷ ms) = (if runs m.condition then record m { condition = c } else m) ∷ ended c ms

-- the plan after a running migration failed
abbrev pub stopped : Option Migration → Plan → Plan
stopped None p = p
stopped (Some m) p = cleared p
