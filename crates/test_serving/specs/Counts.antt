-- The counter by its history: which lists are legal, what it replies at a list, and what it enters there.
use Rattle.std.specs.Prelude.{ℕ, ◌≡◌, ◌≤◌, ◌+◌, nat_lt, List, [], ◌∷◌, ◌++◌, map, length, Option, Some, None, if◌then◌else◌}
use Rattle.api_calls.specs.Item.{Item, entry, note, Note, Claim, RangeDone, GiveBack, Logged, items_of}
use Rattle.test_serving.specs.declared.counter.AddEnd.{AddEnd}
use Rattle.test_serving.specs.declared.counter.AddEnd.TheVariants.{Done, Full, NoMemory}
use Rattle.test_serving.specs.declared.counter.Counter.{Counter}

-- the item that adds a number
abbrev pub adding : ℕ → Item
adding x = note (Claim x)

abbrev pub claimed : Note → ℕ
claimed (Claim x) = x
claimed (RangeDone x) = 0
claimed (GiveBack x) = 0

-- what an item adds
abbrev pub amount : Item → ℕ
amount (entry e) = 0
amount (note n) = claimed n

abbrev pub amounts : List Logged → List ℕ
amounts log = map (λ i. amount i.item) log

abbrev pub total_of : List Logged → ℕ
total_of [] = 0
total_of (i ∷ is) = amount i.item + total_of is

-- an item may stand after the list: the total stays within the limit, and the items of its pass are counted
abbrev pub Guard : ℕ → List Logged → Logged → Type 0
Guard limit before i = (total_of before + amount i.item ≤ limit) × (i.nth ≡ length (items_of i.by before))

abbrev pub IsLegalAfter : ℕ → List Logged → List Logged → Type 0
IsLegalAfter limit before [] = Unit {0}
IsLegalAfter limit before (i ∷ is) = Guard limit before i × IsLegalAfter limit (before ++ i ∷ []) is

abbrev pub IsLegal : ℕ → List Logged → Type 0
IsLegal limit log = IsLegalAfter limit [] log

-- the counter stands for the list
abbrev pub Counts : Counter → List Logged → Type 0
Counts c log = (c.total ≡ total_of log) × (c.list.items ≡ amounts log) × IsLegal c.limit log

-- the counter of one thread: its reply to an add at a list
abbrev pub reply_at : ℕ → List Logged → ℕ → AddEnd
reply_at limit log x = if nat_lt limit (total_of log + x) then Full else Done (total_of log + x)

-- the item that a reply tells of
abbrev pub entered_by : AddEnd → ℕ → Option Item
entered_by (Done n) x = Some (adding x)
entered_by Full x = None
entered_by NoMemory x = None

-- the reply is that of the counter of one thread; want of memory is free
abbrev pub IsReply : ℕ → List Logged → ℕ → AddEnd → Type 0
IsReply limit log x NoMemory = Unit {0}
IsReply limit log x Full = Full ≡ reply_at limit log x
IsReply limit log x (Done n) = Done n ≡ reply_at limit log x
