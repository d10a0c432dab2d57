-- How serving ends, and how much runs at once.
use Rattle.std.specs.Prelude.{◌≡◌, ◌<◌, ℕ, Option, Some, IfSome}
use Rattle.serve_many.specs.declared.serving.ServeEnd.{ServeEnd}
use Rattle.serve_many.specs.declared.serving.ServeEnd.TheVariants.{Done, EarsFault, NoMemory}

-- so many connections have a thread of their own at once
abbrev pub most_running : ℕ
most_running = 64

-- the end by the number of connections that was asked for, if any, and how many were given back
abbrev pub EndsAt : ServeEnd → Option ℕ → ℕ → Type 0
EndsAt Done connections count = connections ≡ Some count
EndsAt EarsFault connections count = IfSome connections (λ n. count < n)
EndsAt NoMemory connections count = ⊥

-- a fault has this cause; and without memory all is as it was
abbrev pub ServeBlames : ServeEnd → Type 0 → Type 0 → Type 0
ServeBlames Done rose same = Unit {0}
ServeBlames EarsFault rose same = rose
ServeBlames NoMemory rose same = same

-- of an end that isn't want of memory
abbrev pub UnlessNoMemory : ServeEnd → Type 0 → Type 0
UnlessNoMemory Done p = p
UnlessNoMemory EarsFault p = p
UnlessNoMemory NoMemory p = Unit {0}
