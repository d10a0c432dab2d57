-- The numbers that a drill draws: a linear congruential generator modulo 2^64 (Knuth, The Art of Computer Programming, volume 2,
-- section 3.2.1), and what is done with three of them.
use Rattle.std.specs.Prelude.{ℕ, ◌+◌, ◌*◌, ◌/◌, ◌%◌, ◌^◌, ◌==◌, nat_lt, if◌then◌else◌}
use Rattle.drill_requests.specs.declared.draws.Draw.{Draw}
use Rattle.drill_requests.specs.declared.steps.Step.{Step}
use Rattle.drill_requests.specs.declared.steps.Step.TheVariants.{CreateSpoke, CreateHub, Edit, Delete, Turn, Switch}

-- the state behind a draw
abbrev pub next_state : ℕ → ℕ
next_state x = (x * 6364136223846793005 + 1442695040888963407) % 2 ^ 64

-- the number that is drawn with it
abbrev pub number_of : ℕ → ℕ
number_of x = next_state x / 2 ^ 33

-- the state behind so many draws
abbrev pub second_state : ℕ → ℕ
second_state x = next_state (next_state x)

abbrev pub third_state : ℕ → ℕ
third_state x = next_state (second_state x)

-- the three draws of a step, in this order: what is done, with which object, and a value
abbrev pub drawn : ℕ → Draw
drawn x = record { kind = number_of x % 8; object = number_of (next_state x) % 64; value = number_of (second_state x) % 1000000 }

-- what is done
abbrev pub step_of : Draw → Step
step_of d =
    if nat_lt d.kind 2 then CreateSpoke d.object d.value else (
    if nat_lt d.kind 4 then CreateHub d.object d.value else (
    if d.kind == 4 then Edit d.object d.value else (
    if d.kind == 5 then Delete d.object else (
    if d.kind == 6 then Turn else Switch))))
