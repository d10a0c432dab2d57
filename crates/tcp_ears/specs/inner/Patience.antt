-- How long a peer is waited for.
use Rattle.std.specs.Prelude.{◌≡◌, ◌⊎◌, ◌<◌, ◌≤◌, ◌*◌, ◌-◌, ◌^◌, min, ℕ, Bool, IsTrue}

-- a peer that has sent nothing for so many seconds, and so many bytes of a request, is given up: after a minute, and where there are many
-- connections, and it has sent nothing of a request, after 2 seconds
abbrev pub IsSilent : ℕ → ℕ → Bool → Type 0
IsSilent seconds bytes crowded = (60 ≤ seconds) ⊎ (IsTrue crowded × (bytes ≡ 0) × (2 ≤ seconds))

-- a peer that has sent so many bytes of a request in so many seconds is given up: after two minutes, and where there are many connections
-- where these are fewer than 256 a second
abbrev pub IsSlow : ℕ → ℕ → Bool → Type 0
IsSlow seconds bytes crowded = (120 ≤ seconds) ⊎ (IsTrue crowded × (bytes < min (seconds * 256) (2 ^ 64 - 1)))
