-- How a reading of requests goes on.
use Rattle.std.proofs.Common.{◌≡◌, ℕ, ◌-◌, ◌<◌, true, false, List, [], ◌∷◌, refl}
use Rattle.http_wire.specs.Head.{Request, Reads}
use Rattle.http_wire.specs.Stream.{End, closing, spent, Stops, Asks}

-- a request, and then those of the rest
pub asks_more : (budget : ℕ) (b rest : List ℕ) (r : Request) (rs : List Request) (end : End)
    → 0 < budget → Reads b r rest → r.closing ≡ false → Asks (budget - 1) rest rs end → Asks budget b (r ∷ rs) end
unfolding Asks
asks_more budget b rest r rs end some reads stays more = (some, rest, reads, rw stays more)

-- a request that asks for closing is the last
pub asks_last : (budget : ℕ) (b rest : List ℕ) (r : Request)
    → 0 < budget → Reads b r rest → r.closing ≡ true → Asks budget b (r ∷ []) closing
unfolding Asks
asks_last budget b rest r some reads closes = (some, rest, reads, rw closes (refl, refl))

-- the bytes end so
pub asks_end : (budget : ℕ) (b : List ℕ) (end : End) → Stops budget b end → Asks budget b [] end
unfolding Asks
asks_end budget b end stops = stops

-- no more requests are read
pub asks_spent : (b : List ℕ) → Asks 0 b [] spent
unfolding Asks Stops
asks_spent b = refl
