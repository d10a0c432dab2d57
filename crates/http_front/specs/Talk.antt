-- A conversation over any step: requests, their answers and how it ends. A step leads from a state by a request and its
-- answer to a state.
use Rattle.std.specs.Prelude.{◌≡◌, ◌-◌, ◌<◌, ◌++◌, ℕ, List, [], ◌∷◌, map, Option, Some, MatchBool, IsUtf8}
use Rattle.std.specs.Io.KnownBytes.{append_known}
use Rattle.api_calls.specs.Reply.{ReplyView}
use Rattle.http_wire.specs.Head.{Request, Reads}
use Rattle.http_wire.specs.Response.{says}
use Rattle.http_wire.specs.Stream.{End, Asks}
use Rattle.http_front.specs.Faults.{last_words}

-- a request and its answer, whose text is UTF-8
pub record Exchange : Type 0 where
  pub request : Request
  pub answer : ReplyView
  pub utf8 : IsUtf8 answer.text

abbrev pub asked : List Exchange → List Request
asked xs = map (λ x. x.request) xs

-- the response of an exchange
abbrev pub response_of : Exchange → List ℕ
response_of x = says x.answer.code x.answer.text x.request.closing

-- one after the other
unfoldable pub bytes_of : List Exchange → List ℕ
bytes_of [] = []
bytes_of (x ∷ xs) = response_of x ++ bytes_of xs

-- a step for each exchange, in order
unfoldable pub Steps : {S : Type 0} → (S → Request → ReplyView → S → Type 0) → S → List Exchange → S → Type 0
Steps Step s [] t = t ≡ s
Steps {S = S} Step s (x ∷ xs) t = (mid : S) × Step s x.request x.answer mid × Steps Step mid xs t

-- Each request that the input spells is answered by a step, the responses are written in order, and then the end's last words.
-- Where the input isn't told, the requests are some.
pub record Conversation {S : Type 0} (Step : S → Request → ReplyView → S → Type 0) (budget : ℕ) (s t : S) (known before written : Option (List ℕ)) (end : End) : Type 0 where
  pub exchanges : List Exchange
  pub steps : Steps Step s exchanges t
  pub asks : (b : List ℕ) → known ≡ Some b → Asks budget b (asked exchanges) end
  pub wrote : written ≡ append_known before (bytes_of exchanges ++ last_words end)

-- The first requests that are read of b, of which at most `budget` are; behind them is `rest`.
unfoldable pub Begins : ℕ → List ℕ → List Request → List ℕ → Type 0
Begins budget b [] rest = rest ≡ b
Begins budget b (r ∷ rs) rest = (0 < budget) × (mid : List ℕ) × Reads b r mid
    × MatchBool r.closing ((rs ≡ []) × (rest ≡ mid)) (Begins (budget - 1) mid rs rest)
