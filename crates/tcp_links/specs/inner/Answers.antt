-- What an exchange over a connection comes to.
use Rattle.std.specs.Prelude.{◌<◌, ◌≤◌, ℕ, List, length, Option}
use Rattle.std.specs.Io.KnownBytes.{Appends, Consumes, IsAtEnd}
use Rattle.chunked_bodies.specs.Response.{HandsOn, HandsOnFront}
use Rattle.tcp_links.specs.declared.limits.TheConstants.{MOST_ANSWER_BYTES}

-- the whole request was written to the connection, and behind that the answer was read from it, up to its end where it is shorter than an
-- answer may be
pub record IsAnswered {S : Type 0} (contents remaining : S → Option (List ℕ)) (before now : S) (request answer : List ℕ) : Type 0 where
  pub asked : S
  pub wrote : Appends (contents before) (contents asked) request
  pub read : Consumes (remaining asked) (remaining now) answer
  pub end : length answer < MOST_ANSWER_BYTES → IsAtEnd (remaining now)

-- what is handed on of an answer: a response with its length, and of one that is longer than is read its front
pub record IsHandedOn (answer given : List ℕ) : Type 0 where
  pub whole : length answer < MOST_ANSWER_BYTES → HandsOn answer given
  pub front : MOST_ANSWER_BYTES ≤ length answer → HandsOnFront answer given
