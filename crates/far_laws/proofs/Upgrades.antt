-- What a server keeps between two histories, so that a migration leaves each key settled.
use Rattle.std.specs.Prelude.{◌≡◌, ◌⊎◌, ◌≤◌, ℕ, true, false, List, [], ◌++◌, map}
use Rattle.kj_value.specs.Json.{Json}
use Rattle.kube_meta.specs.Key.{KeyView}
use Rattle.api_calls.specs.Item.{Item}
use Rattle.api_calls.specs.Legal.{In}
use Rattle.http_routes.specs.Paths.{IsKey}
use Rattle.place.specs.Place.{Names}
use Rattle.wire_client.specs.Far.{Server}
use Rattle.wire_client.specs.Calls.{lists, gets, puts}
use Rattle.wire_client.specs.Answers.{given, gone}
use Rattle.far_migrate.specs.Puts.{key_of}
use Rattle.far_migrate.specs.Pages.{first_limit, objects_of, token_of, is_empty}
use Rattle.far_laws.specs.Answering.{GoesOn, Answered}

abbrev pub keys_of : Json → List KeyView
keys_of page = map key_of (objects_of page)

-- Each law is of a history between the two.
pub record Upgrades (s : Server) (n : Names) (first last : List Item) : Type 1 where
  -- the key needs nothing more
  pub Settled : List Item → KeyView → Type 0
  -- a list goes on behind that token, of which these keys were seen
  pub Left : List Item → List ℕ → List KeyView → Type 0
  -- what is settled stays so, and a list that goes on
  pub stays : (log next : List Item) (key : KeyView) → GoesOn first log → GoesOn log next → GoesOn next last → Settled log key → Settled next key
  pub left_stays : (log next : List Item) (token : List ℕ) (seen : List KeyView) → GoesOn first log → GoesOn log next → GoesOn next last → Left log token seen → Left next token seen
  -- what is put is settled, and what isn't there
  pub put : (log own : List Item) (key : KeyView) (j k : Json) → IsKey key → GoesOn first log → GoesOn (log ++ own) last → Answered s n (puts key j) log own (given k) → Settled (log ++ own) key
  pub unput : (log own : List Item) (key : KeyView) (j : Json) → IsKey key → GoesOn first log → GoesOn (log ++ own) last → Answered s n (puts key j) log own gone → Settled (log ++ own) key
  pub ungot : (log own : List Item) (key : KeyView) → IsKey key → GoesOn first log → GoesOn (log ++ own) last → Answered s n (gets key) log own gone → Settled (log ++ own) key
  -- what is on no page of a list is settled at its last page
  pub first_ends : (log own : List Item) (limit : ℕ) (page : Json) → limit ≤ first_limit → GoesOn first log → GoesOn (log ++ own) last → Answered s n (lists limit []) log own (given page)
      → is_empty (token_of page) ≡ true → (key : KeyView) → In key (keys_of page) ⊎ Settled (log ++ own) key
  pub first_left : (log own : List Item) (limit : ℕ) (page : Json) → limit ≤ first_limit → GoesOn first log → GoesOn (log ++ own) last → Answered s n (lists limit []) log own (given page)
      → is_empty (token_of page) ≡ false → Left (log ++ own) (token_of page) (keys_of page)
  pub next_ends : (log own : List Item) (limit : ℕ) (token : List ℕ) (seen : List KeyView) (page : Json) → limit ≤ first_limit → GoesOn first log → GoesOn (log ++ own) last → Left log token seen
      → Answered s n (lists limit token) log own (given page) → is_empty (token_of page) ≡ true → (key : KeyView) → In key (seen ++ keys_of page) ⊎ Settled (log ++ own) key
  pub next_left : (log own : List Item) (limit : ℕ) (token : List ℕ) (seen : List KeyView) (page : Json) → limit ≤ first_limit → GoesOn first log → GoesOn (log ++ own) last → Left log token seen
      → Answered s n (lists limit token) log own (given page) → is_empty (token_of page) ≡ false → Left (log ++ own) (token_of page) (seen ++ keys_of page)
