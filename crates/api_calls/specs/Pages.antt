-- What is decided of a list of objects: a page at a number that is still known.
use Rattle.std.specs.Prelude.{ℕ, not, List, Option, None, Some, nat_lt, if◌then◌else◌}
use Rattle.kube_meta.specs.Key.{KeyView}
use Rattle.kube_meta.specs.Page.{Page}
use Rattle.kube_meta.specs.declared.limits.Limits.{Limits}
use Rattle.api_calls.specs.Meaning.{Meaning}
use Rattle.api_calls.specs.Item.{Item}
use Rattle.api_calls.specs.Objects.{Stored}
use Rattle.api_calls.specs.State.{served, revision, state}
use Rattle.api_calls.specs.Snap.{floor, page_at}

-- a continue token: the number of the first page, and the key of the last object that was shown
pub record Place : Type 0 where
  pub number : ℕ
  pub key : KeyView

pub data PageEnd : Type 0 where
  shown : Page Stored → PageEnd
  unserved : PageEnd
  -- the token's number is above the revision; it is below the floor
  ahead : ℕ → PageEnd
  expired : ℕ → PageEnd
  no_memory : PageEnd

-- without a token the page is of the revision, from the first key on; limit 0 means no limit
abbrev pub place_page : Limits → Meaning → List Item → Option (List ℕ) → ℕ → Option Place → PageEnd
place_page limits m log ns limit None = shown (page_at m log ns None (revision log) limit)
place_page limits m log ns limit (Some t) =
    if nat_lt (revision log) t.number then ahead (revision log)
    else if nat_lt t.number (floor limits m log) then expired (floor limits m log)
    else shown (page_at m log ns (Some t.key) t.number limit)

abbrev pub page_decision : Limits → Meaning → List Item → ℕ → Option (List ℕ) → ℕ → Option Place → PageEnd
page_decision limits m log v ns limit token =
    if not (served (state m log).flags v) then unserved else place_page limits m log ns limit token
