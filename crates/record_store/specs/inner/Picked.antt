-- How a page is gathered, for private clauses: the rows that stood at a number, from the index and from the window, by key.
use Rattle.std.specs.Prelude.{ℕ, ◌+◌, ◌-◌, Bool, ◌&&◌, List, [], ◌∷◌, ◌++◌, length, map, take, filter, nat_eq, nat_le, nat_lt, if◌then◌else◌}
use Rattle.std.specs.Ordering.{match_ordering}
use Rattle.kube_meta.specs.Key.{KeyView, key_cmp}
use Rattle.record_store.specs.ByKey.{put}
use Rattle.record_store.specs.Rows.{row_key}
use Rattle.record_store.specs.declared.row.Row.{Row}
use Rattle.record_store.specs.declared.past.Past.{Past}
use Rattle.record_store.specs.declared.page.Pick.{Pick}
use Rattle.record_store.specs.declared.page.Listing.{Listing}

abbrev pub pick_row : Pick → Row
pick_row p = p.row.now

abbrev pub pick_key : Pick → KeyView
pick_key p = p.row.now.key

abbrev pub rows_in : List Pick → List Row
rows_in ps = map pick_row ps

-- the rows of a page, and how many are left behind them
pub record Shown : Type 0 where
  pub rows : List Row
  pub behind : ℕ

abbrev pub shown_in : Listing → Shown
shown_in l = record { rows = rows_in l.picks.items; behind = l.behind }

-- the page with more rows, where limit 0 means no limit
abbrev pub with_more : ℕ → Shown → List Row → Shown
with_more limit p xs =
    if nat_eq limit 0 then record p { rows = p.rows ++ xs }
    else record { rows = p.rows ++ take (limit - length p.rows) xs; behind = p.behind + (length xs - (limit - length p.rows)) }

-- what the page comes to, where these rows come
abbrev pub ends : Listing → List Row → Shown
ends l xs = with_more l.limit (shown_in l) xs

abbrev pub no_rows : Shown
no_rows = record { rows = []; behind = 0 }

-- the rows that stand since a number
abbrev pub standing : ℕ → List Row → List Row
standing r rows = filter (λ x. nat_le x.record.rv r) rows

-- a row stood at a number and was superseded since
abbrev pub stood : ℕ → Past → Bool
stood r p = nat_lt r p.by && nat_le p.row.record.rv r

-- the rows of the window that stood at a number, by key
abbrev pub superseded : ℕ → List Past → List Row
superseded r [] = []
superseded r (p ∷ ps) = if stood r p then put row_key p.row (superseded r ps) else superseded r ps

-- a row among others: those before it, those under its key in its place, and then what the rest makes of those behind
abbrev pub merge_into : {X : Type 0} → (X → KeyView) → X → (List X → List X) → List X → List X
merge_into key x rest [] = x ∷ rest []
merge_into key x rest (z ∷ zs) = match_ordering (key_cmp (key z) (key x)) (z ∷ merge_into key x rest zs) (z ∷ rest zs) (x ∷ rest (z ∷ zs))

-- two lists by key as one, where the second one's stand in place of the first one's
abbrev pub merged : {X : Type 0} → (X → KeyView) → List X → List X → List X
merged key [] zs = zs
merged key (x ∷ xs) zs = merge_into key x (merged key xs) zs
