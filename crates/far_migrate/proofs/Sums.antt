-- What is counted of the objects of a list.
use Rattle.std.proofs.Common.{◌≡◌, ◌+◌, ℕ, List, ◌∷◌, length, refl, arith}
use Rattle.kj_value.specs.Json.{Json}
use Rattle.edge_io.specs.Exchanges.{Exchange}
use Rattle.place.specs.Place.{Names}
use Rattle.far_migrate.specs.Counts.{Kind, written, unchanged, gone, contested, Counts, counted, AddsUp}
use Rattle.far_migrate.specs.Puts as puts
use Rattle.far_migrate.specs.Puts.{PutsBack, Handled, all, failed}
use Rattle.far_migrate.specs.Pages as pages
use Rattle.far_migrate.specs.Pages.{Run, Step, Stop, Runs, objects_of}

abbrev settled : Counts → ℕ
settled t = t.written + t.unchanged + t.gone + t.contested

-- so many more objects were put back, and nothing was listed
record Settles (before now : Counts) (count : ℕ) : Type 0 where
  settled : settled now ≡ settled before + count
  listed : now.listed ≡ before.listed

one_more : (k : Kind) (t : Counts) → Settles t (counted k t) 1
one_more written t = record { settled = omega arith; listed = refl }
one_more unchanged t = record { settled = omega arith; listed = refl }
one_more gone t = record { settled = omega arith; listed = refl }
one_more contested t = record { settled = omega arith; listed = refl }

abbrev OnAll : (Counts → Type 0) → Handled → Type 0
OnAll P (all t) = P t
OnAll P (failed f) = Unit {0}

page_settles : (n : Names) (js : List Json) (t : Counts) (es : List Exchange) (h : Handled) → PutsBack n js t es h → OnAll (λ u. Settles t u (length js)) h
page_settles n _ _ _ _ (puts.done t) = record { settled = omega arith; listed = refl }
page_settles n _ _ _ _ (puts.more j js t k es fs h first rest) = by_end h (page_settles n js (counted k t) fs h rest)
  where
    by_end : (h : Handled) → OnAll (λ u. Settles (counted k t) u (length js)) h → OnAll (λ u. Settles t u (length (j ∷ js))) h
    by_end (all u) s = record {
      settled = let one = one_more k t in omega (arith, s.settled, one.settled);
      listed = let one = one_more k t in omega (arith, s.listed, one.listed);
    }
    by_end (failed f) s = tt
page_settles n _ _ _ _ (puts.fails j js t f es first) = tt

adds_up : (a : Run) (j : Json) (t : Counts) → AddsUp a.counts → Settles (pages.with_objects a j) t (length (objects_of j)) → AddsUp t
adds_up a j t so_far s = omega (arith, so_far, s.settled, s.listed)

step_adds : (n : Names) (a b : Run) (es : List Exchange) → Step n a es b → AddsUp a.counts → AddsUp b.counts
step_adds n a _ _ (pages.page j e es t did goes more back) so_far = adds_up a j t so_far (page_settles n (objects_of j) (pages.with_objects a j) es (all t) back)
step_adds n a _ _ (pages.halved e did some) so_far = so_far
step_adds n a _ _ (pages.again e did few) so_far = refl

stop_adds : (n : Names) (a : Run) (es : List Exchange) (h : Handled) → Stop n a es h → AddsUp a.counts → OnAll AddsUp h
stop_adds n a _ _ (pages.last j e es t did goes ends back) so_far = adds_up a j t so_far (page_settles n (objects_of j) (pages.with_objects a j) es (all t) back)
stop_adds n a _ _ (pages.put_fails j e es f did goes back) so_far = tt
stop_adds n a _ _ (pages.other j e did other) so_far = tt
stop_adds n a _ _ (pages.too_long e did one) so_far = tt
stop_adds n a _ _ (pages.too_often e did many) so_far = tt
stop_adds n a _ _ (pages.list_fails e r f did fails) so_far = tt
stop_adds n a _ _ pages.unlisted so_far = tt
stop_adds n a _ _ (pages.unread e asked) so_far = tt

-- where there is a tally, it adds up
pub runs_add : (n : Names) (a : Run) (es : List Exchange) (h : Handled) → Runs n a es h → AddsUp a.counts → OnAll AddsUp h
runs_add n _ _ _ (pages.stop a es h stops) so_far = stop_adds n a es h stops so_far
runs_add n _ _ _ (pages.step a b es fs h steps rest) so_far = runs_add n b fs h rest (step_adds n a b es steps so_far)
