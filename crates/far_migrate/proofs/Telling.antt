-- What the end of a migration tells of its exchanges.
use Rattle.std.proofs.Common.{◌≡◌, ◌+◌, ℕ, List, [], ◌∷◌, ◌++◌, refl, ap, sym, ◌∙◌, append_assoc, subst}
use Rattle.edge_io.specs.Exchanges.{Exchange}
use Rattle.place.specs.Place.{Names}
use Rattle.wire_client.specs.Calls.{lists}
use Rattle.far_migrate.specs.Counts.{Counts}
use Rattle.far_migrate.specs.Puts.{Handled, all}
use Rattle.far_migrate.specs.Pages as pages
use Rattle.far_migrate.specs.Pages.{Run, Step, Stop, Runs, at_first}
use Rattle.far_migrate.specs.Told as told
use Rattle.far_migrate.specs.Told.{Lists, EndsInList}

-- ---- a tally is that of one list

-- the exchanges are one list from there, or end in a whole one
data Listed (n : Names) (a : Run) (es : List Exchange) (t : Counts) : Type 0 where
  here : Lists n a es t → Listed n a es t
  later : EndsInList n es t → Listed n a es t

ends_later : (n : Names) (es fs : List Exchange) (t : Counts) → EndsInList n fs t → EndsInList n (es ++ fs) t
ends_later n es fs t l = record {
  before = es ++ l.before;
  limit = l.limit;
  times = l.times;
  whole = l.whole;
  split = ap (λ (gs : List Exchange). es ++ gs) l.split ∙ sym (append_assoc es l.before l.whole);
  lists = l.lists;
}

stop_listed : (n : Names) (a : Run) (es : List Exchange) (t : Counts) (h : Handled) → h ≡ all t → Stop n a es h → Lists n a es t
stop_listed n a _ t _ e (pages.last j x es u did goes ends back) =
    let same : u ≡ t = cc in
    subst (λ (v : Counts). Lists n a (x ∷ es) v) same (told.last a j x es u did goes ends back)
stop_listed n a _ t _ e (pages.put_fails j x es f did goes back) = absurd (cc)
stop_listed n a _ t _ e (pages.other j x did other) = absurd (cc)
stop_listed n a _ t _ e (pages.too_long x did one) = absurd (cc)
stop_listed n a _ t _ e (pages.too_often x did many) = absurd (cc)
stop_listed n a _ t _ e (pages.list_fails x r f did fails) = absurd (cc)
stop_listed n a _ t _ e pages.unlisted = absurd (cc)
stop_listed n a _ t _ e (pages.unread x asked) = absurd (cc)

step_listed : (n : Names) (a b : Run) (es fs : List Exchange) (t : Counts) → Step n a es b → Listed n b fs t → Listed n a (es ++ fs) t
step_listed n a _ es fs t step (later l) = later (ends_later n es fs t l)
step_listed n a _ _ fs t (pages.page j e es u did goes more back) (here l) = here (told.page a j e es fs u t did goes more back l)
step_listed n a _ _ fs t (pages.halved e did some) (here l) = here (told.shorter a e fs t did some l)
step_listed n a _ _ fs t (pages.again e did few) (here l) = later (record { before = e ∷ []; limit = a.limit; times = a.expired + 1; whole = fs; split = refl; lists = l })

runs_listed : (n : Names) (a : Run) (es : List Exchange) (t : Counts) (h : Handled) → h ≡ all t → Runs n a es h → Listed n a es t
runs_listed n _ _ t _ e (pages.stop a es h stops) = here (stop_listed n a es t h e stops)
runs_listed n _ _ t _ e (pages.step a b es fs h steps rest) = step_listed n a b es fs t steps (runs_listed n b fs t h e rest)

pub ends_in_list : (n : Names) (limit times : ℕ) (es : List Exchange) (t : Counts) → Runs n (at_first limit times) es (all t) → EndsInList n es t
ends_in_list n limit times es t runs = by_place (runs_listed n (at_first limit times) es t (all t) refl runs)
  where
    by_place : Listed n (at_first limit times) es t → EndsInList n es t
    by_place (here l) = record { before = []; limit = limit; times = times; whole = es; split = refl; lists = l }
    by_place (later l) = l
