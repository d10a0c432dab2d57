-- Only values that were given are put.
use Rattle.std.proofs.Common.{ℕ, suc, List, [], ◌∷◌, ◌++◌, refl, ap, sym, ◌∙◌, append_assoc, inl, inr}
use Rattle.std.proofs.lemmas.List.{append-nil}
use Rattle.kj_value.specs.Json.{Json}
use Rattle.kube_meta.specs.Key.{KeyView}
use Rattle.edge_io.specs.Exchanges.{Exchange}
use Rattle.api_calls.specs.Legal.{In}
use Rattle.place.specs.Place.{Names}
use Rattle.wire_client.specs.Calls.{lists, puts}
use Rattle.wire_client.specs.Answers.{given}
use Rattle.far_migrate.specs.Counts.{Counts, counted}
use Rattle.far_migrate.specs.Answered.{Did}
use Rattle.far_migrate.specs.Puts as puts
use Rattle.far_migrate.specs.Puts.{key_of, most_puts, PutBack, PutsBack, Handled}
use Rattle.far_migrate.specs.Pages as pages
use Rattle.far_migrate.specs.Pages.{Run, Step, Stop, Runs, objects_of}
use Rattle.far_migrate.specs.Migrates.{Gave, by_page, by_get, WasGiven, by_list, by_get_of, by_put, AreFounded}

-- what was given stays given
given_more : (n : Names) (key : KeyView) (j : Json) (es fs : List Exchange) → WasGiven n key j es → WasGiven n key j (es ++ fs)
given_more n key j es fs w = record {
  front = w.front;
  e = w.e;
  back = w.back ++ fs;
  there = ap (λ (gs : List Exchange). gs ++ fs) w.there ∙ append_assoc w.front (w.e ∷ w.back) fs;
  gave = w.gave;
}

given_last : (n : Names) (key : KeyView) (j : Json) (es : List Exchange) (e : Exchange) → Gave n key j e → WasGiven n key j (es ++ e ∷ [])
given_last n key j es e g = record { front = es; e = e; back = []; there = refl; gave = g }

founded_more : (n : Names) (before es fs : List Exchange) → AreFounded n before es → AreFounded n (before ++ es) fs → AreFounded n before (es ++ fs)
founded_more n before [] fs first second = rw (sym (append-nil before)) second
founded_more n before (e ∷ es) fs first second =
    (first.0, founded_more n (before ++ e ∷ []) es fs first.1 (rw (append_assoc before (e ∷ []) es) second))

-- an object is put as it was given
put_founded : (n : Names) (key : KeyView) (left : ℕ) (j : Json) (es : List Exchange) (o : puts.Outcome) (before : List Exchange)
    → WasGiven n key j before → PutBack n key left j es o → AreFounded n before es
put_founded n key _ _ _ _ before w (puts.same left j k e did same) = (by_put key j did.request w, tt)
put_founded n key _ _ _ _ before w (puts.other left j k e did other) = (by_put key j did.request w, tt)
put_founded n key _ _ _ _ before w (puts.nothing left j e did) = (by_put key j did.request w, tt)
put_founded n key _ _ _ _ before w (puts.last j e did) = (by_put key j did.request w, tt)
put_founded n key _ _ _ _ before w (puts.again left j k e f es o did got rest) = (
  by_put key j did.request w,
  (by_get_of key got.request, put_founded n key (suc left) k es o ((before ++ e ∷ []) ++ f ∷ []) (given_last n key k (before ++ e ∷ []) f (by_get got)) rest),
)
put_founded n key _ _ _ _ before w (puts.lost left j e f did got) = (by_put key j did.request w, (by_get_of key got.request, tt))
put_founded n key _ _ _ _ before w (puts.put_fails left j e r f did fails) = (by_put key j did.request w, tt)
put_founded n key _ _ _ _ before w (puts.get_fails left j e g r f did got fails) = (by_put key j did.request w, (by_get_of key got.request, tt))
put_founded n key _ _ _ _ before w (puts.unput left j) = tt
put_founded n key _ _ _ _ before w (puts.put_unread left j e asked) = (by_put key j asked w, tt)
put_founded n key _ _ _ _ before w (puts.ungot left j e did) = (by_put key j did.request w, tt)
put_founded n key _ _ _ _ before w (puts.get_unread left j e f did asked) = (by_put key j did.request w, (by_get_of key asked, tt))

abbrev AllGiven : Names → List Json → List Exchange → Type 0
AllGiven n js before = (j : Json) → In j js → WasGiven n (key_of j) j before

puts_founded : (n : Names) (js : List Json) (t : Counts) (es : List Exchange) (h : Handled) (before : List Exchange)
    → AllGiven n js before → PutsBack n js t es h → AreFounded n before es
puts_founded n _ _ _ _ before w (puts.done t) = tt
puts_founded n _ _ _ _ before w (puts.more j js t k es fs h first rest) =
    founded_more n before es fs
    (put_founded n (key_of j) most_puts j es (puts.kind k) before (w j (inl refl)) first)
    (puts_founded n js (counted k t) fs h (before ++ es) (λ i there. given_more n (key_of i) i before es (w i (inr there))) rest)
puts_founded n _ _ _ _ before w (puts.fails j js t f es first) = put_founded n (key_of j) most_puts j es (puts.fault f) before (w j (inl refl)) first

-- a page and its objects
page_founded : (n : Names) (a : Run) (j : Json) (e : Exchange) (es : List Exchange) (h : Handled) (before : List Exchange)
    → Did n (lists a.limit a.token) e (given j) → PutsBack n (objects_of j) (pages.with_objects a j) es h → AreFounded n before (e ∷ es)
page_founded n a j e es h before did back = (
  by_list a.limit a.token did.request,
  puts_founded n (objects_of j) (pages.with_objects a j) es h (before ++ e ∷ [])
      (λ i there. given_last n (key_of i) i before e (by_page a.limit a.token j did there refl)) back,
)

step_founded : (n : Names) (a b : Run) (es before : List Exchange) → Step n a es b → AreFounded n before es
step_founded n a _ _ before (pages.page j e es t did goes more back) = page_founded n a j e es (puts.all t) before did back
step_founded n a _ _ before (pages.halved e did some) = (by_list a.limit a.token did.request, tt)
step_founded n a _ _ before (pages.again e did few) = (by_list a.limit a.token did.request, tt)

stop_founded : (n : Names) (a : Run) (es : List Exchange) (h : Handled) (before : List Exchange) → Stop n a es h → AreFounded n before es
stop_founded n a _ _ before (pages.last j e es t did goes ends back) = page_founded n a j e es (puts.all t) before did back
stop_founded n a _ _ before (pages.put_fails j e es f did goes back) = page_founded n a j e es (puts.failed f) before did back
stop_founded n a _ _ before (pages.other j e did other) = (by_list a.limit a.token did.request, tt)
stop_founded n a _ _ before (pages.too_long e did one) = (by_list a.limit a.token did.request, tt)
stop_founded n a _ _ before (pages.too_often e did many) = (by_list a.limit a.token did.request, tt)
stop_founded n a _ _ before (pages.list_fails e r f did fails) = (by_list a.limit a.token did.request, tt)
stop_founded n a _ _ before pages.unlisted = tt
stop_founded n a _ _ before (pages.unread e asked) = (by_list a.limit a.token asked, tt)

pub runs_founded : (n : Names) (a : Run) (es : List Exchange) (h : Handled) (before : List Exchange) → Runs n a es h → AreFounded n before es
runs_founded n _ _ _ before (pages.stop a es h stops) = stop_founded n a es h before stops
runs_founded n _ _ _ before (pages.step a b es fs h steps rest) =
    founded_more n before es fs (step_founded n a b es before steps) (runs_founded n b fs h (before ++ es) rest)
