-- How often a token was too old.
use Rattle.std.proofs.Common.{◌≡◌, ◌+◌, ◌-◌, ◌≤◌, ℕ, zero, suc, List, [], ◌∷◌, ◌++◌, refl, ap, sym, ◌∙◌, append_assoc, arith}
use Rattle.kj_value.specs.Json.{Json}
use Rattle.kube_meta.specs.Key.{KeyView}
use Rattle.edge_io.specs.Exchanges.{Exchange}
use Rattle.place.specs.Place.{Names}
use Rattle.wire_client.specs.Answers.{Reply, given, broken, long, gone, code, shape}
use Rattle.far_migrate.specs.Answered.{FailsGet, FailsPut, FailsList}
use Rattle.far_migrate.specs.Counts.{Counts, Fault, restarted}
use Rattle.far_migrate.specs.Puts as puts
use Rattle.far_migrate.specs.Puts.{key_of, PutBack, PutsBack, Outcome, fault, Handled, failed}
use Rattle.far_migrate.specs.Pages as pages
use Rattle.far_migrate.specs.Pages.{Run, Step, Stop, Runs}
use Rattle.far_migrate.specs.Told.{HasExpired}

-- no answer to a put, a get or a list is told so
put_other : (r : Reply) (f : Fault) → f ≡ restarted → FailsPut r f → ⊥
put_other (given j) f is h = h
put_other broken f is h = cc
put_other long f is h = cc
put_other gone f is h = h
put_other (code c) f is h = let e = h.1 in cc
put_other (shape path) f is h = cc

get_other : (r : Reply) (f : Fault) → f ≡ restarted → FailsGet r f → ⊥
get_other (given j) f is h = h
get_other broken f is h = cc
get_other long f is h = cc
get_other gone f is h = h
get_other (code c) f is h = cc
get_other (shape path) f is h = cc

list_other : (r : Reply) (f : Fault) → f ≡ restarted → FailsList r f → ⊥
list_other (given j) f is h = h
list_other broken f is h = cc
list_other long f is h = h
list_other gone f is h = cc
list_other (code c) f is h = let e = h.1 in cc
list_other (shape path) f is h = cc

back_other : (n : Names) (key : KeyView) (left : ℕ) (j : Json) (es : List Exchange) (o : Outcome) → o ≡ fault restarted → PutBack n key left j es o → ⊥
back_other n key _ _ _ _ is (puts.same left j k e did same) = cc
back_other n key _ _ _ _ is (puts.other left j k e did other) = cc
back_other n key _ _ _ _ is (puts.nothing left j e did) = cc
back_other n key _ _ _ _ is (puts.last j e did) = cc
back_other n key _ _ _ _ is (puts.again left j k e f es o did got rest) = back_other n key (suc left) k es o is rest
back_other n key _ _ _ _ is (puts.lost left j e f did got) = cc
back_other n key _ _ _ _ is (puts.put_fails left j e r f did fails) = put_other r f (cc) fails
back_other n key _ _ _ _ is (puts.get_fails left j e g r f did got fails) = get_other r f (cc) fails
back_other n key _ _ _ _ is (puts.unput left j) = cc
back_other n key _ _ _ _ is (puts.put_unread left j e asked) = cc
back_other n key _ _ _ _ is (puts.ungot left j e did) = cc
back_other n key _ _ _ _ is (puts.get_unread left j e f did asked) = cc

page_other : (n : Names) (js : List Json) (t : Counts) (es : List Exchange) (h : Handled) → h ≡ failed restarted → PutsBack n js t es h → ⊥
page_other n _ _ _ _ is (puts.done t) = cc
page_other n _ _ _ _ is (puts.more j js t k es fs h first rest) = page_other n js _ fs h is rest
page_other n _ _ _ _ is (puts.fails j js t f es first) = back_other n (key_of j) _ j es (fault f) (ap fault cc) first

expired_later : (n : Names) (k : ℕ) (es fs : List Exchange) → HasExpired n k fs → HasExpired n k (es ++ fs)
expired_later n zero es fs h = tt
expired_later n (suc k) es fs h =
    (es ++ h.0, h.1, h.2, h.3, h.4, ap (λ (gs : List Exchange). es ++ gs) h.5 ∙ sym (append_assoc es h.0 (h.1 ∷ h.2)), h.6, h.7)

-- once more than a list may begin again
abbrev pub most_answers : ℕ
most_answers = 17

step_expired : (n : Names) (a b : Run) (es fs : List Exchange) → Step n a es b → a.expired ≤ 16
    → (b.expired ≤ 16 → HasExpired n (most_answers - b.expired) fs) → HasExpired n (most_answers - a.expired) (es ++ fs)
step_expired n a _ _ fs (pages.page j e es t did goes more back) few later = expired_later n _ (e ∷ es) fs (later few)
step_expired n a _ _ fs (pages.halved e did some) few later = expired_later n _ (e ∷ []) fs (later few)
step_expired n a _ _ fs (pages.again e did below) few later =
    let one : most_answers - a.expired ≡ suc (most_answers - (a.expired + 1)) = omega (arith, below) in
    rw one ([], e, fs, a.limit, a.token, refl, did, later (omega (arith, below)))

stop_expired : (n : Names) (a : Run) (es : List Exchange) (h : Handled) → h ≡ failed restarted → Stop n a es h → a.expired ≤ 16 → HasExpired n (most_answers - a.expired) es
stop_expired n a _ _ is (pages.last j e es t did goes ends back) few = absurd (cc)
stop_expired n a _ _ is (pages.put_fails j e es f did goes back) few = absurd (page_other n _ _ es (failed f) is back)
stop_expired n a _ _ is (pages.other j e did other) few = absurd (cc)
stop_expired n a _ _ is (pages.too_long e did one) few = absurd (cc)
stop_expired n a _ _ is (pages.too_often e did many) few =
    let one : most_answers - a.expired ≡ 1 = omega (arith, few, many) in
    rw one ([], e, [], a.limit, a.token, refl, did, tt)
stop_expired n a _ _ is (pages.list_fails e r f did fails) few = absurd (list_other r f (cc) fails)
stop_expired n a _ _ is pages.unlisted few = absurd (cc)
stop_expired n a _ _ is (pages.unread e asked) few = absurd (cc)

pub runs_expired : (n : Names) (a : Run) (es : List Exchange) (h : Handled) → h ≡ failed restarted → Runs n a es h → a.expired ≤ 16 → HasExpired n (most_answers - a.expired) es
runs_expired n _ _ _ is (pages.stop a es h stops) few = stop_expired n a es h is stops few
runs_expired n _ _ _ is (pages.step a b es fs h steps rest) few = step_expired n a b es fs steps few (λ less. runs_expired n b fs h is rest less)
