-- An answer with a code comes of the last exchange.
use Rattle.std.proofs.Common.{◌≡◌, ◌≢◌, ℕ, suc, List, [], ◌∷◌, ap, sym}
use Rattle.kj_value.specs.Json.{Json}
use Rattle.kube_meta.specs.Key.{KeyView}
use Rattle.edge_io.specs.Exchanges.{Exchange}
use Rattle.place.specs.Place.{Names}
use Rattle.wire_client.specs.Answers.{Reply, given, broken, long, gone, code, shape}
use Rattle.far_migrate.specs.Answered.{FailsGet, FailsPut, FailsList}
use Rattle.far_migrate.specs.Counts.{Counts, Fault, answer}
use Rattle.far_migrate.specs.Puts as puts
use Rattle.far_migrate.specs.Puts.{key_of, PutBack, PutsBack, Outcome, fault, Handled, failed}
use Rattle.far_migrate.specs.Pages as pages
use Rattle.far_migrate.specs.Pages.{Run, Stop, Runs}
use Rattle.far_migrate.specs.Told.{EndsWithCode}
use Rattle.far_migrate.specs.laws.Codes.{Tells, told_code, ends_later}

-- what the fault of an answer tells of it
abbrev IsCode : ℕ → Fault → Type 0
IsCode c f = (f ≡ answer c) × (c ≢ 0)

get_tells : (c : ℕ) (r : Reply) (f : Fault) → IsCode c f → FailsGet r f → Tells c r
get_tells c (given j) f is h = absurd h
get_tells c broken f is h = absurd (cc (is.0, h))
get_tells c long f is h = absurd (is.1 cc)
get_tells c gone f is h = absurd h
get_tells c (code d) f is h = cc
get_tells c (shape path) f is h = absurd (is.1 cc)

put_tells : (c : ℕ) (r : Reply) (f : Fault) → IsCode c f → FailsPut r f → Tells c r
put_tells c (given j) f is h = absurd h
put_tells c broken f is h = absurd (cc (is.0, h))
put_tells c long f is h = absurd (is.1 cc)
put_tells c gone f is h = absurd h
put_tells c (code d) f is h = let e = h.1 in cc
put_tells c (shape path) f is h = absurd (is.1 cc)

list_tells : (c : ℕ) (r : Reply) (f : Fault) → IsCode c f → FailsList r f → Tells c r
list_tells c (given j) f is h = absurd h
list_tells c broken f is h = absurd (cc (is.0, h))
list_tells c long f is h = absurd h
list_tells c gone f is h = cc
list_tells c (code d) f is h = let e = h.1 in cc
list_tells c (shape path) f is h = absurd (is.1 cc)

put_code : (n : Names) (key : KeyView) (left : ℕ) (j : Json) (es : List Exchange) (o : Outcome) (c : ℕ) → o ≡ fault (answer c) → c ≢ 0 → PutBack n key left j es o → EndsWithCode es c
put_code n key _ _ _ _ c is some (puts.same left j k e did same) = absurd (cc)
put_code n key _ _ _ _ c is some (puts.other left j k e did other) = absurd (cc)
put_code n key _ _ _ _ c is some (puts.nothing left j e did) = absurd (cc)
put_code n key _ _ _ _ c is some (puts.last j e did) = absurd (cc)
put_code n key _ _ _ _ c is some (puts.again left j k e f es o did got rest) = ends_later (e ∷ f ∷ []) es c (put_code n key (suc left) k es o c is some rest)
put_code n key _ _ _ _ c is some (puts.lost left j e f did got) = absurd (cc)
put_code n key _ _ _ _ c is some (puts.put_fails left j e r f did fails) = told_code n _ e r c [] did (put_tells c r f (cc, some) fails)
put_code n key _ _ _ _ c is some (puts.get_fails left j e g r f did got fails) = told_code n _ g r c (e ∷ []) got (get_tells c r f (cc, some) fails)
put_code n key _ _ _ _ c is some (puts.unput left j) = absurd (cc)
put_code n key _ _ _ _ c is some (puts.put_unread left j e asked) = absurd (cc)
put_code n key _ _ _ _ c is some (puts.ungot left j e did) = absurd (cc)
put_code n key _ _ _ _ c is some (puts.get_unread left j e f did asked) = absurd (cc)

puts_code : (n : Names) (js : List Json) (t : Counts) (es : List Exchange) (h : Handled) (c : ℕ) → h ≡ failed (answer c) → c ≢ 0 → PutsBack n js t es h → EndsWithCode es c
puts_code n _ _ _ _ c is some (puts.done t) = absurd (cc)
puts_code n _ _ _ _ c is some (puts.more j js t k es fs h first rest) = ends_later es fs c (puts_code n js _ fs h c is some rest)
puts_code n _ _ _ _ c is some (puts.fails j js t f es first) = put_code n (key_of j) _ j es (fault f) c (ap fault cc) some first

stop_code : (n : Names) (a : Run) (es : List Exchange) (h : Handled) (c : ℕ) → h ≡ failed (answer c) → c ≢ 0 → Stop n a es h → EndsWithCode es c
stop_code n a _ _ c is some (pages.last j e es t did goes ends back) = absurd (cc)
stop_code n a _ _ c is some (pages.put_fails j e es f did goes back) = ends_later (e ∷ []) es c (puts_code n _ _ es (failed f) c is some back)
stop_code n a _ _ c is some (pages.other j e did other) =
    let zero_is : 0 ≡ c = cc in absurd (some (sym zero_is))
stop_code n a _ _ c is some (pages.too_long e did one) =
    let zero_is : 0 ≡ c = cc in absurd (some (sym zero_is))
stop_code n a _ _ c is some (pages.too_often e did many) = absurd (cc)
stop_code n a _ _ c is some (pages.list_fails e r f did fails) = told_code n _ e r c [] did (list_tells c r f (cc, some) fails)
stop_code n a _ _ c is some pages.unlisted = absurd (cc)
stop_code n a _ _ c is some (pages.unread e asked) = absurd (cc)

pub runs_code : (n : Names) (a : Run) (es : List Exchange) (h : Handled) (c : ℕ) → h ≡ failed (answer c) → c ≢ 0 → Runs n a es h → EndsWithCode es c
runs_code n _ _ _ c is some (pages.stop a es h stops) = stop_code n a es h c is some stops
runs_code n _ _ _ c is some (pages.step a b es fs h steps rest) = ends_later es fs c (runs_code n b fs h c is some rest)
