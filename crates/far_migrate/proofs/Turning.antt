-- One page in memory, and where a migration stands behind it.
use Rattle.std.proofs.Common.{◌≡◌, ◌<◌, ◌≤◌, ◌+◌, ◌/◌, ℕ, Bool, true, false, List, [], ◌∷◌, map, length, Option, None, unwrap_or, Result, Ok, Err, refl, ap, sym, ◌∙◌, subst, arith}
use Rattle.std.proofs.lemmas.List.{length-map}
use Rattle.kj_value.specs.Json.{Json}
use Rattle.kj_value.specs.Seen.{json}
use Rattle.kj_value.specs.declared.value.JVal.{JVal}
use Rattle.kube_meta.specs.Key.{KeyView}
use Rattle.edge_io.specs.Exchanges.{Exchange}
use Rattle.place.specs.Place.{Names}
use Rattle.wire_client.specs.Far.{Server, Told, Made}
use Rattle.wire_client.specs.laws.FarLaws.{made_more}
use Rattle.wire_client.specs.Calls.{lists}
use Rattle.wire_client.specs.Answers.{given, long, code}
use Rattle.wire_client.specs.Ends.{Came, exchange_of, IsPage}
use Rattle.wire_client.specs.declared.end.ListPage.{ListPage}
use Rattle.far_migrate.specs.Answered.{expired}
use Rattle.far_migrate.specs.Counts.{Counts, with_page, counts_of, fault_of}
use Rattle.far_migrate.specs.Puts.{PutsBack, Handled, all, failed}
use Rattle.far_migrate.specs.Pages as pages
use Rattle.far_migrate.specs.Pages.{Step, Stop, goes_on, goes_on_from, goes_on_with, objects_of, token_of, is_empty, last_key, with_objects, after_page, at_first, most_objects, most_restarts}
use Rattle.far_migrate.specs.inner.Ends.{IsOne}
use Rattle.far_migrate.specs.inner.Runs.{run_of, left_in, TakesPage, Turns}
use Rattle.far_migrate.specs.declared.run.Run.{Run}
use Rattle.far_migrate.specs.declared.paging.Turned.{Turned}
use Rattle.far_migrate.specs.declared.paging.Turned.TheVariants as turned
use Rattle.far_migrate.specs.declared.tally.FarFault.{FarFault}
use Rattle.far_migrate.specs.declared.tally.FarFault.TheVariants as faults
use Rattle.far_migrate.specs.declared.ending.Unlisted.TheVariants as unlisted
use Rattle.far_migrate.proofs.OnePut.{did_of}
use Rattle.far_migrate.proofs.Paged.{ListMade}

-- ---- what a page in memory tells, and its body

objects_are : (j : Json) (p : ListPage) → IsPage j p → objects_of j ≡ p.items
objects_are j p is = ap (λ (o : Option (List Json)). unwrap_or o []) is.items

goes_is : (a : pages.Run) (j : Json) (p : ListPage) → IsPage j p → goes_on a j ≡ goes_on_with a p.items p.token.bytes
goes_is a j p is =
    ap (λ (js : List Json). goes_on_with a js (token_of j)) (objects_are j p is) ∙ ap (λ (t : List ℕ). goes_on_with a p.items t) (sym is.token)

empty_is : (j : Json) (p : ListPage) → IsPage j p → is_empty (token_of j) ≡ is_empty p.token.bytes
empty_is j p is = ap (λ (t : List ℕ). is_empty t) (sym is.token)

back_is : (n : Names) (a : pages.Run) (j : Json) (p : ListPage) (es : List Exchange) (h : Handled) → IsPage j p
    → PutsBack n p.items (with_page (length p.items) a.counts) es h → PutsBack n (objects_of j) (with_objects a j) es h
back_is n a j p es h is back =
    subst (λ (js : List Json). PutsBack n js (with_page (length js) a.counts) es h) (sym (objects_are j p is)) back

same_run : (x y : pages.Run) → x.limit ≡ y.limit → x.expired ≡ y.expired → x.token ≡ y.token → x.last ≡ y.last → x.counts ≡ y.counts → x ≡ y
same_run x y limit times token last counts =
    ap (λ (v : ℕ). record { limit = v; expired = x.expired; token = x.token; last = x.last; counts = x.counts }) limit
    ∙ ap (λ (v : ℕ). record { limit = y.limit; expired = v; token = x.token; last = x.last; counts = x.counts }) times
    ∙ ap (λ (v : List ℕ). record { limit = y.limit; expired = y.expired; token = v; last = x.last; counts = x.counts }) token
    ∙ ap (λ (v : Option KeyView). record { limit = y.limit; expired = y.expired; token = y.token; last = v; counts = x.counts }) last
    ∙ ap (λ (v : Counts). record { limit = y.limit; expired = y.expired; token = y.token; last = y.last; counts = v }) counts

-- ---- a page in memory, of which the items and the token are lent

pub goes_at : (a : pages.Run) (last : Option KeyView) (js : List Json) (token : List ℕ) (b : Bool) → last ≡ a.last → b ≡ goes_on_from last a.counts.listed js token → b ≡ goes_on_with a js token
goes_at a last js token b is goes = goes ∙ ap (λ (l : Option KeyView). goes_on_from l a.counts.listed js token) is

pub goes_as : (a : pages.Run) (js items : List Json) (token bytes : List ℕ) (b c : Bool) → js ≡ items → token ≡ bytes → b ≡ goes_on_with a js token → b ≡ c
    → goes_on_with a items bytes ≡ c
goes_as a js items token bytes b c same_items same_token is now =
    ap (λ (x : List Json). goes_on_with a x bytes) (sym same_items) ∙ ap (λ (x : List ℕ). goes_on_with a js x) (sym same_token) ∙ sym is ∙ now

pub empty_as : (token bytes : List ℕ) (b c : Bool) → token ≡ bytes → b ≡ is_empty token → b ≡ c → is_empty bytes ≡ c
empty_as token bytes b c same is now = ap (λ (x : List ℕ). is_empty x) (sym same) ∙ sym is ∙ now

pub back_as : (n : Names) (js items : List Json) (t : Counts) (len : ℕ) (es : List Exchange) (h : Handled) → js ≡ items → len ≡ length items
    → PutsBack n js (with_page len t) es h → PutsBack n items (with_page (length items) t) es h
back_as n js items t len es h same many back =
    subst (λ (x : List Json). PutsBack n x (with_page (length items) t) es h) same (subst (λ (k : ℕ). PutsBack n js (with_page k t) es h) many back)

pub few_as : (vs : List JVal) (items : List Json) (listed : ℕ) → map json vs ≡ items → listed + length vs ≤ most_objects → listed + length items ≤ most_objects
few_as vs items listed same few =
    let n : length items ≡ length vs = ap (λ (js : List Json). length js) (sym same) ∙ length-map vs json in
    omega (arith, n, few)

-- ---- what is done with a page

-- of another order or number
pub takes_other : (n : Names) (a b : Run) (p : ListPage) → goes_on_with (run_of a) p.items p.token.bytes ≡ false → TakesPage n a p [] b (Err (faults.Answer 0))
takes_other n a b p other j e did is = pages.other j e did (goes_is (run_of a) j p is ∙ other)

-- memory was wanted before its first object was put
pub takes_starved : (n : Names) (a b : Run) (p : ListPage) → TakesPage n a p [] b (Err faults.NoMemory)
takes_starved n a b p j e did is = pages.unread e did.request

pub takes_fault : (n : Names) (a b : Run) (p : ListPage) (es : List Exchange) (f : FarFault) → goes_on_with (run_of a) p.items p.token.bytes ≡ true
    → PutsBack n p.items (with_page (length p.items) (counts_of a.counts)) es (failed (fault_of f)) → TakesPage n a p es b (Err f)
takes_fault n a b p es f goes back j e did is =
    pages.put_fails j e es (fault_of f) did (goes_is (run_of a) j p is ∙ goes) (back_is n (run_of a) j p es (failed (fault_of f)) is back)

pub takes_last : (n : Names) (a b : Run) (p : ListPage) (es : List Exchange) → goes_on_with (run_of a) p.items p.token.bytes ≡ true → is_empty p.token.bytes ≡ true
    → PutsBack n p.items (with_page (length p.items) (counts_of a.counts)) es (all (counts_of b.counts)) → TakesPage n a p es b (Ok turned.Done)
takes_last n a b p es goes ends back j e did is =
    pages.last j e es (counts_of b.counts) did (goes_is (run_of a) j p is ∙ goes) (empty_is j p is ∙ ends) (back_is n (run_of a) j p es (all (counts_of b.counts)) is back)

-- where a migration stands behind a page
pub record StandsBehind (a : Run) (p : ListPage) (b : Run) : Type 0 where
  pub limit : b.limit ≡ a.limit
  pub expired : b.expired ≡ a.expired
  pub token : b.token.bytes ≡ p.token.bytes
  pub last : b.last ≡ last_key None p.items
  pub listed : b.counts.listed ≡ a.counts.listed + length p.items
  pub few : a.counts.listed + length p.items ≤ most_objects

-- the last key of some objects doesn't tell of those before them
same_last : (l : Option KeyView) (js : List Json) → 0 < length js → last_key None js ≡ last_key l js
same_last l [] some = absurd (omega arith)
same_last l (j ∷ js) some = refl

behind_is : (a b : Run) (j : Json) (p : ListPage) → 0 < length p.items → IsPage j p → StandsBehind a p b → after_page (run_of a) j (counts_of b.counts) ≡ run_of b
behind_is a b j p some is at = same_run (after_page (run_of a) j (counts_of b.counts)) (run_of b)
    (sym at.limit) (sym at.expired) (sym is.token ∙ sym at.token)
    (ap (λ (js : List Json). last_key (run_of a).last js) (objects_are j p is) ∙ sym (same_last (run_of a).last p.items some) ∙ sym at.last) refl

-- where another page follows there is an object
some_object : (a : pages.Run) (js : List Json) (token : List ℕ) → goes_on_with a js token ≡ true → is_empty token ≡ false → 0 < length js
some_object a [] token goes more = absurd (cc)
some_object a (j ∷ js) token goes more = omega arith

pub takes_more : (n : Names) (a b : Run) (p : ListPage) (es : List Exchange) → goes_on_with (run_of a) p.items p.token.bytes ≡ true → is_empty p.token.bytes ≡ false
    → PutsBack n p.items (with_page (length p.items) (counts_of a.counts)) es (all (counts_of b.counts)) → StandsBehind a p b → TakesPage n a p es b (Ok turned.More)
takes_more n a b p es goes more back at j e did is =
    let some : 0 < length p.items = some_object (run_of a) p.items p.token.bytes goes more in (
      subst (λ (r : pages.Run). Step n (run_of a) (e ∷ es) r) (behind_is a b j p some is at)
          (pages.page j e es (counts_of b.counts) did (goes_is (run_of a) j p is ∙ goes) (empty_is j p is ∙ more) (back_is n (run_of a) j p es (all (counts_of b.counts)) is back)),
      omega (arith, some, at.limit, at.expired, at.listed, at.few),
    )

-- ---- what a turn comes to

-- the exchanges of one page
abbrev pub TurnMade : Server → Told → Told → Names → Run → Run → Result Turned FarFault → Type 0
TurnMade s before now n a b r = (es : List Exchange) × Made s before now es × Turns n a es b r

-- a page, and what is done with it
pub page_turn : (s : Server) (before mid now : Told) (n : Names) (a b : Run) (token : List ℕ) (j : Json) (p : ListPage) (r : Result Turned FarFault) → token ≡ a.token.bytes
    → Came s before mid n (lists a.limit token) (given j) → IsPage j p
    → (es : List Exchange) × Made s mid now es × TakesPage n a p es b r → TurnMade s before now n a b r
page_turn s before mid now n a b token j p r same c is h =
    let came : Came s before mid n (lists a.limit a.token.bytes) (given j) = subst (λ (t : List ℕ). Came s before mid n (lists a.limit t) (given j)) same c in (
      exchange_of n (lists a.limit a.token.bytes) came.answer ∷ h.0,
      made_more s before mid now (exchange_of n (lists a.limit a.token.bytes) came.answer ∷ []) h.0 came.made h.1,
      h.2 j (exchange_of n (lists a.limit a.token.bytes) came.answer) (did_of s before mid n (lists a.limit a.token.bytes) (given j) came) is,
    )

-- a list that failed
pub fault_turn : (s : Server) (before now : Told) (n : Names) (a b : Run) (f : FarFault) → ListMade s before now n (run_of a) (unlisted.Fault f) → TurnMade s before now n a b (Err f)
fault_turn s before now n a b f m = (m.es, m.made, m.adds)

-- a page that is too long
pub halved_turn : (s : Server) (before now : Told) (n : Names) (a b : Run) → ListMade s before now n (run_of a) unlisted.TooLong
    → 1 < a.limit → run_of b ≡ record (run_of a) { limit = a.limit / 2 } → TurnMade s before now n a b (Ok turned.More)
halved_turn s before now n a b m some is = (m.es, m.made, (by_list m.es m.adds, fewer))
  where
    by_list : (es : List Exchange) → IsOne n (lists a.limit a.token.bytes) long es → Step n (run_of a) es (run_of b)
    by_list es l = subst (λ (xs : List Exchange). Step n (run_of a) xs (run_of b)) (sym l.only)
        (subst (λ (r : pages.Run). Step n (run_of a) (l.e ∷ []) r) (sym is) (pages.halved l.e l.did some))

    fewer : left_in b < left_in a
    fewer =
        let limit : b.limit ≡ a.limit / 2 = ap (λ (r : pages.Run). r.limit) is in
        let times : b.expired ≡ a.expired = ap (λ (r : pages.Run). r.expired) is in
        let listed : b.counts.listed ≡ a.counts.listed = ap (λ (r : pages.Run). r.counts.listed) is in
        omega (arith, some, limit, times, listed)

pub short_turn : (s : Server) (before now : Told) (n : Names) (a b : Run) (f : FarFault) → ListMade s before now n (run_of a) unlisted.TooLong
    → a.limit ≤ 1 → f ≡ faults.Answer 0 → TurnMade s before now n a b (Err f)
short_turn s before now n a b f m one is = (m.es, m.made, by_list m.es m.adds)
  where
    by_list : (es : List Exchange) → IsOne n (lists a.limit a.token.bytes) long es → Stop n (run_of a) es (failed (fault_of f))
    by_list es l = subst (λ (xs : List Exchange). Stop n (run_of a) xs (failed (fault_of f))) (sym l.only)
        (subst (λ (g : FarFault). Stop n (run_of a) (l.e ∷ []) (failed (fault_of g))) (sym is) (pages.too_long l.e l.did one))

-- a token that is too old
pub again_turn : (s : Server) (before now : Told) (n : Names) (a b : Run) → ListMade s before now n (run_of a) unlisted.Expired
    → a.expired < most_restarts → run_of b ≡ at_first a.limit (a.expired + 1) → TurnMade s before now n a b (Ok turned.More)
again_turn s before now n a b m few is = (m.es, m.made, (by_list m.es m.adds, fewer))
  where
    by_list : (es : List Exchange) → IsOne n (lists a.limit a.token.bytes) (code expired) es → Step n (run_of a) es (run_of b)
    by_list es l = subst (λ (xs : List Exchange). Step n (run_of a) xs (run_of b)) (sym l.only)
        (subst (λ (r : pages.Run). Step n (run_of a) (l.e ∷ []) r) (sym is) (pages.again l.e l.did few))

    fewer : left_in b < left_in a
    fewer =
        let limit : b.limit ≡ a.limit = ap (λ (r : pages.Run). r.limit) is in
        let times : b.expired ≡ a.expired + 1 = ap (λ (r : pages.Run). r.expired) is in
        let listed : b.counts.listed ≡ 0 = ap (λ (r : pages.Run). r.counts.listed) is in
        omega (arith, few, limit, times, listed)

pub often_turn : (s : Server) (before now : Told) (n : Names) (a b : Run) (f : FarFault) → ListMade s before now n (run_of a) unlisted.Expired
    → most_restarts ≤ a.expired → f ≡ faults.Restarted → TurnMade s before now n a b (Err f)
often_turn s before now n a b f m many is = (m.es, m.made, by_list m.es m.adds)
  where
    by_list : (es : List Exchange) → IsOne n (lists a.limit a.token.bytes) (code expired) es → Stop n (run_of a) es (failed (fault_of f))
    by_list es l = subst (λ (xs : List Exchange). Stop n (run_of a) xs (failed (fault_of f))) (sym l.only)
        (subst (λ (g : FarFault). Stop n (run_of a) (l.e ∷ []) (failed (fault_of g))) (sym is) (pages.too_often l.e l.did many))
