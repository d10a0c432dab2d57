-- At the end of a migration with a tally in which nothing is contested every object stands at the version that is stored.
use Rattle.std.proofs.Common.{◌≡◌, ◌≢◌, ◌⊎◌, ◌≤◌, ℕ, suc, true, false, List, [], ◌∷◌, ◌++◌, map, refl, ap, sym, ◌∙◌, inl, inr, subst, arith}
use Rattle.api_calls.specs.Legal.{Each, In}
use Rattle.http_routes.specs.Paths.{IsKey}
use Rattle.kj_value.specs.Json.{Json}
use Rattle.kube_meta.specs.Key.{KeyView}
use Rattle.edge_io.specs.Exchanges.{Exchange}
use Rattle.api_calls.specs.Item.{Item}
use Rattle.place.specs.Place.{Names}
use Rattle.wire_client.specs.Far.{Server, Chain}
use Rattle.wire_client.specs.Calls.{Call, lists, gets, puts}
use Rattle.wire_client.specs.Answers.{Reply, given, gone as gone_reply}
use Rattle.far_migrate.specs.Counts.{Kind, written, unchanged, gone, contested, Counts, counted}
use Rattle.far_migrate.specs.Answered.{Did}
use Rattle.far_migrate.specs.Puts as puts
use Rattle.far_migrate.specs.Puts.{key_of, most_puts, PutBack, PutsBack, Outcome, kind, Handled, all}
use Rattle.far_migrate.specs.Pages as pages
use Rattle.far_migrate.specs.Pages.{Run, Step, Stop, Runs, objects_of, token_of, is_empty, with_objects, at_first, first_limit}
use Rattle.far_migrate.specs.Migrates.{Migrates}
use Rattle.far_laws.specs.Answering.{GoesOn, Answered}
use Rattle.far_laws.proofs.Histories.{At, answered_at, chain_on, ended, goes_further, goes_nowhere, serves_on, split, turned}
use Rattle.far_laws.proofs.Keyed.{given_valid}
use Rattle.far_laws.proofs.Upgrades.{keys_of, Upgrades}

-- ---- one object

-- what follows of an answer holds behind it
settled_by : (s : Server) (n : Names) (first last : List Item) (u : Upgrades s n first last) (key : KeyView) (call : Call) (log : List Item) (reply : Reply) (mid next : List Item)
    → At s n call log reply mid
    → ((at own : List Item) → GoesOn first at → GoesOn (at ++ own) last → Answered s n call at own reply → u.Settled (at ++ own) key)
    → GoesOn first log → GoesOn mid next → GoesOn next last → u.Settled next key
settled_by s n first last u key call log reply mid next a law from on to =
    let to_mid : GoesOn (a.at ++ a.own) last = subst (λ (l : List Item). GoesOn l last) a.mid_is (goes_further mid next last on to) in
    let from_at : GoesOn first a.at = goes_further first log a.at from a.on in
    let here : u.Settled mid key = subst (λ (l : List Item). u.Settled l key) (sym a.mid_is) (law a.at a.own from_at to_mid a.answered) in
    let from_mid : GoesOn first mid = subst (λ (l : List Item). GoesOn first l) (sym a.mid_is) (goes_further first a.at (a.at ++ a.own) from_at (a.own, refl)) in
    u.stays mid next key from_mid on to here

put_settles : (s : Server) (n : Names) (first last : List Item) (u : Upgrades s n first last) (key : KeyView) (left : ℕ) (j : Json) (es : List Exchange) (o : Outcome) (k : Kind) (log next : List Item) → IsKey key
    → o ≡ kind k → k ≢ contested → PutBack n key left j es o → GoesOn first log → Chain s log es next → GoesOn next last → u.Settled next key
put_settles s n first last u key _ _ _ _ k log next valid is other (puts.same left j i e did same) from chain to =
    let t = turned s log e [] next chain in
    settled_by s n first last u key (puts key j) log (given i) t.mid next (answered_at s n (puts key j) log (given i) t.mid e did tt t.serves)
    (λ at own a b c. u.put at own key j i valid a b c) from (ended s t.mid next t.rest) to
put_settles s n first last u key _ _ _ _ k log next valid is other (puts.other left j i e did differs) from chain to =
    let t = turned s log e [] next chain in
    settled_by s n first last u key (puts key j) log (given i) t.mid next (answered_at s n (puts key j) log (given i) t.mid e did tt t.serves)
    (λ at own a b c. u.put at own key j i valid a b c) from (ended s t.mid next t.rest) to
put_settles s n first last u key _ _ _ _ k log next valid is other (puts.nothing left j e did) from chain to =
    let t = turned s log e [] next chain in
    settled_by s n first last u key (puts key j) log gone_reply t.mid next (answered_at s n (puts key j) log gone_reply t.mid e did tt t.serves)
    (λ at own a b c. u.unput at own key j valid a b c) from (ended s t.mid next t.rest) to
put_settles s n first last u key _ _ _ _ k log next valid is other (puts.last j e did) from chain to = absurd (other (cc))
put_settles s n first last u key _ _ _ _ k log next valid is other (puts.again left j i e f es o did got rest) from chain to =
    let t = turned s log e (f ∷ es) next chain in
    let r = turned s t.mid f es next t.rest in
    put_settles s n first last u key (suc left) i es o k r.mid next valid is other rest
    (goes_further first log r.mid from (goes_further log t.mid r.mid (serves_on s log e t.mid t.serves) (serves_on s t.mid f r.mid r.serves))) r.rest to
put_settles s n first last u key _ _ _ _ k log next valid is other (puts.lost left j e f did got) from chain to =
    let t = turned s log e (f ∷ []) next chain in
    let r = turned s t.mid f [] next t.rest in
    settled_by s n first last u key (gets key) t.mid gone_reply r.mid next (answered_at s n (gets key) t.mid gone_reply r.mid f got tt r.serves)
    (λ at own a b c. u.ungot at own key valid a b c) (goes_further first log t.mid from (serves_on s log e t.mid t.serves)) (ended s r.mid next r.rest) to
put_settles s n first last u key _ _ _ _ k log next valid is other (puts.put_fails left j e r f did fails) from chain to = absurd (cc)
put_settles s n first last u key _ _ _ _ k log next valid is other (puts.get_fails left j e g r f did got fails) from chain to = absurd (cc)
put_settles s n first last u key _ _ _ _ k log next valid is other (puts.unput left j) from chain to = absurd (cc)
put_settles s n first last u key _ _ _ _ k log next valid is other (puts.put_unread left j e asked) from chain to = absurd (cc)
put_settles s n first last u key _ _ _ _ k log next valid is other (puts.ungot left j e did) from chain to = absurd (cc)
put_settles s n first last u key _ _ _ _ k log next valid is other (puts.get_unread left j e f did asked) from chain to = absurd (cc)

-- ---- the objects of a page

-- the objects of these keys are settled
record AreSettled (s : Server) (n : Names) (first last : List Item) (u : Upgrades s n first last) (log : List Item) (keys : List KeyView) : Type 0 where
  each : (key : KeyView) → In key keys → u.Settled log key

none_settled : (s : Server) (n : Names) (first last : List Item) (u : Upgrades s n first last) (log : List Item) → AreSettled s n first last u log []
none_settled s n first last u log = record { each = λ key there. absurd there }

one_settled : (s : Server) (n : Names) (first last : List Item) (u : Upgrades s n first last) (log : List Item) (key : KeyView) (keys : List KeyView)
    → u.Settled log key → AreSettled s n first last u log keys → AreSettled s n first last u log (key ∷ keys)
one_settled s n first last u log key keys one rest = record { each = λ k there. by_place k there }
  where
    by_place : (k : KeyView) → (k ≡ key) ⊎ In k keys → u.Settled log k
    by_place k (inl is) = subst (λ (h : KeyView). u.Settled log h) (sym is) one
    by_place k (inr there) = rest.each k there

in_either : (key : KeyView) (xs ys : List KeyView) → In key (xs ++ ys) → In key xs ⊎ In key ys
in_either key [] ys there = inr there
in_either key (x ∷ xs) ys there = by_place there (λ later. in_either key xs ys later)
  where
    by_rest : In key xs ⊎ In key ys → In key (x ∷ xs) ⊎ In key ys
    by_rest (inl l) = inl (inr l)
    by_rest (inr r) = inr r

    by_place : (key ≡ x) ⊎ In key (xs ++ ys) → (In key (xs ++ ys) → In key xs ⊎ In key ys) → In key (x ∷ xs) ⊎ In key ys
    by_place (inl is) more = inl (inl is)
    by_place (inr later) more = by_rest (more later)

both_settled : (s : Server) (n : Names) (first last : List Item) (u : Upgrades s n first last) (log : List Item) (xs ys : List KeyView)
    → AreSettled s n first last u log xs → AreSettled s n first last u log ys → AreSettled s n first last u log (xs ++ ys)
both_settled s n first last u log xs ys p q = record { each = λ key there. by_place key (in_either key xs ys there) }
  where
    by_place : (key : KeyView) → In key xs ⊎ In key ys → u.Settled log key
    by_place key (inl l) = p.each key l
    by_place key (inr r) = q.each key r

still_settled : (s : Server) (n : Names) (first last : List Item) (u : Upgrades s n first last) (log next : List Item) (keys : List KeyView)
    → GoesOn first log → GoesOn log next → GoesOn next last → AreSettled s n first last u log keys → AreSettled s n first last u next keys
still_settled s n first last u log next keys from on to p = record { each = λ key there. u.stays log next key from on to (p.each key there) }

-- where none is contested after an object was counted, it isn't, and none was before
not_contested : (k : Kind) (t : Counts) → (counted k t).contested ≡ 0 → (k ≢ contested) × (t.contested ≡ 0)
not_contested written t none = ((λ e. cc), none)
not_contested unchanged t none = ((λ e. cc), none)
not_contested gone t none = ((λ e. cc), none)
not_contested contested t none = absurd (omega (arith, none))

-- objects that were put back, none of them contested
record PageSettled (s : Server) (n : Names) (first last : List Item) (u : Upgrades s n first last) (next : List Item) (js : List Json) (t : Counts) : Type 0 where
  before : t.contested ≡ 0
  settled : AreSettled s n first last u next (map key_of js)

page_settles : (s : Server) (n : Names) (first last : List Item) (u : Upgrades s n first last) (js : List Json) (t : Counts) (es : List Exchange) (h : Handled) (v : Counts) (log next : List Item)
    → Each IsKey (map key_of js) → h ≡ all v → v.contested ≡ 0 → PutsBack n js t es h → GoesOn first log → Chain s log es next → GoesOn next last → PageSettled s n first last u next js t
page_settles s n first last u _ _ _ _ v log next valid is none (puts.done t) from chain to =
    let same : t ≡ v = cc in
    record { before = ap (λ (c : Counts). c.contested) same ∙ none; settled = none_settled s n first last u next }
page_settles s n first last u _ _ _ _ v log next valid is none (puts.more j js t k es fs h one rest) from chain to =
    let cut = split s log es fs next chain in
    let on : GoesOn log cut.mid = chain_on s log es cut.mid cut.front in
    let from_mid : GoesOn first cut.mid = goes_further first log cut.mid from on in
    let later = page_settles s n first last u js (counted k t) fs h v cut.mid next valid.1 is none rest from_mid cut.back to in
    let other = not_contested k t later.before in
    let on_next : GoesOn cut.mid next = chain_on s cut.mid fs next cut.back in
    let here : u.Settled cut.mid (key_of j) = put_settles s n first last u (key_of j) most_puts j es (kind k) k log cut.mid valid.0 refl other.0 one from cut.front (goes_further cut.mid next last on_next to) in
    record {
      before = other.1;
      settled = one_settled s n first last u next (key_of j) (map key_of js) (u.stays cut.mid next (key_of j) from_mid on_next to here) later.settled;
    }
page_settles s n first last u _ _ _ _ v log next valid is none (puts.fails j js t f es one) from chain to = absurd (cc)

-- ---- from page to page

-- At the first page nothing was seen; before another one, what was.
data Place (s : Server) (n : Names) (first last : List Item) (u : Upgrades s n first last) (log : List Item) : List ℕ → List KeyView → Type 0 where
  start : Place s n first last u log [] []
  later : (token : List ℕ) (seen : List KeyView) → u.Left log token seen → Place s n first last u log token seen

-- what was seen of the list is settled, where none of it is contested
record Stands (s : Server) (n : Names) (first last : List Item) (u : Upgrades s n first last) (a : Run) (log : List Item) : Type 0 where
  seen : List KeyView
  place : Place s n first last u log a.token seen
  limited : a.limit ≤ first_limit
  settled : a.counts.contested ≡ 0 → AreSettled s n first last u log seen

place_stays : (s : Server) (n : Names) (first last : List Item) (u : Upgrades s n first last) (log next : List Item) (token : List ℕ) (seen : List KeyView)
    → GoesOn first log → GoesOn log next → GoesOn next last → Place s n first last u log token seen → Place s n first last u next token seen
place_stays s n first last u log next _ _ from on to start = start
place_stays s n first last u log next _ _ from on to (later token seen left) = later token seen (u.left_stays log next token seen from on to left)

stands_still : (s : Server) (n : Names) (first last : List Item) (u : Upgrades s n first last) (a : Run) (log next : List Item)
    → GoesOn first log → GoesOn log next → GoesOn next last → Stands s n first last u a log → Stands s n first last u a next
stands_still s n first last u a log next from on to st = record {
  seen = st.seen;
  place = place_stays s n first last u log next a.token st.seen from on to st.place;
  limited = st.limited;
  settled = λ none. still_settled s n first last u log next st.seen from on to (st.settled none);
}

-- the page that was answered is the last, or the list goes on
page_ends : (s : Server) (n : Names) (first last : List Item) (u : Upgrades s n first last) (at own : List Item) (limit : ℕ) (token : List ℕ) (seen : List KeyView) (j : Json)
    → limit ≤ first_limit → Place s n first last u at token seen → GoesOn first at → GoesOn (at ++ own) last → Answered s n (lists limit token) at own (given j) → is_empty (token_of j) ≡ true
    → (key : KeyView) → In key (seen ++ keys_of j) ⊎ u.Settled (at ++ own) key
page_ends s n first last u at own limit _ _ j small start from to answered ends key = u.first_ends at own limit j small from to answered ends key
page_ends s n first last u at own limit _ _ j small (later token seen left) from to answered ends key = u.next_ends at own limit token seen j small from to left answered ends key

page_left : (s : Server) (n : Names) (first last : List Item) (u : Upgrades s n first last) (at own : List Item) (limit : ℕ) (token : List ℕ) (seen : List KeyView) (j : Json)
    → limit ≤ first_limit → Place s n first last u at token seen → GoesOn first at → GoesOn (at ++ own) last → Answered s n (lists limit token) at own (given j) → is_empty (token_of j) ≡ false
    → u.Left (at ++ own) (token_of j) (seen ++ keys_of j)
page_left s n first last u at own limit _ _ j small start from to answered more = u.first_left at own limit j small from to answered more
page_left s n first last u at own limit _ _ j small (later token seen left) from to answered more = u.next_left at own limit token seen j small from to left answered more

-- a page and its objects, put back
record Shown (s : Server) (n : Names) (first last : List Item) (u : Upgrades s n first last) (a : Run) (log : List Item) (j : Json) (es : List Exchange) (next : List Item) : Type 0 where
  at : List Item
  own : List Item
  from : GoesOn first at
  on : GoesOn log at
  answered : Answered s n (lists a.limit a.token) at own (given j)
  puts : Chain s (at ++ own) es next

shown : (s : Server) (n : Names) (first last : List Item) (u : Upgrades s n first last) (a : Run) (log next : List Item) (j : Json) (e : Exchange) (es : List Exchange)
    → Did n (lists a.limit a.token) e (given j) → GoesOn first log → Chain s log (e ∷ es) next → Shown s n first last u a log j es next
shown s n first last u a log next j e es did from chain =
    let t = turned s log e es next chain in
    let c = answered_at s n (lists a.limit a.token) log (given j) t.mid e did tt t.serves in
    record {
      at = c.at;
      own = c.own;
      from = goes_further first log c.at from c.on;
      on = c.on;
      answered = c.answered;
      puts = subst (λ (l : List Item). Chain s l es next) c.mid_is t.rest;
    }

record AfterPage (s : Server) (n : Names) (first last : List Item) (u : Upgrades s n first last) (a : Run) (next : List Item) (j : Json) (seen : List KeyView) (t : Counts) : Type 0 where
  settled : t.contested ≡ 0 → AreSettled s n first last u next (seen ++ keys_of j)
  ends : is_empty (token_of j) ≡ true → (key : KeyView) → In key (seen ++ keys_of j) ⊎ u.Settled next key
  left : is_empty (token_of j) ≡ false → u.Left next (token_of j) (seen ++ keys_of j)

page_done : (s : Server) (n : Names) (first last : List Item) (u : Upgrades s n first last) (a : Run) (log next : List Item) (j : Json) (e : Exchange) (es : List Exchange) (t : Counts)
    (st : Stands s n first last u a log) → Did n (lists a.limit a.token) e (given j) → PutsBack n (objects_of j) (with_objects a j) es (all t)
    → GoesOn first log → Chain s log (e ∷ es) next → GoesOn next last → AfterPage s n first last u a next j st.seen t
unfolding stands_still
page_done s n first last u a log next j e es t st did back from chain to =
    let c = shown s n first last u a log next j e es did from chain in
    let on : GoesOn (c.at ++ c.own) next = chain_on s (c.at ++ c.own) es next c.puts in
    let to_page : GoesOn (c.at ++ c.own) last = goes_further (c.at ++ c.own) next last on to in
    let from_page : GoesOn first (c.at ++ c.own) = goes_further first c.at (c.at ++ c.own) c.from (c.own, refl) in
    let there = stands_still s n first last u a log c.at from c.on (goes_further c.at (c.at ++ c.own) last (c.own, refl) to_page) st in
    let from_log : GoesOn log next = goes_further log c.at next c.on (goes_further c.at (c.at ++ c.own) next (c.own, refl) on) in
    record {
      settled = λ none.
          let p = page_settles s n first last u (objects_of j) (with_objects a j) es (all t) t (c.at ++ c.own) next (given_valid n a.limit a.token c.answered.bytes j c.answered.replies) refl none back from_page c.puts to in
          both_settled s n first last u next st.seen (keys_of j) (still_settled s n first last u log next st.seen from from_log to (st.settled p.before)) p.settled;
      ends = λ ends key.
          by_place key (page_ends s n first last u c.at c.own a.limit a.token st.seen j st.limited there.place c.from to_page c.answered ends key) from_page on;
      left = λ more. u.left_stays (c.at ++ c.own) next (token_of j) (st.seen ++ keys_of j) from_page on to
          (page_left s n first last u c.at c.own a.limit a.token st.seen j st.limited there.place c.from to_page c.answered more);
    }
  where
    by_place : {log : List Item} (key : KeyView) → In key (st.seen ++ keys_of j) ⊎ u.Settled log key → GoesOn first log → GoesOn log next
        → In key (st.seen ++ keys_of j) ⊎ u.Settled next key
    by_place key (inl there) from on = inl there
    by_place key (inr settled) from on = inr (u.stays _ next key from on to settled)

step_stands : (s : Server) (n : Names) (first last : List Item) (u : Upgrades s n first last) (a b : Run) (es : List Exchange) (log next : List Item)
    → Step n a es b → GoesOn first log → Chain s log es next → GoesOn next last → Stands s n first last u a log → Stands s n first last u b next
step_stands s n first last u a _ _ log next (pages.page j e es t did goes more back) from chain to st =
    let p = page_done s n first last u a log next j e es t st did back from chain to in
    record { seen = st.seen ++ keys_of j; place = later (token_of j) (st.seen ++ keys_of j) (p.left more); limited = st.limited; settled = p.settled }
step_stands s n first last u a _ _ log next (pages.halved e did some) from chain to st =
    let there = stands_still s n first last u a log next from (chain_on s log (e ∷ []) next chain) to st in
    let limited = st.limited in
    record { seen = there.seen; place = there.place; limited = omega (arith, limited); settled = there.settled }
step_stands s n first last u a _ _ log next (pages.again e did few) from chain to st =
    record { seen = []; place = start; limited = st.limited; settled = λ none. none_settled s n first last u next }

stop_settles : (s : Server) (n : Names) (first last : List Item) (u : Upgrades s n first last) (a : Run) (es : List Exchange) (h : Handled) (t : Counts) (log : List Item)
    → h ≡ all t → t.contested ≡ 0 → Stop n a es h → GoesOn first log → Chain s log es last → Stands s n first last u a log → (key : KeyView) → u.Settled last key
stop_settles s n first last u a _ _ t log is none (pages.last j e es v did goes ends back) from chain st key =
    let same : v ≡ t = cc in
    let p = page_done s n first last u a log last j e es v st did back from chain (goes_nowhere last) in
    by_place (p.ends ends key) (p.settled (ap (λ (c : Counts). c.contested) same ∙ none))
  where
    by_place : In key (st.seen ++ keys_of j) ⊎ u.Settled last key → AreSettled s n first last u last (st.seen ++ keys_of j) → u.Settled last key
    by_place (inl there) p = p.each key there
    by_place (inr settled) p = settled
stop_settles s n first last u a _ _ t log is none (pages.put_fails j e es f did goes back) from chain st key = absurd (cc)
stop_settles s n first last u a _ _ t log is none (pages.other j e did other) from chain st key = absurd (cc)
stop_settles s n first last u a _ _ t log is none (pages.too_long e did one) from chain st key = absurd (cc)
stop_settles s n first last u a _ _ t log is none (pages.too_often e did many) from chain st key = absurd (cc)
stop_settles s n first last u a _ _ t log is none (pages.list_fails e r f did fails) from chain st key = absurd (cc)
stop_settles s n first last u a _ _ t log is none pages.unlisted from chain st key = absurd (cc)
stop_settles s n first last u a _ _ t log is none (pages.unread e asked) from chain st key = absurd (cc)

runs_settle : (s : Server) (n : Names) (first last : List Item) (u : Upgrades s n first last) (a : Run) (es : List Exchange) (h : Handled) (t : Counts) (log : List Item)
    → h ≡ all t → t.contested ≡ 0 → Runs n a es h → GoesOn first log → Chain s log es last → Stands s n first last u a log → (key : KeyView) → u.Settled last key
runs_settle s n first last u _ _ _ t log is none (pages.stop a es h stops) from chain st key = stop_settles s n first last u a es h t log is none stops from chain st key
runs_settle s n first last u _ _ _ t log is none (pages.step a b es fs h steps rest) from chain st key =
    let cut = split s log es fs last chain in
    let to : GoesOn cut.mid last = chain_on s cut.mid fs last cut.back in
    runs_settle s n first last u b fs h t cut.mid is none rest (goes_further first log cut.mid from (chain_on s log es cut.mid cut.front)) cut.back
    (step_stands s n first last u a b es log cut.mid steps from cut.front to st) key

-- a whole migration between the two histories
pub all_settled : (s : Server) (n : Names) (first last : List Item) (u : Upgrades s n first last) (es : List Exchange) (t : Counts)
    → Migrates n es (all t) → t.contested ≡ 0 → Chain s first es last → (key : KeyView) → u.Settled last key
all_settled s n first last u es t runs none chain key =
    runs_settle s n first last u (at_first first_limit 0) es (all t) t first refl none runs (goes_nowhere first) chain
    (record { seen = []; place = start; limited = omega arith; settled = λ e. none_settled s n first last u first }) key
