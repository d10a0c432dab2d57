-- How exchanges go on: whatever follows from here follows from the start.
use Rattle.std.proofs.Common.{Ok, ◌≡◌, ◌+◌, ◌<◌, ◌≤◌, ℕ, zero, suc, List, [], ◌∷◌, ◌++◌, map, drop, length, get_or, ap, sym, ◌∙◌, append_assoc, add-one, subst, arith}
use Rattle.std.proofs.lemmas.List.{append-nil, drop_all, length-map}
use Rattle.kj_value.specs.Json.{Json}
use Rattle.kj_value.specs.Seen.{json}
use Rattle.kj_value.specs.declared.value.JVal.{JVal}
use Rattle.edge_io.specs.Exchanges.{Exchange}
use Rattle.place.specs.Place.{Names}
use Rattle.wire_client.specs.Far.{Server, Told, Made}
use Rattle.wire_client.specs.laws.FarLaws.{made_more}
use Rattle.far_migrate.specs.Counts.{Kind, written, unchanged, gone, contested, Counts, counted, Fault, memory}
use Rattle.far_migrate.specs.Puts as puts
use Rattle.far_migrate.specs.Puts.{key_of, most_puts, PutBack, PutsBack, Handled, all, failed, kind, fault}
use Rattle.far_migrate.specs.Pages as pages
use Rattle.far_migrate.specs.Pages.{Run, Step, Stop, Runs}
use Rattle.far_migrate.specs.inner.Runs.{run_of, Turns}
use Rattle.far_migrate.specs.declared.run.Run.{Run as CodeRun}
use Rattle.far_migrate.specs.declared.paging.Turned.TheVariants as turned

-- ---- the objects of a page

pub front_is : (vs : List JVal) (i : ℕ) (v : JVal) → i < length vs → v ≡ get_or vs i v → drop i (map json vs) ≡ json v ∷ drop (i + 1) (map json vs)
front_is vs i v within at = front_of vs i v within at ∙ ap (λ (k : ℕ). json v ∷ drop k (map json vs)) (sym (add-one i))
  where
    front_of : (vs : List JVal) (i : ℕ) (v : JVal) → i < length vs → v ≡ get_or vs i v → drop i (map json vs) ≡ json v ∷ drop (suc i) (map json vs)
    front_of [] i v within at = absurd (omega arith)
    front_of (w ∷ vs) zero v within at = ap (λ (u : JVal). json u ∷ map json vs) (sym at)
    front_of (w ∷ vs) (suc i) v within at = front_of vs i v (omega arith) at

-- these exchanges put the first objects back, and the rest is to come
abbrev pub Goes : Names → List Json → Counts → List Json → Counts → List Exchange → Type 0
Goes n js t rest u es = (fs : List Exchange) (h : Handled) → PutsBack n rest u fs h → PutsBack n js t (es ++ fs) h

pub goes_start : (n : Names) (js : List Json) (t : Counts) → Goes n js t js t []
goes_start n js t fs h puts = puts

pub goes_more : (n : Names) (js : List Json) (t : Counts) (j : Json) (rest left : List Json) (u : Counts) (es gs : List Exchange) (k : Kind)
    → left ≡ j ∷ rest → Goes n js t left u es → PutBack n (key_of j) most_puts j gs (kind k) → Goes n js t rest (counted k u) (es ++ gs)
goes_more n js t j rest left u es gs k is goes put fs h back =
    subst (λ (xs : List Exchange). PutsBack n js t xs h) (sym (append_assoc es gs fs))
    (goes (gs ++ fs) h (subst (λ (ls : List Json). PutsBack n ls u (gs ++ fs) h) (sym is) (puts.more j rest u k gs fs h put back)))

pub goes_fails : (n : Names) (js : List Json) (t : Counts) (j : Json) (rest left : List Json) (u : Counts) (es gs : List Exchange) (f : Fault)
    → left ≡ j ∷ rest → Goes n js t left u es → PutBack n (key_of j) most_puts j gs (fault f) → PutsBack n js t (es ++ gs) (failed f)
goes_fails n js t j rest left u es gs f is goes put =
    goes gs (failed f) (subst (λ (ls : List Json). PutsBack n ls u gs (failed f)) (sym is) (puts.fails j rest u f gs put))

-- memory is wanted before the next object is put
pub goes_starves : (n : Names) (js : List Json) (t : Counts) (j : Json) (rest left : List Json) (u : Counts) (es : List Exchange)
    → left ≡ j ∷ rest → Goes n js t left u es → PutsBack n js t es (failed memory)
goes_starves n js t j rest left u es is goes =
    subst (λ (xs : List Exchange). PutsBack n js t xs (failed memory)) (append-nil es)
    (goes_fails n js t j rest left u es [] memory is goes (puts.unput most_puts j))

pub goes_done : (n : Names) (js : List Json) (t : Counts) (left : List Json) (u : Counts) (es : List Exchange) → left ≡ [] → Goes n js t left u es → PutsBack n js t es (all u)
goes_done n js t left u es is goes =
    subst (λ (xs : List Exchange). PutsBack n js t xs (all u)) (append-nil es) (goes [] (all u) (subst (λ (ls : List Json). PutsBack n ls u [] (all u)) (sym is) (puts.done u)))

-- the same with the exchanges that were made
pub page_fails : (s : Server) (before mid now : Told) (n : Names) (vs : List JVal) (t u : Counts) (i : ℕ) (v : JVal) (f : Fault) → i < length vs → v ≡ get_or vs i v
    → (es : List Exchange) × Made s before mid es × Goes n (map json vs) t (drop i (map json vs)) u es
    → (es : List Exchange) × Made s mid now es × PutBack n (key_of (json v)) most_puts (json v) es (fault f)
    → (es : List Exchange) × Made s before now es × PutsBack n (map json vs) t es (failed f)
page_fails s before mid now n vs t u i v f within at p q = (
  p.0 ++ q.0,
  made_more s before mid now p.0 q.0 p.1 q.1,
  goes_fails n (map json vs) t (json v) (drop (i + 1) (map json vs)) (drop i (map json vs)) u p.0 q.0 f (front_is vs i v within at) p.2 q.2,
)

pub page_goes : (s : Server) (before mid now : Told) (n : Names) (vs : List JVal) (t u w : Counts) (i : ℕ) (v : JVal) (k : Kind) → i < length vs → v ≡ get_or vs i v → w ≡ counted k u
    → (es : List Exchange) × Made s before mid es × Goes n (map json vs) t (drop i (map json vs)) u es
    → (es : List Exchange) × Made s mid now es × PutBack n (key_of (json v)) most_puts (json v) es (kind k)
    → (es : List Exchange) × Made s before now es × Goes n (map json vs) t (drop (i + 1) (map json vs)) w es
page_goes s before mid now n vs t u w i v k within at is p q = (
  p.0 ++ q.0,
  made_more s before mid now p.0 q.0 p.1 q.1,
  subst (λ (x : Counts). Goes n (map json vs) t (drop (i + 1) (map json vs)) x (p.0 ++ q.0)) (sym is)
      (goes_more n (map json vs) t (json v) (drop (i + 1) (map json vs)) (drop i (map json vs)) u p.0 q.0 k (front_is vs i v within at) p.2 q.2),
)

pub page_ends : (s : Server) (before now : Told) (n : Names) (vs : List JVal) (t u : Counts) (i : ℕ) → length vs ≤ i
    → (es : List Exchange) × Made s before now es × Goes n (map json vs) t (drop i (map json vs)) u es
    → (es : List Exchange) × Made s before now es × PutsBack n (map json vs) t es (all u)
page_ends s before now n vs t u i past p =
    let n_is : length (map json vs) ≡ length vs = length-map vs json in
    (p.0, p.1, goes_done n (map json vs) t (drop i (map json vs)) u p.0 (drop_all i (map json vs) (omega arith)) p.2)

pub listed_kept : (k : Kind) (t w : Counts) → w ≡ counted k t → w.listed ≡ t.listed
listed_kept written t w is = ap (λ (x : Counts). x.listed) is
listed_kept unchanged t w is = ap (λ (x : Counts). x.listed) is
listed_kept gone t w is = ap (λ (x : Counts). x.listed) is
listed_kept contested t w is = ap (λ (x : Counts). x.listed) is

-- ---- the pages

abbrev pub RunsOn : Names → Run → Run → List Exchange → Type 0
RunsOn n a b es = (fs : List Exchange) (h : Handled) → Runs n b fs h → Runs n a (es ++ fs) h

pub runs_start : (n : Names) (a : Run) → RunsOn n a a []
runs_start n a fs h runs = runs

pub runs_more : (n : Names) (a b c : Run) (es gs : List Exchange) → RunsOn n a b es → Step n b gs c → RunsOn n a c (es ++ gs)
runs_more n a b c es gs so_far step fs h runs =
    subst (λ (xs : List Exchange). Runs n a xs h) (sym (append_assoc es gs fs)) (so_far (gs ++ fs) h (pages.step b c gs fs h step runs))

pub runs_stop : (n : Names) (a b : Run) (es gs : List Exchange) (h : Handled) → RunsOn n a b es → Stop n b gs h → Runs n a (es ++ gs) h
runs_stop n a b es gs h so_far stop = so_far gs h (pages.stop b gs h stop)

-- the same with the exchanges that were made
pub run_goes : (s : Server) (before mid now : Told) (n : Names) (a : pages.Run) (b c : CodeRun) → (es : List Exchange) × Made s before mid es × RunsOn n a (run_of b) es
    → (es : List Exchange) × Made s mid now es × Turns n b es c (Ok turned.More) → (es : List Exchange) × Made s before now es × RunsOn n a (run_of c) es
run_goes s before mid now n a b c p q = (p.0 ++ q.0, made_more s before mid now p.0 q.0 p.1 q.1, by_turn q.0 q.2)
  where
    by_turn : (gs : List Exchange) → Turns n b gs c (Ok turned.More) → RunsOn n a (run_of c) (p.0 ++ gs)
    by_turn gs t = runs_more n a (run_of b) (run_of c) p.0 gs p.2 t.0

pub run_ends : (s : Server) (before mid now : Told) (n : Names) (a : pages.Run) (b : CodeRun) (h : Handled) → (es : List Exchange) × Made s before mid es × RunsOn n a (run_of b) es
    → (es : List Exchange) × Made s mid now es × Stop n (run_of b) es h → (es : List Exchange) × Made s before now es × Runs n a es h
run_ends s before mid now n a b h p q = (p.0 ++ q.0, made_more s before mid now p.0 q.0 p.1 q.1, runs_stop n a (run_of b) p.0 q.0 h p.2 q.2)
