-- What a turn that may enter an item comes to.
use Rattle.std.proofs.Common.{◌≡◌, ◌<◌, ◌+◌, ◌^◌, ℕ, Bool, true, false, List, [], ◌∷◌, ◌++◌, Option, None, Some, Err, length, nat_eq, ap, sym, subst, refl, ◌∙◌, arith}
use Rattle.std.proofs.lemmas.Bool.Decides.{nat_tests}
use Rattle.std.proofs.lemmas.List.{append-nil}
use Rattle.api_calls.specs.Calls.{Server, Call, Told, answered, Decides, Converts, Failure, Fails, failure_refusal, Comes}
use Rattle.api_calls.specs.Ends.{grown}
use Rattle.api_calls.specs.laws.GrowthLaws.{items-more, items_of-other, items_of-same}
use Rattle.api_calls.specs.Item.{Logged, Item, items, items_of}
use Rattle.api_calls.specs.Legal.{CountsFrom, IsLegal}
use Rattle.api_calls.specs.Meaning.{Meaning}
use Rattle.api_calls.specs.Replies.{Answer}
use Rattle.api_calls.specs.State.{state}
use Rattle.api_core.specs.CoreOf.{CoreOf, SameBase, StandsFor}
use Rattle.turn_cell.specs.declared.view.View.{View}
use Rattle.turn_cell.specs.declared.view.Stage.TheVariants.{Rest, Holds}
use Rattle.turn_cell.specs.Views.{set_stage, Later}
use Rattle.turn_cell.specs.Turns.{Enters, Gives, Turned, StandsAfter, addition}
use Rattle.turn_cell.specs.laws.Laws.{stands_now, turns_join}
use Rattle.call_texts.specs.Told.{Came}
use Rattle.shared_api.specs.Answered.{CallsOn}
use Rattle.shared_api.specs.Base.{StandsCell, base_of, server_of}
use Rattle.shared_api.specs.inner.Turning.{Closes, Reads, Writes}
use Rattle.shared_api.specs.declared.cell.CoreBase.{CoreBase}
use Rattle.shared_api.proofs.Turns.{cell_legal, comes, few_entries}

-- ---- the counts go on

counts_from-more : (n : ℕ) (log : List Logged) (l : Logged) → CountsFrom n log → l.nth ≡ n + length log → CountsFrom n (log ++ l ∷ [])
counts_from-more n [] l c is = (omega (arith, is), tt)
counts_from-more n (k ∷ log) l c is = (c.0, counts_from-more (n + 1) log l c.1 (omega (arith, is)))

same_number : (m n : ℕ) → nat_eq m n ≡ true → m ≡ n
same_number m n h = grind (arith, nat_tests)

counts-more : (log : List Logged) (l : Logged) → ((p : ℕ) → CountsFrom 0 (items_of p log)) → l.nth ≡ length (items_of l.by log)
    → (p : ℕ) → CountsFrom 0 (items_of p (log ++ l ∷ []))
counts-more log l counts nth p = by (nat_eq l.by p) refl
  where
    by : (b : Bool) → nat_eq l.by p ≡ b → CountsFrom 0 (items_of p (log ++ l ∷ []))
    by true is =
        let e : l.by ≡ p = same_number l.by p is in
        let count : l.nth ≡ length (items_of p log) = nth ∙ ap (λ (q : ℕ). length (items_of q log)) e in
        subst (CountsFrom 0) (sym (items_of-same p log l is)) (counts_from-more 0 (items_of p log) l (counts p) (omega (arith, count)))
    by false is = subst (CountsFrom 0) (sym (items_of-other p log l is)) (counts p)

-- a core that stands for the list with the item stands for it whichever pass adds that
pub stands-after : {V : Type 0} (meaning : V → Meaning) (d : CoreOf V) (log : List Logged) (i : Option Item) → ((p : ℕ) → CountsFrom 0 (items_of p log))
    → StandsFor meaning d (grown (items log) i) → StandsAfter (StandsCell meaning d) log i
stands-after meaning d log None counts stands = (stands, counts)
stands-after meaning d log (Some item) counts stands = λ l is nth. (
  subst (StandsFor meaning d) (sym (items-more log l ∙ ap (λ (j : Item). items log ++ j ∷ []) is)) stands,
  counts-more log l counts nth,
)

-- the core may be given back
pub cell_stands : {V : Type 0} (meaning : V → Meaning) (d : CoreOf V) (w u : View (CoreBase V)) (i : Option Item) → ((p : ℕ) → CountsFrom 0 (items_of p w.seen))
    → StandsFor meaning d (grown (items w.seen) i) → Enters i w u → StandsCell meaning d u.seen
cell_stands meaning d w u i counts stands entered = stands_now (StandsCell meaning d) w u i (stands-after meaning d w.seen i counts stands) entered

pub base-stays : {B : Type 0} (i : Option Item) (w u : View B) → Enters i w u → u.base ≡ w.base
base-stays {B = B} None w u same = ap (λ (q : View B). q.base) same
base-stays {B = B} (Some item) w u added = ap (λ (q : View B). q.base) added.1

-- ---- the end of the turn

pub closes : {B : Type 0} (i : Option Item) (w u z : View B) → Enters i w u → Gives u z → Closes i w z
closes {B = B} None w u z same given =
    given ∙ ap (λ (q : View B). set_stage q q.seen Rest) same ∙ ap (λ (log : List Logged). set_stage w log Rest) (sym (append-nil w.seen))
closes {B = B} (Some item) w u z added given = given ∙ ap (λ (q : View B). set_stage q q.seen Rest) added.1

turned-closes : {B : Type 0} (v w z : View B) (i : Option Item) → (t : ℕ) × (w ≡ set_stage v w.seen (Holds t 0)) → Later v w.seen → Closes i w z → Turned v z w.seen i
turned-closes {B = B} v w z None took later closed =
    (later.0, later.1, later.2, closed ∙ ap (λ (q : View B). set_stage q (w.seen ++ []) Rest) took.1)
turned-closes {B = B} v w z (Some item) took later closed =
    (later.0, later.1, later.2, closed ∙ ap (λ (q : View B). set_stage q (w.seen ++ addition q w.seen (Some item)) Rest) took.1)

-- A turn that took the core c, and gave back d, which stands for the list with the item, if any.
pub writes : {V : Type 0} (meaning : V → Meaning) (c d : CoreOf V) (b : CoreBase V) (v w z : View (CoreBase V)) (i : Option Item)
    → v.base ≡ Some (base_of c) → v.base ≡ Some b → (t : ℕ) × (w ≡ set_stage v w.seen (Holds t 0)) → Later v w.seen
    → StandsCell meaning c w.seen → length w.seen < 2 ^ 61 → SameBase c d
    → Closes i w z → IsLegal (meaning d.versions) d.view.limits z.seen
    → Writes (server_of meaning b) v z w.seen i
writes {V = V} meaning c d b v w z i based is took later stands short kept closed legal =
    let same : base_of c ≡ b = cc (based, is) in
    let here : IsLegal (meaning c.versions) d.view.limits z.seen = subst (λ (x : V). IsLegal (meaning x) d.view.limits z.seen) kept.versions legal in
    subst (λ (x : CoreBase V). Writes (server_of meaning x) v z w.seen i) same (record {
      turned = turned-closes v w z i took later closed;
      legal = cell_legal meaning c w.seen stands;
      after = subst (λ l. IsLegal (meaning c.versions) l z.seen) kept.limits here;
      few = few_entries w.seen short;
    })

-- ---- several turns

-- turns that added nothing, and then one that may enter an item
pub writes-join : {B : Type 0} (s : Server) (v w z : View B) (first log : List Logged) (i : Option Item) → Reads s v w first → Writes s w z log i → Writes s v z log i
writes-join s v w z first log i a b = record {
  turned = turns_join v w z first log i a.turned b.turned;
  legal = b.legal;
  after = b.after;
  few = b.few;
}

-- the last turn of a call, which may enter an item
pub writes_calls : {B : Type 0} (s : Server) (rose : Type 0) (stamp : List ℕ) (v z : View B) (log : List Logged) (c : Call) (D : Answer → Option Item → Type 0)
    → ((a : Answer) (i : Option Item) → D a i → Decides s stamp (items log) c (answered a) i)
    → ((f : Failure) → Fails f c (answered (Err (failure_refusal f)))) → (rose → Converts s.meaning (state s.meaning (items log)) c)
    → (d : Answer) (t : Told) (i : Option Item) → Writes s v z log i → Came rose D d i → t ≡ answered d
    → CallsOn s rose stamp v z c t
writes_calls s rose stamp v z log c D decides fails converts d t i writes came told = record {
  log = log;
  item = i;
  turned = writes.turned;
  legal = writes.after;
  comes = subst (λ (x : Told). Comes s rose stamp (items v.seen) (items log) c x i) (sym told)
      (comes s rose stamp (items v.seen) (items log) c D decides fails converts d i came);
}
