-- Histories of a server that go on from each other, along the exchanges of a client.
use Rattle.std.proofs.Common.{◌≡◌, ◌∙◌, refl, sym, ap, subst, ℕ, ◌<◌, ◌≤◌, ◌^◌, true, false, List, [], ◌∷◌, ◌++◌, length, Option, None, Some, append_assoc, arith}
use Rattle.std.proofs.lemmas.List.{append-nil}
use Rattle.kube_meta.specs.Key.{KeyView}
use Rattle.kube_meta.specs.declared.limits.Limits.{Limits}
use Rattle.edge_io.specs.Exchanges.{Exchange}
use Rattle.api_calls.specs.Item.{Item, entry, note}
use Rattle.api_calls.specs.Legal.{legal}
use Rattle.api_calls.specs.Meaning.{Meaning}
use Rattle.api_calls.specs.Pages.{Place}
use Rattle.api_calls.specs.State.{revision, state}
use Rattle.api_calls.specs.Token.{IsToken, token_text}
use Rattle.api_calls.specs.laws.GrowthLaws.{legal-front}
use Rattle.api_calls.proofs.Tokens.{tokens_one}
use Rattle.http_routes.specs.Queries as query
use Rattle.far_laws.proofs.legal_lists.Limits.{within-all}
use Rattle.place.specs.Place.{Names}
use Rattle.wire_client.specs.Far.{Server, Serves, Chain}
use Rattle.wire_client.specs.Calls.{Call}
use Rattle.wire_client.specs.Answers.{Reply, given, broken, long, gone as gone_reply, code, shape, Replies}
use Rattle.far_migrate.specs.Answered.{Did}
use Rattle.far_migrate.specs.Pages.{is_empty}
use Rattle.far_laws.specs.Answering.{GoesOn, Answered}
use Rattle.far_laws.proofs.Keyed.{token_some}

-- ---- histories

pub goes_nowhere : (log : List Item) → GoesOn log log
goes_nowhere log = ([], sym (append-nil log))

pub goes_further : (a b c : List Item) → GoesOn a b → GoesOn b c → GoesOn a c
goes_further a b c p q = (p.0 ++ q.0, q.1 ∙ ap (λ (l : List Item). l ++ q.0) p.1 ∙ append_assoc a p.0 q.0)

pub serves_on : (s : Server) (log : List Item) (e : Exchange) (next : List Item) → Serves s log e.request e.answer next → GoesOn log next
serves_on s log e next serves = by_answer e.answer serves
  where
    by_answer : (a : Option (List ℕ)) → Serves s log e.request a next → GoesOn log next
    by_answer None h = h
    by_answer (Some bytes) h = (h.others ++ h.own, h.next_is ∙ append_assoc log h.others h.own)

-- the first of some exchanges, and the rest
pub record Turned (s : Server) (log : List Item) (e : Exchange) (es : List Exchange) (next : List Item) : Type 0 where
  pub mid : List Item
  pub serves : Serves s log e.request e.answer mid
  pub rest : Chain s mid es next

pub turned : (s : Server) (log : List Item) (e : Exchange) (es : List Exchange) (next : List Item) → Chain s log (e ∷ es) next → Turned s log e es next
unfolding Chain
turned s log e es next h = record { mid = h.0; serves = h.1; rest = h.2 }

pub ended : (s : Server) (log next : List Item) → Chain s log [] next → GoesOn log next
unfolding Chain
ended s log next h = h

pub begun : (s : Server) (log : List Item) → Chain s log [] log
unfolding Chain
begun s log = goes_nowhere log

pub joined : (s : Server) (log mid next : List Item) (e : Exchange) (es : List Exchange) → Serves s log e.request e.answer mid → Chain s mid es next → Chain s log (e ∷ es) next
unfolding Chain
joined s log mid next e es serves rest = (mid, serves, rest)

pub chain_on : (s : Server) (log : List Item) (es : List Exchange) (next : List Item) → Chain s log es next → GoesOn log next
chain_on s log [] next h = ended s log next h
chain_on s log (e ∷ es) next h =
    let t = turned s log e es next h in
    goes_further log t.mid next (serves_on s log e t.mid t.serves) (chain_on s t.mid es next t.rest)

pub record Split (s : Server) (log : List Item) (es fs : List Exchange) (next : List Item) : Type 0 where
  pub mid : List Item
  pub front : Chain s log es mid
  pub back : Chain s mid fs next

pub split : (s : Server) (log : List Item) (es fs : List Exchange) (next : List Item) → Chain s log (es ++ fs) next → Split s log es fs next
split s log [] fs next h = record { mid = log; front = begun s log; back = h }
split s log (e ∷ es) fs next h =
    let t = turned s log e (es ++ fs) next h in
    let r = split s t.mid es fs next t.rest in
    record { mid = r.mid; front = joined s log t.mid r.mid e es t.serves r.front; back = r.back }

-- ---- one answer

abbrev pub IsAnswered : Reply → Type 0
IsAnswered (given j) = Unit {0}
IsAnswered broken = ⊥
IsAnswered long = Unit {0}
IsAnswered gone_reply = Unit {0}
IsAnswered (code c) = Unit {0}
IsAnswered (shape path) = Unit {0}

-- where it was answered
pub record At (s : Server) (n : Names) (call : Call) (log : List Item) (reply : Reply) (mid : List Item) : Type 0 where
  pub at : List Item
  pub own : List Item
  pub on : GoesOn log at
  pub answered : Answered s n call at own reply
  pub mid_is : mid ≡ at ++ own

pub answered_at : (s : Server) (n : Names) (call : Call) (log : List Item) (reply : Reply) (mid : List Item) (e : Exchange)
    → Did n call e reply → IsAnswered reply → Serves s log e.request e.answer mid → At s n call log reply mid
answered_at s n call log reply mid e did is serves = by_answer e.answer did.replies serves
  where
    by_answer : (a : Option (List ℕ)) → Replies n call a reply → Serves s log e.request a mid → At s n call log reply mid
    by_answer None none h = absurd (subst (λ (r : Reply). IsAnswered r) none is)
    by_answer (Some bytes) replies h = record {
      at = log ++ h.others;
      own = h.own;
      on = (h.others, refl);
      answered = record { bytes = bytes; answers = subst (λ (request : List ℕ). s.answers (log ++ h.others) request bytes h.own) did.request h.answers; replies = replies };
      mid_is = h.next_is;
    }

-- ---- what holds of the last history holds of those before it

pub few_entries : (log more : List Item) → revision log ≤ revision (log ++ more)
few_entries [] more = omega arith
few_entries (entry e ∷ log) more = let rest = few_entries log more in omega (arith, rest)
few_entries (note x ∷ log) more = few_entries log more

pub legal_before : (m : Meaning) (limits : Limits) (log last : List Item) → legal m limits last → GoesOn log last → legal m limits log
legal_before m limits log last l p = legal-front m limits log p.0 (subst (λ (k : List Item). legal m limits k) p.1 l)

pub few_before : (log last : List Item) → revision last < 2 ^ 63 → GoesOn log last → revision log < 2 ^ 64
few_before log last few p =
    let up : revision log ≤ revision last = subst (λ (l : List Item). revision log ≤ revision l) (sym p.1) (few_entries log p.0) in
    omega (arith, up, few)

pub small_before : (m : Meaning) (limits : Limits) (log last : List Item) → limits.objects < 2 ^ 63 → legal m limits last → GoesOn log last → length (state m log).objects < 2 ^ 63
small_before m limits log last most l p =
    let within = within-all m limits log (legal_before m limits log last l p) in
    let few = within.objects in
    omega (arith, few, most)

-- ---- tokens

pub empty_is : (s : List ℕ) → is_empty s ≡ true → s ≡ []
empty_is [] is = refl
empty_is (b ∷ bs) is = cc

pub not_empty : (s : List ℕ) → s ≡ [] → is_empty s ≡ false → ⊥
not_empty [] is more = cc
not_empty (b ∷ bs) is more = cc

-- a list goes on at its first object, or behind that of its token

pub first_from : (from : Option Place) → query.GoesOn None [] from → from ≡ None
first_from None h = refl
first_from (Some place) h = absurd (h.0 refl)

pub next_from : (token : List ℕ) (number : ℕ) (key : KeyView) (from : Option Place) → token ≡ token_text number key → IsToken number key → query.GoesOn None token from
    → from ≡ Some (record { number = number; key = key })
next_from token number key None is t h = absurd (token_some number key t (sym is ∙ h))
next_from token number key (Some place) is t h =
    let same = tokens_one place.number number place.key key h.1.token t (h.1.spelled ∙ is) in
    let same_number = same.0 in
    let same_key = same.1 in
    λ i. Some (record { number = same_number i; key = same_key i })
