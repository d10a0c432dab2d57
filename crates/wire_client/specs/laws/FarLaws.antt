-- How exchanges follow one another.
use Rattle.std.proofs.Common.{◌≡◌, ℕ, List, [], ◌∷◌, ◌++◌, Option, None, Some, Err, option_map, refl, ap, sym, ◌∙◌, append_assoc}
use Rattle.std.proofs.lemmas.List.{append-nil}
use Rattle.edge_io.specs.Exchanges.{Exchange, one_more, after_exchange}
use Rattle.edge_io.specs.declared.link.LinkFault.{LinkFault}
use Rattle.edge_io.specs.declared.link.LinkFault.TheVariants.{Failed, NoMemory}
use Rattle.api_calls.specs.Item.{Item}
use Rattle.wire_client.specs.Far.{Server, Served, Serves, ServesTold, Chain, Told, Made}

-- others' items may come before the first exchange
serves_later : (s : Server) (log more : List Item) (e : Exchange) (next : List Item) → Serves s (log ++ more) e.request e.answer next → Serves s log e.request e.answer next
serves_later s log more e next serves = by_answer e.answer serves
  where
    by_answer : (a : Option (List ℕ)) → Serves s (log ++ more) e.request a next → Serves s log e.request a next
    by_answer None h = (more ++ h.0, h.1 ∙ append_assoc log more h.0)
    by_answer (Some answer) h = record {
      others = more ++ h.others;
      own = h.own;
      answers = rw (sym (append_assoc log more h.others)) h.answers;
      next_is = h.next_is ∙ ap (λ (l : List Item). l ++ h.own) (append_assoc log more h.others);
    }

pub chain_later : (s : Server) (log more : List Item) (es : List Exchange) (next : List Item) → Chain s (log ++ more) es next → Chain s log es next
unfolding Chain
chain_later s log more [] next h = (more ++ h.0, h.1 ∙ append_assoc log more h.0)
chain_later s log more (e ∷ es) next h = (h.0, serves_later s log more e h.0 h.1, h.2)

pub chain_more : (s : Server) (log mid next : List Item) (es fs : List Exchange) → Chain s log es mid → Chain s mid fs next → Chain s log (es ++ fs) next
unfolding Chain
chain_more s log mid next [] fs first second = chain_later s log first.0 fs next (rw (sym first.1) second)
chain_more s log mid next (e ∷ es) fs first second = (first.0, first.1, chain_more s first.0 mid next es fs first.2 second)

chain_nothing : (s : Server) (log : List Item) → Chain s log [] log
unfolding Chain
chain_nothing s log = ([], sym (append-nil log))

chain_one : (s : Server) (log next : List Item) (e : Exchange) → Serves s log e.request e.answer next → Chain s log (e ∷ []) next
unfolding Chain
chain_one s log next e h = (next, h, ([], sym (append-nil next)))

-- a call without an exchange
pub made_nothing : (s : Server) (t : Told) → Made s t t []
made_nothing s t = record {
  exchanges = by_told t.exchanges;
  untold = λ e. e;
  chain = λ log is. (log, is, chain_nothing s log);
}
  where
    by_told : (o : Option (List Exchange)) → o ≡ option_map (λ made. made ++ []) o
    by_told None = refl
    by_told (Some es) = ap (λ (fs : List Exchange). Some fs) (sym (append-nil es))

-- one call after another
pub made_more : (s : Server) (a b c : Told) (es fs : List Exchange) → Made s a b es → Made s b c fs → Made s a c (es ++ fs)
made_more s a b c es fs first second = record {
  exchanges = second.exchanges ∙ ap (λ (o : Option (List Exchange)). option_map (λ made. made ++ fs) o) first.exchanges ∙ by_told a.exchanges;
  untold = λ e. second.untold (first.untold e);
  chain = λ log is.
      let one = first.chain log is in
      let two = second.chain one.0 one.1 in
      (two.0, two.1, chain_more s log one.0 two.0 es fs one.2 two.2);
}
  where
    by_told : (o : Option (List Exchange)) → option_map (λ made. made ++ fs) (option_map (λ made. made ++ es) o) ≡ option_map (λ made. made ++ (es ++ fs)) o
    by_told None = refl
    by_told (Some gs) = ap (λ (hs : List Exchange). Some hs) (append_assoc gs es fs)

-- one exchange
pub made_one : (s : Server) (before now : Told) (request : List ℕ) (answer : Option (List ℕ)) → now.exchanges ≡ one_more before.exchanges request answer
    → ServesTold s before.log request answer now.log → Made s before now ((record { request = request; answer = answer }) ∷ [])
made_one s before now request answer is serves = record {
  exchanges = is ∙ by_told before.exchanges;
  untold = untold_of before.log serves;
  chain = chain_of before.log serves;
}
  where
    by_told : (o : Option (List Exchange)) → one_more o request answer ≡ option_map (λ made. made ++ (record { request = request; answer = answer }) ∷ []) o
    by_told None = refl
    by_told (Some es) = refl

    untold_of : (o : Option (List Item)) → ServesTold s o request answer now.log → o ≡ None → now.log ≡ None
    untold_of None h e = h
    untold_of (Some log) h e = absurd (cc)

    chain_of : (o : Option (List Item)) → ServesTold s o request answer now.log → (log : List Item) → o ≡ Some log
        → (next : List Item) × (now.log ≡ Some next) × Chain s log ((record { request = request; answer = answer }) ∷ []) next
    chain_of None h log e = absurd (cc)
    chain_of (Some l) h log e =
        let same : l ≡ log = cc in
        (h.0, h.1, chain_one s log h.0 (record { request = request; answer = answer }) (rw (sym same) h.2))

-- no exchange, though others may have added items
pub made_none : (s : Server) (before now : Told) (request : List ℕ) → now.exchanges ≡ before.exchanges
    → ServesTold s before.log request None now.log → Made s before now []
unfolding Chain
made_none s before now request is serves = record {
  exchanges = is ∙ by_told before.exchanges;
  untold = untold_of before.log serves;
  chain = chain_of before.log serves;
}
  where
    by_told : (o : Option (List Exchange)) → o ≡ option_map (λ made. made ++ []) o
    by_told None = refl
    by_told (Some es) = ap (λ (fs : List Exchange). Some fs) (sym (append-nil es))

    untold_of : (o : Option (List Item)) → ServesTold s o request None now.log → o ≡ None → now.log ≡ None
    untold_of None h e = h
    untold_of (Some log) h e = absurd (cc)

    chain_of : (o : Option (List Item)) → ServesTold s o request None now.log → (log : List Item) → o ≡ Some log
        → (next : List Item) × (now.log ≡ Some next) × Chain s log [] next
    chain_of None h log e = absurd (cc)
    chain_of (Some l) h log e =
        let same : l ≡ log = cc in
        (h.0, h.1, (h.2.0, h.2.1 ∙ ap (λ (k : List Item). k ++ h.2.0) same))

-- the link failed: one exchange was made, which has no answer
pub made_failed : (s : Server) (before now : Told) (request : List ℕ) (fault : LinkFault) → fault ≡ Failed
    → now.exchanges ≡ after_exchange before.exchanges request (Err fault) → ServesTold s before.log request None now.log
    → Made s before now ((record { request = request; answer = None }) ∷ [])
made_failed s before now request fault is exchanges serves =
    made_one s before now request None (exchanges ∙ ap (λ (f : LinkFault). after_exchange before.exchanges request (Err f)) is) serves

-- memory was wanted: none was made
pub made_starved : (s : Server) (before now : Told) (request : List ℕ) (fault : LinkFault) → fault ≡ NoMemory
    → now.exchanges ≡ after_exchange before.exchanges request (Err fault) → ServesTold s before.log request None now.log → Made s before now []
made_starved s before now request fault is exchanges serves =
    made_none s before now request (exchanges ∙ ap (λ (f : LinkFault). after_exchange before.exchanges request (Err f)) is) serves
