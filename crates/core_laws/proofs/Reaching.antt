-- How far a run has come: what is left of the calls, from the list that stands now, completes the whole.
use Rattle.std.proofs.Common.{◌≡◌, ◌∙◌, ℕ, ◌+◌, ◌≤◌, ◌<◌, ◌^◌, List, [], ◌∷◌, ◌++◌, length, map, Option, None, Some, refl, ap, sym, subst, arith, append_assoc, append-nil, length-append}
use Rattle.kube_meta.specs.View.{ObjectView}
use Rattle.kube_meta.specs.declared.limits.Limits.{Limits}
use Rattle.api_calls.specs.Meaning.{Meaning}
use Rattle.api_calls.specs.Item.{Item}
use Rattle.api_calls.specs.Ends.{EndsAsDecided, bound, grown}
use Rattle.api_core.specs.CoreOf.{CoreOf, SameBase, StandsFor}
use Rattle.core_laws.specs.declared.calls.Call.{Call}
use Rattle.core_laws.specs.declared.calls.Answer.{Answer}
use Rattle.core_laws.specs.Asked.{Told, told, decided}
use Rattle.core_laws.specs.Known.{IsKnown}
use Rattle.core_laws.specs.Runs.{Asked, AreKnown, Ran, after, after_all, answers, calls_of, decision}

-- ---- one item more

grown-length : (log : List Item) (o : Option Item) → length (grown log o) ≤ length log + 1
grown-length log None = omega arith
grown-length log (Some i) = let more = length-append log (i ∷ []) in omega (arith, more)

grown-more : (log at more : List Item) (o : Option Item) → at ≡ log ++ more → (next : List Item) × (grown at o ≡ log ++ next)
grown-more log at more None is = (more, is)
grown-more log at more (Some i) is = (more ++ i ∷ [], ap (λ (xs : List Item). xs ++ i ∷ []) is ∙ append_assoc log more (i ∷ []))

-- ---- what was reached

pub record Reached (m : Meaning) (limits : Limits) (present : List Item → Type 0) (log : List Item) (asked : List Asked) (given : List Answer) (left : List Call) : Type 0 where
  pub rest : List Asked
  pub now : List Item
  pub stands : present now
  pub calls : calls_of rest ≡ left
  pub known : AreKnown m limits now rest
  pub list : after_all m limits now rest ≡ after_all m limits log asked
  pub answered : map told given ++ answers m limits now rest ≡ answers m limits log asked
  pub goes_on : (more : List Item) × (now ≡ log ++ more)
  pub count : length now + length rest ≤ length log + length asked

pub reached-none : (m : Meaning) (limits : Limits) (stands : List Item → Type 0) (log : List Item) (asked : List Asked) (calls : List Call)
    → stands log → calls_of asked ≡ calls → AreKnown m limits log asked → Reached m limits stands log asked [] calls
reached-none m limits stands log asked calls st is known = record {
  rest = asked;
  now = log;
  stands = st;
  calls = is;
  known = known;
  list = refl;
  answered = refl;
  goes_on = ([], sym (append-nil log));
  count = omega arith;
}

pub reached-all : (m : Meaning) (limits : Limits) (stands : List Item → Type 0) (log : List Item) (asked : List Asked) (given : List Answer)
    → Reached m limits stands log asked given [] → Ran m limits stands log asked given
reached-all m limits stands log asked given r = by r.rest r.calls r.list r.answered
  where
    by : (rest : List Asked) → calls_of rest ≡ [] → after_all m limits r.now rest ≡ after_all m limits log asked
        → map told given ++ answers m limits r.now rest ≡ answers m limits log asked → Ran m limits stands log asked given
    by [] none list told_are = record {
      stands = subst stands list r.stands;
      answered = sym (append-nil (map told given)) ∙ told_are;
      goes_on = (r.goes_on.0, sym list ∙ r.goes_on.1);
    }
    by (a ∷ rest) none list told_are = cc

-- ---- one call more

-- what a call is known to do at every list
abbrev pub Makes : Meaning → Limits → (List Item → Type 0) → (List Item → Type 0) → Call → Answer → Type 0
Makes m limits was stands k a = (log : List Item) (h : ObjectView) (stamp : List ℕ) → was log → IsKnown m log h stamp k → EndsAsDecided bound stands log (decided m limits log h stamp k) (told a)

told-more : (given : List Answer) (a : Answer) (t : Told) (ts : List Told) → told a ≡ t → map told (given ++ a ∷ []) ++ ts ≡ map told given ++ t ∷ ts
told-more [] a t ts is = ap (λ (u : Told). u ∷ ts) is
told-more (b ∷ given) a t ts is = ap (λ (us : List Told). told b ∷ us) (told-more given a t ts is)

pub reached-more : (m : Meaning) (limits : Limits) (was stands : List Item → Type 0) (log : List Item) (asked : List Asked) (given : List Answer) (k : Call) (left : List Call) (a : Answer)
    → Makes m limits was stands k a → Reached m limits was log asked given (k ∷ left) → Reached m limits stands log asked (given ++ a ∷ []) left
reached-more m limits was stands log asked given k left a makes r = by r.rest r.calls r.known r.list r.answered r.count
  where
    by : (rest : List Asked) → calls_of rest ≡ k ∷ left → AreKnown m limits r.now rest → after_all m limits r.now rest ≡ after_all m limits log asked
        → map told given ++ answers m limits r.now rest ≡ answers m limits log asked → length r.now + length rest ≤ length log + length asked
        → Reached m limits stands log asked (given ++ a ∷ []) left
    by [] is known list told_are count = cc
    by (b ∷ rest) is known list told_are count =
        let one : b.call ≡ k = cc in
        let others : calls_of rest ≡ left = cc in
        let made = makes r.now b.h b.stamp r.stands (subst (IsKnown m r.now b.h b.stamp) one known.0) in
        let made_here = subst (λ (q : Call). EndsAsDecided bound stands r.now (decided m limits r.now b.h b.stamp q) (told a)) (sym one) made in
        record {
          rest = rest;
          now = after m limits r.now b;
          stands = made_here.1;
          calls = others;
          known = known.1;
          list = list;
          answered = told-more given a (decision m limits r.now b).answer (answers m limits (after m limits r.now b) rest) made_here.0 ∙ told_are;
          goes_on = grown-more log r.now r.goes_on.0 (decision m limits r.now b).item r.goes_on.1;
          count = (let one_more = grown-length r.now (decision m limits r.now b).item in omega (arith, one_more, count));
        }

-- ---- over a core

module _ {V : Type 0} (meaning : V → Meaning) where
  -- from every list that the core stood for, the calls have come so far
  abbrev pub GoesOn : CoreOf V → CoreOf V → List Call → List Answer → List Call → Type 0
  GoesOn first now calls given left = (log : List Item) (asked : List Asked) → StandsFor meaning first log → calls_of asked ≡ calls
      → AreKnown (meaning first.versions) first.view.limits log asked
      → Reached (meaning first.versions) first.view.limits (StandsFor meaning now) log asked given left

  pub goes-on-none : (first : CoreOf V) (calls : List Call) → GoesOn first first calls [] calls
  goes-on-none first calls = λ log asked st is known. reached-none (meaning first.versions) first.view.limits (StandsFor meaning first) log asked calls st is known

  -- what a call does at the core that stands now, by the base of the first one
  pub made-from : (first now next : CoreOf V) (k : Call) (a : Answer) → SameBase first now
      → Makes (meaning now.versions) now.view.limits (StandsFor meaning now) (StandsFor meaning next) k a
      → Makes (meaning first.versions) first.view.limits (StandsFor meaning now) (StandsFor meaning next) k a
  made-from first now next k a base makes =
      subst (λ (l : Limits). Makes (meaning first.versions) l (StandsFor meaning now) (StandsFor meaning next) k a) base.limits
      (subst (λ (v : V). Makes (meaning v) now.view.limits (StandsFor meaning now) (StandsFor meaning next) k a) base.versions makes)

  pub goes-on-more : (first now next : CoreOf V) (calls : List Call) (given : List Answer) (k : Call) (left : List Call) (a : Answer) → SameBase first now
      → Makes (meaning now.versions) now.view.limits (StandsFor meaning now) (StandsFor meaning next) k a
      → GoesOn first now calls given (k ∷ left) → GoesOn first next calls (given ++ a ∷ []) left
  goes-on-more first now next calls given k left a base makes so_far = λ log asked st is known.
      reached-more (meaning first.versions) first.view.limits (StandsFor meaning now) (StandsFor meaning next) log asked given k left a
      (made-from first now next k a base makes) (so_far log asked st is known)

  pub same-base : (x y z : CoreOf V) → SameBase x y → SameBase y z → SameBase x z
  same-base x y z a b = record { versions = b.versions ∙ a.versions; limits = b.limits ∙ a.limits; boot = b.boot ∙ a.boot }

  -- the next call is known at a list that the core stands for
  abbrev pub IsKnownNow : CoreOf V → Call → Type 0
  IsKnownNow now k = (log : List Item) × (h : ObjectView) × (stamp : List ℕ) × StandsFor meaning now log × IsKnown (meaning now.versions) log h stamp k × (length log < 2 ^ 61)

  pub known-now : (first now : CoreOf V) (log : List Item) (asked : List Asked) (given : List Answer) (k : Call) (left : List Call) → SameBase first now
      → length log + length asked < 2 ^ 61
      → Reached (meaning first.versions) first.view.limits (StandsFor meaning now) log asked given (k ∷ left) → IsKnownNow now k
  known-now first now log asked given k left base few r = by r.rest r.calls r.known r.count
    where
      by : (rest : List Asked) → calls_of rest ≡ k ∷ left → AreKnown (meaning first.versions) first.view.limits r.now rest
          → length r.now + length rest ≤ length log + length asked → IsKnownNow now k
      by [] is known count = cc
      by (b ∷ rest) is known count =
          let one : b.call ≡ k = cc in
          let here = subst (IsKnown (meaning first.versions) r.now b.h b.stamp) one known.0 in
          (r.now, b.h, b.stamp, r.stands, subst (λ (v : V). IsKnown (meaning v) r.now b.h b.stamp k) (sym base.versions) here, omega (arith, count, few))
