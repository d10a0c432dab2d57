-- The objects at a number, from those that stand and those that were superseded since.
use Rattle.std.proofs.Common.{◌≡◌, ℕ, ◌<◌, ◌≤◌, List, [], ◌∷◌, map, Bool, true, false, Equal, refl, sym, subst, arith, cond, filter, nat_lt, inl, inr}
use Rattle.std.specs.Prelude.{◌⊎◌, ◌&&◌, ◌↔◌, nat_le}
use Rattle.std.proofs.lemmas.Bool.Decides.{nat_tests}
use Rattle.kube_meta.specs.Key.{key_cmp}
use Rattle.kube_meta.specs.Window.{above}
use Rattle.api_calls.specs.Objects.{Stored}
use Rattle.api_calls.specs.Legal.{In}
use Rattle.api_calls.specs.LegalLists.{IsRising}
use Rattle.api_calls.specs.Snap.{Past, Supersedes, by_number}
use Rattle.record_store.proofs.Rising.{rising-filter, rising-one, filter-in, in-filter, put_each, rising-put_each, put_each-in, in-put_each-first, in-put_each-then, one-list}

abbrev pub no_younger : ℕ → Stored → Bool
no_younger r e = nat_le e.number r

abbrev pub stood : ℕ → Past → Bool
stood r p = nat_lt r p.by && nat_le p.object.number r

abbrev pub since : ℕ → List Past → List Stored
since r ps = map (λ p. p.object) (filter (stood r) ps)

abbrev pub objects_at : ℕ → List Stored → List Past → List Stored
objects_at r es ps = put_each (filter (no_younger r) es) (since r ps)

-- ---- tests

at_most : (a b : ℕ) → nat_le a b ≡ true → a ≤ b
at_most a b h = grind (arith, nat_tests)

is_at_most : (a b : ℕ) → a ≤ b → nat_le a b ≡ true
is_at_most a b h = grind (arith, nat_tests)

below : (a b : ℕ) → nat_lt a b ≡ true → a < b
below a b h = grind (arith, nat_tests)

is_below : (a b : ℕ) → a < b → nat_lt a b ≡ true
is_below a b h = grind (arith, nat_tests)

both : (a b : Bool) → (a && b) ≡ true → (a ≡ true) × (b ≡ true)
both true b h = (refl, h)
both false b h = cc

is_both : (a b : Bool) → a ≡ true → b ≡ true → (a && b) ≡ true
is_both a b h g = rw (h, g) refl

-- ---- those that were superseded since

since-in : (r : ℕ) (e : Stored) (ps : List Past) → In e (since r ps) → (e.number ≤ r) × Supersedes r e ps
since-in r e [] i = absurd i
since-in r e (p ∷ ps) i = by (stood r p) refl i (since-in r e ps)
  where
    by : (b : Bool) → stood r p ≡ b → In e (map (λ q. q.object) (cond b (p ∷ filter (stood r) ps) (filter (stood r) ps))) → (In e (since r ps) → (e.number ≤ r) × Supersedes r e ps) → (e.number ≤ r) × Supersedes r e (p ∷ ps)
    by true q (inl same) more =
        let tests = both (nat_lt r p.by) (nat_le p.object.number r) q in
        (subst (λ (a : Stored). a.number ≤ r) (sym same) (at_most p.object.number r tests.1), inl (below r p.by tests.0, sym same))
    by true q (inr i) more = let m = more i in (m.0, inr m.1)
    by false q i more = let m = more i in (m.0, inr m.1)

in-since : (r : ℕ) (e : Stored) (ps : List Past) → e.number ≤ r → Supersedes r e ps → In e (since r ps)
in-since r e [] le s = absurd s
in-since r e (p ∷ ps) le s = by (stood r p) refl s (in-since r e ps le)
  where
    stands : (r < p.by) × (p.object ≡ e) → stood r p ≡ true
    stands h =
        let le2 : p.object.number ≤ r = subst (λ (a : Stored). a.number ≤ r) (sym h.1) le in
        is_both (nat_lt r p.by) (nat_le p.object.number r) (is_below r p.by h.0) (is_at_most p.object.number r le2)

    by : (b : Bool) → stood r p ≡ b → Supersedes r e (p ∷ ps) → (Supersedes r e ps → In e (since r ps)) → In e (map (λ q. q.object) (cond b (p ∷ filter (stood r) ps) (filter (stood r) ps)))
    by true q (inl h) more = inl (sym h.1)
    by true q (inr s) more = inr (more s)
    by false q (inl h) more = let t = stands h in absurd (cc)
    by false q (inr s) more = more s

-- ---- what a window lets go of isn't asked for

pub supersedes-above : (f r : ℕ) (e : Stored) (ps : List Past) → f ≤ r → Supersedes r e ps → Supersedes r e (above by_number f ps)
supersedes-above f r e [] le s = s
supersedes-above f r e (p ∷ ps) le s = by (nat_lt f p.by) refl s (supersedes-above f r e ps le)
  where
    by : (b : Bool) → nat_lt f p.by ≡ b → Supersedes r e (p ∷ ps) → (Supersedes r e ps → Supersedes r e (above by_number f ps)) → Supersedes r e (cond b (p ∷ above by_number f ps) (above by_number f ps))
    by true q (inl h) more = inl h
    by true q (inr s) more = inr (more s)
    by false q (inl h) more = let lt = h.0 in let t : nat_lt f p.by ≡ true = is_below f p.by (omega (arith, lt, le)) in absurd (cc)
    by false q (inr s) more = more s

pub above-supersedes : (f r : ℕ) (e : Stored) (ps : List Past) → Supersedes r e (above by_number f ps) → Supersedes r e ps
above-supersedes f r e [] s = s
above-supersedes f r e (p ∷ ps) s = by (nat_lt f p.by) s (above-supersedes f r e ps)
  where
    by : (b : Bool) → Supersedes r e (cond b (p ∷ above by_number f ps) (above by_number f ps)) → (Supersedes r e (above by_number f ps) → Supersedes r e ps) → Supersedes r e (p ∷ ps)
    by true (inl h) more = inl h
    by true (inr s) more = inr (more s)
    by false s more = inr (more s)

-- ---- the objects at a number

-- an object stood at a number exactly where it is no younger, and stands or was superseded since
abbrev pub Stood : ℕ → List Stored → List Past → List Stored → Type 0
Stood r es ps snapshot = (e : Stored) → In e snapshot ↔ ((e.number ≤ r) × (In e es ⊎ Supersedes r e ps))

pub objects_at-is : (r : ℕ) (es : List Stored) (ps : List Past) (snapshot : List Stored) → IsRising es → IsRising snapshot → Stood r es ps snapshot → objects_at r es ps ≡ snapshot
objects_at-is r es ps snapshot rise rise_then members =
    one-list (objects_at r es ps) snapshot (rising-put_each first then_ (rising-filter (no_younger r) es rise)) rise_then to from
  where
    first : List Stored
    first = filter (no_younger r) es

    then_ : List Stored
    then_ = since r ps

    of_since : (e : Stored) → In e then_ → In e snapshot
    of_since e i = let h = since-in r e ps i in (members e).1 (h.0, inr h.1)

    to : (e : Stored) → In e (objects_at r es ps) → In e snapshot
    to e i = elim (put_each-in e first then_ i) [
      | inl j ↦ (let h = filter-in (no_younger r) e es j in (members e).1 (at_most e.number r h.1, inl h.0))
      | inr j ↦ of_since e j
    ]

    one : (a b : Stored) → In a snapshot → In b snapshot → key_cmp a.key b.key ≡ Equal → b ≡ a
    one a b i j q = rising-one snapshot a b rise_then i j q

    from : (e : Stored) → In e snapshot → In e (objects_at r es ps)
    from e i =
        let h = (members e).0 i in
        elim h.1 [
          | inl there ↦ in-put_each-first (λ a. In a snapshot) one e i first then_ of_since (in-filter (no_younger r) e es (is_at_most e.number r h.0) there)
          | inr gone ↦ in-put_each-then (λ a. In a snapshot) one e i first then_ of_since (in-since r e ps h.0 gone)
        ]
