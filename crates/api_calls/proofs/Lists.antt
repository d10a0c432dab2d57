-- What the changes of the objects keep.
use Rattle.std.proofs.Common.{◌≡◌, ℕ, List, [], ◌∷◌, Some, Bool, true, false, ap, refl, ◌∙◌, nat_eq}
use Rattle.std.specs.Prelude.{◌&&◌, not, if◌then◌else◌}
use Rattle.std.specs.Ordering.{match_ordering, is_gt}
use Rattle.std.specs.declared.cmp.Ordering.{Ordering}
use Rattle.std.specs.declared.cmp.Ordering.TheVariants.{Less, Equal, Greater}
use Rattle.kube_meta.specs.Key.{KeyView, key_cmp}
use Rattle.kube_meta.specs.Plan.{Span, in_span}
use Rattle.api_calls.specs.Objects.{Stored, put, without, updated, moved, elsewhere}
use Rattle.api_calls.specs.Legal.{Each}
use Rattle.api_calls.specs.LegalLists.{IsRising}
use Rattle.api_calls.proofs.Order.{itself, flipped, turned, chain, same_left}

pub each : {X : Type 0} (P Q : X → Type 0) (xs : List X) → Each P xs → ((x : X) → P x → Q x) → Each Q xs
each P Q [] h f = tt
each P Q (x ∷ xs) h f = (f x h.0, each P Q xs h.1 f)

pub each_two : {X : Type 0} (P Q R : X → Type 0) (xs : List X) → Each P xs → Each Q xs → ((x : X) → P x → Q x → R x) → Each R xs
each_two P Q R [] g h f = tt
each_two P Q R (x ∷ xs) g h f = (f x g.0 h.0, each_two P Q R xs g.1 h.1 f)

pub each-put : (P : Stored → Type 0) (x : Stored) (es : List Stored) → P x → Each P es → Each P (put x es)
each-put P x [] p h = (p, tt)
each-put P x (e ∷ es) p h = by (key_cmp x.key e.key) (each-put P x es p h.1)
  where
    by : (o : Ordering) → Each P (put x es) → Each P (match_ordering o (x ∷ e ∷ es) (x ∷ es) (e ∷ put x es))
    by Less more = (p, h)
    by Equal more = (p, h.1)
    by Greater more = (h.0, more)

pub each-without : (P : Stored → Type 0) (k : KeyView) (es : List Stored) → Each P es → Each P (without k es)
each-without P k [] h = tt
each-without P k (e ∷ es) h = by (key_cmp k e.key) (each-without P k es h.1)
  where
    by : (o : Ordering) → Each P (without k es) → Each P (match_ordering o (e ∷ es) es (e ∷ without k es))
    by Less more = h
    by Equal more = h.1
    by Greater more = (h.0, more)

pub each-updated : (P : Stored → Type 0) (f : Stored → Stored) (k : KeyView) (es : List Stored) → ((e : Stored) → P e → P (f e)) → Each P es → Each P (updated f k es)
each-updated P f k [] keeps h = tt
each-updated P f k (e ∷ es) keeps h = by (key_cmp k e.key) (each-updated P f k es keeps h.1)
  where
    by : (o : Ordering) → Each P (updated f k es) → Each P (match_ordering o (e ∷ es) (f e ∷ es) (e ∷ updated f k es))
    by Less more = h
    by Equal more = (keeps e h.0, h.1)
    by Greater more = (h.0, more)

pub rising-put : (x : Stored) (es : List Stored) → IsRising es → IsRising (put x es)
rising-put x [] r = (tt, tt)
rising-put x (e ∷ es) r = by (key_cmp x.key e.key) refl (rising-put x es r.1)
  where
    by : (o : Ordering) → key_cmp x.key e.key ≡ o → IsRising (put x es) → IsRising (match_ordering o (x ∷ e ∷ es) (x ∷ es) (e ∷ put x es))
    by Less is more =
        ((is, each (λ f. key_cmp e.key f.key ≡ Less) (λ f. key_cmp x.key f.key ≡ Less) es r.0 (λ f h. chain x.key e.key f.key is h)), r)
    by Equal is more =
        (each (λ f. key_cmp e.key f.key ≡ Less) (λ f. key_cmp x.key f.key ≡ Less) es r.0 (λ f h. same_left x.key e.key f.key is h), r.1)
    by Greater is more =
        (each-put (λ f. key_cmp e.key f.key ≡ Less) x es (turned x.key e.key is) r.0, more)

pub rising-without : (k : KeyView) (es : List Stored) → IsRising es → IsRising (without k es)
rising-without k [] r = tt
rising-without k (e ∷ es) r = by (key_cmp k e.key) (rising-without k es r.1)
  where
    by : (o : Ordering) → IsRising (without k es) → IsRising (match_ordering o (e ∷ es) es (e ∷ without k es))
    by Less more = r
    by Equal more = r.1
    by Greater more = (each-without (λ f. key_cmp e.key f.key ≡ Less) k es r.0, more)

-- a change that leaves the key
pub rising-updated : (f : Stored → Stored) (k : KeyView) (es : List Stored) → ((e : Stored) → (f e).key ≡ e.key) → IsRising es → IsRising (updated f k es)
rising-updated f k [] same r = tt
rising-updated f k (e ∷ es) same r = by (key_cmp k e.key) (rising-updated f k es same r.1)
  where
    by : (o : Ordering) → IsRising (updated f k es) → IsRising (match_ordering o (e ∷ es) (f e ∷ es) (e ∷ updated f k es))
    by Less more = r
    by Equal more =
        (each (λ g. key_cmp e.key g.key ≡ Less) (λ g. key_cmp (f e).key g.key ≡ Less) es r.0 (λ g h. ap (λ (j : KeyView). key_cmp j g.key) (same e) ∙ h), r.1)
    by Greater more =
        (each-updated (λ g. key_cmp e.key g.key ≡ Less) f k es (λ g h. ap (key_cmp e.key) (same g) ∙ h) r.0, more)

-- a touch of the first object of a span that stands elsewhere: what is told of each object behind it, and of each
-- before it that is outside of the span or stands there, is told of all
module _ (P Q : Stored → Type 0) (n v : ℕ) (k : KeyView) (r : Span) (behind : (e : Stored) → is_gt (key_cmp e.key k) ≡ true → P e → Q e)
    (before : (e : Stored) → (in_span r e.key && not (nat_eq e.at v)) ≡ false → P e → Q e) (here : (e : Stored) → P e → Q (record e { number = n; at = v })) where
  rest_behind : (e : Stored) (es : List Stored) → key_cmp k e.key ≡ Equal → Each (λ f. key_cmp e.key f.key ≡ Less) es → Each P es → Each Q es
  rest_behind e es is rising h =
      each_two (λ f. key_cmp e.key f.key ≡ Less) P Q es rising h (λ f less p. behind f (flipped k f.key (same_left k e.key f.key is less)) p)

  all_behind : (e : Stored) (es : List Stored) → key_cmp k e.key ≡ Less → Each (λ f. key_cmp e.key f.key ≡ Less) es → P e → Each P es → Each Q (e ∷ es)
  all_behind e es is rising p h = (
    behind e (flipped k e.key is) p,
    each_two (λ f. key_cmp e.key f.key ≡ Less) P Q es rising h (λ f less p. behind f (flipped k f.key (chain k e.key f.key is less)) p),
  )

  pub each-first : (es : List Stored) (first : Stored) → first.key ≡ k → IsRising es → elsewhere r v es ≡ Some first → Each P es → Each Q (updated (moved n v) k es)
  each-first [] first under rising is h = tt
  each-first (e ∷ es) first under rising is h = by (key_cmp k e.key) refl (λ found. each-first es first under rising.1 found h.1)
    where
      further : (more : elsewhere r v es ≡ Some first → Each Q (updated (moved n v) k es)) (b : Bool) → (in_span r e.key && not (nat_eq e.at v)) ≡ b → (if b then Some e else elsewhere r v es) ≡ Some first → key_cmp k e.key ≡ Greater
          → Q e × Each Q (updated (moved n v) k es)
      further more true is_b found greater =
          let same : e ≡ first = cc in
          let keys : e.key ≡ k = ap (λ (f : Stored). f.key) same ∙ under in
          let e1 : key_cmp k e.key ≡ Equal = ap (key_cmp k) keys ∙ itself k in cc
      further more false is_b found greater = (before e is_b h.0, more found)

      by : (o : Ordering) → key_cmp k e.key ≡ o → (elsewhere r v es ≡ Some first → Each Q (updated (moved n v) k es)) → Each Q (match_ordering o (e ∷ es) (record e { number = n; at = v } ∷ es) (e ∷ updated (moved n v) k es))
      by Less same more = all_behind e es same rising.0 h.0 h.1
      by Equal same more = (here e h.0, rest_behind e es same rising.0 h.1)
      by Greater same more = further more (in_span r e.key && not (nat_eq e.at v)) refl is same
