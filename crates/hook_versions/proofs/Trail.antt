-- Turns of a call that makes several.
use Rattle.std.proofs.Common.{◌≡◌, ◌∙◌, List, [], ◌∷◌, ◌++◌, Option, Some, None, append_assoc, append-nil, inl, inr, refl, ap, sym}
use Rattle.std.specs.Prelude.{ℕ}
use Rattle.kj_value.specs.Json.{Json}
use Rattle.converters.specs.Turns.{Turn, Answer, one_more}
use Rattle.crd_laws.specs.Turning.{Made, OfTurns}

abbrev Told : Type 0
Told = Option (List Turn)

-- ---- one of several

pub made_first : (us vs : List Turn) (t : Turn) → Made us t → Made (us ++ vs) t
made_first [] vs t m = absurd m
made_first (u ∷ us) vs t (inl e) = inl e
made_first (u ∷ us) vs t (inr m) = inr (made_first us vs t m)

pub made_later : (us vs : List Turn) (t : Turn) → Made vs t → Made (us ++ vs) t
made_later [] vs t m = m
made_later (u ∷ us) vs t m = inr (made_later us vs t m)

-- ---- turns of parts

pub none_made : (before : Told) (P : List Turn → Type 0) → P [] → OfTurns before before P
none_made None P p = refl
none_made (Some ts) P p = ([], ap Some (sym (append-nil ts)), p)

pub one_made : (before now : Told) (x : Json) (to : List ℕ) (a : Answer) (P : List Turn → Type 0) → now ≡ one_more before x to a
    → P ((record { object = x; to = to; answer = a }) ∷ []) → OfTurns before now P
one_made None now x to a P e p = e
one_made (Some ts) now x to a P e p = ((record { object = x; to = to; answer = a }) ∷ [], e, p)

pub made_so : (before now : Told) (P Q : List Turn → Type 0) → ((ts : List Turn) → P ts → Q ts) → OfTurns before now P → OfTurns before now Q
made_so None now P Q f h = h
made_so (Some ts) now P Q f h = (h.0, h.1, f h.0 h.2)

pub both_made : (a b c : Told) (P Q R : List Turn → Type 0) → ((us vs : List Turn) → P us → Q vs → R (us ++ vs)) → OfTurns a b P → OfTurns b c Q → OfTurns a c R
both_made None b c P Q R f h g = by_middle b h g
  where
    by_middle : (b : Told) → b ≡ None → OfTurns b c Q → c ≡ None
    by_middle None e q = q
    by_middle (Some ts) e q = absurd (cc)
both_made (Some ts) b c P Q R f h g = by_middle b h g
  where
    by_middle : (b : Told) → OfTurns (Some ts) b P → OfTurns b c Q → OfTurns (Some ts) c R
    by_middle None p q = absurd (none_some p.1)
      where
        none_some : {us : List Turn} → None ≡ Some us → ⊥
        none_some e = cc
    by_middle (Some us) p q =
        let same : us ≡ ts ++ p.0 = inside p.1 in (
          p.0 ++ q.0,
          q.1 ∙ ap Some (ap (λ (ws : List Turn). ws ++ q.0) same ∙ append_assoc ts p.0 q.0),
          f p.0 q.0 p.2 q.2,
        )
      where
        inside : {us vs : List Turn} → Some us ≡ Some vs → us ≡ vs
        inside e = cc
