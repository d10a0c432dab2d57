-- What the moves of the plan keep: a key that is covered afterwards was covered before, unless the claim that had it is done.
use Rattle.std.proofs.Common.{◌≡◌, ℕ, List, [], ◌∷◌, Some, Bool, true, false, ap, refl, sym, ◌∙◌, nat_eq}
use Rattle.std.specs.Prelude.{◌&&◌, ◌||◌, not, if◌then◌else◌}
use Rattle.std.specs.List.{list_any}
use Rattle.kube_meta.specs.Key.{KeyView}
use Rattle.kube_meta.specs.Plan.{Span, Slot, Free, Held, Loose, Plan, passed, in_span, reserves, covered, span_of, changed, is_end, hold_loose, hold_free, is_loose, is_free, next_bound, may_claim, claimed}

or_first : (a b c : Bool) → (b ≡ true → c ≡ true) → (a || b) ≡ true → (a || c) ≡ true
or_first true b c f h = refl
or_first false b c f h = f h

-- what a held span holds stays reserved, if what the slot becomes reserves it
pub reserved-changed : (x : KeyView) (f : Span → Slot) (c : ℕ) (ss : List Slot) (r : Span) → span_of c ss ≡ Some r → (in_span r x ≡ true → reserves x (f r) ≡ true)
    → list_any (reserves x) ss ≡ true → list_any (reserves x) (changed f c ss) ≡ true
reserved-changed x f c [] r is keeps h = cc
reserved-changed x f c (Free ∷ ss) r is keeps h = reserved-changed x f c ss r is keeps h
reserved-changed x f c (Loose q ∷ ss) r is keeps h = or_first (in_span q x) (list_any (reserves x) ss) (list_any (reserves x) (changed f c ss)) (reserved-changed x f c ss r is keeps) h
reserved-changed x f c (Held d q ∷ ss) r is keeps h = by (nat_eq d c) is (λ found. reserved-changed x f c ss r found keeps)
  where
    later : (b : Bool) → list_any (reserves x) ss ≡ true → (b || list_any (reserves x) ss) ≡ true
    later true h = refl
    later false h = h

    this : (b : Bool) → in_span q x ≡ b → q ≡ r → (b || list_any (reserves x) ss) ≡ true → (reserves x (f q) || list_any (reserves x) ss) ≡ true
    this true is_b same h =
        let e : in_span r x ≡ true = ap (λ (s : Span). in_span s x) (sym same) ∙ is_b in
        let kept : reserves x (f q) ≡ true = ap (λ (s : Span). reserves x (f s)) same ∙ keeps e in
        rw kept refl
    this false is_b same h = later (reserves x (f q)) h

    by : (b : Bool) → (if b then Some q else span_of c ss) ≡ Some r
        → (span_of c ss ≡ Some r → list_any (reserves x) ss ≡ true → list_any (reserves x) (changed f c ss) ≡ true) → list_any (reserves x) (if b then f q ∷ ss else Held d q ∷ changed f c ss) ≡ true
    by true found more = let same : q ≡ r = cc in this (in_span q x) refl same h
    by false found more = or_first (in_span q x) (list_any (reserves x) ss) (list_any (reserves x) (changed f c ss)) (more found) h

pub reserved-hold_loose : (x : KeyView) (c : ℕ) (ss : List Slot) → list_any (reserves x) (hold_loose c ss) ≡ list_any (reserves x) ss
reserved-hold_loose x c [] = refl
reserved-hold_loose x c (Free ∷ ss) = reserved-hold_loose x c ss
reserved-hold_loose x c (Held d r ∷ ss) = ap (λ b. in_span r x || b) (reserved-hold_loose x c ss)
reserved-hold_loose x c (Loose r ∷ ss) = refl

or_last : (a b : Bool) → b ≡ true → (a || b) ≡ true
or_last true b h = refl
or_last false b h = h

-- a free slot that is taken reserves its span, and what was reserved stays
pub reserved-hold_free : (x : KeyView) (c : ℕ) (r : Span) (ss : List Slot) → list_any is_free ss ≡ true → in_span r x ≡ true → list_any (reserves x) (hold_free c r ss) ≡ true
reserved-hold_free x c r [] room h = cc
reserved-hold_free x c r (Free ∷ ss) room h = rw h refl
reserved-hold_free x c r (Held d q ∷ ss) room h = or_last (in_span q x) (list_any (reserves x) (hold_free c r ss)) (reserved-hold_free x c r ss room h)
reserved-hold_free x c r (Loose q ∷ ss) room h = or_last (in_span q x) (list_any (reserves x) (hold_free c r ss)) (reserved-hold_free x c r ss room h)

pub reserved-kept_free : (x : KeyView) (c : ℕ) (r : Span) (ss : List Slot) → list_any (reserves x) ss ≡ true → list_any (reserves x) (hold_free c r ss) ≡ true
reserved-kept_free x c r [] h = cc
reserved-kept_free x c r (Free ∷ ss) h = or_last (in_span r x) (list_any (reserves x) ss) h
reserved-kept_free x c r (Held d q ∷ ss) h = or_first (in_span q x) (list_any (reserves x) ss) (list_any (reserves x) (hold_free c r ss)) (reserved-kept_free x c r ss) h
reserved-kept_free x c r (Loose q ∷ ss) h = or_first (in_span q x) (list_any (reserves x) ss) (list_any (reserves x) (hold_free c r ss)) (reserved-kept_free x c r ss) h

-- covered before, if covered afterwards: the mark is the same, and what was reserved still is
fewer : (a b c : Bool) → (b ≡ true → c ≡ true) → (a && not c) ≡ true → (a && not b) ≡ true
fewer true true true keeps h = h
fewer true true false keeps h = let e = keeps refl in cc
fewer true false c keeps h = refl
fewer false b c keeps h = h

pub covered-changed : (x : KeyView) (f : Span → Slot) (c : ℕ) (p : Plan) (r : Span) → span_of c p.slots ≡ Some r → (in_span r x ≡ true → reserves x (f r) ≡ true)
    → covered (record p { slots = changed f c p.slots }) x ≡ true → covered p x ≡ true
covered-changed x f c p r is keeps h =
    fewer (passed p.cursor x) (list_any (reserves x) p.slots) (list_any (reserves x) (changed f c p.slots)) (reserved-changed x f c p.slots r is keeps) h

-- a mark that moved on, over what was reserved in its place
moved_on : (a n d e : Bool) → (d ≡ true → e ≡ true) → ((not a && n) ≡ true → e ≡ true) → (n && not e) ≡ true → (a && not d) ≡ true
moved_on a false d e old new h = cc
moved_on a true d true old new h = cc
moved_on true true true false old new h = let e = old refl in cc
moved_on true true false false old new h = refl
moved_on false true d false old new h = let e = new refl in cc

-- a claim takes nothing out of what was covered, and covers nothing more
pub covered-claimed : (x : KeyView) (c : ℕ) (keys : List KeyView) (p : Plan) → may_claim p ≡ true → covered (claimed c keys p) x ≡ true → covered p x ≡ true
covered-claimed x c keys p may h = by (list_any is_loose p.slots) may h
  where
    last : (a b : Bool) → (a && b) ≡ true → b ≡ true
    last true b h = h
    last false b h = cc

    by : (b : Bool) → (if b then true else not (is_end p.cursor) && list_any is_free p.slots) ≡ true
        → covered (if b then record p { slots = hold_loose c p.slots; last = c } else record p {
          cursor = next_bound p.cursor keys;
          slots = hold_free c (record { after = p.cursor; upto = next_bound p.cursor keys }) p.slots;
          last = c;
        }) x ≡ true → covered p x ≡ true
    by true may h = ap (λ b. passed p.cursor x && not b) (sym (reserved-hold_loose x c p.slots)) ∙ h
    by false may h =
        moved_on (passed p.cursor x) (passed (next_bound p.cursor keys) x) (list_any (reserves x) p.slots)
        (list_any (reserves x) (hold_free c (record { after = p.cursor; upto = next_bound p.cursor keys }) p.slots))
        (reserved-kept_free x c (record { after = p.cursor; upto = next_bound p.cursor keys }) p.slots)
        (reserved-hold_free x c (record { after = p.cursor; upto = next_bound p.cursor keys }) p.slots (last (not (is_end p.cursor)) (list_any is_free p.slots) may))
        h
