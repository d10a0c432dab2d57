-- Laws of the slots of a plan: a claim is in one slot at most, no other claim's move changes its span, and where it is done or given back it is in none.
use Rattle.std.specs.Prelude.{◌≡◌, ℕ, ◌+◌, ◌<◌, ◌≤◌, Bool, true, false, List, [], ◌∷◌, Option, None, Some, nat_eq, replicate, if◌then◌else◌}
use Rattle.std.proofs.Common.{refl, ap, ◌∙◌, sym, subst, arith, zero, suc}
use Rattle.std.specs.List.{list_any}
use Rattle.std.proofs.lemmas.Bool.Decides.{nat_tests}
use Rattle.kube_meta.specs.Key.{KeyView}
use Rattle.kube_meta.specs.Plan.{Span, Slot, Free, Held, Loose, Plan, span_of, changed, hold_loose, hold_free, claimed, next_bound, is_loose}

abbrev pub one_if : Bool → ℕ
one_if b = if b then 1 else 0

-- how many slots hold a claim
abbrev pub slots_of : ℕ → List Slot → ℕ
slots_of c [] = 0
slots_of c (Free ∷ ss) = slots_of c ss
slots_of c (Held d r ∷ ss) = one_if (nat_eq d c) + slots_of c ss
slots_of c (Loose r ∷ ss) = slots_of c ss

-- one slot at most holds a claim, and none holds one that wasn't taken yet
pub record IsOnce (c : ℕ) (p : Plan) : Type 0 where
  pub once : slots_of c p.slots ≤ 1
  pub fresh : p.last < c → slots_of c p.slots ≡ 0

pub number : (m n : ℕ) → nat_eq m n ≡ true → m ≡ n
number m n h = grind (arith, nat_tests)

pub none-held : (c : ℕ) (ss : List Slot) → slots_of c ss ≡ 0 → span_of c ss ≡ None
none-held c [] h = refl
none-held c (Free ∷ ss) h = none-held c ss h
none-held c (Loose r ∷ ss) h = none-held c ss h
none-held c (Held d r ∷ ss) h = by (nat_eq d c) h (none-held c ss)
  where
    by : (b : Bool) → one_if b + slots_of c ss ≡ 0 → (slots_of c ss ≡ 0 → span_of c ss ≡ None) → (if b then Some r else span_of c ss) ≡ None
    by true h more = absurd (omega (arith, h))
    by false h more = more (omega (arith, h))

pub some-held : (c : ℕ) (ss : List Slot) (r : Span) → span_of c ss ≡ Some r → 1 ≤ slots_of c ss
some-held c [] r h = cc
some-held c (Free ∷ ss) r h = some-held c ss r h
some-held c (Loose q ∷ ss) r h = some-held c ss r h
some-held c (Held d q ∷ ss) r h = by (nat_eq d c) h (some-held c ss r)
  where
    by : (b : Bool) → (if b then Some q else span_of c ss) ≡ Some r → (span_of c ss ≡ Some r → 1 ≤ slots_of c ss) → 1 ≤ one_if b + slots_of c ss
    by true h more = omega arith
    by false h more = let some = more h in omega (arith, some)

pub free-slots : (c n : ℕ) → slots_of c (replicate n Free) ≡ 0
free-slots c zero = refl
free-slots c (suc n) = free-slots c n

-- ---- a held slot became another

-- the span of another claim stays
pub span-changed_other : (f : Span → Slot) (d c : ℕ) (ss : List Slot) → nat_eq d c ≡ false → ((r : Span) (ts : List Slot) → span_of c (f r ∷ ts) ≡ span_of c ts)
    → span_of c (changed f d ss) ≡ span_of c ss
span-changed_other f d c [] other skips = refl
span-changed_other f d c (Free ∷ ss) other skips = span-changed_other f d c ss other skips
span-changed_other f d c (Loose r ∷ ss) other skips = span-changed_other f d c ss other skips
span-changed_other f d c (Held e r ∷ ss) other skips = by (nat_eq e d) refl (span-changed_other f d c ss other skips)
  where
    by : (b : Bool) → nat_eq e d ≡ b → span_of c (changed f d ss) ≡ span_of c ss
        → span_of c (if b then f r ∷ ss else Held e r ∷ changed f d ss) ≡ (if nat_eq e c then Some r else span_of c ss)
    by true is more =
        let differs : nat_eq e c ≡ false = ap (λ (x : ℕ). nat_eq x c) (number e d is) ∙ other in
        skips r ss ∙ sym (ap (λ (b : Bool). if b then Some r else span_of c ss) differs)
    by false is more = ap (λ (o : Option Span). if nat_eq e c then Some r else o) more

-- no claim comes into more slots
pub slots-changed : (f : Span → Slot) (d c : ℕ) (ss : List Slot) → ((r : Span) (ts : List Slot) → slots_of c (f r ∷ ts) ≤ one_if (nat_eq d c) + slots_of c ts)
    → slots_of c (changed f d ss) ≤ slots_of c ss
slots-changed f d c [] few = omega arith
slots-changed f d c (Free ∷ ss) few = slots-changed f d c ss few
slots-changed f d c (Loose r ∷ ss) few = slots-changed f d c ss few
slots-changed f d c (Held e r ∷ ss) few = by (nat_eq e d) refl (slots-changed f d c ss few)
  where
    by : (b : Bool) → nat_eq e d ≡ b → slots_of c (changed f d ss) ≤ slots_of c ss
        → slots_of c (if b then f r ∷ ss else Held e r ∷ changed f d ss) ≤ one_if (nat_eq e c) + slots_of c ss
    by true is more = subst (λ (x : ℕ). slots_of c (f r ∷ ss) ≤ one_if (nat_eq x c) + slots_of c ss) (sym (number e d is)) (few r ss)
    by false is more = omega (arith, more)

-- a claim is in no slot any more, where the one that it had holds none
pub slots-freed : (f : Span → Slot) (c : ℕ) (ss : List Slot) (r : Span) → span_of c ss ≡ Some r → slots_of c ss ≤ 1
    → ((q : Span) (ts : List Slot) → slots_of c (f q ∷ ts) ≡ slots_of c ts) → slots_of c (changed f c ss) ≡ 0
slots-freed f c [] r held once free = cc
slots-freed f c (Free ∷ ss) r held once free = slots-freed f c ss r held once free
slots-freed f c (Loose q ∷ ss) r held once free = slots-freed f c ss r held once free
slots-freed f c (Held e q ∷ ss) r held once free = by (nat_eq e c) refl held once (λ found few. slots-freed f c ss r found few free)
  where
    by : (b : Bool) → nat_eq e c ≡ b → (if b then Some q else span_of c ss) ≡ Some r → one_if b + slots_of c ss ≤ 1
        → (span_of c ss ≡ Some r → slots_of c ss ≤ 1 → slots_of c (changed f c ss) ≡ 0) → slots_of c (if b then f q ∷ ss else Held e q ∷ changed f c ss) ≡ 0
    by true is held once more = let freed = free q ss in omega (arith, freed, once)
    by false is held once more =
        let none = more held (omega (arith, once)) in
        ap (λ (b : Bool). one_if b + slots_of c (changed f c ss)) is ∙ (omega (arith, none))

-- ---- a claim was taken

pub span-hold_loose : (d c : ℕ) (ss : List Slot) → nat_eq d c ≡ false → span_of c (hold_loose d ss) ≡ span_of c ss
span-hold_loose d c [] other = refl
span-hold_loose d c (Free ∷ ss) other = span-hold_loose d c ss other
span-hold_loose d c (Held e r ∷ ss) other = ap (λ (o : Option Span). if nat_eq e c then Some r else o) (span-hold_loose d c ss other)
span-hold_loose d c (Loose r ∷ ss) other = ap (λ (b : Bool). if b then Some r else span_of c ss) other

pub span-hold_free : (d c : ℕ) (q : Span) (ss : List Slot) → nat_eq d c ≡ false → span_of c (hold_free d q ss) ≡ span_of c ss
span-hold_free d c q [] other = refl
span-hold_free d c q (Free ∷ ss) other = ap (λ (b : Bool). if b then Some q else span_of c ss) other
span-hold_free d c q (Held e r ∷ ss) other = ap (λ (o : Option Span). if nat_eq e c then Some r else o) (span-hold_free d c q ss other)
span-hold_free d c q (Loose r ∷ ss) other = span-hold_free d c q ss other

slots-hold_loose : (d c : ℕ) (ss : List Slot) → slots_of c (hold_loose d ss) ≤ one_if (nat_eq d c) + slots_of c ss
slots-hold_loose d c [] = omega arith
slots-hold_loose d c (Free ∷ ss) = slots-hold_loose d c ss
slots-hold_loose d c (Held e r ∷ ss) = let more = slots-hold_loose d c ss in omega (arith, more)
slots-hold_loose d c (Loose r ∷ ss) = omega arith

slots-hold_free : (d c : ℕ) (q : Span) (ss : List Slot) → slots_of c (hold_free d q ss) ≤ one_if (nat_eq d c) + slots_of c ss
slots-hold_free d c q [] = omega arith
slots-hold_free d c q (Free ∷ ss) = omega arith
slots-hold_free d c q (Held e r ∷ ss) = let more = slots-hold_free d c q ss in omega (arith, more)
slots-hold_free d c q (Loose r ∷ ss) = slots-hold_free d c q ss

pub span-claimed : (d c : ℕ) (keys : List KeyView) (p : Plan) → nat_eq d c ≡ false → span_of c (claimed d keys p).slots ≡ span_of c p.slots
span-claimed d c keys p other = by (list_any is_loose p.slots)
  where
    by : (b : Bool)
        → span_of c (if b then record p { slots = hold_loose d p.slots; last = d } else record p {
          cursor = next_bound p.cursor keys;
          slots = hold_free d (record { after = p.cursor; upto = next_bound p.cursor keys }) p.slots;
          last = d;
        }).slots ≡ span_of c p.slots
    by true = span-hold_loose d c p.slots other
    by false = span-hold_free d c (record { after = p.cursor; upto = next_bound p.cursor keys }) p.slots other

pub last-claimed : (d : ℕ) (keys : List KeyView) (p : Plan) → (claimed d keys p).last ≡ d
last-claimed d keys p = by (list_any is_loose p.slots)
  where
    by : (b : Bool)
        → (if b then record p { slots = hold_loose d p.slots; last = d } else record p {
          cursor = next_bound p.cursor keys;
          slots = hold_free d (record { after = p.cursor; upto = next_bound p.cursor keys }) p.slots;
          last = d;
        }).last ≡ d
    by true = refl
    by false = refl

one_more : (d c last old new : ℕ) → d ≡ last + 1 → new ≤ one_if (nat_eq d c) + old → old ≤ 1 → (last < c → old ≡ 0) → (new ≤ 1) × (d < c → new ≡ 0)
one_more d c last old new next most once fresh = by (nat_eq d c) refl most
  where
    by : (b : Bool) → nat_eq d c ≡ b → new ≤ one_if b + old → (new ≤ 1) × (d < c → new ≡ 0)
    by true is most =
        let same = number d c is in
        let none = fresh (omega (arith, next, same)) in
        (omega (arith, most, none), λ less. absurd (omega (arith, less, same)))
    by false is most = (omega (arith, most, once), λ less. let none = fresh (omega (arith, next, less)) in omega (arith, most, none))

pub once-claimed : (d c : ℕ) (keys : List KeyView) (p : Plan) → d ≡ p.last + 1 → IsOnce c p → IsOnce c (claimed d keys p)
once-claimed d c keys p next h = by (list_any is_loose p.slots)
  where
    by : (b : Bool)
        → IsOnce c (if b then record p { slots = hold_loose d p.slots; last = d } else record p {
          cursor = next_bound p.cursor keys;
          slots = hold_free d (record { after = p.cursor; upto = next_bound p.cursor keys }) p.slots;
          last = d;
        })
    by true =
        let more = one_more d c p.last (slots_of c p.slots) (slots_of c (hold_loose d p.slots)) next (slots-hold_loose d c p.slots) h.once h.fresh in
        record { once = more.0; fresh = more.1 }
    by false =
        let q : Span = record { after = p.cursor; upto = next_bound p.cursor keys } in
        let more = one_more d c p.last (slots_of c p.slots) (slots_of c (hold_free d (record { after = p.cursor; upto = next_bound p.cursor keys }) p.slots)) next
        (slots-hold_free d c (record { after = p.cursor; upto = next_bound p.cursor keys }) p.slots) h.once h.fresh in
        record { once = more.0; fresh = more.1 }

-- fewer slots, by the same last claim
pub once-fewer : (c : ℕ) (p : Plan) (ss : List Slot) → slots_of c ss ≤ slots_of c p.slots → IsOnce c p → IsOnce c (record p { slots = ss })
once-fewer c p ss few h = record {
  once = (let most = h.once in omega (arith, few, most));
  fresh = λ less. let none = h.fresh less in omega (arith, few, none);
}
