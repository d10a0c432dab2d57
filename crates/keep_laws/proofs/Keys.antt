-- Whose annotation a key is of.
use Rattle.std.proofs.Common.{◌≡◌, ℕ, zero, suc, List, [], ◌∷◌, ◌++◌, Bool, true, false, Some, Less, nat_cmp, bytes_eq, refl, ap, sym, subst, ◌∙◌, arith}
use Rattle.std.specs.Prelude.{if◌then◌else◌, nat_eq, slice_get}
use Rattle.std.specs.List.{starts_with}
use Rattle.std.specs.Cmp.Lexicographic.{slice_cmp}
use Rattle.std.proofs.lemmas.Slice.Eq.{bytes_eq-Decides, starts_is}
use Rattle.std.proofs.lemmas.Bool.Decides.{Decides-eqb}
use Rattle.hub_cells.specs.Level.{Name, IsFresh, AreDistinct}
use Rattle.keep_laws.proofs.Fields.{bytes_same, bytes_other}
use Rattle.keep_laws.specs.Spokes.{Spoke, Spokes, spoke_names, IsDefinition}
use Rattle.keep_laws.specs.Keys.{hub_key, spoke_prefix, spoke_key, KeyKind, plain, of_hub, of_spoke, of_none, kind_among, key_kind}

cons_head : {A : Type 0} (x y : A) (xs ys : List A) → x ∷ xs ≡ y ∷ ys → x ≡ y
cons_head x y xs ys e = cc

cons_tail : {A : Type 0} (x y : A) (xs ys : List A) → x ∷ xs ≡ y ∷ ys → xs ≡ ys
cons_tail x y xs ys e = cc

same_rest : (ps ns ms : Name) → ps ++ ns ≡ ps ++ ms → ns ≡ ms
same_rest [] ns ms e = e
same_rest (p ∷ ps) ns ms e = same_rest ps ns ms (cons_tail p p (ps ++ ns) (ps ++ ms) e)

pub hub_kind : (all : Spokes) → key_kind all hub_key ≡ of_hub
hub_kind all = rw (bytes_same hub_key) refl

-- `s` is no `h`
pub spoke_no_hub : (n : Name) → spoke_key n ≡ hub_key → ⊥
unfolding hub_key spoke_prefix
spoke_no_hub n e = differ 115 104 (cons_head _ _ _ _ e) refl refl
  where
    differ : (a b : ℕ) → a ≡ b → a ≡ 115 → b ≡ 104 → ⊥
    differ a b q r s = absurd (omega (arith, q, r, s))

pub spoke_after_hub : (n : Name) → slice_cmp nat_cmp (spoke_key n) hub_key ≡ Less → ⊥
unfolding hub_key spoke_prefix
spoke_after_hub n e = cc

starts : (n : Name) → starts_with nat_eq (spoke_key n) spoke_prefix ≡ true
starts n = (starts_is Decides-eqb (spoke_key n) spoke_prefix _ refl).1 n refl

fresh_name : (n : Name) (ss : List Spoke) (v : ℕ) (s : Spoke) → IsFresh n (spoke_names ss) → slice_get ss v ≡ Some s → n ≡ s.name → ⊥
fresh_name n [] v s f e q = absurd (cc)
fresh_name n (t ∷ ss) zero s f e q = f.0 (q ∙ sym (ap (λ (u : Spoke). u.name) (some_some t s e)))
  where
    some_some : (x y : Spoke) → Some x ≡ Some y → x ≡ y
    some_some x y p = cc
fresh_name n (t ∷ ss) (suc v) s f e q = fresh_name n ss v s f.1 e q

among : (ss : List Spoke) (v : ℕ) (s : Spoke) → AreDistinct (spoke_names ss) → slice_get ss v ≡ Some s → kind_among (spoke_key s.name) ss ≡ of_spoke s
among [] v s d e = absurd (cc)
among (t ∷ ss) zero s d e =
    subst (λ (u : Spoke). (if bytes_eq (spoke_key u.name) (spoke_key t.name) then of_spoke t else kind_among (spoke_key u.name) ss) ≡ of_spoke u) (some_some t s e) (rw (bytes_same (spoke_key t.name)) refl)
  where
    some_some : (x y : Spoke) → Some x ≡ Some y → x ≡ y
    some_some x y p = cc
among (t ∷ ss) (suc v) s d e =
    rw (bytes_other (spoke_key s.name) (spoke_key t.name) (λ q. fresh_name t.name ss v s d.0 e (sym (same_rest spoke_prefix s.name t.name q)))) (among ss v s d.1 e)

pub spoke_kind : (all : Spokes) (v : ℕ) (s : Spoke) → IsDefinition all → slice_get all.items v ≡ Some s → key_kind all (spoke_key s.name) ≡ of_spoke s
spoke_kind all v s d e =
    rw (bytes_other (spoke_key s.name) hub_key (spoke_no_hub s.name), starts s.name) (among all.items v s d.names.1 e)

-- ---- and back

-- what a kind says of its key
abbrev pub KindSays : Spokes → Name → KeyKind → Type 0
KindSays all k plain = Unit {0}
KindSays all k of_hub = k ≡ hub_key
KindSays all k (of_spoke s) = (k ≡ spoke_key s.name) × ((v : ℕ) × (slice_get all.items v ≡ Some s))
KindSays all k of_none = Unit {0}

abbrev AmongSays : List Spoke → Name → KeyKind → Type 0
AmongSays ss k plain = Unit {0}
AmongSays ss k of_hub = ⊥
AmongSays ss k (of_spoke s) = (k ≡ spoke_key s.name) × ((v : ℕ) × (slice_get ss v ≡ Some s))
AmongSays ss k of_none = Unit {0}

later_says : (t : Spoke) (ss : List Spoke) (k : Name) (d : KeyKind) → AmongSays ss k d → AmongSays (t ∷ ss) k d
later_says t ss k plain h = tt
later_says t ss k of_hub h = h
later_says t ss k (of_spoke s) h = (h.0, (suc h.1.0, h.1.1))
later_says t ss k of_none h = tt

among_says : (ss : List Spoke) (k : Name) → AmongSays ss k (kind_among k ss)
among_says [] k = tt
among_says (t ∷ ss) k = by_answer (bytes_eq k (spoke_key t.name)) refl (among_says ss k)
  where
    by_answer : (b : Bool) → bytes_eq k (spoke_key t.name) ≡ b → AmongSays ss k (kind_among k ss) → AmongSays (t ∷ ss) k (if b then of_spoke t else kind_among k ss)
    by_answer true q h = ((bytes_eq-Decides k (spoke_key t.name)).0 q, (0, refl))
    by_answer false q h = later_says t ss k (kind_among k ss) h

all_says : (all : Spokes) (k : Name) (d : KeyKind) → AmongSays all.items k d → KindSays all k d
all_says all k plain h = tt
all_says all k of_hub h = absurd h
all_says all k (of_spoke s) h = h
all_says all k of_none h = tt

pub kind_says : (all : Spokes) (k : Name) → KindSays all k (key_kind all k)
kind_says all k = by_hub (bytes_eq k hub_key) refl
  where
    by_prefix : (b : Bool) → KindSays all k (if b then kind_among k all.items else plain)
    by_prefix true = all_says all k (kind_among k all.items) (among_says all.items k)
    by_prefix false = tt

    by_hub : (b : Bool) → bytes_eq k hub_key ≡ b → KindSays all k (if b then of_hub else (if starts_with nat_eq k spoke_prefix then kind_among k all.items else plain))
    by_hub true q = (bytes_eq-Decides k hub_key).0 q
    by_hub false q = by_prefix (starts_with nat_eq k spoke_prefix)
