-- That two names of forms are one: what a hasher is fed of a name, and that the test of two names decides.
use Rattle.std.specs.Prelude.{◌≡◌, ℕ, Bool, true, ◌++◌, ◌&&◌, ◌==◌, bytes_eq}
use Rattle.std.proofs.lemmas.Bool.{eqb-true, and_parts}
use Rattle.std.proofs.lemmas.Slice.Eq.{bytes_eq-Decides}
use Rattle.std.specs.Hash as fed
use Rattle.std.specs.Cmp.{IsEquivalence, and_equiv, on_equiv, nat_eq_equiv}
use Rattle.std.specs.Cmp.Lexicographic.{nat_list_eq_equiv}
use Rattle.kube_meta.specs.Key.{KeyView}
use Rattle.form_cache.specs.Forms.{same_form}

abbrev pub fed_form : KeyView → ℕ → ℕ → fed.HashWrites
fed_form k n v = fed.u64 n ++ fed.u8 v ++ fed.str k.name ++ fed.str k.ns

-- the name of a form as one value
pub record Name : Type 0 where
  pub key : KeyView
  pub number : ℕ
  pub version : ℕ

abbrev pub same_name : Name → Name → Bool
same_name a b = same_form a.key a.number a.version b.key b.number b.version

abbrev name : KeyView → ℕ → ℕ → Name
name k n v = record { key = k; number = n; version = v }

pub same_equiv : IsEquivalence same_name
same_equiv = and_equiv (and_equiv (and_equiv (on_equiv (λ (a : Name). a.number) nat_eq_equiv) (on_equiv (λ (a : Name). a.version) nat_eq_equiv)) (on_equiv (λ (a : Name). a.key.name) nat_list_eq_equiv)) (on_equiv (λ (a : Name). a.key.ns) nat_list_eq_equiv)

pub same_congr : (k : KeyView) (n v : ℕ) (l : KeyView) (m w : ℕ) (j : KeyView) (i u : ℕ) → same_form k n v l m w ≡ true → same_form k n v j i u ≡ same_form l m w j i u
same_congr k n v l m w j i u h = same_equiv.congr (name k n v) (name l m w) (name j i u) h

-- names that pass the test have the same parts
pub same_parts : (k : KeyView) (n v : ℕ) (l : KeyView) (m w : ℕ) → same_form k n v l m w ≡ true → (k ≡ l) × (n ≡ m) × (v ≡ w)
same_parts k n v l m w h =
    let texts = and_parts ((n == m) && (v == w) && bytes_eq k.name l.name) (bytes_eq k.ns l.ns) h in
    let named = and_parts ((n == m) && (v == w)) (bytes_eq k.name l.name) texts.0 in
    let numbers = and_parts (n == m) (v == w) named.0 in
    let one_name = (bytes_eq-Decides k.name l.name).0 named.1 in
    let one_ns = (bytes_eq-Decides k.ns l.ns).0 texts.1 in
    ((λ i. record { ns = one_ns i; name = one_name i }), eqb-true n m numbers.0, eqb-true v w numbers.1)

pub fed_alike : (k : KeyView) (n v : ℕ) (l : KeyView) (m w : ℕ) → same_form k n v l m w ≡ true → fed_form k n v ≡ fed_form l m w
fed_alike k n v l m w h = let one = same_parts k n v l m w h in λ i. fed_form (one.0 i) (one.1 i) (one.2 i)

-- a name is itself
pub same_itself : (k : KeyView) (n v : ℕ) → same_form k n v k n v ≡ true
same_itself k n v = same_equiv.refl (name k n v)
