-- Labels after a put and after a free.
use Rattle.std.proofs.Common.{◌≡◌, ◌≢◌, ℕ, suc, ◌+◌, ◌-◌, ◌<◌, ◌≤◌, ◌⊎◌, cond, eqb, ltb, List, length, get_or, set, refl, ap, sym, ◌∙◌, inl, inr, arith}
use Rattle.std.proofs.lemmas.Bool.{lt-ltb, le-ltb, eq-eqb, ne_eqb, cases_eq, cases_lt}
use Rattle.std.proofs.lemmas.List.{get_or-set_other, get_or-set_same, length-set, get_or_past}
use Rattle.record_region.specs.Chunks.{chunks_of}
use Rattle.record_region.specs.Chains.{walk, chain_length, Label, label, IsApart}
use Rattle.record_region.proofs.Walks.{walk-add, walk-set}

chain_is : (a b : Label) → a ≡ b → a.chain ≡ b.chain
chain_is a b e = ap (λ (l : Label). l.chain) e

steps_are : (a b : Label) → a ≡ b → a.steps ≡ b.steps
steps_are a b e = ap (λ (l : Label). l.steps) e

-- the first free chunks become the chain of a piece
put_label : ℕ → ℕ → ℕ → Label → Label
put_label free count piece l = cond (eqb l.chain free) (cond (ltb l.steps count) (label piece l.steps) (label free (l.steps - count))) l

put_label-taken : (free count piece j : ℕ) → j < count → put_label free count piece (label free j) ≡ label piece j
unfolding put_label
put_label-taken free count piece j p = rw (eq-eqb free free refl, lt-ltb j count p) refl

put_label-left : (free count piece j : ℕ) → put_label free count piece (label free (j + count)) ≡ label free j
unfolding put_label
put_label-left free count piece j =
    let past : count ≤ j + count = omega arith in
    let e : j + count - count ≡ j = omega arith in
    rw (eq-eqb free free refl, le-ltb (j + count) count past, e) refl

put_label-other : (free count piece i j : ℕ) → (i ≡ free → ⊥) → put_label free count piece (label i j) ≡ label i j
unfolding put_label
put_label-other free count piece i j p = rw (ne_eqb i free p) refl

-- the chain of a piece goes before the free chunks
free_label : ℕ → ℕ → ℕ → Label → Label
free_label free count piece l = cond (eqb l.chain free) (label free (l.steps + count)) (cond (eqb l.chain piece) (label free l.steps) l)

free_label-free : (free count piece j : ℕ) → free_label free count piece (label free j) ≡ label free (j + count)
unfolding free_label
free_label-free free count piece j = rw (eq-eqb free free refl) refl

free_label-piece : (free count piece j : ℕ) → (piece ≡ free → ⊥) → free_label free count piece (label piece j) ≡ label free j
unfolding free_label
free_label-piece free count piece j p = rw (ne_eqb piece free p, eq-eqb piece piece refl) refl

free_label-other : (free count piece i j : ℕ) → (i ≡ free → ⊥) → (i ≡ piece → ⊥) → free_label free count piece (label i j) ≡ label i j
unfolding free_label
free_label-other free count piece i j p q = rw (ne_eqb i free p, ne_eqb i piece q) refl

-- a chunk whose mark stands for a chain is in the region
pub chain-within : (marks : List ℕ) (i j : ℕ) → j < chain_length (get_or marks i 0) → i < length marks
chain-within marks i j p = by_case (cases_lt i (length marks))
  where
    by_case : (i < length marks) ⊎ (length marks ≤ i) → i < length marks
    by_case (inl q) = q
    by_case (inr q) =
        let none : chain_length (get_or marks i 0) ≡ 0 = ap chain_length (get_or_past marks i 0 q) in
        absurd (omega arith)

pub not_free : (marks : List ℕ) (i j : ℕ) → j < chain_length (get_or marks i 0) → i ≡ length marks → ⊥
not_free marks i j p e =
    let within : i < length marks = chain-within marks i j p in
    omega arith

-- the marks after one changed
mark_here : (marks : List ℕ) (at mark i : ℕ) → at < length marks → i ≡ at → get_or (set marks at mark) i 0 ≡ mark
mark_here marks at mark i within e = ap (λ (k : ℕ). get_or (set marks at mark) k 0) e ∙ get_or-set_same marks at mark 0 within

-- two chunks with two labels are two
pub apart_by : (labels : ℕ → Label) (a b i j k l : ℕ) → labels a ≡ label i j → labels b ≡ label k l → (i ≡ k → j ≡ l → ⊥) → a ≢ b
apart_by labels a b i j k l e f different p =
    let same : label i j ≡ label k l = sym e ∙ ap labels p ∙ f in
    different (chain_is (label i j) (label k l) same) (steps_are (label i j) (label k l) same)

-- after a put
pub apart-put : (links marks : List ℕ) (head free n count : ℕ) → count ≡ chunks_of n → count ≤ free → IsApart links marks head free → IsApart links (set marks head (suc n)) (walk links count head) (free - count)
apart-put links marks head free n count e most a = record {
  labels = λ c. put_label (length marks) count head (a.labels c);
  free_within = λ j p.
      let w : walk links (j + count) head ≡ walk links j (walk links count head) = walk-add links j count head in
      let old : walk links (j + count) head < length marks = a.free_within (j + count) (omega arith) in
      omega (arith, length-set marks head (suc n));
  free_labels = λ j p.
      ap (λ (c : ℕ). put_label (length marks) count head (a.labels c)) (sym (walk-add links j count head))
      ∙ ap (put_label (length marks) count head) (a.free_labels (j + count) (omega arith))
      ∙ put_label-left (length marks) count head j
      ∙ ap (λ (k : ℕ). label k j) (sym (length-set marks head (suc n)));
  piece_within = λ i j p. within i j p (cases_eq i head);
  piece_labels = λ i j p. labelled i j p (cases_eq i head);
}
  where
    head_within : head < length marks
    head_within = a.free_within 0 (omega arith)

    here : (i j : ℕ) → j < chain_length (get_or (set marks head (suc n)) i 0) → i ≡ head → j < count
    here i j p q =
        let c : chain_length (get_or (set marks head (suc n)) i 0) ≡ chunks_of n = ap chain_length (mark_here marks head (suc n) i head_within q) in
        omega arith

    there : (i j : ℕ) → j < chain_length (get_or (set marks head (suc n)) i 0) → (i ≡ head → ⊥) → j < chain_length (get_or marks i 0)
    there i j p q =
        let c : chain_length (get_or (set marks head (suc n)) i 0) ≡ chain_length (get_or marks i 0) = ap chain_length (get_or-set_other marks head i (suc n) 0 q) in
        omega arith

    within : (i j : ℕ) → j < chain_length (get_or (set marks head (suc n)) i 0) → (i ≡ head) ⊎ (i ≡ head → ⊥) → walk links j i < length (set marks head (suc n))
    within i j p (inl q) =
        let less : j < count = here i j p q in
        let old : walk links j head < length marks = a.free_within j (omega arith) in
        let w : walk links j i ≡ walk links j head = ap (λ (k : ℕ). walk links j k) q in
        omega (arith, length-set marks head (suc n))
    within i j p (inr q) =
        let old : walk links j i < length marks = a.piece_within i j (there i j p q) in
        omega (arith, length-set marks head (suc n))

    labelled : (i j : ℕ) → j < chain_length (get_or (set marks head (suc n)) i 0) → (i ≡ head) ⊎ (i ≡ head → ⊥) → put_label (length marks) count head (a.labels (walk links j i)) ≡ label i j
    labelled i j p (inl q) =
        let less : j < count = here i j p q in
        ap (λ (k : ℕ). put_label (length marks) count head (a.labels (walk links j k))) q
        ∙ ap (put_label (length marks) count head) (a.free_labels j (omega arith))
        ∙ put_label-taken (length marks) count head j less
        ∙ ap (λ (k : ℕ). label k j) (sym q)
    labelled i j p (inr q) =
        ap (put_label (length marks) count head) (a.piece_labels i j (there i j p q))
        ∙ put_label-other (length marks) count head i j (not_free marks i j (there i j p q))

-- the walks after the last link of a piece's chain was turned to the free chunks
pub walk-other : (links marks : List ℕ) (head free piece last : ℕ) (a : IsApart links marks head free) → a.labels (walk links last piece) ≡ label piece last → (i : ℕ) → (i ≡ piece → ⊥) → (j : ℕ) → j < chain_length (get_or marks i 0) → walk (set links (walk links last piece) head) j i ≡ walk links j i
walk-other links marks head free piece last a e i ne j p = walk-set links (walk links last piece) head j i (λ m q. apart_by a.labels (walk links m i) (walk links last piece) i m piece last (a.piece_labels i m (omega arith)) e (λ r s. ne r))

walk-free : (links marks : List ℕ) (head free piece last : ℕ) (a : IsApart links marks head free) → a.labels (walk links last piece) ≡ label piece last → (length marks ≡ piece → ⊥) → (j : ℕ) → j < free → walk (set links (walk links last piece) head) j head ≡ walk links j head
walk-free links marks head free piece last a e ne j p = walk-set links (walk links last piece) head j head (λ m q. apart_by a.labels (walk links m head) (walk links last piece) (length marks) m piece last (a.free_labels m (omega arith)) e (λ r s. ne r))

walk-own : (links marks : List ℕ) (head free piece last : ℕ) (a : IsApart links marks head free) → a.labels (walk links last piece) ≡ label piece last → last < chain_length (get_or marks piece 0) → (j : ℕ) → j ≤ last → walk (set links (walk links last piece) head) j piece ≡ walk links j piece
walk-own links marks head free piece last a e l j p = walk-set links (walk links last piece) head j piece (λ m q. apart_by a.labels (walk links m piece) (walk links last piece) piece m piece last (a.piece_labels piece m (omega arith)) e (λ r s. let t : m ≡ last = s in omega arith))

walk-behind : (links marks : List ℕ) (head free piece last : ℕ) (a : IsApart links marks head free) → a.labels (walk links last piece) ≡ label piece last → last < chain_length (get_or marks piece 0) → walk links last piece < length links → (length marks ≡ piece → ⊥) → (j : ℕ) → suc last ≤ j → j - suc last < free → walk (set links (walk links last piece) head) j piece ≡ walk links (j - suc last) head
walk-behind links marks head free piece last a e l within ne j p q =
    let parts : j ≡ (j - suc last) + suc last = omega arith in
    let end : walk (set links (walk links last piece) head) (suc last) piece ≡ head = ap (λ (c : ℕ). get_or (set links (walk links last piece) head) c 0) (walk-own links marks head free piece last a e l last (omega arith)) ∙ get_or-set_same links (walk links last piece) head 0 within in
    ap (λ (k : ℕ). walk (set links (walk links last piece) head) k piece) parts
    ∙ walk-add (set links (walk links last piece) head) (j - suc last) (suc last) piece
    ∙ ap (λ (k : ℕ). walk (set links (walk links last piece) head) (j - suc last) k) end
    ∙ walk-free links marks head free piece last a e ne (j - suc last) q

-- after a free
pub apart-free : (links marks : List ℕ) (head free piece last : ℕ) → chain_length (get_or marks piece 0) ≡ suc last → length links ≡ length marks → IsApart links marks head free → IsApart (set links (walk links last piece) head) (set marks piece 0) piece (free + suc last)
apart-free links marks head free piece last e same a = record {
  labels = λ c. free_label (length marks) (suc last) piece (a.labels c);
  free_within = λ j p. f_within j p (cases_lt j (suc last));
  free_labels = λ j p. f_label j p (cases_lt j (suc last)) ∙ ap (λ (k : ℕ). label k j) (sym (length-set marks piece 0));
  piece_within = λ i j p. p_within i j p (cases_eq i piece);
  piece_labels = λ i j p. p_label i j p (cases_eq i piece);
}
  where
    end : last < chain_length (get_or marks piece 0)
    end = omega arith

    end_label : a.labels (walk links last piece) ≡ label piece last
    end_label = a.piece_labels piece last (omega arith)

    end_within : walk links last piece < length links
    end_within =
        let w : walk links last piece < length marks = a.piece_within piece last (omega arith) in
        omega arith

    inside : piece < length marks
    inside = chain-within marks piece last (omega arith)

    ne : length marks ≡ piece → ⊥
    ne q =
        let w : piece < length marks = chain-within marks piece last (omega arith) in
        omega arith

    f_within : (j : ℕ) → j < free + suc last → (j < suc last) ⊎ (suc last ≤ j) → walk (set links (walk links last piece) head) j piece < length (set marks piece 0)
    f_within j p (inl q) =
        let w : walk (set links (walk links last piece) head) j piece ≡ walk links j piece = walk-own links marks head free piece last a end_label end j (omega arith) in
        let old : walk links j piece < length marks = a.piece_within piece j (omega arith) in
        omega (arith, length-set marks piece 0)
    f_within j p (inr q) =
        let w : walk (set links (walk links last piece) head) j piece ≡ walk links (j - suc last) head = walk-behind links marks head free piece last a end_label end end_within ne j q (omega arith) in
        let old : walk links (j - suc last) head < length marks = a.free_within (j - suc last) (omega arith) in
        omega (arith, length-set marks piece 0)

    f_label : (j : ℕ) → j < free + suc last → (j < suc last) ⊎ (suc last ≤ j) → free_label (length marks) (suc last) piece (a.labels (walk (set links (walk links last piece) head) j piece)) ≡ label (length marks) j
    f_label j p (inl q) =
        ap (λ (c : ℕ). free_label (length marks) (suc last) piece (a.labels c)) (walk-own links marks head free piece last a end_label end j (omega arith))
        ∙ ap (free_label (length marks) (suc last) piece) (a.piece_labels piece j (omega arith))
        ∙ free_label-piece (length marks) (suc last) piece j (λ r. ne (sym r))
    f_label j p (inr q) =
        let parts : (j - suc last) + suc last ≡ j = omega arith in
        ap (λ (c : ℕ). free_label (length marks) (suc last) piece (a.labels c)) (walk-behind links marks head free piece last a end_label end end_within ne j q (omega arith))
        ∙ ap (free_label (length marks) (suc last) piece) (a.free_labels (j - suc last) (omega arith))
        ∙ free_label-free (length marks) (suc last) piece (j - suc last)
        ∙ ap (λ (k : ℕ). label (length marks) k) parts

    none : (i j : ℕ) → j < chain_length (get_or (set marks piece 0) i 0) → i ≡ piece → ⊥
    none i j p q =
        let c : chain_length (get_or (set marks piece 0) i 0) ≡ 0 = ap chain_length (mark_here marks piece 0 i inside q) in
        omega arith

    there : (i j : ℕ) → j < chain_length (get_or (set marks piece 0) i 0) → (i ≡ piece → ⊥) → j < chain_length (get_or marks i 0)
    there i j p q =
        let c : chain_length (get_or (set marks piece 0) i 0) ≡ chain_length (get_or marks i 0) = ap chain_length (get_or-set_other marks piece i 0 0 q) in
        omega arith

    p_within : (i j : ℕ) → j < chain_length (get_or (set marks piece 0) i 0) → (i ≡ piece) ⊎ (i ≡ piece → ⊥) → walk (set links (walk links last piece) head) j i < length (set marks piece 0)
    p_within i j p (inl q) = absurd (none i j p q)
    p_within i j p (inr q) =
        let w : walk (set links (walk links last piece) head) j i ≡ walk links j i = walk-other links marks head free piece last a end_label i q j (there i j p q) in
        let old : walk links j i < length marks = a.piece_within i j (there i j p q) in
        omega (arith, length-set marks piece 0)

    p_label : (i j : ℕ) → j < chain_length (get_or (set marks piece 0) i 0) → (i ≡ piece) ⊎ (i ≡ piece → ⊥) → free_label (length marks) (suc last) piece (a.labels (walk (set links (walk links last piece) head) j i)) ≡ label i j
    p_label i j p (inl q) = absurd (none i j p q)
    p_label i j p (inr q) =
        ap (λ (c : ℕ). free_label (length marks) (suc last) piece (a.labels c)) (walk-other links marks head free piece last a end_label i q j (there i j p q))
        ∙ ap (free_label (length marks) (suc last) piece) (a.piece_labels i j (there i j p q))
        ∙ free_label-other (length marks) (suc last) piece i j (not_free marks i j (there i j p q)) q
