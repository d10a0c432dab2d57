-- Chunks of two chains differ, since each has one label.
use Rattle.std.proofs.Common.{◌≡◌, ◌≢◌, ℕ, ◌∙◌, ◌<◌, List, [], ◌∷◌, length, get_or, ap, refl, sym, arith}
use Rattle.record_region.specs.Chains.{IsSoundRegion, Label, chain_length, label, walk}

pub pieces_apart : (store links marks : List ℕ) (head free : ℕ) → IsSoundRegion store links marks head free
    → (first other j k : ℕ) → j < chain_length (get_or marks first 0) → k < chain_length (get_or marks other 0)
    → walk links j first ≡ walk links k other → (first ≡ other) × (j ≡ k)
pieces_apart store links marks head free sound first other j k inside within same =
    let one : label first j ≡ label other k =
    sym (sound.apart.piece_labels first j inside) ∙ ap sound.apart.labels same ∙ sound.apart.piece_labels other k within in
    (ap (λ (l : Label). l.chain) one, ap (λ (l : Label). l.steps) one)

pub free_apart : (store links marks : List ℕ) (head free : ℕ) → IsSoundRegion store links marks head free
    → (first j k : ℕ) → j < chain_length (get_or marks first 0) → k < free → walk links j first ≢ walk links k head
free_apart store links marks head free sound first j k inside within same =
    let one : label first j ≡ label (length marks) k =
    sym (sound.apart.piece_labels first j inside) ∙ ap sound.apart.labels same ∙ sound.apart.free_labels k within in
    let begins : first ≡ length marks = ap (λ (l : Label). l.chain) one in
    out_of_marks marks first j begins inside
  where
    past : (marks : List ℕ) (first : ℕ) → length marks ≡ first → get_or marks first 0 ≡ 0
    past [] first e = refl
    past (m ∷ ms) first e = rw (← e) (past ms (length ms) refl)

    out_of_marks : (marks : List ℕ) (first j : ℕ) → first ≡ length marks → j < chain_length (get_or marks first 0) → ⊥
    out_of_marks marks first j e inside =
        let nothing : get_or marks first 0 ≡ 0 = past marks first (sym e) in
        let none : j < chain_length 0 = rw nothing at inside in
        omega (arith, none)
