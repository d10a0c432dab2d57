-- Where the last colon stands.
use Rattle.std.proofs.Common.{◌≡◌, ◌≢◌, ℕ, suc, ◌+◌, ◌<◌, List, [], ◌∷◌, ◌++◌, length, get_or, take, drop, false, ◌==◌, Some, None, take-append-drop, drop-cons, get_or-drop, length-drop, refl, ap, ap₂, sym, ◌∙◌, arith}
use Rattle.hub_cells.specs.Colon.{has_colon, at_colon}
use Rattle.hub_cells.specs.laws.OneToOne.{at_last, no_colon}

not_58 : (x : ℕ) → x ≢ 58 → (x == 58) ≡ false
not_58 x h = grind arith

pub none_there : (xs : List ℕ) → ((i : ℕ) → i < length xs → get_or xs i 0 ≢ 58) → has_colon xs ≡ false
none_there [] h = refl
none_there (x ∷ xs) h = rw (not_58 x (h 0 (omega arith))) (none_there xs (λ i p. h (suc i) (omega arith)))

pub last_at : (bs : List ℕ) (k : ℕ) → k < length bs → get_or bs k 0 ≡ 58 → ((i : ℕ) → k < i → i < length bs → get_or bs i 0 ≢ 58) → at_colon bs ≡ Some (take k bs, drop (k + 1) bs)
last_at bs k p e h =
    let next : suc k ≡ k + 1 = omega arith in
    let rest : drop k bs ≡ 58 ∷ drop (k + 1) bs = drop-cons bs k 0 p ∙ ap₂ (λ (x : ℕ) (i : ℕ). x ∷ drop i bs) e next in
    let whole : take k bs ++ 58 ∷ drop (k + 1) bs ≡ bs = ap (λ (r : List ℕ). take k bs ++ r) (sym rest) ∙ take-append-drop k bs in
    let clear : has_colon (drop (k + 1) bs) ≡ false =
    none_there (drop (k + 1) bs) (λ i q g. h (k + 1 + i) (omega arith) (omega (arith, q, length-drop (k + 1) bs)) (sym (get_or-drop (k + 1) bs i 0) ∙ g)) in
    ap at_colon (sym whole) ∙ at_last (take k bs) (drop (k + 1) bs) clear

pub none_at : (bs : List ℕ) → ((i : ℕ) → i < length bs → get_or bs i 0 ≢ 58) → at_colon bs ≡ None
none_at bs h = no_colon bs (none_there bs h)
