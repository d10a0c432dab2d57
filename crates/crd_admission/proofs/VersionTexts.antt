-- Texts that begin with a group.
use Rattle.std.proofs.Common.{◌≡◌, ◌≢◌, ◌∙◌, ℕ, List, ◌++◌, Bool, true, false, bytes_eq, refl, ap, sym}
use Rattle.std.proofs.lemmas.List.{append_cancel_left}
use Rattle.std.proofs.lemmas.Slice.Eq.{bytes_eq-Decides}
use Rattle.keep_laws.proofs.Fields.{bytes_other}

one_test : (a b : Bool) → (a ≡ true → b ≡ true) → (b ≡ true → a ≡ true) → a ≡ b
one_test true b f g = sym (f refl)
one_test false false f g = refl
one_test false true f g = g refl

-- a text that begins otherwise
pub other_front : (s front rest : List ℕ) → ((r : List ℕ) → s ≢ front ++ r) → false ≡ bytes_eq s (front ++ rest)
other_front s front rest h = sym (bytes_other s (front ++ rest) (h rest))

-- behind one front
pub same_front : (s front r rest : List ℕ) → s ≡ front ++ r → bytes_eq r rest ≡ bytes_eq s (front ++ rest)
same_front s front r rest e =
    one_test (bytes_eq r rest) (bytes_eq s (front ++ rest))
    (λ q. (bytes_eq-Decides s (front ++ rest)).1 (e ∙ ap (λ (t : List ℕ). front ++ t) ((bytes_eq-Decides r rest).0 q)))
    (λ q. (bytes_eq-Decides r rest).1 (append_cancel_left front r rest (sym e ∙ (bytes_eq-Decides s (front ++ rest)).0 q)))
