-- Pieces sent one after the other.
use Rattle.std.proofs.Common.{◌≡◌, ℕ, List, [], ◌++◌, Option, Some, None, Result, Ok, Err, refl, ap, sym, ◌∙◌, append_assoc, ◌+◌, ◌≤◌, take, drop, arith}
use Rattle.std.proofs.lemmas.List.{append-nil, take-append-drop, take-take, drop-take}
use Rattle.std.specs.Io.KnownBytes.{append_known}
use Rattle.edge_io.specs.Sends.{AddsSome, Sends}

pub known_assoc : (known : Option (List ℕ)) (p q : List ℕ)
    → append_known (append_known known p) q ≡ append_known known (p ++ q)
known_assoc None p q = refl
known_assoc (Some xs) p q = ap (λ (ys : List ℕ). Some ys) (append_assoc xs p q)

-- nothing was added yet
pub known_nil : (known : Option (List ℕ)) → known ≡ append_known known []
known_nil None = refl
known_nil (Some xs) = ap (λ (ys : List ℕ). Some ys) (simp append-nil)

-- p was added, and then q
pub added_both : (before mid now : Option (List ℕ)) (p q : List ℕ)
    → mid ≡ append_known before p → now ≡ append_known mid q → now ≡ append_known before (p ++ q)
added_both before mid now p q first second = rw (second, first) (known_assoc before p q)

-- p was added, and then a front of q
pub adds_more : (before mid now : Option (List ℕ)) (p q : List ℕ)
    → mid ≡ append_known before p → AddsSome mid now q → AddsSome before now (p ++ q)
adds_more before mid now p q first some = record {
  front = p ++ some.front;
  back = some.back;
  whole = rw some.whole (sym (append_assoc p some.front some.back));
  wrote = added_both before mid now p some.front first some.wrote;
}

-- a front of p is a front of p and q
pub adds_fewer : (before now : Option (List ℕ)) (p q : List ℕ)
    → AddsSome before now p → AddsSome before now (p ++ q)
adds_fewer before now p q some = record {
  front = some.front;
  back = some.back ++ q;
  whole = rw some.whole (append_assoc some.front some.back q);
  wrote = some.wrote;
}

-- p was added, and then q or a front of it
pub sends_more : {T E : Type 0} (before mid now : Option (List ℕ)) (p q : List ℕ) (result : Result T E)
    → mid ≡ append_known before p → Sends mid now q result → Sends before now (p ++ q) result
sends_more before mid now p q (Ok x) first second = added_both before mid now p q first second
sends_more before mid now p q (Err e) first second = adds_more before mid now p q first second

pub take_further : (i n : ℕ) (xs : List ℕ) → take (i + n) xs ≡ take i xs ++ take n (drop i xs)
take_further i n xs =
    sym (take-append-drop i (take (i + n) xs))
    ∙ ap (λ (ys : List ℕ). ys ++ drop i (take (i + n) xs)) (take-take i (i + n) xs (omega arith))
    ∙ ap (λ (ys : List ℕ). take i xs ++ ys) (drop-take i n xs)

-- a write of what stands behind the front added more of the piece
pub added_further : (before mid now : Option (List ℕ)) (piece : List ℕ) (i n k : ℕ)
    → mid ≡ append_known before (take i piece)
    → now ≡ append_known mid (take n (take k (drop i piece)))
    → n ≤ k
    → now ≡ append_known before (take (i + n) piece)
added_further before mid now piece i n k first second within =
    rw take_further
    (added_both before mid now (take i piece) (take n (drop i piece)) first
    (second ∙ ap (λ (ys : List ℕ). append_known mid ys) (take-take n k (drop i piece) within)))

-- a front that was added
pub adds_front : (before now : Option (List ℕ)) (piece : List ℕ) (i : ℕ)
    → now ≡ append_known before (take i piece) → AddsSome before now piece
adds_front before now piece i wrote = record {
  front = take i piece;
  back = drop i piece;
  whole = sym (take-append-drop i piece);
  wrote = wrote;
}
