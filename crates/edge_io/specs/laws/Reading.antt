-- What std's readers and writers do, one call after the other.
use Rattle.std.proofs.Common.{◌≡◌, ◌<◌, ◌≤◌, ◌+◌, ℕ, List, [], ◌++◌, length, drop, subst, Option, Some, None, refl, sym, ap, ◌∙◌, append_assoc, append-nil, length-append, arith}
use Rattle.std.specs.Prelude.{IfSome, take, Result, Ok, Err}
use Rattle.std.proofs.lemmas.List.{take-take, take_all}
use Rattle.std.specs.Io.KnownBytes.{Appends, Consumes, IsAtEnd, Keeps, ReadConsumes}
use Rattle.edge_io.specs.laws.Sending.{take_further}

-- p was read, and then q
pub consumes_more : (a b c : Option (List ℕ)) (p q : List ℕ) → Consumes a b p → Consumes b c q → Consumes a c (p ++ q)
consumes_more None b c p q first second = tt
consumes_more (Some xs) None c p q first second = absurd first
consumes_more (Some xs) (Some ys) None p q first second = absurd second
consumes_more (Some xs) (Some ys) (Some zs) p q first second =
    first ∙ ap (λ (t : List ℕ). p ++ t) second ∙ sym (append_assoc p q zs)

-- nothing was read yet
pub consumes_none : (a : Option (List ℕ)) → Consumes a a []
consumes_none None = tt
consumes_none (Some xs) = refl

-- what was read up to the end is all
pub consumes_all : (a b : Option (List ℕ)) (p : List ℕ) → Consumes a b p → IsAtEnd b → IfSome a (λ all. p ≡ all)
consumes_all None b p read end = tt
consumes_all (Some xs) None p read end = absurd read
consumes_all (Some xs) (Some ys) p read end = sym (read ∙ ap (λ (t : List ℕ). p ++ t) end ∙ append-nil p)

-- more stands there than was read
pub consumes_long : (a b : Option (List ℕ)) (had p : List ℕ) (most : ℕ) → Consumes a b p → most < length had + length p
    → IfSome a (λ left. most < length (had ++ left))
consumes_long None b had p most read long = tt
consumes_long (Some xs) None had p most read long = absurd read
consumes_long (Some xs) (Some ys) had p most read long =
    omega (arith, ap length read, length-append p ys, length-append had xs, long)

-- a write that took nothing left all as it was
pub keeps_all : (old new : Option (List ℕ)) (bytes : List ℕ) → Appends old new (take 0 bytes) → Keeps old new
keeps_all None new bytes h = tt
keeps_all (Some xs) None bytes h = absurd h
keeps_all (Some xs) (Some ys) bytes h = h ∙ append-nil xs

-- p was written, and then q
pub appends_more : (a b c : Option (List ℕ)) (p q : List ℕ) → Appends a b p → Appends b c q → Appends a c (p ++ q)
appends_more None b c p q first second = tt
appends_more (Some xs) None c p q first second = absurd first
appends_more (Some xs) (Some ys) None p q first second = absurd second
appends_more (Some xs) (Some ys) (Some zs) p q first second =
    second ∙ ap (λ (t : List ℕ). t ++ q) first ∙ append_assoc xs p q

-- nothing was written yet
pub appends_none : (a : Option (List ℕ)) → Appends a a []
appends_none None = tt
appends_none (Some xs) = sym (append-nil xs)

-- what stands behind a front was written
pub appends_further : (a b c : Option (List ℕ)) (piece : List ℕ) (i n k : ℕ) → Appends a b (take i piece)
    → Appends b c (take n (take k (drop i piece))) → n ≤ k → Appends a c (take (i + n) piece)
appends_further a b c piece i n k first second within =
    subst (Appends a c) (sym (take_further i n piece)) (appends_more a b c (take i piece) (take n (drop i piece)) first
    (subst (Appends b c) (take-take n k (drop i piece) within) second))

-- all of it was written
pub appends_whole : (a b c : Option (List ℕ)) (piece : List ℕ) (i : ℕ) → Appends a b (take i piece) → Keeps b c → length piece ≤ i → Appends a c piece
appends_whole None b c piece i first second all = tt
appends_whole (Some xs) None c piece i first second all = absurd first
appends_whole (Some xs) (Some ys) None piece i first second all = absurd second
appends_whole (Some xs) (Some ys) (Some zs) piece i first second all =
    second ∙ first ∙ ap (λ (t : List ℕ). xs ++ t) (take_all i piece all)

-- nothing was done, and then something was read
pub keeps_consumes : (a b c : Option (List ℕ)) (p : List ℕ) → Keeps a b → Consumes b c p → Consumes a c p
keeps_consumes None b c p first second = tt
keeps_consumes (Some xs) None c p first second = absurd first
keeps_consumes (Some xs) (Some ys) None p first second = absurd second
keeps_consumes (Some xs) (Some ys) (Some zs) p first second = sym first ∙ second

pub keeps_keeps : (a b c : Option (List ℕ)) → Keeps a b → Keeps b c → Keeps a c
keeps_keeps None b c first second = tt
keeps_keeps (Some xs) None c first second = absurd first
keeps_keeps (Some xs) (Some ys) None first second = absurd second
keeps_keeps (Some xs) (Some ys) (Some zs) first second = second ∙ first

-- nothing was done, and then that read
pub keeps_reads : {E : Type 0} (a b c : Option (List ℕ)) (result : Result ℕ E) (into : List ℕ) → Keeps a b → ReadConsumes b c result into
    → ReadConsumes a c result into
keeps_reads a b c (Ok n) into first second = (keeps_consumes a b c (take n into) first second.0, second.1)
keeps_reads a b c (Err e) into first second = keeps_keeps a b c first second

pub keeps_same : (a : Option (List ℕ)) → Keeps a a
keeps_same None = tt
keeps_same (Some xs) = refl
