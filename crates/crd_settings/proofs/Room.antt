-- No text is longer than the one with neither flag at any version and with every name.
use Rattle.std.proofs.Common.{take, drop, get_or, drop-cons, ◌≡◌, ℕ, zero, suc, ◌+◌, ◌<◌, ◌≤◌, List, [], ◌∷◌, ◌++◌, length, map, Bool, true, false, not, cond, refl, ap, sym, subst, ◌∙◌, append_assoc, arith, length-append}
use Rattle.std.specs.Prelude.{nat_eq, filter, All, codes}
use Rattle.std.specs.List.{IsDistinct, AllByRecursion}
use Rattle.std.proofs.lemmas.Bool.Decides.{nat_tests}
use Rattle.std.proofs.lemmas.Map.Keys.{IsDistinct-cons, IsDistinct-head, IsDistinct-tail}
use Rattle.std.proofs.lemmas.List.Elements.{recursion_from_All}
use Rattle.std.proofs.lemmas.List.{get_or-take, length-take-le, length-map}
use Rattle.kj_value.specs.Text.{quoted, text_of}
use Rattle.kj_value.specs.Texts.{bytes_of}
use Rattle.kj_value.specs.declared.txt.Txt.{Txt}
use Rattle.api_calls.specs.Versions.{AreVersions, IsStoredList, versions_of}
use Rattle.api_calls.specs.declared.flags.Flags.{Flags}
use Rattle.api_calls.specs.declared.flags.StoredList.{StoredList}
use Rattle.crd_reading.specs.View.{VersionView, DefinitionView}
use Rattle.crd_settings.specs.Flags.{mark_of, version_in}
use Rattle.crd_settings.specs.Shown.{document_with, show_room, shown, unmarked}
use Rattle.crd_settings.specs.Pieces.{AreItsPieces, comma_before, behind_stored, joined, name_at, names_from, part_text, parts_text, truth_text}
use Rattle.crd_settings.specs.declared.parts.Mark.{Mark}
use Rattle.crd_settings.specs.declared.cut.Part.{Part}
use Rattle.crd_settings.specs.declared.cut.Part.TheVariants.{Text, Served, Storage}
use Rattle.crd_settings.specs.declared.pieces.Pieces.{Pieces}

-- ---- flags

truth-length : (b : Bool) → length (truth_text b) ≤ length (truth_text false)
truth-length true = omega arith
truth-length false = omega arith

part-length : (m : ℕ → Mark) (p : Part) → length (part_text m p) ≤ length (part_text unmarked p)
part-length m (Text t) = omega arith
part-length m (Served v) = truth-length (m v).served
part-length m (Storage v) = truth-length (m v).storage

parts-length : (m : ℕ → Mark) (ps : List Part) → length (parts_text m ps) ≤ length (parts_text unmarked ps)
parts-length m [] = omega arith
parts-length m (p ∷ ps) =
    omega (arith, part-length m p, parts-length m ps, length-append (part_text m p) (parts_text m ps), length-append (part_text unmarked p) (parts_text unmarked ps))

-- ---- names

-- the sums of a number for each place of a list, and for each place below a number
total : (ℕ → ℕ) → List ℕ → ℕ
total w [] = 0
total w (v ∷ vs) = w v + total w vs

below : (ℕ → ℕ) → ℕ → ℕ
below w zero = 0
below w (suc n) = w n + below w n

without : ℕ → List ℕ → List ℕ
without n xs = filter (λ y. not (nat_eq y n)) xs

all-filter : (P : ℕ → Type 0) (p : ℕ → Bool) (xs : List ℕ) → AllByRecursion P xs → AllByRecursion P (filter p xs)
all-filter P p [] h = h
all-filter P p (x ∷ xs) h = by (p x) (all-filter P p xs h.1)
  where
    by : (b : Bool) → AllByRecursion P (filter p xs) → AllByRecursion P (cond b (x ∷ filter p xs) (filter p xs))
    by true more = (h.0, more)
    by false more = more

distinct-filter : (p : ℕ → Bool) (xs : List ℕ) → IsDistinct nat_eq xs → IsDistinct nat_eq (filter p xs)
distinct-filter p [] h = h
distinct-filter p (x ∷ xs) h = by (p x) (distinct-filter p xs (IsDistinct-tail nat_eq x xs h))
  where
    by : (b : Bool) → IsDistinct nat_eq (filter p xs) → IsDistinct nat_eq (cond b (x ∷ filter p xs) (filter p xs))
    by true more = IsDistinct-cons nat_eq x (filter p xs) (all-filter (λ y. nat_eq x y ≡ false) p xs (IsDistinct-head nat_eq x xs h)) more
    by false more = more

same_without : (n : ℕ) (ys : List ℕ) → AllByRecursion (λ y. nat_eq n y ≡ false) ys → filter (λ y. not (nat_eq y n)) ys ≡ ys
same_without n [] g = refl
same_without n (y ∷ ys) g =
    let other : nat_eq y n ≡ false = (let a = g.0 in grind (arith, nat_tests)) in
    rw other (ap (λ (zs : List ℕ). y ∷ zs) (same_without n ys g.1))

-- one number stands in a list once at most
without_one : (w : ℕ → ℕ) (n : ℕ) (xs : List ℕ) → IsDistinct nat_eq xs → AllByRecursion (λ y. y < suc n) xs
    → (total w xs ≤ w n + total w (filter (λ y. not (nat_eq y n)) xs)) × AllByRecursion (λ y. y < n) (filter (λ y. not (nat_eq y n)) xs)
unfolding total
without_one w n [] d h = (omega arith, h)
without_one w n (x ∷ xs) d h = by (nat_eq x n) refl (without_one w n xs (IsDistinct-tail nat_eq x xs d) h.1)
  where
    moved : nat_eq x n ≡ true → AllByRecursion (λ y. nat_eq n y ≡ false) xs
    moved is = let at : x ≡ n = grind (arith, nat_tests) in subst (λ (z : ℕ). AllByRecursion (λ y. nat_eq z y ≡ false) xs) at (IsDistinct-head nat_eq x xs d)

    by : (b : Bool) → nat_eq x n ≡ b
        → (total w xs ≤ w n + total w (filter (λ y. not (nat_eq y n)) xs)) × AllByRecursion (λ y. y < n) (filter (λ y. not (nat_eq y n)) xs)
        → (w x + total w xs ≤ w n + total w (cond (not b) (x ∷ filter (λ y. not (nat_eq y n)) xs) (filter (λ y. not (nat_eq y n)) xs)))
        × AllByRecursion (λ y. y < n) (cond (not b) (x ∷ filter (λ y. not (nat_eq y n)) xs) (filter (λ y. not (nat_eq y n)) xs))
    by true is more =
        let at : x ≡ n = grind (arith, nat_tests) in
        let weight = ap w at in
        let all = ap (total w) (same_without n xs (moved is)) in
        (omega (arith, weight, all), more.1)
    by false is more = (omega (arith, more.0), ((let a = h.0 in grind (arith, nat_tests)), more.1))

total-below : (w : ℕ → ℕ) (n : ℕ) (xs : List ℕ) → IsDistinct nat_eq xs → AllByRecursion (λ y. y < n) xs → total w xs ≤ below w n
unfolding total below
total-below w zero [] d h = omega arith
total-below w zero (x ∷ xs) d h = let a = h.0 in absurd (omega arith)
total-below w (suc n) xs d h =
    let less = without_one w n xs d h in
    let more = total-below w n (filter (λ y. not (nat_eq y n)) xs) (distinct-filter (λ y. not (nat_eq y n)) xs d) less.1 in
    omega (arith, less.0, more)

-- the sum from the other end
below-first : (w : ℕ → ℕ) (n : ℕ) → below w (suc n) ≡ w 0 + below (λ v. w (suc v)) n
unfolding below
below-first w zero = refl
below-first w (suc n) = omega (arith, below-first w n)

-- names with the comma that each may have
more-length : (i : ℕ) (ns : List (List ℕ)) → length (names_from (suc i) ns) ≡ below (λ v. suc (length (name_at ns v))) (length ns)
unfolding below
more-length i [] = refl
more-length i (n ∷ ns) =
    omega (arith, more-length (suc i) ns, below-first (λ v. suc (length (name_at (n ∷ ns) v))) (length ns), length-append n (names_from (suc (suc i)) ns))

stored-length : (i : ℕ) (ns : List (List ℕ)) (vs : List ℕ) → length (names_from (suc i) (map (name_at ns) vs)) ≡ total (λ v. suc (length (name_at ns v))) vs
unfolding total
stored-length i ns [] = refl
stored-length i ns (v ∷ vs) = omega (arith, stored-length (suc i) ns vs, length-append (name_at ns v) (names_from (suc (suc i)) (map (name_at ns) vs)))

-- the first has none
same-from : (i j : ℕ) (ts : List (List ℕ)) → names_from (suc i) ts ≡ names_from (suc j) ts
same-from i j [] = refl
same-from i j (t ∷ ts) = ap (λ (u : List ℕ). (codes "," ++ t) ++ u) (same-from (suc i) (suc j) ts)

first-comma : (t : List ℕ) (ts : List (List ℕ)) → suc (length (names_from 0 (t ∷ ts))) ≡ length (names_from 1 (t ∷ ts))
first-comma t ts = ap (λ (u : List ℕ). suc (length (t ++ u))) (same-from 0 1 ts)

pub names-length : (ns : List (List ℕ)) (vs : List ℕ) → AreVersions (length ns) vs → length (names_from 0 (map (name_at ns) vs)) ≤ length (names_from 0 ns)
names-length ns [] a = omega arith
names-length [] (v ∷ vs) a =
    let all = recursion_from_All (λ x. x < 0) (v ∷ vs) a.known in
    let none = all.0 in absurd (omega arith)
names-length (n ∷ ns) (v ∷ vs) a =
    let few = total-below (λ x. suc (length (name_at (n ∷ ns) x))) (length (n ∷ ns)) (v ∷ vs) a.distinct (recursion_from_All (λ x. x < length (n ∷ ns)) (v ∷ vs) a.known) in
    omega (arith, few, more-length 0 (n ∷ ns), stored-length 0 (n ∷ ns) (v ∷ vs), first-comma n ns, first-comma (name_at (n ∷ ns) v) (map (name_at (n ∷ ns)) vs))

pub joined-length : (m : ℕ → Mark) (ps : List Part) (ns : List (List ℕ)) (vs : List ℕ) → AreVersions (length ns) vs
    → length (joined m ps (map (name_at ns) vs)) ≤ length (joined unmarked ps ns)
joined-length m ps ns vs a =
    omega (arith, parts-length m ps, names-length ns vs a, length-append (parts_text m ps) (names_from 0 (map (name_at ns) vs) ++ behind_stored), length-append (names_from 0 (map (name_at ns) vs)) behind_stored, length-append (parts_text unmarked ps) (names_from 0 ns ++ behind_stored), length-append (names_from 0 ns) behind_stored)

-- ---- the names of stored versions

at-quoted : (vs : List VersionView) (v : ℕ) → v < length vs → name_at (map (λ (x : VersionView). quoted x.name) vs) v ≡ quoted (version_in vs v).name
at-quoted [] v h = absurd (omega arith)
at-quoted (x ∷ vs) zero h = refl
at-quoted (x ∷ vs) (suc v) h = at-quoted vs v (omega arith)

all-quoted : (vs : List VersionView) (stored : List ℕ) → AllByRecursion (λ v. v < length vs) stored
    → map quoted (map (λ v. (version_in vs v).name) stored) ≡ map (name_at (map (λ (x : VersionView). quoted x.name) vs)) stored
all-quoted vs [] h = refl
all-quoted vs (v ∷ stored) h =
    rw (at-quoted vs v h.0, all-quoted vs stored h.1) refl

pub stored-quoted : (vs : List VersionView) (stored : List ℕ) → All (λ v. v < length vs) stored
    → map quoted (map (λ v. (version_in vs v).name) stored) ≡ map (name_at (map (λ (x : VersionView). quoted x.name) vs)) stored
stored-quoted vs stored h = all-quoted vs stored (recursion_from_All (λ v. v < length vs) stored h)

-- ---- a definition and its pieces

length-quoted : (vs : List VersionView) → length (map (λ (x : VersionView). quoted x.name) vs) ≡ length vs
length-quoted [] = refl
length-quoted (x ∷ vs) = ap suc (length-quoted vs)

map-quoted : (vs : List VersionView) → map quoted (map (λ (x : VersionView). x.name) vs) ≡ map (λ (x : VersionView). quoted x.name) vs
map-quoted [] = refl
map-quoted (x ∷ vs) = ap (λ (ts : List (List ℕ)). quoted x.name ∷ ts) (map-quoted vs)

-- the longest text, by its pieces
pub longest-text : (d : DefinitionView) (ps : List Part) (ns : List (List ℕ))
    → ((m : ℕ → Mark) (stored : List (List ℕ)) → text_of (document_with d m stored) ≡ joined m ps (map quoted stored))
    → ns ≡ map (λ (x : VersionView). quoted x.name) d.versions → length (joined unmarked ps ns) ≡ show_room d
longest-text d ps ns text is =
    sym (ap length (text unmarked (map (λ (x : VersionView). x.name) d.versions))
    ∙ ap (λ (ts : List (List ℕ)). length (joined unmarked ps ts)) (map-quoted d.versions ∙ sym is))

known-length : (d : DefinitionView) (p : Pieces) → AreItsPieces d p → length (map bytes_of p.names.items) ≡ length d.versions
known-length d p a = ap length a.names ∙ length-quoted d.versions

-- definitions of the same pieces have as many versions
pub same-count : (d e : DefinitionView) (p : Pieces) → AreItsPieces d p → AreItsPieces e p → (s : StoredList)
    → IsStoredList (length d.versions) s → IsStoredList (length e.versions) s
same-count d e p a b s known = subst (λ (k : ℕ). IsStoredList k s) (sym (known-length d p a) ∙ known-length e p b) known

shown-joined : (d : DefinitionView) (p : Pieces) → AreItsPieces d p → (f : Flags) (stored : List ℕ)
    → AreVersions (length d.versions) stored → shown d f stored ≡ joined (mark_of f) p.parts.items (map (name_at (map bytes_of p.names.items)) stored)
shown-joined d p a f stored known =
    a.text (mark_of f) (map (λ v. (version_in d.versions v).name) stored)
    ∙ ap (joined (mark_of f) p.parts.items) (stored-quoted d.versions stored known.known ∙ ap (λ (ts : List (List ℕ)). map (name_at ts) stored) (sym a.names))

shown-fits : (d : DefinitionView) (p : Pieces) → AreItsPieces d p → (f : Flags) (stored : List ℕ)
    → AreVersions (length d.versions) stored → length (joined (mark_of f) p.parts.items (map (name_at (map bytes_of p.names.items)) stored)) ≤ show_room d
shown-fits d p a f stored known =
    let its = subst (λ (k : ℕ). AreVersions k stored) (sym (known-length d p a)) known in
    omega (arith, joined-length (mark_of f) p.parts.items (map bytes_of p.names.items) stored its, longest-text d p.parts.items (map bytes_of p.names.items) a.text a.names)

-- ---- the loop over stored versions

name-bytes : (names : List Txt) (v : ℕ) (x : Txt) → v < length names → x ≡ get_or names v x → name_at (map bytes_of names) v ≡ x.bytes
name-bytes names v x h e = at names v x h ∙ ap (λ (y : Txt). y.bytes) (sym e)
  where
    at : (ys : List Txt) (w : ℕ) (d : Txt) → w < length ys → name_at (map bytes_of ys) w ≡ (get_or ys w d).bytes
    at [] w d k = absurd (omega arith)
    at (y ∷ ys) zero d k = refl
    at (y ∷ ys) (suc w) d k = at ys w d (omega arith)

pub name-known : (s : StoredList) (n i : ℕ) → IsStoredList n s → i < s.len → s.len ≤ length s.items → get_or s.items i 0 < n
name-known s n i known h long =
    let within : i < length (take s.len s.items) = omega (arith, length-take-le s.len s.items long) in
    subst (λ (v : ℕ). v < n) (get_or-take s.len s.items i 0 h) (known.versions.known i 0 within)

pub named-step : (names : List Txt) (s : StoredList) (i : ℕ) (x : Txt) (t : List ℕ) → i < s.len → s.len ≤ length s.items → IsStoredList (length names) s
    → x ≡ get_or names (get_or s.items i 0) x → t ≡ x.bytes
    → names_from i (map (name_at (map bytes_of names)) (drop i (versions_of s)))
    ≡ (comma_before i ++ t) ++ names_from (i + 1) (map (name_at (map bytes_of names)) (drop (i + 1) (versions_of s)))
named-step names s i x t h long known e is =
    let within : i < length (versions_of s) = omega (arith, length-take-le s.len s.items long) in
    let head : get_or s.items i 0 ≡ get_or (versions_of s) i 0 = sym (get_or-take s.len s.items i 0 h) in
    let cut : drop i (versions_of s) ≡ get_or s.items i 0 ∷ drop (suc i) (versions_of s) =
    drop-cons (versions_of s) i 0 within ∙ ap (λ (v : ℕ). v ∷ drop (suc i) (versions_of s)) (sym head) in
    let name : name_at (map bytes_of names) (get_or s.items i 0) ≡ t =
    name-bytes names (get_or s.items i 0) x (name-known s (length names) i known h long) e ∙ sym is in
    let next : i + 1 ≡ suc i = omega arith in
    rw next (ap (λ (vs : List ℕ). names_from i (map (name_at (map bytes_of names)) vs)) cut
    ∙ ap (λ (u : List ℕ). (comma_before i ++ u) ++ names_from (suc i) (map (name_at (map bytes_of names)) (drop (suc i) (versions_of s)))) name)

-- ---- three pieces behind each other

pub known-list : (d : DefinitionView) (p : Pieces) (xs : List Txt) → AreItsPieces d p → xs ≡ p.names.items → (s : StoredList)
    → IsStoredList (length d.versions) s → IsStoredList (length xs) s
known-list d p xs a alike s known =
    let count : length d.versions ≡ length xs = sym (known-length d p a) ∙ (length-map p.names.items bytes_of ∙ ap length (sym alike)) in
    subst (λ (k : ℕ). IsStoredList k s) count known

pub show-fits : (d : DefinitionView) (p : Pieces) (qs : List Part) (xs : List Txt) → AreItsPieces d p → qs ≡ p.parts.items → xs ≡ p.names.items
    → (f : Flags) (s : StoredList) → IsStoredList (length d.versions) s
    → length (parts_text (mark_of f) qs) + (length (names_from 0 (map (name_at (map bytes_of xs)) (versions_of s))) + length behind_stored) ≤ show_room d
show-fits d p qs xs a same alike f s known =
    let fits = shown-fits d p a f (versions_of s) known.versions in
    let first = ap (λ (rs : List Part). length (parts_text (mark_of f) rs)) same in
    let second = ap (λ (ys : List Txt). length (names_from 0 (map (name_at (map bytes_of ys)) (versions_of s)))) alike in
    let whole = length-append (parts_text (mark_of f) p.parts.items) (names_from 0 (map (name_at (map bytes_of p.names.items)) (versions_of s)) ++ behind_stored) in
    let end = length-append (names_from 0 (map (name_at (map bytes_of p.names.items)) (versions_of s))) behind_stored in
    omega (arith, fits, first, second, whole, end)

pub show-text : (d : DefinitionView) (p : Pieces) (qs : List Part) (xs : List Txt) → AreItsPieces d p → qs ≡ p.parts.items → xs ≡ p.names.items
    → (f : Flags) (s : StoredList) → IsStoredList (length d.versions) s → (o b1 b2 b3 e : List ℕ) → b1 ≡ o ++ parts_text (mark_of f) qs
    → b2 ≡ b1 ++ names_from 0 (map (name_at (map bytes_of xs)) (versions_of s)) → b3 ≡ b2 ++ e → e ≡ behind_stored → b3 ≡ o ++ shown d f (versions_of s)
show-text d p qs xs a same alike f s known o b1 b2 b3 e e1 e2 e3 is =
    together o b1 b2 b3 (parts_text (mark_of f) qs) (names_from 0 (map (name_at (map bytes_of xs)) (versions_of s))) e e1 e2 e3
    ∙ ap (λ (t : List ℕ). o ++ t)
    ((λ i. parts_text (mark_of f) (same i) ++ (names_from 0 (map (name_at (map bytes_of (alike i))) (versions_of s)) ++ is i))
    ∙ sym (shown-joined d p a f (versions_of s) known.versions))
  where
    together : (o b1 b2 b3 p1 p2 p3 : List ℕ) → b1 ≡ o ++ p1 → b2 ≡ b1 ++ p2 → b3 ≡ b2 ++ p3 → b3 ≡ o ++ (p1 ++ (p2 ++ p3))
    together o b1 b2 b3 p1 p2 p3 e1 e2 e3 = rw (e3, e2, e1) (simp append_assoc)

pub show-left : (d : DefinitionView) (p : Pieces) (qs : List Part) (xs : List Txt) → AreItsPieces d p → qs ≡ p.parts.items → xs ≡ p.names.items
    → (f : Flags) (s : StoredList) → IsStoredList (length d.versions) s → (r0 r1 r2 r3 : ℕ) (e : List ℕ) → r1 + length (parts_text (mark_of f) qs) ≡ r0
    → r2 + length (names_from 0 (map (name_at (map bytes_of xs)) (versions_of s))) ≡ r1 → r3 + length e ≡ r2 → e ≡ behind_stored
    → r3 + length (shown d f (versions_of s)) ≡ r0
show-left d p qs xs a same alike f s known r0 r1 r2 r3 e e1 e2 e3 is =
    let text = ap length (shown-joined d p a f (versions_of s) known.versions) in
    let first = ap (λ (rs : List Part). length (parts_text (mark_of f) rs)) same in
    let second = ap (λ (ys : List Txt). length (names_from 0 (map (name_at (map bytes_of ys)) (versions_of s)))) alike in
    let third = ap length is in
    let whole = length-append (parts_text (mark_of f) p.parts.items) (names_from 0 (map (name_at (map bytes_of p.names.items)) (versions_of s)) ++ behind_stored) in
    let end = length-append (names_from 0 (map (name_at (map bytes_of p.names.items)) (versions_of s))) behind_stored in
    omega (arith, text, first, second, third, whole, end)
