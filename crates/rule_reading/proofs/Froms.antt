-- Lists that are read item by item, from a place on.
use Rattle.std.proofs.Common.{◌≡◌, ◌<◌, ◌≤◌, ◌+◌, ℕ, zero, suc, List, [], ◌∷◌, ◌++◌, Result, Ok, Err, map, drop, length, get_or, refl, ap, sym, subst, ◌∙◌, add-one, arith}
use Rattle.std.specs.Map.{keys_of}
use Rattle.std.proofs.lemmas.List.{drop_all, map_push}
use Rattle.kj_value.specs.Json.{Json, items_of, members_of}
use Rattle.kj_value.specs.Seen.{json}
use Rattle.kj_value.specs.Pair.{pair_of}
use Rattle.kj_value.specs.declared.value.JVal.{JVal}
use Rattle.kj_value.specs.declared.value.Field.{Field}
use Rattle.hub_cells.specs.Level.{Name}
use Rattle.hub_rules.specs.Rule.{Rule}
use Rattle.hub_rules.specs.Sound.{IsScalar, AreScalars}
use Rattle.struct_schema.specs.PathText.{Path, in_item}
use Rattle.rule_reading.specs.Tried.{with_first, more, under_item}
use Rattle.rule_reading.specs.Shapes.{pair_read, pairs_from}
use Rattle.rule_reading.specs.RuleRead.{rule_size, rule_read, rules_from}
use Rattle.rule_reading.specs.SetRead.{Spoke, spoke_read, spokes_from}

-- what is read from a place on, behind what was read before it
abbrev pub behind : {A : Type 0} → List A → Result (List A) Path → Result (List A) Path
behind xs (Ok ys) = Ok (xs ++ ys)
behind xs (Err p) = Err p

abbrev good : {A : Type 0} → List A → Result (List A) Path
good xs = Ok xs

append-nil : {A : Type 0} (xs : List A) → xs ++ [] ≡ xs
append-nil {A = A} [] = refl
append-nil {A = A} (x ∷ xs) = ap (λ (ys : List A). x ∷ ys) (append-nil xs)

append-one : {A : Type 0} (xs : List A) (x : A) (ys : List A) → xs ++ x ∷ ys ≡ (xs ++ x ∷ []) ++ ys
append-one {A = A} [] x ys = refl
append-one {A = A} (y ∷ xs) x ys = ap (λ (zs : List A). y ∷ zs) (append-one xs x ys)

one_more : {A : Type 0} (xs : List A) (x : A) (r : Result (List A) Path) → behind xs (with_first x r) ≡ behind (xs ++ x ∷ []) r
one_more {A = A} xs x (Ok ys) = ap good (append-one xs x ys)
one_more {A = A} xs x (Err p) = refl

drop_next : {A : Type 0} (xs : List A) (i : ℕ) (x : A) → i < length xs → x ≡ get_or xs i x → drop i xs ≡ x ∷ drop (suc i) xs
drop_next {A = A} [] i x h e = absurd (omega arith)
drop_next {A = A} (y ∷ xs) zero x h e = ap (λ (z : A). z ∷ xs) (sym e)
drop_next {A = A} (y ∷ xs) (suc i) x h e = drop_next xs i x (omega arith) e

pub drop_is : {A : Type 0} (xs : List A) (i : ℕ) (x : A) → i < length xs → x ≡ get_or xs i x → drop i xs ≡ x ∷ drop (i + 1) xs
drop_is {A = A} xs i x h e = subst (λ (n : ℕ). drop i xs ≡ x ∷ drop n xs) (sym (add-one i)) (drop_next xs i x h e)

pub behind_nil : {A : Type 0} (r : Result (List A) Path) → behind [] r ≡ r
behind_nil {A = A} (Ok xs) = refl
behind_nil {A = A} (Err p) = refl

-- nothing is left
pub at_end : {A : Type 0} (xs : List A) (goal : Result (List A) Path) → behind xs (Ok []) ≡ goal → Ok xs ≡ goal
at_end {A = A} xs goal h = ap good (sym (append-nil xs)) ∙ h

-- ---- the pairs of a table

pub pairs_step : (vs : List JVal) (i : ℕ) (v : JVal) (ps : List (Json × Json)) (p : Json × Json) (goal : Result (List (Json × Json)) Path) → i < length vs → v ≡ get_or vs i v
    → behind ps (pairs_from i (items_of (map json (drop i vs)))) ≡ goal → Ok p ≡ pair_read (json v) → behind (ps ++ p ∷ []) (pairs_from (i + 1) (items_of (map json (drop (i + 1) vs)))) ≡ goal
pairs_step vs i v ps p goal h e sofar read =
    let here = subst (λ (l : List JVal). behind ps (pairs_from i (items_of (map json l))) ≡ goal) (drop_is vs i v h e) sofar in
    let next = subst (λ (r : Result (Json × Json) Path). behind ps (more (under_item i r) (λ q. pairs_from (suc i) (items_of (map json (drop (i + 1) vs))))) ≡ goal) (sym read) here in
    subst (λ (n : ℕ). behind (ps ++ p ∷ []) (pairs_from n (items_of (map json (drop (i + 1) vs)))) ≡ goal) (sym (add-one i)) (sym (one_more ps p (pairs_from (suc i) (items_of (map json (drop (i + 1) vs))))) ∙ next)

pub pairs_stop : (vs : List JVal) (i : ℕ) (v : JVal) (ps : List (Json × Json)) (p q : Path) (goal : Result (List (Json × Json)) Path) → i < length vs → v ≡ get_or vs i v
    → behind ps (pairs_from i (items_of (map json (drop i vs)))) ≡ goal → Err p ≡ pair_read (json v) → q ≡ in_item i p → Err q ≡ goal
pairs_stop vs i v ps p q goal h e sofar read out =
    let here = subst (λ (l : List JVal). behind ps (pairs_from i (items_of (map json l))) ≡ goal) (drop_is vs i v h e) sofar in
    let next = subst (λ (r : Result (Json × Json) Path). behind ps (more (under_item i r) (λ q. pairs_from (suc i) (items_of (map json (drop (i + 1) vs))))) ≡ goal) (sym read) here in
    subst (λ (x : Path). Err x ≡ goal) (sym out) next

pub pairs_end : (vs : List JVal) (i : ℕ) (ps : List (Json × Json)) (goal : Result (List (Json × Json)) Path) → length vs ≤ i → behind ps (pairs_from i (items_of (map json (drop i vs)))) ≡ goal → Ok ps ≡ goal
pairs_end vs i ps goal h sofar =
    at_end ps goal (subst (λ (l : List JVal). behind ps (pairs_from i (items_of (map json l))) ≡ goal) (drop_all i vs h) sofar)

-- ---- the rules of a list

pub rules_step : (d n m : ℕ) (vs : List JVal) (i : ℕ) (v : JVal) (rs : List Rule) (r : Rule) (goal : Result (List Rule) Path) → i < length vs → v ≡ get_or vs i v
    → behind rs (rules_from d n i (items_of (map json (drop i vs)))) ≡ goal → Ok r ≡ rule_read d n (json v) → m ≡ n + rule_size r
    → behind (rs ++ r ∷ []) (rules_from d m (i + 1) (items_of (map json (drop (i + 1) vs)))) ≡ goal
rules_step d n m vs i v rs r goal h e sofar read counted =
    let here = subst (λ (l : List JVal). behind rs (rules_from d n i (items_of (map json l))) ≡ goal) (drop_is vs i v h e) sofar in
    let next = subst (λ (q : Result Rule Path). behind rs (more (under_item i q) (λ x. rules_from d (n + rule_size x) (suc i) (items_of (map json (drop (i + 1) vs))))) ≡ goal) (sym read) here in
    subst (λ (k : ℕ). behind (rs ++ r ∷ []) (rules_from d k (i + 1) (items_of (map json (drop (i + 1) vs)))) ≡ goal) (sym counted)
    (subst (λ (k : ℕ). behind (rs ++ r ∷ []) (rules_from d (n + rule_size r) k (items_of (map json (drop (i + 1) vs)))) ≡ goal) (sym (add-one i)) (sym (one_more rs r (rules_from d (n + rule_size r) (suc i) (items_of (map json (drop (i + 1) vs))))) ∙ next))

pub rules_stop : (d n : ℕ) (vs : List JVal) (i : ℕ) (v : JVal) (rs : List Rule) (p q : Path) (goal : Result (List Rule) Path) → i < length vs → v ≡ get_or vs i v
    → behind rs (rules_from d n i (items_of (map json (drop i vs)))) ≡ goal → Err p ≡ rule_read d n (json v) → q ≡ in_item i p → Err q ≡ goal
rules_stop d n vs i v rs p q goal h e sofar read out =
    let here = subst (λ (l : List JVal). behind rs (rules_from d n i (items_of (map json l))) ≡ goal) (drop_is vs i v h e) sofar in
    let next = subst (λ (x : Result Rule Path). behind rs (more (under_item i x) (λ y. rules_from d (n + rule_size y) (suc i) (items_of (map json (drop (i + 1) vs))))) ≡ goal) (sym read) here in
    subst (λ (x : Path). Err x ≡ goal) (sym out) next

pub rules_end : (d n : ℕ) (vs : List JVal) (i : ℕ) (rs : List Rule) (goal : Result (List Rule) Path) → length vs ≤ i → behind rs (rules_from d n i (items_of (map json (drop i vs)))) ≡ goal → Ok rs ≡ goal
rules_end d n vs i rs goal h sofar =
    at_end rs goal (subst (λ (l : List JVal). behind rs (rules_from d n i (items_of (map json l))) ≡ goal) (drop_all i vs h) sofar)

-- ---- the spokes

pub spokes_step : (hub : Name) (fs : List Field) (i : ℕ) (f : Field) (ss : List Spoke) (s : Spoke) (goal : Result (List Spoke) Path) → i < length fs → f ≡ get_or fs i f
    → behind ss (spokes_from hub (members_of (map pair_of (drop i fs)))) ≡ goal → Ok s ≡ spoke_read hub f.name.bytes (json f.value)
    → behind (ss ++ s ∷ []) (spokes_from hub (members_of (map pair_of (drop (i + 1) fs)))) ≡ goal
spokes_step hub fs i f ss s goal h e sofar read =
    let here = subst (λ (l : List Field). behind ss (spokes_from hub (members_of (map pair_of l))) ≡ goal) (drop_is fs i f h e) sofar in
    let next = subst (λ (q : Result Spoke Path). behind ss (more q (λ x. spokes_from hub (members_of (map pair_of (drop (i + 1) fs))))) ≡ goal) (sym read) here in
    sym (one_more ss s (spokes_from hub (members_of (map pair_of (drop (i + 1) fs))))) ∙ next

pub spokes_stop : (hub : Name) (fs : List Field) (i : ℕ) (f : Field) (ss : List Spoke) (p : Path) (goal : Result (List Spoke) Path) → i < length fs → f ≡ get_or fs i f
    → behind ss (spokes_from hub (members_of (map pair_of (drop i fs)))) ≡ goal → Err p ≡ spoke_read hub f.name.bytes (json f.value) → Err p ≡ goal
spokes_stop hub fs i f ss p goal h e sofar read =
    let here = subst (λ (l : List Field). behind ss (spokes_from hub (members_of (map pair_of l))) ≡ goal) (drop_is fs i f h e) sofar in
    subst (λ (q : Result Spoke Path). behind ss (more q (λ x. spokes_from hub (members_of (map pair_of (drop (i + 1) fs))))) ≡ goal) (sym read) here

pub names_step : (fs : List Field) (i : ℕ) (f : Field) (ss : List Spoke) (s : Spoke) {whole : List Name} → i < length fs → f ≡ get_or fs i f → s.0 ≡ f.name.bytes
    → keys_of ss ++ keys_of (map pair_of (drop i fs)) ≡ whole → keys_of (ss ++ s ∷ []) ++ keys_of (map pair_of (drop (i + 1) fs)) ≡ whole
names_step fs i f ss s h e name sofar =
    let rest : List Name = keys_of (map pair_of (drop (i + 1) fs)) in
    ap (λ (ns : List Name). ns ++ rest) (map_push (λ (x : Spoke). x.0) ss s) ∙ sym (append-one (keys_of ss) s.0 rest) ∙ ap (λ (n : Name). keys_of ss ++ n ∷ rest) name
    ∙ ap (λ (l : List Field). keys_of ss ++ keys_of (map pair_of l)) (sym (drop_is fs i f h e)) ∙ sofar

pub spokes_end : (hub : Name) (fs : List Field) (i : ℕ) (ss : List Spoke) (goal : Result (List Spoke) Path) → length fs ≤ i → behind ss (spokes_from hub (members_of (map pair_of (drop i fs)))) ≡ goal → Ok ss ≡ goal
spokes_end hub fs i ss goal h sofar =
    at_end ss goal (subst (λ (l : List Field). behind ss (spokes_from hub (members_of (map pair_of l))) ≡ goal) (drop_all i fs h) sofar)

pub scalars_push : (ps : List (Json × Json)) (p : Json × Json) → AreScalars ps → IsScalar p.0 → IsScalar p.1 → AreScalars (ps ++ p ∷ [])
scalars_push [] p h a b = (a, b, tt)
scalars_push (q ∷ ps) p h a b = (h.0, h.1, scalars_push ps p h.2 a b)
