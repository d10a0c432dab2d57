-- How many bytes a page of one object has, and that the floor of a history is one of its numbers.
use Rattle.std.proofs.Common.{◌≡◌, ◌∙◌, refl, ap, ℕ, ◌+◌, ◌<◌, ◌≤◌, ◌^◌, Bool, true, false, nat_eq, nat_lt, List, [], ◌∷◌, ◌++◌, length, length-append, append-nil, Option, None, Some, pos, codes, decimal, arith}
use Rattle.std.specs.Prelude.{cond, if◌then◌else◌}
use Rattle.std.proofs.lemmas.Bool.Decides.{nat_tests}
use Rattle.std.proofs.lemmas.Fmt.{length-decimal-le}
use Rattle.kj_value.specs.Fields.{Pairs}
use Rattle.kj_value.specs.Json.{Json, items_of, list, members_of, object, text, whole}
use Rattle.kj_value.specs.Text.{text_of}
use Rattle.kube_meta.specs.Document.{optional}
use Rattle.kube_meta.specs.Window.{above, fits}
use Rattle.kube_meta.specs.declared.limits.Limits.{Limits}
use Rattle.api_calls.specs.Documents.{group_version, object_list}
use Rattle.api_calls.specs.Item.{Create, Delete, Entry, Item, Mark, MarkSucceeded, Release, Replace, SetVersions, StartMigration, Touch, Trim, entry, note}
use Rattle.api_calls.specs.Legal.{Each}
use Rattle.api_calls.specs.Meaning.{Meaning}
use Rattle.api_calls.specs.Objects.{Stored, find}
use Rattle.api_calls.specs.Snap.{Past, by_number, entry_past, floor, past, past_weight, superseded, superseded_from}
use Rattle.api_calls.specs.State.{State, effect, entries, opening, revision}
use Rattle.api_calls.proofs.Snaps.{floor-all}
use Rattle.run_laws.proofs.tallies.Sizes.{decimal_few, length-object, quoted_few, size, size-append, size-cons}

-- ---- a page

-- at most one object, whose text isn't long
abbrev pub IsOneFew : List Json → Type 0
IsOneFew [] = Unit {0}
IsOneFew (j ∷ []) = length (text_of j) ≤ 263_000
IsOneFew (j ∷ i ∷ js) = ⊥

items_few : (js : List Json) → IsOneFew js → length (text_of (list (items_of js))) ≤ 263_002
items_few [] few = omega arith
items_few (j ∷ []) few =
    let same : length ((text_of j ++ []) ++ 93 ∷ []) ≡ length (text_of j) + 1 = ap (λ (t : List ℕ). length (t ++ 93 ∷ [])) (append-nil (text_of j)) ∙ length-append (text_of j) (93 ∷ []) in
    omega (arith, few, same)
items_few (j ∷ i ∷ js) few = absurd few

left_few : (left : ℕ) → left < 2 ^ 63 → size (optional (codes "remainingItemCount") (if nat_eq left 0 then None else Some (whole (pos left)))) ≤ 60
left_few left few = by (nat_eq left 0)
  where
    digits : length (text_of (whole (pos left))) ≤ 19
    digits = length-decimal-le 19 left (omega arith) (omega (arith, few)) (omega (arith, few))

    by : (b : Bool) → size (optional (codes "remainingItemCount") (if b then None else Some (whole (pos left)))) ≤ 60
    by true = omega arith
    by false = let s = size-cons (codes "remainingItemCount") (whole (pos left)) [] in omega (arith, s, digits)

pub page_few : (m : Meaning) (v : ℕ) (js : List Json) (token : List ℕ) (number left : ℕ) → IsOneFew js → length (group_version m v) ≤ 1_000 → length m.list_kind ≤ 1_000 → length token ≤ 1_000
    → number < 2 ^ 64 → left < 2 ^ 63 → length (text_of (object_list m v js token number left)) ≤ 300_000
unfolding object_list
page_few m v js token number left one version kind short few some =
    let rest : Pairs = optional (codes "remainingItemCount") (if nat_eq left 0 then None else Some (whole (pos left))) in
    let last : Pairs = (codes "resourceVersion", text (decimal number)) ∷ [] in
    let meta : Pairs = (codes "continue", text token) ∷ (rest ++ last) in
    let items = items_few js one in
    let a = quoted_few (group_version m v) in
    let b = quoted_few m.list_kind in
    let c = quoted_few token in
    let d = quoted_few (decimal number) in
    let digits = decimal_few number few in
    let others = left_few left some in
    let m2 = size-cons (codes "resourceVersion") (text (decimal number)) [] in
    let m1 = size-append rest last in
    let m0 = size-cons (codes "continue") (text token) (rest ++ last) in
    let mo = length-object meta in
    let s3 = size-cons (codes "metadata") (object (members_of meta)) [] in
    let s2 = size-cons (codes "kind") (text m.list_kind) ((codes "metadata", object (members_of meta)) ∷ []) in
    let s1 = size-cons (codes "items") (list (items_of js)) ((codes "kind", text m.list_kind) ∷ (codes "metadata", object (members_of meta)) ∷ []) in
    let s0 = size-cons (codes "apiVersion") (text (group_version m v)) ((codes "items", list (items_of js)) ∷ (codes "kind", text m.list_kind) ∷ (codes "metadata", object (members_of meta)) ∷ []) in
    let o = length-object ((codes "apiVersion", text (group_version m v)) ∷ (codes "items", list (items_of js)) ∷ (codes "kind", text m.list_kind) ∷ (codes "metadata", object (members_of meta)) ∷ []) in
    omega (arith, items, a, b, c, d, digits, others, m2, m1, m0, mo, s3, s2, s1, s0, o, version, kind, short)

-- ---- the floor

past_few : (n g : ℕ) (o : Option Stored) → n ≤ g → Each (λ p. p.by ≤ g) (past n o)
past_few n g None le = tt
past_few n g (Some e) le = (le, tt)

each_append : (P : Past → Type 0) (xs ys : List Past) → Each P xs → Each P ys → Each P (xs ++ ys)
each_append P [] ys h k = k
each_append P (x ∷ xs) ys h k = (h.0, each_append P xs ys h.1 k)

entry_few : (n g : ℕ) (e : Entry) (s : State) → n ≤ g → Each (λ p. p.by ≤ g) (entry_past n e s)
entry_few n g (Create k h w) s le = tt
entry_few n g (Replace k over h w) s le = past_few n g (find k s.objects) le
entry_few n g (Mark k over stamp) s le = past_few n g (find k s.objects) le
entry_few n g (Release k over) s le = past_few n g (find k s.objects) le
entry_few n g (Touch k c) s le = past_few n g (find k s.objects) le
entry_few n g (Delete k) s le = past_few n g (find k s.objects) le
entry_few n g (SetVersions f) s le = tt
entry_few n g (Trim keep) s le = tt
entry_few n g (StartMigration name) s le = tt
entry_few n g MarkSucceeded s le = tt

all_before : (n g : ℕ) (s : State) (log : List Item) → n + entries log ≤ g + 1 → Each (λ p. p.by ≤ g) (superseded_from n s log)
all_before n g s [] le = tt
all_before n g s (entry e ∷ log) le =
    each_append (λ p. p.by ≤ g) (entry_past n e s) (superseded_from (n + 1) (effect n (entry e) s) log) (entry_few n g e s (omega (arith, le)))
    (all_before (n + 1) g (effect n (entry e) s) log (omega (arith, le)))
all_before n g s (note x ∷ log) le = all_before n g (effect n (note x) s) log le

none_above : (g : ℕ) (ps : List Past) → Each (λ p. p.by ≤ g) ps → above by_number g ps ≡ []
none_above g [] all = refl
none_above g (p ∷ ps) all =
    let here = all.0 in
    let no : nat_lt g p.by ≡ false = grind (arith, nat_tests) in
    ap (λ (b : Bool). cond b (p ∷ above by_number g ps) (above by_number g ps)) no ∙ none_above g ps all.1

none_fits : (limits : Limits) → fits past_weight limits [] ≡ true
none_fits limits =
    let a : nat_lt limits.window_records 0 ≡ false = grind (arith, nat_tests) in
    let b : nat_lt limits.window_chunks 0 ≡ false = grind (arith, nat_tests) in
    rw (a, b) refl

pub floor_few : (m : Meaning) (limits : Limits) (log : List Item) → floor limits m log ≤ revision log
floor_few m limits log =
    (floor-all m limits log).least (revision log) (omega arith)
    (ap (fits past_weight limits) (none_above (revision log) (superseded m log) (all_before 2 (revision log) (opening m) log (omega arith))) ∙ none_fits limits)
