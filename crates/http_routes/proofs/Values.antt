-- What a key is given, and the first key that isn't served.
use Rattle.std.proofs.Common.{◌≡◌, ◌∙◌, ℕ, ◌+◌, ◌-◌, ◌*◌, ◌^◌, ◌<◌, ◌≤◌, Bool, true, false, ◌&&◌, nat_le, cond, List, [], ◌∷◌, ◌++◌, map, take, drop, length, get_or, Option, None, Some, Result, Ok, Err, inl, refl, ap, sym, subst, append_assoc, add-one, arith}
use Rattle.std.specs.Prelude.{IfOk}
use Rattle.std.specs.Cow.{cow_str_bytes}
use Rattle.std.specs.List.{list_all}
use Rattle.std.specs.Str.Lossy.{utf8_lossy}
use Rattle.std.specs.Str.Parse.{digits_value}
use Rattle.std.specs.Char.{is_ascii_digit, digit_value}
use Rattle.std.specs.declared.borrow.CowStr.{CowStr}
use Rattle.std.proofs.lemmas.List.{drop_more, drop_all, map-append, append-nil}
use Rattle.std.proofs.Math.Nat.{pow-suc, pow-le-pow_right}
use Rattle.std.proofs.lemmas.Int.Digits.{digits_value_more}
use Rattle.std.proofs.lemmas.Bool.{le-leb}
use Rattle.std.proofs.lemmas.Bool.Decides.{nat_tests}
use Rattle.form_urlencoded.specs.Form.{decode, DecodesTo}
use Rattle.form_urlencoded.proofs.FormLemmas.{raw_pairs-nil}
use Rattle.std.specs.Str.{bytes_eq}
use Rattle.api_calls.specs.Cause.{bad_query}
use Rattle.http_routes.specs.Actions.{Action, get, list, create, replace, delete, group, crd, set_versions, trim, start, migration, migrations, raw, unpaged}
use Rattle.http_routes.specs.Queries.{Pairs, Rule, Verdict, paged, bad, texts_of, pairs_of, value_of, is_limit, list_rules, first_refused, ListReads, ReadsQuery}
use Rattle.http_routes.specs.Views.{pair_texts}

-- ---- the first value of a key

value_test : (key : List ℕ) (p : List ℕ × List ℕ) (ps : Pairs) (b : Bool) → bytes_eq p.0 key ≡ b
    → value_of key (p ∷ ps) ≡ cond b p.1 (value_of key ps)
unfolding value_of
value_test key p ps b is = rw is refl

pub value_here : (key : List ℕ) (p : List ℕ × List ℕ) (ps : Pairs) → bytes_eq p.0 key ≡ true → value_of key (p ∷ ps) ≡ p.1
value_here key p ps is = value_test key p ps true is

pub value_later : (key : List ℕ) (p : List ℕ × List ℕ) (ps : Pairs) → bytes_eq p.0 key ≡ false → value_of key (p ∷ ps) ≡ value_of key ps
value_later key p ps is = value_test key p ps false is

pub value_none : (key : List ℕ) → value_of key [] ≡ []
unfolding value_of
value_none key = refl

-- the same of a list of what is seen as pairs
pub at_key : {X : Type 0} (texts : X → List ℕ × List ℕ) (key : List ℕ) (xs : List X) (i : ℕ) (x : X) → i < length xs → x ≡ get_or xs i x
    → true ≡ bytes_eq (texts x).0 key → value_of key (map texts (drop i xs)) ≡ (texts x).1
at_key texts key xs i x within is same =
    rw (drop_more xs i x within, ← is) (value_here key (texts x) (map texts (drop (i + 1) xs)) (sym same))

pub past_key : {X : Type 0} (texts : X → List ℕ × List ℕ) (key : List ℕ) (xs : List X) (i : ℕ) (x : X) → i < length xs → x ≡ get_or xs i x
    → false ≡ bytes_eq (texts x).0 key → value_of key (map texts (drop i xs)) ≡ value_of key (map texts (drop (i + 1) xs))
past_key texts key xs i x within is other =
    rw (drop_more xs i x within, ← is) (value_later key (texts x) (map texts (drop (i + 1) xs)) (sym other))

pub no_key : {X : Type 0} (texts : X → List ℕ × List ℕ) (key : List ℕ) (xs : List X) (i : ℕ) → length xs ≤ i
    → value_of key (map texts (drop i xs)) ≡ []
no_key texts key xs i end = rw (drop_all i xs end) (value_none key)

-- ---- the pairs of a query

abbrev pub YieldsTexts : {Z : Type 0} → Pairs → Pairs → CowStr Z × CowStr Z → Type 0
YieldsTexts left next p = (name : List ℕ) × (value : List ℕ) × (left ≡ (name, value) ∷ next) × DecodesTo name (cow_str_bytes p.0) × DecodesTo value (cow_str_bytes p.1)

pub one_more : {Z : Type 0} (done more : List (CowStr Z × CowStr Z)) (p : CowStr Z × CowStr Z) (left next all : Pairs)
    → map pair_texts done ++ map texts_of left ≡ all → more ≡ done ++ p ∷ [] → YieldsTexts left next p
    → map pair_texts more ++ map texts_of next ≡ all
one_more done more p left next all so_far pushed y =
    let name : cow_str_bytes p.0 ≡ utf8_lossy (decode y.0) = y.3.2 in
    let value : cow_str_bytes p.1 ≡ utf8_lossy (decode y.1) = y.4.2 in
    rw (pushed, map-append, append_assoc, name, value) (ap (λ (ps : Pairs). map pair_texts done ++ map texts_of ps) (sym y.2) ∙ so_far)

pub no_more : {Z : Type 0} (done : List (CowStr Z × CowStr Z)) (left all : Pairs) → map pair_texts done ++ map texts_of left ≡ all → left ≡ []
    → map pair_texts done ≡ all
no_more done left all so_far none =
    sym (append-nil (map pair_texts done)) ∙ ap (λ (ps : Pairs). map pair_texts done ++ map texts_of ps) (sym none) ∙ so_far

-- ---- the first key that isn't served

pub refused_none : (ps : Pairs) → first_refused [] ps ≡ None
unfolding first_refused
refused_none ps = refl

pub refused_later : (r : Rule) (rs : List Rule) (ps : Pairs) → r.serves (value_of r.key ps) ≡ true → first_refused (r ∷ rs) ps ≡ first_refused rs ps
unfolding first_refused
refused_later r rs ps served = rw served refl

pub refused_here : (r : Rule) (rs : List Rule) (ps : Pairs) → r.serves (value_of r.key ps) ≡ false → first_refused (r ∷ rs) ps ≡ Some r.key
unfolding first_refused
refused_here r rs ps refused = rw refused refl

append_test : (rs more : List Rule) (ps : Pairs) (r : Rule) (b : Bool) → r.serves (value_of r.key ps) ≡ b
    → (first_refused rs ps ≡ None → first_refused (rs ++ more) ps ≡ first_refused more ps)
    → first_refused (r ∷ rs) ps ≡ None → first_refused (r ∷ rs ++ more) ps ≡ first_refused more ps
append_test rs more ps r true is later none = refused_later r (rs ++ more) ps is ∙ later (sym (refused_later r rs ps is) ∙ none)
append_test rs more ps r false is later none = let e : Some r.key ≡ None = sym (refused_here r rs ps is) ∙ none in cc

-- of two lists of rules the second is tried where nothing of the first is refused
pub refused_append : (rs more : List Rule) (ps : Pairs) → first_refused rs ps ≡ None → first_refused (rs ++ more) ps ≡ first_refused more ps
refused_append [] more ps none = refl
refused_append (r ∷ rs) more ps none = append_test rs more ps r (r.serves (value_of r.key ps)) refl (refused_append rs more ps) none

front_test : (rs more : List Rule) (ps : Pairs) (r : Rule) (key : List ℕ) (b : Bool) → r.serves (value_of r.key ps) ≡ b
    → (first_refused rs ps ≡ Some key → first_refused (rs ++ more) ps ≡ Some key)
    → first_refused (r ∷ rs) ps ≡ Some key → first_refused (r ∷ rs ++ more) ps ≡ Some key
front_test rs more ps r key true is later some = refused_later r (rs ++ more) ps is ∙ later (sym (refused_later r rs ps is) ∙ some)
front_test rs more ps r key false is later some = refused_here r (rs ++ more) ps is ∙ sym (refused_here r rs ps is) ∙ some

pub refused_front : (rs more : List Rule) (ps : Pairs) (key : List ℕ) → first_refused rs ps ≡ Some key → first_refused (rs ++ more) ps ≡ Some key
refused_front [] more ps key some = let e : None ≡ Some key = sym (refused_none ps) ∙ some in cc
refused_front (r ∷ rs) more ps key some = front_test rs more ps r key (r.serves (value_of r.key ps)) refl (refused_front rs more ps key) some

-- ---- what the query of a list comes to

pub list_bad : {Q E : Type 0} (view : Q → Verdict) (ns : Option (List ℕ)) (ps : Pairs) (key : List ℕ) (r : Result Q E)
    → first_refused list_rules ps ≡ Some key → IfOk r (λ q. view q ≡ bad (bad_query key)) → IfOk r (λ q. ListReads ns ps (view q))
list_bad view ns ps key (Ok q) some is = subst (λ (v : Verdict). ListReads ns ps v) (sym is) (inl (key, some, refl))
list_bad view ns ps key (Err e) some is = is

-- ---- limits

and_false : (a : Bool) → (a && false) ≡ false
and_false true = refl
and_false false = refl

pub limit_long : (v : List ℕ) → 18 < length v → is_limit v ≡ false
limit_long v long = let e : nat_le (length v) 18 ≡ false = grind (arith, nat_tests) in rw e refl

pub limit_bad : (v : List ℕ) (i : ℕ) → list_all is_ascii_digit v ≡ list_all is_ascii_digit (drop i v) → i < length v
    → is_ascii_digit (get_or v i 0) ≡ false → is_limit v ≡ false
limit_bad v i same inside none =
    let e : list_all is_ascii_digit v ≡ false = same ∙ rw (drop_more v i 0 inside, none) refl in
    rw e (and_false (nat_le (length v) 18))

pub limit_good : (v : List ℕ) → length v ≤ 18 → list_all is_ascii_digit v ≡ true → is_limit v ≡ true
limit_good v few pass = let e : nat_le (length v) 18 ≡ true = le-leb (length v) 18 few in rw (e, pass) refl

digit_is : (c : ℕ) → is_ascii_digit c ≡ true → digit_value c ≡ c - 48
digit_is c digit = grind (arith, nat_tests)

pub value_more : (v : List ℕ) (i n d : ℕ) → n ≡ digits_value 10 (take i v) → i < length v → is_ascii_digit (get_or v i 0) ≡ true
    → d ≡ get_or v i 0 - 48 → n * 10 + d ≡ digits_value 10 (take (i + 1) v)
value_more v i n d is inside digit d_is = rw (digits_value_more 10 v i inside, ← is, digit_is (get_or v i 0) digit, ← d_is) refl

pub bound_more : (i n d : ℕ) → n < 10 ^ i → d ≤ 9 → n * 10 + d < 10 ^ (i + 1)
bound_more i n d bound small =
    let p : 10 ^ (i + 1) ≡ 10 ^ i * 10 = rw add-one (pow-suc 10 i) in
    omega arith

pub bound_fits : (i n : ℕ) → n < 10 ^ i → i < 18 → n * 10 + 9 < 2 ^ 64
bound_fits i n bound few =
    let q : i ≤ 17 = omega arith in
    let p : 10 ^ i ≤ 10 ^ 17 = pow-le-pow_right (omega arith) q in
    omega arith

pub pass_more : (v : List ℕ) (i : ℕ) → i < length v → is_ascii_digit (get_or v i 0) ≡ true
    → list_all is_ascii_digit (drop i v) ≡ list_all is_ascii_digit (drop (i + 1) v)
pass_more v i inside digit = rw (drop_more v i 0 inside, digit) refl

pub digit_small : (c : ℕ) → is_ascii_digit c ≡ true → c - 48 ≤ 9
digit_small c digit = grind (arith, nat_tests)

-- ---- no query

no_pairs : (query : List ℕ) → query ≡ [] → pairs_of query ≡ []
unfolding pairs_of
no_pairs query is = rw (is, raw_pairs-nil) refl

-- what an empty query says of every action
pub reads_nothing : (a : Action) (query : List ℕ) → query ≡ [] → ReadsQuery a (pairs_of query) (paged unpaged)
unfolding first_refused value_of
reads_nothing (list v ns) query is = rw (no_pairs query is) (refl, refl, refl)
reads_nothing (get v key) query is = rw (no_pairs query is) (refl, refl)
reads_nothing (create v ns) query is = rw (no_pairs query is) (refl, refl)
reads_nothing (replace v key) query is = rw (no_pairs query is) (refl, refl)
reads_nothing (delete v key) query is = rw (no_pairs query is) (refl, refl)
reads_nothing group query is = rw (no_pairs query is) (refl, refl)
reads_nothing crd query is = rw (no_pairs query is) (refl, refl)
reads_nothing set_versions query is = rw (no_pairs query is) (refl, refl)
reads_nothing trim query is = rw (no_pairs query is) (refl, refl)
reads_nothing start query is = rw (no_pairs query is) (refl, refl)
reads_nothing (migration name) query is = rw (no_pairs query is) (refl, refl)
reads_nothing migrations query is = rw (no_pairs query is) (refl, refl)
reads_nothing (raw key) query is = rw (no_pairs query is) (refl, refl)
