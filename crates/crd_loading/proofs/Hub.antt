-- The hub of rules that were read with unknown names as null is a version.
use Rattle.std.proofs.Common.{◌≡◌, ℕ, List, Bool, true, false, cond, Option, Some, None, Result, Ok, Err, Ordering, Less, Equal, Greater, nat_cmp, refl, ap, sym, subst, ◌∙◌}
use Rattle.std.specs.Str.{bytes_eq}
use Rattle.std.specs.Ordering.{is_eq, match_ordering}
use Rattle.std.specs.Cmp.Lexicographic.{slice_cmp}
use Rattle.std.proofs.lemmas.Map.Text.{is_eq-slice_cmp}
use Rattle.kj_value.specs.Json.{Json, null, boolean, whole, text, list, object, Members, no_members, member}
use Rattle.rule_reading.specs.Words.{word}
use Rattle.struct_schema.specs.PathText.{Path, here, in_name}
use Rattle.rule_reading.specs.Tried.{under_name, as_read}
use Rattle.rule_reading.specs.Shapes.{at_name, read_in, field_read, ended, text_read}
use Rattle.rule_reading.specs.SetRead.{Spoke, spokes_after}
use Rattle.crd_reading.specs.View.{VersionView}
use Rattle.crd_reading.specs.Offered.{has_version}
use Rattle.crd_loading.specs.Words.{hub_name, spokes_name}
use Rattle.crd_loading.specs.Known.{each_field, known_hub, known_spokes, known_field}
use Rattle.crd_loading.specs.Fits.{RuleSet, rules_in}

ended_ok : (o : Option Path) (r : Result RuleSet Path) (s : RuleSet) → ended o r ≡ Ok s → r ≡ Ok s
ended_ok None (Ok t) s e = e
ended_ok (Some p) (Ok t) s e = absurd (cc)
ended_ok None (Err p) s e = absurd (cc)
ended_ok (Some q) (Err p) s e = absurd (cc)

hub_kept : (h : List ℕ) (r : Result (List Spoke) Path) (s : RuleSet) → as_read (λ ss. (h, ss)) r ≡ Ok s → h ≡ s.0
hub_kept h (Ok ss) s e =
    let same : (h, ss) ≡ s = cc in
    ap (λ (t : RuleSet). t.0) same
hub_kept h (Err p) s e = absurd (cc)

after_ok : (r : Result (List ℕ) Path) (ms : Members) (s : RuleSet) → spokes_after r ms ≡ Ok s → r ≡ Ok s.0
after_ok (Err p) ms s e = absurd (cc)
after_ok (Ok h) ms s e =
    let good : List ℕ → Result (List ℕ) Path = λ n. Ok n in
    ap good (hub_kept h _ s e)

text_is : (k : List ℕ) (j : Json) (h : List ℕ) → under_name k (text_read j) ≡ Ok h → j ≡ text h
text_is k null h e = absurd (cc)
text_is k (boolean b) h e = absurd (cc)
text_is k (whole z) h e = absurd (cc)
text_is k (text t) h e =
    let same : t ≡ h = cc in
    ap text same
text_is k (list js) h e = absurd (cc)
text_is k (object ms) h e = absurd (cc)

-- the first name is the one that must be there, and its value is a text
first_is : (x k : List ℕ) (j : Json) (h : List ℕ) → read_in x text_read (at_name x k (Ok j)) ≡ Ok h → (bytes_eq k x ≡ true) × (j ≡ text h)
first_is x k j h e = by_order (slice_cmp nat_cmp k x) refl e
  where
    by_order : (o : Ordering) → slice_cmp nat_cmp k x ≡ o → read_in x text_read (match_ordering o (Err (in_name k here)) (Ok j) (Err (in_name x here))) ≡ Ok h → (bytes_eq k x ≡ true) × (j ≡ text h)
    by_order Less q r = absurd (cc)
    by_order Equal q r = (sym (is_eq-slice_cmp k x) ∙ ap is_eq q, text_is x j h r)
    by_order Greater q r = absurd (cc)

is_text_known : (b : Bool) (t h : List ℕ) → cond b (text t) null ≡ text h → (b ≡ true) × (t ≡ h)
is_text_known true t h e =
    let same : t ≡ h = cc in
    (refl, same)
is_text_known false t h e = absurd (cc)

hub_known : (vs : List VersionView) (j : Json) (h : List ℕ) → known_hub vs j ≡ text h → has_version h vs ≡ true
hub_known vs null h e = absurd (cc)
hub_known vs (boolean b) h e = absurd (cc)
hub_known vs (whole z) h e = absurd (cc)
hub_known vs (text t) h e =
    let p = is_text_known (has_version t vs) t h e in
    subst (λ (n : List ℕ). has_version n vs ≡ true) p.1 p.0
hub_known vs (list js) h e = absurd (cc)
hub_known vs (object ms) h e = absurd (cc)

chosen : (b : Bool) (x y z : Json) → b ≡ true → cond b x y ≡ z → x ≡ z
chosen true x y z q r = r
chosen false x y z q r = absurd (cc)

first_known : (x : List ℕ) (vs : List VersionView) (ms : Members) (h : List ℕ) → x ≡ hub_name → field_read x text_read 0 (each_field (known_field vs) ms) ≡ Ok h → has_version h vs ≡ true
first_known x vs no_members h same e = absurd (cc)
first_known x vs (member k j ms) h same e =
    let p = first_is x k (known_field vs k j) h e in
    let is_hub : bytes_eq k hub_name ≡ true = subst (λ (n : List ℕ). bytes_eq k n ≡ true) same p.0 in
    hub_known vs j h (chosen (bytes_eq k hub_name) (known_hub vs j) (cond (bytes_eq k spokes_name) (known_spokes vs j) j) (text h) is_hub p.1)

of_set : (x : List ℕ) (o : Option Path) (vs : List VersionView) (ms : Members) (s : RuleSet) → x ≡ hub_name → ended o (spokes_after (field_read x text_read 0 (each_field (known_field vs) ms)) (each_field (known_field vs) ms)) ≡ Ok s → has_version s.0 vs ≡ true
of_set x o vs ms s same e =
    let ns = each_field (known_field vs) ms in
    first_known x vs ms s.0 same (after_ok (field_read x text_read 0 ns) ns s (ended_ok o (spokes_after (field_read x text_read 0 ns) ns) s e))

pub known : (vs : List VersionView) (j : Json) (s : RuleSet) → rules_in vs j ≡ Ok s → has_version s.0 vs ≡ true
unfolding word hub_name
known vs null s e = absurd (cc)
known vs (boolean b) s e = absurd (cc)
known vs (whole z) s e = absurd (cc)
known vs (text t) s e = absurd (cc)
known vs (list js) s e = absurd (cc)
known vs (object ms) s e = of_set _ _ vs ms s refl e
