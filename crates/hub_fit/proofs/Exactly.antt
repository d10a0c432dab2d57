-- Nothing is refused exactly where the six conditions hold at every level.
use Rattle.std.proofs.Common.{◌≡◌, List, [], ◌∷◌, ◌++◌, Bool, true, false, ◌&&◌, ◌||◌, not, cond, Option, Some, None, fold, filter, option_map, refl, ap, sym, subst, ◌∙◌}
use Rattle.std.specs.Prelude.{is_none}
use Rattle.std.specs.Str.{bytes_eq}
use Rattle.std.specs.Ordering.{nat_cmp, is_lt}
use Rattle.std.specs.Cmp.Lexicographic.{slice_cmp}
use Rattle.std.proofs.lemmas.Slice.Eq.{bytes_eq-Decides}
use Rattle.std.proofs.lemmas.Bool.{false≢true}
use Rattle.kj_value.specs.Json.{Json}
use Rattle.struct_schema.specs.Shape.{Shape, own, properties, Shapes, no_shapes, shape_at, MaybeShapes, no_map, some_map}
use Rattle.struct_schema.specs.Fault.{or_else, unless, lesser}
use Rattle.hub_cells.specs.Side.{Side, spoke, hub, other}
use Rattle.hub_cells.specs.Level.{Name, AreDistinct}
use Rattle.hub_cells.specs.Fit.{has_name, is_required}
use Rattle.hub_rules.specs.Rule.{Rule, same, within, spoke_only, hub_only, split, table, scale, Rules, no_rules, rule, rule_names, spoke_names, hub_names, names_on}
use Rattle.hub_rules.specs.Refusal.{Why, name_twice, name_missing, schema_differs, unpaired_default, required_lost, range_lost, Spot, spot_at, node, node_at, is_there, is_free, again, twice_in, twice, absent, absent_in, absent_from, first_failing, failing_in, unpaired, missing, is_closed, alike_below, alike_required, schema_passes, default_passes, required_passes, range_passes, rule_passes, head_spot, refused, differing, lost, schema_spot, required_spot, level_spot, Fault, told, level_fault, under, within_fault, inner_fault, fault, at_root, root_fault, fit_fault}
use Rattle.hub_fit.specs.Conditions.{shape_on, AllPass, EachNamed, EachProperty, NamesOnce, NamesStand, SchemasAgree, RequiredStands, FitsLevel, FitsInside, FitsAllInside, AreRoots, AreFitting}
use Rattle.hub_fit.proofs.Names.{or_first, or_second, has_append, fresh, not_fresh, distinct_right, self}
use Rattle.hub_fit.proofs.Holds.{none_left, none_right, passed, passed_on, failed, failed_on, no_spot}

-- ---- answers that are none

none_or : {A : Type 0} (o p : Option A) → o ≡ None → p ≡ None → or_else o p ≡ None
none_or None p e f = f
none_or (Some x) p e f = absurd (cc)

spot_none : (d : Side) (w : Why) (o : Option Name) → o ≡ None → spot_at d w o ≡ None
spot_none d w None e = refl
spot_none d w (Some k) e = absurd (cc)

both_true : (a b : Bool) → a && b ≡ true → (a ≡ true) × (b ≡ true)
both_true true b h = (refl, h)
both_true false b h = absurd (cc)

and_true : (a b : Bool) → a ≡ true → b ≡ true → a && b ≡ true
and_true a b h k = rw (h, k) refl

is_none_none : {A : Type 0} (o : Option A) → is_none o ≡ true → o ≡ None
is_none_none None h = refl
is_none_none (Some x) h = absurd (cc)

-- ---- NameTwice

again_distinct : (ns later : List Name) → again ns later ≡ None → AreDistinct later → AreDistinct (ns ++ later)
again_distinct [] later e p = p
again_distinct (n ∷ ns) later e p =
    (fresh n (ns ++ later) (has_append n ns later ∙ failed (has_name n ns || has_name n later) (again ns later) n e), again_distinct ns later (failed_on (has_name n ns || has_name n later) (again ns later) n e) p)

distinct_again : (ns later : List Name) → AreDistinct (ns ++ later) → again ns later ≡ None
distinct_again [] later p = refl
distinct_again (n ∷ ns) later p =
    ap (λ (b : Bool). cond b (Some n) (again ns later)) (sym (has_append n ns later) ∙ not_fresh n (ns ++ later) p.0) ∙ distinct_again ns later p.1

spoke_again : (r : Rule) (rs : Rules) → twice_in r rs ≡ None → again (spoke_names r) (names_on spoke rs) ≡ None
spoke_again r rs e =
    no_spot spoke name_twice (again (spoke_names r) (names_on spoke rs)) (none_left (spot_at spoke name_twice (again (spoke_names r) (names_on spoke rs))) (spot_at hub name_twice (again (hub_names r) (names_on hub rs))) e)

hub_again : (r : Rule) (rs : Rules) → twice_in r rs ≡ None → again (hub_names r) (names_on hub rs) ≡ None
hub_again r rs e =
    no_spot hub name_twice (again (hub_names r) (names_on hub rs)) (none_right (spot_at spoke name_twice (again (spoke_names r) (names_on spoke rs))) (spot_at hub name_twice (again (hub_names r) (names_on hub rs))) e)

once : (rs : Rules) → twice rs ≡ None → (d : Side) → AreDistinct (names_on d rs)
once no_rules e d = tt
once (rule r rs) e spoke =
    again_distinct (spoke_names r) (names_on spoke rs) (spoke_again r rs (none_left (twice_in r rs) (twice rs) e)) (once rs (none_right (twice_in r rs) (twice rs) e) spoke)
once (rule r rs) e hub =
    again_distinct (hub_names r) (names_on hub rs) (hub_again r rs (none_left (twice_in r rs) (twice rs) e)) (once rs (none_right (twice_in r rs) (twice rs) e) hub)

never_twice : (rs : Rules) → NamesOnce rs → twice rs ≡ None
never_twice no_rules h = refl
never_twice (rule r rs) h =
    let a = spot_none spoke name_twice (again (spoke_names r) (names_on spoke rs)) (distinct_again (spoke_names r) (names_on spoke rs) (h spoke)) in
    let b = spot_none hub name_twice (again (hub_names r) (names_on hub rs)) (distinct_again (hub_names r) (names_on hub rs) (h hub)) in
    none_or (twice_in r rs) (twice rs) (none_or (spot_at spoke name_twice (again (spoke_names r) (names_on spoke rs))) (spot_at hub name_twice (again (hub_names r) (names_on hub rs))) a b)
    (never_twice rs (λ d. distinct_right (rule_names d r) (names_on d rs) (h d)))

-- ---- NameMissing

abbrev Stand : Shape → List Name → Type 0
Stand s ns = (k : Name) → has_name k ns ≡ true → is_there (node k s) ≡ true

either_name : (k : Name) (xs ys : List Name) (P : Type 0) → has_name k (xs ++ ys) ≡ true → (has_name k xs ≡ true → P) → (has_name k ys ≡ true → P) → P
either_name k xs ys P h f g = by_test (has_name k xs) refl (sym (has_append k xs ys) ∙ h)
  where
    by_test : (b : Bool) → has_name k xs ≡ b → (b || has_name k ys) ≡ true → P
    by_test true e q = f e
    by_test false e q = g q

none_absent : (s : Shape) (ns : List Name) → absent s ns ≡ None → Stand s ns
none_absent s [] e k h = absurd (false≢true h)
none_absent s (n ∷ ns) e k h =
    by_test (bytes_eq k n) refl h (none_absent s ns (passed_on (is_there (node n s)) (absent s ns) n e) k)
  where
    by_test : (b : Bool) → bytes_eq k n ≡ b → (b || has_name k ns) ≡ true → (has_name k ns ≡ true → is_there (node k s) ≡ true) → is_there (node k s) ≡ true
    by_test true q f later =
        subst (λ (z : Name). is_there (node z s) ≡ true) (sym ((bytes_eq-Decides k n).0 q)) (passed (is_there (node n s)) (absent s ns) n e)
    by_test false q f later = later f

all_there : (s : Shape) (ns : List Name) → Stand s ns → absent s ns ≡ None
all_there s [] h = refl
all_there s (n ∷ ns) h =
    ap (λ (b : Bool). cond b (absent s ns) (Some n)) (h n (or_first (bytes_eq n n) (has_name n ns) (self n))) ∙ all_there s ns (λ k q. h k (or_second (bytes_eq k n) (has_name k ns) q))

names_stand : (s h : Shape) (rs : Rules) → absent_from s h rs ≡ None → (d : Side) → Stand (shape_on d s h) (names_on d rs)
names_stand s h no_rules e d k q = absurd (false≢true q)
names_stand s h (rule r rs) e spoke k q =
    let here = none_left (absent_in s h r) (absent_from s h rs) e in
    let a = no_spot spoke name_missing (absent s (spoke_names r)) (none_left (spot_at spoke name_missing (absent s (spoke_names r))) (spot_at hub name_missing (absent h (hub_names r))) here) in
    either_name k (spoke_names r) (names_on spoke rs) (is_there (node k s) ≡ true) q (none_absent s (spoke_names r) a k) (names_stand s h rs (none_right (absent_in s h r) (absent_from s h rs) e) spoke k)
names_stand s h (rule r rs) e hub k q =
    let here = none_left (absent_in s h r) (absent_from s h rs) e in
    let a = no_spot hub name_missing (absent h (hub_names r)) (none_right (spot_at spoke name_missing (absent s (spoke_names r))) (spot_at hub name_missing (absent h (hub_names r))) here) in
    either_name k (hub_names r) (names_on hub rs) (is_there (node k h) ≡ true) q (none_absent h (hub_names r) a k) (names_stand s h rs (none_right (absent_in s h r) (absent_from s h rs) e) hub k)

in_front : (k : Name) (xs ys : List Name) → has_name k xs ≡ true → has_name k (xs ++ ys) ≡ true
in_front k xs ys h = has_append k xs ys ∙ or_first (has_name k xs) (has_name k ys) h

behind : (k : Name) (xs ys : List Name) → has_name k ys ≡ true → has_name k (xs ++ ys) ≡ true
behind k xs ys h = has_append k xs ys ∙ or_second (has_name k xs) (has_name k ys) h

none_missing : (s h : Shape) (rs : Rules) → ((d : Side) → Stand (shape_on d s h) (names_on d rs)) → absent_from s h rs ≡ None
none_missing s h no_rules f = refl
none_missing s h (rule r rs) f =
    let a = spot_none spoke name_missing (absent s (spoke_names r)) (all_there s (spoke_names r) (λ k q. f spoke k (in_front k (spoke_names r) (names_on spoke rs) q))) in
    let b = spot_none hub name_missing (absent h (hub_names r)) (all_there h (hub_names r) (λ k q. f hub k (in_front k (hub_names r) (names_on hub rs) q))) in
    none_or (absent_in s h r) (absent_from s h rs) (none_or (spot_at spoke name_missing (absent s (spoke_names r))) (spot_at hub name_missing (absent h (hub_names r))) a b)
    (none_missing s h rs (λ d k q. f d k (behind k (rule_names d r) (names_on d rs) q)))

-- ---- properties that no rule names

none_failing : (A : Name → Bool) (R : Name → Shape → Bool) (ss : Shapes) → first_failing (λ k t. A k || R k t) ss ≡ None → EachNamed (λ k t. A k ≡ false → R k t ≡ true) ss
none_failing A R no_shapes e = tt
none_failing A R (shape_at k t ss) e =
    (λ q. sym (ap (λ (b : Bool). b || R k t) q) ∙ passed (A k || R k t) (first_failing (λ k t. A k || R k t) ss) k e, none_failing A R ss (passed_on (A k || R k t) (first_failing (λ k t. A k || R k t) ss) k e))

never_failing : (A : Name → Bool) (R : Name → Shape → Bool) (ss : Shapes) → EachNamed (λ k t. A k ≡ false → R k t ≡ true) ss → first_failing (λ k t. A k || R k t) ss ≡ None
never_failing A R no_shapes h = refl
never_failing A R (shape_at k t ss) h =
    ap (λ (b : Bool). cond b (first_failing (λ k t. A k || R k t) ss) (Some k)) (by_test (A k) h.0) ∙ never_failing A R ss h.1
  where
    by_test : (b : Bool) → (b ≡ false → R k t ≡ true) → (b || R k t) ≡ true
    by_test true f = refl
    by_test false f = f refl

each_free : (A : Name → Bool) (R : Name → Shape → Bool) (m : MaybeShapes) → failing_in (λ k t. A k || R k t) m ≡ None → EachProperty (λ k t. A k ≡ false → R k t ≡ true) m
each_free A R no_map e = tt
each_free A R (some_map ss) e = none_failing A R ss e

free_each : (A : Name → Bool) (R : Name → Shape → Bool) (m : MaybeShapes) → EachProperty (λ k t. A k ≡ false → R k t ≡ true) m → failing_in (λ k t. A k || R k t) m ≡ None
free_each A R no_map h = refl
free_each A R (some_map ss) h = never_failing A R ss h

-- ---- rules that pass

all_pass : (w : Why) (s h : Shape) (rs : Rules) → refused w s h rs ≡ None → AllPass (rule_passes w s h) rs
all_pass w s h no_rules e = tt
all_pass w s h (rule r rs) e =
    (passed (rule_passes w s h r) (refused w s h rs) (head_spot w r) e, all_pass w s h rs (passed_on (rule_passes w s h r) (refused w s h rs) (head_spot w r) e))

none_refused : (w : Why) (s h : Shape) (rs : Rules) → AllPass (rule_passes w s h) rs → refused w s h rs ≡ None
none_refused w s h no_rules p = refl
none_refused w s h (rule r rs) p =
    ap (λ (b : Bool). unless b (head_spot w r) (refused w s h rs)) p.0 ∙ none_refused w s h rs p.1

-- ---- required names

lesser_some : (o : Option Name) (n : Name) → is_none (lesser o n) ≡ false
lesser_some None n = refl
lesser_some (Some m) n = by_test (is_lt (slice_cmp nat_cmp n m))
  where
    by_test : (b : Bool) → is_none (cond b (Some n) (Some m)) ≡ false
    by_test true = refl
    by_test false = refl

fold_some : (ns : List Name) (o : Option Name) → is_none o ≡ false → is_none (fold lesser o ns) ≡ false
fold_some [] o h = h
fold_some (n ∷ ns) o h = fold_some ns (lesser o n) (lesser_some o n)

abbrev is_gone : Shape → Name → Bool
is_gone s k = not (is_there (node k s))

none_lost : (s : Shape) (ns : List Name) → fold lesser None (filter (is_gone s) ns) ≡ None → Stand s ns
none_lost s [] e k h = absurd (false≢true h)
none_lost s (n ∷ ns) e k h = by_there (is_there (node n s)) refl e (λ f. none_lost s ns f)
  where
    by_name : (b : Bool) → bytes_eq k n ≡ b → (b || has_name k ns) ≡ true → is_there (node n s) ≡ true → Stand s ns → is_there (node k s) ≡ true
    by_name true q f t rest = subst (λ (z : Name). is_there (node z s) ≡ true) (sym ((bytes_eq-Decides k n).0 q)) t
    by_name false q f t rest = rest k f

    by_there : (b : Bool) → is_there (node n s) ≡ b → fold lesser None (cond (not b) (n ∷ filter (is_gone s) ns) (filter (is_gone s) ns)) ≡ None → (fold lesser None (filter (is_gone s) ns) ≡ None → Stand s ns) → is_there (node k s) ≡ true
    by_there true t f later = by_name (bytes_eq k n) refl h t (later f)
    by_there false t f later =
        absurd (false≢true (sym (fold_some (filter (is_gone s) ns) (Some n) refl) ∙ ap (λ (o : Option Name). is_none o) f))

never_lost : (s : Shape) (ns : List Name) → Stand s ns → fold lesser None (filter (is_gone s) ns) ≡ None
never_lost s [] h = refl
never_lost s (n ∷ ns) h =
    ap (λ (b : Bool). fold lesser None (cond (not b) (n ∷ filter (is_gone s) ns) (filter (is_gone s) ns))) (h n (or_first (bytes_eq n n) (has_name n ns) (self n))) ∙ never_lost s ns (λ k q. h k (or_second (bytes_eq k n) (has_name k ns) q))

-- ---- one level

fits_level : (s h : Shape) (rs : Rules) → level_spot s h rs ≡ None → FitsLevel s h rs
fits_level s h rs e =
    let e1 = none_right (twice rs) _ e in
    let m = none_left (missing s h rs) _ e1 in
    let m1 = none_right (absent_from s h rs) _ m in
    let e2 = none_right (missing s h rs) _ e1 in
    let c = none_left (schema_spot s h rs) _ e2 in
    let e3 = none_right (schema_spot s h rs) _ e2 in
    let p = none_left (refused unpaired_default s h rs) _ e3 in
    let e4 = none_right (refused unpaired_default s h rs) _ e3 in
    let q = none_left (required_spot s h rs) (refused range_lost s h rs) e4 in
    let q1 = none_right (refused required_lost s h rs) _ q in
    let free_spoke = no_spot spoke name_missing (unpaired spoke s h rs) (none_left (spot_at spoke name_missing (unpaired spoke s h rs)) _ m1) in
    let free_hub = no_spot hub name_missing (unpaired hub h s rs) (none_right (spot_at spoke name_missing (unpaired spoke s h rs)) _ m1) in
    let alike = no_spot spoke schema_differs (differing s h rs) (none_right (refused schema_differs s h rs) _ c) in
    let lost_spoke = no_spot spoke required_lost (lost s) (none_left (spot_at spoke required_lost (lost s)) _ q1) in
    let lost_hub = no_spot hub required_lost (lost h) (none_right (spot_at spoke required_lost (lost s)) _ q1) in
    record {
      names_once = once rs (none_left (twice rs) _ e);
      names_stand = record {
        ruled = names_stand s h rs (none_left (absent_from s h rs) _ m);
        free = λ d. elim d as (λ d. EachProperty (λ k t. has_name k (names_on d rs) ≡ false → is_free (other d) (shape_on (other d) s h) rs k ≡ true) (properties (shape_on d s h))) [
          | spoke ↦ each_free (λ k. has_name k (names_on spoke rs)) (λ k t. is_free hub h rs k) (properties s) free_spoke
          | hub ↦ each_free (λ k. has_name k (names_on hub rs)) (λ k t. is_free spoke s rs k) (properties h) free_hub
        ];
      };
      schemas_agree = record {
        ruled = all_pass schema_differs s h rs (none_left (refused schema_differs s h rs) _ c);
        free = each_free (λ k. has_name k (names_on spoke rs)) (λ k t. alike_below t (node_at k h) && alike_required k k s h) (properties s) alike;
      };
      defaults_pair = all_pass unpaired_default s h rs p;
      required_stands = record {
        ruled = all_pass required_lost s h rs (none_left (refused required_lost s h rs) _ q);
        there = λ d. elim d as (λ d. Stand (shape_on d s h) (own (shape_on d s h)).required) [
          | spoke ↦ none_lost s (own s).required lost_spoke
          | hub ↦ none_lost h (own h).required lost_hub
        ];
      };
      ranges_hold = all_pass range_lost s h rs (none_right (required_spot s h rs) (refused range_lost s h rs) e4);
    }

level_fits : (s h : Shape) (rs : Rules) → FitsLevel s h rs → level_spot s h rs ≡ None
level_fits s h rs f =
    let a = never_twice rs f.names_once in
    let m = none_missing s h rs f.names_stand.ruled in
    let free_spoke = spot_none spoke name_missing (unpaired spoke s h rs) (free_each (λ k. has_name k (names_on spoke rs)) (λ k t. is_free hub h rs k) (properties s) (f.names_stand.free spoke)) in
    let free_hub = spot_none hub name_missing (unpaired hub h s rs) (free_each (λ k. has_name k (names_on hub rs)) (λ k t. is_free spoke s rs k) (properties h) (f.names_stand.free hub)) in
    let c = none_refused schema_differs s h rs f.schemas_agree.ruled in
    let alike = spot_none spoke schema_differs (differing s h rs) (free_each (λ k. has_name k (names_on spoke rs)) (λ k t. alike_below t (node_at k h) && alike_required k k s h) (properties s) f.schemas_agree.free) in
    let p = none_refused unpaired_default s h rs f.defaults_pair in
    let q = none_refused required_lost s h rs f.required_stands.ruled in
    let lost_spoke = spot_none spoke required_lost (lost s) (never_lost s (own s).required (f.required_stands.there spoke)) in
    let lost_hub = spot_none hub required_lost (lost h) (never_lost h (own h).required (f.required_stands.there hub)) in
    let g = none_refused range_lost s h rs f.ranges_hold in
    none_or (twice rs) _ a (none_or (missing s h rs) _ (none_or (absent_from s h rs) _ m (none_or (spot_at spoke name_missing (unpaired spoke s h rs)) (spot_at hub name_missing (unpaired hub h s rs)) free_spoke free_hub))
    (none_or (schema_spot s h rs) _ (none_or (refused schema_differs s h rs) (spot_at spoke schema_differs (differing s h rs)) c alike)
    (none_or (refused unpaired_default s h rs) _ p (none_or (required_spot s h rs) (refused range_lost s h rs) (none_or (refused required_lost s h rs) _ q (none_or (spot_at spoke required_lost (lost s)) (spot_at hub required_lost (lost h)) lost_spoke lost_hub)) g))))

-- ---- all levels

no_fault : (o : Option Spot) → option_map told o ≡ None → o ≡ None
no_fault None e = refl
no_fault (Some p) e = absurd (cc)

fault_none : (o : Option Spot) → o ≡ None → option_map told o ≡ None
fault_none o e = ap (λ (p : Option Spot). option_map told p) e

none_under : (a b : Name) (o : Option Fault) → under a b o ≡ None → o ≡ None
none_under a b None e = refl
none_under a b (Some f) e = absurd (cc)

under_none : (a b : Name) (o : Option Fault) → o ≡ None → under a b o ≡ None
under_none a b o e = ap (under a b) e

mutual
  fits_inside : (s h : Shape) (r : Rule) → within_fault s h r ≡ None → FitsInside s h r
  fits_inside s h (same a b) e = tt
  fits_inside s h (within a b ts) e =
      let o = none_under a b (or_else (level_fault (node_at a s) (node_at b h) ts) (inner_fault (node_at a s) (node_at b h) ts)) e in
      (fits_level (node_at a s) (node_at b h) ts (no_fault (level_spot (node_at a s) (node_at b h) ts) (none_left (level_fault (node_at a s) (node_at b h) ts) (inner_fault (node_at a s) (node_at b h) ts) o)), fits_all_inside (node_at a s) (node_at b h) ts (none_right (level_fault (node_at a s) (node_at b h) ts) (inner_fault (node_at a s) (node_at b h) ts) o))
  fits_inside s h (spoke_only a) e = tt
  fits_inside s h (hub_only b) e = tt
  fits_inside s h (split a b c) e = tt
  fits_inside s h (table a b ps x y) e = tt
  fits_inside s h (scale a b k) e = tt

  fits_all_inside : (s h : Shape) (rs : Rules) → inner_fault s h rs ≡ None → FitsAllInside s h rs
  fits_all_inside s h no_rules e = tt
  fits_all_inside s h (rule r rs) e =
      (fits_inside s h r (none_left (within_fault s h r) (inner_fault s h rs) e), fits_all_inside s h rs (none_right (within_fault s h r) (inner_fault s h rs) e))

mutual
  inside_fits : (s h : Shape) (r : Rule) → FitsInside s h r → within_fault s h r ≡ None
  inside_fits s h (same a b) f = refl
  inside_fits s h (within a b ts) f =
      under_none a b (or_else (level_fault (node_at a s) (node_at b h) ts) (inner_fault (node_at a s) (node_at b h) ts)) (none_or (level_fault (node_at a s) (node_at b h) ts) (inner_fault (node_at a s) (node_at b h) ts) (fault_none (level_spot (node_at a s) (node_at b h) ts) (level_fits (node_at a s) (node_at b h) ts f.0)) (all_inside_fit (node_at a s) (node_at b h) ts f.1))
  inside_fits s h (spoke_only a) f = refl
  inside_fits s h (hub_only b) f = refl
  inside_fits s h (split a b c) f = refl
  inside_fits s h (table a b ps x y) f = refl
  inside_fits s h (scale a b k) f = refl

  all_inside_fit : (s h : Shape) (rs : Rules) → FitsAllInside s h rs → inner_fault s h rs ≡ None
  all_inside_fit s h no_rules f = refl
  all_inside_fit s h (rule r rs) f =
      none_or (within_fault s h r) (inner_fault s h rs) (inside_fits s h r f.0) (all_inside_fit s h rs f.1)

-- ---- the roots

are_roots : (s h : Shape) → root_fault s h ≡ None → AreRoots s h
are_roots s h e =
    let bare = is_none (own s).default_value && is_none (own h).default_value in
    let rest = unless bare (at_root unpaired_default) None in
    let c = both_true (is_closed s) (is_closed h) (passed (is_closed s && is_closed h) rest (at_root schema_differs) e) in
    let b = both_true (is_none (own s).default_value) (is_none (own h).default_value) (passed bare None (at_root unpaired_default) (passed_on (is_closed s && is_closed h) rest (at_root schema_differs) e)) in
    record {
      closed = λ d. elim d as (λ d. is_closed (shape_on d s h) ≡ true) [ spoke ↦ c.0 | hub ↦ c.1 ];
      bare = λ d. elim d as (λ d. (own (shape_on d s h)).default_value ≡ None) [ spoke ↦ is_none_none (own s).default_value b.0 | hub ↦ is_none_none (own h).default_value b.1 ];
    }

roots_none : (s h : Shape) → AreRoots s h → root_fault s h ≡ None
roots_none s h r =
    let c : is_closed s && is_closed h ≡ true = and_true (is_closed s) (is_closed h) (r.closed spoke) (r.closed hub) in
    let b : is_none (own s).default_value && is_none (own h).default_value ≡ true = and_true (is_none (own s).default_value) (is_none (own h).default_value) (ap (λ (o : Option Json). is_none o) (r.bare spoke)) (ap (λ (o : Option Json). is_none o) (r.bare hub)) in
    ap (λ (z : Bool). unless z (at_root schema_differs) (unless (is_none (own s).default_value && is_none (own h).default_value) (at_root unpaired_default) None)) c ∙ ap (λ (z : Bool). unless z (at_root unpaired_default) None) b

pub fitting : (s h : Shape) (rs : Rules) → fit_fault s h rs ≡ None → AreFitting s h rs
fitting s h rs e =
    let f = none_right (root_fault s h) (fault s h rs) e in
    record {
      roots = are_roots s h (none_left (root_fault s h) (fault s h rs) e);
      level = fits_level s h rs (no_fault (level_spot s h rs) (none_left (level_fault s h rs) (inner_fault s h rs) f));
      inside = fits_all_inside s h rs (none_right (level_fault s h rs) (inner_fault s h rs) f);
    }

pub unrefused : (s h : Shape) (rs : Rules) → AreFitting s h rs → fit_fault s h rs ≡ None
unrefused s h rs f =
    none_or (root_fault s h) (fault s h rs) (roots_none s h f.roots) (none_or (level_fault s h rs) (inner_fault s h rs) (fault_none (level_spot s h rs) (level_fits s h rs f.level)) (all_inside_fit s h rs f.inside))
