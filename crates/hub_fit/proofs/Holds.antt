-- What stands where nothing of a level is refused: of each rule, and of each name that no rule names.
use Rattle.std.proofs.Common.{◌≡◌, List, [], ◌∷◌, Bool, true, false, ◌&&◌, ◌||◌, cond, Option, Some, None, refl, sym, subst}
use Rattle.std.specs.Str.{bytes_eq}
use Rattle.std.proofs.lemmas.Slice.Eq.{bytes_eq-Decides}
use Rattle.std.proofs.lemmas.Bool.{false≢true}
use Rattle.struct_schema.specs.Shape.{Shape, properties, Shapes, no_shapes, shape_at, MaybeShapes, no_map, some_map, some_shape}
use Rattle.struct_schema.specs.Names.{is_name, shape_named, property}
use Rattle.struct_schema.specs.Fault.{or_else}
use Rattle.struct_schema.specs.laws.NameLaws.{one_name}
use Rattle.hub_cells.specs.Side.{Side, spoke, hub}
use Rattle.hub_cells.specs.Level.{Name, AreDistinct}
use Rattle.hub_cells.specs.Fit.{has_name}
use Rattle.hub_rules.specs.Rule.{Rule, Rules, no_rules, rule, rule_names, spoke_names, hub_names, names_on}
use Rattle.hub_rules.specs.Sound.{IsSoundRule, AreSoundRules}
use Rattle.hub_rules.specs.Refusal.{Why, name_twice, name_missing, schema_differs, unpaired_default, required_lost, range_lost, spot_at, node, node_at, again, twice_in, twice, absent, absent_in, absent_from, first_failing, failing_in, unpaired, missing, schema_passes, default_passes, required_passes, range_passes, head_spot, refused, differing, lost, schema_spot, required_spot, level_spot, is_free, alike_below, alike_required}
use Rattle.hub_fit.proofs.Names.{Apart, or_left, or_right, fresh}

pub none_left : {A : Type 0} (o p : Option A) → or_else o p ≡ None → o ≡ None
none_left None p e = refl
none_left (Some x) p e = absurd (cc)

pub none_right : {A : Type 0} (o p : Option A) → or_else o p ≡ None → p ≡ None
none_right None p e = e
none_right (Some x) p e = absurd (cc)

pub no_spot : (d : Side) (w : Why) (o : Option Name) → spot_at d w o ≡ None → o ≡ None
no_spot d w None e = refl
no_spot d w (Some k) e = absurd (cc)

-- a test that passes, and what comes after it
pub passed : {A : Type 0} (b : Bool) (o : Option A) (x : A) → cond b o (Some x) ≡ None → b ≡ true
passed true o x e = refl
passed false o x e = absurd (cc)

pub passed_on : {A : Type 0} (b : Bool) (o : Option A) (x : A) → cond b o (Some x) ≡ None → o ≡ None
passed_on true o x e = e
passed_on false o x e = absurd (cc)

pub failed : {A : Type 0} (b : Bool) (o : Option A) (x : A) → cond b (Some x) o ≡ None → b ≡ false
failed true o x e = absurd (cc)
failed false o x e = refl

pub failed_on : {A : Type 0} (b : Bool) (o : Option A) (x : A) → cond b (Some x) o ≡ None → o ≡ None
failed_on true o x e = absurd (cc)
failed_on false o x e = e

-- ---- of a rule

pub record RuleHolds (s h : Shape) (r : Rule) : Type 0 where
  pub spoke_there : absent s (spoke_names r) ≡ None
  pub hub_there : absent h (hub_names r) ≡ None
  pub schema : schema_passes s h r ≡ true
  pub default : default_passes s h r ≡ true
  pub required : required_passes s h r ≡ true
  pub range : range_passes s h r ≡ true
  pub sound : IsSoundRule r

abbrev pub AllHold : Shape → Shape → Rules → Type 0
AllHold s h no_rules = Unit {0}
AllHold s h (rule r rs) = RuleHolds s h r × AllHold s h rs

all_hold : (s h : Shape) (rs : Rules) → AreSoundRules rs → absent_from s h rs ≡ None → refused schema_differs s h rs ≡ None → refused unpaired_default s h rs ≡ None → refused required_lost s h rs ≡ None → refused range_lost s h rs ≡ None → AllHold s h rs
all_hold s h no_rules p a b c d e = tt
all_hold s h (rule r rs) p a b c d e =
    let there = none_left (absent_in s h r) (absent_from s h rs) a in
    let here : RuleHolds s h r = record {
      spoke_there = no_spot spoke name_missing (absent s (spoke_names r)) (none_left (spot_at spoke name_missing (absent s (spoke_names r))) (spot_at hub name_missing (absent h (hub_names r))) there);
      hub_there = no_spot hub name_missing (absent h (hub_names r)) (none_right (spot_at spoke name_missing (absent s (spoke_names r))) (spot_at hub name_missing (absent h (hub_names r))) there);
      schema = passed (schema_passes s h r) (refused schema_differs s h rs) (head_spot schema_differs r) b;
      default = passed (default_passes s h r) (refused unpaired_default s h rs) (head_spot unpaired_default r) c;
      required = passed (required_passes s h r) (refused required_lost s h rs) (head_spot required_lost r) d;
      range = passed (range_passes s h r) (refused range_lost s h rs) (head_spot range_lost r) e;
      sound = p.0;
    } in
    (here, all_hold s h rs p.1 (none_right (absent_in s h r) (absent_from s h rs) a) (passed_on (schema_passes s h r) (refused schema_differs s h rs) (head_spot schema_differs r) b) (passed_on (default_passes s h r) (refused unpaired_default s h rs) (head_spot unpaired_default r) c) (passed_on (required_passes s h r) (refused required_lost s h rs) (head_spot required_lost r) d) (passed_on (range_passes s h r) (refused range_lost s h rs) (head_spot range_lost r) e))

-- ---- of names

-- the names of a rule differ, and none stands in a later rule
abbrev pub Single : Side → Rules → Type 0
Single d no_rules = Unit {0}
Single d (rule r rs) = AreDistinct (rule_names d r) × Apart (rule_names d r) (names_on d rs) × Single d rs

single_names : (ns later : List Name) → again ns later ≡ None → AreDistinct ns
single_names [] later e = tt
single_names (n ∷ ns) later e =
    let b = failed (has_name n ns || has_name n later) (again ns later) n e in
    (fresh n ns (or_left (has_name n ns) (has_name n later) b), single_names ns later (failed_on (has_name n ns || has_name n later) (again ns later) n e))

single_apart : (ns later : List Name) → again ns later ≡ None → Apart ns later
single_apart [] later e k f = absurd (false≢true f)
single_apart (n ∷ ns) later e k f = by_test (bytes_eq k n) refl f (single_apart ns later (failed_on (has_name n ns || has_name n later) (again ns later) n e) k)
  where
    by_test : (b : Bool) → bytes_eq k n ≡ b → (b || has_name k ns) ≡ true → (has_name k ns ≡ true → has_name k later ≡ false) → has_name k later ≡ false
    by_test true q g rest =
        subst (λ (z : Name). has_name z later ≡ false) (sym ((bytes_eq-Decides k n).0 q)) (or_right (has_name n ns) (has_name n later) (failed (has_name n ns || has_name n later) (again ns later) n e))
    by_test false q g rest = rest g

singles : (rs : Rules) → twice rs ≡ None → Single spoke rs × Single hub rs
singles no_rules e = (tt, tt)
singles (rule r rs) e =
    let here = none_left (twice_in r rs) (twice rs) e in
    let a = no_spot spoke name_twice (again (spoke_names r) (names_on spoke rs)) (none_left (spot_at spoke name_twice (again (spoke_names r) (names_on spoke rs))) (spot_at hub name_twice (again (hub_names r) (names_on hub rs))) here) in
    let b = no_spot hub name_twice (again (hub_names r) (names_on hub rs)) (none_right (spot_at spoke name_twice (again (spoke_names r) (names_on spoke rs))) (spot_at hub name_twice (again (hub_names r) (names_on hub rs))) here) in
    let rest = singles rs (none_right (twice_in r rs) (twice rs) e) in
    ((single_names (spoke_names r) (names_on spoke rs) a, single_apart (spoke_names r) (names_on spoke rs) a, rest.0), (single_names (hub_names r) (names_on hub rs) b, single_apart (hub_names r) (names_on hub rs) b, rest.1))

-- a name of `properties` passes
pub passing : (P : Name → Shape → Bool) (ss : Shapes) → first_failing P ss ≡ None → (k : Name) (t : Shape) → shape_named k ss ≡ some_shape t → P k t ≡ true
passing P no_shapes e k t f = absurd (cc)
passing P (shape_at l u ss) e k t f =
    by_test (is_name k l) refl f (λ g. passing P ss (passed_on (P l u) (first_failing P ss) l e) k t g)
  where
    by_test : (b : Bool) → is_name k l ≡ b → cond b (some_shape u) (shape_named k ss) ≡ some_shape t → (shape_named k ss ≡ some_shape t → P k t ≡ true) → P k t ≡ true
    by_test true q g rest =
        let same : u ≡ t = cc in
        subst (λ (v : Shape). P k v ≡ true) same (subst (λ (z : Name). P z u ≡ true) (sym (one_name k l q)) (passed (P l u) (first_failing P ss) l e))
    by_test false q g rest = rest g

passing_in : (P : Name → Shape → Bool) (m : MaybeShapes) → failing_in P m ≡ None → (k : Name) (t : Shape) → property k m ≡ some_shape t → P k t ≡ true
passing_in P no_map e k t f = absurd (cc)
passing_in P (some_map ss) e k t f = passing P ss e k t f

pub record NamesHold (s h : Shape) (rs : Rules) : Type 0 where
  pub single : Single spoke rs × Single hub rs
  pub spoke_paired : (k : Name) (t : Shape) → node k s ≡ some_shape t → (has_name k (names_on spoke rs) || is_free hub h rs k) ≡ true
  pub hub_paired : (k : Name) (t : Shape) → node k h ≡ some_shape t → (has_name k (names_on hub rs) || is_free spoke s rs k) ≡ true
  pub alike : (k : Name) (t : Shape) → node k s ≡ some_shape t → (has_name k (names_on spoke rs) || (alike_below t (node_at k h) && alike_required k k s h)) ≡ true
  pub spoke_lost : lost s ≡ None
  pub hub_lost : lost h ≡ None

pub rules_hold : (s h : Shape) (rs : Rules) → AreSoundRules rs → level_spot s h rs ≡ None → AllHold s h rs
rules_hold s h rs p e =
    let e1 = none_right (twice rs) _ e in
    let m = none_left (missing s h rs) _ e1 in
    let e2 = none_right (missing s h rs) _ e1 in
    let c = none_left (schema_spot s h rs) _ e2 in
    let e3 = none_right (schema_spot s h rs) _ e2 in
    let d = none_left (refused unpaired_default s h rs) _ e3 in
    let e4 = none_right (refused unpaired_default s h rs) _ e3 in
    let q = none_left (required_spot s h rs) (refused range_lost s h rs) e4 in
    all_hold s h rs p (none_left (absent_from s h rs) _ m) (none_left (refused schema_differs s h rs) _ c) d (none_left (refused required_lost s h rs) _ q) (none_right (required_spot s h rs) (refused range_lost s h rs) e4)

pub names_hold : (s h : Shape) (rs : Rules) → level_spot s h rs ≡ None → NamesHold s h rs
names_hold s h rs e =
    let e1 = none_right (twice rs) _ e in
    let m = none_left (missing s h rs) _ e1 in
    let m1 = none_right (absent_from s h rs) _ m in
    let e2 = none_right (missing s h rs) _ e1 in
    let c = none_left (schema_spot s h rs) _ e2 in
    let e3 = none_right (schema_spot s h rs) _ e2 in
    let e4 = none_right (refused unpaired_default s h rs) _ e3 in
    let q = none_left (required_spot s h rs) (refused range_lost s h rs) e4 in
    let q1 = none_right (refused required_lost s h rs) _ q in
    record {
      single = singles rs (none_left (twice rs) _ e);
      spoke_paired = passing_in (λ k t. has_name k (names_on spoke rs) || is_free hub h rs k) (properties s) (no_spot spoke name_missing (unpaired spoke s h rs) (none_left (spot_at spoke name_missing (unpaired spoke s h rs)) _ m1));
      hub_paired = passing_in (λ k t. has_name k (names_on hub rs) || is_free spoke s rs k) (properties h) (no_spot hub name_missing (unpaired hub h s rs) (none_right (spot_at spoke name_missing (unpaired spoke s h rs)) _ m1));
      alike = passing_in (λ k t. has_name k (names_on spoke rs) || (alike_below t (node_at k h) && alike_required k k s h)) (properties s) (no_spot spoke schema_differs (differing s h rs) (none_right (refused schema_differs s h rs) _ c));
      spoke_lost = no_spot spoke required_lost (lost s) (none_left (spot_at spoke required_lost (lost s)) _ q1);
      hub_lost = no_spot hub required_lost (lost h) (none_right (spot_at spoke required_lost (lost s)) _ q1);
    }
