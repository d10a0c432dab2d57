-- What the names of a level become is right: the hub allows it, it stands in a cell that can have a default, and each name
-- with a default on either side has one.
use Rattle.std.proofs.Common.{◌≡◌, ℕ, suc, List, [], ◌∷◌, map, Bool, true, false, ◌&&◌, ◌||◌, not, cond, ◌⊎◌, inl, inr, Option, Some, None, refl, ap, sym, subst, ◌∙◌}
use Rattle.std.specs.Prelude.{is_some, is_none, IfSome}
use Rattle.std.specs.Str.{bytes_eq}
use Rattle.std.proofs.lemmas.Bool.{false≢true}
use Rattle.kj_value.specs.Json.{Json}
use Rattle.struct_schema.specs.Shape.{Shape, own, properties, some_shape}
use Rattle.struct_schema.specs.Names.{property}
use Rattle.struct_schema.specs.Fault.{or_else}
use Rattle.hub_cells.specs.Side.{Side, spoke, hub}
use Rattle.hub_cells.specs.Cell.{Kind, same, spoke_only, hub_only, split, table, scale, Tuple, one}
use Rattle.hub_cells.specs.Cross.{matched}
use Rattle.hub_cells.specs.Level.{Name, Place, Cell, places, names, allowed_at, all_allowed, allows, some_there, have_default, may_default, can_default, has_one_name, is_one, MatchAllowed, MatchThere, CellFits, CellsFit, Level, level, cells_in, Inners, no_inner, inner, inners_in, InnersFit, NoneTwice, AreDistinct, inner_names}
use Rattle.hub_cells.specs.Fit.{has_name, IsPlaceOf, ArePlacesOf, CellsStand, Stands, InnersStand}
use Rattle.hub_fills.specs.Lookups.{cell_at, level_at, cell_in, level_in}
use Rattle.hub_fills.specs.Fills.{default_of, one_value, value_in, match_of, hub_default, spoke_default, cell_default, default_from, first_default, fill_of, fills_of, fills_within}
use Rattle.hub_fills.specs.Late.{is_plain, pairs_plainly, all_pair, is_one_sided, is_late_at, is_late, NoneLate, NoLate, NoLateWithin}
use Rattle.hub_fills.specs.Right.{DefaultsAllowed, CellsAllow, AllowWithin, IsRight, AreRight, RightFills, RightWithin}
use Rattle.hub_fills.specs.Sound.{IsAmong, IfThere, EachLevel, AreAmong, HasLevel}
use Rattle.hub_fills.specs.laws.NameLaws.{same_name, one_name, has_cases, HasCell, cell_found, HasInner, level_found, distinct_inner}

-- ---- truth values and options

and_left : (a b : Bool) → (a && b) ≡ true → a ≡ true
and_left true b h = refl
and_left false b h = absurd (false≢true h)

and_right : (a b : Bool) → (a && b) ≡ true → b ≡ true
and_right true b h = h
and_right false b h = absurd (false≢true h)

and_one : (a : Bool) → a ≡ true → (a && true) ≡ true
and_one true h = refl
and_one false h = absurd (false≢true h)

or_none : (a : Bool) → (a || false) ≡ true → a ≡ true
or_none true h = refl
or_none false h = absurd (false≢true h)

or_cases : (a b : Bool) → (a || b) ≡ true → (a ≡ true) ⊎ (b ≡ true)
or_cases true b h = inl refl
or_cases false b h = inr h

not_false : (a : Bool) → not a ≡ false → a ≡ true
not_false true h = refl
not_false false h = absurd (false≢true (sym h))

-- a test that fails, where its first part holds
fails_second : (a b : Bool) → (a && b) ≡ false → a ≡ true → b ≡ false
fails_second true b h e = h
fails_second false b h e = absurd (false≢true e)

some_else : {A : Type 0} (P : A → Type 0) (o p : Option A) → IfSome o P → IfSome p P → IfSome (or_else o p) P
some_else P None p h g = g
some_else P (Some x) p h g = h

else_left : {A : Type 0} (o p : Option A) → is_some o ≡ true → is_some (or_else o p) ≡ true
else_left None p h = absurd (false≢true h)
else_left (Some x) p h = refl

else_right : {A : Type 0} (o p : Option A) → is_some p ≡ true → is_some (or_else o p) ≡ true
else_right None p h = h
else_right (Some x) p h = refl

if_map : {A : Type 0} (P Q : A → Type 0) → ((x : A) → P x → Q x) → (o : Option A) → IfSome o P → IfSome o Q
if_map P Q f None h = tt
if_map P Q f (Some x) h = f x h

-- ---- one place

none_allowed : (n : ℕ) (o : Option Json) (os : Tuple) → all_allowed n [] (o ∷ os) ≡ true → ⊥
none_allowed n o os h = false≢true h

-- an allowed value stands at one place
alone : (n : ℕ) (qs : List Place) (o : Option Json) → all_allowed n qs (o ∷ []) ≡ true → (q : Place) × (qs ≡ q ∷ []) × (allowed_at n q o ≡ true)
alone n [] o h = absurd (false≢true h)
alone n (q ∷ []) o h = (q, refl, and_left (allowed_at n q o) true h)
alone n (q ∷ r ∷ qs) o h = absurd (false≢true (and_right (allowed_at n q o) false h))

-- and at one place one value
lonely : (n : ℕ) (q : Place) (t : Tuple) → all_allowed n (q ∷ []) t ≡ true → (o : Option Json) × (t ≡ o ∷ [])
lonely n q [] h = absurd (false≢true h)
lonely n q (o ∷ []) h = (o, refl)
lonely n q (o ∷ p ∷ os) h = absurd (false≢true (and_right (allowed_at n q o) false h))

is_alone : (qs : List Place) → is_one qs ≡ true → (q : Place) × (qs ≡ q ∷ [])
is_alone [] h = absurd (false≢true h)
is_alone (q ∷ []) h = (q, refl)
is_alone (q ∷ r ∷ qs) h = absurd (false≢true h)

own_allowed : (n : ℕ) (qs : List Place) → DefaultsAllowed n qs → IfSome (default_of qs) (λ j. all_allowed n qs (one j) ≡ true)
own_allowed n [] h = tt
own_allowed n (q ∷ []) h =
    if_map (λ j. allowed_at n q (Some j) ≡ true) (λ j. all_allowed n (q ∷ []) (one j) ≡ true) (λ j g. and_one (allowed_at n q (Some j)) g) (own q.shape).default_value h.0
own_allowed n (q ∷ r ∷ qs) h = tt

-- ---- what is known of a cell of one of the levels

pub record CellFacts (n : ℕ) (h : Shape) (ms : List (Option Level)) (c : Cell) : Type 0 where
  pub fits : CellFits c
  pub depth : c.depth ≡ n
  pub stand : ArePlacesOf h c.hub
  pub defaults : (d : Side) → DefaultsAllowed c.depth (places d c)
  pub late : is_late ms c ≡ false

facts_at : (n : ℕ) (h : Shape) (ms : List (Option Level)) (k : Name) (cs : List Cell) → CellsFit cs → CellsStand hub n h cs → CellsAllow cs → NoneLate ms cs → (c : Cell) → cell_at k cs ≡ Some c → CellFacts n h ms c × (has_name k (names hub c) ≡ true)
facts_at n h ms k [] f s a l c e = absurd (cc)
facts_at n h ms k (x ∷ cs) f s a l c e = by_test (has_name k (names hub x)) refl e (facts_at n h ms k cs f.1 s.2 a.1 l.1 c)
  where
    here : CellFacts n h ms x
    here = record { fits = f.0; depth = s.0; stand = s.1; defaults = a.0; late = l.0 }

    by_test : (b : Bool) → has_name k (names hub x) ≡ b → cond b (Some x) (cell_at k cs) ≡ Some c → (cell_at k cs ≡ Some c → CellFacts n h ms c × (has_name k (names hub c) ≡ true)) → CellFacts n h ms c × (has_name k (names hub c) ≡ true)
    by_test true q g later =
        let one_cell : x ≡ c = cc in
        (subst (CellFacts n h ms) one_cell here, subst (λ (y : Cell). has_name k (names hub y) ≡ true) one_cell q)
    by_test false q g later = later g

pub level_facts : (n : ℕ) (h : Shape) (ms : List (Option Level)) (k : Name) (l : Level) → IsAmong n h ms l → (c : Cell) → cell_at k (cells_in l) ≡ Some c → CellFacts n h ms c × (has_name k (names hub c) ≡ true)
level_facts n h ms k (level cs is) a c e = facts_at n h ms k cs a.fits.0 a.stands.2 a.defaults.0 a.late.0 c e

-- ---- what a spoke has for a name by default

-- the hub allows it at each place of that name; and where the hub has no default there, all spokes pair the name plainly
abbrev pub Given : ℕ → List (Option Level) → Place → Json → Type 0
Given n ms q j = (allowed_at n q (Some j) ≡ true) × (is_none (own q.shape).default_value ≡ true → all_pair ms q.name ≡ true)

one_shape : (s t : Shape) → some_shape s ≡ some_shape t → s ≡ t
one_shape s t e = cc

-- two places of one name in one schema
same_place : (h : Shape) (p q : Place) → IsPlaceOf h p → IsPlaceOf h q → q.name ≡ p.name → p.shape ≡ q.shape
same_place h p q a b e =
    one_shape p.shape q.shape (sym a.shape ∙ ap (λ (k : Name). property k (properties h)) (sym e) ∙ b.shape)

has_its_default : (ps : List Place) (j : Json) → default_of ps ≡ Some j → have_default ps ≡ true
has_its_default [] j e = absurd (cc)
has_its_default (p ∷ []) j e = ap (λ (o : Option Json). is_some o || false) e
has_its_default (p ∷ q ∷ ps) j e = absurd (cc)

module _ (n : ℕ) (h : Shape) (ms : List (Option Level)) where
  -- of the cell that has the name
  from_cell : (q : Place) → IsPlaceOf h q → (c : Cell) → CellFacts n h ms c → has_name q.name (names hub c) ≡ true → IfSome (spoke_default c) (Given n ms q)
  from_cell q at c f has = by_default (default_of c.spoke) refl (own_allowed c.depth c.spoke (f.defaults spoke))
    where
      by_place : (i j : Json) → default_of c.spoke ≡ Some i → all_allowed c.depth c.hub (one j) ≡ true → Given n ms q j
      by_place i j e g =
          let r = alone c.depth c.hub (Some j) g in
          let here : IsPlaceOf h r.0 = (subst (ArePlacesOf h) r.1 f.stand).0 in
          let name : q.name ≡ r.0.name = by_name (has_cases q.name r.0.name [] (subst (λ (rs : List Place). has_name q.name (map (λ (x : Place). x.name) rs) ≡ true) r.1 has)) in
          let shape : r.0.shape ≡ q.shape = same_place h r.0 q here at name in
          let late : is_late_at ms c.spoke (r.0 ∷ []) ≡ false = subst (λ (rs : List Place). is_late_at ms c.spoke rs ≡ false) r.1 f.late in (
            subst (λ (s : Shape). allowed_at n (record q { shape = s }) (Some j) ≡ true) shape (subst (λ (m : ℕ). allowed_at m (record q { shape = r.0.shape }) (Some j) ≡ true) f.depth r.2),
            λ none. subst (λ (k : Name). all_pair ms k ≡ true) (sym name) (not_false (all_pair ms r.0.name) (fails_second (is_one_sided c.spoke (r.0 ∷ [])) (not (all_pair ms r.0.name)) late (both (have_default c.spoke) (is_none (own r.0.shape).default_value) (has_its_default c.spoke i e) (subst (λ (s : Shape). is_none (own s).default_value ≡ true) (sym shape) none)))),
          )
        where
          by_name : {k m : Name} → (k ≡ m) ⊎ (has_name k [] ≡ true) → k ≡ m
          by_name (inl q) = q
          by_name (inr g) = absurd (false≢true g)

          both : (a b : Bool) → a ≡ true → b ≡ true → (a && b) ≡ true
          both true b x y = y
          both false b x y = absurd (false≢true x)

      by_match : (i : Json) → default_of c.spoke ≡ Some i → all_allowed c.depth c.spoke (one i) ≡ true → (o : Option Tuple) → matched spoke c.kind (one i) ≡ o → IfSome (value_in o) (Given n ms q)
      by_match i e g None m = tt
      by_match i e g (Some []) m = tt
      by_match i e g (Some (None ∷ [])) m = tt
      by_match i e g (Some (Some j ∷ [])) m =
          by_place i j e (subst (λ (o : Option Tuple). MatchAllowed c spoke o (one i)) m (f.fits.answer spoke (one i) g))
      by_match i e g (Some (None ∷ p ∷ os)) m = tt
      by_match i e g (Some (Some j ∷ p ∷ os)) m = tt

      by_default : (o : Option Json) → default_of c.spoke ≡ o → IfSome o (λ i. all_allowed c.depth c.spoke (one i) ≡ true) → IfSome (match_of c.kind o) (Given n ms q)
      by_default None e g = tt
      by_default (Some i) e g = by_match i e g (matched spoke c.kind (one i)) refl

  from_one : (q : Place) → IsPlaceOf h q → (m : Option Level) → IfThere (IsAmong n h ms) m → IfSome (default_from m (q ∷ [])) (Given n ms q)
  from_one q at None a = tt
  from_one q at (Some l) a = by_cell (cell_at q.name (cells_in l)) refl
    where
      by_cell : (o : Option Cell) → cell_at q.name (cells_in l) ≡ o → IfSome (cell_default o) (Given n ms q)
      by_cell None e = tt
      by_cell (Some c) e = let f = level_facts n h ms q.name l a c e in from_cell q at c f.0 f.1

  pub from_first : (q : Place) → IsPlaceOf h q → (os : List (Option Level)) → EachLevel (IsAmong n h ms) os → IfSome (first_default os (q ∷ [])) (Given n ms q)
  from_first q at [] a = tt
  from_first q at (m ∷ os) a =
      some_else (Given n ms q) (default_from m (q ∷ [])) (first_default os (q ∷ [])) (from_one q at m a.0) (from_first q at os a.1)

-- ---- one cell of a level that is among those of the spokes

plain_can : (k : Kind) (ps qs : List Place) → is_plain k ≡ true → may_default k ps qs ≡ true
plain_can same ps qs h = refl
plain_can spoke_only ps qs h = absurd (false≢true h)
plain_can hub_only ps qs h = absurd (false≢true h)
plain_can split ps qs h = absurd (false≢true h)
plain_can (table xs x y) ps qs h = absurd (false≢true h)
plain_can (scale k) ps qs h = refl

can_one : (k : Kind) (ps qs : List Place) → may_default k ps qs ≡ true → has_one_name k ≡ true
can_one same ps qs h = refl
can_one spoke_only ps qs h = absurd (false≢true h)
can_one hub_only ps qs h = absurd (false≢true h)
can_one split ps qs h = absurd (false≢true h)
can_one (table xs x y) ps qs h = refl
can_one (scale k) ps qs h = refl

-- the one name of a side
pub one_place : (c : Cell) → CellFits c → can_default c ≡ true → (d : Side) → (p : Place) × (places d c ≡ p ∷ [])
one_place c f h spoke = is_alone c.spoke (and_left (is_one c.spoke) (is_one c.hub) (f.single (can_one c.kind c.spoke c.hub h)))
one_place c f h hub = is_alone c.hub (and_right (is_one c.spoke) (is_one c.hub) (f.single (can_one c.kind c.spoke c.hub h)))

plain_single : (k : Kind) → is_plain k ≡ true → has_one_name k ≡ true
plain_single same h = refl
plain_single spoke_only h = absurd (false≢true h)
plain_single hub_only h = absurd (false≢true h)
plain_single split h = absurd (false≢true h)
plain_single (table xs x y) h = absurd (false≢true h)
plain_single (scale k) h = refl

-- the one name of the hub's in a cell that is equal or scaled
pub plain_one : (c : Cell) → CellFits c → is_plain c.kind ≡ true → (q : Place) × (c.hub ≡ q ∷ [])
plain_one c f h = is_alone c.hub (and_right (is_one c.spoke) (is_one c.hub) (f.single (plain_single c.kind h)))

some_of : {A : Type 0} (o : Option A) → is_some o ≡ true → (x : A) × (o ≡ Some x)
some_of None h = absurd (false≢true h)
some_of (Some x) h = (x, refl)

is_some_value : {A : Type 0} (o : Option A) (x : A) → o ≡ Some x → is_some o ≡ true
is_some_value o x e = ap is_some e

-- where the one name has a default
default_there : (p : Place) → have_default (p ∷ []) ≡ true → is_some (default_of (p ∷ [])) ≡ true
default_there p h = or_none (is_some (own p.shape).default_value) h

there_value : (o : Option Json) → some_there (o ∷ []) ≡ true → is_some o ≡ true
there_value None h = absurd (false≢true h)
there_value (Some j) h = refl

has_own : (k : Name) → has_name k (k ∷ []) ≡ true
has_own k = ap (λ (b : Bool). b || false) (same_name k)

first_some : (m : Option Level) (os : List (Option Level)) (qs : List Place) → HasLevel m os → is_some (default_from m qs) ≡ true → is_some (first_default os qs) ≡ true
first_some m [] qs i h = absurd i
first_some m (o ∷ os) qs (inl q) h =
    else_left (default_from o qs) (first_default os qs) (subst (λ (x : Option Level). is_some (default_from x qs) ≡ true) q h)
first_some m (o ∷ os) qs (inr i) h = else_right (default_from o qs) (first_default os qs) (first_some m os qs i h)

pub pair_at : (k : Name) (m : Option Level) (os : List (Option Level)) → HasLevel m os → all_pair os k ≡ true → pairs_plainly (cell_in k m) ≡ true
pair_at k m [] i h = absurd i
pair_at k m (o ∷ os) (inl q) h =
    subst (λ (x : Option Level). pairs_plainly (cell_in k x) ≡ true) (sym q) (and_left (pairs_plainly (cell_in k o)) (all_pair os k) h)
pair_at k m (o ∷ os) (inr i) h = pair_at k m os i (and_right (pairs_plainly (cell_in k o)) (all_pair os k) h)

module _ (n : ℕ) (h : Shape) (ms : List (Option Level)) (l : Level) (mine : HasLevel (Some l) ms) (all : AreAmong n h ms) (c : Cell) (f : CellFacts n h ms c) (found : (k : Name) → has_name k (names hub c) ≡ true → cell_in k (Some l) ≡ Some c) where
  -- the spoke's default of the cell is a value of the hub's, where the hub has none of its own
  spoke_value : (p : Place) → c.spoke ≡ p ∷ [] → (q : Place) → c.hub ≡ q ∷ [] → can_default c ≡ true → have_default c.spoke ≡ true → have_default c.hub ≡ false → is_some (spoke_default c) ≡ true
  spoke_value p ep q eq can has none =
      let d = some_of (default_of c.spoke) (subst (λ (ps : List Place). is_some (default_of ps) ≡ true) (sym ep) (default_there p (subst (λ (ps : List Place). have_default ps ≡ true) ep has))) in
      let allowed : allows spoke c (one d.0) ≡ true = subst (λ (o : Option Json). IfSome o (λ j. all_allowed c.depth c.spoke (one j) ≡ true)) d.1 (own_allowed c.depth c.spoke (f.defaults spoke)) in
      subst (λ (o : Option Json). is_some (match_of c.kind o) ≡ true) (sym d.1) (by_match d.0 allowed (matched spoke c.kind (one d.0)) refl (f.fits.matches (one d.0) has allowed))
    where
      by_match : (j : Json) → allows spoke c (one j) ≡ true → (o : Option Tuple) → matched spoke c.kind (one j) ≡ o → (is_some o || have_default c.hub) ≡ true → is_some (value_in o) ≡ true
      by_match j a None e g = absurd (false≢true (sym none ∙ g))
      by_match j a (Some t) e g =
          let over : all_allowed c.depth c.hub t ≡ true = subst (λ (o : Option Tuple). MatchAllowed c spoke o (one j)) e (f.fits.answer spoke (one j) a) in
          let at : some_there t ≡ true = subst (λ (o : Option Tuple). MatchThere c spoke o (one j)) e (f.fits.there spoke (one j) can a refl) in
          let v = lonely c.depth q t (subst (λ (qs : List Place). all_allowed c.depth qs t ≡ true) eq over) in
          subst (λ (u : Tuple). is_some (one_value u) ≡ true) (sym v.1) (there_value v.0 (subst (λ (u : Tuple). some_there u ≡ true) v.1 at))

  hub_set : have_default c.hub ≡ true → is_some (fill_of ms c) ≡ true
  hub_set has =
      let can = f.fits.defaults hub has in
      let q = one_place c f.fits can hub in
      else_left (hub_default c) (first_default ms c.hub) (subst (λ (qs : List Place). is_some (default_of qs) ≡ true) (sym q.1) (default_there q.0 (subst (λ (qs : List Place). have_default qs ≡ true) q.1 has)))

  spoke_set : have_default c.spoke ≡ true → is_some (fill_of ms c) ≡ true
  spoke_set has = by_hub (have_default c.hub) refl
    where
      can : can_default c ≡ true
      can = f.fits.defaults spoke has

      by_hub : (b : Bool) → have_default c.hub ≡ b → is_some (fill_of ms c) ≡ true
      by_hub true e = hub_set e
      by_hub false e =
          let p = one_place c f.fits can spoke in
          let q = one_place c f.fits can hub in
          let value = spoke_value p.0 p.1 q.0 q.1 can has e in
          let cell : cell_in q.0.name (Some l) ≡ Some c = found q.0.name (subst (λ (qs : List Place). has_name q.0.name (map (λ (x : Place). x.name) qs) ≡ true) (sym q.1) (has_own q.0.name)) in
          let mine_has : is_some (default_from (Some l) (q.0 ∷ [])) ≡ true = subst (λ (o : Option Cell). is_some (cell_default o) ≡ true) (sym cell) value in
          else_right (hub_default c) (first_default ms c.hub) (subst (λ (qs : List Place). is_some (first_default ms qs) ≡ true) (sym q.1) (first_some (Some l) ms (q.0 ∷ []) mine mine_has))

  set_on : (d : Side) → have_default (places d c) ≡ true → is_some (fill_of ms c) ≡ true
  set_on spoke has = spoke_set has
  set_on hub has = hub_set has

  -- what a fill is, by the places of the hub
  abbrev Good : List Place → Json → Type 0
  Good qs j = (all_allowed c.depth qs (one j) ≡ true) × (can_default c ≡ true)

  by_places : (qs : List Place) → c.hub ≡ qs → IfSome (or_else (default_of qs) (first_default ms qs)) (Good qs)
  by_places [] e = none_first ms
    where
      none_first : (os : List (Option Level)) → IfSome (first_default os []) (Good [])
      none_first [] = tt
      none_first (o ∷ os) = none_first os
  by_places (q ∷ r ∷ qs) e = none_first ms
    where
      none_first : (os : List (Option Level)) → IfSome (first_default os (q ∷ r ∷ qs)) (Good (q ∷ r ∷ qs))
      none_first [] = tt
      none_first (o ∷ os) = none_first os
  by_places (q ∷ []) e = by_default (own q.shape).default_value refl
    where
      at : IsPlaceOf h q
      at = (subst (ArePlacesOf h) e f.stand).0

      by_hub : IfSome (default_of (q ∷ [])) (λ j. all_allowed c.depth (q ∷ []) (one j) ≡ true)
      by_hub = own_allowed c.depth (q ∷ []) (subst (DefaultsAllowed c.depth) e (f.defaults hub))

      has_default : (o : Option Json) → default_of (q ∷ []) ≡ o → is_some o ≡ true → can_default c ≡ true
      has_default o g i =
          f.fits.defaults hub (subst (λ (qs : List Place). have_default qs ≡ true) (sym e) (ap (λ (x : Bool). x || false) (ap is_some g ∙ i)))

      cell : cell_in q.name (Some l) ≡ Some c
      cell = found q.name (subst (λ (qs : List Place). has_name q.name (map (λ (x : Place). x.name) qs) ≡ true) (sym e) (has_own q.name))

      paired : all_pair ms q.name ≡ true → can_default c ≡ true
      paired g =
          plain_can c.kind c.spoke c.hub (subst (λ (o : Option Cell). pairs_plainly o ≡ true) cell (pair_at q.name (Some l) ms mine g))

      by_default : (o : Option Json) → default_of (q ∷ []) ≡ o → IfSome (or_else o (first_default ms (q ∷ []))) (Good (q ∷ []))
      by_default None g =
          if_map (Given n ms q) (Good (q ∷ [])) (λ j r. (and_one (allowed_at c.depth q (Some j)) (subst (λ (m : ℕ). allowed_at m q (Some j) ≡ true) (sym f.depth) r.0), paired (r.1 (ap is_none g)))) (first_default ms (q ∷ [])) (from_first n h ms q at ms all)
      by_default (Some j) g =
          (subst (λ (o : Option Json). IfSome o (λ i. all_allowed c.depth (q ∷ []) (one i) ≡ true)) g by_hub, has_default (Some j) g refl)

  fill_good : IfSome (fill_of ms c) (Good c.hub)
  fill_good = by_places c.hub refl

  pub cell_right : IsRight c (fill_of ms c)
  cell_right = record {
    allowed = if_map (Good c.hub) (λ j. allows hub c (one j) ≡ true) (λ j g. g.0) (fill_of ms c) fill_good;
    can = λ i. by_value (fill_of ms c) fill_good i;
    set = set_on;
  }
    where
      by_value : (o : Option Json) → IfSome o (Good c.hub) → is_some o ≡ true → can_default c ≡ true
      by_value None g i = absurd (false≢true i)
      by_value (Some j) g i = g.1

-- ---- the levels inside

module _ (n : ℕ) (h : Shape) (ms : List (Option Level)) (b : Name) (t : Shape) (at : property b (properties h) ≡ some_shape t) where
  inner_among : (k : Inners) → InnersStand hub n h k → InnersFit k → NoneTwice hub k → AllowWithin k → NoLateWithin ms k → (l : Level) → level_at b k ≡ Some l → IsAmong (suc n) t (map (level_in b) ms) l
  inner_among no_inner s f o a g l e = absurd (cc)
  inner_among (inner x y r m is) s f o a g l e = by_test (bytes_eq b y) refl e (inner_among is s.1 f.1 o.1 a.1 g.1 l)
    where
      by_test : (w : Bool) → bytes_eq b y ≡ w → cond w (Some m) (level_at b is) ≡ Some l → (level_at b is ≡ Some l → IsAmong (suc n) t (map (level_in b) ms) l) → IsAmong (suc n) t (map (level_in b) ms) l
      by_test true q p later =
          let one_level : m ≡ l = cc in
          let name : b ≡ y = one_name b y q in
          let shape : s.0.0 ≡ t = one_shape s.0.0 t (sym s.0.1 ∙ ap (λ (k : Name). property k (properties h)) (sym name) ∙ at) in
          subst (IsAmong (suc n) t (map (level_in b) ms)) one_level (record {
            stands = subst (λ (u : Shape). Stands hub (suc n) u m) shape s.0.4;
            fits = f.0;
            once = o.0;
            defaults = a.0;
            late = subst (λ (k : Name). NoLate (map (level_in k) ms) m) (sym name) g.0;
          })
      by_test false q p later = later p

  inner_of : (l : Level) → IsAmong n h ms l → IfThere (IsAmong (suc n) t (map (level_in b) ms)) (level_at b (inners_in l))
  inner_of (level cs is) a = by_level (level_at b is) refl
    where
      by_level : (o : Option Level) → level_at b is ≡ o → IfThere (IsAmong (suc n) t (map (level_in b) ms)) o
      by_level None e = tt
      by_level (Some l) e = inner_among is a.stands.3 a.fits.1 a.once.1 a.defaults.1 a.late.1 l e

  one_inner : (m : Option Level) → IfThere (IsAmong n h ms) m → IfThere (IsAmong (suc n) t (map (level_in b) ms)) (level_in b m)
  one_inner None a = tt
  one_inner (Some l) a = inner_of l a

  each_inner : (os : List (Option Level)) → EachLevel (IsAmong n h ms) os → EachLevel (IsAmong (suc n) t (map (level_in b) ms)) (map (level_in b) os)
  each_inner [] a = tt
  each_inner (m ∷ os) a = (one_inner m a.0, each_inner os a.1)

  pub all_inner : AreAmong n h ms → AreAmong (suc n) t (map (level_in b) ms)
  all_inner a = each_inner ms a

pub level_there : (b : Name) (m : Option Level) (os : List (Option Level)) → HasLevel m os → HasLevel (level_in b m) (map (level_in b) os)
level_there b m [] i = absurd i
level_there b m (o ∷ os) (inl q) = inl (ap (level_in b) q)
level_there b m (o ∷ os) (inr i) = inr (level_there b m os i)

pub among_at : (P : Level → Type 0) (l : Level) (os : List (Option Level)) → EachLevel P os → HasLevel (Some l) os → P l
among_at P l [] a i = absurd i
among_at P l (m ∷ os) a (inl q) = subst (IfThere P) (sym q) a.0
among_at P l (m ∷ os) a (inr i) = among_at P l os a.1 i

-- ---- all of a level

module _ (n : ℕ) (h : Shape) (ms : List (Option Level)) (cs : List Cell) (is : Inners) (mine : HasLevel (Some (level cs is)) ms) (all : AreAmong n h ms) where
  me : IsAmong n h ms (level cs is)
  me = among_at (IsAmong n h ms) (level cs is) ms all mine

  cells_right : (ds : List Cell) → ((c : Cell) → HasCell c ds → HasCell c cs) → CellsFit ds → CellsStand hub n h ds → CellsAllow ds → NoneLate ms ds → AreRight ds (map (fill_of ms) ds)
  cells_right [] i f s a g = tt
  cells_right (c ∷ ds) i f s a g = (
    cell_right n h ms (level cs is) mine all c (record { fits = f.0; depth = s.0; stand = s.1; defaults = a.0; late = g.0 }) (λ k e. cell_found k c cs (inner_names hub is) me.once.0 (i c (inl refl)) e),
    cells_right ds (λ d q. i d (inr q)) f.1 s.2 a.1 g.1,
  )

  pub level_cells : AreRight cs (map (fill_of ms) cs)
  level_cells = cells_right cs (λ c q. q) me.fits.0 me.stands.2 me.defaults.0 me.late.0

mutual
  pub level_right : (n : ℕ) (h : Shape) (ms : List (Option Level)) (l : Level) → HasLevel (Some l) ms → AreAmong n h ms → RightFills l (fills_of ms l)
  level_right n h ms (level cs is) mine all =
      let me = among_at (IsAmong n h ms) (level cs is) ms all mine in
      (level_cells n h ms cs is mine all, within_right n h ms cs is is mine all (distinct_inner cs (inner_names hub is) me.once.0) (λ k l q. q) me.stands.3)

  within_right : (n : ℕ) (h : Shape) (ms : List (Option Level)) (cs : List Cell) (is js : Inners) → HasLevel (Some (level cs is)) ms → AreAmong n h ms → AreDistinct (inner_names hub is) → ((k : Name) (l : Level) → HasInner k l js → HasInner k l is) → InnersStand hub n h js → RightWithin js (fills_within ms js)
  within_right n h ms cs is no_inner mine all d i s = tt
  within_right n h ms cs is (inner a b r l js) mine all d i s =
      let found : level_at b is ≡ Some l = level_found b l is d (i b l (inl (refl, refl))) in
      let there : HasLevel (Some l) (map (level_in b) ms) = subst (λ (o : Option Level). HasLevel o (map (level_in b) ms)) found (level_there b (Some (level cs is)) ms mine) in
      (level_right (suc n) s.0.0 (map (level_in b) ms) l there (all_inner n h ms b s.0.0 s.0.1 all), within_right n h ms cs is js mine all d (λ k m q. i k m (inr q)) s.1)
