-- What a definition says of each of its spokes.
use Rattle.std.proofs.Common.{◌≡◌, ℕ, zero, suc, List, [], ◌∷◌, ◌⊎◌, inl, inr, Option, Some, refl, ap, sym, subst, ◌∙◌}
use Rattle.std.specs.Prelude.{slice_get}
use Rattle.kj_value.specs.Fields.{Pairs}
use Rattle.struct_schema.specs.Shape.{Shape}
use Rattle.hub_cells.specs.Side.{hub}
use Rattle.hub_cells.specs.Level.{Level}
use Rattle.hub_cells.specs.Fit.{Stands, IsFitted}
use Rattle.hub_fills.specs.Right.{RightFills}
use Rattle.hub_fills.specs.Sound.{IsAmong, EachLevel, AreAmong, HasLevel}
use Rattle.hub_fills.specs.laws.RightLaws.{level_right}
use Rattle.keep_laws.specs.FittedBody.{IsBody, IsBodyOf, HasRoom}
use Rattle.keep_laws.specs.Spokes.{Spoke, Spokes, AreFittedTo, HaveOneHub, levels_of, HaveDefaults, IsDefinition, fills_at}
use Rattle.keep_laws.specs.Keys.{of_spoke, key_kind, spoke_key}
use Rattle.keep_laws.specs.WholeHub.{IsHubBody}
use Rattle.hub_cells.specs.Level.{Name}
use Rattle.keep_laws.proofs.Keys.{spoke_kind}

some_some : (x y : Spoke) → Some x ≡ Some y → x ≡ y
some_some x y e = cc

pub record FitsAt (s : Spoke) (hub : Shape) : Type 0 where
  pub to : s.fit.hub ≡ hub
  pub root : s.fit.depth ≡ 0
  pub room : HasRoom s.fit
  pub fitted : IsFitted s.fit

fits_at : (S : Shape) (ss : List Spoke) (v : ℕ) (s : Spoke) → AreFittedTo S ss → slice_get ss v ≡ Some s → FitsAt s S
fits_at S [] v s h e = absurd (cc)
fits_at S (t ∷ ss) zero s h e =
    subst (λ (u : Spoke). FitsAt u S) (some_some t s e) (record { to = h.0; root = h.1; room = h.2; fitted = h.3 })
fits_at S (t ∷ ss) (suc v) s h e = fits_at S ss v s h.4 e

abbrev one_schema : (ss : List Spoke) → Type 0
one_schema ss = (S : Shape) × AreFittedTo S ss

schema_of : (ss : List Spoke) (v : ℕ) (s : Spoke) → HaveOneHub ss → slice_get ss v ≡ Some s → one_schema ss
schema_of [] v s h e = absurd (cc)
schema_of (t ∷ ss) v s h e = (t.fit.hub, h)

pub fits : (all : Spokes) (v : ℕ) (s : Spoke) → IsDefinition all → slice_get all.items v ≡ Some s → IsFitted s.fit
fits all v s d e =
    let S = schema_of all.items v s d.one_hub e in
    (fits_at S.0 all.items v s S.1 e).fitted

pub room : (all : Spokes) (v : ℕ) (s : Spoke) → IsDefinition all → slice_get all.items v ≡ Some s → HasRoom s.fit
room all v s d e =
    let S = schema_of all.items v s d.one_hub e in
    (fits_at S.0 all.items v s S.1 e).room

body_each : (S : Shape) (ss : List Spoke) (x : Pairs) → AreFittedTo S ss → IsBody 0 S x → IsHubBody ss x
body_each S [] x h b = tt
body_each S (t ∷ ss) x h b =
    (subst (λ (n : ℕ). IsBody n t.fit.hub x) (sym h.1) (subst (λ (u : Shape). IsBody 0 u x) (sym h.0) b), body_each S ss x h.4 b)

-- a body of the hub by one spoke is one by each
pub hub_body_each : (all : Spokes) (v : ℕ) (s : Spoke) (x : Pairs) → IsDefinition all → slice_get all.items v ≡ Some s → IsBodyOf hub s.fit x → IsHubBody all.items x
hub_body_each all v s x d e b =
    let S = schema_of all.items v s d.one_hub e in
    let f = fits_at S.0 all.items v s S.1 e in
    body_each S.0 all.items x S.1 (subst (λ (n : ℕ). IsBody n S.0 x) f.root (subst (λ (u : Shape). IsBody s.fit.depth u x) f.to b))

pub hub_body_at : (ss : List Spoke) (v : ℕ) (s : Spoke) (x : Pairs) → IsHubBody ss x → slice_get ss v ≡ Some s → IsBodyOf hub s.fit x
hub_body_at [] v s x h e = absurd (cc)
hub_body_at (t ∷ ss) zero s x h e = subst (λ (u : Spoke). IsBodyOf hub u.fit x) (some_some t s e) h.0
hub_body_at (t ∷ ss) (suc v) s x h e = hub_body_at ss v s x h.1 e

-- spokes of one name are one
pub same_spoke : (all : Spokes) (v w : ℕ) (s t : Spoke) → IsDefinition all → slice_get all.items v ≡ Some s → slice_get all.items w ≡ Some t → t.name ≡ s.name → t ≡ s
same_spoke all v w s t d e f q =
    kinds t s (sym (spoke_kind all w t d f) ∙ ap (λ (n : Name). key_kind all (spoke_key n)) q ∙ spoke_kind all v s d e)
  where
    kinds : (x y : Spoke) → of_spoke x ≡ of_spoke y → x ≡ y
    kinds x y p = cc

-- ---- what the hub's names become

has_level : (ss : List Spoke) (v : ℕ) (s : Spoke) → slice_get ss v ≡ Some s → HasLevel (Some s.fit.level) (levels_of ss)
has_level [] v s e = absurd (cc)
has_level (t ∷ ss) zero s e = inl (ap (λ (u : Spoke). Some u.fit.level) (sym (some_some t s e)))
has_level (t ∷ ss) (suc v) s e = inr (has_level ss v s e)

level_among : (S : Shape) (ms : List (Option Level)) (ss : List Spoke) → AreFittedTo S ss → HaveDefaults ms ss → EachLevel (IsAmong 0 S ms) (levels_of ss)
level_among S ms [] f d = tt
level_among S ms (t ∷ ss) f d = (
  record {
    stands = subst (λ (n : ℕ). Stands hub n S t.fit.level) f.1 (subst (λ (u : Shape). Stands hub t.fit.depth u t.fit.level) f.0 (f.3.stands hub));
    fits = f.3.fits;
    once = f.3.no_name_twice hub;
    defaults = d.0;
    late = d.1;
  },
  level_among S ms ss f.4 d.2,
)

-- the levels of all spokes at the root, which stand for one schema of the hub
pub record AllAmong (all : Spokes) (s : Spoke) : Type 0 where
  pub schema : Shape
  pub to : s.fit.hub ≡ schema
  pub root : s.fit.depth ≡ 0
  pub each : AreAmong 0 schema (levels_of all.items)
  pub mine : HasLevel (Some s.fit.level) (levels_of all.items)

pub all_among : (all : Spokes) (v : ℕ) (s : Spoke) → IsDefinition all → slice_get all.items v ≡ Some s → AllAmong all s
all_among all v s d e =
    let S = schema_of all.items v s d.one_hub e in
    let f = fits_at S.0 all.items v s S.1 e in
    record {
      schema = S.0;
      to = f.to;
      root = f.root;
      each = level_among S.0 (levels_of all.items) all.items S.1 d.defaults;
      mine = has_level all.items v s e;
    }

pub right : (all : Spokes) (v : ℕ) (s : Spoke) → IsDefinition all → slice_get all.items v ≡ Some s → RightFills s.fit.level (fills_at all s)
right all v s d e =
    let a = all_among all v s d e in
    level_right 0 a.schema (levels_of all.items) s.fit.level a.mine a.each
