-- How the logic stores fills: as a tree of numbers, one for each.
use Rattle.std.specs.Prelude.{◌≡◌, List, Option, refl}
use Rattle.std.specs.Coded.{Coded, coded_list, coded_option}
use base.Stored.{Gv, gnil, gcons}
use Rattle.kj_value.specs.Json.{Json}
use Rattle.kj_value.specs.laws.JsonCode.{json_code}
use Rattle.hub_fills.specs.Fills.{Fills, fills, Within, nothing_within, within}

abbrev values_code : Coded (List (Option Json))
values_code = coded_list (coded_option json_code)

abbrev mutual
  pub fills_tree : Fills → Gv
  fills_tree (fills vs fs) = gcons (values_code.code vs) (within_tree fs)

  pub within_tree : Within → Gv
  within_tree nothing_within = gnil
  within_tree (within f fs) = gcons (fills_tree f) (within_tree fs)

left : (a b c d : Gv) → gcons a b ≡ gcons c d → a ≡ c
left a b c d e = cc

right : (a b c d : Gv) → gcons a b ≡ gcons c d → b ≡ d
right a b c d e = cc

mutual
  pub fills_inj : (f g : Fills) → fills_tree f ≡ fills_tree g → f ≡ g
  fills_inj (fills vs fs) (fills ws gs) e =
      let values : vs ≡ ws = values_code.inj vs ws (left (values_code.code vs) (within_tree fs) (values_code.code ws) (within_tree gs) e) in
      let inside : fs ≡ gs = within_inj fs gs (right (values_code.code vs) (within_tree fs) (values_code.code ws) (within_tree gs) e) in
      cc (values, inside)

  pub within_inj : (fs gs : Within) → within_tree fs ≡ within_tree gs → fs ≡ gs
  within_inj nothing_within nothing_within e = refl
  within_inj nothing_within (within g gs) e = absurd (cc)
  within_inj (within f fs) nothing_within e = absurd (cc)
  within_inj (within f fs) (within g gs) e =
      let first : f ≡ g = fills_inj f g (left (fills_tree f) (within_tree fs) (fills_tree g) (within_tree gs) e) in
      let rest : fs ≡ gs = within_inj fs gs (right (fills_tree f) (within_tree fs) (fills_tree g) (within_tree gs) e) in
      cc (first, rest)

abbrev pub fills_code : Coded Fills
fills_code = record { code = fills_tree; inj = fills_inj }
