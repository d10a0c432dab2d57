-- Which documents spell a set of rules, with no walk and no order in it: each set has one document, and the sets that have
-- one are those whose spokes aren't the hub, with few rules that aren't nested too deep.
use Rattle.std.specs.Prelude.{◌≡◌, ◌≤◌, ℕ, pos, List, [], ◌∷◌}
use Rattle.kj_value.specs.Json.{Json, null, boolean, whole, text, list, object, Items, no_items, item, Members, no_members, member}
use Rattle.hub_cells.specs.Level.{Name}
use Rattle.hub_rules.specs.Rule.{Rule, same, within, spoke_only, hub_only, split, table, scale, Rules, no_rules, rule, rules_of, inner_depth}
use Rattle.rule_reading.specs.Words.{word}
use Rattle.rule_reading.specs.RuleRead.{rules_size}
use Rattle.rule_reading.specs.SetRead.{Spoke}
use Rattle.rule_reading.specs.declared.words.Word.{Word}
use Rattle.rule_reading.specs.declared.words.Word.TheVariants as w

-- ---- documents; the names of an object rise by bytes

abbrev pub two : Json → Json → Json
two a b = list (item a (item b no_items))

abbrev pub two_texts : Name → Name → Json
two_texts a b = two (text a) (text b)

abbrev pub pair_items : List (Json × Json) → Items
pair_items [] = no_items
pair_items (p ∷ ps) = item (two p.0 p.1) (pair_items ps)

-- an object with one name, and with two
abbrev pub one_field : Word → Json → Json
one_field k j = object (member (word k) j no_members)

abbrev pub two_fields : Word → Json → Word → Json → Json
two_fields k i l j = object (member (word k) i (member (word l) j no_members))

abbrev pub table_fields : Name → Name → List (Json × Json) → Json → Json → Members
table_fields a b ps x y =
    member (word w.HubBlank) y (member (word w.Names) (two_texts a b) (member (word w.Pairs) (list (pair_items ps)) (member (word w.SpokeBlank) x no_members)))

abbrev mutual
  pub rule_document : Rule → Json
  rule_document (same a b) = one_field w.Same (two_texts a b)
  rule_document (within a b rs) = one_field w.Object (two_fields w.Names (two_texts a b) w.Rules (list (rule_items rs)))
  rule_document (spoke_only a) = one_field w.SpokeOnly (text a)
  rule_document (hub_only b) = one_field w.HubOnly (text b)
  rule_document (split a b c) = one_field w.Split (two_fields w.Hub (two_texts b c) w.Spoke (text a))
  rule_document (table a b ps x y) = one_field w.Table (object (table_fields a b ps x y))
  rule_document (scale a b k) = one_field w.Scale (two_fields w.By (whole (pos k)) w.Names (two_texts a b))

  pub rule_items : Rules → Items
  rule_items no_rules = no_items
  rule_items (rule r rs) = item (rule_document r) (rule_items rs)

abbrev pub spoke_members : List Spoke → Members
spoke_members [] = no_members
spoke_members (s ∷ ss) = member s.0 (list (rule_items (rules_of s.1))) (spoke_members ss)

-- the document of a hub and its spokes
abbrev pub set_document : Name × List Spoke → Json
set_document s = two_fields w.Hub (text s.0) w.Spokes (object (spoke_members s.1))

-- ---- the rules that have a document

-- null, a truth value, a whole number of any size or a text
abbrev pub IsPlainScalar : Json → Type 0
IsPlainScalar null = Unit {0}
IsPlainScalar (boolean b) = Unit {0}
IsPlainScalar (whole z) = Unit {0}
IsPlainScalar (text s) = Unit {0}
IsPlainScalar (list js) = ⊥
IsPlainScalar (object ms) = ⊥

abbrev pub ArePlainScalars : List (Json × Json) → Type 0
ArePlainScalars [] = Unit {0}
ArePlainScalars (p ∷ ps) = IsPlainScalar p.0 × IsPlainScalar p.1 × ArePlainScalars ps

-- a table lists scalars, and a factor is from 2 to 1,000,000,000
abbrev mutual
  pub IsRegular : Rule → Type 0
  IsRegular (same a b) = Unit {0}
  IsRegular (within a b rs) = AreRegular rs
  IsRegular (spoke_only a) = Unit {0}
  IsRegular (hub_only b) = Unit {0}
  IsRegular (split a b c) = Unit {0}
  IsRegular (table a b ps x y) = ArePlainScalars ps × IsPlainScalar x × IsPlainScalar y
  IsRegular (scale a b k) = (2 ≤ k) × (k ≤ 1000000000)

  pub AreRegular : Rules → Type 0
  AreRegular no_rules = Unit {0}
  AreRegular (rule r rs) = IsRegular r × AreRegular rs

-- at most 64 rules, those inside others among them, and no `object` rule inside eight others
pub record AreRules (rs : Rules) : Type 0 where
  pub regular : AreRegular rs
  pub few : rules_size rs ≤ 64
  pub shallow : inner_depth rs ≤ 8

-- each spoke is another version than the hub
abbrev pub AreSpokes : Name → List Spoke → Type 0
AreSpokes h [] = Unit {0}
AreSpokes h (s ∷ ss) = (s.0 ≡ h → ⊥) × AreRules (rules_of s.1) × AreSpokes h ss

-- the document spells the set
pub record Spells (j : Json) (s : Name × List Spoke) : Type 0 where
  pub document : j ≡ set_document s
  pub spokes : AreSpokes s.0 s.1
