-- The words of a drill.
use Rattle.std.proofs.Common.{◌≡◌, ◌∙◌, false, [], ◌∷◌, refl, ap, codes}
use Rattle.clap.specs.Walk.{Held, Text, Walk, finished, nothing_held, rows_after, settled, walk, walk_from, walked}
use Rattle.clap.specs.Kinds.{Kinds, or_else}
use Rattle.clap.specs.Faults.{check_fault, defaults_fault, level_fault, settle_fault, walk_fault}
use Rattle.command_lines.specs.Lines.{IsValue}
use Rattle.command_lines.proofs.Rows.{both_none, row, use_passes}
use Rattle.command_lines.proofs.Walking.{pend, some_value}
use Rattle.command_lines.proofs.Commands.{drill_leaf, numbers}
use Rattle.command_lines.proofs.Plain.{plain_turn, plain_walk, stands}

abbrev start : Text
start = codes "start"

abbrev count : Text
count = codes "count"

abbrev one_held : Text → Held
one_held a = pend [] start (a ∷ [])

abbrev two_held : Text → Text → Held
two_held a b = pend (row start a ∷ []) count (b ∷ [])

first_walk : (a : Text) → IsValue a → walked numbers [] (walk_from nothing_held) a ≡ stands (one_held a) 2
first_walk a plain = plain_walk (codes "drill") numbers nothing_held 1 a plain

second_walk : (a b : Text) → IsValue b → walked numbers [] (stands (one_held a) 2) b ≡ stands (two_held a b) 3
second_walk a b plain = plain_walk (codes "drill") numbers (one_held a) 2 b plain

both_walk : (a b : Text) → IsValue a → IsValue b → walk numbers [] nothing_held (a ∷ b ∷ []) ≡ stands (two_held a b) 3
both_walk a b x y = ap (λ k. walked numbers [] k b) (first_walk a x) ∙ second_walk a b y

abbrev ends : Held → Kinds
ends h = or_else (settle_fault numbers false h) (or_else (defaults_fault (settled numbers h).rows numbers) (check_fault drill_leaf (finished numbers h) false))

ends_well : (a b : Text) → IsValue a → IsValue b → ends (two_held a b) ≡ []
unfolding defaults_fault
ends_well a b x y = both_none _ _ (use_passes count b (row start a ∷ []) refl (some_value b y)) refl

pub drill_passes : (a b : Text) → IsValue a → IsValue b
    → (level_fault drill_leaf [] nothing_held (a ∷ b ∷ []) false [] ≡ []) × (rows_after numbers [] (a ∷ b ∷ []) ≡ row start a ∷ row count b ∷ [])
unfolding walk_fault
drill_passes a b x y = (
  both_none _ _
      (both_none _ _ (plain_turn (codes "drill") numbers nothing_held 1 a x refl)
      (ap (λ k. walk_fault drill_leaf [] k (b ∷ [])) (first_walk a x)
      ∙ both_none _ _ (plain_turn (codes "drill") numbers (one_held a) 2 b y (use_passes start a [] refl (some_value a x))) refl))
      (ap (λ (k : Walk). ends k.held) (both_walk a b x y) ∙ ends_well a b x y),
  ap (λ (k : Walk). finished numbers k.held) (both_walk a b x y),
)
