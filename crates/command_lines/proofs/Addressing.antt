-- The word of a command that takes an address.
use Rattle.std.proofs.Common.{◌≡◌, ◌∙◌, false, [], ◌∷◌, refl, ap, codes}
use Rattle.clap.specs.Walk.{Held, Text, Walk, finished, nothing_held, rows_after, settled, walk_from, walked}
use Rattle.clap.specs.Kinds.{Kinds, or_else}
use Rattle.clap.specs.Faults.{check_fault, defaults_fault, level_fault, settle_fault, walk_fault}
use Rattle.command_lines.specs.Lines.{IsValue}
use Rattle.command_lines.proofs.Rows.{both_none, row, use_passes}
use Rattle.command_lines.proofs.Walking.{pend, some_value}
use Rattle.command_lines.proofs.Commands.{address_leaf, places}
use Rattle.command_lines.proofs.Plain.{plain_turn, plain_walk, stands}

abbrev url : Text
url = codes "url"

abbrev one_held : Text → Held
one_held a = pend [] url (a ∷ [])

module _ (name : Text) where
  first_walk : (a : Text) → IsValue a → walked places [] (walk_from nothing_held) a ≡ stands (one_held a) 2
  first_walk a plain = plain_walk name places nothing_held 1 a plain

  abbrev ends : Held → Kinds
  ends h = or_else (settle_fault places false h) (or_else (defaults_fault (settled places h).rows places) (check_fault (address_leaf name) (finished places h) false))

  ends_well : (a : Text) → IsValue a → ends (one_held a) ≡ []
  unfolding defaults_fault
  ends_well a x = both_none _ _ (use_passes url a [] refl (some_value a x)) refl

  pub address_passes : (a : Text) → IsValue a
      → (level_fault (address_leaf name) [] nothing_held (a ∷ []) false [] ≡ []) × (rows_after places [] (a ∷ []) ≡ row url a ∷ [])
  unfolding walk_fault
  address_passes a x = (
    both_none _ _
        (both_none _ _ (plain_turn name places nothing_held 1 a x refl) refl)
        (ap (λ (k : Walk). ends k.held) (first_walk a x) ∙ ends_well a x),
    ap (λ (k : Walk). finished places k.held) (first_walk a x),
  )
