-- What an object of the hub keeps of a spoke, judged at its body, is whole.
use Rattle.std.proofs.Common.{◌≡◌, ℕ, List, [], Option, Some, None, refl, ap, sym, subst}
use Rattle.std.specs.Prelude.{slice_get}
use Rattle.kj_value.specs.Json.{members_of}
use Rattle.kj_value.specs.Sound.{AreRising}
use Rattle.kj_value.specs.Fields.{Pairs}
use Rattle.kept_entries.specs.declared.entry.Entry.{Entry}
use Rattle.hub_cells.specs.Side.{Side, hub}
use Rattle.hub_cells.specs.Level.{Name}
use Rattle.keep_laws.specs.Whole.{Held, IsWholeOnSide, marks_of}
use Rattle.keep_laws.specs.Settle.{IsAllowed, settled}
use Rattle.keep_laws.proofs.Back.{no_name_twice}
use Rattle.keep_laws.proofs.Dead.{settled_whole, whole_settled}
use Rattle.keep_laws.proofs.InWords.{settled_fields, alive_whole}
use Rattle.keep_laws.specs.FittedBody.{IsBodyOf}
use Rattle.keep_laws.specs.Spokes.{Spoke, Spokes, IsDefinition}
use Rattle.keep_laws.specs.Keys.{of_spoke}
use Rattle.keep_laws.specs.Notes.{Spells, IsNoteOf, with_entries}
use Rattle.keep_laws.specs.WholeHub.{WholeNote}
use Rattle.keep_laws.specs.Judging.{IsJudged, living_entries}
use Rattle.keep_laws.specs.Given.{Laws}
use Rattle.keep_laws.proofs.SpokeLevels.{ready_of}
use Rattle.keep_laws.proofs.Notes.{no_note}
use Rattle.keep_laws.proofs.SpokesFitted.{fits}

module _ (laws : Laws) (all : Spokes) (v : ℕ) (s : Spoke) (def : IsDefinition all) (place : slice_get all.items v ≡ Some s) where
  pub allowed : (d : Side) (body : Pairs) (es : List Entry) → AreRising (members_of body) → IsBodyOf d s.fit body → IsAllowed d s.fit.level (marks_of d s.fit.level (with_entries body es))
  allowed d body es h b = laws.allowed d s.fit (with_entries body es) (fits all v s def place) h b

  -- settling leaves the body
  pub settled_is : (d : Side) (body : Pairs) (es : List Entry) → AreRising (members_of body) → IsBodyOf d s.fit body → settled d s.fit.level (with_entries body es) ≡ with_entries body (living_entries d s body es)
  settled_is d body es h b =
      let f = fits all v s def place in
      ap (λ (fs : Pairs). record { fields = fs; entries = living_entries d s body es }) (settled_fields d s.fit.level (with_entries body es) (no_name_twice d s.fit.level (ready_of s.fit f)) (laws.known d s.fit body f h b))

  pub living_whole : (d : Side) (body : Pairs) (es : List Entry) → AreRising (members_of body) → IsBodyOf d s.fit body → IsWholeOnSide d s.fit.level (with_entries body (living_entries d s body es))
  living_whole d body es h b =
      subst (IsWholeOnSide d s.fit.level) (settled_is d body es h b) (settled_whole d s.fit.level (with_entries body es) (ready_of s.fit (fits all v s def place)) (allowed d body es h b))

  nothing_whole : (body : Pairs) → AreRising (members_of body) → IsBodyOf hub s.fit body → IsWholeOnSide hub s.fit.level (with_entries body [])
  nothing_whole body h b =
      alive_whole hub s.fit.level (with_entries body []) (ready_of s.fit (fits all v s def place)) (laws.known hub s.fit body (fits all v s def place) h b) (allowed hub body [] h b) (λ e i. absurd i) tt (λ e i. absurd i)

  pub judged_whole : (body : Pairs) (o p : Option Name) → AreRising (members_of body) → IsBodyOf hub s.fit body → IsJudged s body o p → WholeNote body (of_spoke s) p
  judged_whole body None p h b j = ([], subst (IsNoteOf []) (sym j) no_note, nothing_whole body h b)
  judged_whole body (Some t) p h b j = (living_entries hub s body j.0, j.2, living_whole hub body j.0 h b)

-- what is whole is judged to stay
pub living_same : (d : Side) (s : Spoke) (body : Pairs) (es : List Entry) → IsWholeOnSide d s.fit.level (with_entries body es) → living_entries d s body es ≡ es
living_same d s body es w = ap (λ (a : Held). a.entries) (whole_settled d s.fit.level (with_entries body es) w)

pub whole_judged : (s : Spoke) (body : Pairs) (o p : Option Name) → o ≡ p → WholeNote body (of_spoke s) p → IsJudged s body o o
whole_judged s body None p e w = refl
whole_judged s body (Some t) p e w =
    let spelled : Spells (Some t) w.0 = subst (λ (q : Option Name). Spells q w.0) (sym e) w.1.spelled in
    let is : IsNoteOf w.0 (Some t) = subst (IsNoteOf w.0) (sym e) w.1 in
    (w.0, spelled, subst (λ (es : List Entry). IsNoteOf es (Some t)) (sym (living_same hub s body w.0 w.2)) is)
