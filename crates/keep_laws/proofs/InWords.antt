-- Settling changes no field; and an object with a known, allowed body and rising entries that are all alive is whole.
use Rattle.std.proofs.Common.{◌≡◌, List, [], ◌∷◌, ◌++◌, Option, Some, None, refl, ap, ap₂, subst, ◌∙◌}
use Rattle.kj_value.specs.Json.{Json}
use Rattle.kj_value.specs.Fields.{Pairs}
use Rattle.hub_cells.specs.Side.{Side, other}
use Rattle.hub_cells.specs.Cell.{Tuple}
use Rattle.kept_entries.specs.declared.entry.Entry.{Entry}
use Rattle.keep_laws.specs.Entry.{put}
use Rattle.hub_cells.specs.Level.{Cell, Level, level, Inners, no_inner, inner, cells_names, inner_names, NoNameTwice}
use Rattle.keep_laws.specs.Marked.{Marks, Marked, MarkedInners, there}
use Rattle.keep_laws.specs.Body.{as_field, cells_values, body, inner_values}
use Rattle.keep_laws.specs.Whole.{Held, Ready, marks_of, IsWholeOnSide}
use Rattle.keep_laws.specs.Settle.{living_marks, settled_marks, settled_inners, IsAllowed, settled}
use Rattle.keep_laws.specs.Known.{IsKnown}
use Rattle.keep_laws.proofs.Bodies.{body_read, there_there}
use Rattle.keep_laws.proofs.Canonical.{EntriesRise, alive_canonical}
use Rattle.keep_laws.proofs.Dead.{settled_whole}
use Rattle.keep_laws.proofs.Back.{no_name_twice}
use Rattle.keep_laws.specs.Words.{AllAlive, Parts}

values_same : (d : Side) (cs : List Cell) (ms : Marks cs) (os : Tuple) → cells_values cs (living_marks d cs ms) os ≡ cells_values cs ms os
values_same d [] ms os = refl
values_same d (c ∷ cs) ms os = ap (λ (t : Tuple). ms.0.0 ++ t) (values_same d cs ms.1 os)

there_ext : {A B : Type 0} (f g : A → B) → ((x : A) → f x ≡ g x) → (o : Option A) → there f o ≡ there g o
there_ext f g h None = refl
there_ext f g h (Some x) = ap Some (h x)

mutual
  pub body_settled : (d : Side) (l : Level) (m : Marked l) → body d l (settled_marks d l m) ≡ body d l m
  body_settled d (level cs is) m =
      ap (λ (os : Tuple). put (cells_names d cs (inner_names d is)) os []) (values_same d cs m.0 (inner_values d is (settled_inners d is m.1)) ∙ ap (cells_values cs m.0) (inners_same d is m.1))

  pub inners_same : (d : Side) (is : Inners) (ms : MarkedInners is) → inner_values d is (settled_inners d is ms) ≡ inner_values d is ms
  inners_same d no_inner ms = refl
  inners_same d (inner a b rq l is) ms =
      ap₂ (λ (o : Option Json) (os : Tuple). o ∷ os) (ap as_field (there_there (body d l) (settled_marks d l) ms.0 ∙ there_ext (λ m. body d l (settled_marks d l m)) (body d l) (λ m. body_settled d l m) ms.0)) (inners_same d is ms.1)

pub settled_fields : (d : Side) (l : Level) (x : Held) → NoNameTwice d l → IsKnown d l x.fields → (settled d l x).fields ≡ x.fields
settled_fields d l x a k = body_settled d l (marks_of d l x) ∙ body_read d l x.fields x.entries a k

pub alive_whole : (d : Side) (l : Level) (x : Held) → Ready l → IsKnown d l x.fields → IsAllowed d l (marks_of d l x) → Parts x.entries → EntriesRise x.entries → AllAlive d l x.fields x.entries → IsWholeOnSide d l x
alive_whole d l x r k v p e h =
    let same : settled d l x ≡ x = ap₂ (λ (fs : Pairs) (es : List Entry). record { fields = fs; entries = es }) (settled_fields d l x (no_name_twice d l r) k) (alive_canonical d l x.fields x.entries r.fits (no_name_twice (other d) l r) v p e h) in
    subst (IsWholeOnSide d l) same (settled_whole d l x r v)
