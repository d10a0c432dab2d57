-- What reading a line comes to.
use Rattle.std.proofs.Common.{◌≡◌, ◌≤◌, ℕ, List, [], ◌∷◌, ◌++◌, Option, Result, Ok, Err, length, ap, sym, ◌∙◌, append_assoc, subst, arith}
use Rattle.std.proofs.lemmas.List.{append-nil}
use Rattle.std.specs.Io.KnownBytes.{prepend_known}
use Rattle.record_dump.specs.Restores.{AreInLine, IsLine, most_bytes}
use Rattle.record_dump.specs.inner.Lined.{Lies, IsLong, IsRead}
use Rattle.record_dump.specs.declared.lines.Unread.{Unread}
use Rattle.record_dump.specs.declared.lines.Unlined.{Unlined}
use Rattle.record_dump.specs.declared.lines.Unlined.TheVariants as unlined
use Rattle.record_dump.proofs.Lining.{prepend_nil, prepend_both}

-- what was taken of the input, and what is held then
abbrev pub Took : Option (List ℕ) → Option (List ℕ) → List ℕ → List ℕ → Type 0
Took old new held left = (piece : List ℕ) × (old ≡ prepend_known piece new) × (left ≡ held ++ piece)

abbrev pub ReadMade : Option (List ℕ) → Option (List ℕ) → List ℕ → List ℕ → Result ℕ Unlined → Type 0
ReadMade old new held left r = (piece : List ℕ) × (old ≡ prepend_known piece new) × IsRead (held ++ piece) left r

pub took_nothing : (old : Option (List ℕ)) (held : List ℕ) → Took old old held held
took_nothing old held = ([], prepend_nil old, sym (append-nil held))

pub took_more : (old half new : Option (List ℕ)) (held mid left piece : List ℕ) → Took old half held mid → half ≡ prepend_known piece new → left ≡ mid ++ piece → Took old new held left
took_more old half new held mid left piece t more is =
    (t.0 ++ piece, prepend_both old half new t.0 piece t.1 more, is ∙ ap (λ (bs : List ℕ). bs ++ piece) t.2 ∙ append_assoc held t.0 piece)

pub read_whole : (old new : Option (List ℕ)) (held left : List ℕ) (len : ℕ) → Took old new held left → Lies left len → ReadMade old new held left (Ok len)
read_whole old new held left len t lies = (t.0, t.1, (t.2, subst (λ (bs : List ℕ). Lies bs len) t.2 lies))

pub read_long : (old new : Option (List ℕ)) (held left : List ℕ) → Took old new held left → IsLong left → ReadMade old new held left (Err unlined.TooLong)
read_long old new held left t long = (t.0, t.1, subst (λ (bs : List ℕ). IsLong bs) t.2 long)

pub read_cut : (old new : Option (List ℕ)) (held left : List ℕ) → Took old new held left → IsLine left → ReadMade old new held left (Err unlined.Cut)
read_cut old new held left t line = (t.0, t.1, subst (λ (bs : List ℕ). IsLine bs) t.2 line)

pub read_failed : (old half new : Option (List ℕ)) (held mid left piece : List ℕ) (x : Unread) → Took old half held mid → half ≡ prepend_known piece new → ReadMade old new held left (Err (unlined.Unread x))
read_failed old half new held mid left piece x t more = (t.0 ++ piece, prepend_both old half new t.0 piece t.1 more, tt)

-- nothing more came
pub nothing_came : (mid left piece : List ℕ) → left ≡ mid ++ piece → length piece ≡ 0 → AreInLine mid → length mid ≤ most_bytes → IsLine left
nothing_came mid left [] is none inside short = subst (λ (bs : List ℕ). IsLine bs) (sym (is ∙ append-nil mid)) (record { inside = inside; short = short })
nothing_came mid left (b ∷ bs) is none inside short = absurd (omega (arith, none))
