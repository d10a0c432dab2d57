-- What settling leaves of the entries: those that are alive.
use Rattle.std.proofs.Common.{sym, subst}
use Rattle.std.specs.Prelude.{◌↔◌}
use Rattle.hub_cells.specs.Side.{Side, other}
use Rattle.hub_cells.specs.Level.{Level, NoNameTwice}
use Rattle.kept_entries.specs.declared.entry.Entry.{Entry}
use Rattle.keep_laws.specs.Body.{all_entries}
use Rattle.keep_laws.specs.Whole.{Held, Ready, marks_of}
use Rattle.keep_laws.specs.Settle.{IsAllowed, settled_marks, settled, converted}
use Rattle.keep_laws.specs.Alive.{AliveAt}
use Rattle.keep_laws.specs.Words.{Has, Parts}
use Rattle.keep_laws.proofs.Holds.{order_has, has_order}
use Rattle.keep_laws.proofs.Living.{level_alive, alive_level}
use Rattle.keep_laws.proofs.Back.{no_name_twice}
use Rattle.keep_laws.proofs.Dead.{back_settled}

pub settled_left : (d : Side) (l : Level) (x : Held) → NoNameTwice (other d) l → Parts x.entries → (e : Entry)
    → Has e (settled d l x).entries ↔ (Has e x.entries × AliveAt d l x.fields x.entries e.at e.was)
settled_left d l x names parts e =
    let all = all_entries d l (settled_marks d l (marks_of d l x)) in (
      λ i. level_alive d l x.fields x.entries parts names e (order_has e all i),
      λ h. has_order e all (alive_level d l x.fields x.entries names e.at e.was (parts e h.0) h.1),
    )

pub converted_left : (d : Side) (l : Level) (x : Held) → Ready l → IsAllowed d l (marks_of d l x) → Parts x.entries → (e : Entry)
    → Has e (converted (other d) l (converted d l x)).entries ↔ (Has e x.entries × AliveAt d l x.fields x.entries e.at e.was)
converted_left d l x ready allowed parts e =
    subst (λ (y : Held). Has e y.entries ↔ (Has e x.entries × AliveAt d l x.fields x.entries e.at e.was)) (sym (back_settled d l x ready allowed))
    (settled_left d l x (no_name_twice (other d) l ready) parts e)
