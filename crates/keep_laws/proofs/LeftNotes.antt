-- What settling leaves of each annotation: the entries that are alive.
use Rattle.std.proofs.Common.{◌≡◌, ℕ, List, [], ◌∷◌, inl, inr, Bool, true, false, bytes_eq, Option, Some, None, map, refl, ap, sym, subst, ◌∙◌}
use Rattle.std.specs.Prelude.{slice_get}
use Rattle.kj_value.specs.Json.{items_of, members_of}
use Rattle.kj_value.specs.Sound.{AreSoundItems, AreRising}
use Rattle.kj_value.specs.Fields.{Pairs}
use Rattle.kube_meta.specs.View.{ObjectView}
use Rattle.kept_entries.specs.declared.entry.Entry.{Entry}
use Rattle.kept_entries.specs.Text.{entry_json}
use Rattle.hub_cells.specs.Side.{Side, spoke, hub, other}
use Rattle.hub_cells.specs.Level.{Name}
use Rattle.keep_laws.specs.Marked.{crossed}
use Rattle.keep_laws.specs.Settle.{settled_marks}
use Rattle.keep_laws.specs.Complete.{filled}
use Rattle.keep_laws.specs.Whole.{marks_of}
use Rattle.keep_laws.specs.Words.{Has, Parts}
use Rattle.keep_laws.specs.FittedBody.{IsBodyOf}
use Rattle.keep_laws.specs.Spokes.{Spoke, Spokes, IsDefinition, fills_at}
use Rattle.keep_laws.specs.Keys.{hub_key, spoke_key, KeyKind, plain, of_hub, of_spoke, of_none, key_kind}
use Rattle.keep_laws.specs.Notes.{noted, Spells, IsNoteOf, with_entries}
use Rattle.keep_laws.specs.Pair.{SpokeNotePair, NotePair, IsPairOf}
use Rattle.keep_laws.specs.Judging.{IsJudged, OtherNote, living_entries}
use Rattle.keep_laws.specs.Settling.{SettlesAtHub, SettlesAtSpoke}
use Rattle.keep_laws.specs.LeftNotes.{KeepsLiving, NoteLeftAtHub, OtherLeft, NoteLeftAtSpoke, IsLeft, LeftAtSpoke}
use Rattle.keep_laws.specs.Over.{SpokeNoteOver, NoteOver, GoesOver}
use Rattle.keep_laws.specs.Given.{Laws}
use Rattle.keep_laws.proofs.LawA.{paired_crossed}
use Rattle.keep_laws.proofs.Back.{no_name_twice}
use Rattle.keep_laws.proofs.Dead.{settled_good}
use Rattle.keep_laws.proofs.Each.{rising_fields}
use Rattle.keep_laws.proofs.Fields.{bytes_same}
use Rattle.keep_laws.proofs.Left.{settled_left}
use Rattle.keep_laws.proofs.LeftCells.{level_left}
use Rattle.keep_laws.proofs.Keys.{spoke_kind, KindSays, kind_says}
use Rattle.keep_laws.proofs.Notes.{one_note, no_note}
use Rattle.keep_laws.proofs.SpokeLevels.{ready_of}
use Rattle.keep_laws.proofs.SpokesFitted.{fits, right}
use Rattle.keep_laws.proofs.Pairs.{ready, own_pair, hub_pair_note}
use Rattle.keep_laws.proofs.Judged.{allowed}
use Rattle.keep_laws.proofs.Hubs.{over_marks_are, over_own}

-- ---- the names of each part that a text spells rise

part_rises : (e : Entry) (es : List Entry) → AreSoundItems (items_of (map entry_json es)) → Has e es → AreRising (members_of e.was)
part_rises e [] h i = absurd i
part_rises e (f ∷ es) h (inl q) = subst (λ (g : Entry). AreRising (members_of g.was)) (sym q) h.0.2.1
part_rises e (f ∷ es) h (inr i) = part_rises e es h.1 i

parts_of : (o : Option Name) (es : List Entry) → Spells o es → Parts es
parts_of None es h e i = absurd (subst (Has e) h i)
parts_of (Some t) es h e i = rising_fields e.was (part_rises e es h.text.sound i)

-- ---- one annotation

module _ (all : Spokes) (v : ℕ) (s : Spoke) (def : IsDefinition all) (place : slice_get all.items v ≡ Some s) where
  keeps : (d : Side) (body : Pairs) (es : List Entry) (o p : Option Name) → Spells o es → IsNoteOf (living_entries d s body es) p → KeepsLiving d s.fit.level body o p
  keeps d body es o p spelled kept = record {
    before = es;
    after = living_entries d s body es;
    spelled = spelled;
    kept = kept;
    left = settled_left d s.fit.level (with_entries body es) (no_name_twice (other d) s.fit.level (ready_of s.fit (fits all v s def place))) (parts_of o es spelled);
  }

  judged_left : (body : Pairs) (o p : Option Name) → IsJudged s body o p → KeepsLiving hub s.fit.level body o p
  judged_left body None p j = record {
    before = [];
    after = [];
    spelled = refl;
    kept = subst (IsNoteOf []) (sym j) no_note;
    left = λ e. ((λ i. absurd i), (λ h. absurd h.0));
  }
  judged_left body (Some t) p j = keeps hub body j.0 (Some t) p j.1 j.2

-- ---- all annotations of an object

module _ (all : Spokes) (def : IsDefinition all) where
  hub_left : (body : Pairs) (k : Name) (c : KeyKind) (o p : Option Name) → KindSays all k c → OtherNote None body c o p → NoteLeftAtHub body c o p
  hub_left body k plain o p says n = n
  hub_left body k of_hub o p says n = n
  hub_left body k (of_spoke t) o p says n = judged_left all says.1.0 t def says.1.1 body o p n
  hub_left body k of_none o p says n = n

  pub left_at_hub : (x y : ObjectView) → SettlesAtHub all x y → (k : Name) → NoteLeftAtHub y.body (key_kind all k) (noted k x) (noted k y)
  left_at_hub x y t k = hub_left y.body k (key_kind all k) (noted k x) (noted k y) (kind_says all k) (t.notes k)

module _ (laws : Laws) (all : Spokes) (v : ℕ) (s : Spoke) (def : IsDefinition all) (place : slice_get all.items v ≡ Some s) where
  -- over to the hub and back
  note_left : (hubs : Pairs) (ex eh fh : List Entry) (k : Name) (c : KeyKind) (o p q : Option Name) → KindSays all k c → NoteOver s hubs eh c o p → NotePair s ex fh c q p → NoteLeftAtSpoke s hubs c o q
  note_left hubs ex eh fh k plain o p q says a b = b ∙ a
  note_left hubs ex eh fh k of_hub o p q says a b = tt
  note_left hubs ex eh fh k (of_spoke t) o p q says a b = by_own (bytes_eq t.name s.name) a b
    where
      by_own : (c : Bool) → SpokeNoteOver c t hubs eh o p → SpokeNotePair c fh q p → OtherLeft c t hubs o q
      by_own true a b = b.0
      by_own false a b = judged_left all says.1.0 t def says.1.1 hubs o q (subst (IsJudged t hubs o) (sym b) a)
  note_left hubs ex eh fh k of_none o p q says a b = b ∙ a

  pub left_over : (x h z : ObjectView) → AreRising (members_of x.body) → IsBodyOf spoke s.fit x.body → (g : GoesOver all s x h) → (p : IsPairOf all s z h) → LeftAtSpoke all s x z
  left_over x h z rises b g p =
      let l = s.fit.level in
      let f = fills_at all s in
      let m = settled_marks spoke l (marks_of spoke l (with_entries x.body g.hub_kept)) in
      let own : g.spoke_kept ≡ p.spoke_kept = one_note laws.one (noted (spoke_key s.name) h) g.spoke_kept p.spoke_kept (over_own laws all v s def place x h g) (own_pair laws all v s def place z h p).1 in
      let held : marks_of hub l (with_entries h.body p.spoke_kept) ≡ filled l f (crossed spoke l m) = ap (λ (es : List Entry). marks_of hub l (with_entries h.body es)) (sym own) ∙ over_marks_are laws all v s def place x h rises b g in
      let back : marks_of spoke l (with_entries z.body p.hub_kept) ≡ crossed hub l (filled l f (crossed spoke l m)) = (paired_crossed l (marks_of spoke l (with_entries z.body p.hub_kept)) (marks_of hub l (with_entries h.body p.spoke_kept)) (ready laws all v s def place).fits p.bodies.cells).1 ∙ ap (crossed hub l) held in
      let good = settled_good spoke l (marks_of spoke l (with_entries x.body g.hub_kept)) (allowed laws all v s def place spoke x.body g.hub_kept rises b) in record {
        before = g.hub_kept;
        after = p.hub_kept;
        at_hub = h.body;
        spelled = g.spelled;
        kept = hub_pair_note laws all v s def place z h p;
        cells = subst (IsLeft l f m) (sym back) (level_left l f m (ready laws all v s def place).fits (right all v s def place) good);
        notes = λ k. note_left h.body p.hub_kept g.spoke_kept p.spoke_kept k (key_kind all k) (noted k x) (noted k h) (noted k z) (kind_says all k) (g.notes k) (p.notes k);
      }

  pub left_at_spoke : (x y : ObjectView) → AreRising (members_of x.body) → IsBodyOf spoke s.fit x.body → SettlesAtSpoke all s x y → LeftAtSpoke all s x y
  left_at_spoke x y rises b t = left_over x t.hub y rises b t.over t.pair
