-- What is paired with a whole object of the hub is settled, and is the only one; and back.
use Rattle.std.proofs.Common.{◌≡◌, ℕ, List, [], Bool, true, false, bytes_eq, Option, Some, ap, sym, subst, ◌∙◌}
use Rattle.std.specs.Prelude.{slice_get}
use Rattle.kube_meta.specs.View.{ObjectView}
use Rattle.kept_entries.specs.declared.entry.Entry.{Entry}
use Rattle.hub_cells.specs.Side.{spoke, hub}
use Rattle.hub_cells.specs.Level.{Name}
use Rattle.keep_laws.specs.Marked.{crossed}
use Rattle.keep_laws.specs.Settle.{AreSet}
use Rattle.keep_laws.specs.Whole.{Held, Ready, IsWholeOnSide, IsPair, marks_of}
use Rattle.keep_laws.proofs.LawA.{paired_crossed}
use Rattle.keep_laws.proofs.Back.{pair_whole}
use Rattle.keep_laws.proofs.Fields.{bytes_same}
use Rattle.keep_laws.specs.Spokes.{Spoke, Spokes, IsDefinition, fills_at}
use Rattle.keep_laws.specs.Keys.{hub_key, spoke_key, KeyKind, plain, of_hub, of_spoke, of_none, key_kind}
use Rattle.keep_laws.specs.Notes.{noted, note, IsNoteOf, IsObject, with_entries}
use Rattle.keep_laws.specs.Pair.{SpokeNotePair, NotePair, IsPairOf}
use Rattle.keep_laws.specs.WholeHub.{WholeNote, IsWholeHub, IsSettledAt}
use Rattle.keep_laws.specs.Given.{Laws}
use Rattle.keep_laws.proofs.Texts.{same_fields}
use Rattle.keep_laws.proofs.Keys.{hub_kind, spoke_kind}
use Rattle.keep_laws.proofs.SpokeLevels.{ready_of, one_spoke, one_hub}
use Rattle.keep_laws.proofs.Notes.{one_note, same_meta, same_object}
use Rattle.keep_laws.proofs.SpokesFitted.{fits, room, right}
use Rattle.keep_laws.proofs.Completing.{spoke_set}
use Rattle.keep_laws.proofs.Marks.{complete_any}
use Rattle.keep_laws.proofs.CompleteHub.{complete_at}

-- ---- one annotation

own_at_spoke : (b : Bool) (es fs : List Entry) (o q p : Option Name) → SpokeNotePair b es o p → SpokeNotePair b fs q p → o ≡ q
own_at_spoke true es fs o q p a b = a.0 ∙ sym b.0
own_at_spoke false es fs o q p a b = a ∙ sym b

note_at_spoke : (s : Spoke) (ex ey es fs : List Entry) (c : KeyKind) (o q p : Option Name) → ex ≡ ey → NotePair s ex es c o p → NotePair s ey fs c q p → o ≡ q
note_at_spoke s ex ey es fs plain o q p e a b = a ∙ sym b
note_at_spoke s ex ey es fs of_hub o q p e a b = a.0.written ∙ ap note e ∙ sym b.0.written
note_at_spoke s ex ey es fs (of_spoke t) o q p e a b = own_at_spoke (bytes_eq t.name s.name) es fs o q p a b
note_at_spoke s ex ey es fs of_none o q p e a b = a ∙ sym b

own_at_hub : (b : Bool) (es fs : List Entry) (o p q : Option Name) → es ≡ fs → SpokeNotePair b es o p → SpokeNotePair b fs o q → p ≡ q
own_at_hub true es fs o p q e a b = a.1.written ∙ ap note e ∙ sym b.1.written
own_at_hub false es fs o p q e a b = sym a ∙ b

note_at_hub : (s : Spoke) (ex ey es fs : List Entry) (c : KeyKind) (o p q : Option Name) → es ≡ fs → NotePair s ex es c o p → NotePair s ey fs c o q → p ≡ q
note_at_hub s ex ey es fs plain o p q e a b = sym a ∙ b
note_at_hub s ex ey es fs of_hub o p q e a b = a.1 ∙ sym b.1
note_at_hub s ex ey es fs (of_spoke t) o p q e a b = own_at_hub (bytes_eq t.name s.name) es fs o p q e a b
note_at_hub s ex ey es fs of_none o p q e a b = sym a ∙ b

-- ---- objects

module _ (laws : Laws) (all : Spokes) (v : ℕ) (s : Spoke) (def : IsDefinition all) (place : slice_get all.items v ≡ Some s) where
  pub own_pair : (x h : ObjectView) (p : IsPairOf all s x h) → SpokeNotePair true p.spoke_kept (noted (spoke_key s.name) x) (noted (spoke_key s.name) h)
  own_pair x h p =
      let k = spoke_key s.name in
      let here : NotePair s p.hub_kept p.spoke_kept (of_spoke s) (noted k x) (noted k h) =
      subst (λ (c : KeyKind). NotePair s p.hub_kept p.spoke_kept c (noted k x) (noted k h)) (spoke_kind all v s def place) (p.notes k) in
      subst (λ (b : Bool). SpokeNotePair b p.spoke_kept (noted k x) (noted k h)) (bytes_same s.name) here

  pub hub_pair_note : (x h : ObjectView) (p : IsPairOf all s x h) → IsNoteOf p.hub_kept (noted hub_key x)
  hub_pair_note x h p =
      (subst (λ (c : KeyKind). NotePair s p.hub_kept p.spoke_kept c (noted hub_key x) (noted hub_key h)) (hub_kind all) (p.notes hub_key)).0

  pub whole_own : (h : ObjectView) → IsWholeHub all h → WholeNote h.body (of_spoke s) (noted (spoke_key s.name) h)
  whole_own h w =
      subst (λ (c : KeyKind). WholeNote h.body c (noted (spoke_key s.name) h)) (spoke_kind all v s def place) (w.notes (spoke_key s.name))

  pub ready : Ready s.fit.level
  ready = ready_of s.fit (fits all v s def place)

  pub hub_whole : (x h : ObjectView) → IsWholeHub all h → (p : IsPairOf all s x h) → IsWholeOnSide hub s.fit.level (with_entries h.body p.spoke_kept)
  hub_whole x h w p =
      let kept = whole_own h w in
      subst (λ (es : List Entry). IsWholeOnSide hub s.fit.level (with_entries h.body es)) (one_note laws.one (noted (spoke_key s.name) h) kept.0 p.spoke_kept kept.1 (own_pair x h p).1) kept.2

  pub spoke_whole : (x h : ObjectView) → IsWholeHub all h → (p : IsPairOf all s x h) → IsWholeOnSide spoke s.fit.level (with_entries x.body p.hub_kept)
  spoke_whole x h w p =
      pair_whole s.fit.level (with_entries x.body p.hub_kept) (with_entries h.body p.spoke_kept) ready (hub_whole x h w p) p.bodies

  pub one_object : (x y h : ObjectView) → IsObject x → IsObject y → IsWholeHub all h → IsPairOf all s x h → IsPairOf all s y h → x ≡ y
  one_object x y h ox oy w p q =
      let level = s.fit.level in
      let kept : q.spoke_kept ≡ p.spoke_kept = one_note laws.one (noted (spoke_key s.name) h) q.spoke_kept p.spoke_kept (own_pair y h q).1 (own_pair x h p).1 in
      let other : IsPair level (with_entries y.body q.hub_kept) (with_entries h.body p.spoke_kept) = subst (λ (es : List Entry). IsPair level (with_entries y.body q.hub_kept) (with_entries h.body es)) kept q.bodies in
      let held = one_spoke level (with_entries x.body p.hub_kept) (with_entries y.body q.hub_kept) (with_entries h.body p.spoke_kept) ready (hub_whole x h w p) p.bodies other in
      let notes : x.meta.annotations ≡ y.meta.annotations =
      same_fields x.meta.annotations y.meta.annotations ox.annotations oy.annotations (λ k. note_at_spoke s p.hub_kept q.hub_kept p.spoke_kept q.spoke_kept (key_kind all k) (noted k x) (noted k y) (noted k h) (ap (λ (a : Held). a.entries) held) (p.notes k) (q.notes k)) in
      same_object x y (p.spoke_version ∙ sym q.spoke_version) (p.kind ∙ sym q.kind) (same_meta x.meta y.meta (p.meta ∙ sym q.meta) notes) (ap (λ (a : Held). a.fields) held)

  pub one_hub_object : (x g h : ObjectView) → IsObject g → IsObject h → IsSettledAt all s x → IsPairOf all s x g → IsPairOf all s x h → g ≡ h
  one_hub_object x g h og oh t p q =
      let level = s.fit.level in
      let first : t.pair.hub_kept ≡ p.hub_kept = one_note laws.one (noted hub_key x) t.pair.hub_kept p.hub_kept (hub_pair_note x t.hub t.pair) (hub_pair_note x g p) in
      let whole : IsWholeOnSide spoke level (with_entries x.body p.hub_kept) = subst (λ (es : List Entry). IsWholeOnSide spoke level (with_entries x.body es)) first (spoke_whole x t.hub t.whole t.pair) in
      let kept : q.hub_kept ≡ p.hub_kept = one_note laws.one (noted hub_key x) q.hub_kept p.hub_kept (hub_pair_note x h q) (hub_pair_note x g p) in
      let other : IsPair level (with_entries x.body p.hub_kept) (with_entries h.body q.spoke_kept) = subst (λ (es : List Entry). IsPair level (with_entries x.body es) (with_entries h.body q.spoke_kept)) kept q.bodies in
      let held = one_hub level (with_entries x.body p.hub_kept) (with_entries g.body p.spoke_kept) (with_entries h.body q.spoke_kept) ready whole p.bodies other in
      let notes : g.meta.annotations ≡ h.meta.annotations =
      same_fields g.meta.annotations h.meta.annotations og.annotations oh.annotations (λ k. note_at_hub s p.hub_kept q.hub_kept p.spoke_kept q.spoke_kept (key_kind all k) (noted k x) (noted k g) (noted k h) (ap (λ (a : Held). a.entries) held) (p.notes k) (q.notes k)) in
      same_object g h (p.hub_version ∙ sym q.hub_version) (sym p.kind ∙ q.kind) (same_meta g.meta h.meta (sym p.meta ∙ q.meta) notes) (ap (λ (a : Held). a.fields) held)

  -- each name of the spoke's that has a default is there
  pub pair_set : (x h : ObjectView) → IsWholeHub all h → (p : IsPairOf all s x h) → AreSet spoke s.fit.level (marks_of spoke s.fit.level (with_entries x.body p.hub_kept))
  pair_set x h w p =
      let l = s.fit.level in
      let H = with_entries h.body p.spoke_kept in
      let back : marks_of spoke l (with_entries x.body p.hub_kept) ≡ crossed hub l (marks_of hub l H) = (paired_crossed l (marks_of spoke l (with_entries x.body p.hub_kept)) (marks_of hub l H) ready.fits p.bodies.cells).1 in
      let complete = complete_any l (fills_at all s) h.body [] p.spoke_kept (complete_at all all.items v s h.body w.complete place) in
      subst (AreSet spoke l) (sym back) (spoke_set l (fills_at all s) (marks_of hub l H) ready.fits (right all v s def place) (hub_whole x h w p).good complete)

  pub settled_of : (x h : ObjectView) → IsObject x → IsWholeHub all h → IsPairOf all s x h → IsSettledAt all s x
  settled_of x h o w p = record {
    object = o;
    body = laws.body spoke s.fit (with_entries x.body p.hub_kept) (fits all v s def place) (room all v s def place) (spoke_whole x h w p) (pair_set x h w p);
    hub = h;
    whole = w;
    pair = p;
  }
