-- What a spoke's object becomes at the hub is whole, and pairs with the object without what has no place in it.
use Rattle.std.proofs.Common.{◌≡◌, ℕ, List, [], ◌⊎◌, inl, inr, Bool, true, false, bytes_eq, Option, Some, None, ap, sym, subst, ◌∙◌}
use Rattle.std.specs.Prelude.{slice_get}
use Rattle.kj_value.specs.Json.{members_of}
use Rattle.kj_value.specs.Sound.{AreRising}
use Rattle.kj_value.specs.Fields.{Pairs, field}
use Rattle.kube_meta.specs.View.{Texts, ObjectView}
use Rattle.kept_entries.specs.declared.entry.Entry.{Entry}
use Rattle.hub_cells.specs.Side.{spoke, hub}
use Rattle.hub_cells.specs.Level.{Name}
use Rattle.keep_laws.specs.Marked.{Marked, IsGood, crossed}
use Rattle.keep_laws.specs.Whole.{Held, IsWholeOnSide, marks_of, object_of}
use Rattle.keep_laws.specs.Settle.{settled_marks}
use Rattle.keep_laws.specs.Complete.{filled, completed_over, IsComplete}
use Rattle.keep_laws.proofs.Fields.{bytes_same, bytes_other}
use Rattle.keep_laws.proofs.LawA.{crossed_good, paired_crossed}
use Rattle.keep_laws.proofs.Back.{marks_back}
use Rattle.keep_laws.proofs.Dead.{settled_good, good_settled}
use Rattle.keep_laws.specs.FittedBody.{IsBodyOf}
use Rattle.keep_laws.specs.Spokes.{Spoke, Spokes, IsDefinition, fills_at}
use Rattle.keep_laws.specs.Keys.{hub_key, spoke_key, KeyKind, plain, of_hub, of_spoke, of_none, key_kind}
use Rattle.keep_laws.specs.Notes.{noted, note, IsNoteOf, with_note, with_entries}
use Rattle.keep_laws.specs.Pair.{SpokeNotePair, NotePair, IsPairOf}
use Rattle.keep_laws.specs.WholeHub.{WholeNote, IsCompleteFor, IsWholeHub, IsHubBody}
use Rattle.keep_laws.specs.Judging.{IsJudged, SpokeNote, OtherNote, Carries}
use Rattle.keep_laws.specs.Settling.{SettlesAtSpoke}
use Rattle.keep_laws.specs.Over.{SpokeNoteOver, NoteOver, GoesOver}
use Rattle.keep_laws.specs.Given.{Laws}
use Rattle.keep_laws.proofs.Texts.{name_cases, same_fields}
use Rattle.keep_laws.proofs.Keys.{spoke_kind, KindSays, kind_says}
use Rattle.keep_laws.proofs.Notes.{spells_one, judged_one, with_note-same, with_note-other, same_meta, same_object}
use Rattle.keep_laws.proofs.SpokesFitted.{fits, room, right, hub_body_each, hub_body_at, same_spoke}
use Rattle.keep_laws.proofs.Pairs.{ready, spoke_whole, hub_pair_note}
use Rattle.keep_laws.proofs.Completing.{filled_good, filled_complete, complete_same, hub_set}
use Rattle.keep_laws.proofs.Marks.{object_whole, complete_any}
use Rattle.keep_laws.proofs.CompleteHub.{complete_at, complete_all}
use Rattle.keep_laws.proofs.Judged.{allowed, judged_whole, whole_judged}

-- ---- the annotations of an object that went over

over_other : (all : Spokes) (s : Spoke) (body : Pairs) (eh : List Entry) (k : Name) (c : KeyKind) (o p : Option Name) → KindSays all k c → (k ≡ spoke_key s.name → ⊥) → OtherNote (Some s.name) body c o p → NoteOver s body eh c o p
over_other all s body eh k plain o p h m e = e
over_other all s body eh k of_hub o p h m e = e
over_other all s body eh k (of_spoke t) o p h m e = by_name (name_cases t.name s.name) e
  where
    by_name : (t.name ≡ s.name) ⊎ (t.name ≡ s.name → ⊥) → SpokeNote (bytes_eq t.name s.name) t body o p → SpokeNoteOver (bytes_eq t.name s.name) t body eh o p
    by_name (inl q) g = absurd (m (h.0 ∙ ap spoke_key q))
    by_name (inr q) g =
        subst (λ (b : Bool). SpokeNoteOver b t body eh o p) (sym (bytes_other t.name s.name q)) (subst (λ (b : Bool). SpokeNote b t body o p) (bytes_other t.name s.name q) g)
over_other all s body eh k of_none o p h m e = e

module _ (all : Spokes) (v : ℕ) (s : Spoke) (def : IsDefinition all) (place : slice_get all.items v ≡ Some s) where
  -- the own annotation put over those that were carried
  pub notes_over : (body : Pairs) (eh : List Entry) (p : Option Name) (before notes after : Texts) → Carries all (Some s.name) body before notes → IsNoteOf eh p → after ≡ with_note (spoke_key s.name) p notes → (k : Name) → NoteOver s body eh (key_kind all k) (field k before) (field k after)
  notes_over body eh p before notes after carried is e k = by_own (name_cases k (spoke_key s.name))
    where
      none : field (spoke_key s.name) notes ≡ None
      none =
          subst (λ (b : Bool). SpokeNote b s body (field (spoke_key s.name) before) (field (spoke_key s.name) notes)) (bytes_same s.name) (subst (λ (c : KeyKind). OtherNote (Some s.name) body c (field (spoke_key s.name) before) (field (spoke_key s.name) notes)) (spoke_kind all v s def place) (carried (spoke_key s.name)))

      at_own : NoteOver s body eh (key_kind all (spoke_key s.name)) (field (spoke_key s.name) before) (field (spoke_key s.name) after)
      at_own =
          let found : field (spoke_key s.name) after ≡ p = ap (field (spoke_key s.name)) e ∙ with_note-same (spoke_key s.name) p notes none in
          let here : SpokeNoteOver (bytes_eq s.name s.name) s body eh (field (spoke_key s.name) before) (field (spoke_key s.name) after) =
          subst (λ (b : Bool). SpokeNoteOver b s body eh (field (spoke_key s.name) before) (field (spoke_key s.name) after)) (sym (bytes_same s.name)) (subst (IsNoteOf eh) (sym found) is) in
          subst (λ (c : KeyKind). NoteOver s body eh c (field (spoke_key s.name) before) (field (spoke_key s.name) after)) (sym (spoke_kind all v s def place)) here

      by_own : (k ≡ spoke_key s.name) ⊎ (k ≡ spoke_key s.name → ⊥) → NoteOver s body eh (key_kind all k) (field k before) (field k after)
      by_own (inl q) = subst (λ (j : Name). NoteOver s body eh (key_kind all j) (field j before) (field j after)) (sym q) at_own
      by_own (inr m) =
          let same : field k after ≡ field k notes = ap (field k) e ∙ with_note-other k (spoke_key s.name) p notes m in
          over_other all s body eh k (key_kind all k) (field k before) (field k after) (kind_says all k) m (subst (OtherNote (Some s.name) body (key_kind all k) (field k before)) (sym same) (carried k))

-- ---- it is whole

note_whole : (laws : Laws) (all : Spokes) (v : ℕ) (s : Spoke) → IsDefinition all → slice_get all.items v ≡ Some s → (body : Pairs) (eh : List Entry) → AreRising (members_of body) → IsHubBody all.items body → IsWholeOnSide hub s.fit.level (with_entries body eh) → (k : Name) (c : KeyKind) (o p : Option Name) → KindSays all k c → NoteOver s body eh c o p → WholeNote body c p
note_whole laws all v s def place body eh rises bodies own k plain o p h e = tt
note_whole laws all v s def place body eh rises bodies own k of_hub o p h e = e
note_whole laws all v s def place body eh rises bodies own k (of_spoke t) o p h e = by_name (name_cases t.name s.name) e
  where
    by_name : (t.name ≡ s.name) ⊎ (t.name ≡ s.name → ⊥) → SpokeNoteOver (bytes_eq t.name s.name) t body eh o p → WholeNote body (of_spoke t) p
    by_name (inl q) g =
        let same : s ≡ t = sym (same_spoke all v h.1.0 s t def place h.1.1 q) in
        let true_name : bytes_eq t.name s.name ≡ true = ap (λ (n : Name). bytes_eq n s.name) q ∙ bytes_same s.name in
        (eh, subst (λ (b : Bool). SpokeNoteOver b t body eh o p) true_name g, subst (λ (u : Spoke). IsWholeOnSide hub u.fit.level (with_entries body eh)) same own)
    by_name (inr q) g =
        judged_whole laws all h.1.0 t def h.1.1 body o p rises (hub_body_at all.items h.1.0 t body bodies h.1.1) (subst (λ (b : Bool). SpokeNoteOver b t body eh o p) (bytes_other t.name s.name q) g)
note_whole laws all v s def place body eh rises bodies own k of_none o p h e = e

module _ (laws : Laws) (all : Spokes) (v : ℕ) (s : Spoke) (def : IsDefinition all) (place : slice_get all.items v ≡ Some s) where
  -- the marks of what comes over, before it is completed and then
  abbrev pub over_marks : Pairs → List Entry → Marked s.fit.level
  over_marks body es = crossed spoke s.fit.level (settled_marks spoke s.fit.level (marks_of spoke s.fit.level (with_entries body es)))

  abbrev pub full_marks : Pairs → List Entry → Marked s.fit.level
  full_marks body es = filled s.fit.level (fills_at all s) (over_marks body es)

  pub over_good : (body : Pairs) (es : List Entry) → AreRising (members_of body) → IsBodyOf spoke s.fit body → IsGood hub s.fit.level (over_marks body es)
  over_good body es rises b =
      let l = s.fit.level in
      crossed_good spoke l (settled_marks spoke l (marks_of spoke l (with_entries body es))) (ready laws all v s def place).fits (settled_good spoke l (marks_of spoke l (with_entries body es)) (allowed laws all v s def place spoke body es rises b))

  pub full_good : (body : Pairs) (es : List Entry) → AreRising (members_of body) → IsBodyOf spoke s.fit body → IsGood hub s.fit.level (full_marks body es)
  full_good body es rises b =
      filled_good s.fit.level (fills_at all s) (over_marks body es) (ready laws all v s def place).fits (right all v s def place) (over_good body es rises b)

  pub full_complete : (body : Pairs) (es : List Entry) → AreRising (members_of body) → IsBodyOf spoke s.fit body → IsComplete s.fit.level (fills_at all s) (full_marks body es)
  full_complete body es rises b =
      filled_complete s.fit.level (fills_at all s) (over_marks body es) (ready laws all v s def place).fits (right all v s def place) (over_good body es rises b)

  pub full_back : (body : Pairs) (es : List Entry) → AreRising (members_of body) → IsBodyOf spoke s.fit body → marks_of hub s.fit.level (object_of hub s.fit.level (full_marks body es)) ≡ full_marks body es
  full_back body es rises b =
      marks_back hub s.fit.level (full_marks body es) (ready laws all v s def place) (full_good body es rises b)

  -- an object of the hub that is made of good marks and in which each name that is filled is there
  pub made_body : (h : Held) → IsWholeOnSide hub s.fit.level h → IsComplete s.fit.level (fills_at all s) (marks_of hub s.fit.level h) → IsBodyOf hub s.fit h.fields
  made_body h w c =
      let l = s.fit.level in
      laws.body hub s.fit h (fits all v s def place) (room all v s def place) w (hub_set l (fills_at all s) (marks_of hub l h) (ready laws all v s def place).fits (right all v s def place) w.good c)

  pub made_hub : (h : Held) → AreRising (members_of h.fields) → IsWholeOnSide hub s.fit.level h → IsComplete s.fit.level (fills_at all s) (marks_of hub s.fit.level h) → IsHubBody all.items h.fields × IsCompleteFor all all.items h.fields
  made_hub h rises w c =
      let body = made_body h w c in
      (hub_body_each all v s h.fields def place body, complete_all all v s h.fields def place rises body (complete_any s.fit.level (fills_at all s) h.fields h.entries [] c))

  pub over_body_whole : (x h : ObjectView) → AreRising (members_of x.body) → IsBodyOf spoke s.fit x.body → (g : GoesOver all s x h) → IsWholeOnSide hub s.fit.level (with_entries h.body g.spoke_kept)
  over_body_whole x h rises b g =
      subst (IsWholeOnSide hub s.fit.level) (sym g.bodies) (object_whole hub s.fit.level (full_marks x.body g.hub_kept) (ready laws all v s def place) (full_good x.body g.hub_kept rises b))

  pub over_marks_are : (x h : ObjectView) → AreRising (members_of x.body) → IsBodyOf spoke s.fit x.body → (g : GoesOver all s x h) → marks_of hub s.fit.level (with_entries h.body g.spoke_kept) ≡ full_marks x.body g.hub_kept
  over_marks_are x h rises b g = ap (marks_of hub s.fit.level) g.bodies ∙ full_back x.body g.hub_kept rises b

  pub over_whole : (x h : ObjectView) → AreRising (members_of x.body) → IsBodyOf spoke s.fit x.body → GoesOver all s x h → IsWholeHub all h
  over_whole x h rises b g =
      let own = over_body_whole x h rises b g in
      let complete : IsComplete s.fit.level (fills_at all s) (marks_of hub s.fit.level (with_entries h.body g.spoke_kept)) = subst (IsComplete s.fit.level (fills_at all s)) (sym (over_marks_are x h rises b g)) (full_complete x.body g.hub_kept rises b) in
      let bodies = made_hub (with_entries h.body g.spoke_kept) g.object.body own complete in record {
        version = g.version;
        object = g.object;
        body = bodies.0;
        complete = bodies.1;
        notes = λ k. note_whole laws all v s def place h.body g.spoke_kept g.object.body bodies.0 own k (key_kind all k) (noted k x) (noted k h) (kind_says all k) (g.notes k);
      }

  -- what it keeps of the spoke
  pub over_own : (x h : ObjectView) → (g : GoesOver all s x h) → IsNoteOf g.spoke_kept (noted (spoke_key s.name) h)
  over_own x h g =
      let k = spoke_key s.name in
      let here : NoteOver s h.body g.spoke_kept (of_spoke s) (noted k x) (noted k h) =
      subst (λ (c : KeyKind). NoteOver s h.body g.spoke_kept c (noted k x) (noted k h)) (spoke_kind all v s def place) (g.notes k) in
      subst (λ (b : Bool). SpokeNoteOver b s h.body g.spoke_kept (noted k x) (noted k h)) (bytes_same s.name) here

  -- ---- an object goes over to one object

  note_over_one : (gb hb : Pairs) (es fs : List Entry) (c : KeyKind) (o p q : Option Name) → gb ≡ hb → es ≡ fs → NoteOver s gb es c o p → NoteOver s hb fs c o q → p ≡ q
  note_over_one gb hb es fs plain o p q e f a b = a ∙ sym b
  note_over_one gb hb es fs of_hub o p q e f a b = a ∙ sym b
  note_over_one gb hb es fs (of_spoke t) o p q e f a b = by_own (bytes_eq t.name s.name) a b
    where
      by_own : (c : Bool) → SpokeNoteOver c t gb es o p → SpokeNoteOver c t hb fs o q → p ≡ q
      by_own true a b = a.written ∙ ap note f ∙ sym b.written
      by_own false a b = judged_one laws.one t hb o p q (subst (λ (body : Pairs). IsJudged t body o p) e a) b
  note_over_one gb hb es fs of_none o p q e f a b = a ∙ sym b

  pub over_one : (x g h : ObjectView) → GoesOver all s x g → GoesOver all s x h → g ≡ h
  over_one x g h a b =
      let kept : a.hub_kept ≡ b.hub_kept = spells_one laws.one (noted hub_key x) a.hub_kept b.hub_kept a.spelled b.spelled in
      let held : with_entries g.body a.spoke_kept ≡ with_entries h.body b.spoke_kept = a.bodies ∙ ap (λ (es : List Entry). completed_over (fills_at all s) s.fit.level (with_entries x.body es)) kept ∙ sym b.bodies in
      let bodies : g.body ≡ h.body = ap (λ (y : Held). y.fields) held in
      let notes : g.meta.annotations ≡ h.meta.annotations =
      same_fields g.meta.annotations h.meta.annotations a.object.annotations b.object.annotations (λ k. note_over_one g.body h.body a.spoke_kept b.spoke_kept (key_kind all k) (noted k x) (noted k g) (noted k h) bodies (ap (λ (y : Held). y.entries) held) (a.notes k) (b.notes k)) in
      same_object g h (a.version ∙ sym b.version) (a.kind ∙ sym b.kind) (same_meta g.meta h.meta (a.meta ∙ sym b.meta) notes) bodies

  -- ---- what is paired with a whole object goes over to it

  note_goes : (body : Pairs) (ex eh : List Entry) (c : KeyKind) (o p : Option Name) → NotePair s ex eh c o p → WholeNote body c p → NoteOver s body eh c o p
  note_goes body ex eh plain o p a w = sym a
  note_goes body ex eh of_hub o p a w = a.1
  note_goes body ex eh (of_spoke t) o p a w = by_own (bytes_eq t.name s.name) a
    where
      by_own : (b : Bool) → SpokeNotePair b eh o p → SpokeNoteOver b t body eh o p
      by_own true a = a.1
      by_own false a = subst (IsJudged t body o) a (whole_judged t body o p a w)
  note_goes body ex eh of_none o p a w = w

  pub over_self : (x h : ObjectView) → IsWholeHub all h → IsPairOf all s x h → GoesOver all s x h
  over_self x h w p =
      let l = s.fit.level in
      let X = with_entries x.body p.hub_kept in
      let H = with_entries h.body p.spoke_kept in
      let whole = spoke_whole laws all v s def place x h w p in
      let living : settled_marks spoke l (marks_of spoke l X) ≡ marks_of spoke l X = good_settled spoke l (marks_of spoke l X) whole.good in
      let across : marks_of hub l H ≡ crossed spoke l (marks_of spoke l X) = (paired_crossed l (marks_of spoke l X) (marks_of hub l H) (ready laws all v s def place).fits p.bodies.cells).0 in
      let complete = complete_any l (fills_at all s) h.body [] p.spoke_kept (complete_at all all.items v s h.body w.complete place) in
      let same : filled l (fills_at all s) (marks_of hub l H) ≡ marks_of hub l H = complete_same l (fills_at all s) (marks_of hub l H) complete in
      let marks : over_marks x.body p.hub_kept ≡ marks_of hub l H = ap (crossed spoke l) living ∙ sym across in record {
        version = p.hub_version;
        kind = sym p.kind;
        meta = sym p.meta;
        object = w.object;
        hub_kept = p.hub_kept;
        spoke_kept = p.spoke_kept;
        spelled = (hub_pair_note laws all v s def place x h p).spelled;
        bodies = sym (ap (λ (m : Marked l). object_of hub l (filled l (fills_at all s) m)) marks ∙ ap (object_of hub l) same ∙ p.bodies.hub_rest);
        notes = λ k. note_goes h.body p.hub_kept p.spoke_kept (key_kind all k) (noted k x) (noted k h) (p.notes k) (w.notes k);
      }

  -- ---- it pairs with what is left of the object

  pub settle_pair : (x y h : ObjectView) → GoesOver all s x h → SettlesAtSpoke all s x y → IsPairOf all s y h
  settle_pair x y h g t = subst (IsPairOf all s y) (over_one x t.hub h t.over g) t.pair
