-- Each whole object has a form at each version.
use Rattle.std.proofs.Common.{◌≡◌, ◌∙◌, ℕ, ◌≤◌, ◌<◌, List, [], ◌∷◌, true, Option, Some, None, Ordering, Less, Equal, Greater, cond, nat_cmp, is_eq, refl, ap, sym, subst}
use Rattle.std.specs.Prelude.{slice_get}
use Rattle.std.specs.Ordering.{match_ordering, ordering_reverse}
use Rattle.std.specs.Cmp.Lexicographic.{slice_cmp}
use Rattle.std.specs.Map.{keys_of}
use Rattle.std.proofs.lemmas.Cmp.{nat_list_cmp_total}
use Rattle.kj_value.specs.Json.{depth}
use Rattle.kj_value.specs.Sound.{IsSoundJson}
use Rattle.kj_value.specs.Fields.{with_field, without_field, IsBelowFirst, AreInOrder}
use Rattle.kube_meta.specs.View.{Texts, ObjectView}
use Rattle.kept_entries.specs.declared.entry.Entry.{Entry}
use Rattle.kept_entries.specs.declared.reading.TheConstants.{KEPT_LEVELS}
use Rattle.kept_entries.specs.Entry.{are_in_order}
use Rattle.kept_entries.specs.Text.{kept_json}
use Rattle.hub_cells.specs.Side.{spoke, hub}
use Rattle.hub_cells.specs.Level.{Name}
use Rattle.keep_laws.specs.Whole.{Held, IsWholeOnSide}
use Rattle.keep_laws.specs.Settle.{converted}
use Rattle.keep_laws.proofs.Dead.{converted_whole}
use Rattle.keep_laws.specs.Spokes.{Spoke, Spokes, IsDefinition, api_version}
use Rattle.keep_laws.specs.Keys.{hub_key, spoke_key}
use Rattle.keep_laws.specs.Notes.{Spells, note, IsNoteOf, IsObject, with_note, with_entries}
use Rattle.keep_laws.specs.Pair.{IsPairOf}
use Rattle.keep_laws.specs.WholeHub.{IsWholeHub}
use Rattle.keep_laws.specs.Given.{Laws}
use Rattle.keep_laws.proofs.Shallow.{whole_levels}
use Rattle.keep_laws.proofs.SpokeLevels.{whole_over}
use Rattle.keep_laws.proofs.SpokesFitted.{hub_body_at}
use Rattle.keep_laws.proofs.Pairs.{whole_own, ready}
use Rattle.keep_laws.proofs.Judged.{allowed}
use Rattle.keep_laws.proofs.Forms.{form_pair}
use Rattle.crd_meaning.specs.Definition.{Definition, Seat, at_hub, at_spoke, nowhere, seat, version_at, count_of, IsSeated, IsLoaded}
use Rattle.crd_meaning.specs.Objects.{IsWholeValue, PairsAt, IsFormAt}
use Rattle.crd_meaning.specs.Tables.{HasSoundTables}
use Rattle.crd_meaning.proofs.Seats.{seat_place}
use Rattle.crd_meaning.proofs.SoundParts.{SoundEntries, SoundHeld, other_sound, kept_json_sound, spelled_sound}

-- ---- annotations in order

greater_less : (k l : List ℕ) → slice_cmp nat_cmp k l ≡ Greater → slice_cmp nat_cmp l k ≡ Less
greater_less k l e = nat_list_cmp_total.antisymm l k ∙ ap ordering_reverse e

below_first-with : {V : Type 0} (l k : List ℕ) (v : V) (es : List (List ℕ × V)) → slice_cmp nat_cmp l k ≡ Less → IsBelowFirst l (keys_of es) → IsBelowFirst l (keys_of (with_field k v es))
below_first-with l k v [] p h = p
below_first-with {V} l k v (e ∷ es) p h = by_order (slice_cmp nat_cmp k e.0)
  where
    by_order : (o : Ordering) → IsBelowFirst l (keys_of (match_ordering o ((k, v) ∷ e ∷ es) ((e.0, v) ∷ es) (e ∷ with_field k v es)))
    by_order Less = p
    by_order Equal = h
    by_order Greater = h

order-with : {V : Type 0} (k : List ℕ) (v : V) (es : List (List ℕ × V)) → AreInOrder es → AreInOrder (with_field k v es)
order-with k v [] h = (tt, tt)
order-with {V} k v (e ∷ es) h = by_order (order-with k v es h.1) (slice_cmp nat_cmp k e.0) refl
  where
    by_order : AreInOrder (with_field k v es) → (o : Ordering) → slice_cmp nat_cmp k e.0 ≡ o → AreInOrder (match_ordering o ((k, v) ∷ e ∷ es) ((e.0, v) ∷ es) (e ∷ with_field k v es))
    by_order r Less q = (q, h)
    by_order r Equal q = h
    by_order r Greater q = (below_first-with e.0 k v es (greater_less k e.0 q) h.0, r)

below_first-tail : {V : Type 0} (l : List ℕ) (e : List ℕ × V) (es : List (List ℕ × V)) → IsBelowFirst l (keys_of (e ∷ es)) → AreInOrder (e ∷ es) → IsBelowFirst l (keys_of es)
below_first-tail l e [] p h = tt
below_first-tail l e (f ∷ es) p h = nat_list_cmp_total.trans l e.0 f.0 p h.0

below_first-without : {V : Type 0} (l k : List ℕ) (es : List (List ℕ × V)) → IsBelowFirst l (keys_of es) → AreInOrder es → IsBelowFirst l (keys_of (without_field k es))
below_first-without l k [] p h = tt
below_first-without {V} l k (e ∷ es) p h = by_order (slice_cmp nat_cmp k e.0)
  where
    by_order : (o : Ordering) → IsBelowFirst l (keys_of (cond (is_eq o) es (e ∷ without_field k es)))
    by_order Less = p
    by_order Equal = below_first-tail l e es p h
    by_order Greater = p

order-without : {V : Type 0} (k : List ℕ) (es : List (List ℕ × V)) → AreInOrder es → AreInOrder (without_field k es)
order-without k [] h = tt
order-without {V} k (e ∷ es) h = by_order (order-without k es h.1) (slice_cmp nat_cmp k e.0)
  where
    by_order : AreInOrder (without_field k es) → (o : Ordering) → AreInOrder (cond (is_eq o) es (e ∷ without_field k es))
    by_order r Less = (below_first-without e.0 k es h.0 h.1, r)
    by_order r Equal = h.1
    by_order r Greater = (below_first-without e.0 k es h.0 h.1, r)

order-note : (k : Name) (o : Option Name) (ns : Texts) → AreInOrder ns → AreInOrder (with_note k o ns)
order-note k None ns h = h
order-note k (Some t) ns h = order-with k t ns h

spells_sound : (o : Option Name) (es : List Entry) → Spells o es → SoundEntries es
spells_sound None es e = subst SoundEntries (sym e) tt
spells_sound (Some t) es k = spelled_sound es k.text.sound

note_of : (es : List Entry) → are_in_order es ≡ true → depth (kept_json es) ≤ KEPT_LEVELS → IsSoundJson (kept_json es) → IsNoteOf es (note es)
note_of [] o l s = record { spelled = refl; written = refl }
note_of (e ∷ es) o l s = record { spelled = record { text = record { spelled = refl; levels = l; sound = s }; order = o }; written = refl }

module _ (laws : Laws) (all : Spokes) (v : ℕ) (s : Spoke) (def : IsDefinition all) (place : slice_get all.items v ≡ Some s) where
  pub spoke_form : HasSoundTables s.fit.level → (h : ObjectView) → IsWholeHub all h → (x : ObjectView) × (IsObject x × IsPairOf all s x h)
  spoke_form tables h w =
      let own = whole_own laws all v s def place h w in
      let held : Held = with_entries h.body own.0 in
      let made : Held = converted hub s.fit.level held in
      let whole : IsWholeOnSide spoke s.fit.level made = converted_whole hub s.fit.level held (ready laws all v s def place) (allowed laws all v s def place hub h.body own.0 w.object.body (hub_body_at all.items v s h.body w.body place)) in
      let sound : SoundHeld made = subst SoundHeld (sym (whole_over hub s.fit.level held own.2)) (other_sound s.fit.level held tables (w.object.body, spells_sound _ own.0 own.1.spelled)) in
      let is = note_of made.entries (laws.words spoke s.fit.level made (ready laws all v s def place) whole).order (whole_levels spoke s.fit.level made whole) (kept_json_sound made.entries sound.1) in
      let x : ObjectView = record {
        api_version = api_version all.group s.name;
        kind = h.kind;
        meta = record h.meta { annotations = with_note hub_key (note made.entries) (without_field (spoke_key s.name) h.meta.annotations) };
        body = made.fields;
      } in (
        x,
        (
          record {
            annotations = order-note hub_key (note made.entries) (without_field (spoke_key s.name) h.meta.annotations) (order-without (spoke_key s.name) h.meta.annotations w.object.annotations);
            body = sound.0;
          },
          form_pair laws all v s def place x h made.entries own.0 (note made.entries) w own.1.spelled is refl refl refl refl refl,
        ),
      )

module _ (laws : Laws) (d : Definition) (loaded : IsLoaded d) where
  form_at : (v : ℕ) (h : ObjectView) → IsWholeValue d h → (z : Seat) → seat d v ≡ z → IsSeated (version_at d v) z → (x : ObjectView) × PairsAt d.spokes z h x
  form_at v h w at_hub e q = (h, refl)
  form_at v h w (at_spoke s) e q =
      let here = seat_place d v s e in
      spoke_form laws d.spokes here.at s loaded.definition here.found (loaded.tables here.at s here.found) h w.hub
  form_at v h w nowhere e q = absurd q

  pub has_form : (v : ℕ) (h : ObjectView) → v < count_of d → IsWholeValue d h → (x : ObjectView) × IsFormAt d v h x
  has_form v h known w = form_at v h w (seat d v) refl (loaded.seats v known)
