-- What the code makes, step by step, is what the definitions say.
use Rattle.std.proofs.Common.{◌≡◌, ◌≤◌, ℕ, List, [], ◌∷◌, true, Option, Some, None, refl, ap, sym, subst, ◌∙◌}
use Rattle.std.specs.Prelude.{slice_get}
use Rattle.kj_value.specs.Json.{members_of, depth}
use Rattle.kj_value.specs.Sound.{AreRising}
use Rattle.kj_value.specs.Fields.{Pairs, without_field, AreInOrder}
use Rattle.kube_meta.specs.View.{Texts, ObjectView}
use Rattle.kept_entries.specs.declared.entry.Entry.{Entry}
use Rattle.kept_entries.specs.declared.reading.TheConstants.{KEPT_LEVELS}
use Rattle.kept_entries.specs.Entry.{are_in_order}
use Rattle.kept_entries.specs.Text.{kept_json}
use Rattle.hub_cells.specs.Side.{Side, spoke, hub, other}
use Rattle.hub_cells.specs.Level.{Name}
use Rattle.hub_cells.specs.Fit.{Fit, IsFitted}
use Rattle.keep_laws.specs.Whole.{Held, IsWholeOnSide, marks_of}
use Rattle.keep_laws.specs.Known.{IsKnown}
use Rattle.keep_laws.specs.Settle.{IsAllowed, settled, converted}
use Rattle.keep_laws.specs.Complete.{completed, completed_over, IsComplete}
use Rattle.keep_laws.proofs.Back.{marks_back, hub_of}
use Rattle.keep_laws.proofs.Dead.{settled_whole, converted_whole}
use Rattle.keep_laws.specs.FittedBody.{IsBodyOf}
use Rattle.keep_laws.specs.Spokes.{Spoke, Spokes, IsDefinition, fills_at, api_version}
use Rattle.keep_laws.specs.Keys.{hub_key, spoke_key}
use Rattle.keep_laws.specs.Notes.{noted, Spells, IsNoteOf, with_note, with_entries}
use Rattle.keep_laws.specs.Pair.{IsPairOf}
use Rattle.keep_laws.specs.WholeHub.{IsHubBody, IsWholeHub, IsSettledAt}
use Rattle.keep_laws.specs.Judging.{Carries}
use Rattle.keep_laws.specs.Settling.{completed_first, completed_hub, SettlesAtHub}
use Rattle.keep_laws.specs.Over.{GoesOver}
use Rattle.keep_laws.specs.Given.{Laws}
use Rattle.keep_laws.proofs.Shallow.{whole_levels}
use Rattle.keep_laws.proofs.SpokeLevels.{ready_of, whole_over}
use Rattle.keep_laws.proofs.Notes.{spells_one, one_note}
use Rattle.keep_laws.proofs.Settled.{whole_known}
use Rattle.keep_laws.proofs.Marks.{object_whole, completed_converted}
use Rattle.keep_laws.proofs.Pairs.{ready, own_pair, whole_own, hub_pair_note, spoke_whole, settled_of}
use Rattle.keep_laws.proofs.Forms.{form_pair}
use Rattle.keep_laws.proofs.SpokesFitted.{fits, hub_body_at}
use Rattle.keep_laws.proofs.Hubs.{notes_over, over_marks, over_good, full_marks, full_good, full_back, full_complete, made_hub, over_own, over_self}

-- entries that can be written as an annotation
pub record IsWritable (es : List Entry) : Type 0 where
  pub order : are_in_order es ≡ true
  pub levels : depth (kept_json es) ≤ KEPT_LEVELS

pub whole_writable : Laws → (d : Side) (f : Fit) (y : Held) (es : List Entry) → IsFitted f → IsWholeOnSide d f.level y → es ≡ y.entries → IsWritable es
whole_writable laws d f y es h w e =
    subst IsWritable (sym e) (record { order = (laws.words d f.level y (ready_of f h) w).order; levels = whole_levels d f.level y w })

-- the entries that live beside a body
pub living_writable : Laws → (d : Side) (f : Fit) (x : Held) (es : List Entry) → IsFitted f → AreRising (members_of x.fields) → IsBodyOf d f x.fields → es ≡ (settled d f.level x).entries → IsWritable es
living_writable laws d f x es h rises b e =
    whole_writable laws d f (settled d f.level x) es h (settled_whole d f.level x (ready_of f h) (laws.allowed d f x h rises b)) e

over_from : Laws → (d : Side) (f : Fit) (x : Held) (y : Held) → IsFitted f → AreRising (members_of x.fields) → IsBodyOf d f x.fields → y ≡ converted d f.level x → IsWholeOnSide (other d) f.level y
over_from laws d f x y h rises b e =
    subst (IsWholeOnSide (other d) f.level) (sym e) (converted_whole d f.level x (ready_of f h) (laws.allowed d f x h rises b))

module _ (laws : Laws) (all : Spokes) (v : ℕ) (s : Spoke) (def : IsDefinition all) (place : slice_get all.items v ≡ Some s) where
  pub hub_made_whole : (body fields : Pairs) (es eh : List Entry) → AreRising (members_of body) → IsBodyOf spoke s.fit body → with_entries fields eh ≡ converted spoke s.fit.level (with_entries body es) → IsWholeOnSide hub s.fit.level (with_entries fields eh)
  hub_made_whole body fields es eh rises b e =
      over_from laws spoke s.fit (with_entries body es) (with_entries fields eh) (fits all v s def place) rises b e

  -- completed beside what is kept with it
  pub full_made : (body fields full : Pairs) (es eh : List Entry) → AreRising (members_of body) → IsBodyOf spoke s.fit body → with_entries fields eh ≡ converted spoke s.fit.level (with_entries body es) → full ≡ completed (fills_at all s) s.fit.level fields → with_entries full eh ≡ completed_over (fills_at all s) s.fit.level (with_entries body es)
  full_made body fields full es eh rises b e f =
      let l = s.fit.level in
      ap (λ (p : Pairs). with_entries p eh) f ∙ completed_converted (fills_at all s) l (with_entries body es) fields eh e (marks_back hub l (over_marks laws all v s def place body es) (ready_of s.fit (fits all v s def place)) (over_good laws all v s def place body es rises b))

  pub hub_made_body : (body fields full : Pairs) (es eh : List Entry) → AreRising (members_of body) → IsBodyOf spoke s.fit body → AreRising (members_of full) → with_entries fields eh ≡ converted spoke s.fit.level (with_entries body es) → full ≡ completed (fills_at all s) s.fit.level fields → IsHubBody all.items full
  hub_made_body body fields full es eh rises b after e f =
      let l = s.fit.level in
      let m = full_marks laws all v s def place body es in
      let same = full_made body fields full es eh rises b e f in
      let good = full_good laws all v s def place body es rises b in
      let made = made_hub laws all v s def place (with_entries full eh) after (subst (IsWholeOnSide hub l) (sym same) (object_whole hub l m (ready_of s.fit (fits all v s def place)) good)) (subst (IsComplete l (fills_at all s)) (sym (ap (marks_of hub l) same ∙ full_back laws all v s def place body es rises b)) (full_complete laws all v s def place body es rises b)) in
      made.0

  -- a body that came over has the names of the level and no others
  pub hub_made_known : (body fields : Pairs) (es eh : List Entry) → AreRising (members_of body) → IsBodyOf spoke s.fit body → with_entries fields eh ≡ converted spoke s.fit.level (with_entries body es) → IsKnown hub s.fit.level fields
  hub_made_known body fields es eh rises b e =
      whole_known hub s.fit.level (with_entries fields eh) (ready_of s.fit (fits all v s def place)) (hub_made_whole body fields es eh rises b e)

  pub hub_made_writable : (body fields : Pairs) (es eh : List Entry) → AreRising (members_of body) → IsBodyOf spoke s.fit body → with_entries fields eh ≡ converted spoke s.fit.level (with_entries body es) → IsWritable eh
  hub_made_writable body fields es eh rises b e =
      whole_writable laws hub s.fit (with_entries fields eh) eh (fits all v s def place) (hub_made_whole body fields es eh rises b e) refl

  pub goes_over : (x : ObjectView) (fields : Pairs) (notes after : Texts) (es eh : List Entry) (o : Option Name) → AreInOrder after → AreRising (members_of fields) → Spells (noted hub_key x) es → with_entries fields eh ≡ completed_over (fills_at all s) s.fit.level (with_entries x.body es)
      → Carries all (Some s.name) fields x.meta.annotations notes → IsNoteOf eh o → after ≡ with_note (spoke_key s.name) o notes
      → GoesOver all s x (record { api_version = api_version all.group all.hub; kind = x.kind; meta = record x.meta { annotations = after }; body = fields })
  goes_over x fields notes after es eh o order rises spelled bodies carried is e = record {
    version = refl;
    kind = refl;
    meta = refl;
    object = record { annotations = order; body = rises };
    hub_kept = es;
    spoke_kept = eh;
    spelled = spelled;
    bodies = bodies;
    notes = notes_over all v s def place fields eh o x.meta.annotations notes after carried is e;
  }

  -- what a settled object becomes is complete
  pub back_made : (x : ObjectView) → (t : IsSettledAt all s x) → (es : List Entry) → Spells (noted hub_key x) es → (fields : Pairs) (eh : List Entry) → with_entries fields eh ≡ converted spoke s.fit.level (with_entries x.body es) → (with_entries fields eh ≡ completed_over (fills_at all s) s.fit.level (with_entries x.body es)) × (fields ≡ t.hub.body)
  back_made x t es spelled fields eh e =
      let l = s.fit.level in
      let p = t.pair in
      let X = with_entries x.body p.hub_kept in
      let H = with_entries t.hub.body p.spoke_kept in
      let kept : es ≡ p.hub_kept = spells_one laws.one (noted hub_key x) es p.hub_kept spelled (hub_pair_note laws all v s def place x t.hub p).spelled in
      let whole = spoke_whole laws all v s def place x t.hub t.whole p in
      let same : converted spoke l X ≡ H = whole_over spoke l X whole ∙ sym ((hub_of l X (ready laws all v s def place) whole).only H p.bodies) in
      let here : with_entries fields eh ≡ H = e ∙ ap (λ (fs : List Entry). converted spoke l (with_entries x.body fs)) kept ∙ same in
      let g = over_self laws all v s def place x t.hub t.whole p in
      let own : p.spoke_kept ≡ g.spoke_kept = one_note laws.one (noted (spoke_key s.name) t.hub) p.spoke_kept g.spoke_kept (own_pair laws all v s def place x t.hub p).1 (over_own laws all v s def place x t.hub g) in
      let over : g.hub_kept ≡ es = spells_one laws.one (noted hub_key x) g.hub_kept es g.spelled spelled in
      let full : H ≡ completed_over (fills_at all s) l (with_entries x.body es) = ap (with_entries t.hub.body) own ∙ g.bodies ∙ ap (λ (fs : List Entry). completed_over (fills_at all s) l (with_entries x.body fs)) over in
      (here ∙ full, ap (λ (y : Held). y.fields) here)

  -- from the hub
  pub forms : (h : ObjectView) (fields : Pairs) (after : Texts) (ex eh : List Entry) (o : Option Name) → IsWholeHub all h → AreInOrder after → AreRising (members_of fields) → Spells (noted (spoke_key s.name) h) eh → IsNoteOf ex o → after ≡ with_note hub_key o (without_field (spoke_key s.name) h.meta.annotations) → with_entries fields ex ≡ converted hub s.fit.level (with_entries h.body eh)
      → IsPairOf all s (record { api_version = api_version all.group s.name; kind = h.kind; meta = record h.meta { annotations = after }; body = fields }) h
      × IsSettledAt all s (record { api_version = api_version all.group s.name; kind = h.kind; meta = record h.meta { annotations = after }; body = fields })
  forms h fields after ex eh o w order rises spelled is e bodies =
      let x : ObjectView = record { api_version = api_version all.group s.name; kind = h.kind; meta = record h.meta { annotations = after }; body = fields } in
      let pair = form_pair laws all v s def place x h ex eh o w spelled is e refl refl refl bodies in
      (pair, settled_of laws all v s def place x h (record { annotations = order; body = rises }) w pair)

  pub form_allowed : (h : ObjectView) → IsWholeHub all h → (es : List Entry) → IsAllowed hub s.fit.level (marks_of hub s.fit.level (with_entries h.body es))
  form_allowed h w es = laws.allowed hub s.fit (with_entries h.body es) (fits all v s def place) w.object.body (hub_body_at all.items v s h.body w.body place)

  pub form_writable : (h : ObjectView) (fields : Pairs) (ex eh : List Entry) → IsWholeHub all h → with_entries fields ex ≡ converted hub s.fit.level (with_entries h.body eh) → IsWritable ex
  form_writable h fields ex eh w e =
      whole_writable laws spoke s.fit (with_entries fields ex) ex (fits all v s def place) (over_from laws hub s.fit (with_entries h.body eh) (with_entries fields ex) (fits all v s def place) w.object.body (hub_body_at all.items v s h.body w.body place) e) refl

  -- what a whole object keeps of the spoke can be read
  pub form_reads : (h : ObjectView) → IsWholeHub all h → (es : List Entry) × Spells (noted (spoke_key s.name) h) es
  form_reads h w =
      let kept = whole_own laws all v s def place h w in
      (kept.0, kept.1.spelled)

-- an object of the hub, completed, with the annotations that were carried
pub settles_hub : (all : Spokes) (x : ObjectView) (full : Pairs) (notes : Texts) → AreInOrder notes → AreRising (members_of full) → full ≡ completed_hub all x.body → Carries all None full x.meta.annotations notes → SettlesAtHub all x (record x { meta = record x.meta { annotations = notes }; body = full })
settles_hub all x full notes order rises e carried = record {
  rest = record { version = refl; kind = refl; meta = refl; object = record { annotations = order; body = rises } };
  body = e;
  notes = carried;
}

-- the first spoke, at its place
pub first_is : (all : Spokes) (ss : List Spoke) (s : Spoke) (body : Pairs) → slice_get ss 0 ≡ Some s → completed (fills_at all s) s.fit.level body ≡ completed_first all ss body
first_is all [] s body e = absurd (cc)
first_is all (t ∷ ss) s body e = ap (λ (u : Spoke). completed (fills_at all u) u.fit.level body) (some_some s t (sym e))
  where
    some_some : (x y : Spoke) → Some x ≡ Some y → x ≡ y
    some_some x y q = cc
