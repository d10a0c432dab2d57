-- The shape that the code makes at the hub is what each object goes over to.
use Rattle.std.proofs.Common.{◌≡◌, ◌∙◌, ℕ, List, Option, Some, Result, IfOk, ap, sym, subst}
use Rattle.std.specs.Prelude.{slice_get}
use Rattle.kj_value.specs.Json.{members_of}
use Rattle.kj_value.specs.Fields.{Pairs, field, without_field}
use Rattle.kj_value.specs.Sound.{AreRising}
use Rattle.kube_meta.specs.View.{Texts, ObjectView}
use Rattle.kube_meta.specs.Shapes.{shaped}
use Rattle.kube_meta.specs.declared.object.Shape.{Shape}
use Rattle.kept_entries.specs.declared.entry.Entry.{Entry}
use Rattle.hub_cells.specs.Side as sides
use Rattle.hub_cells.specs.Level.{Name}
use Rattle.keep_laws.specs.FittedBody.{IsBodyOf}
use Rattle.keep_laws.specs.Settle.{converted}
use Rattle.keep_laws.specs.Complete.{completed, completed_over}
use Rattle.keep_laws.specs.Spokes.{Spoke, Spokes, IsDefinition, fills_at, api_version}
use Rattle.keep_laws.specs.Keys.{hub_key, spoke_key}
use Rattle.keep_laws.specs.Notes.{noted, Spells, IsNoteOf, with_note, with_entries}
use Rattle.keep_laws.specs.Pair.{IsPairOf}
use Rattle.keep_laws.specs.WholeHub.{IsWholeHub, IsSettledAt}
use Rattle.keep_laws.specs.Judging.{Carries}
use Rattle.keep_laws.specs.Over.{GoesOver}
use Rattle.keep_laws.specs.Given.{Laws}
use Rattle.keep_laws.proofs.Made.{full_made, hub_made_body, hub_made_writable, goes_over, back_made, forms}
use Rattle.spoke_keep.specs.inner.Shaping.{IsMadeOf, ComesOver, IsShapeOf, ShapesOver}
use Rattle.spoke_keep.proofs.Alive.{carried_as_is}
use Rattle.spoke_keep.proofs.Steps.{if_ok, version_of}

pub comes_over : Laws → (all : Spokes) (v : ℕ) (s : Spoke) → IsDefinition all → slice_get all.items v ≡ Some s → (body fields full : Pairs) (es eh : List Entry) → AreRising (members_of body) → IsBodyOf sides.spoke s.fit body → AreRising (members_of full)
    → with_entries fields eh ≡ converted sides.spoke s.fit.level (with_entries body es) → full ≡ completed (fills_at all s) s.fit.level fields → ComesOver all s body es full eh
comes_over laws all v s def place body fields full es eh rises b after e f =
    let writable = hub_made_writable laws all v s def place body fields es eh rises b e in record {
      made = full_made laws all v s def place body fields full es eh rises b e f;
      at_hub = hub_made_body laws all v s def place body fields full es eh rises b after e f;
      order = writable.order;
      levels = writable.levels;
    }

pub is_shape : {E : Type 0} (all : Spokes) (s : Spoke) (body : Pairs) (es : List Entry) (ns after : Texts) (k g h : Name) → k ≡ spoke_key s.name → g ≡ all.group → h ≡ all.hub → (o : Option Name) × IsNoteOf es o × (after ≡ with_note k o ns) → (r : Result Shape E) → IfOk r (λ p. IsMadeOf (api_version g h) after body p) → IfOk r (λ p. IsShapeOf all s body es ns p)
is_shape all s body es ns after k g h ek eg eh n r made =
    if_ok (λ (p : Shape). IsMadeOf (api_version g h) after body p) (λ (p : Shape). IsShapeOf all s body es ns p) r (λ p m. record {
      version = version_of g h all.group all.hub p.version.bytes m.named eg eh;
      fields = m.fields;
      note = n.0;
      is = n.1;
      put = m.noted ∙ n.2 ∙ ap (λ (j : Name). with_note j n.0 ns) ek;
      order = m.order;
      rises = m.rises;
    }) made

-- the shape that is made of a whole object's body and annotations is that of its form at the spoke
pub shapes_form : Laws → (all : Spokes) (v : ℕ) (s : Spoke) → IsDefinition all → slice_get all.items v ≡ Some s → (h : ObjectView) → IsWholeHub all h → (fields : Pairs) (left : List Entry) (notes : Texts) (k g n : Name) → k ≡ spoke_key s.name → g ≡ all.group → n ≡ s.name
    → (es : List Entry) × Spells (noted (spoke_key s.name) h) es × (with_entries fields left ≡ converted sides.hub s.fit.level (with_entries h.body es)) → (o : Option Name) × IsNoteOf left o × (notes ≡ with_note hub_key o (without_field k h.meta.annotations)) → (p : Shape) → IsMadeOf (api_version g n) notes fields p → IsPairOf all s (shaped p h) h × IsSettledAt all s (shaped p h)
shapes_form laws all v s def place h whole fields left notes k g n ek eg en made put p m =
    let after : p.notes ≡ with_note hub_key put.0 (without_field (spoke_key s.name) h.meta.annotations) = m.noted ∙ put.2 ∙ ap (λ (j : Name). with_note hub_key put.0 (without_field j h.meta.annotations)) ek in
    subst (λ (w : Name). Both (record { api_version = w; kind = h.kind; meta = record h.meta { annotations = p.notes }; body = p.body })) (sym (version_of g n all.group s.name p.version.bytes m.named eg en)) (
    subst (λ (b : Pairs). Both (record { api_version = api_version all.group s.name; kind = h.kind; meta = record h.meta { annotations = p.notes }; body = b })) (sym m.fields) (
    forms laws all v s def place h fields p.notes left made.0 put.0 whole m.order m.rises made.1 put.1 after made.2
    ))
  where
    Both : ObjectView → Type 0
    Both x = IsPairOf all s x h × IsSettledAt all s x

pub shapes : Laws → (all : Spokes) (v : ℕ) (s : Spoke) → IsDefinition all → slice_get all.items v ≡ Some s → (body fields : Pairs) (ns notes : Texts) (es eh : List Entry) (p : Shape) → Spells (field hub_key ns) es
    → with_entries fields eh ≡ completed_over (fills_at all s) s.fit.level (with_entries body es) → Carries all (Some s.name) fields ns notes → IsShapeOf all s fields eh notes p → ShapesOver all s body ns p
shapes laws all v s def place body fields ns notes es eh p spelled made carried h =
    λ x eb ea.
    let spelled_x : Spells (field hub_key x.meta.annotations) es = subst (λ (t : Texts). Spells (field hub_key t) es) (sym ea) spelled in
    let made_x : with_entries fields eh ≡ completed_over (fills_at all s) s.fit.level (with_entries x.body es) = subst (λ (b : Pairs). with_entries fields eh ≡ completed_over (fills_at all s) s.fit.level (with_entries b es)) (sym eb) made in
    let carried_x : Carries all (Some s.name) fields x.meta.annotations notes = subst (λ (t : Texts). Carries all (Some s.name) fields t notes) (sym ea) carried in
    subst (λ (w : Name). GoesOver all s x (record { api_version = w; kind = x.kind; meta = record x.meta { annotations = p.notes }; body = p.body })) (sym h.version) (
    subst (λ (b : Pairs). GoesOver all s x (record { api_version = api_version all.group all.hub; kind = x.kind; meta = record x.meta { annotations = p.notes }; body = b })) (sym h.fields) (
    goes_over laws all v s def place x fields notes p.notes es eh h.note h.order h.rises spelled_x made_x carried_x h.is h.put
    ))

-- nothing is dead or lacking in a settled object: what comes over of it is the whole body already
pub shapes_back : {E : Type 0} → Laws → (all : Spokes) (v : ℕ) (s : Spoke) → IsDefinition all → slice_get all.items v ≡ Some s → (x : ObjectView) → IsSettledAt all s x → (body : Pairs) (ns : Texts) → x.body ≡ body → x.meta.annotations ≡ ns → (fields : Pairs) (eh : List Entry)
    → (es : List Entry) × Spells (field hub_key ns) es × (with_entries fields eh ≡ converted sides.spoke s.fit.level (with_entries body es)) → (k : Name) → k ≡ hub_key → (notes : Texts) → notes ≡ without_field k ns → (r : Result Shape E) → IfOk r (λ p. IsShapeOf all s fields eh notes p) → IfOk r (λ p. ShapesOver all s body ns p)
shapes_back laws all v s def place x t body ns eb ea fields eh made k ek notes en r h =
    let es = made.0 in
    let made_x : with_entries fields eh ≡ converted sides.spoke s.fit.level (with_entries x.body es) = subst (λ (b : Pairs). with_entries fields eh ≡ converted sides.spoke s.fit.level (with_entries b es)) (sym eb) made.2 in
    let spelled_x : Spells (field hub_key x.meta.annotations) es = subst (λ (ms : Texts). Spells (field hub_key ms) es) (sym ea) made.1 in
    let both = back_made laws all v s def place x t es spelled_x fields eh made_x in
    let full : with_entries fields eh ≡ completed_over (fills_at all s) s.fit.level (with_entries body es) = both.0 ∙ ap (λ (b : Pairs). completed_over (fills_at all s) s.fit.level (with_entries b es)) eb in
    let left : notes ≡ without_field hub_key ns = en ∙ ap (λ (j : Name). without_field j ns) ek in
    let as_is = subst (λ (b : Pairs). Carries all (Some s.name) b x.meta.annotations (without_field hub_key x.meta.annotations)) (sym both.1) (carried_as_is all s x t) in
    let carried : Carries all (Some s.name) fields ns notes = subst (Carries all (Some s.name) fields ns) (sym left) (subst (λ (ms : Texts). Carries all (Some s.name) fields ms (without_field hub_key ms)) ea as_is) in
    if_ok (λ (p : Shape). IsShapeOf all s fields eh notes p) (λ (p : Shape). ShapesOver all s body ns p) r (λ p q. shapes laws all v s def place body fields ns notes es eh p made.1 full carried q) h
