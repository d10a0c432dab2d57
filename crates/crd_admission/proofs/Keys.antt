-- The annotations that an object takes to the hub keep the rule of their keys.
use Rattle.std.proofs.Common.{◌≡◌, List, [], ◌∷◌, Bool, true, false, bytes_eq, Option, Some, None, refl, ap, sym, subst, ◌∙◌}
use Rattle.std.specs.Prelude.{nat_eq, if◌then◌else◌}
use Rattle.std.specs.List.{list_all, starts_with}
use Rattle.std.proofs.lemmas.Slice.Eq.{bytes_eq-Decides}
use Rattle.kj_value.specs.Fields.{Pairs}
use Rattle.kube_meta.specs.View.{ObjectView}
use Rattle.kept_entries.specs.declared.entry.Entry.{Entry}
use Rattle.hub_cells.specs.Level.{Name}
use Rattle.object_reading.specs.Labels.{is_annotation_key}
use Rattle.object_reading.specs.Keeping.{is_annotation_pair}
use Rattle.keep_laws.specs.Spokes.{Spoke, Spokes}
use Rattle.keep_laws.specs.Keys.{hub_key, spoke_prefix, spoke_key, KeyKind, plain, of_hub, of_spoke, of_none, kind_among, key_kind}
use Rattle.keep_laws.specs.Notes.{noted}
use Rattle.keep_laws.specs.Judging.{IsJudged, OtherNote}
use Rattle.keep_laws.specs.Settling.{SettlesAtHub}
use Rattle.keep_laws.specs.Over.{SpokeNoteOver, NoteOver, GoesOver}
use Rattle.crd_meaning.proofs.Annotations.{found, all_found}

-- ---- whose annotation a key is of

spoke_one : (s t : Spoke) → of_spoke s ≡ of_spoke t → s ≡ t
spoke_one s t e = cc

among_spoke : (ss : List Spoke) (k : Name) (t : Spoke) → kind_among k ss ≡ of_spoke t → k ≡ spoke_key t.name
among_spoke [] k t e = absurd (cc)
among_spoke (u ∷ ss) k t e = by_test (bytes_eq k (spoke_key u.name)) refl e (among_spoke ss k t)
  where
    by_test : (b : Bool) → bytes_eq k (spoke_key u.name) ≡ b → (if b then of_spoke u else kind_among k ss) ≡ of_spoke t → (kind_among k ss ≡ of_spoke t → k ≡ spoke_key t.name) → k ≡ spoke_key t.name
    by_test true q e later =
        (bytes_eq-Decides k (spoke_key u.name)).0 q ∙ ap (λ (s : Spoke). spoke_key s.name) (spoke_one u t e)
    by_test false q e later = later e

spoke_named : (all : Spokes) (k : Name) (t : Spoke) → key_kind all k ≡ of_spoke t → k ≡ spoke_key t.name
spoke_named all k t e = by_hub (bytes_eq k hub_key) (starts_with nat_eq k spoke_prefix) e
  where
    by_hub : (a b : Bool) → (if a then of_hub else (if b then kind_among k all.items else plain)) ≡ of_spoke t → k ≡ spoke_key t.name
    by_hub true b e = absurd (cc)
    by_hub false true e = among_spoke all.items k t e
    by_hub false false e = absurd (cc)

-- ---- one annotation, o of the object and p at the hub

none_some : (p : Option Name) (t : Name) → p ≡ None → p ≡ Some t → ⊥
none_some p t a b = let e : None ≡ Some t = sym a ∙ b in cc

-- what is judged to stay was there
judged_there : (s : Spoke) (body : Pairs) (o p : Option Name) (t : Name) → p ≡ Some t → IsJudged s body o p → (u : Name) × (o ≡ Some u)
judged_there s body None p t e j = absurd (none_some p t j e)
judged_there s body (Some u) p t e j = (u, refl)

abbrev Ruled : Name → Option Name → Type 0
Ruled k o = (u : Name) → o ≡ Some u → is_annotation_key k ≡ true

over_ruled : (s : Spoke) (hubs : Pairs) (es : List Entry) (k : Name) (c : KeyKind) (o p : Option Name) (t : Name)
    → ((u : Spoke) → c ≡ of_spoke u → k ≡ spoke_key u.name) → is_annotation_key (spoke_key s.name) ≡ true → Ruled k o
    → NoteOver s hubs es c o p → p ≡ Some t → is_annotation_key k ≡ true
over_ruled s hubs es k plain o p t named own r a e = r t (sym a ∙ e)
over_ruled s hubs es k of_hub o p t named own r a e = absurd (none_some p t a e)
over_ruled s hubs es k (of_spoke u) o p t named own r a e = by_own (bytes_eq u.name s.name) refl a
  where
    by_own : (b : Bool) → bytes_eq u.name s.name ≡ b → SpokeNoteOver b u hubs es o p → is_annotation_key k ≡ true
    by_own true q a =
        let same : u.name ≡ s.name = (bytes_eq-Decides u.name s.name).0 q in
        subst (λ (l : Name). is_annotation_key l ≡ true) (sym (named u refl ∙ ap spoke_key same)) own
    by_own false q a = let was = judged_there u hubs o p t e a in r was.0 was.1
over_ruled s hubs es k of_none o p t named own r a e = absurd (none_some p t a e)

settled_ruled : (body : Pairs) (k : Name) (c : KeyKind) (o p : Option Name) (t : Name) → Ruled k o → OtherNote None body c o p → p ≡ Some t → is_annotation_key k ≡ true
settled_ruled body k plain o p t r a e = r t (sym a ∙ e)
settled_ruled body k of_hub o p t r a e = absurd (none_some p t a e)
settled_ruled body k (of_spoke s) o p t r a e = let was = judged_there s body o p t e a in r was.0 was.1
settled_ruled body k of_none o p t r a e = absurd (none_some p t a e)

-- ---- all of them

pub over_keys : (all : Spokes) (s : Spoke) (x h : ObjectView) → is_annotation_key (spoke_key s.name) ≡ true
    → list_all is_annotation_pair x.meta.annotations ≡ true → GoesOver all s x h → list_all is_annotation_pair h.meta.annotations ≡ true
over_keys all s x h own r g =
    all_found h.meta.annotations g.object.annotations (λ k t e. over_ruled s h.body g.spoke_kept k (key_kind all k) (noted k x) (noted k h) t (spoke_named all k) own (λ u q. found x.meta.annotations k u r q) (g.notes k) e)

pub settled_keys : (all : Spokes) (x h : ObjectView) → list_all is_annotation_pair x.meta.annotations ≡ true
    → SettlesAtHub all x h → list_all is_annotation_pair h.meta.annotations ≡ true
settled_keys all x h r l =
    all_found h.meta.annotations l.rest.object.annotations (λ k t e. settled_ruled h.body k (key_kind all k) (noted k x) (noted k h) t (λ u q. found x.meta.annotations k u r q) (l.notes k) e)
