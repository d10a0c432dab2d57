-- The object of a spoke that is made of a whole one of the hub pairs with it.
use Rattle.std.proofs.Common.{◌≡◌, ℕ, List, ◌⊎◌, inl, inr, Bool, bytes_eq, Option, Some, None, ap, sym, subst, ◌∙◌}
use Rattle.std.specs.Prelude.{slice_get}
use Rattle.kj_value.specs.Fields.{field, without_field}
use Rattle.kube_meta.specs.View.{ObjectView}
use Rattle.kept_entries.specs.declared.entry.Entry.{Entry}
use Rattle.hub_cells.specs.Side.{hub}
use Rattle.hub_cells.specs.Level.{Name}
use Rattle.keep_laws.specs.Whole.{Held, IsWholeOnSide, IsPair}
use Rattle.keep_laws.specs.Settle.{converted}
use Rattle.keep_laws.proofs.Fields.{bytes_same, bytes_other}
use Rattle.keep_laws.specs.Spokes.{Spoke, Spokes, IsDefinition, api_version}
use Rattle.keep_laws.specs.Keys.{hub_key, spoke_key, KeyKind, plain, of_hub, of_spoke, of_none, key_kind}
use Rattle.keep_laws.specs.Notes.{noted, Spells, IsNoteOf, with_note, with_entries, without_notes}
use Rattle.keep_laws.specs.Pair.{SpokeNotePair, NotePair, IsPairOf}
use Rattle.keep_laws.specs.WholeHub.{WholeNote, IsWholeHub}
use Rattle.keep_laws.specs.Given.{Laws}
use Rattle.keep_laws.proofs.Texts.{name_cases, field_gone, field_stays}
use Rattle.keep_laws.proofs.Keys.{hub_kind, spoke_kind, spoke_no_hub, KindSays, kind_says}
use Rattle.keep_laws.proofs.SpokeLevels.{hub_pair}
use Rattle.keep_laws.proofs.Notes.{spells_one, with_note-same, with_note-other}
use Rattle.keep_laws.proofs.Pairs.{whole_own, ready}

-- an annotation that is equal on both sides and of none of the two
other_pair : (all : Spokes) (s : Spoke) (ex eh : List Entry) (k : Name) (c : KeyKind) (o p : Option Name) → KindSays all k c → (k ≡ hub_key → ⊥) → (k ≡ spoke_key s.name → ⊥) → o ≡ p → NotePair s ex eh c o p
other_pair all s ex eh k plain o p h n m e = e
other_pair all s ex eh k of_hub o p h n m e = absurd (n h)
other_pair all s ex eh k (of_spoke t) o p h n m e = by_name (name_cases t.name s.name)
  where
    by_name : (t.name ≡ s.name) ⊎ (t.name ≡ s.name → ⊥) → SpokeNotePair (bytes_eq t.name s.name) eh o p
    by_name (inl q) = absurd (m (h.0 ∙ ap spoke_key q))
    by_name (inr q) = subst (λ (b : Bool). SpokeNotePair b eh o p) (sym (bytes_other t.name s.name q)) e
other_pair all s ex eh k of_none o p h n m e = e

module _ (laws : Laws) (all : Spokes) (v : ℕ) (s : Spoke) (def : IsDefinition all) (place : slice_get all.items v ≡ Some s) where
  -- ex, with the annotation o, is kept of the hub, and eh is what the hub's object keeps of the spoke
  module _ (x h : ObjectView) (ex eh : List Entry) (o : Option Name) (w : IsWholeHub all h) (spelled : Spells (noted (spoke_key s.name) h) eh) (is : IsNoteOf ex o)
      (notes : x.meta.annotations ≡ with_note hub_key o (without_field (spoke_key s.name) h.meta.annotations)) where
    kept_is : (whole_own laws all v s def place h w).0 ≡ eh
    kept_is =
        let kept = whole_own laws all v s def place h w in
        spells_one laws.one (noted (spoke_key s.name) h) kept.0 eh kept.1.spelled spelled

    no_hub : noted hub_key h ≡ None
    no_hub = subst (λ (c : KeyKind). WholeNote h.body c (noted hub_key h)) (hub_kind all) (w.notes hub_key)

    at_hub : noted hub_key x ≡ o
    at_hub =
        ap (field hub_key) notes ∙ with_note-same hub_key o (without_field (spoke_key s.name) h.meta.annotations) (field_stays hub_key (spoke_key s.name) h.meta.annotations (λ q. spoke_no_hub s.name (sym q)) ∙ no_hub)

    at_own : noted (spoke_key s.name) x ≡ None
    at_own =
        ap (field (spoke_key s.name)) notes ∙ with_note-other (spoke_key s.name) hub_key o (without_field (spoke_key s.name) h.meta.annotations) (spoke_no_hub s.name) ∙ field_gone (spoke_key s.name) h.meta.annotations w.object.annotations

    at_other : (k : Name) → (k ≡ hub_key → ⊥) → (k ≡ spoke_key s.name → ⊥) → noted k x ≡ noted k h
    at_other k n m =
        ap (field k) notes ∙ with_note-other k hub_key o (without_field (spoke_key s.name) h.meta.annotations) n ∙ field_stays k (spoke_key s.name) h.meta.annotations m

    own_note : IsNoteOf eh (noted (spoke_key s.name) h)
    own_note = subst (λ (es : List Entry). IsNoteOf es (noted (spoke_key s.name) h)) kept_is (whole_own laws all v s def place h w).1

    own_whole : IsWholeOnSide hub s.fit.level (with_entries h.body eh)
    own_whole = subst (λ (es : List Entry). IsWholeOnSide hub s.fit.level (with_entries h.body es)) kept_is (whole_own laws all v s def place h w).2

    note_pair : (k : Name) → NotePair s ex eh (key_kind all k) (noted k x) (noted k h)
    note_pair k = by_hub (name_cases k hub_key)
      where
        own_kind : NotePair s ex eh (key_kind all (spoke_key s.name)) (noted (spoke_key s.name) x) (noted (spoke_key s.name) h)
        own_kind =
            let pair : SpokeNotePair (bytes_eq s.name s.name) eh (noted (spoke_key s.name) x) (noted (spoke_key s.name) h) =
            subst (λ (b : Bool). SpokeNotePair b eh (noted (spoke_key s.name) x) (noted (spoke_key s.name) h)) (sym (bytes_same s.name)) (at_own, own_note) in
            subst (λ (c : KeyKind). NotePair s ex eh c (noted (spoke_key s.name) x) (noted (spoke_key s.name) h)) (sym (spoke_kind all v s def place)) pair

        hub_note : NotePair s ex eh (key_kind all hub_key) (noted hub_key x) (noted hub_key h)
        hub_note =
            subst (λ (c : KeyKind). NotePair s ex eh c (noted hub_key x) (noted hub_key h)) (sym (hub_kind all)) (subst (IsNoteOf ex) (sym at_hub) is, no_hub)

        by_own : (k ≡ hub_key → ⊥) → (k ≡ spoke_key s.name) ⊎ (k ≡ spoke_key s.name → ⊥) → NotePair s ex eh (key_kind all k) (noted k x) (noted k h)
        by_own n (inl q) = subst (λ (j : Name). NotePair s ex eh (key_kind all j) (noted j x) (noted j h)) (sym q) own_kind
        by_own n (inr m) = other_pair all s ex eh k (key_kind all k) (noted k x) (noted k h) (kind_says all k) n m (at_other k n m)

        by_hub : (k ≡ hub_key) ⊎ (k ≡ hub_key → ⊥) → NotePair s ex eh (key_kind all k) (noted k x) (noted k h)
        by_hub (inl q) = subst (λ (j : Name). NotePair s ex eh (key_kind all j) (noted j x) (noted j h)) (sym q) hub_note
        by_hub (inr n) = by_own n (name_cases k (spoke_key s.name))

    pub form_pair : x.api_version ≡ api_version all.group s.name → x.kind ≡ h.kind → without_notes x.meta ≡ without_notes h.meta → with_entries x.body ex ≡ converted hub s.fit.level (with_entries h.body eh) → IsPairOf all s x h
    form_pair version kind meta bodies = record {
      spoke_version = version;
      hub_version = w.version;
      kind = kind;
      meta = meta;
      hub_kept = ex;
      spoke_kept = eh;
      notes = note_pair;
      bodies = subst (λ (y : Held). IsPair s.fit.level y (with_entries h.body eh)) (sym bodies) (hub_pair s.fit.level (with_entries h.body eh) (ready laws all v s def place) own_whole);
    }

    pub form_whole : IsWholeOnSide hub s.fit.level (with_entries h.body eh)
    form_whole = own_whole
