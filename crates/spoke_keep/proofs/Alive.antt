-- Of an object that is settled, all that its annotations keep is alive: they are carried to the hub as they are.
use Rattle.std.proofs.Common.{◌≡◌, List, ◌⊎◌, inl, inr, Bool, true, false, bytes_eq, Option, Some, refl, sym, subst, ◌∙◌}
use Rattle.kj_value.specs.Fields.{Pairs, field, without_field}
use Rattle.kube_meta.specs.View.{ObjectView}
use Rattle.kept_entries.specs.declared.entry.Entry.{Entry}
use Rattle.hub_cells.specs.Level.{Name}
use Rattle.keep_laws.specs.Spokes.{Spoke, Spokes}
use Rattle.keep_laws.specs.Keys.{hub_key, KeyKind, plain, of_hub, of_spoke, of_none, key_kind}
use Rattle.keep_laws.specs.Notes.{noted, Spells}
use Rattle.keep_laws.specs.Pair.{SpokeNotePair, NotePair}
use Rattle.keep_laws.specs.WholeHub.{WholeNote, IsSettledAt}
use Rattle.keep_laws.specs.Judging.{SpokeNote, OtherNote, Carries}
use Rattle.keep_laws.proofs.Texts.{name_cases, field_gone, field_stays}
use Rattle.keep_laws.proofs.Keys.{hub_kind, KindSays, kind_says}
use Rattle.keep_laws.proofs.Judged.{whole_judged}

-- what a settled object keeps of the hub can be read
pub settled_reads : (all : Spokes) (s : Spoke) (x : ObjectView) → IsSettledAt all s x → (es : List Entry) × Spells (noted hub_key x) es
settled_reads all s x t =
    let pair : NotePair s t.pair.hub_kept t.pair.spoke_kept of_hub (noted hub_key x) (noted hub_key t.hub) = subst (λ (c : KeyKind). NotePair s t.pair.hub_kept t.pair.spoke_kept c (noted hub_key x) (noted hub_key t.hub)) (hub_kind all) (t.pair.notes hub_key) in
    (t.pair.hub_kept, pair.0.spelled)

-- an annotation of a pair, other than the hub's own, is carried as it is
stays_carried : (s : Spoke) (hubs : Pairs) (ex eh : List Entry) (k : Name) (c : KeyKind) (all : Spokes) (o p : Option Name) → KindSays all k c → (k ≡ hub_key → ⊥) → NotePair s ex eh c o p → WholeNote hubs c p → OtherNote (Some s.name) hubs c o o
stays_carried s hubs ex eh k plain all o p h n a w = refl
stays_carried s hubs ex eh k of_hub all o p h n a w = absurd (n h)
stays_carried s hubs ex eh k (of_spoke t) all o p h n a w = by_own (bytes_eq t.name s.name) a
  where
    by_own : (b : Bool) → SpokeNotePair b eh o p → SpokeNote b t hubs o o
    by_own true a = a.0
    by_own false a = whole_judged t hubs o p a w
stays_carried s hubs ex eh k of_none all o p h n a w = a ∙ w

module _ (all : Spokes) (s : Spoke) (x : ObjectView) (t : IsSettledAt all s x) where
  pub carried_as_is : Carries all (Some s.name) t.hub.body x.meta.annotations (without_field hub_key x.meta.annotations)
  carried_as_is k = by_hub (name_cases k hub_key)
    where
      at_hub : OtherNote (Some s.name) t.hub.body (key_kind all hub_key) (noted hub_key x) (field hub_key (without_field hub_key x.meta.annotations))
      at_hub =
          subst (λ (c : KeyKind). OtherNote (Some s.name) t.hub.body c (noted hub_key x) (field hub_key (without_field hub_key x.meta.annotations))) (sym (hub_kind all)) (field_gone hub_key x.meta.annotations t.object.annotations)

      by_hub : (k ≡ hub_key) ⊎ (k ≡ hub_key → ⊥) → OtherNote (Some s.name) t.hub.body (key_kind all k) (noted k x) (field k (without_field hub_key x.meta.annotations))
      by_hub (inl q) = subst (λ (j : Name). OtherNote (Some s.name) t.hub.body (key_kind all j) (noted j x) (field j (without_field hub_key x.meta.annotations))) (sym q) at_hub
      by_hub (inr n) =
          subst (OtherNote (Some s.name) t.hub.body (key_kind all k) (noted k x)) (sym (field_stays k hub_key x.meta.annotations n)) (stays_carried s t.hub.body t.pair.hub_kept t.pair.spoke_kept k (key_kind all k) all (noted k x) (noted k t.hub) (kind_says all k) n (t.pair.notes k) (t.whole.notes k))
