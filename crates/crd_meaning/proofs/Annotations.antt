-- The rules of the metadata of forms: the keys of their annotations are those of the hub value, and the hub's own.
use Rattle.std.proofs.Common.{◌≡◌, ◌∙◌, List, [], ◌∷◌, Bool, true, false, ◌&&◌, cond, bytes_eq, Option, Some, None, Less, nat_cmp, is_eq, length, refl, ap, sym, subst}
use Rattle.std.specs.Prelude.{nat_le}
use Rattle.std.specs.List.{list_all}
use Rattle.std.specs.Cmp.Lexicographic.{slice_cmp}
use Rattle.std.specs.Map.{keys_of}
use Rattle.std.proofs.lemmas.Cmp.{nat_list_cmp_total}
use Rattle.std.proofs.lemmas.Slice.Eq.{bytes_eq-Decides}
use Rattle.std.proofs.lemmas.Map.Text.{is_eq-slice_cmp}
use Rattle.kj_value.specs.Fields.{field, IsBelowFirst, AreInOrder}
use Rattle.kube_meta.specs.Names.{is_name, is_namespace}
use Rattle.kube_meta.specs.View.{Texts, MetaView, ObjectView}
use Rattle.object_reading.specs.Labels.{is_annotation_key, is_key_name, is_prefix}
use Rattle.object_reading.specs.Finalizers.{is_finalizer}
use Rattle.object_reading.specs.Numbers.{is_resource_version}
use Rattle.object_reading.specs.Keeping.{KeepsRules, is_empty_or, is_none_or, is_label_pair, is_annotation_pair}
use Rattle.object_reading.specs.declared.finalizers.TheConstants.{FINALIZERS}
use Rattle.kept_entries.specs.declared.entry.Entry.{Entry}
use Rattle.hub_cells.specs.Level.{Name}
use Rattle.keep_laws.specs.Spokes.{Spoke, Spokes}
use Rattle.keep_laws.specs.Keys.{hub_key, KeyKind, plain, of_hub, of_spoke, of_none, key_kind}
use Rattle.keep_laws.specs.Notes.{noted, without_notes}
use Rattle.keep_laws.specs.Pair.{SpokeNotePair, NotePair, IsPairOf}
use Rattle.keep_laws.proofs.Keys.{KindSays, kind_says}

-- ---- maps of annotations

both : (a b : Bool) → (a && b) ≡ true → (a ≡ true) × (b ≡ true)
both true b h = (refl, h)
both false b h = absurd (cc)

joined : (a b : Bool) → a ≡ true → b ≡ true → (a && b) ≡ true
joined true b h k = k
joined false b h k = absurd (cc)

one_name : (k l : Name) → is_eq (slice_cmp nat_cmp k l) ≡ true → k ≡ l
one_name k l h = (bytes_eq-Decides k l).0 (sym (is_eq-slice_cmp k l) ∙ h)

own_test : (k : Name) → is_eq (slice_cmp nat_cmp k k) ≡ true
own_test k = is_eq-slice_cmp k k ∙ (bytes_eq-Decides k k).1 refl

-- a name that is found has the rule
pub found : (ns : Texts) (k t : Name) → list_all is_annotation_pair ns ≡ true → field k ns ≡ Some t → is_annotation_key k ≡ true
found [] k t h e = absurd (cc)
found (n ∷ ns) k t h e =
    by_test (is_eq (slice_cmp nat_cmp k n.0)) refl e (λ q. found ns k t (both (is_annotation_pair n) (list_all is_annotation_pair ns) h).1 q)
  where
    by_test : (b : Bool) → is_eq (slice_cmp nat_cmp k n.0) ≡ b → cond b (Some n.1) (field k ns) ≡ Some t → (field k ns ≡ Some t → is_annotation_key k ≡ true) → is_annotation_key k ≡ true
    by_test true q e later =
        subst (λ (l : Name). is_annotation_key l ≡ true) (sym (one_name k n.0 q)) (both (is_annotation_pair n) (list_all is_annotation_pair ns) h).0
    by_test false q e later = later e

below_tail : (k : Name) (n : Name × Name) (ns : Texts) → slice_cmp nat_cmp k n.0 ≡ Less → AreInOrder (n ∷ ns) → IsBelowFirst k (keys_of ns)
below_tail k n [] p h = tt
below_tail k n (m ∷ ns) p h = nat_list_cmp_total.trans k n.0 m.0 p h.0

absent : (k : Name) (ns : Texts) → IsBelowFirst k (keys_of ns) → AreInOrder ns → field k ns ≡ None
absent k [] b h = refl
absent k (n ∷ ns) b h =
    let l : slice_cmp nat_cmp k n.0 ≡ Less = b in
    rw l (absent k ns (below_tail k n ns b h) h.1)

abbrev pub AllFound : Texts → Type 0
AllFound ns = (k t : Name) → field k ns ≡ Some t → is_annotation_key k ≡ true

tail_found : (n : Name × Name) (ns : Texts) → AreInOrder (n ∷ ns) → AllFound (n ∷ ns) → AllFound ns
tail_found n ns h f k t e = by_test (is_eq (slice_cmp nat_cmp k n.0)) refl (f k t)
  where
    by_test : (b : Bool) → is_eq (slice_cmp nat_cmp k n.0) ≡ b → (cond b (Some n.1) (field k ns) ≡ Some t → is_annotation_key k ≡ true) → is_annotation_key k ≡ true
    by_test true q g =
        let none : field k ns ≡ None = absent k ns (subst (λ (l : Name). IsBelowFirst l (keys_of ns)) (sym (one_name k n.0 q)) h.0) h.1 in
        absurd (cc)
    by_test false q g = g e

-- where each name that is found has the rule, all have it
pub all_found : (ns : Texts) → AreInOrder ns → AllFound ns → list_all is_annotation_pair ns ≡ true
all_found [] h f = refl
all_found (n ∷ ns) h f =
    let first : field n.0 (n ∷ ns) ≡ Some n.1 = rw (own_test n.0) refl in
    joined (is_annotation_pair n) (list_all is_annotation_pair ns) (f n.0 n.1 first) (all_found ns h.1 (tail_found n ns h f))

-- ---- the annotations of a form

pub hub_named : (all : Spokes) (k : Name) → key_kind all k ≡ of_hub → k ≡ hub_key
hub_named all k e = subst (KindSays all k) e (kind_says all k)

hub_key_rule : is_annotation_key hub_key ≡ true
unfolding is_annotation_key hub_key is_key_name is_prefix
hub_key_rule = refl

none_some : (o : Option Name) (t : Name) → o ≡ None → o ≡ Some t → ⊥
none_some o t a b = let e : None ≡ Some t = sym a ∙ b in cc

-- o at the spoke, p at the hub
paired_rule : (s : Spoke) (es fs : List Entry) (k : Name) (c : KeyKind) (o p : Option Name) (t : Name) → (c ≡ of_hub → k ≡ hub_key)
    → ((u : Name) → p ≡ Some u → is_annotation_key k ≡ true) → NotePair s es fs c o p → o ≡ Some t → is_annotation_key k ≡ true
paired_rule s es fs k plain o p t named r a e = r t (sym a ∙ e)
paired_rule s es fs k of_hub o p t named r a e = subst (λ (l : Name). is_annotation_key l ≡ true) (sym (named refl)) hub_key_rule
paired_rule s es fs k (of_spoke u) o p t named r a e = by_own (bytes_eq u.name s.name) a
  where
    by_own : (b : Bool) → SpokeNotePair b fs o p → is_annotation_key k ≡ true
    by_own true a = absurd (none_some o t a.0 e)
    by_own false a = r t (sym a ∙ e)
paired_rule s es fs k of_none o p t named r a e = r t (sym a ∙ e)

pub paired_keys : (all : Spokes) (s : Spoke) (x h : ObjectView) → AreInOrder x.meta.annotations
    → list_all is_annotation_pair h.meta.annotations ≡ true → IsPairOf all s x h → list_all is_annotation_pair x.meta.annotations ≡ true
paired_keys all s x h order r p =
    all_found x.meta.annotations order (λ k t e. paired_rule s p.hub_kept p.spoke_kept k (key_kind all k) (noted k x) (noted k h) t
    (hub_named all k) (λ u q. found h.meta.annotations k u r q) (p.notes k) e)

-- ---- metadata that differ in their annotations alone

pub rules_along : (m n : MetaView) → without_notes m ≡ without_notes n → list_all is_annotation_pair m.annotations ≡ true → KeepsRules n → KeepsRules m
rules_along m n same keys r = record {
  name = ap (λ (a : MetaView). is_name a.name) same ∙ r.name;
  namespace = ap (λ (a : MetaView). is_empty_or is_namespace a.namespace) same ∙ r.namespace;
  labels = ap (λ (a : MetaView). list_all is_label_pair a.labels) same ∙ r.labels;
  annotations = keys;
  few = ap (λ (a : MetaView). nat_le (length a.finalizers) FINALIZERS) same ∙ r.few;
  finalizers = ap (λ (a : MetaView). list_all is_finalizer a.finalizers) same ∙ r.finalizers;
  resource_version = ap (λ (a : MetaView). is_none_or is_resource_version a.resource_version) same ∙ r.resource_version;
}
