-- Annotations carried over one by one.
use Rattle.std.proofs.Common.{◌≡◌, List, [], ◌∷◌, ◌++◌, ◌⊎◌, inl, inr, Bool, true, false, Option, Some, None, Less, nat_cmp, refl, ap, sym, subst, ◌∙◌}
use Rattle.std.specs.Prelude.{is_some}
use Rattle.std.specs.Cmp.Lexicographic.{slice_cmp}
use Rattle.kj_value.specs.Fields.{Pairs, field, AreInOrder}
use Rattle.kube_meta.specs.View.{Texts}
use Rattle.kept_entries.specs.declared.entry.Entry.{Entry}
use Rattle.kept_entries.specs.Text.{IsKept}
use Rattle.hub_cells.specs.Level.{Name}
use Rattle.keep_laws.specs.Spokes.{Spokes}
use Rattle.keep_laws.specs.Keys.{hub_key, KeyKind, plain, of_hub, of_spoke, of_none, key_kind}
use Rattle.keep_laws.specs.Notes.{with_note}
use Rattle.keep_laws.specs.Judging.{IsJudged, is_own, SpokeNote, OtherNote, Carries}
use Rattle.keep_laws.specs.Over.{IsRead, HubIsRead, IsFirstBad}
use Rattle.keep_laws.proofs.Texts.{name_cases, push_same, push_other, fresh_next, in_front, field_there, less_self}
use Rattle.keep_laws.proofs.Keys.{hub_kind, spoke_after_hub, KindSays, kind_says}
use Rattle.keep_laws.proofs.Notes.{with_note-same, with_note-other}

none_carried : (own : Option Name) (body : Pairs) (c : KeyKind) → OtherNote own body c None None
none_carried own body plain = refl
none_carried own body of_hub = refl
none_carried own body (of_spoke s) = by_own (is_own own s.name)
  where
    by_own : (b : Bool) → SpokeNote b s body None None
    by_own true = refl
    by_own false = refl
none_carried own body of_none = refl

pub carry_start : (all : Spokes) (own : Option Name) (body : Pairs) → Carries all own body [] []
carry_start all own body k = none_carried own body (key_kind all k)

absent : (own : Option Name) (body : Pairs) (c : KeyKind) (p : Option Name) → OtherNote own body c None p → p ≡ None
absent own body plain p e = e
absent own body of_hub p e = e
absent own body (of_spoke s) p e = by_own (is_own own s.name) e
  where
    by_own : (b : Bool) → SpokeNote b s body None p → p ≡ None
    by_own true e = e
    by_own false e = e
absent own body of_none p e = e

pub carry_step : (all : Spokes) (own : Option Name) (body : Pairs) (done : Texts) (n t : Name) (rest notes : Texts) (p : Option Name) → AreInOrder (done ++ (n, t) ∷ rest) → Carries all own body done notes → OtherNote own body (key_kind all n) (Some t) p → Carries all own body (done ++ (n, t) ∷ []) (with_note n p notes)
carry_step all own body done n t rest notes p order carried here k = by_name (name_cases k n)
  where
    fresh : field n done ≡ None
    fresh = fresh_next done (n, t) rest order

    none : field n notes ≡ None
    none = absent own body (key_kind all n) (field n notes) (subst (λ (o : Option Name). OtherNote own body (key_kind all n) o (field n notes)) fresh (carried n))

    at_name : OtherNote own body (key_kind all n) (field n (done ++ (n, t) ∷ [])) (field n (with_note n p notes))
    at_name =
        subst (λ (o : Option Name). OtherNote own body (key_kind all n) o (field n (with_note n p notes))) (sym (push_same n t done fresh)) (subst (OtherNote own body (key_kind all n) (Some t)) (sym (with_note-same n p notes none)) here)

    by_name : (k ≡ n) ⊎ (k ≡ n → ⊥) → OtherNote own body (key_kind all k) (field k (done ++ (n, t) ∷ [])) (field k (with_note n p notes))
    by_name (inl q) = subst (λ (j : Name). OtherNote own body (key_kind all j) (field j (done ++ (n, t) ∷ [])) (field j (with_note n p notes))) (sym q) at_name
    by_name (inr m) =
        subst (λ (o : Option Name). OtherNote own body (key_kind all k) o (field k (with_note n p notes))) (sym (push_other k n t done m)) (subst (OtherNote own body (key_kind all k) (field k done)) (sym (with_note-other k n p notes m)) (carried k))

-- ---- the first that can't be read

pub hub_bad : (all : Spokes) (own : Option Name) (ns : Texts) (t : Name) → is_some own ≡ true → field hub_key ns ≡ Some t → ((es : List Entry) → IsKept t es → ⊥) → IsFirstBad all own ns hub_key
hub_bad all own ns t side there bad = record {
  read = subst (IsRead own) (sym (hub_kind all)) side;
  text = t;
  there = there;
  bad = bad;
  first = λ j u l r f. absurd (earlier j (key_kind all j) (kind_says all j) l r);
}
  where
    earlier : (j : Name) (c : KeyKind) → KindSays all j c → slice_cmp nat_cmp j hub_key ≡ Less → IsRead own c → ⊥
    earlier j plain h l r = r
    earlier j of_hub h l r = less_self hub_key (subst (λ (k : Name). slice_cmp nat_cmp k hub_key ≡ Less) h l)
    earlier j (of_spoke s) h l r = spoke_after_hub s.name (subst (λ (k : Name). slice_cmp nat_cmp k hub_key ≡ Less) h.0 l)
    earlier j of_none h l r = r

pub spoke_bad : (all : Spokes) (own : Option Name) (body : Pairs) (done : Texts) (n t : Name) (rest notes : Texts) → AreInOrder (done ++ (n, t) ∷ rest) → Carries all own body done notes → HubIsRead own (done ++ (n, t) ∷ rest) → IsRead own (key_kind all n) → ((es : List Entry) → IsKept t es → ⊥) → IsFirstBad all own (done ++ (n, t) ∷ rest) n
spoke_bad all own body done n t rest notes order carried hubs read bad = record {
  read = read;
  text = t;
  there = field_there done (n, t) rest order;
  bad = bad;
  first = λ j u l r f.
      let found : field j done ≡ Some u = sym (in_front j done (n, t) rest order l) ∙ f in
      earlier j u (key_kind all j) (field j notes) (kind_says all j) r f (subst (λ (o : Option Name). OtherNote own body (key_kind all j) o (field j notes)) found (carried j));
}
  where
    earlier : (j u : Name) (c : KeyKind) (q : Option Name) → KindSays all j c → IsRead own c → field j (done ++ (n, t) ∷ rest) ≡ Some u → OtherNote own body c (Some u) q → (es : List Entry) × IsKept u es
    earlier j u plain q h r f e = absurd r
    earlier j u of_hub q h r f e = hubs r u (ap (λ (k : Name). field k (done ++ (n, t) ∷ rest)) (sym h) ∙ f)
    earlier j u (of_spoke s) q h r f e =
        let judged : IsJudged s body (Some u) q = subst (λ (b : Bool). SpokeNote b s body (Some u) q) r e in
        (judged.0, judged.1)
    earlier j u of_none q h r f e = absurd r
