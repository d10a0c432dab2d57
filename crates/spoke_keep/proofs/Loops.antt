-- Loops over the texts of a map.
use Rattle.std.proofs.Common.{◌≡◌, ◌+◌, List, [], ◌∷◌, ◌++◌, map, Option, Some, append_assoc, append-nil, ap, sym, subst, ◌∙◌}
use Rattle.kj_value.specs.Fields.{Pairs, AreInOrder}
use Rattle.kj_value.specs.Texts.{text_pair}
use Rattle.kj_value.specs.declared.texts.TextField.{TextField}
use Rattle.kube_meta.specs.View.{Texts}
use Rattle.hub_cells.specs.Level.{Name}
use Rattle.keep_laws.specs.Spokes.{Spokes}
use Rattle.keep_laws.specs.Keys.{key_kind}
use Rattle.keep_laws.specs.Notes.{with_note}
use Rattle.keep_laws.specs.Judging.{OtherNote, Carries}
use Rattle.keep_laws.specs.Over.{HubIsRead}
use Rattle.keep_laws.proofs.Carried.{carry_start, carry_step, spoke_bad}
use Rattle.spoke_keep.specs.inner.Seen.{IsCarried}
use Rattle.spoke_keep.specs.declared.fault.KeepFault.{KeepFault}
use Rattle.spoke_keep.specs.declared.fault.KeepFault.TheVariants.{BadKept, NoMemory}
use Rattle.spoke_keep.specs.Fault.{IsBadRead, IsFaultOf}

-- ---- annotations carried

-- n and u are the name and the text of t, and p u is what becomes of it
renamed : (all : Spokes) (own : Option Name) (body : Pairs) (t : TextField) (n u : Name) (p : Name → Option Name) → n ≡ t.name.bytes → u ≡ t.value.bytes → OtherNote own body (key_kind all n) (Some u) (p u) → OtherNote own body (key_kind all t.name.bytes) (Some t.value.bytes) (p t.value.bytes)
renamed all own body t n u p a b here =
    subst (λ (k : Name). OtherNote own body (key_kind all k) (Some t.value.bytes) (p t.value.bytes)) a (subst (λ (w : Name). OtherNote own body (key_kind all n) (Some w) (p w)) b here)

pub carried_one : (all : Spokes) (own : Option Name) (body : Pairs) (t : TextField) (before after : Texts) (n u : Name) (p : Name → Option Name) → n ≡ t.name.bytes → u ≡ t.value.bytes → OtherNote own body (key_kind all n) (Some u) (p u) → after ≡ with_note t.name.bytes (p t.value.bytes) before → IsCarried all own body t.name.bytes t.value.bytes before after
carried_one all own body t before after n u p a b here made = record { note = p t.value.bytes; is = renamed all own body t n u p a b here; put = made }

pub bad_renamed : (all : Spokes) (own : Option Name) (t : TextField) (n u : Name) (e : KeepFault) → n ≡ t.name.bytes → u ≡ t.value.bytes → IsBadRead own (key_kind all n) n u e → IsBadRead own (key_kind all t.name.bytes) t.name.bytes t.value.bytes e
bad_renamed all own t n u e a b bad =
    subst (λ (k : Name). IsBadRead own (key_kind all k) k t.value.bytes e) a (subst (λ (w : Name). IsBadRead own (key_kind all n) n w e) b bad)

bad_at : (all : Spokes) (own : Option Name) (body : Pairs) (done : Texts) (n t : Name) (rest notes ns : Texts) (e : KeepFault) → ns ≡ done ++ (n, t) ∷ rest → AreInOrder ns → Carries all own body done notes → HubIsRead own ns → IsBadRead own (key_kind all n) n t e → IsFaultOf all own ns e
bad_at all own body done n t rest notes ns (BadKept a) is h carried hubs bad =
    rw (is, bad.0) (spoke_bad all own body done n t rest notes (subst (λ (ms : Texts). AreInOrder ms) is h) carried (subst (HubIsRead own) is hubs) bad.2 bad.1)
bad_at all own body done n t rest notes ns NoMemory is h carried hubs bad = tt

-- what is done, and that it and what is left make the whole
pub record Carrying (all : Spokes) (own : Option Name) (body : Pairs) (ns left notes : Texts) : Type 0 where
  pub done : Texts
  pub whole : ns ≡ done ++ left
  pub carried : Carries all own body done notes

pub move_next : (all : Spokes) (own : Option Name) (body : Pairs) (ts rest : List TextField) (t : TextField) (ns notes after : Texts) → ts ≡ t ∷ rest → AreInOrder ns → Carrying all own body ns (map text_pair ts) notes → IsCarried all own body t.name.bytes t.value.bytes notes after → Carrying all own body ns (map text_pair rest) after
move_next all own body ts rest t ns notes after e h c one =
    let whole : ns ≡ c.done ++ text_pair t ∷ map text_pair rest = c.whole ∙ ap (λ (us : List TextField). c.done ++ map text_pair us) e in record {
      done = c.done ++ text_pair t ∷ [];
      whole = whole ∙ sym (append_assoc c.done (text_pair t ∷ []) (map text_pair rest));
      carried = subst (Carries all own body (c.done ++ text_pair t ∷ [])) (sym one.put) (carry_step all own body c.done t.name.bytes t.value.bytes (map text_pair rest) notes one.note (subst (λ (ms : Texts). AreInOrder ms) whole h) c.carried one.is);
    }

pub move_bad : (all : Spokes) (own : Option Name) (body : Pairs) (ts rest : List TextField) (t : TextField) (ns notes : Texts) (e : KeepFault) → ts ≡ t ∷ rest → AreInOrder ns → Carrying all own body ns (map text_pair ts) notes → HubIsRead own ns → IsBadRead own (key_kind all t.name.bytes) t.name.bytes t.value.bytes e → IsFaultOf all own ns e
move_bad all own body ts rest t ns notes e is h c hubs bad =
    bad_at all own body c.done t.name.bytes t.value.bytes (map text_pair rest) notes ns e (c.whole ∙ ap (λ (us : List TextField). c.done ++ map text_pair us) is) h c.carried hubs bad

pub move_all : (all : Spokes) (own : Option Name) (body : Pairs) (ts : List TextField) (ns notes : Texts) → ts ≡ [] → Carrying all own body ns (map text_pair ts) notes → Carries all own body ns notes
move_all all own body ts ns notes e c =
    let whole : ns ≡ c.done = c.whole ∙ ap (λ (us : List TextField). c.done ++ map text_pair us) e ∙ append-nil c.done in
    subst (λ (ms : Texts). Carries all own body ms notes) (sym whole) c.carried

pub move_start : (all : Spokes) (own : Option Name) (body : Pairs) (ts : List TextField) (ns notes : Texts) → map text_pair ts ≡ ns → notes ≡ [] → Carrying all own body ns (map text_pair ts) notes
move_start all own body ts ns notes e n = record {
  done = [];
  whole = sym e;
  carried = subst (Carries all own body []) (sym n) (carry_start all own body);
}
