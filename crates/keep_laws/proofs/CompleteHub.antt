-- A body of the hub that is complete along one spoke's level is complete along each; and what is so of one spoke of it.
use Rattle.std.proofs.Common.{◌≡◌, ℕ, zero, suc, List, [], ◌∷◌, inl, inr, Option, Some, None, refl, ap, sym, subst, ◌∙◌}
use Rattle.std.specs.Prelude.{slice_get}
use Rattle.kj_value.specs.Json.{members_of}
use Rattle.kj_value.specs.Fields.{Pairs}
use Rattle.kj_value.specs.Sound.{AreRising}
use Rattle.struct_schema.specs.Shape.{Shape}
use Rattle.hub_cells.specs.Side.{hub}
use Rattle.hub_cells.specs.Level.{Level}
use Rattle.hub_cells.specs.Fit.{Stands}
use Rattle.hub_fills.specs.Fills.{fills_of}
use Rattle.hub_fills.specs.Sound.{AreAmong, HasLevel}
use Rattle.keep_laws.specs.Body.{read}
use Rattle.keep_laws.specs.Complete.{IsComplete}
use Rattle.keep_laws.specs.FittedBody.{IsBody, IsBodyOf}
use Rattle.keep_laws.specs.Spokes.{Spoke, Spokes, AreFittedTo, HaveOneHub, levels_of, IsDefinition, fills_at}
use Rattle.keep_laws.specs.WholeHub.{IsCompleteFor}
use Rattle.keep_laws.proofs.CompleteEach.{other_complete}
use Rattle.keep_laws.proofs.SpokesFitted.{all_among}

some_some : (x y : Spoke) → Some x ≡ Some y → x ≡ y
some_some x y e = cc

pub complete_at : (all : Spokes) (ss : List Spoke) (v : ℕ) (s : Spoke) (x : Pairs) → IsCompleteFor all ss x → slice_get ss v ≡ Some s → IsComplete s.fit.level (fills_at all s) (read hub s.fit.level x [])
complete_at all [] v s x h e = absurd (cc)
complete_at all (t ∷ ss) zero s x h e =
    subst (λ (u : Spoke). IsComplete u.fit.level (fills_at all u) (read hub u.fit.level x [])) (some_some t s e) h.0
complete_at all (t ∷ ss) (suc v) s x h e = complete_at all ss v s x h.1 e

each_complete : (all : Spokes) (S : Shape) (l : Level) (ss : List Spoke) (x : Pairs) → AreFittedTo S ss → AreAmong 0 S (levels_of all.items) → HasLevel (Some l) (levels_of all.items) → AreRising (members_of x) → IsBody 0 S x → IsComplete l (fills_of (levels_of all.items) l) (read hub l x []) → IsCompleteFor all ss x
each_complete all S l [] x f among has rise b c = tt
each_complete all S l (t ∷ ss) x f among has rise b c =
    let stands : Stands hub 0 S t.fit.level = subst (λ (n : ℕ). Stands hub n S t.fit.level) f.1 (subst (λ (u : Shape). Stands hub t.fit.depth u t.fit.level) f.0 (f.3.stands hub)) in
    (other_complete 0 S (levels_of all.items) (Some l) t.fit.level x among has stands rise b c, each_complete all S l ss x f.4 among has rise b c)

fitted_all : (all : Spokes) (v : ℕ) (s : Spoke) → IsDefinition all → slice_get all.items v ≡ Some s → (S : Shape) → s.fit.hub ≡ S → AreFittedTo S all.items
fitted_all all v s d e S q = by_items all.items v d.one_hub e
  where
    hub_at : (T : Shape) (ss : List Spoke) (v : ℕ) → AreFittedTo T ss → slice_get ss v ≡ Some s → s.fit.hub ≡ T
    hub_at T [] v f e = absurd (cc)
    hub_at T (t ∷ ss) zero f e = ap (λ (u : Spoke). u.fit.hub) (sym (some_some t s e)) ∙ f.0
    hub_at T (t ∷ ss) (suc v) f e = hub_at T ss v f.4 e

    by_items : (ss : List Spoke) (v : ℕ) → HaveOneHub ss → slice_get ss v ≡ Some s → AreFittedTo S ss
    by_items [] v h e = absurd (cc)
    by_items (t ∷ ss) v h e = subst (λ (T : Shape). AreFittedTo T (t ∷ ss)) (sym (hub_at t.fit.hub (t ∷ ss) v h e) ∙ q) h

pub complete_all : (all : Spokes) (v : ℕ) (s : Spoke) (x : Pairs) → IsDefinition all → slice_get all.items v ≡ Some s → AreRising (members_of x) → IsBodyOf hub s.fit x → IsComplete s.fit.level (fills_at all s) (read hub s.fit.level x []) → IsCompleteFor all all.items x
complete_all all v s x d e rise b c =
    let a = all_among all v s d e in
    let body : IsBody 0 a.schema x = subst (λ (n : ℕ). IsBody n a.schema x) a.root (subst (λ (u : Shape). IsBody s.fit.depth u x) a.to b) in
    each_complete all a.schema s.fit.level all.items x (fitted_all all v s d e a.schema a.to) a.each a.mine rise body c
