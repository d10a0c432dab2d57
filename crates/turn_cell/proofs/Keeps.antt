-- Each step of the turn keeps the rule.
use Rattle.std.proofs.Common.{◌≡◌, ◌≢◌, ℕ, zero, suc, ◌+◌, ◌-◌, ◌*◌, ◌^◌, ◌%◌, ◌<◌, ◌≤◌, ◌==◌, Bool, true, false, List, [], ◌∷◌, ◌++◌, length, slice_index, slice_set, set, refl, ap, sym, ◌∙◌, subst, arith, inl, ⊎_elim, Option, Some, None, length-append}
use Rattle.std.proofs.lemmas.Bool.Decides.{nat_tests}
use mathlib.Core.List.{IsPrefix}
use mathlib.Core.Option.{some, none, some-injective, some-ne-none}
use mathlib.Core.Option as maybe
use mathlib.Core.Logic.{dite}
use native.Mathlib.Decide.{ℕ_discrete, dec_lt}
use lib.ListN.{get_elem?}
use prog.Atomic.{either}
use Rattle.atomic_table.specs.Table.{State, Me, step, Act, keeps, takes, gives, Allows, Valid, carried_after, homes_after, opening}
use Rattle.atomic_table.proofs.Lists.{set_else, set_again, at_set}
use Rattle.api_calls.specs.Item.{Logged, Item, items_of}
use Rattle.turn_cell.specs.Numbers.{In}
use Rattle.turn_cell.specs.declared.view.Stage.{Stage}
use Rattle.turn_cell.specs.declared.view.Stage.TheVariants.{Rest, Waits, Holds, Met}
use Rattle.turn_cell.specs.declared.view.View.{View}
use Rattle.turn_cell.specs.Views.{opening_view, numbers_of, numbers_or, number_or, set_stage, IsAlone, Later, stamped}
use Rattle.turn_cell.specs.Turns.{is_numbered}
use Rattle.turn_cell.specs.Rule.{CellPlan, AtStage, HasAll, Fits, Kept, total, view_parts, parts_of}
use Rattle.turn_cell.specs.Steps.{drew, saw, Sees, appended, passed_on, rang}
use Rattle.turn_cell.proofs.Lists.{put, put_here, put_else, prefix_snoc, prefix_whole, at_here, same_at, total_set, total_two, items_of-other, zero_factor, none_in}
use Rattle.turn_cell.specs.laws.ShareLaws.{parts_whole}
use Rattle.turn_cell.specs.laws.Laws.{prefix_self, items_of-append}
use Rattle.std.proofs.lemmas.Nat.{pow_pos}

-- what others know stays, where one seat steps
module _ {B : Type 0} (p : CellPlan B) (id j : ℕ) where
  stage_rings : (bells : List ℕ) (seen : List Logged) (st : Stage) → AtStage p j seen st → AtStage (record p { bells = bells }) j seen st
  stage_rings bells seen Rest k = tt
  stage_rings bells seen (Waits t) k = k
  stage_rings bells seen (Holds t a) k = k
  stage_rings bells seen (Met a b) k = k

  stage_draws : (seen : List Logged) (st : Stage) → (p.busy ≡ true → p.serving < p.ticket) → AtStage p j seen st
      → AtStage (record p { ticket = p.ticket + 1; owner = put p.owner p.ticket id }) j seen st
  stage_draws seen Rest turn k = tt
  stage_draws seen (Waits t) turn k = let less = k.0 in (omega arith, put_else p.owner p.ticket id t (λ e. omega arith) ∙ k.1)
  stage_draws seen (Holds t a) turn k = let less = turn k.2 in let is = k.0 in (k.0, put_else p.owner p.ticket id t (λ e. omega arith) ∙ k.1, k.2, k.3, k.4)
  stage_draws seen (Met a b) turn k = k

  stage_sees : (seen : List Logged) (st : Stage) → p.busy ≡ false → AtStage p j seen st
      → AtStage (record p { busy = true; added = 0; top = id }) j seen st
  stage_sees seen Rest free k = tt
  stage_sees seen (Waits t) free k = k
  stage_sees seen (Holds t a) free k = let held = k.2 in absurd (cc (held, free))
  stage_sees seen (Met a b) free k = k

  has_all_appends : (x : Logged) (seen : List Logged) (numbers : List ℕ) → j ≢ id → p.keeper x.by ≡ id → HasAll p j seen numbers
      → HasAll (record p { log = p.log ++ x ∷ []; added = 1; top = id }) j seen numbers
  has_all_appends x seen numbers other mine h n at =
      let had = h n at in
      let ne : n ≢ x.by = λ e. other (sym had.1 ∙ (ap p.keeper e ∙ mine)) in
      (had.0, had.1, had.2 ∙ sym (items_of-append n p.log (x ∷ []) ∙ (ap (λ xs. items_of n p.log ++ xs) (items_of-other n x ne) ∙ Rattle.std.proofs.lemmas.List.append-nil (items_of n p.log))))

  stage_appends : (x : Logged) (seen : List Logged) (st : Stage) → j ≢ id → p.keeper x.by ≡ id → p.owner p.serving ≡ id → AtStage p j seen st
      → AtStage (record p { log = p.log ++ x ∷ []; added = 1; top = id }) j seen st
  stage_appends x seen Rest other mine turn k = tt
  stage_appends x seen (Waits t) other mine turn k = k
  stage_appends x seen (Holds t a) other mine turn k = absurd (other (sym k.1 ∙ (ap p.owner k.0 ∙ turn)))
  stage_appends x seen (Met a b) other mine turn k = (
    prefix_snoc a.seen p.log x k.0,
    prefix_snoc b.seen p.log x k.1,
    has_all_appends x a.seen a.numbers other mine k.2,
    has_all_appends x b.seen b.numbers other mine k.3,
    k.4,
  )

  stage_passes : (seen : List Logged) (st : Stage) → j ≢ id → p.owner p.serving ≡ id → AtStage p j seen st
      → AtStage (record p { serving = p.serving + 1; busy = false; added = 0 }) j seen st
  stage_passes seen Rest other turn k = tt
  stage_passes seen (Waits t) other turn k = k
  stage_passes seen (Holds t a) other turn k = absurd (other (sym k.1 ∙ (ap p.owner k.0 ∙ turn)))
  stage_passes seen (Met a b) other turn k = k

module _ {T B : Type 0} (stands : T → List Logged → Type 0) (base_of : T → B) where
  abbrev St : Type 0
  St = State (Option T) (View B)

  abbrev M : Type 0
  M = Me (Option T) (View B)

  abbrev Rule : St → Type 0
  Rule = Kept stands base_of

  abbrev Homes : Type 0
  Homes = List (maybe.Option (Option T))

  abbrev pub words_of : CellPlan B → List ℕ
  words_of p = p.ticket ∷ p.serving ∷ length p.log ∷ p.callers ∷ p.bells

  abbrev pub Turned : CellPlan B → List (View B) → Type 0
  Turned p views = p.busy ≡ true → (v : View B) × (get_elem? views (p.owner p.serving) ≡ some v) × (v.stage ≡ Holds p.serving p.added) × (p.serving < p.ticket)

  abbrev pub Topped : CellPlan B → List (View B) → Type 0
  Topped p views = (v : View B) × (get_elem? views p.top ≡ some v) × (v.seen ≡ p.log)

  -- what the view at i is after a change of the seat id, whose view was v and is w
  pub at_after : (views : List (View B)) (id i : ℕ) (v w : View B) (P : View B → Type 0) → get_elem? views id ≡ some v → (P v → P w)
      → (u : View B) × (get_elem? views i ≡ some u) × P u → (u : View B) × (get_elem? (set views id w) i ≡ some u) × P u
  at_after views id i v w P at turns (u, is, h) = dite (ℕ_discrete i id)
      (λ e. let same : u ≡ v = same_at views i id u v is at e in (w, ap (get_elem? (set views id w)) e ∙ at_here views id v w at, turns (subst P same h)))
      (λ ne. (u, set_else views id i w ne ∙ is, h))

  -- a step of one seat, which keeps its share and its numbers
  pub moves : (s : St) (r : Rule s) (p' : CellPlan B) (id : ℕ) (v w : View B) (hs : Homes) → get_elem? s.views id ≡ some v
      → w.share ≡ v.share → numbers_of w ≡ numbers_of v → p'.scale ≡ r.plan.scale → p'.callers ≡ r.plan.callers → p'.keeper ≡ r.plan.keeper
      → (p'.serving ≤ p'.ticket) × (p'.ticket ≤ 2305843009213693952)
      → (p'.busy ≡ false → (x : T) × (hs ≡ some (Some x) ∷ []) × stands x p'.log × (base_of x ≡ p'.base)) → (p'.busy ≡ true → hs ≡ none ∷ [])
      → Turned p' (set s.views id w) → (length p'.log ≤ p'.serving + p'.added) × (p'.busy ≡ false → p'.added ≡ 0) × (p'.added ≤ 1)
      → Topped p' (set s.views id w) → ((n : ℕ) → p'.callers ≤ n → items_of n p'.log ≡ [])
      → Fits p' id w → ((j : ℕ) (u : View B) → j ≢ id → Fits r.plan j u → Fits p' j u)
      → Rule record { words = words_of p'; homes = hs; views = set s.views id w }
  moves s r p' id v w hs at share numbers scale callers keeper bounds home out turn count top bounded mine others = record {
    plan = p';
    words = refl;
    bounds = (bounds.0, bounds.1, let b = r.bounds.2 in subst (λ (n : ℕ). n ≤ 4611686018427387904) (sym callers) b);
    home = home;
    out = out;
    turn = turn;
    count = count;
    each = λ j u e. ⊎_elim (λ (t : (j ≡ id) × (w ≡ u)). subst (λ (z : ℕ × View B). Fits p' z.0 z.1) (λ i. (sym t.0 i, t.1 i)) mine)
        (λ (t : (j ≢ id) × (get_elem? s.views j ≡ some u)). others j u t.0 (r.each j u t.1)) (at_set s.views id j w u e);
    longest = top;
    shares =
        let f : View B → ℕ = view_parts r.plan.scale in
        let h = total_set f s.views id v w at in
        let e : f w ≡ f v = ap (parts_of r.plan.scale) share in
        let t : total f (set s.views id w) ≡ 2 ^ r.plan.scale = (let q = r.shares in let k : total f (set s.views id w) ≡ total f s.views = omega arith in k ∙ q) in
        subst (λ (k : ℕ). total (view_parts k) (set s.views id w) ≡ 2 ^ k) (sym scale) t;
    claimed = λ n less. let was = r.claimed n (subst (λ (k : ℕ). n < k) callers less) in
        let now = at_after s.views id (r.plan.keeper n) v w (λ u. In n (numbers_of u)) at (λ h. subst (In n) (sym numbers) h) was in
        subst (λ (f : ℕ → ℕ). (u : View B) × (get_elem? (set s.views id w) (f n) ≡ some u) × In n (numbers_of u)) (sym keeper) now;
    bounded = bounded;
  }

  -- a step that changes nothing
  pub unmoved : (s : St) (r : Rule s) (id : ℕ) (v : View B) → get_elem? s.views id ≡ some v → Rule record { words = words_of r.plan; homes = s.homes; views = set s.views id v }
  unmoved s r id v at = subst (λ (z : List ℕ × List (View B)). Rule record { words = z.0; homes = s.homes; views = z.1 }) (λ i. (r.words i, sym (set_again s.views id v at) i)) r

  -- K1
  draw_at : (s : St) (r : Rule s) (slots old id : ℕ) (me : M) → get_elem? s.views id ≡ some me.0 → me.0.stage ≡ Rest → old < 2305843009213693952
      → (b : Bool) → (r.plan.ticket == old) ≡ b
      → (w : View B) × (a : Act (Option T)) × Valid s.homes me.1 a
      × Rule record { words = either (r.plan.ticket == old) (old + 1) r.plan.ticket ∷ r.plan.serving ∷ length r.plan.log ∷ r.plan.callers ∷ r.plan.bells; homes = homes_after s.homes me.1 a; views = set s.views id w }
      × drew (step slots 0 old (old + 1) none) me r.plan.ticket (w, carried_after me.1 a)
  draw_at s r slots old id me at rest small true is =
      let p : CellPlan B = r.plan in
      let here : p.ticket ≡ old = grind (arith, nat_tests) in
      let p' : CellPlan B = record p { ticket = p.ticket + 1; owner = put p.owner p.ticket id } in
      let w : View B = set_stage me.0 me.0.seen (Waits old) in
      let f = r.each id me.0 at in
      let b = r.bounds in
      let new_words : words_of p' ≡ (old + 1) ∷ p.serving ∷ length p.log ∷ p.callers ∷ p.bells = ap (λ (n : ℕ). (n + 1) ∷ p.serving ∷ length p.log ∷ p.callers ∷ p.bells) here in
      let kept : Rule record { words = words_of p'; homes = s.homes; views = set s.views id w } =
      moves s r p' id me.0 w s.homes at refl refl refl refl refl (omega arith, omega arith) r.home r.out
      (λ busy. let t = r.turn busy in let less = t.3 in
      let owner : put p.owner p.ticket id p.serving ≡ p.owner p.serving = put_else p.owner p.ticket id p.serving (λ e. omega arith) in
      let ne : p.owner p.serving ≢ id = λ e. let same = same_at s.views (p.owner p.serving) id t.0 me.0 t.1 at e in absurd (cc (t.2, same, rest)) in
      (t.0, ap (get_elem? (set s.views id w)) owner ∙ (set_else s.views id (p.owner p.serving) w ne ∙ t.1), t.2, omega arith))
      r.count
      (at_after s.views id p.top me.0 w (λ u. u.seen ≡ p.log) at (λ h. h) r.longest)
      r.bounded
      record { stage = (omega arith, put_here p.owner p.ticket id old (sym here)); begins = f.begins; halves = f.halves; based = f.based; spent = f.spent; owns = f.owns; differ = f.differ }
      (λ j u ne k. record { stage = stage_draws p id j u.seen u.stage (λ busy. (r.turn busy).3) k.stage; begins = k.begins; halves = k.halves; based = k.based; spent = k.spent; owns = k.owns; differ = k.differ })
      in
      (w, keeps, tt, rw is (subst (λ (ws : List ℕ). Rule record { words = ws; homes = s.homes; views = set s.views id w }) new_words kept), rw is refl)
  draw_at s r slots old id me at rest small false is = (me.0, keeps, tt, rw is (unmoved s r id me.0 at), rw is refl)

  pub draws : (slots id : ℕ) (me : M) (old : ℕ) → me.0.stage ≡ Rest → old < 2305843009213693952
      → Allows Rule slots id me 0 (λ n. either (n == old) (old + 1) n) (drew (step slots 0 old (old + 1) none) me)
  draws slots id me old rest small s r deep at _ =
      let P : List ℕ → Type 0 = λ ws. (w : View B) × (a : Act (Option T)) × Valid s.homes me.1 a
      × Rule record { words = slice_set ws 0 (either (slice_index ws 0 == old) (old + 1) (slice_index ws 0)); homes = homes_after s.homes me.1 a; views = set s.views id w }
      × drew (step slots 0 old (old + 1) none) me (slice_index ws 0) (w, carried_after me.1 a) in
      subst P (sym r.words) (draw_at s r slots old id me at rest small (r.plan.ticket == old) refl)

  -- where one seat has the whole, no other has a share
  alone_others : (s : St) (r : Rule s) (id : ℕ) (v : View B) → get_elem? s.views id ≡ some v → IsAlone v → (j : ℕ) (u : View B) → j ≢ id → get_elem? s.views j ≡ some u → u.share.top ≡ 0
  alone_others s r id v at alone j u ne is =
      let k : ℕ = r.plan.scale in
      let f : View B → ℕ = view_parts k in
      let whole : f v ≡ 2 ^ k = ap (λ (n : ℕ). n * 2 ^ (k - v.share.halves)) alone ∙ parts_whole v.share.halves k (r.each id v at).halves in
      let both = total_two f s.views id j v u (λ e. ne (sym e)) at is in
      let all = r.shares in
      let none_left : f u ≡ 0 = omega arith in
      zero_factor u.share.top (2 ^ (k - u.share.halves)) none_left (pow_pos (k - u.share.halves))

  -- what a seat finds later in the list
  pub later : (s : St) (r : Rule s) (id : ℕ) (v : View B) → get_elem? s.views id ≡ some v → Later v r.plan.log
  later s r id v at =
      let f = r.each id v at in
      let log : List Logged = r.plan.log in (
        f.begins,
        (λ n h. sym (f.owns n h).2),
        (λ alone. let (u, is, seen) = r.longest in dite (ℕ_discrete r.plan.top id)
            (λ e. let same : u ≡ v = same_at s.views r.plan.top id u v is at e in sym seen ∙ ap (λ (z : View B). z.seen) same)
            (λ ne. let gone = (r.each r.plan.top u is).spent (alone_others s r id v at alone r.plan.top u ne is) in
            let empty : log ≡ [] = sym seen ∙ gone.0 in
            let short : length log ≡ 0 = ap length empty in
            sym (prefix_whole v.seen log f.begins (omega arith)))),
        (λ alone n out. dite (dec_lt n r.plan.callers)
            (λ less. let (u, is, has) = r.claimed n less in dite (ℕ_discrete (r.plan.keeper n) id)
            (λ e. let same : u ≡ v = same_at s.views (r.plan.keeper n) id u v is at e in absurd (out (subst (λ (z : View B). In n (numbers_of z)) same has)))
            (λ ne. let gone = (r.each (r.plan.keeper n) u is).spent (alone_others s r id v at alone (r.plan.keeper n) u ne is) in absurd (none_in n (numbers_of u) gone.1 has)))
            (λ not_less. r.bounded n (let le : r.plan.callers ≤ n = omega arith in le))),
      )

  -- K2
  see_at : (s : St) (r : Rule s) (id : ℕ) (me : M) (t : ℕ) → get_elem? s.views id ≡ some me.0 → me.0.stage ≡ Waits t → 0 < me.0.share.top → me.1 ≡ []
      → r.plan.serving ≡ t → (b : Bool) → r.plan.busy ≡ b
      → (w : View B) × (a : Act (Option T)) × Valid s.homes me.1 a
      × Rule record { words = words_of r.plan; homes = homes_after s.homes me.1 a; views = set s.views id w }
      × Sees stands base_of t me (w, carried_after me.1 a)
  see_at s r id me t at waits live bare here true busy =
      let (u, is, holds, less) = r.turn busy in
      let f = subst (AtStage r.plan id me.0.seen) waits (r.each id me.0 at).stage in
      let same : u ≡ me.0 = same_at s.views (r.plan.owner r.plan.serving) id u me.0 is at (ap r.plan.owner here ∙ f.1) in
      absurd (cc (holds, same, waits))
  see_at s r id me t at waits live bare here false free =
      let p : CellPlan B = r.plan in
      let p' : CellPlan B = record p { busy = true; added = 0; top = id } in
      let w : View B = set_stage me.0 p.log (Holds t 0) in
      let f = r.each id me.0 at in
      let k = subst (AtStage p id me.0.seen) waits f.stage in
      let (x, homes, right, based) = r.home free in
      let c = r.count in
      let none_added = c.1 free in
      let b = r.bounds in
      let less = k.0 in
      let is_home : get_elem? s.homes 0 ≡ some (some (Some x)) = ap (λ (hs : Homes). get_elem? hs 0) homes in
      let emptied : slice_set s.homes 0 none ≡ none ∷ [] = ap (λ (hs : Homes). slice_set hs 0 none) homes in (
        w,
        takes 0 (Some x),
        is_home,
        moves s r p' id me.0 w (slice_set s.homes 0 none) at refl refl refl refl refl (b.0, b.1)
            (λ e. absurd (cc (e))) (λ _. emptied)
            (λ _. (w, ap (get_elem? (set s.views id w)) (ap p.owner here ∙ k.1) ∙ at_here s.views id me.0 w at, ap (λ (n : ℕ). Holds n 0) (sym here), omega arith))
            (omega arith, (λ e. absurd (cc (e))), omega arith)
            (w, at_here s.views id me.0 w at, refl)
            r.bounded
            record {
              stage = (sym here, k.1, refl, refl, refl);
              begins = prefix_self p.log;
              halves = f.halves;
              based = f.based;
              spent = λ z. absurd (omega arith);
              owns = λ n h. let o = f.owns n h in (o.0, o.1, refl);
              differ = f.differ;
            }
            (λ j u ne z. record { stage = stage_sees p id j u.seen u.stage free z.stage; begins = z.begins; halves = z.halves; based = z.based; spent = z.spent; owns = z.owns; differ = z.differ }),
        (x, p.log, refl, right, f.based live ∙ ap Some (sym based), omega arith, later s r id me.0 at),
      )

  pub sees : (slots id : ℕ) (me : M) (t : ℕ) → me.0.stage ≡ Waits t → 0 < me.0.share.top → me.1 ≡ []
      → Allows Rule slots id me 1 (λ n. n) (saw stands base_of (step slots 1 0 0 none) me)
  sees slots id me t waits live bare s r deep at _ =
      let P : List ℕ → Type 0 = λ ws. (w : View B) × (a : Act (Option T)) × Valid s.homes me.1 a
      × Rule record { words = slice_set ws 1 (slice_index ws 1); homes = homes_after s.homes me.1 a; views = set s.views id w }
      × saw stands base_of (step slots 1 0 0 none) me (slice_index ws 1) (w, carried_after me.1 a) in
      subst P (sym r.words) (dite (ℕ_discrete r.plan.serving t)
      (λ here. let (w, a, valid, kept, tells) = see_at s r id me t at waits live bare here r.plan.busy refl in
      (w, a, valid, kept, λ t' waits'. let same : t ≡ t' = cc (waits, waits') in ((λ _. subst (λ (z : ℕ). Sees stands base_of z me (w, carried_after me.1 a)) same tells), λ ne. absurd (ne (here ∙ same)))))
      (λ away. (me.0, keeps, tt, unmoved s r id me.0 at, λ t' waits'. let same : t ≡ t' = cc (waits, waits') in ((λ is. absurd (away (is ∙ sym same))), λ _. refl))))

  -- K4
  pub appends : (item : Item) (slots id : ℕ) (me : M) (t n : ℕ) → me.0.stage ≡ Holds t 0 → me.0.number ≡ Some n → 0 < me.0.share.top
      → Allows Rule slots id me 2 (λ k. (k + 1) % 2 ^ 64) (appended item (step slots 2 1 0 none) me)
  appends item slots id me t n holds number live s r deep at _ =
      let p : CellPlan B = r.plan in
      let v : View B = me.0 in
      let x : Logged = stamped v item in
      let log : List Logged = p.log ++ x ∷ [] in
      let p' : CellPlan B = record p { log = log; added = 1; top = id } in
      let w : View B = set_stage v (v.seen ++ x ∷ []) (Holds t 1) in
      let f = r.each id v at in
      let k = subst (AtStage p id v.seen) holds f.stage in
      let by : x.by ≡ n = ap number_or number in
      let mine : In n (numbers_of v) = subst (λ (o : Option ℕ). In n (numbers_or o v.met)) (sym number) (inl refl) in
      let o = f.owns n mine in
      let keeper : p.keeper x.by ≡ id = ap p.keeper by ∙ o.1 in
      let owner : p.owner p.serving ≡ id = ap p.owner (sym k.0) ∙ k.1 in
      let turn = r.turn k.2 in
      let c = r.count in
      let b = r.bounds in
      let none_added = k.3 in
      let less = turn.3 in
      let longer : length log ≡ length p.log + 1 = length-append p.log (x ∷ []) in
      let small : length p.log + 1 < 2 ^ 64 = omega arith in
      let next : (length p.log + 1) % 2 ^ 64 ≡ length log = omega arith in
      let grown : v.seen ++ x ∷ [] ≡ log = ap (λ xs. xs ++ x ∷ []) k.4 in
      let by_less : x.by < p.callers = (let q = o.0 in omega arith) in
      let P : List ℕ → Type 0 = λ ws. (w : View B) × (a : Act (Option T)) × Valid s.homes me.1 a
      × Rule record { words = slice_set ws 2 ((slice_index ws 2 + 1) % 2 ^ 64); homes = homes_after s.homes me.1 a; views = set s.views id w }
      × appended item (step slots 2 1 0 none) me (slice_index ws 2) (w, carried_after me.1 a) in
      let kept : Rule record { words = words_of p'; homes = s.homes; views = set s.views id w } =
      moves s r p' id v w s.homes at refl refl refl refl refl (b.0, b.1)
      (λ e. let busy : p.busy ≡ true = k.2 in absurd (cc (e, busy))) r.out
      (λ _. (w, ap (get_elem? (set s.views id w)) owner ∙ at_here s.views id v w at, ap (λ (z : ℕ). Holds z 1) k.0, less))
      (omega arith, (λ e. let busy : p.busy ≡ true = k.2 in absurd (cc (e, busy))), omega arith)
      (w, at_here s.views id v w at, grown)
      (λ m le. items_of-append m p.log (x ∷ []) ∙ (ap (λ xs. xs ++ items_of m (x ∷ [])) (r.bounded m le) ∙ items_of-other m x (λ e. omega arith)))
      record {
        stage = (k.0, k.1, k.2, refl, grown);
        begins = subst (λ (xs : List Logged). IsPrefix xs log) (sym grown) (prefix_self log);
        halves = f.halves;
        based = f.based;
        spent = λ z. absurd (omega arith);
        owns = λ m h. let q = f.owns m h in (q.0, q.1, ap (items_of m) grown);
        differ = f.differ;
      }
      (λ j u ne z. record {
        stage = stage_appends p id j x u.seen u.stage ne keeper owner z.stage;
        begins = prefix_snoc u.seen p.log x z.begins;
        halves = z.halves;
        based = z.based;
        spent = z.spent;
        owns = has_all_appends p id j x u.seen (numbers_of u) ne keeper z.owns;
        differ = z.differ;
      }) in
      subst P (sym r.words) (
        w,
        keeps,
        tt,
        subst (λ (m : ℕ). Rule record { words = p.ticket ∷ p.serving ∷ m ∷ p.callers ∷ p.bells; homes = s.homes; views = set s.views id w }) (sym next) kept,
        λ t' holds'. let same : t ≡ t' = cc (holds, holds') in ap (λ (z : ℕ). (set_stage v (v.seen ++ x ∷ []) (Holds z 1), me.1)) same,
      )

  -- K6
  passes_on_with : (slots id : ℕ) (v : View B) (x : T) (t a : ℕ) → v.stage ≡ Holds t a → 0 < v.share.top → stands x v.seen → v.base ≡ Some (base_of x)
      → Allows Rule slots id (v, (0, Some x) ∷ []) 1 (λ k. (k + 1) % 2 ^ 64) (passed_on (step slots 1 1 0 none) (v, (0, Some x) ∷ []))
  passes_on_with slots id v x t a holds live right based s r deep at _ =
      let p : CellPlan B = r.plan in
      let p' : CellPlan B = record p { serving = p.serving + 1; busy = false; added = 0 } in
      let w : View B = set_stage v v.seen Rest in
      let f = r.each id v at in
      let k = subst (AtStage p id v.seen) holds f.stage in
      let owner : p.owner p.serving ≡ id = ap p.owner (sym k.0) ∙ k.1 in
      let turn = r.turn k.2 in
      let less = turn.3 in
      let c = r.count in
      let b = r.bounds in
      let next : (p.serving + 1) % 2 ^ 64 ≡ p.serving + 1 = omega arith in
      let back : slice_set s.homes 0 (some (Some x)) ≡ some (Some x) ∷ [] = ap (λ (hs : Homes). slice_set hs 0 (some (Some x))) (r.out k.2) in
      let base_is : base_of x ≡ p.base = (let g : v.base ≡ Some p.base = f.based live in cc (g, based)) in
      let P : List ℕ → Type 0 = λ ws. (w : View B) × (a : Act (Option T)) × Valid s.homes ((0, Some x) ∷ []) a
      × Rule record { words = slice_set ws 1 ((slice_index ws 1 + 1) % 2 ^ 64); homes = homes_after s.homes ((0, Some x) ∷ []) a; views = set s.views id w }
      × passed_on (step slots 1 1 0 none) (v, (0, Some x) ∷ []) (slice_index ws 1) (w, carried_after ((0, Some x) ∷ []) a) in
      let kept : Rule record { words = words_of p'; homes = slice_set s.homes 0 (some (Some x)); views = set s.views id w } =
      moves s r p' id v w (slice_set s.homes 0 (some (Some x))) at refl refl refl refl refl (omega arith, b.1)
      (λ _. (x, back, subst (stands x) k.4 right, base_is)) (λ e. absurd (cc (e)))
      (λ e. absurd (cc (e)))
      (omega arith, (λ _. refl), omega arith)
      (at_after s.views id p.top v w (λ u. u.seen ≡ p.log) at (λ h. h) r.longest)
      r.bounded
      record { stage = tt; begins = f.begins; halves = f.halves; based = f.based; spent = f.spent; owns = f.owns; differ = f.differ }
      (λ j u ne z. record { stage = stage_passes p id j u.seen u.stage ne owner z.stage; begins = z.begins; halves = z.halves; based = z.based; spent = z.spent; owns = z.owns; differ = z.differ }) in
      subst P (sym r.words) (
        w,
        gives,
        tt,
        subst (λ (m : ℕ). Rule record { words = p.ticket ∷ m ∷ length p.log ∷ p.callers ∷ p.bells; homes = slice_set s.homes 0 (some (Some x)); views = set s.views id w }) (sym next) kept,
        (refl, let below : p.serving < 2305843009213693952 = omega arith in below),
      )

  pub passes_on : (slots id : ℕ) (me : M) (x : T) (t a : ℕ) → me.1 ≡ (0, Some x) ∷ [] → me.0.stage ≡ Holds t a → 0 < me.0.share.top → stands x me.0.seen → me.0.base ≡ Some (base_of x)
      → Allows Rule slots id me 1 (λ k. (k + 1) % 2 ^ 64) (passed_on (step slots 1 1 0 none) me)
  passes_on slots id me x t a carried holds live right based =
      subst (λ (c : List (ℕ × Option T)). Allows Rule slots id (me.0, c) 1 (λ k. (k + 1) % 2 ^ 64) (passed_on (step slots 1 1 0 none) (me.0, c))) (sym carried)
      (passes_on_with slots id me.0 x t a holds live right based)

  -- a bell changes, and nothing else
  pub rung : (s : St) (r : Rule s) (bells : List ℕ) → Rule record { words = words_of (record r.plan { bells = bells }); homes = s.homes; views = s.views }
  rung s r bells =
      let p : CellPlan B = r.plan in
      let p' : CellPlan B = record p { bells = bells } in
      record {
        plan = p';
        words = refl;
        bounds = r.bounds;
        home = r.home;
        out = r.out;
        turn = r.turn;
        count = r.count;
        each = λ j u e. let z = r.each j u e in
            record { stage = stage_rings p 0 j bells u.seen u.stage z.stage; begins = z.begins; halves = z.halves; based = z.based; spent = z.spent; owns = z.owns; differ = z.differ };
        longest = r.longest;
        shares = r.shares;
        claimed = r.claimed;
        bounded = r.bounded;
      }

  -- such a word becomes what f makes of it
  rings_at : (f : ℕ → ℕ) (slots id k : ℕ) (me : M) → Allows Rule slots id me (suc (suc (suc (suc k)))) f (rang (step slots (suc (suc (suc (suc k)))) 1 0 none) me)
  rings_at f slots id k me s r deep at _ =
      let i : ℕ = suc (suc (suc (suc k))) in
      let P : List ℕ → Type 0 = λ ws. (w : View B) × (a : Act (Option T)) × Valid s.homes me.1 a
      × Rule record { words = slice_set ws i (f (slice_index ws i)); homes = homes_after s.homes me.1 a; views = set s.views id w }
      × rang (step slots i 1 0 none) me (slice_index ws i) (w, carried_after me.1 a) in
      let now = rung s r (slice_set r.plan.bells k (f (slice_index (words_of r.plan) i))) in
      subst P (sym r.words) (
        me.0,
        keeps,
        tt,
        subst (λ (vs : List (View B)). Rule record { words = words_of (record r.plan { bells = slice_set r.plan.bells k (f (slice_index (words_of r.plan) i)) }); homes = s.homes; views = vs }) (sym (set_again s.views id me.0 at)) now,
        refl,
      )

  pub rings : (f : ℕ → ℕ) (slots id i : ℕ) (me : M) → 4 ≤ i → Allows Rule slots id me i f (rang (step slots i 1 0 none) me)
  rings f slots id i me far =
      let e : suc (suc (suc (suc (i - 4)))) ≡ i = omega arith in
      subst (λ (j : ℕ). Allows Rule slots id me j f (rang (step slots j 1 0 none) me)) e (rings_at f slots id (i - 4) me)

  pub starts : (x : T) (bells : List ℕ) → stands x [] → Rule (opening (0 ∷ 0 ∷ 0 ∷ 1 ∷ bells) (Some x ∷ []) (opening_view (base_of x)))
  starts x bells right =
      let b : B = base_of x in
      let v : View B = opening_view b in
      record {
        plan = record { ticket = 0; serving = 0; callers = 1; bells = bells; log = []; base = b; busy = false; added = 0; owner = λ _. 0; keeper = λ _. 0; top = 0; scale = 0 };
        words = refl;
        bounds = (omega arith, omega arith, omega arith);
        home = λ _. (x, refl, right, refl);
        out = λ e. absurd (cc (e));
        turn = λ e. absurd (cc (e));
        count = (omega arith, (λ _. refl), omega arith);
        each = λ j u e. first j u e;
        longest = (v, refl, refl);
        shares = refl;
        claimed = λ n less. (v, refl, inl (let z : n ≡ 0 = omega arith in z));
        bounded = λ n le. refl;
      }
    where
      first : (j : ℕ) (u : View B) → get_elem? (opening_view (base_of x) ∷ []) j ≡ some u
          → Fits record { ticket = 0; serving = 0; callers = 1; bells = bells; log = []; base = base_of x; busy = false; added = 0; owner = λ _. 0; keeper = λ _. 0; top = 0; scale = 0 } j u
      first zero u e = subst (λ (z : View B). Fits record { ticket = 0; serving = 0; callers = 1; bells = bells; log = []; base = base_of x; busy = false; added = 0; owner = λ _. 0; keeper = λ _. 0; top = 0; scale = 0 } 0 z)
          (some-injective (opening_view (base_of x)) u e) record {
            stage = tt;
            begins = ([], refl);
            halves = omega arith;
            based = λ _. refl;
            spent = λ z. absurd (omega arith);
            owns = λ n h. ⊎_elim (λ (is : n ≡ 0). let z : n < 1 = omega arith in (z, refl, refl)) (λ (no : ⊥). absurd no) h;
            differ = ((λ h. h), tt);
          }
      first (suc j) u e = absurd (some-ne-none u (sym e))

-- a pass has a number
pub number_is : (o : Option ℕ) → is_numbered o ≡ true → (n : ℕ) × (o ≡ Some n)
number_is None e = absurd (cc (e))
number_is (Some n) e = (n, refl)
