-- A new pass, and two passes that meet, keep the rule.
use Rattle.std.proofs.Common.{◌≡◌, ◌≢◌, ℕ, suc, ◌+◌, ◌-◌, ◌*◌, ◌^◌, ◌<◌, ◌≤◌, ◌==◌, max, Bool, true, false, List, [], ◌∷◌, ◌++◌, length, slice_index, slice_set, set, refl, ap, sym, ◌∙◌, subst, arith, inl, ⊎_elim, Option, Some, None}
use Rattle.std.proofs.lemmas.Bool.Decides.{nat_tests}
use mathlib.Core.List.{IsPrefix}
use mathlib.Core.Option.{some, none}
use mathlib.Core.Logic.{dite}
use native.Mathlib.Decide.{ℕ_discrete}
use lib.ListN.{get_elem?}
use prog.Atomic.{either}
use Rattle.atomic_table.specs.Table.{State, Me, step, Act, keeps, Allows, Valid, Splits, Joins, carried_after, homes_after}
use Rattle.atomic_table.proofs.Lists.{set_else, at_set, at_snoc, at_longer}
use Rattle.api_calls.specs.Item.{Logged, items_of}
use Rattle.turn_cell.specs.Numbers.{In, Differ}
use Rattle.turn_cell.specs.declared.view.Sight.{Sight}
use Rattle.turn_cell.specs.declared.view.Stage.{Stage}
use Rattle.turn_cell.specs.declared.view.Stage.TheVariants.{Rest, Waits, Holds, Met}
use Rattle.turn_cell.specs.declared.view.View.{View}
use Rattle.turn_cell.specs.Views.{numbers_of, numbers_or, set_stage, halved, newcomer, named, longer, sight, meeting, met_with, spent_view, Unites}
use Rattle.turn_cell.specs.Rule.{CellPlan, AtStage, HasAll, Fits, Kept, total, view_parts}
use Rattle.turn_cell.specs.Steps.{got_number, looked}
use Rattle.turn_cell.proofs.Lists.{pick, put, put_here, put_else, prefix_shorter, prefix_whole, prefix_length, at_here, same_at, total_set, total_snoc, none_in, nothing_before, items_between, longer_cases, in_left, in_right, in_cases, differ_append, zero_factor}
use Rattle.turn_cell.specs.laws.ShareLaws.{parts_double, parts_half, parts_both}
use Rattle.std.proofs.lemmas.Nat.{pow_pos}
use Rattle.turn_cell.proofs.Keeps.{words_of, at_after, unmoved, later, moves}

total_double : {B : Type 0} (k : ℕ) (views : List (View B)) → ((j : ℕ) (u : View B) → get_elem? views j ≡ some u → u.share.halves ≤ k)
    → total (view_parts (k + 1)) views ≡ 2 * total (view_parts k) views
total_double k [] low = refl
total_double k (v ∷ vs) low =
    let h = total_double k vs (λ j u e. low (suc j) u e) in
    let d = parts_double v.share k (low 0 v refl) in
    omega arith

-- what others know stays where a number is given, and where two seats are joined
module _ {B : Type 0} (p : CellPlan B) (id j : ℕ) where
  has_all_names : (seen : List Logged) (numbers : List ℕ) → HasAll p j seen numbers → HasAll (record p { callers = p.callers + 1; keeper = put p.keeper p.callers id }) j seen numbers
  has_all_names seen numbers h n at = let o = h n at in let less = o.0 in (omega arith, put_else p.keeper p.callers id n (λ e. omega arith) ∙ o.1, o.2)

  stage_names : (seen : List Logged) (st : Stage) → AtStage p j seen st → AtStage (record p { callers = p.callers + 1; keeper = put p.keeper p.callers id }) j seen st
  stage_names seen Rest k = tt
  stage_names seen (Waits t) k = k
  stage_names seen (Holds t a) k = k
  stage_names seen (Met a b) k = (k.0, k.1, has_all_names a.seen a.numbers k.2, has_all_names b.seen b.numbers k.3, k.4)

-- what belonged to the seat other belongs to id
pub moved : (ℕ → ℕ) → ℕ → ℕ → ℕ → ℕ
moved f other id n = pick (ℕ_discrete (f n) other) id (f n)

moved_there : (f : ℕ → ℕ) (other id n : ℕ) → f n ≡ other → moved f other id n ≡ id
unfolding moved
moved_there f other id n e = go (ℕ_discrete (f n) other)
  where
    go : (d : Dec (f n ≡ other)) → pick d id (f n) ≡ id
    go (yes _) = refl
    go (no ne) = absurd (ne e)

moved_else : (f : ℕ → ℕ) (other id n : ℕ) → f n ≢ other → moved f other id n ≡ f n
unfolding moved
moved_else f other id n ne = go (ℕ_discrete (f n) other)
  where
    go : (d : Dec (f n ≡ other)) → pick d id (f n) ≡ f n
    go (yes e) = absurd (ne e)
    go (no _) = refl

module _ {B : Type 0} (p : CellPlan B) (other id : ℕ) (top : ℕ) where
  abbrev joined : CellPlan B
  joined = record p { keeper = moved p.keeper other id; top = top }

  has_all_joins : (j : ℕ) (seen : List Logged) (numbers : List ℕ) → j ≢ other → HasAll p j seen numbers → HasAll joined j seen numbers
  has_all_joins j seen numbers ne h n at = let o = h n at in (o.0, moved_else p.keeper other id n (λ e. ne (sym o.1 ∙ e)) ∙ o.1, o.2)

  stage_joins : (j : ℕ) (seen : List Logged) (st : Stage) → j ≢ other → AtStage p j seen st → AtStage joined j seen st
  stage_joins j seen Rest ne k = tt
  stage_joins j seen (Waits t) ne k = k
  stage_joins j seen (Holds t a) ne k = k
  stage_joins j seen (Met a b) ne k = (k.0, k.1, has_all_joins j a.seen a.numbers ne k.2, has_all_joins j b.seen b.numbers ne k.3, k.4)

module _ {T B : Type 0} (stands : T → List Logged → Type 0) (base_of : T → B) where
  abbrev St : Type 0
  St = State (Option T) (View B)

  abbrev M : Type 0
  M = Me (Option T) (View B)

  abbrev Rule : St → Type 0
  Rule = Kept stands base_of

  longer_list : (P : View B → Type 0) (views : List (View B)) (w : View B) (i : ℕ) → (u : View B) × (get_elem? views i ≡ some u) × P u
      → (u : View B) × (get_elem? (views ++ w ∷ []) i ≡ some u) × P u
  longer_list P views w i (u, is, h) = (u, at_longer views (w ∷ []) i u is, h)

  -- K7, the split
  pub splits : (id : ℕ) (v : View B) → Splits Rule id v (halved v) (newcomer v)
  splits id v s r at =
      let p : CellPlan B = r.plan in
      let k : ℕ = p.scale in
      let p' : CellPlan B = record p { scale = k + 1 } in
      let l : View B = halved v in
      let w : View B = newcomer v in
      let f = r.each id v at in
      record {
        plan = p';
        words = r.words;
        bounds = r.bounds;
        home = r.home;
        out = r.out;
        turn = λ busy. let t = r.turn busy in
            let a = longer_list (λ u. u.stage ≡ Holds p.serving p.added) (set s.views id l) w (p.owner p.serving)
            (at_after stands base_of s.views id (p.owner p.serving) v l (λ u. u.stage ≡ Holds p.serving p.added) at (λ h. h) (t.0, t.1, t.2)) in (a.0, a.1, a.2, t.3);
        count = r.count;
        each = λ j u e. ⊎_elim
            (λ (was : get_elem? (set s.views id l) j ≡ some u). ⊎_elim
            (λ (t : (j ≡ id) × (l ≡ u)). subst (λ (z : ℕ × View B). Fits p' z.0 z.1) (λ i. (sym t.0 i, t.1 i))
            record { stage = f.stage; begins = f.begins; halves = (let h = f.halves in omega arith); based = f.based; spent = f.spent; owns = f.owns; differ = f.differ })
            (λ (t : (j ≢ id) × (get_elem? s.views j ≡ some u)). let z = r.each j u t.1 in
            record { stage = z.stage; begins = z.begins; halves = (let h = z.halves in omega arith); based = z.based; spent = z.spent; owns = z.owns; differ = z.differ })
            (at_set s.views id j l u was))
            (λ (same : w ≡ u). subst (λ (z : View B). Fits p' j z) same
            record { stage = tt; begins = f.begins; halves = (let h = f.halves in omega arith); based = f.based; spent = λ z. ((f.spent z).0, refl); owns = λ n h. absurd h; differ = tt })
            (at_snoc (set s.views id l) w u j e);
        longest = longer_list (λ u. u.seen ≡ p.log) (set s.views id l) w p.top (at_after stands base_of s.views id p.top v l (λ u. u.seen ≡ p.log) at (λ h. h) r.longest);
        shares =
            let g : View B → ℕ = view_parts (k + 1) in
            let d = total_double k s.views (λ j u e. (r.each j u e).halves) in
            let all = r.shares in
            let a = total_set g s.views id v l at in
            let b = total_snoc g (set s.views id l) w in
            let gl : g l ≡ view_parts k v = parts_half v.share k in
            let gw : g w ≡ view_parts k v = parts_half v.share k in
            let gv : g v ≡ 2 * view_parts k v = parts_double v.share k f.halves in
            let up : 2 ^ (k + 1) ≡ 2 ^ k * 2 = Rattle.std.proofs.lemmas.Nat.pow-add 2 k 1 in
            omega arith;
        claimed = λ n less. longer_list (λ u. In n (numbers_of u)) (set s.views id l) w (p.keeper n)
            (at_after stands base_of s.views id (p.keeper n) v l (λ u. In n (numbers_of u)) at (λ h. h) (r.claimed n less));
        bounded = r.bounded;
      }

  -- K7, the number
  name_at : (s : St) (r : Rule s) (slots old id : ℕ) (me : M) → get_elem? s.views id ≡ some me.0 → me.0.stage ≡ Rest → me.0.number ≡ None → 0 < me.0.share.top → old < 4611686018427387904
      → (b : Bool) → (r.plan.callers == old) ≡ b
      → (w : View B) × (a : Act (Option T)) × Valid s.homes me.1 a
      × Rule record { words = r.plan.ticket ∷ r.plan.serving ∷ length r.plan.log ∷ either (r.plan.callers == old) (old + 1) r.plan.callers ∷ r.plan.bells; homes = homes_after s.homes me.1 a; views = set s.views id w }
      × got_number (step slots 3 old (old + 1) none) me r.plan.callers (w, carried_after me.1 a)
  name_at s r slots old id me at rest nameless live small true is =
      let p : CellPlan B = r.plan in
      let v : View B = me.0 in
      let here : p.callers ≡ old = grind (arith, nat_tests) in
      let p' : CellPlan B = record p { callers = p.callers + 1; keeper = put p.keeper p.callers id } in
      let w : View B = named old v in
      let f = r.each id v at in
      let b = r.bounds in
      let nothing : items_of old p.log ≡ [] = r.bounded old (let le : p.callers ≤ old = omega arith in le) in
      let unseen : items_of old v.seen ≡ [] = nothing_before old v.seen p.log f.begins nothing in
      let no_numbers : numbers_of v ≡ [] = ap (λ (o : Option ℕ). numbers_or o v.met) nameless in
      let kept : Rule record { words = words_of stands base_of p'; homes = s.homes; views = set s.views id w } = record {
        plan = p';
        words = refl;
        bounds = (b.0, b.1, omega arith);
        home = r.home;
        out = r.out;
        turn = λ busy. let t = r.turn busy in
            let a = at_after stands base_of s.views id (p.owner p.serving) v w (λ u. u.stage ≡ Holds p.serving p.added) at (λ h. h) (t.0, t.1, t.2) in (a.0, a.1, a.2, t.3);
        count = r.count;
        each = λ j u e. ⊎_elim
            (λ (t : (j ≡ id) × (w ≡ u)). subst (λ (z : ℕ × View B). Fits p' z.0 z.1) (λ i. (sym t.0 i, t.1 i)) record {
              stage = subst (λ (st : Stage). AtStage p' id v.seen st) (sym rest) tt;
              begins = f.begins;
              halves = f.halves;
              based = f.based;
              spent = λ z. absurd (omega arith);
              owns = λ n h. ⊎_elim (λ (same : n ≡ old). (omega arith, put_here p.keeper p.callers id n (same ∙ sym here), ap (λ m. items_of m v.seen) same ∙ (unseen ∙ sym (ap (λ m. items_of m p.log) same ∙ nothing)))) (λ (no : ⊥). absurd no) h;
              differ = ((λ h. h), tt);
            })
            (λ (t : (j ≢ id) × (get_elem? s.views j ≡ some u)). let z = r.each j u t.1 in record {
              stage = stage_names p id j u.seen u.stage z.stage;
              begins = z.begins;
              halves = z.halves;
              based = z.based;
              spent = z.spent;
              owns = has_all_names p id j u.seen (numbers_of u) z.owns;
              differ = z.differ;
            })
            (at_set s.views id j w u e);
        longest = at_after stands base_of s.views id p.top v w (λ u. u.seen ≡ p.log) at (λ h. h) r.longest;
        shares = (let a = total_set (view_parts p.scale) s.views id v w at in let q = r.shares in let e : total (view_parts p.scale) (set s.views id w) ≡ total (view_parts p.scale) s.views = omega arith in e ∙ q);
        claimed = λ n less. dite (ℕ_discrete n p.callers)
            (λ e. (w, ap (get_elem? (set s.views id w)) (put_here p.keeper p.callers id n e) ∙ at_here s.views id v w at, inl (e ∙ here)))
            (λ ne. let was = r.claimed n (let l : n < p.callers = omega arith in l) in
            let now = at_after stands base_of s.views id (p.keeper n) v w (λ u. In n (numbers_of u)) at (λ h. absurd (none_in n (numbers_of v) no_numbers h)) was in
            subst (λ (m : ℕ). (u : View B) × (get_elem? (set s.views id w) m ≡ some u) × In n (numbers_of u)) (sym (put_else p.keeper p.callers id n ne)) now);
        bounded = λ n le. r.bounded n (omega arith);
      } in
      let same : p.callers + 1 ≡ old + 1 = ap (λ (n : ℕ). n + 1) here in
      (w, keeps, tt, rw is (subst (λ (c : ℕ). Rule record { words = p.ticket ∷ p.serving ∷ length p.log ∷ c ∷ p.bells; homes = s.homes; views = set s.views id w }) same kept), rw is (refl, unseen))
  name_at s r slots old id me at rest nameless live small false is = (me.0, keeps, tt, rw is (unmoved stands base_of s r id me.0 at), rw is refl)

  pub names : (slots id : ℕ) (me : M) (old : ℕ) → me.0.stage ≡ Rest → me.0.number ≡ None → 0 < me.0.share.top → old < 4611686018427387904
      → Allows Rule slots id me 3 (λ n. either (n == old) (old + 1) n) (got_number (step slots 3 old (old + 1) none) me)
  names slots id me old rest nameless live small s r deep at _ =
      let P : List ℕ → Type 0 = λ ws. (w : View B) × (a : Act (Option T)) × Valid s.homes me.1 a
      × Rule record { words = slice_set ws 3 (either (slice_index ws 3 == old) (old + 1) (slice_index ws 3)); homes = homes_after s.homes me.1 a; views = set s.views id w }
      × got_number (step slots 3 old (old + 1) none) me (slice_index ws 3) (w, carried_after me.1 a) in
      subst P (sym r.words) (name_at s r slots old id me at rest nameless live small (r.plan.callers == old) refl)

  -- K8, the join
  module _ (s : St) (r : Rule s) (id other : ℕ) (v w : View B) (at : get_elem? s.views id ≡ some v) (ne : other ≢ id) (is : get_elem? s.views other ≡ some w)
      (rest : v.stage ≡ Rest) (rest' : w.stage ≡ Rest) (m : ℕ) (number : v.number ≡ Some m) (live : 0 < v.share.top) where
    abbrev both : View B
    both = meeting v w

    abbrev after : List (View B)
    after = set (set s.views id both) other spent_view

    at_id : get_elem? after id ≡ some both
    at_id = set_else (set s.views id both) other id spent_view (λ e. ne (sym e)) ∙ at_here s.views id v both at

    -- what the view at i is afterwards, where neither seat stands at i
    at_else : (i : ℕ) (u : View B) → i ≢ id → i ≢ other → get_elem? s.views i ≡ some u → get_elem? after i ≡ some u
    at_else i u ni nq e = set_else (set s.views id both) other i spent_view nq ∙ (set_else s.views id i both ni ∙ e)

    all_numbers : numbers_of both ≡ numbers_of v ++ numbers_of w
    all_numbers = ap (λ (o : Option ℕ). numbers_or o (v.met ++ numbers_of w)) number ∙ sym (ap (λ (o : Option ℕ). numbers_or o v.met ++ numbers_of w) number)

    abbrev p : CellPlan B
    p = r.plan

    abbrev p' : CellPlan B
    p' = joined p other id (pick (ℕ_discrete p.top other) id p.top)

    left_has : HasAll p' id v.seen (numbers_of v)
    left_has = has_all_joins p other id (pick (ℕ_discrete p.top other) id p.top) id v.seen (numbers_of v) (λ e. ne (sym e)) (r.each id v at).owns

    right_has : HasAll p' id w.seen (numbers_of w)
    right_has n h = let o = (r.each other w is).owns n h in (o.0, moved_there p.keeper other id n o.1, o.2)

    apart : Differ (numbers_of v ++ numbers_of w)
    apart = differ_append (numbers_of v) (numbers_of w) (r.each id v at).differ (r.each other w is).differ
        (λ n a b. ne (sym ((r.each other w is).owns n b).1 ∙ ((r.each id v at).owns n a).1))

    begins : IsPrefix (longer v.seen w.seen) p.log
    begins = longer_cases v.seen w.seen (λ xs. IsPrefix xs p.log) (λ _. (r.each other w is).begins) (λ _. (r.each id v at).begins)

    left_begins : IsPrefix v.seen (longer v.seen w.seen)
    left_begins = prefix_shorter v.seen (longer v.seen w.seen) p.log (r.each id v at).begins begins
        (longer_cases v.seen w.seen (λ xs. length v.seen ≤ length xs) (λ l. omega arith) (λ l. omega arith))

    right_begins : IsPrefix w.seen (longer v.seen w.seen)
    right_begins = prefix_shorter w.seen (longer v.seen w.seen) p.log (r.each other w is).begins begins
        (longer_cases v.seen w.seen (λ xs. length w.seen ≤ length xs) (λ l. omega arith) (λ l. l))

    both_fit : Fits p' id both
    both_fit = record {
      stage = ((r.each id v at).begins, (r.each other w is).begins, left_has, right_has, apart);
      begins = begins;
      halves = (let a = (r.each id v at).halves in let b = (r.each other w is).halves in omega arith);
      based = λ _. (r.each id v at).based live;
      spent = λ z. absurd (
          let x : ℕ = 2 ^ (max v.share.halves w.share.halves - v.share.halves) in
          let none_left : v.share.top * x ≡ 0 = omega arith in
          let top : v.share.top ≡ 0 = zero_factor v.share.top x none_left (pow_pos (max v.share.halves w.share.halves - v.share.halves)) in
          omega arith);
      owns = λ n h. ⊎_elim
          (λ (a : In n (numbers_of v)). let o = left_has n a in (o.0, o.1, items_between n v.seen (longer v.seen w.seen) p.log left_begins begins o.2))
          (λ (b : In n (numbers_of w)). let o = right_has n b in (o.0, o.1, items_between n w.seen (longer v.seen w.seen) p.log right_begins begins o.2))
          (in_cases n (numbers_of v) (numbers_of w) (subst (In n) all_numbers h));
      differ = subst Differ (sym all_numbers) apart;
    }

    spent_fits : Fits p' other spent_view
    spent_fits = record {
      stage = tt;
      begins = (p.log, refl);
      halves = omega arith;
      based = λ z. absurd (omega arith);
      spent = λ _. (refl, refl);
      owns = λ n h. absurd h;
      differ = tt;
    }

    tops : (d : Dec (p.top ≡ other)) → (u : View B) × (get_elem? after (pick d id p.top) ≡ some u) × (u.seen ≡ p.log)
    tops (yes e) = let (u, there, seen) = r.longest in let same : u ≡ w = same_at s.views p.top other u w there is e in
        let whole : w.seen ≡ p.log = ap (λ (z : View B). z.seen) (sym same) ∙ seen in
        (both, at_id, prefix_whole (longer v.seen w.seen) p.log begins (let l = prefix_length w.seen (longer v.seen w.seen) right_begins in let k : length w.seen ≡ length p.log = ap length whole in omega arith))
    tops (no no_other) = let (u, there, seen) = r.longest in dite (ℕ_discrete p.top id)
        (λ e. let same : u ≡ v = same_at s.views p.top id u v there at e in
        let whole : v.seen ≡ p.log = ap (λ (z : View B). z.seen) (sym same) ∙ seen in
        (both, ap (get_elem? after) e ∙ at_id, prefix_whole (longer v.seen w.seen) p.log begins (let l = prefix_length v.seen (longer v.seen w.seen) left_begins in let k : length v.seen ≡ length p.log = ap length whole in omega arith)))
        (λ ni. (u, at_else p.top u ni no_other there, seen))

    claims : (n : ℕ) → n < p.callers → (u : View B) × (get_elem? after (moved p.keeper other id n) ≡ some u) × In n (numbers_of u)
    claims n less = let (u, there, has) = r.claimed n less in dite (ℕ_discrete (p.keeper n) other)
        (λ e. let same : u ≡ w = same_at s.views (p.keeper n) other u w there is e in
        (both, ap (get_elem? after) (moved_there p.keeper other id n e) ∙ at_id, subst (In n) (sym all_numbers) (in_right n (numbers_of v) (numbers_of w) (subst (λ (z : View B). In n (numbers_of z)) same has))))
        (λ no_other. dite (ℕ_discrete (p.keeper n) id)
        (λ e. let same : u ≡ v = same_at s.views (p.keeper n) id u v there at e in
        (both, ap (get_elem? after) (moved_else p.keeper other id n no_other ∙ e) ∙ at_id, subst (In n) (sym all_numbers) (in_left n (numbers_of v) (numbers_of w) (subst (λ (z : View B). In n (numbers_of z)) same has))))
        (λ ni. (u, ap (get_elem? after) (moved_else p.keeper other id n no_other) ∙ at_else (p.keeper n) u ni no_other there, has)))

    join_keeps : Rule record { words = s.words; homes = s.homes; views = after }
    join_keeps = record {
      plan = p';
      words = r.words;
      bounds = r.bounds;
      home = r.home;
      out = r.out;
      turn = λ busy. let t = r.turn busy in let holds = t.2 in let there = t.1 in (
        t.0,
        at_else (p.owner p.serving) t.0
            (λ e. let same : t.0 ≡ v = same_at s.views (p.owner p.serving) id t.0 v there at e in absurd (cc (same, holds, rest)))
            (λ e. let same : t.0 ≡ w = same_at s.views (p.owner p.serving) other t.0 w there is e in absurd (cc (same, holds, rest')))
            there,
        holds,
        t.3,
      );
      count = r.count;
      each = λ j u e. ⊎_elim
          (λ (t : (j ≡ other) × (spent_view ≡ u)). subst (λ (z : ℕ × View B). Fits p' z.0 z.1) (λ i. (sym t.0 i, t.1 i)) spent_fits)
          (λ (t : (j ≢ other) × (get_elem? (set s.views id both) j ≡ some u)). ⊎_elim
          (λ (q : (j ≡ id) × (both ≡ u)). subst (λ (z : ℕ × View B). Fits p' z.0 z.1) (λ i. (sym q.0 i, q.1 i)) both_fit)
          (λ (q : (j ≢ id) × (get_elem? s.views j ≡ some u)). let z = r.each j u q.1 in record {
            stage = stage_joins p other id (pick (ℕ_discrete p.top other) id p.top) j u.seen u.stage t.0 z.stage;
            begins = z.begins;
            halves = z.halves;
            based = z.based;
            spent = z.spent;
            owns = has_all_joins p other id (pick (ℕ_discrete p.top other) id p.top) j u.seen (numbers_of u) t.0 z.owns;
            differ = z.differ;
          })
          (at_set s.views id j both u t.1))
          (at_set (set s.views id both) other j spent_view u e);
      longest = tops (ℕ_discrete p.top other);
      shares =
          let g : View B → ℕ = view_parts p.scale in
          let a = total_set g s.views id v both at in
          let b = total_set g (set s.views id both) other w spent_view (set_else s.views id other both ne ∙ is) in
          let sum : g both ≡ g v + g w = parts_both v.share w.share p.scale (r.each id v at).halves (r.each other w is).halves in
          let nil : g spent_view ≡ 0 = omega arith in
          let all = r.shares in
          let e : total g after ≡ total g s.views = omega arith in
          e ∙ all;
      claimed = claims;
      bounded = r.bounded;
    }

  pub joins : (id other : ℕ) (v w : View B) → v.stage ≡ Rest → w.stage ≡ Rest → (m : ℕ) → v.number ≡ Some m → 0 < v.share.top
      → Joins Rule id v other w (meeting v w) spent_view
  joins id other v w rest rest' m number live s r at ne there =
      join_keeps s r id other v w at ne (sym (set_else s.views id other (meeting v w) ne) ∙ there) rest rest' m number live

  -- K8, the load
  pub looks : (slots id : ℕ) (me : M) (a b : Sight) → me.0.stage ≡ Met a b → length a.seen ≤ length me.0.seen → length b.seen ≤ length me.0.seen
      → Allows Rule slots id me 2 (λ n. n) (looked (step slots 2 0 0 none) me)
  looks slots id me a b met la lb s r deep at _ =
      let p : CellPlan B = r.plan in
      let v : View B = me.0 in
      let w : View B = set_stage v v.seen Rest in
      let f = r.each id v at in
      let k = subst (AtStage p id v.seen) met f.stage in
      let first : IsPrefix a.seen v.seen = prefix_shorter a.seen v.seen p.log k.0 f.begins la in
      let second : IsPrefix b.seen v.seen = prefix_shorter b.seen v.seen p.log k.1 f.begins lb in
      let P : List ℕ → Type 0 = λ ws. (w : View B) × (a : Act (Option T)) × Valid s.homes me.1 a
      × Rule record { words = slice_set ws 2 (slice_index ws 2); homes = homes_after s.homes me.1 a; views = set s.views id w }
      × looked (step slots 2 0 0 none) me (slice_index ws 2) (w, carried_after me.1 a) in
      let not_holding : (u : View B) → u ≡ v → (t n : ℕ) → u.stage ≡ Holds t n → ⊥ = λ u same t n holds. cc (same, holds, met) in
      subst P (sym r.words) (
        w,
        keeps,
        tt,
        moves stands base_of s r p id v w s.homes at refl refl refl refl refl (r.bounds.0, r.bounds.1) r.home r.out
            (λ busy. let t = r.turn busy in (
              t.0,
              set_else s.views id (p.owner p.serving) w (λ e. not_holding t.0 (same_at s.views (p.owner p.serving) id t.0 v t.1 at e) p.serving p.added t.2) ∙ t.1,
              t.2,
              t.3,
            ))
            r.count
            (at_after stands base_of s.views id p.top v w (λ u. u.seen ≡ p.log) at (λ h. h) r.longest)
            r.bounded
            record { stage = tt; begins = f.begins; halves = f.halves; based = f.based; spent = f.spent; owns = f.owns; differ = f.differ }
            (λ j u ne z. z),
        λ a' b' met'.
            let ea : a ≡ a' = cc (met, met') in
            let eb : b ≡ b' = cc (met, met') in (
              refl,
              subst (λ (z : Sight × Sight). Unites z.0 z.1 v) (λ i. (ea i, eb i)) (
                first,
                second,
                k.4,
                (λ n h. items_between n a.seen v.seen p.log first f.begins (k.2 n h).2 ∙ sym (k.2 n h).2),
                (λ n h. items_between n b.seen v.seen p.log second f.begins (k.3 n h).2 ∙ sym (k.3 n h).2),
                (λ alone n out. nothing_before n v.seen p.log f.begins ((later stands base_of s r id v at).3 alone n out)),
              ),
            ),
      )

-- what the seat knows after the join and the load
pub meets : {T B : Type 0} (slots r : ℕ) (v w : View B) (j l : Me (Option T) (View B)) (c : List (ℕ × Option T)) → j ≡ (meeting v w, c) → looked (step slots 2 0 0 none) j r l
    → (l ≡ (met_with v w, c)) × Unites (sight v) (sight w) l.0
meets slots r v w j l c is tells =
    let t = tells (sight v) (sight w) (ap (λ m. m.0.stage) is) in
    let now : l ≡ (met_with v w, c) = t.0 ∙ ap (λ m. (set_stage m.0 m.0.seen Rest, m.1)) is in
    let here : Unites (sight v) (sight w) (met_with v w) = subst (Unites (sight v) (sight w)) (ap (λ m. m.0) is) t.1 in
    (now, subst (Unites (sight v) (sight w)) (sym (ap (λ m. m.0) now)) here)
