-- What the tests of a cell tell.
use Rattle.std.proofs.Common.{◌≡◌, ◌==◌, List, [], ◌∷◌, ◌++◌, Bool, true, false, cond, ◌&&◌, ◌↔◌, IsTrue, Option, Some, None, Result, Ok, Err, OnOk, append-nil, refl, map, length, ap, ap₂, sym, subst, ◌∙◌, arith}
use Rattle.std.proofs.lemmas.Bool.Decides.{nat_tests}
use Rattle.kj_value.specs.Json.{Json}
use Rattle.kj_value.specs.Fields.{Pairs, field}
use Rattle.kj_value.specs.Same.{json_same}
use Rattle.kj_value.specs.laws.SameLaws.{json_same-Decides}
use Rattle.hub_cells.specs.Side.{Side, spoke, hub, other}
use Rattle.hub_cells.specs.Cell.{Kind, same, Tuple}
use Rattle.hub_cells.specs.Cross.{matched, shown}
use Rattle.hub_cells.specs.Level.{Name, Cell, CellFits, allows, names, tuple_of}
use Rattle.hub_cells.specs.Answer.{answer, answer_by}
use Rattle.kept_entries.specs.declared.entry.Entry.{Entry}
use Rattle.keep_laws.specs.Entry.{put, kept_of}
use Rattle.keep_laws.specs.Marked.{Mark, crossed_as, crossed_mark}
use Rattle.keep_laws.specs.Body.{entry_of}
use Rattle.keep_laws.specs.Settle.{is_unmatched, tuple_same, alive, living}
use Rattle.keep_bodies.specs.declared.left.Left.{Left}
use Rattle.keep_bodies.specs.inner.Left.{left_entry, entries_left}
use Rattle.keep_bodies.specs.inner.Over.{tuple_here, mark_over}

lies : false ≡ true → ⊥
lies e = cc

pub same_test : (b : Bool) (i j : Json) → IsTrue b ↔ (i ≡ j) → b ≡ json_same i j
same_test b i j h = by_answer b h (json_same i j) refl
  where
    by_answer : (b : Bool) → IsTrue b ↔ (i ≡ j) → (c : Bool) → json_same i j ≡ c → b ≡ c
    by_answer true h true q = refl
    by_answer false h false q = refl
    by_answer true h false q = absurd (lies (sym q ∙ (json_same-Decides i j).1 (h.0 refl)))
    by_answer false h true q = absurd (lies (h.1 ((json_same-Decides i j).0 q)))

pub was_matched : (o : Option Tuple) (t u : Tuple) → (u, true) ≡ answer_by o t → is_unmatched o ≡ false
was_matched None t u e = absurd (lies (ap (λ (p : Tuple × Bool). p.1) (sym e)))
was_matched (Some v) t u e = refl

pub was_shown : (o : Option Tuple) (t u : Tuple) → (u, false) ≡ answer_by o t → (is_unmatched o ≡ true) × (u ≡ t)
was_shown None t u e = (refl, ap (λ (p : Tuple × Bool). p.0) e)
was_shown (Some v) t u e = absurd (lies (ap (λ (p : Tuple × Bool). p.1) e))

not_alive : (a m s : Bool) → m ≡ false → false ≡ (a && m && s)
not_alive true m s h = rw h refl
not_alive false m s h = refl

pub alive_not : (d e : Side) (c : Cell) (t u v : Tuple) (b : Bool) → e ≡ other d → b ≡ true → (v, b) ≡ answer e c.kind u → false ≡ alive d c t u
alive_not d e c t u v b s q h =
    let seen : (v, true) ≡ answer (other d) c.kind u = ap (λ (m : Bool). (v, m)) (sym q) ∙ h ∙ ap (λ (f : Side). answer f c.kind u) s in
    not_alive (allows (other d) c u) (is_unmatched (matched (other d) c.kind u)) (tuple_same t (shown (other d) c.kind u)) (was_matched (matched (other d) c.kind u) (shown (other d) c.kind u) v seen)

is_alive : (a m s b : Bool) → a ≡ true → m ≡ true → s ≡ b → b ≡ (a && m && s)
is_alive a m s b p q r = rw (p, q) (sym r)

pub alive_is : (d e : Side) (c : Cell) (t u v : Tuple) (m b : Bool) → e ≡ other d → allows e c u ≡ true → m ≡ false → (v, m) ≡ answer e c.kind u → b ≡ tuple_same t v → b ≡ alive d c t u
alive_is d e c t u v m b s a q h r =
    let seen : (v, false) ≡ answer (other d) c.kind u = ap (λ (n : Bool). (v, n)) (sym q) ∙ h ∙ ap (λ (f : Side). answer f c.kind u) s in
    let shows = was_shown (matched (other d) c.kind u) (shown (other d) c.kind u) v seen in
    is_alive (allows (other d) c u) (is_unmatched (matched (other d) c.kind u)) (tuple_same t (shown (other d) c.kind u)) b (ap (λ (f : Side). allows f c u) (sym s) ∙ a) shows.0 (ap (tuple_same t) (sym shows.1) ∙ sym r)

-- ---- the mark of a cell

-- from what crossing answers: what is put, and what is kept of it where it is no match
marked_by : (d : Side) (k : Kind) (t u : Tuple) (b : Bool) (o : Option Tuple) → (u, b) ≡ answer_by o (shown d k t) → (u, cond b None (Some t)) ≡ crossed_as d k o t
marked_by d k t u b None e = ap (λ (p : Tuple × Bool). (p.0, cond p.1 None (Some t))) e
marked_by d k t u b (Some v) e = ap (λ (p : Tuple × Bool). (p.0, cond p.1 None (Some t))) e

pub marked : (d : Side) (k : Kind) (t u : Tuple) (b : Bool) → (u, b) ≡ answer d k t → (u, cond b None (Some t)) ≡ crossed_mark d k t None
marked d k t u b e = marked_by d k t u b (matched d k t) e

-- values that are equal on both sides go over as they are, and nothing that is kept of them is alive
marked_same : (d : Side) (k : Kind) (t : Tuple) → k ≡ same → crossed_mark d k t None ≡ (t, None)
marked_same spoke k t e = ap (λ (j : Kind). crossed_mark spoke j t None) e
marked_same hub k t e = ap (λ (j : Kind). crossed_mark hub j t None) e

same_matched : (d : Side) (u : Tuple) → is_unmatched (matched d same u) ≡ false
same_matched spoke u = refl
same_matched hub u = refl

never_alive : (d : Side) (c : Cell) (t u : Tuple) → c.kind ≡ same → false ≡ alive d c t u
never_alive d c t u e =
    not_alive (allows (other d) c u) (is_unmatched (matched (other d) c.kind u)) (tuple_same t (shown (other d) c.kind u)) (ap (λ (k : Kind). is_unmatched (matched (other d) k u)) e ∙ same_matched (other d) u)

none_living : (d : Side) (c : Cell) (t : Tuple) (o : Option Tuple) → c.kind ≡ same → living d c t o ≡ None
none_living d c t None e = refl
none_living d c t (Some u) e = ap (λ (b : Bool). cond b (Some u) None) (sym (never_alive d c t u e))

same_over : (d : Side) (c : Cell) (x : Pairs) (es : List Entry) → c.kind ≡ same → mark_over d c x es ≡ (tuple_here d c x, None)
same_over d c x es e =
    ap (crossed_mark d c.kind (tuple_here d c x)) (none_living d c (tuple_here d c x) (kept_of (names (other d) c) es) e) ∙ marked_same d c.kind (tuple_here d c x) e

pub same_fields : {X E : Type 0} (r : Result X E) (d e : Side) (c : Cell) (x old new : Pairs) (es : List Entry) (own theirs : List Name) → c.kind ≡ same → own ≡ names d c → e ≡ other d → theirs ≡ names e c → OnOk r (new ≡ put theirs (tuple_of own x) old) → OnOk r (new ≡ put (names (other d) c) (mark_over d c x es).0 old)
same_fields (Ok v) d e c x old new es own theirs k s q t h =
    h ∙ ap₂ (λ (ns : List Name) (os : Tuple). put ns os old) (t ∙ ap (λ (f : Side). names f c) q) (ap (λ (ns : List Name). tuple_of ns x) s ∙ ap (λ (m : Mark). m.0) (sym (same_over d c x es k)))
same_fields (Err w) d e c x old new es own theirs k s q t h = tt

pub same_entries : {X E : Type 0} (r : Result X E) (d : Side) (c : Cell) (x : Pairs) (es old : List Entry) → c.kind ≡ same → OnOk r (old ≡ old ++ entry_of (names d c) (mark_over d c x es).1 [])
same_entries (Ok v) d c x es old k =
    sym (append-nil old) ∙ ap (λ (m : Mark). old ++ entry_of (names d c) m.1 []) (sym (same_over d c x es k))
same_entries (Err w) d c x es old k = tt

-- ---- what stands at a cell's names, of which there are none or one

pub one_here : (d : Side) (c : Cell) (x : Pairs) (ns : List Name) (n k : Name) (i j : Json) → ns ≡ names d c → ns ≡ n ∷ [] → k ≡ n → Some j ≡ field k x → i ≡ j → Some i ∷ [] ≡ tuple_here d c x
one_here d c x ns n k i j s e q h g =
    ap (λ (o : Option Json). o ∷ []) (ap (λ (l : Json). Some l) g ∙ h ∙ ap (λ (m : Name). field m x) q) ∙ ap (λ (ms : List Name). tuple_of ms x) (sym e ∙ s)

pub one_absent : (d : Side) (c : Cell) (x : Pairs) (ns : List Name) (n k : Name) → ns ≡ names d c → ns ≡ n ∷ [] → k ≡ n → None ≡ field k x → tuple_here d c x ≡ tuple_of (names d c) []
one_absent d c x ns n k s e q h =
    subst (λ (ms : List Name). tuple_of ms x ≡ tuple_of ms []) (sym e ∙ s) (ap (λ (o : Option Json). o ∷ []) (sym (h ∙ ap (λ (m : Name). field m x) q)))

pub none_absent : (d : Side) (c : Cell) (x : Pairs) (ns : List Name) → ns ≡ names d c → ns ≡ [] → tuple_here d c x ≡ tuple_of (names d c) []
none_absent d c x ns s e = subst (λ (ms : List Name). tuple_of ms x ≡ tuple_of ms []) (sym e ∙ s) refl

-- where nothing stands at a cell's names, nothing goes over
put_absent : (ns : List Name) (ps : Pairs) → ps ≡ put ns (tuple_of ns []) ps
put_absent [] ps = refl
put_absent (n ∷ ns) ps = put_absent ns ps

absent_over : (d : Side) (c : Cell) (x : Pairs) → CellFits c → tuple_here d c x ≡ tuple_of (names d c) [] → mark_over d c x [] ≡ (tuple_of (names (other d) c) [], None)
absent_over d c x f e =
    ap (λ (t : Tuple). crossed_mark d c.kind t None) e ∙ ap (λ (o : Option Tuple). crossed_as d c.kind o (tuple_of (names d c) [])) (f.absent d)

pub absent_fields : (d : Side) (c : Cell) (x ps : Pairs) → CellFits c → tuple_here d c x ≡ tuple_of (names d c) [] → ps ≡ put (names (other d) c) (mark_over d c x []).0 ps
absent_fields d c x ps f e =
    put_absent (names (other d) c) ps ∙ ap (λ (m : Mark). put (names (other d) c) m.0 ps) (sym (absent_over d c x f e))

pub absent_entries : (d : Side) (c : Cell) (x : Pairs) (es : List Entry) → CellFits c → tuple_here d c x ≡ tuple_of (names d c) [] → es ≡ es ++ entry_of (names d c) (mark_over d c x []).1 []
absent_entries d c x es f e =
    sym (append-nil es) ∙ ap (λ (m : Mark). es ++ entry_of (names d c) m.1 []) (sym (absent_over d c x f e))

pub none_left : (l : Left) → true ≡ (length l.entries.now == 0) → entries_left l ≡ []
none_left l e = ap (λ (xs : List Entry). map (left_entry l.depth) xs) (empty l.entries.now e)
  where
    empty : (xs : List Entry) → true ≡ (length xs == 0) → xs ≡ []
    empty [] e = refl
    empty (x ∷ xs) e = let n : length (x ∷ xs) ≡ 0 = grind (arith, nat_tests) in let never : ⊥ = omega (arith, n) in absurd never
