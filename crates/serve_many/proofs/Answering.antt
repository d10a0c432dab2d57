-- From what one connection came to, to what is known of it once it is closed.
use Rattle.std.proofs.Common.{ℕ, ◌≡◌, ◌≤◌, ◌+◌, ◌-◌, List, [], ◌∷◌, ◌++◌, ◌⊎◌, Option, None, Some, refl, ap, sym, ◌∙◌, subst, arith, append_assoc, inl, inr}
use Rattle.std.specs.Prelude.{IfSome}
use mathlib.Core.List.{IsPrefix}
use Rattle.api_calls.specs.Item.{Logged}
use Rattle.api_calls.specs.Meaning.{Meaning}
use Rattle.api_calls.specs.Reply.{ReplyView}
use Rattle.edge_io.specs.Causes.{Rose}
use Rattle.edge_io.specs.Connections.{Origin, Ending, HasAllLeft, HasNumberOf, NumbersAgree}
use Rattle.http_wire.specs.Head.{Request}
use Rattle.http_wire.specs.declared.limits.TheConstants.{MOST_REQUESTS}
use Rattle.http_front.specs.Link.{Links, LinkBlames, UnlessUnwritten}
use Rattle.http_front.specs.Paced.{IsUnserved, Paced}
use Rattle.request_replies.specs.Replies.{Front}
use Rattle.http_front.specs.Steps.{StepAnswers, Point, added}
use Rattle.http_front.specs.Talk.{Exchange, Steps}
use Rattle.http_front.specs.declared.link.End.{End}
use Rattle.http_front.specs.declared.link.End.TheVariants as ends
use Rattle.shared_api.specs.Passes.{ApiOf, IsOf, Known}
use Rattle.shared_api.specs.declared.cell.CoreBase.{CoreBase}
use Rattle.turn_cell.specs.laws.Laws.{prefix_self, prefix_trans}
use Rattle.turn_cell.specs.declared.view.View.{View}
use Rattle.serve_spans.specs.Spans.{IsSameBut, Quiet, Linked}
use Rattle.serve_spans.proofs.Spans.{Grows}
use Rattle.serve_many.specs.Answered.{IsAnswered, Sides}

-- ---- the list only grows, and the count only rises

abbrev Later : Point → Point → Type 0
Later s t = IsPrefix s.seen t.seen × (s.faults ≤ t.faults)

step_later : (f : Front) (n : ℕ) (s : Point) (r : Request) (a : ReplyView) (t : Point) → StepAnswers f n s r a t → Later s t
step_later f n s r a t h =
    let new : List Logged = added n (s.seen ++ h.others) h.item in
    ((h.others ++ new, sym (append_assoc s.seen h.others new) ∙ sym h.seen), h.faults)

steps_later : (f : Front) (n : ℕ) (s : Point) (xs : List Exchange) (t : Point) → Steps (StepAnswers f n) s xs t → Later s t
unfolding Steps
steps_later f n s [] t is = subst (λ (q : Point). Later s q) (sym is) (prefix_self s.seen, (let k : ℕ = s.faults in let r : k ≤ k = omega arith in r))
steps_later f n s (x ∷ xs) t h =
    let one = step_later f n s x.request x.answer h.0 h.1 in
    let rest = steps_later f n h.0 xs t h.2 in
    (prefix_trans s.seen h.0.seen t.seen one.0 rest.0, (let a = one.1 in let b = rest.1 in omega arith))

links_later : (f : Front) (n budget : ℕ) (unread : Type 0) (end : End) (s t : Point) (known before written : Option (List ℕ))
    → Links (StepAnswers f n) budget unread end s t known before written → Later s t
links_later f n budget unread ends.Closed s t known before written (inl h) = steps_later f n s h.exchanges t h.steps
links_later f n budget unread ends.Closed s t known before written (inr h) = steps_later f n s h.exchanges t h.steps
links_later f n budget unread (ends.Torn held) s t known before written h = steps_later f n s h.exchanges t h.steps
links_later f n budget unread (ends.Refused fault) s t known before written h = steps_later f n s h.exchanges t h.steps
links_later f n budget unread ends.Spent s t known before written h = steps_later f n s h.exchanges t h.steps
links_later f n budget unread ends.ReadFault s t known before written h = steps_later f n s h.exchanges t h.steps
links_later f n budget unread ends.WriteFault s t known before written h = steps_later f n s h.exchanges t h.steps
links_later f n budget unread ends.NoMemory s t known before written h =
    subst (λ (q : Point). Later s q) (sym h.1) (prefix_self s.seen, (let k : ℕ = s.faults in let r : k ≤ k = omega arith in r))

pub answered_grows : {A I O : Type 0} (count : A → ℕ) (w : Sides I O) (f : Front) → Grows (IsAnswered count w f)
answered_grows count w f n p q rose e h =
    (links_later f n MOST_REQUESTS (h.input ≡ h.input_before) h.end (record { seen = p; faults = count h.tool }) (record { seen = q; faults = count h.left }) (w.tell.left h.input_before) (w.tell.written h.output_before) e.written h.links).0

-- ---- a connection that is closed

rise_between : (j k : ℕ) → j ≤ k → k ≡ j + (k - j)
rise_between j k up = omega (arith, up)

-- what was handed on, where writing didn't fail
on_handed : (end : End) (P Q : Type 0) → P → UnlessUnwritten end (P → Q) → UnlessUnwritten end Q
on_handed ends.Closed P Q p h = h p
on_handed (ends.Torn held) P Q p h = h p
on_handed (ends.Refused f) P Q p h = h p
on_handed ends.Spent P Q p h = h p
on_handed ends.ReadFault P Q p h = h p
on_handed ends.WriteFault P Q p h = tt
on_handed ends.NoMemory P Q p h = h p

-- a sink that never failed handed on what was written
pub handed : (end : End) (reads : Type 0) (before now : ℕ) (P Q : Type 0) → before ≡ 0 → P → LinkBlames end reads (Rose before now) → UnlessUnwritten end (P → Q) → now ≡ 0 → Q
handed ends.Closed reads before now P Q none p blames h sure = h p
handed (ends.Torn held) reads before now P Q none p blames h sure = h p
handed (ends.Refused f) reads before now P Q none p blames h sure = h p
handed ends.Spent reads before now P Q none p blames h sure = h p
handed ends.ReadFault reads before now P Q none p blames h sure = h p
handed ends.WriteFault reads before now P Q none p blames h sure = absurd (omega (arith, none, blames, sure))
handed ends.NoMemory reads before now P Q none p blames h sure = h p

pub closes : {B A I O : Type 0} (count : A → ℕ) (w : Sides I O) (f : Front) (n : ℕ) (end : End) (v z : View B) (a b : A) (i j : I) (x y : O) (o p : Option Origin) (r0 r1 w0 w1 : ℕ)
    → HasAllLeft o (w.tell.left i) → IfSome (w.tell.written x) (λ (b : List ℕ). b ≡ []) → w.tell.flushed x ≡ w.tell.written x → r0 ≡ 0 → w0 ≡ 0 → p ≡ o
    → Links (StepAnswers f n) MOST_REQUESTS (j ≡ i) end (record { seen = v.seen; faults = count a }) (record { seen = z.seen; faults = count b }) (w.tell.left i) (w.tell.written x) (w.tell.written y)
    → ((IsUnserved end × (j ≡ i)) ⊎ ((held : List ℕ)
    × Paced w.tell (StepAnswers f n) (w.most i) end
    (record { seen = v.seen; faults = count a }) (record { held = []; input = i; output = x })
    (record { seen = z.seen; faults = count b }) (record { held = held; input = j; output = y })))
    → IsSameBut v z → Quiet n v z → UnlessUnwritten end (w.tell.flushed x ≡ w.tell.written x → w.tell.flushed y ≡ w.tell.written y) → LinkBlames end (Rose r0 r1) (Rose w0 w1)
    → Linked (IsAnswered count w f) n v o z (record { origin = p; read_faults = r1; write_faults = w1; written = w.tell.written y; flushed = w.tell.flushed y })
closes count w f n end v z a b i j x y o p r0 r1 w0 w1 whole empty clean none_read none_written of links paced same quiet flushed blames =
    let s : Point = record { seen = v.seen; faults = count a } in
    let t : Point = record { seen = z.seen; faults = count b } in
    let up : count a ≤ count b = (links_later f n MOST_REQUESTS (j ≡ i) end s t (w.tell.left i) (w.tell.written x) (w.tell.written y) links).1 in
    record {
      rose = count b - count a;
      same = same;
      of = of;
      served = record {
        end = end;
        tool = a;
        left = b;
        counted = rise_between (count a) (count b) up;
        input_before = i;
        input = j;
        output_before = x;
        output = y;
        whole = subst (λ (q : Option Origin). HasAllLeft q (w.tell.left i)) (sym of) whole;
        empty = empty;
        written = refl;
        flushed = refl;
        links = links;
        paced = paced;
        handed_on = on_handed end _ _ clean flushed;
        blames = subst (λ (m : ℕ × ℕ). LinkBlames end (Rose m.0 r1) (Rose m.1 w1)) (λ k. (none_read k, none_written k)) blames;
      };
      quiet = quiet;
    }

pub numbers_agree : (o : Option Origin) (n : Option ℕ) → HasNumberOf o n → NumbersAgree o n
numbers_agree None n h = tt
numbers_agree (Some o) n h = subst (λ (m : Option ℕ). IfSome m (λ k. o.number ≡ k)) (sym h) refl

-- a pass is of one server
pub same_server : {V A : Type 0} (meaning : V → Meaning) (a b : ApiOf (CoreBase V)) (p : Known (CoreBase V) A) → IsOf meaning a p → IsOf meaning b p → a ≡ b
same_server {V = V} meaning a b p x y =
    let t : a.table ≡ b.table = sym x.table ∙ y.table in
    let e : Some a.base ≡ Some b.base = sym x.base ∙ y.base in
    let d : a.base ≡ b.base = cc (e) in
    (λ i. record { table = t i; base = d i })
