-- A connection, step by step.
use Rattle.std.proofs.Common.{◌≡◌, ◌∙◌, ℕ, ◌+◌, ◌-◌, ◌<◌, ◌≤◌, Bool, true, false, List, [], ◌∷◌, ◌++◌, Option, Some, None, length, inl, inr, refl, ap, sym, subst, append_assoc, length-append, arith}
use Rattle.std.specs.Prelude.{MatchBool}
use Rattle.std.proofs.lemmas.List.{append-nil}
use Rattle.std.specs.Io.KnownBytes.{append_known, prepend_known}
use Rattle.edge_io.specs.Sends.{AddsSome}
use Rattle.edge_io.specs.laws.Sending.{added_both, known_nil}
use Rattle.api_calls.specs.Reply.{ReplyView}
use Rattle.http_wire.specs.Head.{Request, Reads}
use Rattle.http_wire.specs.Stream.{End, Asks, Follows, closed, closing, spent, torn, refused}
use Rattle.http_wire.specs.laws.Asking.{asks_more, asks_last, asks_end, asks_spent}
use Rattle.http_wire.specs.declared.WireFault.{WireFault}
use Rattle.http_front.specs.Faults.{fault_words, last_words}
use Rattle.http_front.specs.Talk.{Exchange, asked, response_of, bytes_of, Steps, Conversation, Begins}
use Rattle.http_front.specs.One.{AnswersOne, EndsInput, IsEnded, BreaksAnswer, BreaksRefusal, Did, HandsOn, IfAnswered, RefusesHead, step_of}
use Rattle.http_front.specs.Link.{AreFirst, BreaksReading, BreaksWriting, Breaks, answer, refusal, no_memory, memory_words, Links}
use Rattle.http_front.specs.declared.one.OneEnd.{OneEnd}
use Rattle.http_front.specs.declared.one.OneEnd.TheVariants as steps
use Rattle.http_front.specs.declared.link.End.{End as LinkEnd}
use Rattle.http_front.specs.declared.link.End.TheVariants as ends

-- ---- a step

pub did_either : {S : Type 0} (Step : S → Request → ReplyView → S → Type 0) (closes : Bool) (s t : S) (known left before written : Option (List ℕ))
    → AnswersOne Step closes s t known left before written → Did Step (step_of closes) s t known left before written
did_either Step true s t known left before written one = one
did_either Step false s t known left before written one = one

pub if_answered : (closes : Bool) (P Q : Type 0) → P → IfAnswered (step_of closes) P Q
if_answered true P Q holds = holds
if_answered false P Q holds = holds

-- a head that is refused is no answer
pub if_refused : (f : WireFault) (before written : Option (List ℕ)) (step : OneEnd) (P Q : Type 0) → Q → RefusesHead f before written step → IfAnswered step P Q
if_refused f before written (steps.Refused g) P Q is refuses = tt
if_refused f before written steps.WriteFault P Q is refuses = inr is
if_refused f before written steps.Answered P Q is refuses = absurd refuses
if_refused f before written steps.Last P Q is refuses = absurd refuses
if_refused f before written steps.Closed P Q is refuses = absurd refuses
if_refused f before written (steps.Torn held) P Q is refuses = absurd refuses
if_refused f before written steps.ReadFault P Q is refuses = absurd refuses

-- an answer was handed on
pub handed_on : (closes : Bool) (flushed untouched : Type 0) → flushed → HandsOn (step_of closes) flushed untouched
handed_on true flushed untouched done = done
handed_on false flushed untouched done = done

pub did_close : {S : Type 0} (s : S) (known before : Option (List ℕ)) → IsEnded known closed → EndsInput s s known before before closed
unfolding last_words
did_close s known before ended = record { same = refl; ended = ended; wrote = known_nil before }

pub did_tear : {S : Type 0} (s : S) (known before : Option (List ℕ)) (held : ℕ) → IsEnded known (torn held) → EndsInput s s known before before (torn held)
unfolding last_words
did_tear s known before held ended = record { same = refl; ended = ended; wrote = known_nil before }

pub did_refuse : {S : Type 0} (Step : S → Request → ReplyView → S → Type 0) (f : WireFault) (step : OneEnd) (s : S) (known left before written : Option (List ℕ))
    → IsEnded known (refused f) → RefusesHead f before written step → Did Step step s s known left before written
unfolding last_words
did_refuse Step f (steps.Refused g) s known left before written ended refuses =
    subst (λ (h : WireFault). EndsInput s s known before written (refused h)) refuses.0 (record { same = refl; ended = ended; wrote = refuses.1 })
did_refuse Step f steps.WriteFault s known left before written ended refuses =
    inr (record { fault = f; same = refl; ended = ended; some = refuses })
did_refuse Step f steps.Answered s known left before written ended refuses = absurd refuses
did_refuse Step f steps.Last s known left before written ended refuses = absurd refuses
did_refuse Step f steps.Closed s known left before written ended refuses = absurd refuses
did_refuse Step f (steps.Torn held) s known left before written ended refuses = absurd refuses
did_refuse Step f steps.ReadFault s known left before written ended refuses = absurd refuses

-- ---- one exchange more

asked_more : (xs : List Exchange) (x : Exchange) → asked (xs ++ x ∷ []) ≡ asked xs ++ x.request ∷ []
asked_more [] x = refl
asked_more (y ∷ xs) x = ap (λ (rs : List Request). y.request ∷ rs) (asked_more xs x)

bytes_more : (xs : List Exchange) (x : Exchange) → bytes_of (xs ++ x ∷ []) ≡ bytes_of xs ++ response_of x
unfolding bytes_of
bytes_more [] x = append-nil (response_of x)
bytes_more (y ∷ xs) x =
    ap (λ (bs : List ℕ). response_of y ++ bs) (bytes_more xs x) ∙ sym (append_assoc (response_of y) (bytes_of xs) (response_of x))

steps_more : {S : Type 0} (Step : S → Request → ReplyView → S → Type 0) (s t u : S) (xs : List Exchange) (x : Exchange)
    → Steps Step s xs t → Step t x.request x.answer u → Steps Step s (xs ++ x ∷ []) u
unfolding Steps
steps_more {S = S} Step s t u [] x so_far step = (u, subst (λ (w : S). Step w x.request x.answer u) so_far step, refl)
steps_more Step s t u (y ∷ xs) x so_far step = (so_far.0, so_far.1, steps_more Step so_far.0 t u xs x so_far.2 step)

follows_more : (b mid rest : List ℕ) (rs : List Request) (r : Request) → Follows b rs mid → Reads mid r rest → Follows b (rs ++ r ∷ []) rest
unfolding Follows
follows_more b mid rest [] r so_far reads = (rest, subst (λ (m : List ℕ). Reads m r rest) so_far reads, refl)
follows_more b mid rest (q ∷ rs) r so_far reads = (so_far.0, so_far.1, follows_more so_far.0 mid rest rs r so_far.2 reads)

-- none asked for closing
abbrev pub AllStay : List Exchange → Type 0
AllStay [] = Unit {0}
AllStay (x ∷ xs) = (x.request.closing ≡ false) × AllStay xs

stay_more : (xs : List Exchange) (x : Exchange) → AllStay xs → x.request.closing ≡ false → AllStay (xs ++ x ∷ [])
stay_more [] x all stays = (stays, tt)
stay_more (y ∷ xs) x all stays = (all.0, stay_more xs x all.1 stays)

-- so many requests were answered, none of which asked for closing, and `left` is left
pub record SoFar {S : Type 0} (Step : S → Request → ReplyView → S → Type 0) (s t : S) (now : ℕ) (known left before mid : Option (List ℕ)) : Type 0 where
  pub exchanges : List Exchange
  pub count : length exchanges ≡ now
  pub stay : AllStay exchanges
  pub steps : Steps Step s exchanges t
  pub follows : (b : List ℕ) → known ≡ Some b → (rest : List ℕ) × (left ≡ Some rest) × Follows b (asked exchanges) rest
  pub wrote : mid ≡ append_known before (bytes_of exchanges)

pub so_far_none : {S : Type 0} (Step : S → Request → ReplyView → S → Type 0) (s : S) (known before : Option (List ℕ)) → SoFar Step s s 0 known known before before
unfolding Steps Follows bytes_of
so_far_none Step s known before = record {
  exchanges = [];
  count = refl;
  stay = tt;
  steps = refl;
  follows = λ b is. (b, is, refl);
  wrote = known_nil before;
}

wrote_more : (before mid written : Option (List ℕ)) (xs : List Exchange) (x : Exchange) → mid ≡ append_known before (bytes_of xs)
    → written ≡ append_known mid (response_of x) → written ≡ append_known before (bytes_of (xs ++ x ∷ []))
wrote_more before mid written xs x first second = added_both before mid written (bytes_of xs) (response_of x) first second
    ∙ ap (λ (bs : List ℕ). append_known before bs) (sym (bytes_more xs x))

pub so_far_more : {S : Type 0} (Step : S → Request → ReplyView → S → Type 0) (s t u : S) (now : ℕ) (known mid left before written next : Option (List ℕ))
    → SoFar Step s t now known mid before written → AnswersOne Step false t u mid left written next → SoFar Step s u (now + 1) known left before next
so_far_more Step s t u now known mid left before written next so_far one = record {
  exchanges = so_far.exchanges ++ one.exchange ∷ [];
  count = length-append so_far.exchanges (one.exchange ∷ []) ∙ ap (λ (n : ℕ). n + 1) so_far.count;
  stay = stay_more so_far.exchanges one.exchange so_far.stay one.asked;
  steps = steps_more Step s t u so_far.exchanges one.exchange so_far.steps one.step;
  follows = λ b is.
      let f = so_far.follows b is in
      let r = one.reads f.0 f.1 in (
        r.0,
        r.1,
        subst (λ (rs : List Request). Follows b rs r.0) (sym (asked_more so_far.exchanges one.exchange))
            (follows_more b f.0 r.0 (asked so_far.exchanges) one.exchange.request f.2 r.2),
      );
  wrote = wrote_more before written next so_far.exchanges one.exchange so_far.wrote one.wrote;
}

-- ---- from what follows to all that is read

minus_one : (budget n : ℕ) → (budget - 1) - n ≡ budget - (1 + n)
minus_one budget n = omega arith

through : (X : ℕ → List ℕ → List Request → Type 0)
    → ((budget : ℕ) (b mid : List ℕ) (r : Request) (rs : List Request) → 0 < budget → Reads b r mid → r.closing ≡ false → X (budget - 1) mid rs → X budget b (r ∷ rs))
    → (budget : ℕ) (b rest : List ℕ) (xs : List Exchange) (tail : List Request)
    → Follows b (asked xs) rest → AllStay xs → length xs ≤ budget → X (budget - length xs) rest tail → X budget b (asked xs ++ tail)
unfolding Follows
through X more budget b rest [] tail follows stay few last =
    let same : budget - 0 ≡ budget = omega arith in
    subst (λ (c : List ℕ). X budget c tail) follows (subst (λ (n : ℕ). X n rest tail) same last)
through X more budget b rest (x ∷ xs) tail follows stay few last =
    let same : budget - length (x ∷ xs) ≡ (budget - 1) - length xs = omega arith in
    more budget b follows.0 x.request (asked xs ++ tail) (omega arith) follows.1 stay.0
    (through X more (budget - 1) follows.0 rest xs tail follows.2 stay.1 (omega arith) (subst (λ (n : ℕ). X n rest tail) same last))

asks_through : (end : End) (budget : ℕ) (b rest : List ℕ) (xs : List Exchange) (tail : List Request)
    → Follows b (asked xs) rest → AllStay xs → length xs ≤ budget → Asks (budget - length xs) rest tail end → Asks budget b (asked xs ++ tail) end
asks_through end = through (λ n c rs. Asks n c rs end)
    (λ budget b mid r rs some reads stays more. asks_more budget b mid r rs end some reads stays more)

begins_more : (last : List ℕ) (budget : ℕ) (b mid : List ℕ) (r : Request) (rs : List Request) → 0 < budget → Reads b r mid → r.closing ≡ false
    → Begins (budget - 1) mid rs last → Begins budget b (r ∷ rs) last
unfolding Begins
begins_more last budget b mid r rs some reads stays more = (some, mid, reads, rw stays more)

begins_through : (last : List ℕ) (budget : ℕ) (b rest : List ℕ) (xs : List Exchange) (tail : List Request)
    → Follows b (asked xs) rest → AllStay xs → length xs ≤ budget → Begins (budget - length xs) rest tail last → Begins budget b (asked xs ++ tail) last
begins_through last = through (λ n c rs. Begins n c rs last) (begins_more last)

either_way : (closes : Bool) (A B : Type 0) → A → B → MatchBool closes A B
either_way true A B a b = a
either_way false A B a b = b

begins_one : (n : ℕ) (b rest : List ℕ) (r : Request) → 0 < n → Reads b r rest → Begins n b (r ∷ []) rest
unfolding Begins
begins_one n b rest r some reads = (some, rest, reads, either_way r.closing _ _ (refl, refl) refl)

begins_none : (n : ℕ) (b : List ℕ) → Begins n b [] b
unfolding Begins
begins_none n b = refl

-- ---- how a connection ends

module _ {S : Type 0} (Step : S → Request → ReplyView → S → Type 0) (budget : ℕ) (s t u : S) (now : ℕ) (known mid left before written next : Option (List ℕ))
    (so_far : SoFar Step s t now known mid before written) where
  pub ended_so : (end : End) → now < budget → EndsInput t u mid written next end → Conversation Step budget s u known before next end
  ended_so end some ends = record {
    exchanges = so_far.exchanges;
    steps = subst (λ (w : S). Steps Step s so_far.exchanges w) (sym ends.same) so_far.steps;
    asks = λ b is.
        let f = so_far.follows b is in
        subst (λ (rs : List Request). Asks budget b rs end) (append-nil (asked so_far.exchanges))
        (asks_through end budget b f.0 so_far.exchanges [] f.2 so_far.stay (omega (arith, so_far.count))
        (asks_end (budget - length so_far.exchanges) f.0 end (ends.ended f.0 f.1 (budget - length so_far.exchanges) (omega (arith, so_far.count)))));
    wrote = added_both before written next (bytes_of so_far.exchanges) (last_words end) so_far.wrote ends.wrote;
  }

  pub ended_last : now < budget → AnswersOne Step true t u mid left written next → Conversation Step budget s u known before next closing
  unfolding last_words
  ended_last some one = record {
    exchanges = so_far.exchanges ++ one.exchange ∷ [];
    steps = steps_more Step s t u so_far.exchanges one.exchange so_far.steps one.step;
    asks = λ b is.
        let f = so_far.follows b is in
        let r = one.reads f.0 f.1 in
        subst (λ (rs : List Request). Asks budget b rs closing) (sym (asked_more so_far.exchanges one.exchange))
        (asks_through closing budget b f.0 so_far.exchanges (one.exchange.request ∷ []) f.2 so_far.stay (omega (arith, so_far.count))
        (asks_last (budget - length so_far.exchanges) f.0 r.0 one.exchange.request (omega (arith, so_far.count)) r.2 one.asked));
    wrote = wrote_more before written next so_far.exchanges one.exchange so_far.wrote one.wrote
        ∙ ap (λ (bs : List ℕ). append_known before bs) (sym (append-nil (bytes_of (so_far.exchanges ++ one.exchange ∷ []))));
  }

  pub ended_spent : now ≡ budget → Conversation Step budget s t known before written spent
  unfolding last_words
  ended_spent all = record {
    exchanges = so_far.exchanges;
    steps = so_far.steps;
    asks = λ b is.
        let f = so_far.follows b is in
        let none : 0 ≡ budget - length so_far.exchanges = omega (arith, so_far.count) in
        subst (λ (rs : List Request). Asks budget b rs spent) (append-nil (asked so_far.exchanges))
        (asks_through spent budget b f.0 so_far.exchanges [] f.2 so_far.stay (omega (arith, so_far.count))
        (subst (λ (n : ℕ). Asks n f.0 [] spent) none (asks_spent f.0)));
    wrote = so_far.wrote ∙ ap (λ (bs : List ℕ). append_known before bs) (sym (append-nil (bytes_of so_far.exchanges)));
  }

  first : now ≤ budget → AreFirst budget known so_far.exchanges
  first few = λ b is.
      let f = so_far.follows b is in (
        f.0,
        subst (λ (rs : List Request). Begins budget b rs f.0) (append-nil (asked so_far.exchanges))
            (begins_through f.0 budget b f.0 so_far.exchanges [] f.2 so_far.stay (omega (arith, so_far.count)) (begins_none (budget - length so_far.exchanges) f.0)),
      )

  pub broke_reading : now ≤ budget → (u ≡ t) × (next ≡ written) → BreaksReading Step budget s u known before next
  broke_reading few did = record {
    exchanges = so_far.exchanges;
    steps = subst (λ (w : S). Steps Step s so_far.exchanges w) (sym did.0) so_far.steps;
    first = first few;
    wrote = did.1 ∙ so_far.wrote;
  }

  pub broke_answer : (unread : Type 0) → now < budget → BreaksAnswer Step t u mid left written next → BreaksWriting Step budget unread s u known before next
  broke_answer unread some one = record {
    exchanges = so_far.exchanges ++ one.exchange ∷ [];
    whole = bytes_of so_far.exchanges;
    piece = response_of one.exchange;
    steps = steps_more Step s t u so_far.exchanges one.exchange so_far.steps one.step;
    first = λ b is.
        let f = so_far.follows b is in
        let r = one.reads f.0 f.1 in (
          r.0,
          subst (λ (rs : List Request). Begins budget b rs r.0) (sym (asked_more so_far.exchanges one.exchange))
              (begins_through r.0 budget b f.0 so_far.exchanges (one.exchange.request ∷ []) f.2 so_far.stay (omega (arith, so_far.count))
              (begins_one (budget - length so_far.exchanges) f.0 r.0 one.exchange.request (omega (arith, so_far.count)) r.2)),
        );
    breaks = answer so_far.exchanges one.exchange;
    some = subst (λ (k : Option (List ℕ)). AddsSome k next (response_of one.exchange)) so_far.wrote one.some;
  }

  pub broke_refusal : (unread : Type 0) → now < budget → BreaksRefusal t u mid written next → BreaksWriting Step budget unread s u known before next
  broke_refusal unread some one = record {
    exchanges = so_far.exchanges;
    whole = bytes_of so_far.exchanges;
    piece = fault_words one.fault;
    steps = subst (λ (w : S). Steps Step s so_far.exchanges w) (sym one.same) so_far.steps;
    first = first (omega arith);
    breaks = refusal so_far.exchanges one.fault (λ b is.
        let f = so_far.follows b is in
        let g = first (omega arith) b is in (
          f.0,
          subst (λ (rs : List Request). Begins budget b rs f.0) (append-nil (asked so_far.exchanges))
              (begins_through f.0 budget b f.0 so_far.exchanges [] f.2 so_far.stay (omega (arith, so_far.count)) (begins_none (budget - length so_far.exchanges) f.0)),
          one.ended f.0 f.1 1 (omega arith),
        ));
    some = subst (λ (k : Option (List ℕ)). AddsSome k next (fault_words one.fault)) so_far.wrote one.some;
  }

  pub broke : (unread : Type 0) → now < budget → Did Step steps.WriteFault t u mid left written next → BreaksWriting Step budget unread s u known before next
  broke unread some did = elim did [ inl one ↦ broke_answer unread some one | inr one ↦ broke_refusal unread some one ]

-- nothing is held at first
pub held_none : (held : List ℕ) (left : Option (List ℕ)) → held ≡ [] → prepend_known held left ≡ left
held_none held None none = refl
held_none held (Some b) none = ap (λ (xs : List ℕ). let o : Option (List ℕ) = Some (xs ++ b) in o) none

pub so_far_from : {S : Type 0} (Step : S → Request → ReplyView → S → Type 0) (s : S) (held : List ℕ) (left before : Option (List ℕ)) → held ≡ []
    → SoFar Step s s 0 left (prepend_known held left) before before
so_far_from Step s held left before none =
    subst (λ (k : Option (List ℕ)). SoFar Step s s 0 left k before before) (sym (held_none held left none)) (so_far_none Step s left before)

-- there is no memory for the connection, and its response isn't written
pub broke_memory : {S : Type 0} (Step : S → Request → ReplyView → S → Type 0) (budget : ℕ) (unread : Type 0) (s : S) (known before written : Option (List ℕ))
    → unread → AddsSome before written memory_words → BreaksWriting Step budget unread s s known before written
unfolding Steps Begins
broke_memory Step budget unread s known before written nothing_read some = record {
  exchanges = [];
  whole = [];
  piece = memory_words;
  steps = refl;
  first = λ b is. (b, refl);
  breaks = no_memory nothing_read;
  some = subst (λ (k : Option (List ℕ)). AddsSome k written memory_words) (known_nil before) some;
}

breaks_more : (budget : ℕ) (unread : Type 0) (known : Option (List ℕ)) (xs : List Exchange) (whole piece : List ℕ)
    → Breaks budget ⊥ known xs whole piece → Breaks budget unread known xs whole piece
breaks_more budget unread known xs whole piece (answer ys y) = answer ys y
breaks_more budget unread known xs whole piece (refusal ys f stops) = refusal ys f stops
breaks_more budget unread known xs whole piece (no_memory none) = absurd none

-- a connection that there was memory for
pub had_memory : {S : Type 0} (Step : S → Request → ReplyView → S → Type 0) (budget : ℕ) (unread : Type 0) (end : LinkEnd) (s t : S) (known before written : Option (List ℕ))
    → Links Step budget ⊥ end s t known before written → Links Step budget unread end s t known before written
had_memory Step budget unread ends.Closed s t known before written links = links
had_memory Step budget unread (ends.Torn held) s t known before written links = links
had_memory Step budget unread (ends.Refused f) s t known before written links = links
had_memory Step budget unread ends.Spent s t known before written links = links
had_memory Step budget unread ends.ReadFault s t known before written links = links
had_memory Step budget unread ends.WriteFault s t known before written links = record {
  exchanges = links.exchanges;
  whole = links.whole;
  piece = links.piece;
  steps = links.steps;
  first = links.first;
  breaks = breaks_more budget unread known links.exchanges links.whole links.piece links.breaks;
  some = links.some;
}
had_memory Step budget unread ends.NoMemory s t known before written links = absurd links.0
