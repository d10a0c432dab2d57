-- One line of an input, and how a restoring goes on.
use Rattle.std.proofs.Common.{◌≡◌, ◌⊎◌, ◌<◌, ◌≤◌, ◌+◌, ℕ, List, [], ◌∷◌, ◌++◌, Option, Some, Result, Ok, Err, length, refl, ap, sym, ◌∙◌, inl, inr, append_assoc, subst, arith}
use Rattle.std.proofs.lemmas.List.{length-append}
use Rattle.std.specs.Io.KnownBytes.{prepend_known}
use Rattle.kj_value.specs.Json.{Json}
use Rattle.edge_io.specs.Exchanges.{Exchange}
use Rattle.place.specs.Place.{Names}
use Rattle.wire_client.specs.Far.{Server, Told, Made}
use Rattle.wire_client.specs.laws.FarLaws.{made_nothing, made_more}
use Rattle.wire_client.specs.Answers.{given, broken, code}
use Rattle.wire_client.specs.Ends.{Lacked, exchange_of}
use Rattle.far_migrate.specs.Answered.{conflict}
use Rattle.record_dump.specs.Lines.{ended}
use Rattle.record_dump.specs.Restores as restores
use Rattle.record_dump.specs.Restores.{Restores, Says, IsLine, post_of, FailsPost, lines_in, next_line, none_yet, most_lines, OnFaults, OnEnd}
use Rattle.record_dump.specs.inner.Lined.{Lies, IsRead, OnUnread, OnUnlined, OnCut}
use Rattle.record_dump.specs.inner.Posted as made
use Rattle.record_dump.specs.inner.Posted.{added, PostMade, LineMade, unread_as, unlined_as, unposted_as, IsNextLine, Leads, Steps, OnLink}
use Rattle.record_dump.specs.declared.ends.RestoreEnd.{RestoreEnd}
use Rattle.record_dump.specs.declared.ends.RestoreEnd.TheVariants as ends
use Rattle.record_dump.specs.declared.lines.Unread.{Unread}
use Rattle.record_dump.specs.declared.lines.Unread.TheVariants as unread
use Rattle.record_dump.specs.declared.lines.Unlined.{Unlined}
use Rattle.record_dump.specs.declared.lines.Unlined.TheVariants as unlined
use Rattle.record_dump.specs.declared.posting.Posted.{Posted}
use Rattle.record_dump.specs.declared.posting.Posted.TheVariants as posted
use Rattle.record_dump.specs.declared.posting.Unposted.{Unposted}
use Rattle.record_dump.specs.declared.posting.Unposted.TheVariants as unposted
use Rattle.record_dump.specs.declared.restoring.Next.{Next}
use Rattle.record_dump.specs.declared.restoring.Next.TheVariants as next
use Rattle.record_dump.proofs.Listing.{did_of}
use Rattle.record_dump.proofs.Lining.{prepend_both}
use Rattle.record_dump.proofs.Reading.{Took}

-- ---- ends without a post

pub ends_unread : (n : Names) (t : restores.Counts) (bytes : List ℕ) (x : Unread) → Restores n t bytes [] (unread_as x)
ends_unread n t bytes unread.Failed = restores.unread _ bytes
ends_unread n t bytes unread.NoMemory = restores.starved _ bytes

pub ends_unlined : (n : Names) (t : restores.Counts) (all held : List ℕ) (x : Unlined) → lines_in t < most_lines → 0 < length all → IsRead all held (Err x)
    → Restores n t all [] (unlined_as (next_line t) x)
ends_unlined n t all held (unlined.Unread x) few some is = ends_unread n t all x
ends_unlined n t all held unlined.TooLong few some is =
    subst (λ (bs : List ℕ). Restores n t bs [] (ends.BadLine (next_line t))) (sym is.split) (restores.too_long _ is.front is.rest few is.inside is.long)
ends_unlined n t all held unlined.Cut few some is = restores.cut _ all few some is

-- nothing was read that isn't posted
pub ends_done : (n : Names) (t : restores.Counts) (bytes : List ℕ) → bytes ≡ [] → Restores n t bytes [] (ends.Done t.created t.present)
ends_done n t bytes none = subst (λ (bs : List ℕ). Restores n t bs [] (ends.Done t.created t.present)) (sym none) (restores.done _)

-- ---- the next line

abbrev pub NextMade : restores.Counts → Option (List ℕ) → Option (List ℕ) → List ℕ → List ℕ → Result ℕ RestoreEnd → Type 0
NextMade t old new held left r = (piece : List ℕ) × (old ≡ prepend_known piece new) × IsNextLine t (held ++ piece) left r

pub next_unread : (t : restores.Counts) (old new : Option (List ℕ)) (held left piece : List ℕ) (x : Unread) (d : RestoreEnd) → old ≡ prepend_known piece new → d ≡ unread_as x → NextMade t old new held left (Err d)
next_unread t old new held left piece x d took is = (piece, took, λ n. subst (λ (y : RestoreEnd). Restores n t (held ++ piece) [] y) (sym is) (ends_unread n t (held ++ piece) x))

pub next_done : (t : restores.Counts) (old new : Option (List ℕ)) (held left : List ℕ) → Took old new held left → left ≡ [] → NextMade t old new held left (Err (ends.Done t.created t.present))
next_done t old new held left p none = (p.0, p.1, λ n. ends_done n t (held ++ p.0) (sym p.2 ∙ none))

pub next_many : (t : restores.Counts) (old new : Option (List ℕ)) (held left : List ℕ) → Took old new held left → most_lines ≤ lines_in t → 0 < length left → NextMade t old new held left (Err ends.TooMany)
next_many t old new held left p many some =
    (p.0, p.1, λ n. restores.too_many _ (held ++ p.0) many (subst (λ (bs : List ℕ). 0 < length bs) p.2 some))

-- more was read behind what was taken
pub next_read : (t : restores.Counts) (old half new : Option (List ℕ)) (held mid left : List ℕ) (len : ℕ) → Took old half held mid → lines_in t < most_lines
    → (piece : List ℕ) × (half ≡ prepend_known piece new) × IsRead (mid ++ piece) left (Ok len) → NextMade t old new held left (Ok len)
next_read t old half new held mid left len p few q = (
  p.0 ++ q.0,
  prepend_both old half new p.0 q.0 p.1 q.1,
  (
    q.2.0 ∙ ap (λ (bs : List ℕ). bs ++ q.0) p.2 ∙ append_assoc held p.0 q.0,
    subst (λ (bs : List ℕ). Lies bs len) (ap (λ (bs : List ℕ). bs ++ q.0) p.2 ∙ append_assoc held p.0 q.0) q.2.1,
    few,
  ),
)

pub next_unlined : (t : restores.Counts) (old half new : Option (List ℕ)) (held mid left : List ℕ) (x : Unlined) (d : RestoreEnd) (i : ℕ) → Took old half held mid → lines_in t < most_lines → 0 < length mid
    → i ≡ next_line t → d ≡ unlined_as i x → (piece : List ℕ) × (half ≡ prepend_known piece new) × IsRead (mid ++ piece) left (Err x) → NextMade t old new held left (Err d)
next_unlined t old half new held mid left x d i p few some number is q = (
  p.0 ++ q.0,
  prepend_both old half new p.0 q.0 p.1 q.1,
  λ n.
      subst (λ (y : RestoreEnd). Restores n t (held ++ (p.0 ++ q.0)) [] y) (sym (is ∙ ap (λ (k : ℕ). unlined_as k x) number))
      (subst (λ (bs : List ℕ). Restores n t bs [] (unlined_as (next_line t) x)) (ap (λ (bs : List ℕ). bs ++ q.0) p.2 ∙ append_assoc held p.0 q.0) (ends_unlined n t (mid ++ q.0) left x few (longer q.0) q.2)),
)
  where
    longer : (piece : List ℕ) → 0 < length (mid ++ piece)
    longer piece =
        let both : length (mid ++ piece) ≡ length mid + length piece = length-append mid piece in
        omega (arith, both, some)

-- ---- what an end without a post tells

pub unread_blames : (P : Type 0) (x : Unread) (d : RestoreEnd) → d ≡ unread_as x → OnUnread P x → OnFaults ⊥ P d
unread_blames P x d is why = subst (λ (y : RestoreEnd). OnFaults ⊥ P y) (sym is) (by_why x why)
  where
    by_why : (y : Unread) → OnUnread P y → OnFaults ⊥ P (unread_as y)
    by_why unread.Failed h = h
    by_why unread.NoMemory h = tt

pub unread_no_end : (P : Type 0) (x : Unread) (d : RestoreEnd) → d ≡ unread_as x → OnEnd P d
unread_no_end P x d is = subst (λ (y : RestoreEnd). OnEnd P y) (sym is) (by_why x)
  where
    by_why : (y : Unread) → OnEnd P (unread_as y)
    by_why unread.Failed = tt
    by_why unread.NoMemory = tt

pub unlined_blames : (P : Type 0) (i : ℕ) (x : Unlined) (d : RestoreEnd) → d ≡ unlined_as i x → OnUnlined P x → OnFaults ⊥ P d
unlined_blames P i x d is why = subst (λ (y : RestoreEnd). OnFaults ⊥ P y) (sym is) (by_why x why)
  where
    by_why : (y : Unlined) → OnUnlined P y → OnFaults ⊥ P (unlined_as i y)
    by_why (unlined.Unread x) h = unread_blames P x (unread_as x) refl h
    by_why unlined.TooLong h = tt
    by_why unlined.Cut h = tt

pub unlined_later : (P Q : Type 0) (x : Unlined) → (P → Q) → OnUnlined P x → OnUnlined Q x
unlined_later P Q (unlined.Unread unread.Failed) more why = more why
unlined_later P Q (unlined.Unread unread.NoMemory) more why = tt
unlined_later P Q unlined.TooLong more why = tt
unlined_later P Q unlined.Cut more why = tt

pub unlined_ends : (P : Type 0) (i : ℕ) (x : Unlined) (d : RestoreEnd) → d ≡ unlined_as i x → OnCut P x → OnEnd P d
unlined_ends P i x d is why = subst (λ (y : RestoreEnd). OnEnd P y) (sym is) (by_why x why)
  where
    by_why : (y : Unlined) → OnCut P y → OnEnd P (unlined_as i y)
    by_why (unlined.Unread x) h = unread_no_end P x (unread_as x) refl
    by_why unlined.TooLong h = tt
    by_why unlined.Cut h = h

-- ---- a line that was posted

abbrev pub StepMade : Server → Told → Told → Names → restores.Counts → List ℕ → restores.Counts → List ℕ → Next → Type 0
StepMade s before now n t bytes u held r = (es : List Exchange) × Made s before now es × Steps n t bytes es u held r

step_created : (s : Server) (before now : Told) (n : Names) (t u : restores.Counts) (bytes line held : List ℕ) (len : ℕ) (l : Lies bytes len) → line ≡ l.line → held ≡ l.rest
    → lines_in t < most_lines → u ≡ record t { created = t.created + 1 } → LineMade s before now n line (Ok posted.Created) → StepMade s before now n t bytes u held next.More
step_created s before now n t u bytes line held len l same left few is m = by_made (Ok posted.Created) refl (subst (λ (x : List ℕ). LineMade s before now n x (Ok posted.Created)) same m)
  where
    by_post : (j : Json) → Says n l.line j → PostMade s before now n j (Ok posted.Created) → StepMade s before now n t bytes u held next.More
    by_post j says p = (
      exchange_of n (post_of j) p.1.answer ∷ [],
      p.1.made,
      (
        ended l.line,
        l.split ∙ ap (λ (bs : List ℕ). ended l.line ++ bs) (sym left),
        λ rest fs d h. restores.created _ l.line rest j p.0 _ fs d few l.is_line says (did_of s before now n (post_of j) (given p.0) p.1) (subst (λ (x : restores.Counts). Restores n x rest fs d) is h),
        let more : lines_in u ≡ (t.created + 1) + t.present = ap (λ (x : restores.Counts). lines_in x) is in omega (arith, more),
      ),
    )

    by_made : (r : Result Posted Unposted) → r ≡ Ok posted.Created → LineMade s before now n l.line r → StepMade s before now n t bytes u held next.More
    by_made _ e (made.bad unsaid nothing) = absurd (cc)
    by_made _ e (made.starved nothing) = absurd (cc)
    by_made _ e (made.posts j r says p) = by_post j says (subst (λ (x : Result Posted Unposted). PostMade s before now n j x) e p)

step_present : (s : Server) (before now : Told) (n : Names) (t u : restores.Counts) (bytes line held : List ℕ) (len : ℕ) (l : Lies bytes len) → line ≡ l.line → held ≡ l.rest
    → lines_in t < most_lines → u ≡ record t { present = t.present + 1 } → LineMade s before now n line (Ok posted.Present) → StepMade s before now n t bytes u held next.More
step_present s before now n t u bytes line held len l same left few is m = by_made (Ok posted.Present) refl (subst (λ (x : List ℕ). LineMade s before now n x (Ok posted.Present)) same m)
  where
    by_post : (j : Json) → Says n l.line j → PostMade s before now n j (Ok posted.Present) → StepMade s before now n t bytes u held next.More
    by_post j says p = (
      exchange_of n (post_of j) p.answer ∷ [],
      p.made,
      (
        ended l.line,
        l.split ∙ ap (λ (bs : List ℕ). ended l.line ++ bs) (sym left),
        λ rest fs d h. restores.present _ l.line rest j _ fs d few l.is_line says (did_of s before now n (post_of j) (code conflict) p) (subst (λ (x : restores.Counts). Restores n x rest fs d) is h),
        let more : lines_in u ≡ t.created + (t.present + 1) = ap (λ (x : restores.Counts). lines_in x) is in omega (arith, more),
      ),
    )

    by_made : (r : Result Posted Unposted) → r ≡ Ok posted.Present → LineMade s before now n l.line r → StepMade s before now n t bytes u held next.More
    by_made _ e (made.bad unsaid nothing) = absurd (cc)
    by_made _ e (made.starved nothing) = absurd (cc)
    by_made _ e (made.posts j r says p) = by_post j says (subst (λ (x : Result Posted Unposted). PostMade s before now n j x) e p)

pub step_posted : (s : Server) (before now : Told) (n : Names) (t u : restores.Counts) (bytes line held : List ℕ) (len : ℕ) (x : Posted) (l : Lies bytes len) → line ≡ l.line → held ≡ l.rest
    → lines_in t < most_lines → u ≡ added x t → LineMade s before now n line (Ok x) → StepMade s before now n t bytes u held next.More
step_posted s before now n t u bytes line held len posted.Created l same left few is m = step_created s before now n t u bytes line held len l same left few is m
step_posted s before now n t u bytes line held len posted.Present l same left few is m = step_present s before now n t u bytes line held len l same left few is m

pub step_ended : (s : Server) (before now : Told) (n : Names) (t u : restores.Counts) (bytes line held : List ℕ) (len i : ℕ) (x : Unposted) (d : RestoreEnd) (l : Lies bytes len) → line ≡ l.line
    → lines_in t < most_lines → i ≡ next_line t → d ≡ unposted_as i x → LineMade s before now n line (Err x) → StepMade s before now n t bytes u held (next.Ended d)
step_ended s before now n t u bytes line held len i x d l same few number is m =
    subst (λ (y : RestoreEnd). StepMade s before now n t bytes u held (next.Ended y)) (sym (is ∙ ap (λ (k : ℕ). unposted_as k x) number))
    (by_made (Err x) refl (subst (λ (bs : List ℕ). LineMade s before now n bs (Err x)) same m))
  where
    -- the line and what stands behind it are all that was read
    whole : (es : List Exchange) (y : RestoreEnd) → Restores n t (ended l.line ++ l.rest) es y → Restores n t bytes es y
    whole es y h = subst (λ (bs : List ℕ). Restores n t bs es y) (sym l.split) h

    by_lack : (j : Json) → Says n l.line j → Lacked s before now n (post_of j) → StepMade s before now n t bytes u held (next.Ended ends.NoMemory)
    by_lack j says lack = by_either lack.made
      where
        by_either : (Made s before now []) ⊎ ((answer : List ℕ) × Made s before now (exchange_of n (post_of j) (Some answer) ∷ [])) → StepMade s before now n t bytes u held (next.Ended ends.NoMemory)
        by_either (inl nothing) = ([], nothing, restores.starved _ bytes)
        by_either (inr answered) = (exchange_of n (post_of j) (Some answered.0) ∷ [], answered.1, whole _ ends.NoMemory (restores.unknown _ l.line l.rest j _ few l.is_line says refl))

    by_post : (y : Unposted) (j : Json) → Says n l.line j → PostMade s before now n j (Err y) → StepMade s before now n t bytes u held (next.Ended (unposted_as (next_line t) y))
    by_post unposted.Bad j says p = absurd p
    by_post unposted.Link j says p = (
      exchange_of n (post_of j) p.answer ∷ [],
      p.made,
      whole _ ends.LinkFault (restores.fails _ l.line l.rest j _ broken ends.LinkFault few l.is_line says (did_of s before now n (post_of j) broken p) refl),
    )
    by_post (unposted.Answer c) j says p = (
      exchange_of n (post_of j) p.1.answer ∷ [],
      p.1.made,
      whole _ (ends.Answer (next_line t) c) (restores.fails _ l.line l.rest j _ p.0 (ends.Answer (next_line t) c) few l.is_line says (did_of s before now n (post_of j) p.0 p.1) (p.2 (next_line t))),
    )
    by_post unposted.NoMemory j says p = by_lack j says p

    by_made : (r : Result Posted Unposted) → r ≡ Err x → LineMade s before now n l.line r → StepMade s before now n t bytes u held (next.Ended (unposted_as (next_line t) x))
    by_made _ e (made.bad unsaid nothing) =
        let why : unposted.Bad ≡ x = cc in
        subst (λ (y : Unposted). StepMade s before now n t bytes u held (next.Ended (unposted_as (next_line t) y))) why ([], nothing, whole [] (ends.BadLine (next_line t)) (restores.bad _ l.line l.rest few l.is_line unsaid))
    by_made _ e (made.starved nothing) =
        let why : unposted.NoMemory ≡ x = cc in
        subst (λ (y : Unposted). StepMade s before now n t bytes u held (next.Ended (unposted_as (next_line t) y))) why ([], nothing, restores.starved _ bytes)
    by_made _ e (made.posts j r says p) = by_post x j says (subst (λ (y : Result Posted Unposted). PostMade s before now n j y) e p)

-- ---- what an end tells

pub post_blames : (P : Type 0) (i : ℕ) (x : Unposted) (d : RestoreEnd) → d ≡ unposted_as i x → OnLink P x → OnFaults P ⊥ d
post_blames P i x d is why = subst (λ (y : RestoreEnd). OnFaults P ⊥ y) (sym is) (by_why x why)
  where
    by_why : (y : Unposted) → OnLink P y → OnFaults P ⊥ (unposted_as i y)
    by_why unposted.Bad h = tt
    by_why unposted.Link h = h
    by_why (unposted.Answer c) h = tt
    by_why unposted.NoMemory h = tt

pub post_no_end : (i : ℕ) (x : Unposted) (d : RestoreEnd) → d ≡ unposted_as i x → OnEnd ⊥ d
post_no_end i x d is = subst (λ (y : RestoreEnd). OnEnd ⊥ y) (sym is) (by_why x)
  where
    by_why : (y : Unposted) → OnEnd ⊥ (unposted_as i y)
    by_why unposted.Bad = tt
    by_why unposted.Link = tt
    by_why (unposted.Answer c) = tt
    by_why unposted.NoMemory = tt

pub blames_more : (P Q : Type 0) (d : RestoreEnd) → OnFaults P ⊥ d → OnFaults P Q d
blames_more P Q (ends.Done c p) h = tt
blames_more P Q ends.LinkFault h = h
blames_more P Q ends.ReadFault h = absurd h
blames_more P Q (ends.BadLine i) h = tt
blames_more P Q (ends.Cut i) h = tt
blames_more P Q ends.TooMany h = tt
blames_more P Q (ends.Answer i c) h = tt
blames_more P Q ends.NoMemory h = tt

pub blames_either : (P Q : Type 0) (d : RestoreEnd) → OnFaults ⊥ Q d → OnFaults P Q d
blames_either P Q (ends.Done c p) h = tt
blames_either P Q ends.LinkFault h = absurd h
blames_either P Q ends.ReadFault h = h
blames_either P Q (ends.BadLine i) h = tt
blames_either P Q (ends.Cut i) h = tt
blames_either P Q ends.TooMany h = tt
blames_either P Q (ends.Answer i c) h = tt
blames_either P Q ends.NoMemory h = tt

pub ends_more : (P : Type 0) (d : RestoreEnd) → OnEnd ⊥ d → OnEnd P d
ends_more P (ends.Done c p) h = absurd h
ends_more P ends.LinkFault h = tt
ends_more P ends.ReadFault h = tt
ends_more P (ends.BadLine i) h = tt
ends_more P (ends.Cut i) h = absurd h
ends_more P ends.TooMany h = tt
ends_more P (ends.Answer i c) h = tt
ends_more P ends.NoMemory h = tt

-- ---- from the start

-- these bytes were read and these exchanges made, and the restoring stands there
abbrev pub Goes : Server → Told → Told → Names → restores.Counts → restores.Counts → Option (List ℕ) → Option (List ℕ) → List ℕ → Type 0
Goes s before now n t u old new held = (es : List Exchange) × Made s before now es × (bytes : List ℕ) × (old ≡ prepend_known bytes new) × (used : List ℕ) × (bytes ≡ used ++ held) × Leads n t used es u

abbrev pub TurnMade : Server → Told → Told → Names → restores.Counts → restores.Counts → Option (List ℕ) → Option (List ℕ) → List ℕ → List ℕ → Next → Type 0
TurnMade s before now n t u old new held left r = (es : List Exchange) × Made s before now es × (piece : List ℕ) × (old ≡ prepend_known piece new) × Steps n t (held ++ piece) es u left r

abbrev pub Ends : Server → Told → Told → Names → restores.Counts → Option (List ℕ) → Option (List ℕ) → RestoreEnd → Type 0
Ends s before now n t old new d = (es : List Exchange) × Made s before now es × (bytes : List ℕ) × (old ≡ prepend_known bytes new) × Restores n t bytes es d

-- a line was read, and posted
pub turn_posts : (s : Server) (before now : Told) (n : Names) (t u : restores.Counts) (old new : Option (List ℕ)) (held mid left piece : List ℕ) (r : Next) → old ≡ prepend_known piece new → mid ≡ held ++ piece
    → StepMade s before now n t mid u left r → TurnMade s before now n t u old new held left r
turn_posts s before now n t u old new held mid left piece r took is p = (p.0, p.1, piece, took, subst (λ (bs : List ℕ). Steps n t bs p.0 u left r) is p.2)

pub turn_ends : (s : Server) (before : Told) (n : Names) (t u : restores.Counts) (old new : Option (List ℕ)) (held left piece : List ℕ) (d : RestoreEnd) → old ≡ prepend_known piece new
    → Restores n t (held ++ piece) [] d → TurnMade s before before n t u old new held left (next.Ended d)
turn_ends s before n t u old new held left piece d took h = ([], made_nothing s before, piece, took, h)

pub goes_start : (s : Server) (before : Told) (n : Names) (t u : restores.Counts) (old : Option (List ℕ)) (held : List ℕ) → old ≡ prepend_known [] old → held ≡ [] → u ≡ t → Goes s before before n t u old old held
goes_start s before n t u old held took none is = (
  [],
  made_nothing s before,
  [],
  took,
  [],
  sym none,
  λ rest fs d h. subst (λ (x : restores.Counts). Restores n x rest fs d) is h,
)

pub goes_more : (s : Server) (before mid now : Told) (n : Names) (t u w : restores.Counts) (old half new : Option (List ℕ)) (held left : List ℕ) → Goes s before mid n t u old half held
    → TurnMade s mid now n u w half new held left next.More → Goes s before now n t w old new left
goes_more s before mid now n t u w old half new held left p q = by_parts p.0 p.1 p.2 p.3 p.4 p.5 p.6 q.0 q.1 q.2 q.3 q.4.0 q.4.1 q.4.2
  where
    by_parts : (es : List Exchange) → Made s before mid es → (bytes : List ℕ) → old ≡ prepend_known bytes half → (used : List ℕ) → bytes ≡ used ++ held → Leads n t used es u
        → (gs : List Exchange) → Made s mid now gs → (piece : List ℕ) → half ≡ prepend_known piece new → (more : List ℕ) → held ++ piece ≡ more ++ left → Leads n u more gs w
        → Goes s before now n t w old new left
    by_parts es made_then bytes took used split first gs made_now piece took_too more split_too second = (
      es ++ gs,
      made_more s before mid now es gs made_then made_now,
      bytes ++ piece,
      prepend_both old half new bytes piece took took_too,
      used ++ more,
      ap (λ (bs : List ℕ). bs ++ piece) split ∙ append_assoc used held piece ∙ ap (λ (bs : List ℕ). used ++ bs) split_too ∙ sym (append_assoc used more left),
      λ rest fs d h.
          subst (λ (xs : List Exchange). Restores n t ((used ++ more) ++ rest) xs d) (sym (append_assoc es gs fs))
          (subst (λ (bs : List ℕ). Restores n t bs (es ++ (gs ++ fs)) d) (sym (append_assoc used more rest)) (first (more ++ rest) (gs ++ fs) d (second rest fs d h))),
    )

pub goes_end : (s : Server) (before mid now : Told) (n : Names) (t u w : restores.Counts) (old half new : Option (List ℕ)) (held left : List ℕ) (d : RestoreEnd) → Goes s before mid n t u old half held
    → TurnMade s mid now n u w half new held left (next.Ended d) → Ends s before now n t old new d
goes_end s before mid now n t u w old half new held left d p q = by_parts p.0 p.1 p.2 p.3 p.4 p.5 p.6 q.0 q.1 q.2 q.3 q.4
  where
    by_parts : (es : List Exchange) → Made s before mid es → (bytes : List ℕ) → old ≡ prepend_known bytes half → (used : List ℕ) → bytes ≡ used ++ held → Leads n t used es u
        → (gs : List Exchange) → Made s mid now gs → (piece : List ℕ) → half ≡ prepend_known piece new → Restores n u (held ++ piece) gs d → Ends s before now n t old new d
    by_parts es made_then bytes took used split first gs made_now piece took_too ends_there = (
      es ++ gs,
      made_more s before mid now es gs made_then made_now,
      bytes ++ piece,
      prepend_both old half new bytes piece took took_too,
      subst (λ (bs : List ℕ). Restores n t bs (es ++ gs) d) (sym (ap (λ (bs : List ℕ). bs ++ piece) split ∙ append_assoc used held piece)) (first (held ++ piece) gs d ends_there),
    )

pub blames_later : (P Q S T : Type 0) (d : RestoreEnd) → (P → S) → (Q → T) → OnFaults P Q d → OnFaults S T d
blames_later P Q S T (ends.Done c p) f g h = tt
blames_later P Q S T ends.LinkFault f g h = f h
blames_later P Q S T ends.ReadFault f g h = g h
blames_later P Q S T (ends.BadLine i) f g h = tt
blames_later P Q S T (ends.Cut i) f g h = tt
blames_later P Q S T ends.TooMany f g h = tt
blames_later P Q S T (ends.Answer i c) f g h = tt
blames_later P Q S T ends.NoMemory f g h = tt
