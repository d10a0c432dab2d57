-- One page in memory, its lines, and where a dump stands behind it.
use Rattle.std.proofs.Common.{◌≡◌, ◌⊎◌, ◌<◌, ◌≤◌, ◌+◌, ℕ, Bool, true, false, List, [], ◌∷◌, ◌++◌, map, length, Option, None, unwrap_or, refl, ap, sym, ◌∙◌, inl, inr, subst, arith}
use Rattle.std.proofs.lemmas.List.{length-map}
use Rattle.std.specs.Io.KnownBytes.{append_known}
use Rattle.kj_value.specs.Json.{Json}
use Rattle.kj_value.specs.Seen.{json}
use Rattle.kj_value.specs.declared.value.JVal.{JVal}
use Rattle.kube_meta.specs.Key.{KeyView}
use Rattle.edge_io.specs.Exchanges.{Exchange}
use Rattle.edge_io.specs.Sends.{AddsSome}
use Rattle.edge_io.specs.laws.Sending.{known_nil}
use Rattle.place.specs.Place.{Names}
use Rattle.wire_client.specs.Calls.{lists}
use Rattle.wire_client.specs.Answers.{given}
use Rattle.wire_client.specs.Ends.{IsPage}
use Rattle.wire_client.specs.declared.end.ListPage.{ListPage}
use Rattle.far_migrate.specs.Answered.{Did}
use Rattle.far_migrate.specs.Pages.{goes_on_from, objects_of, token_of, is_empty, last_key, most_objects}
use Rattle.record_dump.specs.Lines.{lines_of}
use Rattle.record_dump.specs.Dumps as dumps
use Rattle.record_dump.specs.Dumps.{Dumps, goes_on, after_page, IsUnwritten, OnBrokenOff, OnFaults, OnDone}
use Rattle.record_dump.specs.inner.Seen.{walk_of, left_in, OnUnsent, unsent_as, OnEnded, TakesPage}
use Rattle.record_dump.specs.declared.ends.DumpEnd.{DumpEnd}
use Rattle.record_dump.specs.declared.ends.DumpEnd.TheVariants as ends
use Rattle.record_dump.specs.declared.dumping.Turned.{Turned}
use Rattle.record_dump.specs.declared.dumping.Turned.TheVariants as turned
use Rattle.record_dump.specs.declared.line.Unsent.{Unsent}
use Rattle.record_dump.specs.declared.line.Unsent.TheVariants as unsent
use Rattle.record_dump.specs.declared.walk.Walk.{Walk}

-- ---- what a page in memory tells, and its body

objects_are : (j : Json) (p : ListPage) → IsPage j p → objects_of j ≡ p.items
objects_are j p is = ap (λ (o : Option (List Json)). unwrap_or o []) is.items

empty_is : (j : Json) (p : ListPage) (b : Bool) → is_empty p.token.bytes ≡ b → IsPage j p → is_empty (token_of j) ≡ b
empty_is j p b empty is = ap (λ (t : List ℕ). is_empty t) (sym is.token) ∙ empty

-- whether the page goes on, as it was found of its items and its token, which are lent
abbrev pub GoesOn : Walk → ListPage → Bool → Type 0
GoesOn a p b = (j : Json) → IsPage j p → goes_on (walk_of a) j ≡ b

pub goes_as : (a : Walk) (p : ListPage) (last : Option KeyView) (js : List Json) (token : List ℕ) (b c : Bool) → last ≡ (walk_of a).last → js ≡ p.items → token ≡ p.token.bytes
    → b ≡ goes_on_from last a.listed js token → b ≡ c → GoesOn a p c
goes_as a p last js token b c same_last same_items same_token found now j is =
    ap (λ (xs : List Json). goes_on_from (walk_of a).last a.listed xs (token_of j)) (objects_are j p is ∙ sym same_items)
    ∙ ap (λ (t : List ℕ). goes_on_from (walk_of a).last a.listed js t) (sym is.token ∙ sym same_token)
    ∙ ap (λ (l : Option KeyView). goes_on_from l a.listed js token) (sym same_last)
    ∙ sym found ∙ now

pub empty_as : (token bytes : List ℕ) (b c : Bool) → token ≡ bytes → b ≡ is_empty token → b ≡ c → is_empty bytes ≡ c
empty_as token bytes b c same is now = ap (λ (x : List ℕ). is_empty x) (sym same) ∙ sym is ∙ now

pub few_as : (vs : List JVal) (items : List Json) (listed : ℕ) → map json vs ≡ items → listed + length vs ≤ most_objects → listed + length items ≤ most_objects
few_as vs items listed same few =
    let n : length items ≡ length vs = ap (λ (js : List Json). length js) (sym same) ∙ length-map vs json in
    omega (arith, n, few)

-- ---- what is done with a page, and what is written

abbrev pub Taken : Option (List ℕ) → Option (List ℕ) → Walk → ListPage → Walk → Turned → Type 0
Taken old new a p b r = (w : List ℕ) × (new ≡ append_known old w) × TakesPage a p w b r

-- of another order or number
pub takes_other : (old : Option (List ℕ)) (a b : Walk) (p : ListPage) → GoesOn a p false → Taken old old a p b (turned.Ended (ends.Answer 0))
takes_other old a b p other = ([], known_nil old, λ n j e did is. dumps.other _ j e did (other j is))

-- memory was wanted before a line was written
pub takes_starved : (old : Option (List ℕ)) (a b : Walk) (p : ListPage) → Taken old old a p b (turned.Ended ends.NoMemory)
takes_starved old a b p = ([], known_nil old, λ n j e did is. dumps.unread _ e did.request)

-- a front of its lines was written
takes_front : (old new : Option (List ℕ)) (a b : Walk) (p : ListPage) (d : DumpEnd) → GoesOn a p true → AddsSome old new (lines_of p.items) → IsUnwritten d
    → Taken old new a p b (turned.Ended d)
takes_front old new a b p d goes some ends = (
  some.front,
  some.wrote,
  λ n j e did is. dumps.unwritten _ j e some.front some.back d did (goes j is) (ap (λ (js : List Json). lines_of js) (objects_are j p is) ∙ some.whole) ends,
)

pub takes_unsent : (old new : Option (List ℕ)) (a b : Walk) (p : ListPage) (u : Unsent) (d : DumpEnd) → GoesOn a p true → AddsSome old new (lines_of p.items) → d ≡ unsent_as u
    → Taken old new a p b (turned.Ended d)
takes_unsent old new a b p u d goes some is =
    subst (λ (x : DumpEnd). Taken old new a p b (turned.Ended x)) (sym is) (takes_front old new a b p (unsent_as u) goes some (by_why u))
  where
    by_why : (v : Unsent) → IsUnwritten (unsent_as v)
    by_why unsent.Failed = tt
    by_why unsent.NoMemory = tt

-- all of them
pub takes_last : (old new : Option (List ℕ)) (a b : Walk) (p : ListPage) (k : ℕ) → GoesOn a p true → is_empty p.token.bytes ≡ true
    → new ≡ append_known old (lines_of p.items) → k ≡ a.listed + length p.items → Taken old new a p b (turned.Ended (ends.Done k))
takes_last old new a b p k goes empty wrote many = (
  lines_of p.items,
  wrote,
  λ n j e did page. by_page n j e did page,
)
  where
    by_page : (n : Names) (j : Json) (e : Exchange) → Did n (lists a.limit a.token.bytes) e (given j) → IsPage j p → Dumps n (walk_of a) (e ∷ []) (lines_of p.items) (ends.Done k)
    by_page n j e did page =
        let count : a.listed + length (objects_of j) ≡ k = ap (λ (js : List Json). a.listed + length js) (objects_are j p page) ∙ sym many in
        subst (λ (x : ℕ). Dumps n (walk_of a) (e ∷ []) (lines_of p.items) (ends.Done x)) count
        (subst (λ (js : List Json). Dumps n (walk_of a) (e ∷ []) (lines_of js) (ends.Done (a.listed + length (objects_of j)))) (objects_are j p page)
        (dumps.last _ j e did (goes j page) (empty_is j p true empty page)))

-- ---- where a dump stands behind a page

pub record StandsBehind (a : Walk) (p : ListPage) (b : Walk) : Type 0 where
  pub limit : b.limit ≡ a.limit
  pub token : b.token.bytes ≡ p.token.bytes
  pub last : b.last ≡ last_key None p.items
  pub listed : b.listed ≡ a.listed + length p.items
  pub few : a.listed + length p.items ≤ most_objects

same_walk : (x y : dumps.Walk) → x.limit ≡ y.limit → x.token ≡ y.token → x.last ≡ y.last → x.listed ≡ y.listed → x ≡ y
same_walk x y limit token last listed =
    ap (λ (v : ℕ). record { limit = v; token = x.token; last = x.last; listed = x.listed }) limit
    ∙ ap (λ (v : List ℕ). record { limit = y.limit; token = v; last = x.last; listed = x.listed }) token
    ∙ ap (λ (v : Option KeyView). record { limit = y.limit; token = y.token; last = v; listed = x.listed }) last
    ∙ ap (λ (v : ℕ). record { limit = y.limit; token = y.token; last = y.last; listed = v }) listed

-- the last key of some objects doesn't tell of those before them
same_last : (l : Option KeyView) (js : List Json) → 0 < length js → last_key None js ≡ last_key l js
same_last l [] some = absurd (omega arith)
same_last l (j ∷ js) some = refl

behind_is : (a b : Walk) (j : Json) (p : ListPage) → 0 < length p.items → IsPage j p → StandsBehind a p b → after_page (walk_of a) j ≡ walk_of b
behind_is a b j p some is at = same_walk (after_page (walk_of a) j) (walk_of b)
    (sym at.limit) (sym is.token ∙ sym at.token)
    (ap (λ (js : List Json). last_key (walk_of a).last js) (objects_are j p is) ∙ sym (same_last (walk_of a).last p.items some) ∙ sym at.last)
    (ap (λ (js : List Json). a.listed + length js) (objects_are j p is) ∙ sym at.listed)

-- where another page follows there is an object
some_object : (a : dumps.Walk) (js : List Json) (token : List ℕ) → goes_on_from a.last a.listed js token ≡ true → is_empty token ≡ false → 0 < length js
some_object a [] token goes more = absurd (cc)
some_object a (j ∷ js) token goes more = omega arith

pub takes_more : (old mid : Option (List ℕ)) (a b : Walk) (p : ListPage) → GoesOn a p true → is_empty p.token.bytes ≡ false → mid ≡ append_known old (lines_of p.items) → StandsBehind a p b
    → Taken old mid a p b turned.More
takes_more old mid a b p goes more wrote at = (
  lines_of p.items,
  wrote,
  λ n j e did is. by_page n j e did is,
)
  where
    some : (j : Json) → IsPage j p → 0 < length p.items
    some j is = subst (λ (js : List Json). 0 < length js) (objects_are j p is) (some_object (walk_of a) (objects_of j) (token_of j) (goes j is) (empty_is j p false more is))

    fewer : (j : Json) → IsPage j p → left_in (walk_of b) < left_in (walk_of a)
    fewer j is = let one = some j is in omega (arith, one, at.limit, at.listed, at.few)

    by_page : (n : Names) (j : Json) (e : Exchange) (did : Did n (lists a.limit a.token.bytes) e (given j)) (is : IsPage j p)
        → ((fs : List Exchange) (v : List ℕ) (d : DumpEnd) → Dumps n (walk_of b) fs v d → Dumps n (walk_of a) (e ∷ fs) (lines_of p.items ++ v) d) × (left_in (walk_of b) < left_in (walk_of a))
    by_page n j e did is = (
      λ fs v d h.
          subst (λ (js : List Json). Dumps n (walk_of a) (e ∷ fs) (lines_of js ++ v) d) (objects_are j p is)
          (dumps.page _ j e fs v d did (goes j is) (empty_is j p false more is) (subst (λ (x : dumps.Walk). Dumps n x fs v d) (sym (behind_is a b j p (some j is) is at)) h)),
      fewer j is,
    )

-- ---- what an end tells

pub unsent_blames : (P : Type 0) (u : Unsent) (d : DumpEnd) → d ≡ unsent_as u → OnUnsent P u → OnFaults ⊥ P d
unsent_blames P u d is why = subst (λ (x : DumpEnd). OnFaults ⊥ P x) (sym is) (by_why u why)
  where
    by_why : (v : Unsent) → OnUnsent P v → OnFaults ⊥ P (unsent_as v)
    by_why unsent.Failed h = h
    by_why unsent.NoMemory h = tt

pub unsent_not_done : (P : Type 0) (u : Unsent) (d : DumpEnd) → d ≡ unsent_as u → OnDone P d
unsent_not_done P u d is = subst (λ (x : DumpEnd). OnDone P x) (sym is) (by_why u)
  where
    by_why : (v : Unsent) → OnDone P (unsent_as v)
    by_why unsent.Failed = tt
    by_why unsent.NoMemory = tt

pub unsent_not_broken : (P : Type 0) (u : Unsent) (d : DumpEnd) → d ≡ unsent_as u → OnBrokenOff P d
unsent_not_broken P u d is = subst (λ (x : DumpEnd). OnBrokenOff P x) (sym is) (by_why u)
  where
    by_why : (v : Unsent) → OnBrokenOff P (unsent_as v)
    by_why unsent.Failed = tt
    by_why unsent.NoMemory = tt

-- what holds in any case
pub broken_any : (P : Type 0) (d : DumpEnd) → P → OnBrokenOff P d
broken_any P (ends.Done k) h = tt
broken_any P ends.LinkFault h = h
broken_any P ends.WriteFault h = tt
broken_any P (ends.Answer c) h = h
broken_any P ends.Expired h = h
broken_any P ends.NoMemory h = tt

-- the output is as it was, or all was handed on: so of two steps
pub handed_more : {T : Type 0} (written flushed : T → Option (List ℕ)) (a b c : T) → (b ≡ a) ⊎ (flushed b ≡ written b) → (c ≡ b) ⊎ (flushed c ≡ written c)
    → (c ≡ a) ⊎ (flushed c ≡ written c)
handed_more {T} written flushed a b c (inl first) (inl second) = inl (second ∙ first)
handed_more {T} written flushed a b c (inr first) (inl second) = inr (subst (λ (x : T). flushed x ≡ written x) (sym second) first)
handed_more {T} written flushed a b c first (inr second) = inr second

pub broken_maps : (P Q : Type 0) (d : DumpEnd) → (P → Q) → OnBrokenOff P d → OnBrokenOff Q d
broken_maps P Q (ends.Done k) f h = tt
broken_maps P Q ends.LinkFault f h = f h
broken_maps P Q ends.WriteFault f h = tt
broken_maps P Q (ends.Answer c) f h = f h
broken_maps P Q ends.Expired f h = f h
broken_maps P Q ends.NoMemory f h = tt

pub blames_more : (P Q : Type 0) (r : Turned) → OnEnded (OnFaults ⊥ Q) r → OnEnded (OnFaults P Q) r
blames_more P Q turned.More h = tt
blames_more P Q (turned.Ended (ends.Done k)) h = tt
blames_more P Q (turned.Ended ends.LinkFault) h = absurd h
blames_more P Q (turned.Ended ends.WriteFault) h = h
blames_more P Q (turned.Ended (ends.Answer c)) h = tt
blames_more P Q (turned.Ended ends.Expired) h = tt
blames_more P Q (turned.Ended ends.NoMemory) h = tt

pub blames_later : (P Q S T : Type 0) (d : DumpEnd) → (P → S) → (Q → T) → OnFaults P Q d → OnFaults S T d
blames_later P Q S T (ends.Done k) f g h = tt
blames_later P Q S T ends.LinkFault f g h = f h
blames_later P Q S T ends.WriteFault f g h = g h
blames_later P Q S T (ends.Answer c) f g h = tt
blames_later P Q S T ends.Expired f g h = tt
blames_later P Q S T ends.NoMemory f g h = tt
