-- One turn of a dump: a page, or a list that gave none.
use Rattle.std.proofs.Common.{◌≡◌, ◌⊎◌, ◌<◌, ◌≤◌, ◌/◌, ℕ, List, [], ◌∷◌, ◌++◌, Option, Some, refl, ap, sym, inl, inr, subst, arith}
use Rattle.std.specs.Io.KnownBytes.{append_known}
use Rattle.kj_value.specs.Json.{Json}
use Rattle.edge_io.specs.Exchanges.{Exchange}
use Rattle.edge_io.specs.laws.Sending.{known_nil}
use Rattle.place.specs.Place.{Names}
use Rattle.wire_client.specs.Far.{Server, Told, Made}
use Rattle.wire_client.specs.Calls.{Call, lists}
use Rattle.wire_client.specs.Answers.{Reply, given, broken, long, gone, code, shape}
use Rattle.wire_client.specs.Ends.{Came, Lacked, Ended, OnLinkFault, exchange_of, IsPage}
use Rattle.wire_client.specs.declared.end.ListPage.{ListPage}
use Rattle.wire_client.specs.declared.end.WireEnd.{WireEnd}
use Rattle.wire_client.specs.declared.end.WireEnd.TheVariants as wire
use Rattle.far_migrate.specs.Answered.{Did}
use Rattle.record_dump.specs.Dumps as dumps
use Rattle.record_dump.specs.Dumps.{Dumps, FailsList, OnFaults, OnDone}
use Rattle.record_dump.specs.inner.Seen.{walk_of, left_in, ListReply, ListEnds, Turns}
use Rattle.record_dump.specs.declared.ends.DumpEnd.{DumpEnd}
use Rattle.record_dump.specs.declared.ends.DumpEnd.TheVariants as ends
use Rattle.record_dump.specs.declared.dumping.Turned.{Turned}
use Rattle.record_dump.specs.declared.dumping.Turned.TheVariants as turned
use Rattle.record_dump.specs.declared.dumping.Unlisted.{Unlisted}
use Rattle.record_dump.specs.declared.dumping.Unlisted.TheVariants as unlisted
use Rattle.record_dump.specs.declared.walk.Walk.{Walk}
use Rattle.record_dump.proofs.Taking.{Taken}

-- the exchange of a call that came to a reply
pub did_of : (s : Server) (before now : Told) (n : Names) (call : Call) (reply : Reply) (c : Came s before now n call reply) → Did n call (exchange_of n call c.answer) reply
did_of s before now n call reply c = record { request = refl; replies = c.replies }

-- what a turn comes to, and what it writes
abbrev pub TurnMade : Server → Told → Told → Names → Walk → Walk → Option (List ℕ) → Option (List ℕ) → Turned → Type 0
TurnMade s before now n a b old new r = (es : List Exchange) × Made s before now es × (w : List ℕ) × (new ≡ append_known old w) × Turns n (walk_of a) es w (walk_of b) r

-- a page, and what is done with it
pub page_turn : (s : Server) (before now : Told) (n : Names) (a b : Walk) (old new : Option (List ℕ)) (token : List ℕ) (j : Json) (p : ListPage) (r : Turned) → token ≡ a.token.bytes
    → Came s before now n (lists a.limit token) (given j) → IsPage j p → Taken old new a p b r → TurnMade s before now n a b old new r
page_turn s before now n a b old new token j p r same c is h =
    let came : Came s before now n (lists a.limit a.token.bytes) (given j) = subst (λ (t : List ℕ). Came s before now n (lists a.limit t) (given j)) same c in (
      exchange_of n (lists a.limit a.token.bytes) came.answer ∷ [],
      came.made,
      h.0,
      h.1,
      h.2 n j (exchange_of n (lists a.limit a.token.bytes) came.answer) (did_of s before now n (lists a.limit a.token.bytes) (given j) came) is,
    )

-- ---- a list that gave no page

-- the exchange of a list that was too long
record IsLong (n : Names) (a : dumps.Walk) (es : List Exchange) : Type 0 where
  e : Exchange
  only : es ≡ e ∷ []
  did : Did n (lists a.limit a.token) e long

abbrev ByList : Names → dumps.Walk → List Exchange → Unlisted → Type 0
ByList n a es unlisted.TooLong = IsLong n a es
ByList n a es (unlisted.Ended d) = Dumps n a es [] d

-- the list was asked for, and this is what it adds
pub record ListMade (s : Server) (before now : Told) (n : Names) (a : dumps.Walk) (x : Unlisted) : Type 0 where
  es : List Exchange
  made : Made s before now es
  adds : ByList n a es x

list_by_reply : (s : Server) (before now : Told) (n : Names) (a : dumps.Walk) (r : Reply) (x : Unlisted) → Came s before now n (lists a.limit a.token) r → ListReply x r
    → ListMade s before now n a x
list_by_reply s before now n a r x c reply = record {
  es = exchange_of n (lists a.limit a.token) c.answer ∷ [];
  made = c.made;
  adds = by_end x reply;
}
  where
    did : Did n (lists a.limit a.token) (exchange_of n (lists a.limit a.token) c.answer) r
    did = did_of s before now n (lists a.limit a.token) r c

    by_end : (y : Unlisted) → ListReply y r → ByList n a (exchange_of n (lists a.limit a.token) c.answer ∷ []) y
    by_end unlisted.TooLong is = record { e = exchange_of n (lists a.limit a.token) c.answer; only = refl; did = subst (λ (q : Reply). Did n (lists a.limit a.token) (exchange_of n (lists a.limit a.token) c.answer) q) is did }
    by_end (unlisted.Ended (ends.Done lines)) is = absurd is
    by_end (unlisted.Ended ends.LinkFault) is = dumps.list_fails _ _ r ends.LinkFault did is
    by_end (unlisted.Ended ends.WriteFault) is = absurd is
    by_end (unlisted.Ended (ends.Answer d)) is = dumps.list_fails _ _ r (ends.Answer d) did is
    by_end (unlisted.Ended ends.Expired) is = dumps.too_old _ _ (subst (λ (q : Reply). Did n (lists a.limit a.token) (exchange_of n (lists a.limit a.token) c.answer) q) is did)
    by_end (unlisted.Ended ends.NoMemory) is = absurd is

list_starved : (s : Server) (before now : Told) (n : Names) (a : dumps.Walk) → Lacked s before now n (lists a.limit a.token) → ListMade s before now n a (unlisted.Ended ends.NoMemory)
list_starved s before now n a l = by_made l.made
  where
    by_made : (Made s before now []) ⊎ ((bytes : List ℕ) × Made s before now (exchange_of n (lists a.limit a.token) (Some bytes) ∷ [])) → ListMade s before now n a (unlisted.Ended ends.NoMemory)
    by_made (inl made) = record { es = []; made = made; adds = dumps.unlisted _ }
    by_made (inr answered) = record { es = exchange_of n (lists a.limit a.token) (Some answered.0) ∷ []; made = answered.1; adds = dumps.unread _ _ refl }

list_ended : (s : Server) (before now : Told) (n : Names) (a : dumps.Walk) (end : WireEnd) (x : Unlisted) → Ended s before now n (lists a.limit a.token) end → ListEnds end x
    → ListMade s before now n a x
list_ended s before now n a wire.LinkFault x c is = list_by_reply s before now n a broken x c is
list_ended s before now n a wire.TooLong x c is = list_by_reply s before now n a long x c is
list_ended s before now n a wire.Gone x c is = list_by_reply s before now n a gone x c is
list_ended s before now n a (wire.Code d) x c is = list_by_reply s before now n a (code d) x c is
list_ended s before now n a (wire.Shape path) x c is = list_by_reply s before now n a (shape path.bytes) x c is
list_ended s before now n a wire.NoMemory x c is =
    subst (λ (y : Unlisted). ListMade s before now n a y) (sym is) (list_starved s before now n a c)

-- the same where the token is lent
pub list_ended_at : (s : Server) (before now : Told) (n : Names) (a : dumps.Walk) (token : List ℕ) (end : WireEnd) (x : Unlisted) → token ≡ a.token
    → Ended s before now n (lists a.limit token) end → ListEnds end x → ListMade s before now n a x
list_ended_at s before now n a token end x is c ends = list_ended s before now n a end x (subst (λ (t : List ℕ). Ended s before now n (lists a.limit t) end) is c) ends

pub ended_turn : (s : Server) (before now : Told) (n : Names) (a b : Walk) (old : Option (List ℕ)) (d : DumpEnd) → ListMade s before now n (walk_of a) (unlisted.Ended d) → TurnMade s before now n a b old old (turned.Ended d)
ended_turn s before now n a b old d m = (m.es, m.made, [], known_nil old, m.adds)

-- a page that is too long
pub halved_turn : (s : Server) (before now : Told) (n : Names) (a b : Walk) (old : Option (List ℕ)) → ListMade s before now n (walk_of a) unlisted.TooLong
    → (1 < a.limit) × (walk_of b ≡ record (walk_of a) { limit = a.limit / 2 }) → TurnMade s before now n a b old old turned.More
halved_turn s before now n a b old m half = (m.es, m.made, [], known_nil old, (by_list m.es m.adds, fewer))
  where
    by_list : (es : List Exchange) → IsLong n (walk_of a) es → (fs : List Exchange) (v : List ℕ) (d : DumpEnd) → Dumps n (walk_of b) fs v d → Dumps n (walk_of a) (es ++ fs) v d
    by_list es l fs v d h = subst (λ (xs : List Exchange). Dumps n (walk_of a) (xs ++ fs) v d) (sym l.only)
        (dumps.halved _ l.e fs v d l.did half.0 (subst (λ (x : dumps.Walk). Dumps n x fs v d) half.1 h))

    fewer : left_in (walk_of b) < left_in (walk_of a)
    fewer =
        let limit : b.limit ≡ a.limit / 2 = ap (λ (x : dumps.Walk). x.limit) half.1 in
        let listed : b.listed ≡ a.listed = ap (λ (x : dumps.Walk). x.listed) half.1 in
        let some = half.0 in
        omega (arith, some, limit, listed)

pub short_turn : (s : Server) (before now : Told) (n : Names) (a b : Walk) (old : Option (List ℕ)) → ListMade s before now n (walk_of a) unlisted.TooLong
    → a.limit ≤ 1 → TurnMade s before now n a b old old (turned.Ended (ends.Answer 0))
short_turn s before now n a b old m one = (m.es, m.made, [], known_nil old, by_list m.es m.adds)
  where
    by_list : (es : List Exchange) → IsLong n (walk_of a) es → Dumps n (walk_of a) es [] (ends.Answer 0)
    by_list es l = subst (λ (xs : List Exchange). Dumps n (walk_of a) xs [] (ends.Answer 0)) (sym l.only) (dumps.too_long _ l.e l.did one)

-- ---- what an end tells

not_link : (P Q : Type 0) (d : DumpEnd) (r : Reply) → (r ≡ broken → P) → ListReply (unlisted.Ended d) r → OnFaults P Q d
not_link P Q (ends.Done k) r why h = tt
not_link P Q ends.LinkFault r why h = why (by_reply r h)
  where
    by_reply : (q : Reply) → FailsList q ends.LinkFault → q ≡ broken
    by_reply (given j) f = absurd f
    by_reply broken f = refl
    by_reply long f = absurd f
    by_reply gone f = absurd (cc)
    by_reply (code c) f = let same = f.1 in absurd (cc)
    by_reply (shape path) f = absurd (cc)
not_link P Q ends.WriteFault r why h = absurd h
not_link P Q (ends.Answer c) r why h = tt
not_link P Q ends.Expired r why h = tt
not_link P Q ends.NoMemory r why h = tt

pub list_blames : (P Q : Type 0) (end : WireEnd) (d : DumpEnd) → OnLinkFault P end → ListEnds end (unlisted.Ended d) → OnFaults P Q d
list_blames P Q wire.LinkFault d why is = not_link P Q d broken (λ same. why) is
list_blames P Q wire.TooLong d why is = not_link P Q d long (λ same. absurd (cc)) is
list_blames P Q wire.Gone d why is = not_link P Q d gone (λ same. absurd (cc)) is
list_blames P Q (wire.Code c) d why is = not_link P Q d (code c) (λ same. absurd (cc)) is
list_blames P Q (wire.Shape path) d why is = not_link P Q d (shape path.bytes) (λ same. absurd (cc)) is
list_blames P Q wire.NoMemory d why is =
    let same : d ≡ ends.NoMemory = cc in
    subst (λ (x : DumpEnd). OnFaults P Q x) (sym same) tt

not_done : (P : Type 0) (d : DumpEnd) (r : Reply) → ListReply (unlisted.Ended d) r → OnDone P d
not_done P (ends.Done k) r h = absurd h
not_done P ends.LinkFault r h = tt
not_done P ends.WriteFault r h = tt
not_done P (ends.Answer c) r h = tt
not_done P ends.Expired r h = tt
not_done P ends.NoMemory r h = tt

pub list_not_done : (P : Type 0) (end : WireEnd) (d : DumpEnd) → ListEnds end (unlisted.Ended d) → OnDone P d
list_not_done P wire.LinkFault d is = not_done P d broken is
list_not_done P wire.TooLong d is = not_done P d long is
list_not_done P wire.Gone d is = not_done P d gone is
list_not_done P (wire.Code c) d is = not_done P d (code c) is
list_not_done P (wire.Shape path) d is = not_done P d (shape path.bytes) is
list_not_done P wire.NoMemory d is =
    let same : d ≡ ends.NoMemory = cc in
    subst (λ (x : DumpEnd). OnDone P x) (sym same) tt
