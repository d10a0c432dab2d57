-- One put, one get, and what they add to an object's exchanges.
use Rattle.std.proofs.Common.{◌≡◌, ◌≢◌, ◌⊎◌, ◌<◌, ◌-◌, ℕ, zero, suc, List, [], ◌∷◌, Some, Result, Ok, Err, refl, sym, inl, inr, subst, arith}
use Rattle.kj_value.specs.Json.{Json}
use Rattle.kj_value.specs.Seen.{json}
use Rattle.kj_value.specs.declared.value.JVal.{JVal}
use Rattle.kube_meta.specs.Key.{KeyView}
use Rattle.edge_io.specs.Exchanges.{Exchange}
use Rattle.place.specs.Place.{Names}
use Rattle.wire_client.specs.Far.{Server, Told, Made}
use Rattle.wire_client.specs.laws.FarLaws.{made_more}
use Rattle.wire_client.specs.Calls.{Call, gets, puts}
use Rattle.wire_client.specs.Answers.{Reply, given, broken, long, gone as gone_reply, code, shape}
use Rattle.wire_client.specs.Ends.{Came, Lacked, Ended, exchange_of}
use Rattle.wire_client.specs.declared.end.WireEnd.{WireEnd}
use Rattle.wire_client.specs.declared.end.WireEnd.TheVariants as wire
use Rattle.far_migrate.specs.Counts.{gone, contested, fault_of}
use Rattle.far_migrate.specs.Answered.{Did, conflict}
use Rattle.far_migrate.specs.Puts as back
use Rattle.far_migrate.specs.Puts.{PutBack, Outcome, kind, fault, number_of}
use Rattle.far_migrate.specs.inner.Ends.{PutReply, GetReply, PutEnds, GetEnds, IsOne, TriedPut, TriedGet, kind_of}
use Rattle.far_migrate.specs.declared.tally.FarFault.{FarFault}
use Rattle.far_migrate.specs.declared.tally.FarFault.TheVariants as faults
use Rattle.far_migrate.specs.declared.ending.Refused.{Refused}
use Rattle.far_migrate.specs.declared.ending.Refused.TheVariants as refused
use Rattle.far_migrate.specs.declared.ending.Ungot.{Ungot}
use Rattle.far_migrate.specs.declared.ending.Ungot.TheVariants as ungot
use Rattle.far_migrate.specs.declared.putting.Put.{Put}
use Rattle.far_migrate.specs.declared.putting.Put.TheVariants as put
use Rattle.far_migrate.specs.declared.putting.Got.{Got}
use Rattle.far_migrate.specs.declared.putting.Got.TheVariants as got
use Rattle.far_migrate.specs.declared.putting.Kind.{Kind as CodeKind}
use Rattle.far_migrate.specs.declared.putting.Kind.TheVariants as kinds

-- the exchange of a call that came to a reply
pub did_of : (s : Server) (before now : Told) (n : Names) (call : Call) (reply : Reply) (c : Came s before now n call reply) → Did n call (exchange_of n call c.answer) reply
did_of s before now n call reply c = record { request = refl; replies = c.replies }

-- it is the one exchange of its call
pub one_of : (s : Server) (before now : Told) (n : Names) (call : Call) (r reply : Reply) (c : Came s before now n call r) → r ≡ reply → IsOne n call reply (exchange_of n call c.answer ∷ [])
one_of s before now n call r reply c is = record {
  e = exchange_of n call c.answer;
  only = refl;
  did = subst (λ (q : Reply). Did n call (exchange_of n call c.answer) q) is (did_of s before now n call r c);
}

-- ---- a put

abbrev pub PutMade : Server → Told → Told → Names → KeyView → Json → Result Put FarFault → Type 0
PutMade s before now n key j r = (es : List Exchange) × Made s before now es × TriedPut n key j es r

pub put_same : (s : Server) (before now : Told) (n : Names) (key : KeyView) (j k : Json) → Came s before now n (puts key j) (given k) → number_of k ≡ number_of j
    → PutMade s before now n key j (Ok (put.Done kinds.Unchanged))
put_same s before now n key j k c same = (exchange_of n (puts key j) c.answer ∷ [], c.made, λ left. back.same left j k _ (did_of s before now n (puts key j) (given k) c) same)

pub put_other : (s : Server) (before now : Told) (n : Names) (key : KeyView) (j k : Json) → Came s before now n (puts key j) (given k) → number_of k ≢ number_of j
    → PutMade s before now n key j (Ok (put.Done kinds.Written))
put_other s before now n key j k c other = (exchange_of n (puts key j) c.answer ∷ [], c.made, λ left. back.other left j k _ (did_of s before now n (puts key j) (given k) c) other)

-- what a put that gave no object comes to
abbrev pub put_result : Refused → Result Put FarFault
put_result refused.Gone = Ok (put.Done kinds.Gone)
put_result refused.Conflict = Ok put.Conflict
put_result (refused.Fault f) = Err f

put_by_reply : (s : Server) (before now : Told) (n : Names) (key : KeyView) (j : Json) (r : Reply) (x : Refused) → Came s before now n (puts key j) r → PutReply x r
    → PutMade s before now n key j (put_result x)
put_by_reply s before now n key j r refused.Gone c is =
    (exchange_of n (puts key j) c.answer ∷ [], c.made, λ left. back.nothing left j _ (subst (λ (q : Reply). Did n (puts key j) (exchange_of n (puts key j) c.answer) q) is (did_of s before now n (puts key j) r c)))
put_by_reply s before now n key j r refused.Conflict c is =
    (exchange_of n (puts key j) c.answer ∷ [], c.made, one_of s before now n (puts key j) r (code conflict) c is)
put_by_reply s before now n key j r (refused.Fault f) c fails =
    (exchange_of n (puts key j) c.answer ∷ [], c.made, λ left. back.put_fails left j _ r (fault_of f) (did_of s before now n (puts key j) r c) fails)

put_starved : (s : Server) (before now : Told) (n : Names) (key : KeyView) (j : Json) → Lacked s before now n (puts key j)
    → PutMade s before now n key j (Err faults.NoMemory)
put_starved s before now n key j l = by_made l.made
  where
    by_made : (Made s before now []) ⊎ ((bytes : List ℕ) × Made s before now (exchange_of n (puts key j) (Some bytes) ∷ [])) → PutMade s before now n key j (Err faults.NoMemory)
    by_made (inl made) = ([], made, λ left. back.unput (suc left) j)
    by_made (inr answered) = (exchange_of n (puts key j) (Some answered.0) ∷ [], answered.1, λ left. back.put_unread left j _ refl)

pub put_ended : (s : Server) (before now : Told) (n : Names) (key : KeyView) (j : Json) (end : WireEnd) (x : Refused) → Ended s before now n (puts key j) end → PutEnds end x
    → PutMade s before now n key j (put_result x)
put_ended s before now n key j wire.LinkFault x c is = put_by_reply s before now n key j broken x c is
put_ended s before now n key j wire.TooLong x c is = put_by_reply s before now n key j long x c is
put_ended s before now n key j wire.Gone x c is = put_by_reply s before now n key j gone_reply x c is
put_ended s before now n key j (wire.Code d) x c is = put_by_reply s before now n key j (code d) x c is
put_ended s before now n key j (wire.Shape path) x c is = put_by_reply s before now n key j (shape path.bytes) x c is
put_ended s before now n key j wire.NoMemory x c is =
    subst (λ (y : Refused). PutMade s before now n key j (put_result y)) (sym is) (put_starved s before now n key j c)

-- ---- a get

abbrev pub GetMade : Server → Told → Told → Names → KeyView → Result Got FarFault → Type 0
GetMade s before now n key r = (es : List Exchange) × Made s before now es × TriedGet n key es r

pub get_found : (s : Server) (before now : Told) (n : Names) (key : KeyView) (v : JVal) → Came s before now n (gets key) (given (json v)) → GetMade s before now n key (Ok (got.Found v))
get_found s before now n key v c = (exchange_of n (gets key) c.answer ∷ [], c.made, one_of s before now n (gets key) (given (json v)) (given (json v)) c refl)

abbrev pub get_result : Ungot → Result Got FarFault
get_result ungot.Gone = Ok got.Gone
get_result (ungot.Fault f) = Err f

get_by_reply : (s : Server) (before now : Told) (n : Names) (key : KeyView) (r : Reply) (x : Ungot) → Came s before now n (gets key) r → GetReply x r
    → GetMade s before now n key (get_result x)
get_by_reply s before now n key r ungot.Gone c is =
    (exchange_of n (gets key) c.answer ∷ [], c.made, one_of s before now n (gets key) r gone_reply c is)
get_by_reply s before now n key r (ungot.Fault f) c fails =
    (exchange_of n (gets key) c.answer ∷ [], c.made, λ left j e did. back.get_fails left j e _ r (fault_of f) did (did_of s before now n (gets key) r c) fails)

get_starved : (s : Server) (before now : Told) (n : Names) (key : KeyView) → Lacked s before now n (gets key) → GetMade s before now n key (Err faults.NoMemory)
get_starved s before now n key l = by_made l.made
  where
    by_made : (Made s before now []) ⊎ ((bytes : List ℕ) × Made s before now (exchange_of n (gets key) (Some bytes) ∷ [])) → GetMade s before now n key (Err faults.NoMemory)
    by_made (inl made) = ([], made, λ left j e did. back.ungot left j e did)
    by_made (inr answered) = (exchange_of n (gets key) (Some answered.0) ∷ [], answered.1, λ left j e did. back.get_unread left j e _ did refl)

pub get_ended : (s : Server) (before now : Told) (n : Names) (key : KeyView) (end : WireEnd) (x : Ungot) → Ended s before now n (gets key) end → GetEnds end x
    → GetMade s before now n key (get_result x)
get_ended s before now n key wire.LinkFault x c is = get_by_reply s before now n key broken x c is
get_ended s before now n key wire.TooLong x c is = get_by_reply s before now n key long x c is
get_ended s before now n key wire.Gone x c is = get_by_reply s before now n key gone_reply x c is
get_ended s before now n key (wire.Code d) x c is = get_by_reply s before now n key (code d) x c is
get_ended s before now n key (wire.Shape path) x c is = get_by_reply s before now n key (shape path.bytes) x c is
get_ended s before now n key wire.NoMemory x c is =
    subst (λ (y : Ungot). GetMade s before now n key (get_result y)) (sym is) (get_starved s before now n key c)

-- ---- an object

abbrev pub BackMade : Server → Told → Told → Names → KeyView → ℕ → Json → Outcome → Type 0
BackMade s before now n key left j o = (es : List Exchange) × Made s before now es × PutBack n key left j es o

-- the put ended it
pub put_done : (s : Server) (before now : Told) (n : Names) (key : KeyView) (left : ℕ) (j : Json) (k : CodeKind) → 0 < left
    → PutMade s before now n key j (Ok (put.Done k)) → BackMade s before now n key left j (kind (kind_of k))
put_done s before now n key zero j k some m = absurd (omega (arith, some))
put_done s before now n key (suc left) j k some m = (m.0, m.1, m.2 left)

pub put_failed : (s : Server) (before now : Told) (n : Names) (key : KeyView) (left : ℕ) (j : Json) (f : FarFault) → 0 < left
    → PutMade s before now n key j (Err f) → BackMade s before now n key left j (fault (fault_of f))
put_failed s before now n key zero j f some m = absurd (omega (arith, some))
put_failed s before now n key (suc left) j f some m = (m.0, m.1, m.2 left)

-- it was the last one, and was refused since the object had changed
pub put_contested : (s : Server) (before now : Told) (n : Names) (key : KeyView) (left : ℕ) (j : Json) → left ≡ 1
    → PutMade s before now n key j (Ok put.Conflict) → BackMade s before now n key left j (kind contested)
put_contested s before now n key left j one m = rw one (m.0, m.1, by_one m.0 m.2)
  where
    by_one : (es : List Exchange) → IsOne n (puts key j) (code conflict) es → PutBack n key 1 j es (kind contested)
    by_one es o = subst (λ (xs : List Exchange). PutBack n key 1 j xs (kind contested)) (sym o.only) (back.last j o.e o.did)

-- another one may follow
abbrev pub Refuses : Server → Told → Told → Names → KeyView → Json → Type 0
Refuses s before mid n key j = PutMade s before mid n key j (Ok put.Conflict)

two_of : (s : Server) (before mid now : Told) (n : Names) (call : Call) (r : Reply) (es fs : List Exchange) (o : IsOne n call r es) → Made s before mid es → Made s mid now fs
    → Made s before now (o.e ∷ fs)
two_of s before mid now n call r es fs o first second = made_more s before mid now (o.e ∷ []) fs (subst (λ (xs : List Exchange). Made s before mid xs) o.only first) second

-- nothing is there any more
pub got_gone : (s : Server) (before mid now : Told) (n : Names) (key : KeyView) (left : ℕ) (j : Json) → 1 < left → Refuses s before mid n key j
    → GetMade s mid now n key (Ok got.Gone) → BackMade s before now n key left j (kind gone)
got_gone s before mid now n key zero j some p g = absurd (omega (arith, some))
got_gone s before mid now n key (suc zero) j some p g = absurd (omega (arith, some))
got_gone s before mid now n key (suc (suc left)) j some p g = by_ones p.0 g.0 p.1 g.1 p.2 g.2
  where
    by_ones : (es fs : List Exchange) → Made s before mid es → Made s mid now fs → IsOne n (puts key j) (code conflict) es → IsOne n (gets key) gone_reply fs
        → BackMade s before now n key (suc (suc left)) j (kind gone)
    by_ones es fs first second o q = (
      o.e ∷ q.e ∷ [],
      two_of s before mid now n (puts key j) (code conflict) es (q.e ∷ []) o first (subst (λ (xs : List Exchange). Made s mid now xs) q.only second),
      back.lost left j o.e q.e o.did q.did,
    )

-- the get failed
pub got_failed : (s : Server) (before mid now : Told) (n : Names) (key : KeyView) (left : ℕ) (j : Json) (f : FarFault) → 1 < left → Refuses s before mid n key j
    → GetMade s mid now n key (Err f) → BackMade s before now n key left j (fault (fault_of f))
got_failed s before mid now n key zero j f some p g = absurd (omega (arith, some))
got_failed s before mid now n key (suc zero) j f some p g = absurd (omega (arith, some))
got_failed s before mid now n key (suc (suc left)) j f some p g = by_one p.0 p.1 p.2
  where
    by_one : (es : List Exchange) → Made s before mid es → IsOne n (puts key j) (code conflict) es → BackMade s before now n key (suc (suc left)) j (fault (fault_of f))
    by_one es first o = (o.e ∷ g.0, two_of s before mid now n (puts key j) (code conflict) es g.0 o first g.1, g.2 left j o.e o.did)

-- the object that it gave is put
pub put_again : (s : Server) (before mid found now : Told) (n : Names) (key : KeyView) (left : ℕ) (j k : Json) (o : Outcome) (v : JVal) → 1 < left → json v ≡ k → Refuses s before mid n key j
    → GetMade s mid found n key (Ok (got.Found v)) → BackMade s found now n key (left - 1) k o → BackMade s before now n key left j o
put_again s before mid found now n key zero j k r v some is p g h = absurd (omega (arith, some))
put_again s before mid found now n key (suc zero) j k r v some is p g h = absurd (omega (arith, some))
put_again s before mid found now n key (suc (suc left)) j k r v some is p g h = by_ones p.0 g.0 p.1 g.1 p.2 g.2
  where
    by_ones : (es fs : List Exchange) → Made s before mid es → Made s mid found fs → IsOne n (puts key j) (code conflict) es → IsOne n (gets key) (given (json v)) fs
        → BackMade s before now n key (suc (suc left)) j r
    by_ones es fs first second o q = (
      o.e ∷ q.e ∷ h.0,
      two_of s before mid now n (puts key j) (code conflict) es (q.e ∷ h.0) o first (two_of s mid found now n (gets key) (given (json v)) fs h.0 q second h.1),
      back.again left j k o.e q.e h.0 r o.did (subst (λ (i : Json). Did n (gets key) q.e (given i)) is q.did)
          (let less : suc (suc left) - 1 ≡ suc left = omega arith in subst (λ (m : ℕ). PutBack n key m k h.0 r) less h.2),
    )
