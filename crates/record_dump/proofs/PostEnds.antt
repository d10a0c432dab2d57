-- One post, and what a line comes to.
use Rattle.std.proofs.Common.{◌≡◌, ℕ, List, Result, Ok, Err, IfErr, sym, subst}
use Rattle.kj_value.specs.Json.{Json}
use Rattle.place.specs.Place.{Names}
use Rattle.wire_client.specs.Far.{Server, Told}
use Rattle.wire_client.specs.laws.FarLaws.{made_nothing}
use Rattle.wire_client.specs.Calls.{posts}
use Rattle.wire_client.specs.Answers.{Reply, given, broken, long, gone, code, shape}
use Rattle.wire_client.specs.Forms.{fields_of, key_in}
use Rattle.wire_client.specs.Ends.{Came, Ended, OnLinkFault}
use Rattle.wire_client.specs.declared.end.WireEnd.{WireEnd}
use Rattle.wire_client.specs.declared.end.WireEnd.TheVariants as wire
use Rattle.record_dump.specs.Restores.{post_of}
use Rattle.record_dump.specs.inner.Posted as made
use Rattle.record_dump.specs.inner.Posted.{IsRead, PostReply, PostEnds, PostMade, LineMade, OnLink}
use Rattle.record_dump.specs.declared.posting.Posted.{Posted}
use Rattle.record_dump.specs.declared.posting.Posted.TheVariants as posted
use Rattle.record_dump.specs.declared.posting.Unposted.{Unposted}
use Rattle.record_dump.specs.declared.posting.Unposted.TheVariants as unposted

-- ---- a post to the namespace that the object tells, which is lent

pub post_created : (s : Server) (before now : Told) (n : Names) (ns : List ℕ) (j k : Json) → ns ≡ (key_in (fields_of j)).ns → Came s before now n (posts ns j) (given k)
    → PostMade s before now n j (Ok posted.Created)
post_created s before now n ns j k is c = (k, subst (λ (x : List ℕ). Came s before now n (posts x j) (given k)) is c)

post_by_reply : (s : Server) (before now : Told) (n : Names) (j : Json) (r : Reply) (x : Result Posted Unposted) → Came s before now n (post_of j) r → PostReply r x → PostMade s before now n j x
post_by_reply s before now n j r (Ok posted.Created) c is = absurd is
post_by_reply s before now n j r (Ok posted.Present) c is = subst (λ (q : Reply). Came s before now n (post_of j) q) is c
post_by_reply s before now n j r (Err unposted.Bad) c is = absurd is
post_by_reply s before now n j r (Err unposted.Link) c is = subst (λ (q : Reply). Came s before now n (post_of j) q) is c
post_by_reply s before now n j r (Err (unposted.Answer d)) c is = (r, c, is)
post_by_reply s before now n j r (Err unposted.NoMemory) c is = absurd is

post_by_end : (s : Server) (before now : Told) (n : Names) (j : Json) (end : WireEnd) (x : Result Posted Unposted) → Ended s before now n (post_of j) end → PostEnds end x
    → PostMade s before now n j x
post_by_end s before now n j wire.LinkFault x c is = post_by_reply s before now n j broken x c is
post_by_end s before now n j wire.TooLong x c is = post_by_reply s before now n j long x c is
post_by_end s before now n j wire.Gone x c is = post_by_reply s before now n j gone x c is
post_by_end s before now n j (wire.Code d) x c is = post_by_reply s before now n j (code d) x c is
post_by_end s before now n j (wire.Shape path) x c is = post_by_reply s before now n j (shape path.bytes) x c is
post_by_end s before now n j wire.NoMemory x c is = subst (λ (y : Result Posted Unposted). PostMade s before now n j y) (sym is) c

pub post_ended : (s : Server) (before now : Told) (n : Names) (ns : List ℕ) (j : Json) (end : WireEnd) (x : Result Posted Unposted) → ns ≡ (key_in (fields_of j)).ns
    → Ended s before now n (posts ns j) end → PostEnds end x → PostMade s before now n j x
post_ended s before now n ns j end x is c ends = post_by_end s before now n j end x (subst (λ (y : List ℕ). Ended s before now n (posts y j) end) is c) ends

-- ---- causes

not_broken : (P : Type 0) (r : Reply) (x : Result Posted Unposted) → (r ≡ broken → P) → PostReply r x → IfErr x (OnLink P)
not_broken P r (Ok p) why is = tt
not_broken P r (Err unposted.Bad) why is = tt
not_broken P r (Err unposted.Link) why is = why is
not_broken P r (Err (unposted.Answer d)) why is = tt
not_broken P r (Err unposted.NoMemory) why is = tt

pub post_cause : (P : Type 0) (end : WireEnd) (x : Result Posted Unposted) → OnLinkFault P end → PostEnds end x → IfErr x (OnLink P)
post_cause P wire.LinkFault x why is = not_broken P broken x (λ same. why) is
post_cause P wire.TooLong x why is = not_broken P long x (λ same. absurd (cc)) is
post_cause P wire.Gone x why is = not_broken P gone x (λ same. absurd (cc)) is
post_cause P (wire.Code d) x why is = not_broken P (code d) x (λ same. absurd (cc)) is
post_cause P (wire.Shape path) x why is = not_broken P (shape path.bytes) x (λ same. absurd (cc)) is
post_cause P wire.NoMemory x why is = subst (λ (y : Result Posted Unposted). IfErr y (OnLink P)) (sym is) tt

-- ---- a line that wasn't posted

pub line_unread : (s : Server) (before : Told) (n : Names) (line : List ℕ) (u : Unposted) → IsRead n line (Err u) → LineMade s before before n line (Err u)
line_unread s before n line unposted.Bad is = made.bad is (made_nothing s before)
line_unread s before n line unposted.Link is = absurd is
line_unread s before n line (unposted.Answer d) is = absurd is
line_unread s before n line unposted.NoMemory is = made.starved (made_nothing s before)

pub unread_cause : (P : Type 0) (n : Names) (line : List ℕ) (u : Unposted) → IsRead n line (Err u) → OnLink P u
unread_cause P n line unposted.Bad is = tt
unread_cause P n line unposted.Link is = absurd is
unread_cause P n line (unposted.Answer d) is = tt
unread_cause P n line unposted.NoMemory is = tt
