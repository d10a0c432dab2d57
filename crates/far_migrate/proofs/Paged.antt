-- A list that gave no page, and what it adds to the exchanges of a migration.
use Rattle.std.proofs.Common.{◌≡◌, ◌⊎◌, ℕ, List, [], ◌∷◌, Some, refl, sym, inl, inr, subst}
use Rattle.edge_io.specs.Exchanges.{Exchange}
use Rattle.place.specs.Place.{Names}
use Rattle.wire_client.specs.Far.{Server, Told, Made}
use Rattle.wire_client.specs.Calls.{lists}
use Rattle.wire_client.specs.Answers.{Reply, broken, long, gone as gone_reply, code, shape}
use Rattle.wire_client.specs.Ends.{Came, Lacked, Ended, exchange_of}
use Rattle.wire_client.specs.declared.end.WireEnd.{WireEnd}
use Rattle.wire_client.specs.declared.end.WireEnd.TheVariants as wire
use Rattle.far_migrate.specs.Answered.{expired}
use Rattle.far_migrate.specs.Counts.{fault_of}
use Rattle.far_migrate.specs.inner.Ends.{ListReply, ListEnds, IsOne}
use Rattle.far_migrate.specs.Puts.{failed}
use Rattle.far_migrate.specs.Pages as pages
use Rattle.far_migrate.specs.Pages.{Stop}
use Rattle.far_migrate.specs.declared.tally.FarFault.TheVariants as faults
use Rattle.far_migrate.specs.declared.ending.Unlisted.{Unlisted}
use Rattle.far_migrate.specs.declared.ending.Unlisted.TheVariants as unlisted
use Rattle.far_migrate.proofs.OnePut.{did_of, one_of}

-- what a list that gave no page adds
abbrev pub ByList : Names → pages.Run → List Exchange → Unlisted → Type 0
ByList n a es unlisted.TooLong = IsOne n (lists a.limit a.token) long es
ByList n a es unlisted.Expired = IsOne n (lists a.limit a.token) (code expired) es
ByList n a es (unlisted.Fault f) = Stop n a es (failed (fault_of f))

-- a list that gave no page was asked for, and this is what it adds
pub record ListMade (s : Server) (before now : Told) (n : Names) (a : pages.Run) (x : Unlisted) : Type 0 where
  pub es : List Exchange
  pub made : Made s before now es
  pub adds : ByList n a es x

list_by_reply : (s : Server) (before now : Told) (n : Names) (a : pages.Run) (r : Reply) (x : Unlisted) → Came s before now n (lists a.limit a.token) r → ListReply x r
    → ListMade s before now n a x
list_by_reply s before now n a r unlisted.TooLong c is = record {
  es = exchange_of n (lists a.limit a.token) c.answer ∷ [];
  made = c.made;
  adds = one_of s before now n (lists a.limit a.token) r long c is;
}
list_by_reply s before now n a r unlisted.Expired c is = record {
  es = exchange_of n (lists a.limit a.token) c.answer ∷ [];
  made = c.made;
  adds = one_of s before now n (lists a.limit a.token) r (code expired) c is;
}
list_by_reply s before now n a r (unlisted.Fault f) c fails = record {
  es = exchange_of n (lists a.limit a.token) c.answer ∷ [];
  made = c.made;
  adds = pages.list_fails _ r (fault_of f) (did_of s before now n (lists a.limit a.token) r c) fails;
}

list_starved : (s : Server) (before now : Told) (n : Names) (a : pages.Run) → Lacked s before now n (lists a.limit a.token) → ListMade s before now n a (unlisted.Fault faults.NoMemory)
list_starved s before now n a l = by_made l.made
  where
    by_made : (Made s before now []) ⊎ ((bytes : List ℕ) × Made s before now (exchange_of n (lists a.limit a.token) (Some bytes) ∷ [])) → ListMade s before now n a (unlisted.Fault faults.NoMemory)
    by_made (inl made) = record { es = []; made = made; adds = pages.unlisted }
    by_made (inr answered) = record { es = exchange_of n (lists a.limit a.token) (Some answered.0) ∷ []; made = answered.1; adds = pages.unread _ refl }

pub list_ended : (s : Server) (before now : Told) (n : Names) (a : pages.Run) (end : WireEnd) (x : Unlisted) → Ended s before now n (lists a.limit a.token) end → ListEnds end x
    → ListMade s before now n a x
list_ended s before now n a wire.LinkFault x c is = list_by_reply s before now n a broken x c is
list_ended s before now n a wire.TooLong x c is = list_by_reply s before now n a long x c is
list_ended s before now n a wire.Gone x c is = list_by_reply s before now n a gone_reply x c is
list_ended s before now n a (wire.Code d) x c is = list_by_reply s before now n a (code d) x c is
list_ended s before now n a (wire.Shape path) x c is = list_by_reply s before now n a (shape path.bytes) x c is
list_ended s before now n a wire.NoMemory x c is =
    subst (λ (y : Unlisted). ListMade s before now n a y) (sym is) (list_starved s before now n a c)

-- the same where the token is lent
pub list_ended_at : (s : Server) (before now : Told) (n : Names) (a : pages.Run) (token : List ℕ) (end : WireEnd) (x : Unlisted) → token ≡ a.token
    → Ended s before now n (lists a.limit token) end → ListEnds end x → ListMade s before now n a x
list_ended_at s before now n a token end x is c ends = list_ended s before now n a end x (subst (λ (t : List ℕ). Ended s before now n (lists a.limit t) end) is c) ends
