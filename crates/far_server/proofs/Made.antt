-- From the exchanges that were made to the history between two times.
use Rattle.std.proofs.Common.{◌≡◌, ◌∙◌, ℕ, refl, sym, subst, List, Some, Result, Ok, Err}
use Rattle.std.specs.Prelude.{IfOk}
use Rattle.edge_io.specs.Exchanges.{Exchange}
use Rattle.api_calls.specs.Item.{Item}
use Rattle.wire_client.specs.Far.{Chain, Made, Server, Told}
use Rattle.record_dump.specs.declared.ends.DumpEnd.{DumpEnd}
use Rattle.record_dump.specs.declared.ends.DumpEnd.TheVariants as ends
use Rattle.far_server.specs.Ends.{IfDone}

some_one : (a b : List Item) → Some a ≡ Some b → a ≡ b
some_one a b e = cc

pub chain_of : (s : Server) (before now : Told) (first last : List Item) (es : List Exchange) → before.log ≡ Some first → now.log ≡ Some last → Made s before now es → Chain s first es last
chain_of s before now first last es was is made =
    let c = made.chain first was in
    subst (λ (l : List Item). Chain s first es l) (some_one c.0 last (sym c.1 ∙ is)) c.2

-- where there is an answer
pub where_ok : {A E : Type 0} (r : Result A E) (P : A → Type 0) → ((a : A) → r ≡ Ok a → P a) → IfOk r P
where_ok (Ok a) P f = f a refl
where_ok (Err e) P f = tt

-- where all was written
pub where_done : (d : DumpEnd) (P : ℕ → Type 0) → ((k : ℕ) → d ≡ ends.Done k → P k) → IfDone d P
where_done (ends.Done k) P f = f k refl
where_done ends.LinkFault P f = tt
where_done ends.WriteFault P f = tt
where_done (ends.Answer c) P f = tt
where_done ends.Expired P f = tt
where_done ends.NoMemory P f = tt
