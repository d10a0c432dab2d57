-- How a dump goes on: whatever follows from here follows from the start.
use Rattle.std.proofs.Common.{◌≡◌, ℕ, List, [], ◌++◌, Option, sym, append_assoc, subst}
use Rattle.std.specs.Io.KnownBytes.{append_known}
use Rattle.edge_io.specs.Exchanges.{Exchange}
use Rattle.edge_io.specs.laws.Sending.{known_nil, added_both}
use Rattle.place.specs.Place.{Names}
use Rattle.wire_client.specs.Far.{Server, Told, Made}
use Rattle.wire_client.specs.laws.FarLaws.{made_nothing, made_more}
use Rattle.record_dump.specs.Dumps as dumps
use Rattle.record_dump.specs.Dumps.{Dumps}
use Rattle.record_dump.specs.inner.Seen.{walk_of, Leads}
use Rattle.record_dump.specs.declared.ends.DumpEnd.{DumpEnd}
use Rattle.record_dump.specs.declared.dumping.Turned.TheVariants as turned
use Rattle.record_dump.specs.declared.walk.Walk.{Walk}
use Rattle.record_dump.proofs.Listing.{TurnMade}

-- these exchanges were made and these bytes written, and the dump stands there
abbrev pub Goes : Server → Told → Told → Names → dumps.Walk → dumps.Walk → Option (List ℕ) → Option (List ℕ) → Type 0
Goes s before now n a b old new = (es : List Exchange) × Made s before now es × (w : List ℕ) × (new ≡ append_known old w) × Leads n a es w b

abbrev pub Ends : Server → Told → Told → Names → dumps.Walk → Option (List ℕ) → Option (List ℕ) → DumpEnd → Type 0
Ends s before now n a old new d = (es : List Exchange) × Made s before now es × (w : List ℕ) × (new ≡ append_known old w) × Dumps n a es w d

pub goes_start : (s : Server) (before : Told) (n : Names) (a b : dumps.Walk) (old : Option (List ℕ)) → b ≡ a → Goes s before before n a b old old
goes_start s before n a b old is = ([], made_nothing s before, [], known_nil old, λ fs v d h. subst (λ (x : dumps.Walk). Dumps n x fs v d) is h)

pub goes_more : (s : Server) (before mid now : Told) (n : Names) (a : dumps.Walk) (b c : Walk) (old half new : Option (List ℕ)) → Goes s before mid n a (walk_of b) old half
    → TurnMade s mid now n b c half new turned.More → Goes s before now n a (walk_of c) old new
goes_more s before mid now n a b c old half new p q = by_parts p.0 p.1 p.2 p.3 p.4 q.0 q.1 q.2 q.3 q.4.0
  where
    by_parts : (es : List Exchange) → Made s before mid es → (w : List ℕ) → half ≡ append_known old w → Leads n a es w (walk_of b)
        → (gs : List Exchange) → Made s mid now gs → (u : List ℕ) → new ≡ append_known half u → Leads n (walk_of b) gs u (walk_of c) → Goes s before now n a (walk_of c) old new
    by_parts es made w wrote first gs made_too u wrote_too second = (
      es ++ gs,
      made_more s before mid now es gs made made_too,
      w ++ u,
      added_both old half new w u wrote wrote_too,
      λ fs v d h.
          subst (λ (xs : List Exchange). Dumps n a xs ((w ++ u) ++ v) d) (sym (append_assoc es gs fs))
          (subst (λ (bs : List ℕ). Dumps n a (es ++ (gs ++ fs)) bs d) (sym (append_assoc w u v)) (first (gs ++ fs) (u ++ v) d (second fs v d h))),
    )

pub goes_end : (s : Server) (before mid now : Told) (n : Names) (a : dumps.Walk) (b c : Walk) (old half new : Option (List ℕ)) (d : DumpEnd) → Goes s before mid n a (walk_of b) old half
    → TurnMade s mid now n b c half new (turned.Ended d) → Ends s before now n a old new d
goes_end s before mid now n a b c old half new d p q = by_parts p.0 p.1 p.2 p.3 p.4 q.0 q.1 q.2 q.3 q.4
  where
    by_parts : (es : List Exchange) → Made s before mid es → (w : List ℕ) → half ≡ append_known old w → Leads n a es w (walk_of b)
        → (gs : List Exchange) → Made s mid now gs → (u : List ℕ) → new ≡ append_known half u → Dumps n (walk_of b) gs u d → Ends s before now n a old new d
    by_parts es made w wrote first gs made_too u wrote_too second = (
      es ++ gs,
      made_more s before mid now es gs made made_too,
      w ++ u,
      added_both old half new w u wrote wrote_too,
      first gs u d second,
    )
