-- A restoring that is done posted each line.
use Rattle.std.proofs.Common.{◌≡◌, ◌+◌, ℕ, List, [], ◌∷◌, ◌++◌, refl, ap, subst, arith}
use Rattle.edge_io.specs.Exchanges.{Exchange}
use Rattle.place.specs.Place.{Names}
use Rattle.wire_client.specs.Answers.{Reply, given, broken, long, gone, code, shape}
use Rattle.record_dump.specs.Lines.{ended}
use Rattle.record_dump.specs.Restores as restores
use Rattle.record_dump.specs.Restores.{Restores, none_yet, FailsPost, next_line}
use Rattle.record_dump.specs.Told as told
use Rattle.record_dump.specs.Told.{joined, Posts, IsPosted}
use Rattle.record_dump.specs.declared.ends.RestoreEnd.{RestoreEnd}
use Rattle.record_dump.specs.declared.ends.RestoreEnd.TheVariants as ends

record Rest (n : Names) (t : restores.Counts) (bytes : List ℕ) (es : List Exchange) (c p : ℕ) : Type 0 where
  lines : List (List ℕ)
  input : bytes ≡ joined lines
  created : ℕ
  present : ℕ
  posts : Posts n lines es created present
  c_is : c ≡ t.created + created
  p_is : p ≡ t.present + present

no_done : (i : ℕ) (r : Reply) (c p : ℕ) → FailsPost i r (ends.Done c p) → ⊥
no_done i (given j) c p f = f
no_done i broken c p f = cc
no_done i long c p f = cc
no_done i gone c p f = cc
no_done i (code d) c p f = let same = f.1 in cc
no_done i (shape path) c p f = cc

posted_from : (n : Names) (t : restores.Counts) (bytes : List ℕ) (es : List Exchange) (d : RestoreEnd) (c p : ℕ) → d ≡ ends.Done c p → Restores n t bytes es d → Rest n t bytes es c p
posted_from n _ _ _ _ c p is (restores.done t) =
    let same_c : t.created ≡ c = cc in
    let same_p : t.present ≡ p = cc in
    record { lines = []; input = refl; created = 0; present = 0; posts = told.none; c_is = omega (arith, same_c); p_is = omega (arith, same_p) }
posted_from n _ _ _ _ c p is (restores.created t line rest j k e es d few is_line says did more) =
    let r = posted_from n (record t { created = t.created + 1 }) rest es d c p is more in
    record {
      lines = line ∷ r.lines;
      input = ap (λ (bs : List ℕ). ended line ++ bs) r.input;
      created = r.created + 1;
      present = r.present;
      posts = told.created line r.lines j k e es r.created r.present is_line says did r.posts;
      c_is = omega (arith, r.c_is);
      p_is = r.p_is;
    }
posted_from n _ _ _ _ c p is (restores.present t line rest j e es d few is_line says did more) =
    let r = posted_from n (record t { present = t.present + 1 }) rest es d c p is more in
    record {
      lines = line ∷ r.lines;
      input = ap (λ (bs : List ℕ). ended line ++ bs) r.input;
      created = r.created;
      present = r.present + 1;
      posts = told.present line r.lines j e es r.created r.present is_line says did r.posts;
      c_is = r.c_is;
      p_is = omega (arith, r.p_is);
    }
posted_from n _ _ _ _ c p is (restores.fails t line rest j e r d few is_line says did fails) = absurd (no_done (next_line t) r c p (subst (λ (x : RestoreEnd). FailsPost (next_line t) r x) is fails))
posted_from n _ _ _ _ c p is (restores.bad t line rest few is_line unsaid) = absurd (cc)
posted_from n _ _ _ _ c p is (restores.too_long t front rest few inside past) = absurd (cc)
posted_from n _ _ _ _ c p is (restores.cut t front few some is_line) = absurd (cc)
posted_from n _ _ _ _ c p is (restores.too_many t rest many some) = absurd (cc)
posted_from n _ _ _ _ c p is (restores.unread t rest) = absurd (cc)
posted_from n _ _ _ _ c p is (restores.starved t rest) = absurd (cc)
posted_from n _ _ _ _ c p is (restores.unknown t line rest j e few is_line says asked) = absurd (cc)

pub posted : (n : Names) (bytes : List ℕ) (es : List Exchange) (c p : ℕ) → Restores n none_yet bytes es (ends.Done c p) → IsPosted n bytes es c p
posted n bytes es c p restored =
    let r = posted_from n none_yet bytes es (ends.Done c p) c p refl restored in
    let c_is : r.created ≡ c = omega (arith, r.c_is) in
    let p_is : r.present ≡ p = omega (arith, r.p_is) in
    record {
      lines = r.lines;
      input = r.input;
      posts = subst (λ (k : ℕ). Posts n r.lines es k p) c_is (subst (λ (k : ℕ). Posts n r.lines es r.created k) p_is r.posts);
    }
