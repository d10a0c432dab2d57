-- A store of which nothing is used yet.
use Rattle.std.proofs.Common.{◌≡◌, ℕ, zero, suc, ◌+◌, ◌<◌, ◌^◌, List, [], length, Option, None, ap, refl, sym, arith}
use Rattle.std.specs.Prelude.{replicate}
use Rattle.kube_meta.specs.laws.WindowLaws.{newest-fits}
use Rattle.kube_meta.specs.declared.limits.Limits.{Limits}
use Rattle.record_region.specs.Places.{piece_at, used}
use Rattle.record_store.specs.Held.{pieces_in}
use Rattle.record_store.specs.Pasts.{past_by, past_weight}
use Rattle.record_store.specs.Inside.{IsSoundStore}

none_at : (n chunk : ℕ) → piece_at (replicate n None) chunk ≡ None
none_at zero chunk = refl
none_at (suc n) zero = refl
none_at (suc n) (suc chunk) = none_at n chunk

none_used : (n : ℕ) → used (replicate n None) ≡ 0
none_used zero = refl
none_used (suc n) = let e = none_used n in omega (arith, e)

as_many : (n : ℕ) → length {A = Option (List ℕ)} (replicate n None) ≡ n
as_many zero = refl
as_many (suc n) = ap suc (as_many n)

pub opened : (limits : Limits) → limits.chunks + limits.window_chunks < 2 ^ 32
    → IsSoundStore limits (record { room = limits.objects; rows = [] }) (record { limits = limits; items = []; floor = 1 }) (replicate (limits.chunks + limits.window_chunks) None) 0 0
opened limits small =
    let n = limits.chunks + limits.window_chunks in
    record {
      shares = record {
        owned = λ chunk. sym (ap pieces_in (none_at n chunk));
        kept = tt;
        past_kept = tt;
        counted = none_used n;
      };
      small = small;
      room = refl;
      window_limits = refl;
      size = as_many n;
      lives = refl;
      light = omega arith;
      window_fits = newest-fits past_by past_weight limits [];
      window_order = tt;
      dated = tt;
      past = tt;
      floor = omega arith;
    }
