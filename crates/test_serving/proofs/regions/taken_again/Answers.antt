use Rattle.std.proofs.Common.{◌≡◌, ◌≢◌, ◌<◌, ℕ, List, Option, Some, None, length, set, subst, sym, refl, ◌∙◌}
use Rattle.record_region.specs.Places.{Places, IsLive, piece_at}
use Rattle.record_region.specs.laws.Laws.{unused_apart, live-put, live-set_other}
use Rattle.test_serving.proofs.regions.taken_again.Goals as goal

put_live : (before now : Places) (chunk : ℕ) (bytes : List ℕ) → now ≡ set before chunk (Some bytes) → chunk < length before → IsLive now chunk
put_live before now chunk bytes e within = subst (λ (p : Places). IsLive p chunk) (sym e) (live-put before chunk bytes within)

stays_live : (before now : Places) (chunk other : ℕ) (piece : Option (List ℕ)) → now ≡ set before chunk piece → other ≢ chunk → IsLive before other → IsLive now other
stays_live before now chunk other piece e apart live = subst (λ (p : Places). IsLive p other) (sym e) (live-set_other before chunk other piece apart live)

-- three pieces that were put, and two of them freed, the second first
record AreLive (all freed less : Places) (first second third : ℕ) : Type 0 where
  pub second_all : IsLive all second
  pub third_all : IsLive all third
  pub first_freed : IsLive freed first
  pub third_less : IsLive less third

are_live : (none one two all freed less : Places) (first second third : ℕ) (a b c : List ℕ) → one ≡ set none first (Some a) → first < length none → two ≡ set one second (Some b) → second < length one → piece_at one second ≡ None → all ≡ set two third (Some c) → third < length two → piece_at two third ≡ None → freed ≡ set all second None → less ≡ set freed first None → AreLive all freed less first second third
are_live none one two all freed less first second third a b c e1 w1 e2 w2 u2 e3 w3 u3 e4 e5 =
    let first_one : IsLive one first = put_live none one first a e1 w1 in
    let first_second : first ≢ second = unused_apart one second first u2 first_one in
    let second_two : IsLive two second = put_live one two second b e2 w2 in
    let first_two : IsLive two first = stays_live one two second first (Some b) e2 first_second first_one in
    let second_third : second ≢ third = unused_apart two third second u3 second_two in
    let first_third : first ≢ third = unused_apart two third first u3 first_two in
    let third_all : IsLive all third = put_live two all third c e3 w3 in
    let second_all : IsLive all second = stays_live two all third second (Some c) e3 second_third second_two in
    let first_all : IsLive all first = stays_live two all third first (Some c) e3 first_third first_two in
    let first_freed : IsLive freed first = stays_live all freed second first None e4 first_second first_all in
    let third_freed : IsLive freed third = stays_live all freed second third None e4 (λ q. second_third (sym q)) third_all in
    record {
      second_all = second_all;
      third_all = third_all;
      first_freed = first_freed;
      third_less = stays_live freed less first third None e5 (λ q. first_third (sym q)) third_freed;
    }

pub reads-one-requires : goal.reads-one-requires
reads-one-requires c =
    let l = are_live c.in-Some.region c.taken.new.region c.taken-2.new.region c.refused.new.region (set {A = Option (List ℕ)} c.refused.new.region c.in-Some-taken-2.second None) (set {A = Option (List ℕ)} (set {A = Option (List ℕ)} c.refused.new.region c.in-Some-taken-2.second None) c.in-Some-taken.first None) c.in-Some-taken.first c.in-Some-taken-2.second c.in-Some-taken-3.third _ _ _ c.in-Some-taken.ensures.put c.in-Some-taken.ensures.within c.in-Some-taken-2.ensures.put c.in-Some-taken-2.ensures.within c.in-Some-taken-2.ensures.unused (c.if-not-refused.ensures refl ∙ c.in-Some-taken-3.ensures.put) c.in-Some-taken-3.ensures.within c.in-Some-taken-3.ensures.unused refl refl in
    l.third_all

pub free-requires : goal.free-requires
free-requires c =
    let l = are_live c.in-Some.region c.taken.new.region c.taken-2.new.region c.refused.new.region (set {A = Option (List ℕ)} c.refused.new.region c.in-Some-taken-2.second None) (set {A = Option (List ℕ)} (set {A = Option (List ℕ)} c.refused.new.region c.in-Some-taken-2.second None) c.in-Some-taken.first None) c.in-Some-taken.first c.in-Some-taken-2.second c.in-Some-taken-3.third _ _ _ c.in-Some-taken.ensures.put c.in-Some-taken.ensures.within c.in-Some-taken-2.ensures.put c.in-Some-taken-2.ensures.within c.in-Some-taken-2.ensures.unused (c.if-not-refused.ensures refl ∙ c.in-Some-taken-3.ensures.put) c.in-Some-taken-3.ensures.within c.in-Some-taken-3.ensures.unused refl refl in
    record { live = l.second_all }

pub reads-two-requires : goal.reads-two-requires
reads-two-requires c =
    let l = are_live c.in-Some.region c.taken.new.region c.taken-2.new.region c.refused.new.region c.free.new.self (set {A = Option (List ℕ)} c.free.new.self c.in-Some-taken.first None) c.in-Some-taken.first c.in-Some-taken-2.second c.in-Some-taken-3.third _ _ _ c.in-Some-taken.ensures.put c.in-Some-taken.ensures.within c.in-Some-taken-2.ensures.put c.in-Some-taken-2.ensures.within c.in-Some-taken-2.ensures.unused (c.if-not-refused.ensures refl ∙ c.in-Some-taken-3.ensures.put) c.in-Some-taken-3.ensures.within c.in-Some-taken-3.ensures.unused c.free.ensures refl in
    l.first_freed

pub free-requires-2 : goal.free-requires-2
free-requires-2 c =
    let l = are_live c.in-Some.region c.taken.new.region c.taken-2.new.region c.refused.new.region c.free.new.self (set {A = Option (List ℕ)} c.free.new.self c.in-Some-taken.first None) c.in-Some-taken.first c.in-Some-taken-2.second c.in-Some-taken-3.third _ _ _ c.in-Some-taken.ensures.put c.in-Some-taken.ensures.within c.in-Some-taken-2.ensures.put c.in-Some-taken-2.ensures.within c.in-Some-taken-2.ensures.unused (c.if-not-refused.ensures refl ∙ c.in-Some-taken-3.ensures.put) c.in-Some-taken-3.ensures.within c.in-Some-taken-3.ensures.unused c.free.ensures refl in
    record { live = l.first_freed }

pub reads-three-requires : goal.reads-three-requires
reads-three-requires c =
    let l = are_live c.in-Some.region c.taken.new.region c.taken-2.new.region c.refused.new.region c.free.new.self c.free-2.new.self c.in-Some-taken.first c.in-Some-taken-2.second c.in-Some-taken-3.third _ _ _ c.in-Some-taken.ensures.put c.in-Some-taken.ensures.within c.in-Some-taken-2.ensures.put c.in-Some-taken-2.ensures.within c.in-Some-taken-2.ensures.unused (c.if-not-refused.ensures refl ∙ c.in-Some-taken-3.ensures.put) c.in-Some-taken-3.ensures.within c.in-Some-taken-3.ensures.unused c.free.ensures c.free-2.ensures in
    l.third_less

pub free-requires-3 : goal.free-requires-3
free-requires-3 c =
    let l = are_live c.in-Some.region c.taken.new.region c.taken-2.new.region c.refused.new.region c.free.new.self c.free-2.new.self c.in-Some-taken.first c.in-Some-taken-2.second c.in-Some-taken-3.third _ _ _ c.in-Some-taken.ensures.put c.in-Some-taken.ensures.within c.in-Some-taken-2.ensures.put c.in-Some-taken-2.ensures.within c.in-Some-taken-2.ensures.unused (c.if-not-refused.ensures refl ∙ c.in-Some-taken-3.ensures.put) c.in-Some-taken-3.ensures.within c.in-Some-taken-3.ensures.unused c.free.ensures c.free-2.ensures in
    record { live = l.third_less }
