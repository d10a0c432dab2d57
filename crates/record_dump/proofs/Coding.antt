-- An answer with a code comes of the last exchange.
use Rattle.std.proofs.Common.{◌≡◌, ◌≢◌, ◌+◌, ◌/◌, ℕ, List, [], ◌∷◌, refl, sym, subst}
use Rattle.edge_io.specs.Exchanges.{Exchange}
use Rattle.place.specs.Place.{Names}
use Rattle.wire_client.specs.Answers.{Reply, given, broken, long, gone, code, shape}
use Rattle.far_migrate.specs.Answered.{expired}
use Rattle.far_migrate.specs.Told.{EndsWithCode}
use Rattle.far_migrate.specs.laws.Codes.{Tells, told_code, ends_later}
use Rattle.record_dump.specs.Dumps as dumps
use Rattle.record_dump.specs.Dumps.{Walk, Dumps, FailsList, IsUnwritten}
use Rattle.record_dump.specs.Restores as restores
use Rattle.record_dump.specs.Restores.{Restores, FailsPost, next_line}
use Rattle.record_dump.specs.declared.ends.DumpEnd.{DumpEnd}
use Rattle.record_dump.specs.declared.ends.DumpEnd.TheVariants as ends
use Rattle.record_dump.specs.declared.ends.RestoreEnd.{RestoreEnd}
use Rattle.record_dump.specs.declared.ends.RestoreEnd.TheVariants as restored

-- ---- a dump

list_tells : (c : ℕ) (r : Reply) → c ≢ 0 → FailsList r (ends.Answer c) → Tells c r
list_tells c (given j) some h = absurd h
list_tells c broken some h = absurd (cc)
list_tells c long some h = absurd h
list_tells c gone some h = cc
list_tells c (code d) some h = let e = h.1 in cc
list_tells c (shape path) some h = absurd (some cc)

pub dump_code : (n : Names) (a : Walk) (es : List Exchange) (w : List ℕ) (d : DumpEnd) (c : ℕ) → c ≢ 0 → d ≡ ends.Answer c → Dumps n a es w d → EndsWithCode es c
dump_code n _ _ _ _ c some is (dumps.last a j e did goes empty) = absurd (cc)
dump_code n _ _ _ _ c some is (dumps.page a j e es w d did goes more rest) = ends_later (e ∷ []) es c (dump_code n (dumps.after_page a j) es w d c some is rest)
dump_code n _ _ _ _ c some is (dumps.halved a e es w d did many rest) = ends_later (e ∷ []) es c (dump_code n (record a { limit = a.limit / 2 }) es w d c some is rest)
dump_code n _ _ _ _ c some is (dumps.unwritten a j e front back d did goes split unwritten) = absurd (subst (λ (x : DumpEnd). IsUnwritten x) is unwritten)
dump_code n _ _ _ _ c some is (dumps.other a j e did other) =
    let zero_is : 0 ≡ c = cc in absurd (some (sym zero_is))
dump_code n _ _ _ _ c some is (dumps.too_long a e did one) =
    let zero_is : 0 ≡ c = cc in absurd (some (sym zero_is))
dump_code n _ _ _ _ c some is (dumps.too_old a e did) = absurd (cc)
dump_code n _ _ _ _ c some is (dumps.list_fails a e r d did fails) = told_code n _ e r c [] did (list_tells c r some (subst (λ (x : DumpEnd). FailsList r x) is fails))
dump_code n _ _ _ _ c some is (dumps.unlisted a) = absurd (cc)
dump_code n _ _ _ _ c some is (dumps.unread a e asked) = absurd (cc)

not_expired : (r : Reply) → FailsList r ends.Expired → ⊥
not_expired (given j) f = f
not_expired broken f = cc
not_expired long f = f
not_expired gone f = cc
not_expired (code c) f = let same = f.1 in cc
not_expired (shape path) f = cc

pub dump_expired : (n : Names) (a : Walk) (es : List Exchange) (w : List ℕ) (d : DumpEnd) → d ≡ ends.Expired → Dumps n a es w d → EndsWithCode es expired
dump_expired n _ _ _ _ is (dumps.last a j e did goes empty) = absurd (cc)
dump_expired n _ _ _ _ is (dumps.page a j e es w d did goes more rest) = ends_later (e ∷ []) es expired (dump_expired n (dumps.after_page a j) es w d is rest)
dump_expired n _ _ _ _ is (dumps.halved a e es w d did many rest) = ends_later (e ∷ []) es expired (dump_expired n (record a { limit = a.limit / 2 }) es w d is rest)
dump_expired n _ _ _ _ is (dumps.unwritten a j e front back d did goes split unwritten) = absurd (subst (λ (x : DumpEnd). IsUnwritten x) is unwritten)
dump_expired n _ _ _ _ is (dumps.other a j e did other) = absurd (cc)
dump_expired n _ _ _ _ is (dumps.too_long a e did one) = absurd (cc)
dump_expired n _ _ _ _ is (dumps.too_old a e did) = told_code n _ e (code expired) expired [] did refl
dump_expired n _ _ _ _ is (dumps.list_fails a e r d did fails) = absurd (not_expired r (subst (λ (x : DumpEnd). FailsList r x) is fails))
dump_expired n _ _ _ _ is (dumps.unlisted a) = absurd (cc)
dump_expired n _ _ _ _ is (dumps.unread a e asked) = absurd (cc)

-- ---- a restoring

post_tells : (k i c : ℕ) (r : Reply) → c ≢ 0 → FailsPost k r (restored.Answer i c) → Tells c r
post_tells k i c (given j) some h = absurd h
post_tells k i c broken some h = absurd (cc)
post_tells k i c long some h = absurd (some cc)
post_tells k i c gone some h = cc
post_tells k i c (code d) some h = let e = h.1 in cc
post_tells k i c (shape path) some h = absurd (some cc)

pub restore_code : (n : Names) (t : restores.Counts) (bytes : List ℕ) (es : List Exchange) (d : RestoreEnd) (i c : ℕ) → c ≢ 0 → d ≡ restored.Answer i c → Restores n t bytes es d → EndsWithCode es c
restore_code n _ _ _ _ i c some is (restores.done t) = absurd (cc)
restore_code n _ _ _ _ i c some is (restores.created t line rest j k e es d few is_line says did more) =
    ends_later (e ∷ []) es c (restore_code n (record t { created = t.created + 1 }) rest es d i c some is more)
restore_code n _ _ _ _ i c some is (restores.present t line rest j e es d few is_line says did more) =
    ends_later (e ∷ []) es c (restore_code n (record t { present = t.present + 1 }) rest es d i c some is more)
restore_code n _ _ _ _ i c some is (restores.fails t line rest j e r d few is_line says did fails) =
    told_code n _ e r c [] did (post_tells (next_line t) i c r some (subst (λ (x : RestoreEnd). FailsPost (next_line t) r x) is fails))
restore_code n _ _ _ _ i c some is (restores.bad t line rest few is_line unsaid) = absurd (cc)
restore_code n _ _ _ _ i c some is (restores.too_long t front rest few inside past) = absurd (cc)
restore_code n _ _ _ _ i c some is (restores.cut t front few more is_line) = absurd (cc)
restore_code n _ _ _ _ i c some is (restores.too_many t rest many more) = absurd (cc)
restore_code n _ _ _ _ i c some is (restores.unread t rest) = absurd (cc)
restore_code n _ _ _ _ i c some is (restores.starved t rest) = absurd (cc)
restore_code n _ _ _ _ i c some is (restores.unknown t line rest j e few is_line says asked) = absurd (cc)
