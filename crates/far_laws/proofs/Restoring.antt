-- A restoring beside which nothing else was entered entered one create for each line.
use Rattle.std.proofs.Common.{◌≡◌, ◌∙◌, refl, sym, ap, subst, ℕ, ◌+◌, ◌≤◌, Bool, ◌&&◌, List, [], ◌∷◌, ◌++◌, length, append_assoc, append-nil, length-append, arith}
use Rattle.std.specs.Prelude.{IsTrue}
use Rattle.kj_value.specs.Json.{Json}
use Rattle.kube_meta.specs.Names.{is_name, is_namespace}
use Rattle.edge_io.specs.Exchanges.{Exchange}
use Rattle.api_calls.specs.Item.{Create, Item, entry}
use Rattle.api_calls.specs.Legal.{legal}
use Rattle.api_calls.specs.Versions.{KeepsKey, Stand}
use Rattle.api_calls.specs.laws.GrowthLaws.{legal-front}
use Rattle.request_replies.specs.Replies.{Front}
use Rattle.place.specs.Place.{Names}
use Rattle.far_migrate.specs.Answered.{Did}
use Rattle.wire_client.specs.Answers.{given}
use Rattle.wire_client.specs.Far.{Chain, Serves}
use Rattle.wire_client.specs.Forms.{api_version, fields_of, has_version}
use Rattle.record_dump.specs.Restores.{Says, post_of}
use Rattle.record_dump.specs.Told as told
use Rattle.record_dump.specs.Told.{IsPosted, Posts}
use Rattle.far_laws.specs.Answering.{GoesOn}
use Rattle.far_laws.proofs.PageForms.{OneReading, TextReads, json_key}
use Rattle.far_laws.specs.Speaking.{AreNames, speaker}
use Rattle.far_laws.specs.Restored.{AreCreated, IsRestored, Restoring, line, none}
use Rattle.far_laws.proofs.Posting.{IsCreate, first_true, post_creates, second_true}
use Rattle.far_laws.proofs.Histories.{answered_at, chain_on, turned}

pub append_none : (log more : List Item) → length (log ++ more) ≡ length log → more ≡ []
append_none log [] same = refl
append_none log (i ∷ more) same = let long = length-append log (i ∷ more) in absurd (omega (arith, long, same))

grows : (log next : List Item) → GoesOn log next → length log ≤ length next
grows log next on =
    let long = length-append log on.0 in
    let same : length next ≡ length (log ++ on.0) = ap (λ (l : List Item). length l) on.1 in
    omega (arith, long, same)

module _ (f : Front) (n : Names) (names : AreNames n) (text_reads : TextReads) (one_reading : OneReading) (stand : Stand f.server.meaning) (keeps : KeepsKey f.server.meaning)
    (honest : IsTrue f.server.meaning.honest) (last : List Item) (all_legal : legal f.server.meaning f.server.limits last) where
  legal_at : (log : List Item) → GoesOn log last → legal f.server.meaning f.server.limits log
  legal_at log p = legal-front f.server.meaning f.server.limits log p.0 (subst (λ (l : List Item). legal f.server.meaning f.server.limits l) p.1 all_legal)

  -- where a post entered its create
  record Entered (log : List Item) (j : Json) (mid : List Item) : Type 0 where
    others : List Item
    own : List Item
    create : IsCreate f.server.meaning n j own
    mid_is : mid ≡ (log ++ others) ++ own

  entered : (text : List ℕ) (j k : Json) (log mid : List Item) (e : Exchange) → Says n text j → Did n (post_of j) e (given k) → Serves (speaker f) log e.request e.answer mid → GoesOn mid last
      → Entered log j mid
  entered text j k log mid e says did serves on =
      let g = answered_at (speaker f) n (post_of j) log (given k) mid e did tt serves in
      let versioned : Bool = has_version (api_version n) (fields_of j) in
      let space : Bool = is_namespace (json_key j).ns in
      let name : Bool = is_name (json_key j).name in
      let to : GoesOn (g.at ++ g.own) last = subst (λ (l : List Item). GoesOn l last) g.mid_is on in
      let here : g.at ≡ log ++ g.on.0 = g.on.1 in
      record {
        others = g.on.0;
        own = g.own;
        create = post_creates f n names text_reads one_reading stand keeps j k g.at g.own (second_true versioned space (first_true (versioned && space) name says.object))
            (second_true (versioned && space) name says.object) honest (legal_at (g.at ++ g.own) to) g.answered;
        mid_is = g.mid_is ∙ ap (λ (l : List Item). l ++ g.own) here;
      }

  mid_long : (log : List Item) (j : Json) (mid : List Item) → (x : Entered log j mid) → length mid ≡ length log + length x.others + 1
  mid_long log j mid x =
      let create = x.create in
      let whole : length mid ≡ length ((log ++ x.others) ++ x.own) = ap (λ (l : List Item). length l) x.mid_is in
      let parts = length-append (log ++ x.others) x.own in
      let front = length-append log x.others in
      let one : length x.own ≡ 1 = ap (λ (l : List Item). length l) create.own_is in
      omega (arith, whole, parts, front, one)

  at_least : (lines : List (List ℕ)) (es : List Exchange) (c p : ℕ) (log : List Item) → Posts n lines es c p → p ≡ 0 → Chain (speaker f) log es last → length log + c ≤ length last
  at_least _ _ _ _ log told.none zero chain = let long = grows log last (chain_on (speaker f) log [] last chain) in omega (arith, long)
  at_least _ _ _ _ log (told.created text lines j k e es c p fits says did rest) zero chain =
      let t = turned (speaker f) log e es last chain in
      let x = entered text j k log t.mid e says did t.serves (chain_on (speaker f) t.mid es last t.rest) in
      let more = at_least lines es c p t.mid rest zero t.rest in
      let long = mid_long log j t.mid x in
      omega (arith, more, long)
  at_least _ _ _ _ log (told.present text lines j e es c p fits says did rest) zero chain = absurd (omega (arith, zero))

  -- all items from there on are the creates of these lines
  record AllCreated (log : List Item) (lines : List (List ℕ)) : Type 0 where
    items : List Item
    all : last ≡ log ++ items
    created : AreCreated f.server.meaning n lines items

  all_created : (lines : List (List ℕ)) (es : List Exchange) (c p : ℕ) (log : List Item) → Posts n lines es c p → p ≡ 0 → Chain (speaker f) log es last → length last ≡ length log + c → AllCreated log lines
  all_created _ _ _ _ log told.none zero chain same =
      let on = chain_on (speaker f) log [] last chain in
      let nothing : on.0 ≡ [] = append_none log on.0 (ap (λ (l : List Item). length l) (sym on.1) ∙ same ∙ omega arith) in
      record { items = []; all = on.1 ∙ ap (λ (l : List Item). log ++ l) nothing; created = none }
  all_created _ _ _ _ log (told.created text lines j k e es c p fits says did rest) zero chain same =
      let t = turned (speaker f) log e es last chain in
      let x = entered text j k log t.mid e says did t.serves (chain_on (speaker f) t.mid es last t.rest) in
      let create = x.create in
      let long = mid_long log j t.mid x in
      let more = at_least lines es c p t.mid rest zero t.rest in
      let nobody : length (log ++ x.others) ≡ length log = let parts = length-append log x.others in omega (arith, parts, long, more, same) in
      let later = all_created lines es c p t.mid rest zero t.rest (omega (arith, long, more, same)) in
      let others : x.others ≡ [] = append_none log x.others nobody in
      let mid : t.mid ≡ log ++ x.own = x.mid_is ∙ ap (λ (l : List Item). (log ++ l) ++ x.own) others ∙ ap (λ (l : List Item). l ++ x.own) (append-nil log) in
      record {
        items = entry (Create (json_key j) create.h create.w) ∷ later.items;
        all = later.all ∙ ap (λ (l : List Item). l ++ later.items) mid ∙ append_assoc log x.own later.items ∙ ap (λ (l : List Item). log ++ (l ++ later.items)) create.own_is;
        created = line text lines j create.h create.w later.items fits says create.stored later.created;
      }
  all_created _ _ _ _ log (told.present text lines j e es c p fits says did rest) zero chain same = absurd (omega (arith, zero))

  pub restored : (first : List Item) (bytes : List ℕ) → Restoring f n first last bytes → IsRestored f.server.meaning n first last bytes
  restored first bytes r =
      let posted = r.posted in
      let all = all_created posted.lines r.exchanges r.created 0 first posted.posts refl r.chain r.alone in
      record { lines = posted.lines; input = posted.input; items = all.items; entered = all.all; created = all.created }
