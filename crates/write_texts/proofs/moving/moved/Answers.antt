use Rattle.std.proofs.Common.{◌*◌, ◌≤◌, List, ℕ, length, arith, ap, sym, subst, ◌∙◌}
use Rattle.kube_meta.specs.View.{ObjectView}
use Rattle.api_calls.specs.Meaning.{Weighs}
use Rattle.api_calls.specs.Versions.{IsStored}
use Rattle.write_texts.proofs.moving.moved.Goals as goal

pub within-requires : goal.within-requires
within-requires g c =
    let it = c.args.lent.now.versions.now in
    let m = g.V.Versions.meaning it in
    let was = c.requires.stored in
    let text = c.in_ok-bytes.ensures.text in
    let read : IsStored (g.V.Versions.meaning it) c.args.seen.at text.0 c.args.seen.bytes.bytes =
    subst (λ (b : List ℕ). IsStored (g.V.Versions.meaning it) c.args.seen.at text.0 b) (c.as_bytes.ensures.value ∙ c.as_str.ensures) text.1 in
    record {
      known = λ honest. (
        (let some = c.one_weight.ensures.something it was.0 c.args.seen.weight (was.2 honest).0 in λ none. omega (arith, some, none)),
        subst (λ (b : List ℕ). length b ≤ 256 * c.args.seen.weight) (sym text.2.spelled)
            (c.stored_fits.ensures.hub it c.args.target c.args.seen.weight (was.2 honest).1 text.0 text.2.form honest text.2.whole text.2.known text.2.pairs
            (subst (λ (h : ObjectView). Weighs m h c.args.seen.weight) (c.one_stored.ensures it c.args.seen.at was.0 text.0 c.args.seen.bytes.bytes honest was.1 read) (was.2 honest).0)
            (ap (λ (h : ObjectView). h.meta.generation) (c.one_stored.ensures it c.args.seen.at text.0 was.0 c.args.seen.bytes.bytes honest read was.1) ∙ (was.2 honest).2)),
      );
    }

pub returns-clause-text : goal.returns-clause-text
returns-clause-text g c = λ h stored.
    let it = c.args.lent.now.versions.now in
    let text = c.in_ok-bytes.ensures.text in
    let read : IsStored (g.V.Versions.meaning it) c.args.seen.at text.0 c.args.seen.bytes.bytes =
    subst (λ (b : List ℕ). IsStored (g.V.Versions.meaning it) c.args.seen.at text.0 b) (c.as_bytes.ensures.value ∙ c.as_str.ensures) text.1 in
    record {
      value = text.0;
      stored = text.2;
      same = λ honest. c.one_stored.ensures it c.args.seen.at text.0 h c.args.seen.bytes.bytes (sym (g.met.V.Versions.told it) ∙ honest) read stored;
    }
