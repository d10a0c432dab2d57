use Rattle.std.proofs.Common.{◌≡◌, ◌⊎◌, ◌<◌, refl, sym, subst, ◌∙◌}
use Rattle.std.proofs.lemmas.Result.{err_from_is_err_and}
use Rattle.std.specs.Prelude.{List, ℕ}
use Rattle.kube_meta.specs.View.{object_of}
use Rattle.api_calls.specs.Refusal.{no_memory, refusal_of}
use Rattle.api_calls.specs.Replies.{finalizer_added}
use Rattle.write_texts.proofs.Overs.{forbids-refuses}
use Rattle.write_texts.proofs.change.changing.Goals as goal

pub returns-in_err-seen-clause-refuses : goal.returns-in_err-seen-clause-refuses
returns-in_err-seen-clause-refuses g c =
    let p = err_from_is_err_and c.from_residual.result c.from_residual.ensures.1 in
    rw (p.1, p.2) (c.in-Some.over, c.in-Some.is, c.in_err-seen.ensures.refuses)

pub returns-then-forbidden-clause-refuses : goal.returns-then-forbidden-clause-refuses
returns-then-forbidden-clause-refuses g c =
    let m = g.V.Versions.meaning c.args.lent.now.versions.now in
    let made = c.in_ok-seen.ensures in (
      c.in-Some.over,
      c.in-Some.is,
      forbids-refuses m (g.V.Tool.Tool.faults c.args.tool.now < g.V.Tool.Tool.faults c.seen_and_updated.new.tool) c.args.key.now c.in-Some.over c.args.found c.in_ok-seen.seen (object_of c.args.admitted.hub) c.in_ok-seen.update
          (refusal_of c.no_finalizer.result.refusal) made.seen.0 made.seen.1 made.updates c.if-forbidden.true
          (subst (λ (n : List ℕ). (refusal_of c.no_finalizer.result.refusal ≡ no_memory) ⊎ (refusal_of c.no_finalizer.result.refusal ≡ finalizer_added m n)) c.name.ensures.value c.no_finalizer.ensures),
    )

pub returns-clause-changes : goal.returns-clause-changes
returns-clause-changes g c =
    let made = c.in_ok-seen.ensures in
    let u = made.updates in (
      c.in-Some.over,
      c.in-Some.is,
      record {
        seen = c.in_ok-seen.seen;
        there = made.seen.0;
        number = made.seen.1;
        old = u.old;
        stored = u.stored;
        update = u.update;
        fits = u.fits;
        equals = u.equals;
        allowed = sym u.forbidden ∙ c.if-forbidden.false;
        ends = u.ends;
        version = refl;
        weight = refl;
        numbered = refl;
        born = refl;
        at = refl;
      },
    )
