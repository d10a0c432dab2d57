use Rattle.std.proofs.Common.{refl, sym, ◌∙◌, arith}
use Rattle.kube_meta.specs.View.{object_of}
use Rattle.write_texts.proofs.Preparing.{text_within}
use Rattle.write_texts.proofs.prepare.prepare_write.Goals as goal

pub within-requires : goal.within-requires
within-requires g c =
    let it = c.args.lent.now.versions.now in record {
      known = λ honest.
          let there = g.met.V.Versions.told it ∙ honest in
          let counts = c.requires.counts there in
          let some = c.one_weight.ensures.something it (object_of c.args.hub.now) c.args.weight (c.requires.weighs there) in (
            (λ none. omega (arith, some, none)),
            text_within (g.V.Versions.meaning it) c.args.storage c.args.weight counts.0 (object_of c.args.hub.now) c.in_ok-bytes.bytes.bytes
                (λ v w n h x is known pairs weighs counted. c.stored_fits.ensures.hub it v w n h x honest is known pairs weighs counted)
                counts.1 (c.requires.weighs there) c.in_ok-bytes.ensures.stored,
          );
    }

pub returns-clause-ready : goal.returns-clause-ready
returns-clause-ready g c =
    let h = object_of c.args.hub.now in
    record {
      sized = record { weighed = c.in_ok-within.ensures.within.0; within = c.in_ok-within.ensures.within.1 };
      at = refl;
      key = c.in_ok-key.ensures;
      weight = refl;
      prepares = record {
        value = λ honest. record { whole = c.requires.whole; key = c.requires.key honest ∙ sym c.in_ok-key.ensures; weighs = c.requires.weighs honest };
        text = record { value = h; stored = c.in_ok-bytes.ensures.stored; same = λ honest. refl };
      };
      seals = c.in_ok-bytes.ensures.seals;
    }
