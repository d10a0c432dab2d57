use Rattle.std.proofs.Common.{◌≡◌, ◌∙◌, true, false, ap, sym}
use Rattle.std.specs.Prelude.{codes}
use Rattle.kj_value.specs.Seen.{json}
use Rattle.write_texts.proofs.ServedBodies.{unset-of}
use Rattle.write_texts.proofs.options.asks_nothing.Goals as goal

pub returns-then-is_unset : goal.returns-then-is_unset
returns-then-is_unset c = (
  (λ is. record {
    fields = c.in-Obj.fields;
    is = ap json c.in-Obj.is;
    preconditions = c.is_unset.ensures.0 c.if-is_unset.true;
    dry_run = c.is_unset-then-is_unset.ensures.0 is;
  }),
  (λ h. c.is_unset-then-is_unset.ensures.1 (unset-of (codes "dryRun") (json c.args.document.now) c.in-Obj.fields h (ap json c.in-Obj.is) h.dry_run)),
)

pub returns-else-is_unset : goal.returns-else-is_unset
returns-else-is_unset c = (
  (λ is. let both : true ≡ false = sym is ∙ c.if-is_unset.false in cc),
  (λ h. c.is_unset.ensures.1 (unset-of (codes "preconditions") (json c.args.document.now) c.in-Obj.fields h (ap json c.in-Obj.is) h.preconditions)),
)
