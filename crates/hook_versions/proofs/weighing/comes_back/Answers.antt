use Rattle.std.proofs.Common.{inl, inr, refl}
use Rattle.std.specs.Prelude.{option_map}
use Rattle.kube_meta.specs.View.{object_of}
use Rattle.object_reading.specs.Written.{IsWritable}
use Rattle.hook_versions.specs.Facts.{hooked}
use Rattle.hook_versions.specs.inner.Weighing.{IsOwnOf}
use Rattle.hook_versions.proofs.Backs.{own_is, back_once}
use Rattle.hook_versions.proofs.Results.{some_more}
use Rattle.hook_versions.proofs.weighing.comes_back.Goals as goal

pub is_own-requires-clause-own : goal.is_own-requires-clause-own
is_own-requires-clause-own g c =
    some_more (λ y. IsOwnOf (hooked c.args.set.now g.C.Converter.HONEST g.C.Converter.turned) (object_of c.args.h.now) (object_of y)) (λ y. IsWritable (object_of y)) c.args.own.now
    (λ y o. o.sent.writable) c.requires.own

pub returns-in-Ok-true-clause-back : goal.returns-in-Ok-true-clause-back
returns-in-Ok-true-clause-back g c = inr (refl, c.in-Ok-true.ensures.0 c.in-Ok-true.field-0-test)

pub returns-in-Ok-true-clause-turned : goal.returns-in-Ok-true-clause-turned
returns-in-Ok-true-clause-turned g c = λ honest.
    (own_is (hooked c.args.set.now g.C.Converter.HONEST g.C.Converter.turned) (object_of c.args.h.now) (object_of c.args.form.now) c.args.own.now
    (c.in-Ok-true.ensures.0 c.in-Ok-true.field-0-test) c.requires.own).turned honest

pub returns-in-Ok-false-clause-back : goal.returns-in-Ok-false-clause-back
returns-in-Ok-false-clause-back g c =
    back_once c.args.set.now (g.C.Converter.turns c.args.tool.now) (g.C.Converter.turns c.turned_back.new.tool) (object_of c.args.form.now) (object_of c.args.h.now) (option_map object_of c.args.own.now)
    c.turned_back.result (λ e. let yes = c.in-Ok-false.ensures.1 e in let no = c.in-Ok-false.field-0-test in cc) c.turned_back.ensures.back
