use Rattle.std.proofs.lemmas.Result.{err_from_is_err_and}
use Rattle.std.proofs.Common.{Option, List, ℕ, subst}
use Rattle.edge_io.specs.Causes.{Rose}
use Rattle.kubeconv_cmd.specs.Sources.{IsTaken}
use Rattle.kubeconv_cmd.proofs.Taking.{crd_unfit, loaded_so, rose_since, rose_until, rules_unfit_so, unloaded}
use Rattle.kubeconv_cmd.proofs.loading.load_files.Goals as goal

pub returns-in_err-crd_text-clause-stops : goal.returns-in_err-crd_text-clause-stops
returns-in_err-crd_text-clause-stops g c =
    let p = err_from_is_err_and c.from_residual.result c.from_residual.ensures.1 in
    rw (p.1, p.2) (crd_unfit (Rose (g.F.Files.faults c.args.files.now) (g.F.Files.faults c.read_text.new.files)) (g.F.Files.file c.args.files.now) c.args.crd.now c.args.rules.now
    c.in_err-crd_text.field-0.0 c.in_err-crd_text.ensures.stops)

pub returns-in_err-rules_text-clause-stops : goal.returns-in_err-rules_text-clause-stops
returns-in_err-rules_text-clause-stops g c =
    let p = err_from_is_err_and c.from_residual-in_err-rules_text.result c.from_residual-in_err-rules_text.ensures.1 in
    rw (p.1, p.2) (rules_unfit_so (Rose (g.F.Files.faults c.read_text.new.files) (g.F.Files.faults c.read_text-2.new.files)) (Rose (g.F.Files.faults c.args.files.now) (g.F.Files.faults c.read_text-2.new.files))
    (g.F.Files.file c.args.files.now) (g.F.Files.file c.read_text.new.files c.args.rules.now) c.args.crd.now c.args.rules.now c.in_ok-crd_text.crd_text.bytes c.in_err-rules_text.field-0.0
    (rose_since _ _ _ c.in_ok-crd_text.ensures.later) (c.in_ok-crd_text.ensures.kept c.args.rules.now) c.in_ok-crd_text.ensures.text c.in_err-rules_text.ensures.stops)

pub returns-clause-loaded : goal.returns-clause-loaded
returns-clause-loaded g c =
    loaded_so (g.F.Files.file c.args.files.now) c.args.crd.now c.args.rules.now c.in_ok-crd_text.crd_text.bytes c.in_ok-rules_text.rules_text.bytes c.as_str.result.now c.as_str-2.result.now c.load_texts.result
    c.as_str.ensures c.as_str-2.ensures c.in_ok-crd_text.ensures.text
    (subst (λ (o : Option (List ℕ)). IsTaken o c.in_ok-rules_text.rules_text.bytes) (c.in_ok-crd_text.ensures.kept c.args.rules.now) c.in_ok-rules_text.ensures.text)
    c.load_texts.ensures.loaded

pub returns-clause-stops : goal.returns-clause-stops
returns-clause-stops g c =
    unloaded (Rose (g.F.Files.faults c.args.files.now) (g.F.Files.faults c.read_text-2.new.files)) (g.F.Files.file c.args.files.now) c.args.crd.now c.args.rules.now
    c.in_ok-crd_text.crd_text.bytes c.in_ok-rules_text.rules_text.bytes c.as_str.result.now c.as_str-2.result.now c.load_texts.result
    c.as_str.ensures c.as_str-2.ensures c.in_ok-crd_text.ensures.text
    (subst (λ (o : Option (List ℕ)). IsTaken o c.in_ok-rules_text.rules_text.bytes) (c.in_ok-crd_text.ensures.kept c.args.rules.now) c.in_ok-rules_text.ensures.text)
    c.load_texts.ensures.stops
