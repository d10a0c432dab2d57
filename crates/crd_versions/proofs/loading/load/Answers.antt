use Rattle.std.proofs.Common.{◌≤◌, ◌∙◌, subst, sym}
use Rattle.kj_value.specs.Json.{depth}
use Rattle.kj_value.specs.declared.reading.TheConstants.{MAX_JSON_LEVELS}
use Rattle.crd_reading.specs.View.{DefinitionView}
use Rattle.crd_settings.specs.Pieces.{AreItsPieces}
use Rattle.crd_versions.proofs.Loaded.{spelled_by}
use Rattle.crd_versions.proofs.SpecDepth.{spec_within}
use Rattle.crd_versions.proofs.loading.load.Goals as goal

pub of-requires : goal.of-requires
of-requires c =
    let its = spelled_by c.args.crd.now c.args.rules.now c.in_ok-set.set c.in_ok-set.ensures.loaded in
    subst (λ (d : DefinitionView). depth d.spec ≤ MAX_JSON_LEVELS) (its.2 ∙ sym c.definition.ensures.value)
    (spec_within c.reading_depth.ensures.depth c.args.crd.now its.0 its.1)

pub new-requires : goal.new-requires
new-requires c = subst (λ (d : DefinitionView). AreItsPieces d c.in_ok-pieces.pieces) c.definition.ensures.value c.in_ok-pieces.ensures
