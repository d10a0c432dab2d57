use Rattle.std.proofs.Common.{◌≤◌, ◌∙◌, ap, sym, subst}
use Rattle.kj_value.specs.Json.{depth}
use Rattle.kj_value.specs.declared.reading.TheConstants.{MAX_JSON_LEVELS}
use Rattle.crd_reading.specs.View.{DefinitionView}
use Rattle.crd_meaning.specs.Definition.{Definition}
use Rattle.hook_versions.proofs.Loaded.{lacks}
use Rattle.hook_versions.proofs.SpecDepth.{spec_within}
use Rattle.hook_versions.proofs.loading.load_hook.Goals as goal

pub of-requires : goal.of-requires
of-requires g c =
    subst (λ (v : DefinitionView). depth v.spec ≤ MAX_JSON_LEVELS) (sym (c.definition.ensures ∙ ap (λ (d : Definition). d.view) c.new-all.ensures))
    (spec_within c.reading_depth.ensures.depth c.args.crd.now c.in-Ok.definition c.in-Ok.ensures.loaded)

pub returns-in_default-clause-refused : goal.returns-in_default-clause-refused
returns-in_default-clause-refused g c =
    lacks c.args.crd.now c.args.hub.now c.in-Ok.definition c.in-Ok.ensures.loaded c.new-all.result c.no_hub.result c.new-all.ensures c.in_default.ensures c.no_hub.ensures
