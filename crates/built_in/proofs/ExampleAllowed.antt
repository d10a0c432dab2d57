-- Nothing is refused of the two documents, by computing what is.
use Rattle.std.proofs.Common.{◌≡◌, None, refl}
use Rattle.kube_meta.specs.Names.{is_namespace, is_name}
use Rattle.schema_reading.specs.Words.{word as keyword, keyword_named, meta_type}
use Rattle.schema_reading.specs.Kind.{type_named}
use Rattle.crd_reading.specs.Words.{spelled, api_version, document_kind, namespaced}
use Rattle.crd_reading.specs.Allowed.{is_kind_name}
use Rattle.crd_reading.specs.Spelled.{definition_read}
use Rattle.crd_reading.specs.First.{first_refusal}
use Rattle.rule_reading.specs.Words.{word}
use Rattle.crd_loading.specs.Words.{hub_name, spokes_name}
use Rattle.crd_loading.specs.Fits.{rules_blame}
use Rattle.built_in.specs.Example.{definition_document, rules_document}

pub definition_allowed : first_refusal definition_document ≡ None
unfolding definition_document first_refusal spelled api_version document_kind namespaced is_kind_name is_name is_namespace keyword keyword_named meta_type type_named
definition_allowed = refl

pub rules_allowed : rules_blame (definition_read definition_document).versions rules_document ≡ None
unfolding definition_document rules_document rules_blame spelled keyword meta_type type_named word hub_name spokes_name
rules_allowed = refl
